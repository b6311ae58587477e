-- Every rule of the machine, opened by one name: `unfolding rules`. No rule of the paper; for what is proved by computation.
use Rattle.controller.specs.Memory.{byte_at, store_at, display_after, character_after}
use Rattle.controller.specs.Part.{waited, in_range, fresh_registers, fresh_with, switched_on}
use Rattle.counters.specs.Address.{has_display, cell_of, address_of, has_character, step_display, step_character, ends_display, ends_character, passes_display, passes_character}
use Rattle.counters.specs.Counter.{has_counter, step_of, passes_of, number_on}
use Rattle.counters.specs.Shift.{last_shift, has_shift, move_of}
use Rattle.counters.specs.Wrap.{next, previous}
use Rattle.halves.specs.Halves.{is_four, half_fits, is_first, disagrees, completed, answered}
use Rattle.instructions.specs.Instructions.{bit, decode, moved, moves_past, unless_changed, rearranged, row_of, obey}
use Rattle.step.specs.Data.{shift_after, write_data, read_data, read_status, status_of, read_of, act}
use Rattle.step.specs.Step.{first_half, second_half, on_four, on_bus, refused_busy, result_for}
use Rattle.bus.specs.Events.{told_by, after_events, said_by, waits}
use Rattle.bus.specs.Refusals.{lacks_address}
use Rattle.bus.specs.Transfer.{transfer_of, wait_of}

unfoldable counting : Unit {0}
unfolding has_display cell_of address_of has_character step_display step_character has_counter step_of number_on last_shift has_shift move_of next previous
counting = tt

unfoldable passing : Unit {0}
unfolding ends_display ends_character passes_display passes_character passes_of
passing = tt

unfoldable holding : Unit {0}
unfolding is_four half_fits is_first disagrees completed answered byte_at store_at display_after character_after waited in_range fresh_registers fresh_with switched_on
holding = tt

unfoldable obeying : Unit {0}
unfolding bit decode moved moves_past unless_changed rearranged row_of obey shift_after write_data read_data read_status status_of read_of act
obeying = tt

unfoldable answering : Unit {0}
unfolding first_half second_half on_four on_bus refused_busy result_for lacks_address transfer_of wait_of told_by after_events said_by waits
answering = tt

unfoldable pub rules : Unit {0}
unfolding counting passing holding obeying answering
rules = tt
