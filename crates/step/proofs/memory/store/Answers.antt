-- By the memory that the counter belongs to.
use Rattle.step.proofs.Stored.{cell_stored, character_stored}
use Rattle.step.proofs.memory.store.Goals as goal

pub returns-in-Display : goal.returns-in-Display
returns-in-Display c = cell_stored _ _ _ _ c.in-Display.is c.cell.ensures

pub returns-in-Character : goal.returns-in-Character
returns-in-Character c = character_stored _ _ _ _ c.in-Character.is
