-- Each arm by the law of its kind.
use Rattle.controller.specs.Part.{with}
use Rattle.step.proofs.Acting.{instruction_acts, write_acts, status_acts, read_acts}
use Rattle.step.proofs.act.Goals as goal

pub returns-in-InstructionWrite : goal.returns-in-InstructionWrite
returns-in-InstructionWrite c =
    instruction_acts (with c.args.display.now c.args.character.now c.args.registers) c.args.byte c.obey-effect.result c.in-InstructionWrite.is c.clear.ensures (rw c.decode.ensures at c.obey-effect.ensures)

pub returns-in-DataWrite : goal.returns-in-DataWrite
returns-in-DataWrite c =
    write_acts (with c.args.display.now c.args.character.now c.args.registers) c.args.byte c.requires.1 c.in-DataWrite.is c.store.ensures (rw c.shift_after.ensures at c.stepped_to-effect.ensures)

pub returns-in-StatusRead : goal.returns-in-StatusRead
returns-in-StatusRead c =
    status_acts (with c.args.display.now c.args.character.now c.args.registers) c.args.byte c.requires.1 c.in-StatusRead.is (rw (c.answered.ensures, c.status.ensures))

pub returns-in-DataRead : goal.returns-in-DataRead
returns-in-DataRead c =
    read_acts (with c.args.display.now c.args.character.now c.args.registers) c.args.byte c.requires.1 c.in-DataRead.is (rw (c.answered-in-DataRead.ensures, c.addressed-read.ensures)) c.stepped_to-effect-in-DataRead.ensures
