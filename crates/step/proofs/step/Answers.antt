-- A first half, halves that disagree, or a byte completed: each way by its law.
use Rattle.std.proofs.Common.{◌∙◌, sym}
use Rattle.controller.specs.Part.{with}
use Rattle.step.proofs.Joined.{first_steps, disagree_steps, act_steps}
use Rattle.step.proofs.step.Goals as goal

pub returns-then-is_first : goal.returns-then-is_first
returns-then-is_first c =
    first_steps (with c.args.display.now c.args.character.now c.args.registers) c.args.kind c.args.value c.requires.1
    (sym c.is_first.ensures ∙ c.if-is_first.true) c.of.ensures c.upper_read.ensures

pub returns-then-not-disagrees : goal.returns-then-not-disagrees
returns-then-not-disagrees c =
    act_steps (with c.args.display.now c.args.character.now c.args.registers) c.args.kind c.args.value c.requires.1
    (sym c.is_first.ensures ∙ c.if-is_first.false)
    (sym c.disagrees.ensures ∙ c.if-not-disagrees.true)
    c.completed-byte.ensures
    c.act-effect.ensures

pub returns-else-not-disagrees : goal.returns-else-not-disagrees
returns-else-not-disagrees c =
    disagree_steps (with c.args.display.now c.args.character.now c.args.registers) c.args.kind c.args.value c.requires.1
    (sym c.disagrees.ensures ∙ c.if-not-disagrees.false)
