-- A line is put, and those of the events behind it are missing.
use Rattle.std.proofs.Common.{◌≡◌, ◌∙◌, ◌<◌, refl, arith, rules, length}
use Rattle.lent.proofs.Placed.{awaits_all}
use Rattle.table.proofs.Turns.{three_less, narrow_on, lines_turn, lines_end}
use Rattle.table.proofs.lines.put_answered.Goals as goal

pub loop-number-init : goal.loop-number-init
loop-number-init c =
    let it = c.into_iter-number-iterator.result in
    let start : it.a.a.start ≡ 1 = search rules in
    let events : it.a.b.rest.now ≡ c.args.events.now = search rules in
    let answers : it.b.rest.now ≡ c.args.answers.now = search rules in
    let long : it.a.b.size ≡ 3 = search rules in
    let wide : it.b.size ≡ 3 = search rules in
    rw (start, events, answers, long, wide)
    (refl, refl, omega arith, refl, refl, c.requires.0.whole, c.requires.0.few, c.requires.0.answered, omega arith, c.requires.0.narrow, awaits_all _ _ _)

pub put_line-next-requires : goal.put_line-next-requires
put_line-next-requires c =
    let inv = c.loop-number.invariant in
    let steps = c.in-Some.ensures.steps in
    let narrow = narrow_on _ _ _ _ _ _ steps.0.1.1.0 steps.1.1.0 (steps.0.1.1.1 ∙ inv.0) (steps.1.1.1 ∙ inv.1) inv.9 in
    let less = three_less _ _ _ _ _ _ steps.0.1.1.0 steps.1.1.0 (steps.0.1.1.1 ∙ inv.0) (steps.1.1.1 ∙ inv.1) in
    (record { four = omega (arith, steps.0.0.0); one = narrow.0; two = narrow.1; last = narrow.2 }, omega (arith, steps.0.0.0))

pub loop-number-preserved : goal.loop-number-preserved
loop-number-preserved c =
    let inv = c.loop-number.invariant in
    let steps = c.in-Some.ensures.steps in
    let narrow = narrow_on _ _ _ _ _ _ steps.0.1.1.0 steps.1.1.0 (steps.0.1.1.1 ∙ inv.0) (steps.1.1.1 ∙ inv.1) inv.9 in
    let less = three_less _ _ _ _ _ _ steps.0.1.1.0 steps.1.1.0 (steps.0.1.1.1 ∙ inv.0) (steps.1.1.1 ∙ inv.1) in
    let line = rw c.word.ensures at c.put_line-next.ensures.0 in
    let turn = lines_turn _ _ _ _ _ _ steps.0.1.1.0 steps.1.1.0 (steps.0.1.1.1 ∙ inv.0) (steps.1.1.1 ∙ inv.1) c.in-Some.number _ _ _ _ _ (rw (← steps.0.0.0) at inv.10) (omega arith) _ _ line in (
      steps.0.1.0 ∙ inv.0,
      steps.1.0 ∙ inv.1,
      omega (arith, steps.0.0.1),
      omega (arith, steps.0.0.0, steps.0.0.1),
      omega arith,
      inv.5,
      inv.6,
      omega arith,
      omega (arith, steps.0.0.0, steps.0.0.1),
      narrow.3,
      rw steps.0.0.1 turn,
    )

pub returns : goal.returns
returns c =
    let inv = c.loop-number.invariant in
    let few : length c.loop-number.number-iterator.a.b.rest.now < 3 = omega (arith, c.in-None.ensures.steps) in
    lines_end _ _ _ _ _ _ _ _ few inv.10
