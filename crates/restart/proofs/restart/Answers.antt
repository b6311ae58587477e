-- A turn of the loop gives one write more, the last the whole restart.
use Rattle.std.proofs.Common.{◌≡◌, ◌∙◌, false, rules, sym, ap, length, ◌∷◌, ◌⊎◌}
use Rattle.std.specs.Prelude.{Ok}
use Rattle.bus.specs.Transfer.{told}
use Rattle.controller.specs.declared.Controller.{Controller}
use Rattle.controller.specs.declared.answer.Reply.{Reply}
use Rattle.restart.specs.Writes.{halves, after, patient, restart_of}
use Rattle.restart.proofs.Firsts.{low, small_halves, all_to_come, first_small, first_given, none_to_come}
use Rattle.restart.proofs.restart.Goals as goal

pub loop-upper-init : goal.loop-upper-init
loop-upper-init c =
    let uppers : c.into_iter-upper-iterator.result.a.rest.now ≡ halves = search rules in
    let lowers : c.into_iter-upper-iterator.result.b.rest.now ≡ c.args.lower = search rules in
    let long : length c.args.lower ≡ 12 = search rules in
    (rw uppers small_halves, all_to_come _ _ _ _ uppers lowers long, sym c.in_range.ensures ∙ c.if-not-in_range.false)

pub write-after-requires : goal.write-after-requires
write-after-requires c =
    let upper : c.loop-upper.upper-iterator.a.rest.now ≡ c.in-Some.upper.now ∷ c.next.new.self.a.rest.now = search rules in
    ((first_small c.args.controller _ c.args.lower _ _ upper c.loop-upper.invariant.0).0, c.loop-upper.invariant.2)

pub loop-upper-preserved : goal.loop-upper-preserved
loop-upper-preserved c =
    let upper : c.loop-upper.upper-iterator.a.rest.now ≡ c.in-Some.upper.now ∷ c.next.new.self.a.rest.now = search rules in
    let lower : c.loop-upper.upper-iterator.b.rest.now ≡ c.in-Some.lower.now ∷ c.next.new.self.b.rest.now = search rules in (
      (first_small c.args.controller _ c.args.lower _ _ upper c.loop-upper.invariant.0).1,
      ap (λ (x : Controller). after c.next.new.self.a.rest.now (patient (low c.next.new.self.b.rest.now)) x) c.write-after.ensures.0 ∙ sym (first_given _ _ _ _ _ _ _ upper lower) ∙ c.loop-upper.invariant.1,
      c.write-after.ensures.1,
    )

pub returns : goal.returns
unfolding restart_of
returns c =
    let ended : (length c.loop-upper.upper-iterator.a.rest.now ≡ 0) ⊎ (length c.loop-upper.upper-iterator.b.rest.now ≡ 0) = search rules in
    rw (← c.in_range.ensures, c.if-not-in_range.false)
    (ap (λ (x : Controller). told (record { controller = x; answer = Ok (Reply.Done 0); wrap = false })) (sym (none_to_come _ _ _ ended) ∙ c.loop-upper.invariant.1))
