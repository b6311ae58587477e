-- Events one behind the other: what they lead to, that none is refused, whether one passes an end, and what holds of display memory all along.
use Prim.Native.Nat.{ℕ, zero, suc}
use lib.Dec.{eqb}
use lib.ListN.{take}
use mathlib.Core.Bool.{Bool, ◌||◌, or_assoc}
use mathlib.Core.List.{List, [], ◌∷◌, ◌++◌}
use mathlib.Core.Path.{◌≡◌, ◌∙◌, ap, ap₂, refl, subst, subst⁻¹}
use Rattle.bedside.specs.Panel.{any_wrap}
use Rattle.bus.specs.Events.{told_by, after_events, said_by}
use Rattle.controller.specs.Answers.{Said}
use Rattle.controller.specs.declared.Controller.{Controller}
use Rattle.event.specs.declared.Event.{Event}
use Rattle.run.proofs.Behind.{after_append}
use Rattle.usage_log.specs.Words.{NoneRefused}

abbrev pub not_refused : Said → Bool
not_refused said = eqb said.number 0 || eqb said.number 20

-- P holds of display memory before, between and behind the events
unfoldable pub Along : (P : List ℕ → Type 0) → List Event → Controller → Type 0
Along P [] c = P c.display
Along P (event ∷ events) c = P c.display × Along P events (told_by event c).controller

-- so it does wherever they are cut
pub cut_along : (P : List ℕ → Type 0) (events : List Event) (c : Controller) → Along P events c → (cut : ℕ) → P (after_events (take cut events) c).display
unfolding Along after_events
cut_along P [] c along zero = along
cut_along P [] c along (suc cut) = along
cut_along P (event ∷ events) c along zero = along.0
cut_along P (event ∷ events) c along (suc cut) = cut_along P events (told_by event c).controller along.1 cut

none_append : (first second : List Event) (c : Controller) → NoneRefused (said_by first c) → NoneRefused (said_by second (after_events first c)) → NoneRefused (said_by (first ++ second) c)
unfolding NoneRefused said_by after_events
none_append [] second c p q = q
none_append (event ∷ first) second c p q = (p.0, none_append first second (told_by event c).controller p.1 q)

wraps_append : (first second : List Event) (c : Controller) → any_wrap (said_by (first ++ second) c) ≡ (any_wrap (said_by first c) || any_wrap (said_by second (after_events first c)))
unfolding any_wrap said_by after_events
wraps_append [] second c = refl
wraps_append (event ∷ first) second c = rw (or_assoc, wraps_append first second (told_by event c).controller) refl

pub along_append : (P : List ℕ → Type 0) (first second : List Event) (c : Controller) → Along P first c → Along P second (after_events first c) → Along P (first ++ second) c
unfolding Along after_events
along_append P [] second c p q = q
along_append P (event ∷ first) second c p q = (p.0, along_append P first second (told_by event c).controller p.1 q)

-- ---- events that lead from one controller to another

-- none of them is refused, and whether one passes an end is known
pub record Comes (events : List Event) (c after : Controller) (wrap : Bool) : Type 0 where
  pub leaves : after_events events c ≡ after
  pub none_refused : NoneRefused (said_by events c)
  pub wraps : any_wrap (said_by events c) ≡ wrap

pub comes_then : {first second : List Event} {c mid after : Controller} {w v : Bool} → Comes first c mid w → Comes second mid after v → Comes (first ++ second) c after (w || v)
comes_then {first} {second} {c} p q = record {
  leaves = after_append first second c ∙ ap (after_events second) p.leaves ∙ q.leaves;
  none_refused = none_append first second c p.none_refused (subst⁻¹ (λ (x : Controller). NoneRefused (said_by second x)) p.leaves q.none_refused);
  wraps = wraps_append first second c ∙ ap₂ ◌||◌ p.wraps (ap (λ (x : Controller). any_wrap (said_by second x)) p.leaves ∙ q.wraps);
}

-- and all along display memory is the one before or the one behind
pub record Leads (events : List Event) (c after : Controller) (wrap : Bool) : Type 1 where
  pub comes : Comes events c after wrap
  pub along : (P : List ℕ → Type 0) → P c.display → P after.display → Along P events c

-- two behind each other: P holds between them too
pub along_then : {first second : List Event} {c mid after : Controller} {w v : Bool} → Leads first c mid w → Leads second mid after v
    → (P : List ℕ → Type 0) → P c.display → P mid.display → P after.display → Along P (first ++ second) c
along_then {first} {second} {c} p q P a b d = along_append P first second c (p.along P a b) (subst⁻¹ (Along P second) p.comes.leaves (q.along P b d))

-- where the first leaves display memory as it was
pub leads_then : {first second : List Event} {c mid after : Controller} {w v : Bool} → Leads first c mid w → Leads second mid after v → c.display ≡ mid.display
    → Leads (first ++ second) c after (w || v)
leads_then p q e = record { comes = comes_then p.comes q.comes; along = λ P a d. along_then p q P a (subst P e a) d }
