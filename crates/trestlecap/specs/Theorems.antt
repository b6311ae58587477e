-- What is proved of the calls from C beside the promises.
use Rattle.std.specs.Prelude.{ℕ, Float, length, List, ◌≡◌}
use Rattle.calls.specs.declared.Call.{Call}
use Rattle.controller.specs.declared.Controller.{Controller}
use Rattle.list.specs.List.{left_for, Listing}
use Rattle.state.specs.State.{put_of}
use Rattle.state.specs.Theorems.{Held}
use Rattle.voltages.specs.declared.Bias.{Bias}
use Rattle.trestlecap.specs.Called.{SwitchingOn, RunningList, Restarting, MakingCall, LookingUp, Picturing, Driving, MendingRecord}

-- ---- the list from C

-- for bytes that are put of a controller in range it is `run_list` on that controller, which is put back; for all others 16, and nothing moved
abbrev pub ListFromC : Type 0
ListFromC =
    (state events answers : List ℕ) (r : ℕ) (left out : List ℕ) → RunningList state events answers r left out
    → ((c : Controller) → Held state c → (left ≡ put_of (left_for c events (length answers))) × Listing c events answers r (left_for c events (length answers)) out)
    × (((c : Controller) → Held state c → ⊥) → (r ≡ 16) × (left ≡ state) × (out ≡ answers))

-- ---- a refused call writes nothing

abbrev pub RefusedListWritesNothing : Type 0
RefusedListWritesNothing =
    (state events answers : List ℕ) (r : ℕ) (left out : List ℕ) → RunningList state events answers r left out → (r ≡ 0 → ⊥) → (left ≡ state) × (out ≡ answers)

abbrev pub RefusedRestartWritesNothing : Type 0
RefusedRestartWritesNothing = (state : List ℕ) (r : ℕ) (left : List ℕ) → Restarting state r left → (r ≡ 0 → ⊥) → left ≡ state

abbrev pub RefusedCallWritesNothing : Type 0
RefusedCallWritesNothing =
    (state : List ℕ) (call : Call) (characters : List ℕ) (wrap r : ℕ) (left : List ℕ) (wrap' : ℕ) → MakingCall state call characters wrap r left wrap' → (r ≡ 0 → ⊥)
    → (left ≡ state) × (wrap' ≡ wrap)

-- ---- any two outcomes that a promise allows are equal

abbrev pub SwitchOnSettled : Type 0
SwitchOnSettled = (state : List ℕ) (r s : ℕ) (left left' : List ℕ) → SwitchingOn state r left → SwitchingOn state s left' → (r ≡ s) × (left ≡ left')

abbrev pub RunListSettled : Type 0
RunListSettled =
    (state events answers : List ℕ) (r s : ℕ) (left left' out out' : List ℕ) → RunningList state events answers r left out → RunningList state events answers s left' out'
    → (r ≡ s) × (left ≡ left') × (out ≡ out')

abbrev pub RestartSettled : Type 0
RestartSettled = (state : List ℕ) (r s : ℕ) (left left' : List ℕ) → Restarting state r left → Restarting state s left' → (r ≡ s) × (left ≡ left')

-- of a text and of a night logged
abbrev pub CallSettled : Type 0
CallSettled =
    (state : List ℕ) (call : Call) (characters : List ℕ) (wrap r s : ℕ) (left left' : List ℕ) (w w' : ℕ)
    → MakingCall state call characters wrap r left w → MakingCall state call characters wrap s left' w' → (r ≡ s) × (left ≡ left') × (w ≡ w')

abbrev pub LookUpSettled : Type 0
LookUpSettled =
    (state : List ℕ) (night written quarters r s w w' q q' : ℕ) → LookingUp state night written quarters r w q → LookingUp state night written quarters s w' q'
    → (r ≡ s) × (w ≡ w') × (q ≡ q')

abbrev pub PictureSettled : Type 0
PictureSettled =
    (state : List ℕ) (digits : ℕ) (rom : List ℕ) (dark : ℕ) (out : List ℕ) (r s : ℕ) (left left' : List ℕ) → Picturing state digits rom dark out r left → Picturing state digits rom dark out s left'
    → (r ≡ s) × (left ≡ left')

-- of both biases
abbrev pub BiasSettled : Type 0
BiasSettled =
    (vdd span : ℕ) (bias : Bias) (volts : List Float) (r s : ℕ) (left left' : List Float) → Driving vdd span bias volts r left → Driving vdd span bias volts s left'
    → (r ≡ s) × (left ≡ left')

abbrev pub MendSettled : Type 0
MendSettled =
    (bytes mended : List ℕ) (kept dropped altered r s : ℕ) (left left' : List ℕ) (k k' d d' a a' : ℕ)
    → MendingRecord bytes mended kept dropped altered r left k d a → MendingRecord bytes mended kept dropped altered s left' k' d' a'
    → (r ≡ s) × (left ≡ left') × (k ≡ k') × (d ≡ d') × (a ≡ a')
