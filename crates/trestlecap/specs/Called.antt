-- 7/12: "called from the masker's C firmware on numbers and byte slices": what each exported call promises.
use Rattle.std.specs.Prelude.{ℕ, eqb, Float, length, replicate, cond, List, Option, None, Some, Result, Ok, Err, ◌≡◌}
use Rattle.bedside.specs.Log.{look_up_answer, figure_of}
use Rattle.bedside.specs.Panel.{call_leaves, call_wraps}
use Rattle.bedside.specs.Refusals.{call_answer}
use Rattle.calls.specs.declared.Call.{Call}
use Rattle.condition.specs.Flag.{flag_number}
use Rattle.controller.specs.Part.{switched_on}
use Rattle.controller.specs.declared.Controller.{Controller}
use Rattle.dots.specs.declared.phase.Phase.{Phase}
use Rattle.dots.specs.declared.phase.Phase.TheVariants.{Plain, Dark}
use Rattle.lent.specs.Buffer.{unless_refused}
use Rattle.list.specs.List.{answer_for as list_answer, left_for, buffer_for as list_buffer}
use Rattle.mending.specs.Mend.{mend_of, mended_of, told_of}
use Rattle.picture.specs.Answers.{answer_for as picture_answer, buffer_for as picture_buffer}
use Rattle.refusal.specs.Refusals.{number_of}
use Rattle.refusal.specs.declared.Refusal.{Refusal}
use Rattle.restart.specs.Writes.{restart_of}
use Rattle.state.specs.State.{put_of}
use Rattle.state.specs.Taken.{answer_for as put_answer, taken_of}
use Rattle.voltages.specs.Answers.{answer_of}
use Rattle.voltages.specs.Voltages.{drive_of}
use Rattle.voltages.specs.declared.Bias.{Bias}
use Rattle.voltages.specs.declared.Steps.{Steps}
use Rattle.voltages.specs.declared.Steps.TheVariants.{Quarter, Fifth}

-- ---- a call that is lent a state

-- of the controller that the bytes hold; of bytes that hold none, what a refusal says or leaves
abbrev pub of_held : {A : Type 0} → (refused : A) → (Controller → A) → Option Controller → A
of_held refused held None = refused
of_held refused held (Some c) = held c

-- "16, also for bytes that no controller in range is put as"
unfoldable pub number_on : (Controller → ℕ) → (state : List ℕ) → ℕ
number_on number state = of_held 16 number (taken_of state)

-- the controller is put back as the call leaves it
unfoldable pub state_on : (Controller → Controller) → (state : List ℕ) → List ℕ
state_on left state = of_held state (λ c. put_of (left c)) (taken_of state)

unfoldable pub buffer_on : (Controller → List ℕ) → (state out : List ℕ) → List ℕ
buffer_on buffer state out = of_held out buffer (taken_of state)

-- ---- the part on the board

-- 6 below 159 bytes; only 159 are written
pub record SwitchingOn (state : List ℕ) (r : ℕ) (left : List ℕ) : Type 0 where
  pub number : r ≡ put_answer (length state)
  pub kept : left ≡ unless_refused (put_answer (length state)) (put_of switched_on) state

pub record RunningList (state events answers : List ℕ) (r : ℕ) (left out : List ℕ) : Type 0 where
  pub number : r ≡ number_on (λ c. list_answer c.registers events (length answers)) state
  pub kept : left ≡ state_on (λ c. left_for c events (length answers)) state
  pub buffer : out ≡ buffer_on (λ c. list_buffer c events answers) state answers

-- the restart gives zeros on the lower lines
abbrev pub zeros : List ℕ
zeros = replicate 12 0

pub record Restarting (state : List ℕ) (r : ℕ) (left : List ℕ) : Type 0 where
  pub number : r ≡ number_on (λ c. (restart_of c zeros).said.number) state
  pub kept : left ≡ state_on (λ c. (restart_of c zeros).controller) state

-- ---- the bedside panel

-- a refused call leaves the number behind the pointer
abbrev pub said_or : (number was said : ℕ) → ℕ
said_or number was said = cond (eqb number 0) said was

-- 8/12: whether one of its data writes passed an end, behind the pointer
pub record MakingCall (state : List ℕ) (call : Call) (characters : List ℕ) (wrap r : ℕ) (left : List ℕ) (wrap' : ℕ) : Type 0 where
  pub number : r ≡ number_on (λ c. call_answer c call (length characters)) state
  pub kept : left ≡ state_on (λ c. call_leaves c call characters) state
  pub said : wrap' ≡ of_held wrap (λ c. said_or (call_answer c call (length characters)) wrap (flag_number (call_wraps c call characters))) (taken_of state)

-- written or not yet, as 1 or 0; the figure, or 0
abbrev pub written_of : Option ℕ → ℕ
written_of None = 0
written_of (Some figure) = 1

abbrev pub quarters_of : Option ℕ → ℕ
quarters_of None = 0
quarters_of (Some figure) = figure

-- a refused look-up leaves the number behind the pointer
abbrev pub found_or : ℕ → (Option ℕ → ℕ) → (night : ℕ) → Controller → ℕ
found_or was told night c = cond (eqb (look_up_answer c night) 0) (told (figure_of c night)) was

pub record LookingUp (state : List ℕ) (night written quarters r written' quarters' : ℕ) : Type 0 where
  pub number : r ≡ number_on (λ c. look_up_answer c night) state
  pub first : written' ≡ of_held written (found_or written written_of night) (taken_of state)
  pub second : quarters' ≡ of_held quarters (found_or quarters quarters_of night) (taken_of state)

-- ---- the picture

-- dark 0 is plain
abbrev pub phase_of : ℕ → Phase
phase_of dark = cond (eqb dark 0) Plain Dark

pub record Picturing (state : List ℕ) (digits : ℕ) (rom : List ℕ) (dark : ℕ) (out : List ℕ) (r : ℕ) (left : List ℕ) : Type 0 where
  pub number : r ≡ number_on (λ c. picture_answer c digits (length rom) (length out)) state
  pub buffer : left ≡ buffer_on (λ c. picture_buffer c digits rom (phase_of dark) out) state out

-- ---- the drive voltages

abbrev pub listed : Steps → List Float
listed (Quarter steps) = steps
listed (Fifth steps) = steps

abbrev pub listed_or : List Float → Result Steps Refusal → List Float
listed_or was (Ok steps) = listed steps
listed_or was (Err refusal) = was

pub record Driving (vdd span : ℕ) (bias : Bias) (volts : List Float) (r : ℕ) (left : List Float) : Type 0 where
  pub number : r ≡ number_of (answer_of (drive_of vdd span bias))
  pub buffer : left ≡ listed_or volts (answer_of (drive_of vdd span bias))

-- ---- a record mended

pub record MendingRecord (bytes mended : List ℕ) (kept dropped altered r : ℕ) (left : List ℕ) (kept' dropped' altered' : ℕ) : Type 0 where
  pub number : r ≡ mend_of bytes (length mended)
  pub buffer : left ≡ unless_refused (mend_of bytes (length mended)) (mended_of bytes) mended
  pub first : kept' ≡ said_or (mend_of bytes (length mended)) kept (told_of bytes).kept
  pub second : dropped' ≡ said_or (mend_of bytes (length mended)) dropped (told_of bytes).dropped
  pub third : altered' ≡ said_or (mend_of bytes (length mended)) altered (flag_number (told_of bytes).altered)
