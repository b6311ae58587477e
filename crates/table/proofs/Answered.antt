-- The answers to a sound record's events, beside those events: the lines of the table.
use Prim.Native.Nat.{ℕ, ◌*◌, ◌-◌}
use lib.ListN.{length, take, drop}
use mathlib.Core.List.{List, ◌++◌}
use mathlib.Core.Path.{◌≡◌}
use native.Mathlib.Omega.{arith}
use Rattle.bus.specs.Events.{said_by}
use Rattle.controller.specs.declared.Controller.{Controller}
use Rattle.lent.specs.Buffer.{over}
use Rattle.record.proofs.Framed.{sound_front}
use Rattle.record.proofs.InTurn.{sound_events}
use Rattle.record.proofs.Sound.{sound}
use Rattle.record.specs.Record.{most_events, front_events, events_of, check_of}
use Rattle.run.proofs.Sound.{behind_head}
use Rattle.run.specs.Run.{started_from, answer_bytes, RunsEvents}
use Rattle.table.specs.Promises.{lines_of, Printable}
use Rattle.table.specs.Table.{event_lines}
use Rattle.table.proofs.Turns.{lines_by_bytes}

module _ (bytes : List ℕ) (z : check_of bytes ≡ 0) (c : Controller) (e : c ≡ started_from) (answers left : List ℕ) (after : Controller) (size : length left ≡ 3 * most_events)
    (ran : RunsEvents c (take (length bytes - 3) (drop 3 bytes)) answers after left) where
  whole : length (front_events (drop 3 bytes)) * 3 ≡ length (drop 3 bytes)
  whole = (sound_front bytes (sound bytes z)).0

  told : left ≡ answer_bytes (said_by (front_events (drop 3 bytes)) c) ++ drop (length (answer_bytes (said_by (front_events (drop 3 bytes)) c))) answers
  unfolding over
  told = rw (behind_head bytes z) at ran.buffer

  pub answered_printable : Printable (take (length bytes - 3) (drop 3 bytes)) left
  answered_printable =
      rw (behind_head bytes z)
      record {
        whole = omega (arith, whole);
        few = omega (arith, whole, (sound_front bytes (sound bytes z)).1);
        answered = omega (arith, whole, (sound_front bytes (sound bytes z)).1);
        narrow = rw told (lines_by_bytes _ (drop 3 bytes) whole 1 c).1;
      }

  pub answered_lines : lines_of 1 (take (length bytes - 3) (drop 3 bytes)) left ≡ event_lines 1 (events_of bytes) started_from
  answered_lines = rw (behind_head bytes z, told, sound_events bytes z, ← e) (lines_by_bytes _ (drop 3 bytes) whole 1 c).0
