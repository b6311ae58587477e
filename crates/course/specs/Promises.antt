-- Helpers of contracts, not rules: what a verdict means, as a line and as a record.
use Rattle.std.specs.Prelude.{ℕ, ◌+◌, ◌≤◌, length, take, drop, Option, Some, None, List, [], ◌++◌, ◌≡◌}
use Rattle.controller.specs.declared.Controller.{Controller}
use Rattle.record.specs.Record.{most_bytes, framed, body_of}
use Rattle.refusal.specs.Refusals.{number}
use Rattle.text.specs.Text.{text_of, refused_of}
use Rattle.course.specs.Course.{added_by, figure_line, call_line, record_for, line_for}
use Rattle.course.specs.declared.request.Request.{Request}
use Rattle.course.specs.declared.verdict.Said.{Said}
use Rattle.course.specs.declared.verdict.Said.TheVariants.{TooLong, Refused, Done, Figure, NotYetWritten}
use Rattle.course.specs.declared.verdict.Verdict.{Verdict}

abbrev pub said_line : Said → List ℕ
said_line TooLong = text_of "too long\n"
said_line (Refused refusal) = refused_of (number refusal)
said_line Done = text_of "done\n"
said_line (Figure quarters) = figure_line (Some quarters)
said_line NotYetWritten = figure_line None

-- nothing, or a record with so many bytes of events behind its own
abbrev pub written_of : (added : Option ℕ) (bytes events : List ℕ) → List ℕ
written_of (Some added) bytes events = framed (drop 3 bytes ++ take added events)
written_of None bytes events = []

-- a record that is written has its head, and is no longer than a record can be
abbrev pub Writable : (added : Option ℕ) (bytes events : ℕ) → Type 0
Writable (Some added) bytes events = (3 ≤ bytes) × (bytes + added ≤ most_bytes) × (added ≤ events)
Writable None bytes events = Unit {0}

-- a request that was made to a part: its own events stand at the front of the buffer
pub record Heard (c : Controller) (request : Request) (characters : List ℕ) (r : Said × ℕ) (left : List ℕ) : Type 0 where
  pub line : said_line r.0 ≡ call_line c request characters
  pub fits : r.1 ≤ length left
  pub events : take r.1 left ≡ body_of (added_by c request characters)

-- and behind a record
pub record Decided (request : Request) (characters bytes : List ℕ) (r : Verdict) (left : List ℕ) : Type 0 where
  pub line : said_line r.said ≡ line_for request characters bytes
  pub writable : Writable r.added (length bytes) (length left)
  pub longer : written_of r.added bytes left ≡ record_for request characters bytes
