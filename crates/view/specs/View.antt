-- What `screen` prints for a count of digits, a phase, a form, a ROM file and a record.
use Rattle.std.specs.Prelude.{ℕ, ltb, eqb, length, cond, List}
use Rattle.controller.specs.declared.Controller.{Controller}
use Rattle.dots.specs.Dots.{image_size}
use Rattle.drawing.specs.Drawing.{drawing_of}
use Rattle.picture.specs.Picture.{picture_of}
use Rattle.record.specs.Record.{most_bytes, events_of, check_of}
use Rattle.run.specs.Run.{ran_of}
use Rattle.size.specs.Size.{has_digits}
use Rattle.text.specs.Text.{text_of, refused_of}
use Rattle.view.specs.declared.words.Wanted.{Wanted}

-- the picture of a part: 4 for the count of digits, then 5 for the ROM file
unfoldable pub shown_of : Controller → Wanted → (rom : List ℕ) → List ℕ
shown_of c wanted rom =
    cond (has_digits c.registers.mode.lines wanted.digits)
    (cond (eqb (length rom) image_size)
    (drawing_of wanted.form c.registers.mode wanted.digits (picture_of c wanted.digits rom wanted.phase))
    (refused_of 5))
    (refused_of 4)

-- `too long` for more than 12,291 bytes, checked first; then 7, 8 and 9 for the record; then the picture of the part that its events leave
unfoldable pub view_of : Wanted → (rom bytes : List ℕ) → List ℕ
view_of wanted rom bytes =
    cond (ltb most_bytes (length bytes)) (text_of "too long\n")
    (cond (eqb (check_of bytes) 0) (shown_of (ran_of (events_of bytes)) wanted rom) (refused_of (check_of bytes)))
