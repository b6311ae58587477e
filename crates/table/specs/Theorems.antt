-- The paper's example, as a theorem.
use Rattle.std.specs.Prelude.{[], ◌∷◌, ◌≡◌}
use Rattle.text.specs.Text.{text_of}
use Rattle.table.specs.Table.{printed_of}

abbrev pub PaperExample : Type 0
PaperExample =
    printed_of (0x00 ∷ 0x13 ∷ 0x01 ∷ 0x00 ∷ 0x00 ∷ 0x38 ∷ 0x04 ∷ 0x0E ∷ 0xA6 ∷ 0x00 ∷ 0x00 ∷ 0x38 ∷ 0x02 ∷ 0x00 ∷ 0x00 ∷ 0x04 ∷ 0x00 ∷ 0x0A ∷ 0x02 ∷ 0x00 ∷ 0x00 ∷ [])
    ≡ text_of "event kind value answer result wrap\n1 0 56 1 0 0\n2 4 3750 0 0 0\n3 0 56 0 0 0\n4 2 0 0 128 0\n5 4 10 0 0 0\n6 2 0 0 0 0\n"
