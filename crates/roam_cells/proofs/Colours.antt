-- The colours of an ink are ones that there are.
use Rattle.std.proofs.Common.{ℕ, ◌/◌, ◌%◌, ◌≤◌, inl, inr, arith}
use Rattle.std.proofs.lemmas.Bool.{cases_eq, cases_lt, ne_eqb, le-leb, lt-leb}
use Rattle.roam_cells.specs.Glyph.{IsColour, IsStyle}
use Rattle.roam_cells.specs.Inks.{IsInkNumber, colour_of, style_of, ink_numbered}

colour_is : (n : ℕ) → n ≤ 16777472 → IsColour (colour_of n)
unfolding colour_of
colour_is n few =
    elim (cases_eq n 0) [
      | inl none ↦ rw none tt
      | inr some ↦
          elim (cases_lt 256 n) [
            | inl many ↦ rw (ne_eqb n 0 some, lt-leb n 256 many) (omega (arith, many, few), omega arith, omega arith)
            | inr listed ↦ rw (ne_eqb n 0 some, le-leb n 256 listed) (omega (arith, listed, some))
          ]
    ]

pub ink_is_style : (n : ℕ) → IsInkNumber n → IsStyle (ink_numbered n).style
unfolding ink_numbered style_of
ink_is_style n h = record { foreground = colour_is (n / 512 % 33554432) h.foreground; background = colour_is (n / 512 / 33554432) h.background }
