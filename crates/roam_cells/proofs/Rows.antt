-- The definitions at worked rows.
use Rattle.std.proofs.Common.{◌≡◌, ℕ, true, false, List, [], ◌∷◌, map, refl}
use Rattle.unicode_width.proofs.Computing.{unicode_width}
use Rattle.roam_cells.specs.Glyph.{Glyph, is_cell_text, is_wide, blank, right_of, default_style}
use Rattle.roam_cells.specs.Width.{width_of, is_joiner}

-- A, U+4E2D, U+0301, U+200B, U+0007, U+00AD, U+1F600, U+FE0F, U+17D8
abbrev characters : List ℕ
characters = 0x41 ∷ 0x4E2D ∷ 0x301 ∷ 0x200B ∷ 0x7 ∷ 0xAD ∷ 0x1F600 ∷ 0xFE0F ∷ 0x17D8 ∷ []

widths : map width_of characters ≡ 1 ∷ 2 ∷ 0 ∷ 0 ∷ 0 ∷ 0 ∷ 2 ∷ 0 ∷ 2 ∷ []
unfolding unicode_width
widths = refl

-- a control joins nothing, though it has no columns
joiners : map is_joiner characters ≡ false ∷ false ∷ true ∷ true ∷ false ∷ true ∷ false ∷ true ∷ false ∷ []
unfolding unicode_width
joiners = refl

-- none, a, a with one to three U+0301, U+4E2D with one, a and b, a with a control
abbrev texts : List (List ℕ)
texts =
    []
    ∷ (0x61 ∷ [])
    ∷ (0x61 ∷ 0x301 ∷ [])
    ∷ (0x61 ∷ 0x301 ∷ 0x301 ∷ [])
    ∷ (0x61 ∷ 0x301 ∷ 0x301 ∷ 0x301 ∷ [])
    ∷ (0x4E2D ∷ 0x301 ∷ [])
    ∷ (0x61 ∷ 0x62 ∷ [])
    ∷ (0x61 ∷ 0x7 ∷ [])
    ∷ []

cell_texts : map is_cell_text texts ≡ false ∷ true ∷ true ∷ true ∷ false ∷ true ∷ false ∷ false ∷ []
unfolding unicode_width
cell_texts = refl

abbrev wide : Glyph
wide = record { points = 0x4E2D ∷ []; style = default_style; guarded = false }

wide_cells : map is_wide (wide ∷ right_of wide ∷ blank ∷ []) ≡ true ∷ false ∷ false ∷ []
unfolding unicode_width
wide_cells = refl
