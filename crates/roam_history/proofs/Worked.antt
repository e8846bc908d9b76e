-- Worked rows, each computed from the definitions.
use Rattle.std.proofs.Common.{◌≡◌, ℕ, true, false, List, [], ◌∷◌, refl}
use Rattle.roam_cells.specs.Glyph.{Glyph, is_wide, blank, default_style, right_of, space_in}
use Rattle.roam_history.specs.Histories.{Scrollback, empty, after_push}
use Rattle.roam_history.specs.Lines.{with_blanks, refitted_row}
use Rattle.roam_history.specs.Fitting.{after_refit}
use Rattle.roam_history.proofs.Refitting.{is_wide-blank}

-- a character, guarded
abbrev shown : ℕ → Glyph
shown c = record { points = c ∷ []; style = default_style; guarded = true }

abbrev a : List Glyph
a = shown 0x61 ∷ []

abbrev b : List Glyph
b = shown 0x62 ∷ []

abbrev c : List Glyph
c = shown 0x63 ∷ []

-- a history of two lines
abbrev of_two : List (List Glyph) → Scrollback
of_two rows = record { lines = 2; cols = 4; rows = rows }

first_row : after_push a (empty 2 4) ≡ of_two (a ∷ [])
first_row = refl

second_row : after_push b (after_push a (empty 2 4)) ≡ of_two (a ∷ b ∷ [])
second_row = refl

third_row : after_push c (after_push b (after_push a (empty 2 4))) ≡ of_two (b ∷ c ∷ [])
third_row = refl

no_line : after_push a (empty 0 4) ≡ empty 0 4
no_line = refl

one_line : after_push b (after_push a (empty 1 4)) ≡ record { lines = 1; cols = 4; rows = b ∷ [] }
one_line = refl

front : with_blanks 4 a ≡ shown 0x61 ∷ blank ∷ blank ∷ blank ∷ []
front = refl

-- a cell of one column and a wide one
module _ (x wide : Glyph) (x_narrow : is_wide x ≡ false) (is_wide' : is_wide wide ≡ true) where
  padded : refitted_row 4 (wide ∷ right_of wide ∷ []) ≡ wide ∷ right_of wide ∷ blank ∷ blank ∷ []
  padded = rw (is_wide', is_wide-blank) refl

  cut_in_two : refitted_row 2 (x ∷ wide ∷ right_of wide ∷ []) ≡ x ∷ space_in wide ∷ []
  cut_in_two = rw (x_narrow, is_wide') refl

  cut_behind : refitted_row 3 (x ∷ wide ∷ right_of wide ∷ x ∷ []) ≡ x ∷ wide ∷ right_of wide ∷ []
  cut_behind = rw (x_narrow, is_wide') refl

  cut_before : refitted_row 1 (x ∷ wide ∷ right_of wide ∷ []) ≡ x ∷ []
  cut_before = rw x_narrow refl

  each_row : after_refit 2 (of_two ((wide ∷ right_of wide ∷ x ∷ []) ∷ (x ∷ []) ∷ []))
      ≡ record { lines = 2; cols = 2; rows = (wide ∷ right_of wide ∷ []) ∷ (x ∷ blank ∷ []) ∷ [] }
  each_row = rw (x_narrow, is_wide', is_wide-blank) refl
