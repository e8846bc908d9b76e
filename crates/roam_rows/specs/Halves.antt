-- Halves of wide characters that lose their other half.
use Rattle.std.specs.Prelude.{◌≡◌, ℕ, ◌+◌, ◌<◌, Bool, not, ◌&&◌, ◌||◌, ◌==◌, List, length}
use Rattle.roam_cells.specs.Glyph.{Glyph}
use Rattle.roam_cells.specs.Place.{glyph_at}
use Rattle.roam_rows.specs.Row.{mended_glyph}

-- the boundary before one column is cut
abbrev pub cut_at : ℕ → ℕ → Bool
cut_at col c = c == col

-- the boundaries before two columns are cut
abbrev pub cut_twice : ℕ → ℕ → ℕ → Bool
cut_twice col last c = cut_at col c || cut_at last c

-- the boundary before a column is cut unless the cell there is guarded
abbrev pub cut_unguarded : List Glyph → ℕ → ℕ → Bool
cut_unguarded row col c = cut_at col c && not (glyph_at row c).guarded

-- halves on two sides of a boundary that is cut have become spaces in their own style and guard
pub record AreParted (cut : ℕ → Bool) (old new : List Glyph) : Type 0 where
  pub len : length new ≡ length old
  pub each : (c : ℕ) → c < length old → glyph_at new c ≡ mended_glyph (glyph_at old c) (not (cut (c + 1))) (not (cut c))
