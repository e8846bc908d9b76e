-- Runs of cells in reading order: the places at which cells differ from a base, and the result of runs on a base. Nothing here depends on
-- the spelling of cells or the storage of rows.
use Rattle.std.specs.Prelude.{ℕ, ◌+◌, ◌≤◌, ◌<◌, Bool, true, false, ◌⊎◌, List, [], ◌∷◌, length, slice_set, if◌then◌else◌}
use Rattle.roam_cells.specs.Glyph.{Glyph}
use Rattle.roam_cells.specs.Same.{same}

-- adjacent cells in reading order, from a place on; places count from 0
pub record Run : Type 0 where
  pub first : ℕ
  pub cells : List Glyph

-- the cells up to the first place that does not differ
unfoldable pub lead : List Glyph → List Glyph → List Glyph
lead [] cs = []
lead (b ∷ bs) [] = []
lead (b ∷ bs) (c ∷ cs) = if same b c then [] else c ∷ lead bs cs

-- the runs that begin at place k or later; inside a run none begins before a place that does not differ
unfoldable pub runs_from : Bool → ℕ → List Glyph → List Glyph → List Run
runs_from inside k [] cs = []
runs_from inside k (b ∷ bs) [] = []
runs_from inside k (b ∷ bs) (c ∷ cs) =
    if same b c then runs_from false (k + 1) bs cs
    else if inside then runs_from true (k + 1) bs cs
    else record { first = k; cells = c ∷ lead bs cs } ∷ runs_from true (k + 1) bs cs

-- the maximal runs of the places at which cells differ from a base
abbrev pub runs_between : List Glyph → List Glyph → List Run
runs_between base cells = runs_from false 0 base cells

-- a run names the place of each of its cells
pub record IsNamedBy (k : ℕ) (run : Run) : Type 0 where
  pub from : run.first ≤ k
  pub to : k < run.first + length run.cells

-- one of the runs names the place
unfoldable pub IsNamed : ℕ → List Run → Type 0
IsNamed k [] = ⊥
IsNamed k (run ∷ runs) = IsNamedBy k run ⊎ IsNamed k runs

-- a run of one cell or more that begins at `least` or later and ends before `end`
pub record IsWithin (least end : ℕ) (run : Run) : Type 0 where
  pub from : least ≤ run.first
  pub some : 1 ≤ length run.cells
  pub to : run.first + length run.cells ≤ end

-- runs that rise and do not touch, from `least` on and before `end`: an unnamed place is between each two
unfoldable pub AreApart : ℕ → ℕ → List Run → Type 0
AreApart least end [] = Unit {0}
AreApart least end (run ∷ runs) = IsWithin least end run × AreApart (run.first + length run.cells + 1) end runs

-- these cells are put from place k on
unfoldable pub with_cells_at : List Glyph → ℕ → List Glyph → List Glyph
with_cells_at cells k [] = cells
with_cells_at cells k (g ∷ gs) = with_cells_at (slice_set cells k g) (k + 1) gs

-- the runs replace the cells that they name
unfoldable pub patched_cells : List Glyph → List Run → List Glyph
patched_cells cells [] = cells
patched_cells cells (run ∷ runs) = patched_cells (with_cells_at cells run.first run.cells) runs
