-- Where the cursor is placed, in intervals: the maximal runs of differing places, widened to whole wide cells.
use Rattle.std.specs.Prelude.{◌≡◌, ◌⊎◌, ℕ, ◌+◌, ◌-◌, ◌<◌, ◌≤◌, Bool, true, false, if◌then◌else◌, List, [], ◌∷◌}
use Rattle.roam_cells.specs.Glyph.{is_right_half}
use Rattle.roam_screens.specs.Screenshot.{Screenshot, IsScreenshot}
use Rattle.roam_text.specs.declared.functions.Function.{Function}
use Rattle.roam_term.specs.ControlFunctions.{place_cursor}
use Rattle.roam_paint.specs.Painting.{Places, differs, drawn_rows}
use Rattle.roam_term.specs.Ground.{shown_at}

-- the columns from one on and before another are a maximal run of differing places of a row
pub record IsRun (d : ℕ → ℕ → Bool) (cols r from to : ℕ) : Type 0 where
  pub some : from < to
  pub inside : to ≤ cols
  pub all : (c : ℕ) → from ≤ c → c < to → d r c ≡ true
  pub least : 0 < from → d r (from - 1) ≡ false
  pub most : to < cols → d r to ≡ false

-- the column at which a run begins once it is widened to whole wide cells
abbrev pub widened_from : Places → ℕ → ℕ → ℕ
widened_from new r from = if is_right_half (new r from) then from - 1 else from

-- a widened run begins at a row and a column
pub record BeginsRun (old new : Screenshot) (r c : ℕ) : Type 0 where
  pub from : ℕ
  pub to : ℕ
  pub run : IsRun (differs old new) new.cols r from to
  pub widened : c ≡ widened_from (shown_at new) r from

-- one of the functions is this one
abbrev pub IsAmong : Function → List Function → Type 0
IsAmong f [] = ⊥
IsAmong f (g ∷ gs) = (f ≡ g) ⊎ IsAmong f gs

-- the cursor is placed at a row and a column in the drawing of the rows
abbrev pub IsPlacedAt : Screenshot → Screenshot → ℕ → ℕ → Type 0
IsPlacedAt old new r c = IsAmong (place_cursor (r + 1) (c + 1)) (drawn_rows (differs old new) (shown_at new) new.cols new.rows)

-- the cursor is placed exactly at the beginning of a widened run
pub record IsPlacedByRuns (old new : Screenshot) (r c : ℕ) : Type 0 where
  pub placed : BeginsRun old new r c → IsPlacedAt old new r c
  pub begins : IsPlacedAt old new r c → BeginsRun old new r c

abbrev pub CursorIsPlacedByRuns : Type 0
CursorIsPlacedByRuns =
    (old new : Screenshot) → IsScreenshot new → (r c : ℕ) → r < new.rows → c < new.cols → IsPlacedByRuns old new r c
