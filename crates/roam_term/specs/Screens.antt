-- Logs whose sizes are those of screens, and their pictures.
use Rattle.std.specs.Prelude.{◌≡◌, ℕ, List, [], ◌∷◌}
use Rattle.roam_cells.specs.Limits.{IsSize}
use Rattle.roam_screens.specs.Screenshot.{Screenshot, IsScreenshot}
use Rattle.roam_text.specs.Log.{Item, Byte, Resized}

-- each size in a log is one that a screen may have
abbrev pub AreSizes : List Item → Type 0
AreSizes [] = Unit {0}
AreSizes (Byte b ∷ log) = AreSizes log
AreSizes (Resized rows cols ∷ log) = IsSize rows cols × AreSizes log

-- the rows and columns that a log leaves of those that it began with: its last size's
abbrev pub size_after : ℕ × ℕ → List Item → ℕ × ℕ
size_after p [] = p
size_after p (Byte b ∷ log) = size_after p log
size_after p (Resized rows cols ∷ log) = size_after (rows, cols) log

-- a screen that is shown, of the size that a log leaves
pub record IsScreenOf (p : ℕ × ℕ) (log : List Item) (s : Screenshot) : Type 0 where
  pub shown : IsScreenshot s
  pub size : (s.rows, s.cols) ≡ size_after p log
