-- A ground terminal that shows a screen, and what leads it from one screen to another.
use Rattle.std.specs.Prelude.{ℕ, ◌≤◌, List, ◌++◌, map}
use Rattle.roam_screens.specs.Screenshot.{Screenshot, IsScreenshot, blank_screenshot}
use Rattle.roam_text.specs.Log.{Item, Byte}
use Rattle.roam_text.specs.Resting.{AtRest}
use Rattle.roam_text.specs.Stands.{View, Stands, IsAtRest}
use Rattle.roam_term.specs.Ground.{IsGround, ShowsScreen, IsSized}
use Rattle.roam_term.specs.Terminal.{term}
use Rattle.roam_paint.specs.Painting.{text_between, blanking_text}

-- a size, a number of history lines and a log make a ground terminal that shows a screen
pub record Displays (rows cols lines : ℕ) (log : List Item) (p : Screenshot) : Type 0 where
  pub reader : AtRest log
  pub ground : IsGround (term rows cols lines log).live
  pub shows : ShowsScreen (term rows cols lines log).live p

-- ---- the laws

-- The text between two screens: a ground terminal that shows the old one and has at least the new one's size is afterwards a ground
-- terminal of its size that shows the new one.
pub record LeadsOver (rows cols lines : ℕ) (log : List Item) (old new : Screenshot) : Type 0 where
  pub displays : Displays rows cols lines (log ++ map Byte (text_between old new)) new
  pub size : IsSized (term rows cols lines log).live (term rows cols lines (log ++ map Byte (text_between old new))).live

abbrev pub PaintedLeadsOver : Type 0
PaintedLeadsOver =
    (rows cols lines : ℕ) (log : List Item) (old new : Screenshot) → IsScreenshot new → Displays rows cols lines log old
    → new.rows ≤ (term rows cols lines log).live.screen.rows → new.cols ≤ (term rows cols lines log).live.screen.cols
    → LeadsOver rows cols lines log old new

-- After `blanking_text` any terminal is a ground terminal of its size that shows a blank screen, of its size or a smaller one. It may have
-- been within a sequence, a string or an unfinished character.
pub record IsOpened (rows cols lines : ℕ) (log : List Item) : Type 0 where
  pub displays : (height width : ℕ)
      → height ≤ (term rows cols lines log).live.screen.rows → width ≤ (term rows cols lines log).live.screen.cols
      → Displays rows cols lines (log ++ map Byte blanking_text) (blank_screenshot height width)
  pub size : IsSized (term rows cols lines log).live (term rows cols lines (log ++ map Byte blanking_text)).live

abbrev pub OpenedBeginsBlank : Type 0
OpenedBeginsBlank =
    (rows cols lines : ℕ) (log : List Item)
    → 1 ≤ (term rows cols lines log).live.screen.rows → 1 ≤ (term rows cols lines log).live.screen.cols
    → IsOpened rows cols lines log

-- a reader that keeps no bytes and is outside any sequence has read a log that ends so
abbrev pub ReaderRests : Type 0
ReaderRests = (reader : View) (log : List Item) → Stands reader log → IsAtRest reader → AtRest log
