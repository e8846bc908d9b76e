-- The meaning of: a text leads a terminal from one screen to another.
use Rattle.std.specs.Prelude.{ℕ, ◌≤◌, List, ◌++◌, map, drop, length}
use Rattle.roam_screens.specs.Screenshot.{Screenshot, IsScreenshot}
use Rattle.roam_text.specs.Functions.{functions_of}
use Rattle.roam_text.specs.Log.{Item, Byte}
use Rattle.roam_term.specs.Ground.{IsSized}
use Rattle.roam_term.specs.Terminal.{term}
use Rattle.roam_paint.specs.Ground.{Displays}
use Rattle.roam_paint.specs.Painting.{text_between}
use Rattle.roam_scroll_paint.specs.Doubts.{ArePlacedBehind}
use Rattle.roam_scroll_paint.specs.Painting.{IsPaintingText}

-- after the text a ground terminal, as large as before, shows a screen
pub record IsLedTo (rows cols lines : ℕ) (log : List Item) (text : List ℕ) (new : Screenshot) : Type 0 where
  pub displays : Displays rows cols lines (log ++ map Byte text) new
  pub size : IsSized (term rows cols lines log).live (term rows cols lines (log ++ map Byte text)).live

-- so is every ground terminal that displays the old screen and has the rows and columns of the new one at least
abbrev pub Leads : Screenshot → Screenshot → List ℕ → Type 0
Leads old new text =
    (rows cols lines : ℕ) (log : List Item) → Displays rows cols lines log old
    → new.rows ≤ (term rows cols lines log).live.screen.rows → new.cols ≤ (term rows cols lines log).live.screen.cols
    → IsLedTo rows cols lines log text new

-- the part that was added to a text
abbrev pub added : List ℕ → List ℕ → List ℕ
added before after = drop (length before) after

-- ---- the law

-- whatever band moves and whatever more than the differences is written: the text leads
abbrev pub PaintingLeads : Type 0
PaintingLeads =
    (old new : Screenshot) (text : List ℕ) → IsScreenshot old → IsScreenshot new → IsPaintingText old new text → Leads old new text

-- and its reader finds CUP behind each code point after which terminals disagree on the cursor's column
abbrev pub PaintingPlaces : Type 0
PaintingPlaces =
    (old new : Screenshot) (text : List ℕ) → IsScreenshot new → IsPaintingText old new text
    → ArePlacedBehind (functions_of (map Byte text))

-- the text that writes each place which differs leads, too
abbrev pub PaintLeads : Type 0
PaintLeads = (old new : Screenshot) → IsScreenshot new → Leads old new (text_between old new)
