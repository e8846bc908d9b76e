-- The outer terminal: the noted screen, and the text written to it.
use Rattle.std.specs.Prelude.{◌≡◌, ℕ, ◌≤◌, List, ◌++◌, map, Option, Some, None}
use Rattle.std.specs.Io.KnownBytes.{Appends}
use Rattle.roam_screens.specs.Screenshot.{Screenshot, blank_screenshot}
use Rattle.roam_text.specs.Log.{Item, Byte}
use Rattle.roam_term.specs.Ground.{IsSized}
use Rattle.roam_term.specs.Terminal.{term}
use Rattle.roam_paint.specs.Painting.{text_between, blanking_text}
use Rattle.roam_paint.specs.Ground.{Displays}
use Rattle.roam_turns.specs.declared.outer.Noted.{Noted}

-- the noted number is this one
abbrev pub IsNoted : ℕ → Option Noted → Type 0
IsNoted n None = ⊥
IsNoted n (Some noted) = noted.number ≡ n

-- the text that shows a screen: if none is noted the terminal is opened first, and then blank
abbrev pub text_for : Option Noted → Screenshot → List ℕ
text_for None screen = blanking_text ++ text_between (blank_screenshot screen.rows screen.cols) screen
text_for (Some noted) screen = text_between noted.screen screen

-- ---- numbers that rise

-- the screen after an earlier one: no lower number, and of one number one screen
pub record Follows (n : ℕ) (s : Screenshot) (n' : ℕ) (s' : Screenshot) : Type 0 where
  pub rises : n ≤ n'
  pub same : n ≡ n' → s ≡ s'

-- the noted screen was shown before
abbrev pub IsBehind : Option Noted → ℕ → Screenshot → Type 0
IsBehind None n s = Unit {0}
IsBehind (Some noted) n s = Follows noted.number noted.screen n s

-- ---- the screen of the terminal

-- a terminal of a size, with so many lines of history, shows after a log the noted screen; if nothing is noted, it is any terminal
abbrev pub DisplaysNoted : ℕ → ℕ → ℕ → List Item → Option Noted → Type 0
DisplaysNoted rows cols lines log None =
    (1 ≤ (term rows cols lines log).live.screen.rows) × (1 ≤ (term rows cols lines log).live.screen.cols)
DisplaysNoted rows cols lines log (Some noted) = Displays rows cols lines log noted.screen

-- a screen has at most the terminal's rows and columns
pub record Fits (rows cols lines : ℕ) (log : List Item) (s : Screenshot) : Type 0 where
  pub rows_fit : s.rows ≤ (term rows cols lines log).live.screen.rows
  pub cols_fit : s.cols ≤ (term rows cols lines log).live.screen.cols

-- Once these bytes are written, any terminal that showed the noted screen, of at least the size of this screen, shows the screen: a ground
-- terminal between sequences.
abbrev pub Shows : Option Noted → List ℕ → Screenshot → Type 0
Shows outer bytes screen =
    (rows cols lines : ℕ) (log : List Item) → DisplaysNoted rows cols lines log outer → Fits rows cols lines log screen
    → Displays rows cols lines (log ++ map Byte bytes) screen

-- such bytes, after which the terminal has its size
pub record ShowsAt (rows cols lines : ℕ) (log : List Item) (bytes : List ℕ) (screen : Screenshot) : Type 0 where
  pub displays : Displays rows cols lines (log ++ map Byte bytes) screen
  pub size : IsSized (term rows cols lines log).live (term rows cols lines (log ++ map Byte bytes)).live

abbrev pub ShowsSized : Option Noted → List ℕ → Screenshot → Type 0
ShowsSized outer bytes screen =
    (rows cols lines : ℕ) (log : List Item) → DisplaysNoted rows cols lines log outer → Fits rows cols lines log screen
    → ShowsAt rows cols lines log bytes screen

-- once they are written it shows the screen that is noted then
abbrev pub Leads : Option Noted → List ℕ → Option Noted → Type 0
Leads outer bytes None = Unit {0}
Leads outer bytes (Some noted) = Shows outer bytes noted.screen

abbrev pub LeadsSized : Option Noted → List ℕ → Option Noted → Type 0
LeadsSized outer bytes None = Unit {0}
LeadsSized outer bytes (Some noted) = ShowsSized outer bytes noted.screen

-- if the text written to it before and then is known, the text between leads it to the screen that is noted then
abbrev pub Led : Option Noted → Option (List ℕ) → Option Noted → Option (List ℕ) → Type 0
Led outer before None after = Unit {0}
Led outer before (Some noted) after = (text : List ℕ) × Appends before after text × Shows outer text noted.screen
