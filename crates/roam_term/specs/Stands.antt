-- The log that a terminal models.
use Rattle.std.specs.Prelude.{◌≡◌, ℕ, ◌+◌, ◌*◌, ◌≤◌, Bool, List, [], ◌∷◌, ◌++◌, map, length}
use Rattle.roam_history.specs.Limits.{most_lines}
use Rattle.roam_term.specs.Limits.{most_output, longest_piece}
use Rattle.roam_cells.specs.Limits.{IsSize}
use Rattle.roam_history.specs.Histories.{Scrollback}
use Rattle.roam_text.specs.Functions.{functions_of}
use Rattle.roam_text.specs.Log.{Item, Byte, Resized}
use Rattle.roam_text.specs.Stands.{Stands as Reads, View}
use Rattle.roam_text.specs.declared.functions.Function.{Function}
use Rattle.roam_term.specs.Marks.{marked_through}
use Rattle.roam_term.specs.Terminal.{Live, term, reports}

-- the value of a terminal for contracts: its reader, the live state, the marks of the screen that is shown, the history, and the queued
-- answers
pub record TermView : Type 0 where
  pub reader : View
  pub live : Live
  pub marks : List Bool
  pub history : Scrollback
  pub waiting : List ℕ

-- the sizes and the numbers of lines that a terminal may have
pub record IsTermSize (rows cols lines : ℕ) : Type 0 where
  pub screen : IsSize rows cols
  pub history : lines ≤ most_lines

-- a terminal models a size, a number of lines and a log
pub record Stands (t : TermView) (rows cols lines : ℕ) (log : List Item) : Type 0 where
  pub reads : Reads t.reader log
  pub live : t.live ≡ (term rows cols lines log).live
  pub history : t.history ≡ (term rows cols lines log).history

-- a terminal's screen has so many rows and columns
abbrev pub HasSize : TermView → ℕ → ℕ → Type 0
HasSize t rows cols = (t.live.screen.rows ≡ rows) × (t.live.screen.cols ≡ cols)

-- a piece is accepted: it is short, and each of its bytes has 12 free bytes in the queue
pub record IsAccepted (waiting piece : List ℕ) : Type 0 where
  pub short : length piece ≤ longest_piece
  pub room : length waiting + 12 * length piece ≤ most_output

-- the queue grew by the answers gained from one log to a later one
pub record Gains (old new : List ℕ) (rows cols lines : ℕ) (log later : List Item) : Type 0 where
  pub more : List ℕ
  pub answers : reports rows cols lines later ≡ reports rows cols lines log ++ more
  pub queue : new ≡ old ++ more

-- the marks changed by the functions between one log and a later one
pub record GainsMarks (old new : TermView) (log later : List Item) : Type 0 where
  pub more : List Function
  pub functions : functions_of later ≡ functions_of log ++ more
  pub marks : new.marks ≡ marked_through old.live more old.marks

-- items make one terminal of another: for every log that the old one models, the new one models it followed by the items
pub record Follows (old new : TermView) (items : List Item) : Type 0 where
  pub stands : (rows cols lines : ℕ) (log : List Item) → Stands old rows cols lines log → Stands new rows cols lines (log ++ items)
  pub gains : (rows cols lines : ℕ) (log : List Item) → Stands old rows cols lines log
      → Gains old.waiting new.waiting rows cols lines log (log ++ items)
  pub marks : (rows cols lines : ℕ) (log : List Item) → Stands old rows cols lines log → GainsMarks old new log (log ++ items)

-- a piece makes one terminal of another
abbrev pub Fed : TermView → TermView → List ℕ → Type 0
Fed old new piece = Follows old new (map Byte piece)

-- and so does a size
abbrev pub Sized : TermView → TermView → ℕ → ℕ → Type 0
Sized old new rows cols = Follows old new (Resized rows cols ∷ [])
