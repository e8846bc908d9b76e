-- The request of a line of an outer terminal (this project's profile): a word about its connection, or acts, with ` ; ` between them.
use Rattle.std.specs.Prelude.{◌≡◌, ◌≢◌, ℕ, zero, suc, ◌+◌, ◌==◌, ◌&&◌, Bool, true, false, List, [], ◌∷◌, take, drop, slice_index, Option, Some, None, codes, if◌then◌else◌}
use Rattle.std.specs.Option.{option_map}
use Rattle.std.specs.Str.{bytes_eq}
use Rattle.roam_acts.specs.declared.acts.Act.{Act}
use Rattle.roam_terminal_input.specs.Keys.{AreLinesOf}
use Rattle.roam_terminal_input.specs.declared.entries.Entry.{Entry}
use Rattle.roam_terminal_input.specs.declared.entries.Entry.TheVariants.{Acts, Paste, Events, Repaint, Watch, Prediction, Look, LookStyled, Show, End}
use Rattle.roam_terminal_input.specs.declared.entries.Predicting.{Predicting}
use Rattle.roam_terminal_input.specs.declared.entries.Predicting.TheVariants.{Always, Adaptive, Never}
use Rattle.roam_terminal_input.specs.declared.showings.Showing.{Showing}
use Rattle.roam_terminal_input.specs.Showings.{IsShowing, showing_text}

-- a line has at most so many acts: as many as one instruction
abbrev pub most_cuts : ℕ
most_cuts = 63

-- the text begins with ` ; `
abbrev pub begins_separator : List ℕ → Bool
begins_separator text = slice_index text 0 == 0x20 && (slice_index text 1 == 0x3B && slice_index text 2 == 0x20)

-- the place of the first one
abbrev pub cut_of : List ℕ → Option ℕ
cut_of [] = None
cut_of (byte ∷ bytes) = if begins_separator (byte ∷ bytes) then Some 0 else option_map suc (cut_of bytes)

-- the text before the first separator and the parts behind it, or the whole text if there is none
abbrev pub cut_by : (List ℕ → List (List ℕ)) → List ℕ → Option ℕ → List (List ℕ)
cut_by parts text None = text ∷ []
cut_by parts text (Some at) = take at text ∷ parts (drop (at + 3) text)

-- the parts of a text that is cut so many times at most
unfoldable pub parts_of : ℕ → List ℕ → List (List ℕ)
parts_of zero text = text ∷ []
parts_of (suc n) text = cut_by (parts_of n) text (cut_of text)

-- the line that says when predictions are shown
abbrev pub predicting_line : Predicting → List ℕ
predicting_line Always = codes "predict always"
predicting_line Adaptive = codes "predict adaptive"
predicting_line Never = codes "predict never"

-- `paste ; ` leads a line
abbrev pub is_pasted : List ℕ → Bool
is_pasted line = bytes_eq (take 8 line) (codes "paste ; ")

-- a line is not a word on its own
pub record IsNoBareWord (line : List ℕ) : Type 0 where
  pub told : line ≢ codes "events"
  pub repaint : line ≢ codes "repaint"
  pub watch : line ≢ codes "watch"
  pub look : line ≢ codes "look"
  pub look_styled : line ≢ codes "look sgr"
  pub end : line ≢ codes "end"

-- a line is no word, and none leads it
pub record IsNoWord (line : List ℕ) : Type 0 where
  pub bare : IsNoBareWord line
  pub prediction : (predicting : Predicting) → line ≢ predicting_line predicting
  pub show : (showing : Showing) → IsShowing showing → line ≢ showing_text showing
  pub paste : is_pasted line ≡ false

-- a line says an entry
abbrev pub Says : List ℕ → Entry → Type 0
Says line Events = line ≡ codes "events"
Says line Repaint = line ≡ codes "repaint"
Says line Watch = line ≡ codes "watch"
Says line (Prediction predicting) = line ≡ predicting_line predicting
Says line Look = line ≡ codes "look"
Says line LookStyled = line ≡ codes "look sgr"
Says line (Show showing) = IsShowing showing × (line ≡ showing_text showing)
Says line End = line ≡ codes "end"
Says line (Paste acts) = (is_pasted line ≡ true) × AreLinesOf (parts_of most_cuts (drop 8 line)) acts.items
Says line (Acts acts) = IsNoWord line × AreLinesOf (parts_of most_cuts line) acts.items

-- the acts of an entry
abbrev pub acts_in : Entry → List Act
acts_in (Acts acts) = acts.items
acts_in (Paste acts) = acts.items
acts_in Events = []
acts_in Repaint = []
acts_in Watch = []
acts_in (Prediction predicting) = []
acts_in Look = []
acts_in LookStyled = []
acts_in (Show showing) = []
acts_in End = []

-- reading an entry takes memory exactly if it is a line of acts or a paste
abbrev pub needs_memory : Entry → Bool
needs_memory (Acts acts) = true
needs_memory (Paste acts) = true
needs_memory Events = false
needs_memory Repaint = false
needs_memory Watch = false
needs_memory (Prediction predicting) = false
needs_memory Look = false
needs_memory LookStyled = false
needs_memory (Show showing) = false
needs_memory End = false
