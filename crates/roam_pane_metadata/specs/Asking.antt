-- The kept questions, and the open control string, which may be one.
use Rattle.std.specs.Prelude.{ℕ, ◌≡◌, ◌-◌, Bool, true, false, List, length, drop, min, take, Option, None, Some}
use Rattle.roam_text.specs.declared.strings.StringKind.{StringKind}
use Rattle.roam_text.specs.declared.strings.StringKind.TheVariants.{SystemCommand}
use Rattle.roam_text.specs.Strings.{OpenString}
use Rattle.roam_pane_metadata.specs.declared.queries.Query.{Query}
use Rattle.roam_pane_metadata.specs.Settings.{most_counted}

-- how many questions are kept
abbrev pub most_kept : ℕ
most_kept = 16

-- the last so many of some
abbrev pub newest : ℕ → List Query → List Query
newest n queries = drop (length queries - n) queries

-- how many questions there were, and the last of them
pub record AskedView : Type 0 where
  pub count : ℕ
  pub last : List Query

-- these were asked
pub record Recalls (a : AskedView) (queries : List Query) : Type 0 where
  pub count : a.count ≡ min most_counted (length queries)
  pub last : a.last ≡ newest most_kept queries

-- whether an operating system command is open, and its first five characters
pub record HeadView : Type 0 where
  pub is_command : Bool
  pub text : List ℕ

abbrev pub is_command : StringKind → Bool
is_command SystemCommand = true
is_command kind = false

-- this one is open
abbrev pub Heads : HeadView → Option OpenString → Type 0
Heads head None = head.is_command ≡ false
Heads head (Some s) = (head.is_command ≡ is_command s.kind) × (head.is_command ≡ true → head.text ≡ take 5 s.text)
