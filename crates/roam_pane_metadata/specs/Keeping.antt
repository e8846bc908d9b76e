-- The kept emissions: the control strings for which there was memory, and each reset.
use Rattle.std.specs.Prelude.{ℕ, ◌≡◌, ◌≢◌, ◌≤◌, ◌<◌, ⊤, ◌⊎◌, List, [], length, Option, None, Some}
use Rattle.roam_text.specs.declared.strings.StringKind.{StringKind}
use Rattle.roam_text.specs.declared.strings.StringKind.TheVariants.{SystemCommand}
use Rattle.roam_text.specs.declared.strings.StringStep.{StringStep}
use Rattle.roam_text.specs.declared.strings.StringStep.TheVariants.{Ended}
use Rattle.roam_text.specs.Strings.{ControlString, OpenString, ended_so}
use Rattle.roam_pane_metadata.specs.declared.keeping.Collecting.{Collecting}
use Rattle.roam_pane_metadata.specs.declared.keeping.Collecting.TheVariants.{Nothing, Text, TooLong, NoMemory}
use Rattle.roam_pane_metadata.specs.declared.keeping.Told.{Told}
use Rattle.roam_pane_metadata.specs.declared.keeping.Told.TheVariants.{Nothing as NothingTold, Title, Clip, NoMemory as NoMemoryTold}
use Rattle.roam_pane_metadata.specs.Texts.{Said, clip_in, longest_text, title_in, with_clip, with_title}
use Rattle.roam_pane_metadata.specs.Emissions.{Emission, IsPartOf, said_of}

-- the stored texts, and the collected text of the open control string
pub record TextsView : Type 0 where
  pub said : Said
  pub collecting : Collecting
  pub text : List ℕ

-- no operating system command is open
abbrev pub IsOther : Option OpenString → Type 0
IsOther None = ⊤
IsOther (Some s) = s.kind ≢ SystemCommand

-- one is open, with this text
abbrev pub IsCommand : Option OpenString → List ℕ → Type 0
IsCommand begun text = begun ≡ Some (record { kind = SystemCommand; text = text })

-- The collected text of the open string: its whole text; nothing of a string that is longer than any that counts; or nothing of a string
-- for which memory was refused.
abbrev pub Collects : Collecting → List ℕ → Option OpenString → Type 0
Collects Nothing text begun = IsOther begun
Collects Text text begun = IsCommand begun text × (length text ≤ longest_text)
Collects TooLong text begun = (whole : List ℕ) × IsCommand begun whole × (longest_text < length whole)
Collects NoMemory text begun = (whole : List ℕ) × IsCommand begun whole

-- The stored texts are those of the kept emissions: the control strings for which there was memory, and each reset. The collected text is
-- that of the open string.
pub record Keeps (v : TextsView) (emitted : List Emission) (begun : Option OpenString) : Type 0 where
  pub kept : List Emission
  pub part : IsPartOf kept emitted
  pub said : v.said ≡ said_of kept
  pub open_text : Collects v.collecting v.text begun

-- the control strings that a character ended, by its effect
abbrev pub ended_by : StringStep → Option OpenString → List ControlString
ended_by (Ended ending) begun = ended_so ending begun
ended_by step begun = []

-- the text of a string of this kind is collected
abbrev pub collecting_of : StringKind → Collecting
collecting_of SystemCommand = Text
collecting_of kind = Nothing

-- the stored texts with a reported one
abbrev pub with_told : Told → Said → Said
with_told NothingTold s = s
with_told (Title title) s = with_title (Some title.items) s
with_told (Clip clip) s = with_clip (Some clip.items) s
with_told NoMemoryTold s = s

-- a text is neither a title nor a text for the clipboard
abbrev pub IsSilent : List ℕ → Type 0
IsSilent text = (title_in text ≡ None) × (clip_in text ≡ None)

-- The meaning of the collected text: nothing, if nothing was collected or the text is silent; a title; a text for the clipboard; or, if
-- memory was refused for the text or for its meaning, that.
abbrev pub Tells : Told → Collecting → List ℕ → Type 0
Tells NothingTold collecting text = (collecting ≢ NoMemory) × (collecting ≡ Text → IsSilent text)
Tells NoMemoryTold collecting text = (collecting ≡ Text) ⊎ (collecting ≡ NoMemory)
Tells (Title title) collecting text = (collecting ≡ Text) × (title_in text ≡ Some title.items)
Tells (Clip clip) collecting text = (collecting ≡ Text) × (title_in text ≡ None) × (clip_in text ≡ Some clip.items)

-- an open string has ended: its text is stored, if there was memory for it, and nothing is collected any more
pub record Ends (old new : TextsView) : Type 0 where
  pub told : Told
  pub tells : Tells told old.collecting old.text
  pub is : new ≡ record { said = with_told told old.said; collecting = Nothing; text = [] }
