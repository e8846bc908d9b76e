-- The lines that report the news of the metadata of a session's panes (this project's profile).
use Rattle.std.specs.Prelude.{◌≡◌, ◌≢◌, ℕ, Bool, true, false, ◌==◌, ◌++◌, List, [], ◌∷◌, Option, Some, None, IfSome, if◌then◌else◌, codes, decimal, encode_utf8_all}
use Rattle.std.specs.List.{flat_map, fold}
use Rattle.hex.specs.Hex.{encode_lower}
use Rattle.roam_pane_metadata.specs.declared.settings.Settings.{Settings}
use Rattle.roam_pane_metadata.specs.declared.settings.Tracking.{Tracking}
use Rattle.roam_pane_metadata.specs.declared.settings.Tracking.TheVariants.{Off, Buttons, Drags, Motion}
use Rattle.roam_pane_protocol.specs.MetadataLists.{in_generation, same_modes, with_bells, with_modes, with_shape, with_titles}
use Rattle.roam_pane_protocol.specs.declared.metadata_list.MetadataPane.{MetadataPane}

-- a line: the program of a pane, of a generation, has these modes set; it asks for this shape of the cursor; it has set and removed so many
-- titles, and this line has the last, or none; it has rung so many bells
pub data MetadataLine : Type 0 where
  Modes : ℕ → ℕ → Settings → MetadataLine
  Shape : ℕ → ℕ → ℕ → MetadataLine
  Title : ℕ → ℕ → ℕ → MetadataLine
  Bell : ℕ → ℕ → ℕ → MetadataLine

-- ---- as they are written

-- reports of the mouse: of buttons, 1000; of motion while one is pressed, too, 1002; of all motion, 1003
abbrev pub tracking_word : Tracking → List ℕ
tracking_word Off = []
tracking_word Buttons = codes " buttons"
tracking_word Drags = codes " drags"
tracking_word Motion = codes " motion"

-- a word if a mode is set
abbrev pub word_if : Bool → List ℕ → List ℕ
word_if true word = word
word_if false word = []

-- the word of modifyOtherKeys
abbrev pub keys_word : ℕ → List ℕ
keys_word n = if n == 1 then codes " keys1" else if n == 2 then codes " keys2" else []

-- The set modes, each by its word: reports of the mouse; `sgr`, 1006: in SGR form; `focus`, 1004: reports of the focus; `paste`, 2004:
-- bracketed paste; `other`, 47, 1047 and 1049: the alternate screen; `keypad`, DECKPAM: the application codes of the keypad; `keys1` and
-- `keys2`: modifyOtherKeys.
abbrev pub mode_words : Settings → List ℕ
mode_words s =
    tracking_word s.tracking ++ (word_if s.sgr_reports (codes " sgr") ++ (word_if s.focus_reports (codes " focus")
    ++ (word_if s.bracketed_paste (codes " paste") ++ (word_if s.alternate_screen (codes " other")
    ++ (word_if s.application_keypad (codes " keypad") ++ keys_word s.other_keys)))))

-- the name of a line, the pane and its generation
abbrev pub head_text : List ℕ → ℕ → ℕ → List ℕ
head_text name p generation = name ++ (decimal p ++ (codes " " ++ decimal generation))

-- the text of a line, ended by LF, with this last title: in UTF-8, in hexadecimal digits
abbrev pub metadata_text : List ℕ → MetadataLine → List ℕ
metadata_text title (Modes p generation s) = head_text (codes "modes ") p generation ++ (mode_words s ++ codes "\n")
metadata_text title (Shape p generation n) = head_text (codes "shape ") p generation ++ (codes " " ++ (decimal n ++ codes "\n"))
metadata_text title (Title p generation n) =
    head_text (codes "title ") p generation ++ (codes " " ++ (encode_lower (encode_utf8_all title) ++ codes "\n"))
metadata_text title (Bell p generation n) = head_text (codes "bell ") p generation ++ codes "\n"

abbrev pub metadata_texts : List ℕ → List MetadataLine → List ℕ
metadata_texts title lines = flat_map (metadata_text title) lines

-- ---- news

abbrev pub modes_news : ℕ → MetadataPane → MetadataPane → List MetadataLine
modes_news p told now = if same_modes told.settings now.settings then [] else Modes p now.generation now.settings ∷ []

abbrev pub shape_news : ℕ → MetadataPane → MetadataPane → List MetadataLine
shape_news p told now = if told.settings.shape == now.settings.shape then [] else Shape p now.generation now.settings.shape ∷ []

abbrev pub title_news : ℕ → MetadataPane → MetadataPane → List MetadataLine
title_news p told now = if told.titles == now.titles then [] else Title p now.generation now.titles ∷ []

abbrev pub bell_news : ℕ → MetadataPane → MetadataPane → List MetadataLine
bell_news p told now = if told.settings.bells == now.settings.bells then [] else Bell p now.generation now.settings.bells ∷ []

-- the news of a generation of a pane
abbrev pub generation_news : ℕ → MetadataPane → MetadataPane → List MetadataLine
generation_news p told now = (modes_news p told now ++ shape_news p told now) ++ (title_news p told now ++ bell_news p told now)

-- the news of a pane's metadata; there is none of a pane that isn't there
abbrev pub metadata_lines : ℕ → Option MetadataPane → Option MetadataPane → List MetadataLine
metadata_lines p told None = []
metadata_lines p told (Some now) = generation_news p (in_generation now.generation told) now

-- ---- readers

-- the knowledge of a subscriber about each pane
abbrev pub KnownMetadata : Type 0
KnownMetadata = ℕ → Option MetadataPane

-- its knowledge after it learns something of a generation of a pane
abbrev pub learned : ℕ → ℕ → (MetadataPane → MetadataPane) → KnownMetadata → KnownMetadata
learned p generation change known = λ q. if q == p then Some (change (in_generation generation (known p))) else known q

-- its knowledge after a line
abbrev pub after_metadata : KnownMetadata → MetadataLine → KnownMetadata
after_metadata known (Modes p generation s) = learned p generation (with_modes s) known
after_metadata known (Shape p generation n) = learned p generation (with_shape n) known
after_metadata known (Title p generation n) = learned p generation (with_titles n) known
after_metadata known (Bell p generation n) = learned p generation (with_bells n) known

-- a line says what he doesn't know
abbrev pub IsMetadataNews : KnownMetadata → MetadataLine → Type 0
IsMetadataNews known (Modes p generation s) = same_modes (in_generation generation (known p)).settings s ≡ false
IsMetadataNews known (Shape p generation n) = (in_generation generation (known p)).settings.shape ≢ n
IsMetadataNews known (Title p generation n) = (in_generation generation (known p)).titles ≢ n
IsMetadataNews known (Bell p generation n) = (in_generation generation (known p)).settings.bells ≢ n

-- each of these lines does, after those before it
abbrev pub AreMetadataNews : KnownMetadata → List MetadataLine → Type 0
AreMetadataNews known [] = Unit {0}
AreMetadataNews known (line ∷ lines) = IsMetadataNews known line × AreMetadataNews (after_metadata known line) lines

-- ---- the laws

-- it knows the pane's metadata now, and of each other pane the same as before
pub record Learns (p : ℕ) (now : Option MetadataPane) (old new : KnownMetadata) : Type 0 where
  pub this : IfSome now (λ b. in_generation b.generation (new p) ≡ b)
  pub others : (q : ℕ) → q ≢ p → new q ≡ old q

-- a subscriber that knew something of a pane, and reads the news of it, knows modes, shape and counts
abbrev pub MetadataArrives : Type 0
MetadataArrives =
    (p : ℕ) (known : KnownMetadata) (now : Option MetadataPane)
    → Learns p now known (fold after_metadata known (metadata_lines p (known p) now))

-- each line is news to it
abbrev pub MetadataIsNews : Type 0
MetadataIsNews = (p : ℕ) (known : KnownMetadata) (now : Option MetadataPane) → AreMetadataNews known (metadata_lines p (known p) now)
