-- The clipboard texts of the programs of a session's panes, and the lines that report new ones (this project's profile).
use Rattle.std.specs.Prelude.{◌≡◌, ◌≢◌, ℕ, ◌==◌, ◌++◌, List, [], ◌∷◌, slice_index_or, Option, Some, None, IfSome, if◌then◌else◌, codes}
use Rattle.std.specs.List.{flat_map, fold}
use Rattle.roam_pane_protocol.specs.MetadataLines.{head_text}
use Rattle.roam_pane_protocol.specs.declared.clip_list.ClipList.{ClipList}
use Rattle.roam_pane_protocol.specs.declared.clip_list.ClipPane.{ClipPane}

-- no pane is there
abbrev pub no_clips : ClipList
no_clips = record { all = None ∷ None ∷ None ∷ None ∷ None ∷ None ∷ None ∷ None ∷ None ∷ None ∷ [] }

-- the number of clipboard texts of a pane's program, if the pane is there
abbrev pub clips_at : ClipList → ℕ → Option ClipPane
clips_at known p = slice_index_or known.all p None

-- how many are known of a generation of a pane: of another generation none is
abbrev pub clips_in : ℕ → Option ClipPane → ℕ
clips_in generation None = 0
clips_in generation (Some c) = if c.generation == generation then c.clips else 0

-- ---- as they are written

-- a line: the program of a pane, of a generation, has said so many texts, of which this line has the last
pub record ClipLine : Type 0 where
  pub pane : ℕ
  pub generation : ℕ
  pub count : ℕ

-- the text of a line, ended by LF, with this last clipboard text in base64
abbrev pub clip_text : List ℕ → ClipLine → List ℕ
clip_text clip line = head_text (codes "clip ") line.pane line.generation ++ (codes " " ++ (clip ++ codes "\n"))

abbrev pub clip_texts : List ℕ → List ClipLine → List ℕ
clip_texts clip lines = flat_map (clip_text clip) lines

-- ---- news

-- the news of a generation of a pane, of which so many texts were known
abbrev pub count_news : ℕ → ℕ → ClipPane → List ClipLine
count_news p known now = if known == now.clips then [] else record { pane = p; generation = now.generation; count = now.clips } ∷ []

-- the news of a pane; there is none of a pane that isn't there
abbrev pub clip_lines : ℕ → Option ClipPane → Option ClipPane → List ClipLine
clip_lines p told None = []
clip_lines p told (Some now) = count_news p (clips_in now.generation told) now

-- ---- readers

-- the knowledge of a subscriber about each pane
abbrev pub KnownClips : Type 0
KnownClips = ℕ → Option ClipPane

-- its knowledge after a line
abbrev pub after_clip : KnownClips → ClipLine → KnownClips
after_clip known line = λ q. if q == line.pane then Some (record { generation = line.generation; clips = line.count }) else known q

-- a line says what he doesn't know
abbrev pub IsClipNews : KnownClips → ClipLine → Type 0
IsClipNews known line = clips_in line.generation (known line.pane) ≢ line.count

-- each of these lines does, after those before it
abbrev pub AreClipNews : KnownClips → List ClipLine → Type 0
AreClipNews known [] = Unit {0}
AreClipNews known (line ∷ lines) = IsClipNews known line × AreClipNews (after_clip known line) lines

-- ---- the laws

-- he knows of a pane how many texts its program has said, and of each other what he knew
pub record LearnsClips (p : ℕ) (now : Option ClipPane) (old new : KnownClips) : Type 0 where
  pub this : IfSome now (λ c. clips_in c.generation (new p) ≡ c.clips)
  pub others : (q : ℕ) → q ≢ p → new q ≡ old q

-- a subscriber that knew something of a pane, and reads the news of it, knows how many clipboard texts its program has set
abbrev pub ClipsArrive : Type 0
ClipsArrive =
    (p : ℕ) (known : KnownClips) (now : Option ClipPane)
    → LearnsClips p now known (fold after_clip known (clip_lines p (known p) now))

-- each line is news to it
abbrev pub ClipsAreNews : Type 0
ClipsAreNews = (p : ℕ) (known : KnownClips) (now : Option ClipPane) → AreClipNews known (clip_lines p (known p) now)
