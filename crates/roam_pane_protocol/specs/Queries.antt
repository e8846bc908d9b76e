-- The questions of the programs of a session's panes, and the lines that report new ones (this project's profile).
use Rattle.std.specs.Prelude.{◌≡◌, ◌≤◌, ℕ, true, false, ◌==◌, ◌-◌, ◌++◌, List, [], ◌∷◌, length, drop, slice_index_or, Option, Some, None, if◌then◌else◌, codes, decimal}
use Rattle.roam_pane_metadata.specs.declared.queries.Query.{Query}
use Rattle.roam_pane_metadata.specs.declared.queries.Query.TheVariants.{Foreground, Background, Frames, Pastes, PrivateMode, AnsiMode, Size, Version}
use Rattle.roam_pane_metadata.specs.declared.queries.ModeState.{ModeState}
use Rattle.roam_pane_metadata.specs.declared.queries.ModeState.TheVariants.{Unknown, Set, Reset}
use Rattle.roam_pane_metadata.specs.Asking.{most_kept, newest}
use Rattle.roam_pane_protocol.specs.MetadataLines.{head_text}
use Rattle.roam_pane_protocol.specs.declared.query_list.QueryList.{QueryList}
use Rattle.roam_pane_protocol.specs.declared.query_list.QueryPane.{QueryPane}

-- no pane is there
abbrev pub no_queries : QueryList
no_queries = record { all = None ∷ None ∷ None ∷ None ∷ None ∷ None ∷ None ∷ None ∷ None ∷ None ∷ [] }

-- the number of questions of a pane's program, if the pane is there
abbrev pub queries_at : QueryList → ℕ → Option QueryPane
queries_at known p = slice_index_or known.all p None

-- how many are known of a generation of a pane: of another generation none is
abbrev pub asked_in : ℕ → Option QueryPane → ℕ
asked_in generation None = 0
asked_in generation (Some a) = if a.generation == generation then a.asked else 0

-- ---- as they are written

-- the word behind a mode: `set` if it was set, and `unknown` if the terminal has no such mode
abbrev pub state_words : ModeState → List ℕ
state_words Unknown = codes " unknown"
state_words Set = codes " set"
state_words Reset = []

-- The question: the colour of text and of the background, with `bell` if BEL ended the question; the state of an update, and of bracketed
-- paste, with `set` if it was set; that of another private mode, and of a mode of ECMA-48, by their numbers; the size; the terminal's name.
abbrev pub query_words : Query → List ℕ
query_words (Foreground false) = codes "foreground"
query_words (Foreground true) = codes "foreground bell"
query_words (Background false) = codes "background"
query_words (Background true) = codes "background bell"
query_words (Frames false) = codes "frames"
query_words (Frames true) = codes "frames set"
query_words (Pastes false) = codes "pastes"
query_words (Pastes true) = codes "pastes set"
query_words (PrivateMode number state) = codes "mode " ++ (decimal number ++ state_words state)
query_words (AnsiMode number state) = codes "ansi-mode " ++ (decimal number ++ state_words state)
query_words Size = codes "size"
query_words Version = codes "version"

-- a line as it is written, ended by LF: the program of a pane, of a generation, has asked this
abbrev pub query_text : ℕ → ℕ → Query → List ℕ
query_text p generation query = head_text (codes "query ") p generation ++ (codes " " ++ (query_words query ++ codes "\n"))

abbrev pub query_texts : ℕ → ℕ → List Query → List ℕ
query_texts p generation [] = []
query_texts p generation (query ∷ queries) = query_text p generation query ++ query_texts p generation queries

-- ---- news

-- the lines of the news of a pane with these last questions; there are none of a pane that isn't there
abbrev pub query_lines : ℕ → Option QueryPane → Option QueryPane → List Query → List ℕ
query_lines p told None last = []
query_lines p told (Some now) last = query_texts p now.generation (newest (now.asked - asked_in now.generation told) last)

-- ---- the law

-- If so many questions of a program were reported, and the last sixteen are kept: the news is the last sixteen of those that weren't
-- reported, each once and in its place.
abbrev pub QueriesAreTheNewest : Type 0
QueriesAreTheNewest = (told : ℕ) (queries : List Query) → told ≤ length queries
    → newest (length queries - told) (newest most_kept queries) ≡ newest most_kept (drop told queries)
