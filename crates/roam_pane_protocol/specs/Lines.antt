-- The lines that report the news of a session (this project's profile).
use Rattle.std.specs.Prelude.{◌≡◌, ◌≢◌, ℕ, zero, suc, ◌≤◌, ◌==◌, ◌++◌, List, [], ◌∷◌, Option, Some, None, IsSome, IfSome, if◌then◌else◌, codes, decimal}
use Rattle.std.specs.List.{flat_map, fold}
use Rattle.roam_pane_protocol.specs.Known.{pane_at, is_same, most_clients, most_watchers}
use Rattle.roam_pane_protocol.specs.declared.pane_list.ListedPane.{ListedPane}
use Rattle.roam_pane_protocol.specs.declared.pane_list.PaneList.{PaneList}

-- a line: a pane of this number is there, of a generation, at a place and of a size; none is there any more; this one is in focus; so many
-- client instances that type are known; so many read-only ones
pub data Line : Type 0 where
  Here : ℕ → ListedPane → Line
  Gone : ℕ → Line
  Focus : ℕ → Line
  Clients : ℕ → Line
  Watchers : ℕ → Line

-- a line as it is written, ended by LF
abbrev pub line_text : Line → List ℕ
line_text (Here p pane) =
    decimal p ++ (codes " " ++ (decimal pane.row ++ (codes " " ++ (decimal pane.col ++ (codes " " ++ (decimal pane.rows
    ++ (codes " " ++ (decimal pane.cols ++ (codes " " ++ (decimal pane.generation ++ codes "\n"))))))))))
line_text (Gone p) = decimal p ++ codes " gone\n"
line_text (Focus p) = codes "focus " ++ (decimal p ++ codes "\n")
line_text (Clients n) = codes "clients " ++ (decimal n ++ (codes " of " ++ (decimal most_clients ++ codes "\n")))
line_text (Watchers n) = codes "watchers " ++ (decimal n ++ (codes " of " ++ (decimal most_watchers ++ codes "\n")))

abbrev pub lines_text : List Line → List ℕ
lines_text lines = flat_map line_text lines

-- the news of a pane: it was made, moved, resized or closed; one of another generation is another pane, and the old one is gone first
abbrev pub lines_for : ℕ → Option ListedPane → Option ListedPane → List Line
lines_for p None None = []
lines_for p None (Some now) = Here p now ∷ []
lines_for p (Some told) None = Gone p ∷ []
lines_for p (Some told) (Some now) =
    if is_same told now then []
    else if told.generation == now.generation then Here p now ∷ []
    else Gone p ∷ Here p now ∷ []

-- the news of the panes from 1 to n
unfoldable pub lines_to : ℕ → (ℕ → Option ListedPane) → (ℕ → Option ListedPane) → List Line
lines_to zero told now = []
lines_to (suc n) told now = lines_to n told now ++ lines_for (suc n) (told (suc n)) (now (suc n))

-- the line of the focus, if it moved
abbrev pub lines_of_focus : ℕ → ℕ → List Line
lines_of_focus told now = if told == now then [] else Focus now ∷ []

-- the number to report: a known one that was not reported before
abbrev pub count_to_tell : Option ℕ → Option ℕ → Option ℕ
count_to_tell told None = None
count_to_tell None (Some now) = Some now
count_to_tell (Some told) (Some now) = if told == now then None else Some now

-- the line of a number to report
abbrev pub line_of_count : (ℕ → Line) → Option ℕ → List Line
line_of_count line None = []
line_of_count line (Some count) = line count ∷ []

-- the lines of the numbers of client instances that changed, of either kind
abbrev pub lines_of_counts : PaneList → PaneList → List Line
lines_of_counts told now =
    line_of_count Clients (count_to_tell told.clients now.clients) ++ line_of_count Watchers (count_to_tell told.watchers now.watchers)

-- the news of all nine panes, then the focus, and then the numbers of client instances
abbrev pub lines_between : PaneList → PaneList → List Line
lines_between told now =
    (lines_to 9 (pane_at told) (pane_at now) ++ lines_of_focus told.focus now.focus) ++ lines_of_counts told now

-- ---- readers

-- the knowledge of a subscriber
pub record Known : Type 0 where
  pub pane : ℕ → Option ListedPane
  pub focus : ℕ
  pub clients : Option ℕ
  pub watchers : Option ℕ

abbrev pub knows : PaneList → Known
knows known = record { pane = pane_at known; focus = known.focus; clients = known.clients; watchers = known.watchers }

-- its knowledge after a line
abbrev pub after : Known → Line → Known
after known (Here p pane) = record known { pane = (λ q. if q == p then Some pane else known.pane q) }
after known (Gone p) = record known { pane = (λ q. if q == p then None else known.pane q) }
after known (Focus p) = record known { focus = p }
after known (Clients n) = record known { clients = Some n }
after known (Watchers n) = record known { watchers = Some n }

-- a line says what he doesn't know
abbrev pub IsNews : Known → Line → Type 0
IsNews known (Here p pane) = known.pane p ≢ Some pane
IsNews known (Gone p) = IsSome (known.pane p)
IsNews known (Focus p) = known.focus ≢ p
IsNews known (Clients n) = known.clients ≢ Some n
IsNews known (Watchers n) = known.watchers ≢ Some n

-- each of these lines does, after those before it
abbrev pub AreNews : Known → List Line → Type 0
AreNews known [] = Unit {0}
AreNews known (line ∷ lines) = IsNews known line × AreNews (after known line) lines

-- ---- the laws

-- it knows each pane and the focus, and how many client instances are known if the list has that
pub record Agrees (known : Known) (now : PaneList) : Type 0 where
  pub panes : (p : ℕ) → 1 ≤ p → p ≤ 9 → known.pane p ≡ pane_at now p
  pub focus : known.focus ≡ now.focus
  pub clients : IfSome now.clients (λ n. known.clients ≡ Some n)
  pub watchers : IfSome now.watchers (λ n. known.watchers ≡ Some n)

abbrev pub LinesArrive : Type 0
LinesArrive = (told now : PaneList) → Agrees (fold after (knows told) (lines_between told now)) now

abbrev pub LinesAreNews : Type 0
LinesAreNews = (told now : PaneList) → AreNews (knows told) (lines_between told now)
