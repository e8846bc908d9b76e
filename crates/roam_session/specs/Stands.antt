-- The log that a session of the code models.
use Rattle.std.specs.Prelude.{◌≡◌, ℕ, ◌<◌, ◌∷◌, ◌++◌, [], Bool, false, List, slice_index, slice_index_or, length, Option, Some, None}
use Rattle.std.specs.Option.{option_map}
use Rattle.roam_term.specs.Limits.{pane_lines}
use Rattle.roam_cells.specs.Limits.{IsSize}
use Rattle.roam_cells.specs.Place.{row_of}
use Rattle.roam_screens.specs.Screenshot.{Screenshot, blank_screenshot}
use Rattle.roam_grid.specs.Marks.{is_marked, all_off}
use Rattle.roam_text.specs.Log.{Item}
use Rattle.roam_term.specs.Picture.{picture_of}
use Rattle.roam_term.specs.Screens.{AreSizes}
use Rattle.roam_term.specs.Stands.{TermView, Stands as TermStands, HasSize}
use Rattle.roam_layout.specs.Faces.{KeepsRows, face as face_of}
use Rattle.roam_layout.specs.declared.rects.Rect.{Rect}
use Rattle.roam_layout.specs.Rects.{rect_in}
use Rattle.roam_layout.specs.Layouts.{Plan, panes}
use Rattle.roam_session.specs.Panes.{Pane}
use Rattle.roam_session.specs.Sessions.{Entry, SessionSize, session}
use Rattle.roam_session.specs.Marks.{marks_after}
use Rattle.roam_session.specs.Generations.{AreCounted}

-- the value of a session for contracts: its layout, a terminal or none at each number from 0 to 9, the marks of 200 rows, the kept face,
-- and how many panes of each number from 0 to 9 were ever made, modulo 2 ^ 64
pub record SessionView : Type 0 where
  pub plan : Plan
  pub terms : List (Option TermView)
  pub marks : List Bool
  pub kept : Screenshot
  pub generations : List ℕ

-- the terminal at a number
abbrev pub term_at : List (Option TermView) → ℕ → Option TermView
term_at terms k = slice_index_or terms k None

-- the bytes that wait in a pane that is there
abbrev pub waiting_at : List (Option TermView) → ℕ → Option (List ℕ)
waiting_at terms p = option_map (λ (t : TermView). t.waiting) (term_at terms p)

-- the generation of a pane that is there: the count of its number
abbrev pub generation_at : SessionView → ℕ → Option ℕ
generation_at s p = option_map (λ (t : TermView). slice_index s.generations p) (term_at s.terms p)

-- ---- the facts about every session

-- a terminal of its rectangle's size, or neither
abbrev pub IsPlaced : Option Rect → Option TermView → Type 0
IsPlaced None None = Unit {0}
IsPlaced None (Some t) = ⊥
IsPlaced (Some r) None = ⊥
IsPlaced (Some r) (Some t) = HasSize t r.rows r.cols

-- each pane of the layout has a terminal of its size, and no other number has one
abbrev pub ArePlaced : Plan → List (Option TermView) → Type 0
ArePlaced plan terms = (k : ℕ) → IsPlaced (rect_in k (panes plan)) (term_at terms k)

-- a terminal has read something whose sizes are those of screens, and none of its own marks is on
pub record IsQuiet (t : TermView) : Type 0 where
  pub rows : ℕ
  pub cols : ℕ
  pub lines : ℕ
  pub log : List Item
  pub size : IsSize rows cols
  pub sizes : AreSizes log
  pub stands : TermStands t rows cols lines log
  pub marks : t.marks ≡ all_off

abbrev pub IsQuietAt : Option TermView → Type 0
IsQuietAt None = Unit {0}
IsQuietAt (Some t) = IsQuiet t

-- the picture of a terminal at a view; none shows nothing
abbrev pub shown_at : ℕ → Option TermView → Screenshot
shown_at view None = blank_screenshot 2 4
shown_at view (Some t) = picture_of t.live t.history view

-- the picture at a number, at its view in a layout
abbrev pub shown_by : Plan → List (Option TermView) → ℕ → Screenshot
shown_by plan terms k = shown_at (slice_index plan.views k) (term_at terms k)

-- the face now
abbrev pub face_now : SessionView → Screenshot
face_now s = face_of s.plan (shown_by s.plan s.terms)

-- each pane has its terminal, whose own marks are cleared, and the kept face has each unmarked row of the face now
pub record IsSession (s : SessionView) : Type 0 where
  pub ten : length s.terms ≡ 10
  pub placed : ArePlaced s.plan s.terms
  pub quiet : (k : ℕ) → IsQuietAt (term_at s.terms k)
  pub kept : KeepsRows s.marks s.kept s.plan (shown_by s.plan s.terms)

-- a session that keeps a face
abbrev pub keeping : Screenshot → SessionView → SessionView
keeping shot s = record s { marks = all_off; kept = shot }

-- ---- logs

-- a terminal is that of a pane
pub record IsOf (t : TermView) (p : Pane) : Type 0 where
  pub stands : TermStands t p.rows p.cols pane_lines p.log
  pub waiting : t.waiting ≡ p.waiting

-- a terminal is there exactly if a pane is
abbrev pub Agrees : Option TermView → Option Pane → Type 0
Agrees None None = Unit {0}
Agrees None (Some p) = ⊥
Agrees (Some t) None = ⊥
Agrees (Some t) (Some p) = IsOf t p

-- the session is the result of a size and a log
pub record Stands (s : SessionView) (size : SessionSize) (log : List Entry) : Type 0 where
  pub plan : s.plan ≡ (session size log).plan
  pub panes : (k : ℕ) → Agrees (term_at s.terms k) ((session size log).pane k)
  pub generations : AreCounted s.generations size log

-- an entry makes one session of another: for every log that the old one models, the new one models it followed by the entry
abbrev pub Appends : SessionView → SessionView → Entry → Type 0
Appends old new entry = (size : SessionSize) (log : List Entry) → Stands old size log → Stands new size (log ++ entry ∷ [])

-- an entry leaves the kept face, and the marks that it makes of those before it
pub record MarksRows (old new : SessionView) (entry : Entry) : Type 0 where
  pub kept : new.kept ≡ old.kept
  pub marks : (size : SessionSize) (log : List Entry) → Stands old size log
      → new.marks ≡ marks_after (session size log) entry old.marks

-- each of the first so many rows without a mark is in a kept screen as in another
abbrev pub KeptIn : Screenshot → Screenshot → ℕ → List Bool → Type 0
KeptIn kept shot rows marks =
    (r : ℕ) → r < rows → is_marked marks r ≡ false → row_of shot.cols kept.cells r ≡ row_of shot.cols shot.cells r
