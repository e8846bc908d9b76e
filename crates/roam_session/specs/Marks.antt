-- Marks: which rows of the screen of a session may show something else than in the face that was kept (this project's profile).
use Rattle.std.specs.Prelude.{◌≡◌, ℕ, ◌+◌, ◌-◌, ◌<◌, ◌==◌, ◌&&◌, ◌||◌, not, Bool, true, false, List, ◌++◌, map, drop, length, slice_index, Option, Some, None, if◌then◌else◌}
use Rattle.std.specs.List.{list_any}
use Rattle.roam_acts.specs.declared.acts.Act.{Act}
use Rattle.roam_acts.specs.declared.acts.Act.TheVariants.{Size, View}
use Rattle.roam_keys.specs.declared.keys.Key.{Key as KeyOfKeyboard}
use Rattle.roam_grid.specs.Marks.{is_marked, all_off, also_marked}
use Rattle.roam_text.specs.Functions.{functions_of}
use Rattle.roam_text.specs.Log.{Byte}
use Rattle.roam_text.specs.declared.functions.Function.{Function}
use Rattle.roam_term.specs.Marks.{marked_through}
use Rattle.roam_layout.specs.Trees.{has}
use Rattle.roam_layout.specs.Rects.{rect_in, within}
use Rattle.roam_layout.specs.Layouts.{Plan, Outcome, Laid, Refused, outcome_of, panes, edges}
use Rattle.roam_layout.specs.declared.rects.Rect.{Rect}
use Rattle.roam_layout.specs.declared.rects.Way.{Way}
use Rattle.roam_layout.specs.declared.rects.Way.TheVariants.{Right, Down}
use Rattle.roam_session.specs.Panes.{Pane, live_of}
use Rattle.roam_session.specs.Sessions.{Entry, Given, Did, Drained, SessionState, key_in}

-- ---- bytes of a pane's program

-- the view of a pane of a layout
abbrev pub view_in : Plan → ℕ → Option ℕ
view_in plan p = if has p plan.tree then Some (slice_index plan.views p) else None

-- The rows, from 0, of a session of so many rows that a pane in a rectangle changes at a view: the named ones of its terminal, or, scrolled
-- back, all and the status row.
abbrev pub is_touched : Rect → ℕ → ℕ → List Bool → ℕ → Bool
is_touched x view rows named r =
    if view == 0 then within x.row x.rows (r + 1) && is_marked named (r + 1 - x.row)
    else within x.row x.rows (r + 1) || r + 1 == rows

-- they are marked too; a pane that isn't there marks none
abbrev pub touched_marks : Option Rect → Option ℕ → ℕ → List Bool → List Bool → List Bool
touched_marks None view rows named marks = marks
touched_marks (Some x) None rows named marks = marks
touched_marks (Some x) (Some view) rows named marks = also_marked (is_touched x view rows named) marks

-- the functions that bytes give a pane's terminal, after all that it was given before
abbrev pub functions_given : Pane → List ℕ → List Function
functions_given p bytes = drop (length (functions_of p.log)) (functions_of (p.log ++ map Byte bytes))

-- the rows that they name
abbrev pub named_by : List ℕ → Option Pane → List Bool
named_by bytes None = all_off
named_by bytes (Some p) = marked_through (live_of p) (functions_given p bytes) all_off

-- ---- layout commands

abbrev pub is_same_rect : Rect → Rect → Bool
is_same_rect x y = x.row == y.row && x.col == y.col && x.rows == y.rows && x.cols == y.cols

abbrev pub is_same_way : Way → Way → Bool
is_same_way Right Right = true
is_same_way Down Down = true
is_same_way Right Down = false
is_same_way Down Right = false

abbrev pub is_same_pane : ℕ × Rect → ℕ × Rect → Bool
is_same_pane x y = x.0 == y.0 && is_same_rect x.1 y.1

abbrev pub is_same_border : Way × Rect → Way × Rect → Bool
is_same_border x y = is_same_way x.0 y.0 && is_same_rect x.1 y.1

-- whether a row, from 1, has a part of one of these that isn't among others
abbrev pub loses_pane : ℕ → List (ℕ × Rect) → List (ℕ × Rect) → Bool
loses_pane r xs ys = list_any (λ (x : ℕ × Rect). within x.1.row x.1.rows r && not (list_any (λ y. is_same_pane x y) ys)) xs

abbrev pub loses_border : ℕ → List (Way × Rect) → List (Way × Rect) → Bool
loses_border r xs ys = list_any (λ (x : Way × Rect). within x.1.row x.1.rows r && not (list_any (λ y. is_same_border x y) ys)) xs

-- whether a row, from 1, is in the rectangle of a pane or border that comes, goes or changes
abbrev pub is_relaid : Plan → Plan → ℕ → Bool
is_relaid old new r =
    loses_pane r (panes old) (panes new) || loses_pane r (panes new) (panes old)
    || loses_border r (edges old) (edges new) || loses_border r (edges new) (edges old)

-- whether a rectangle has a row
abbrev pub has_row : Option Rect → ℕ → Bool
has_row None r = false
has_row (Some x) r = within x.row x.rows r

-- the rows that an act concerns beside: all for another size, the pane in focus for a view
abbrev pub is_shown_anew : Act → Plan → ℕ → Bool
is_shown_anew (Size rows cols) new r = true
is_shown_anew (View d) new r = has_row (rect_in new.focus (panes new)) r
is_shown_anew act new r = false

-- the rows, from 0, that a layout command concerns: those, and the status row
abbrev pub is_concerned : Act → Plan → Plan → ℕ → Bool
is_concerned act old new r = r + 1 == new.rows || is_shown_anew act new (r + 1) || is_relaid old new (r + 1)

abbrev pub marks_laid : Act → Plan → Outcome → List Bool → List Bool
marks_laid act old (Laid new) marks = also_marked (is_concerned act old new) marks
marks_laid act old (Refused fault) marks = marks

-- a key leaves the layout
abbrev pub marks_acted : Option KeyOfKeyboard → Act → SessionState → List Bool → List Bool
marks_acted (Some key) act s marks = marks
marks_acted None act s marks = marks_laid act s.plan (outcome_of s.plan act) marks

-- ---- one entry

-- the marks after an entry, on the session before it
abbrev pub marks_after : SessionState → Entry → List Bool → List Bool
marks_after s (Given p bytes) marks =
    touched_marks (rect_in p (panes s.plan)) (view_in s.plan p) s.plan.rows (named_by bytes (s.pane p)) marks
marks_after s (Did client act) marks = marks_acted (key_in act) act s marks
marks_after s (Drained p n) marks = marks

-- an entry puts on the marks that it puts on if none is on, whatever was marked before: so none goes off
abbrev pub MarksAreAdded : Type 0
MarksAreAdded =
    (s : SessionState) (entry : Entry) (marks : List Bool) (r : ℕ) → r < 200
    → is_marked (marks_after s entry marks) r ≡ (is_marked marks r || is_marked (marks_after s entry all_off) r)
