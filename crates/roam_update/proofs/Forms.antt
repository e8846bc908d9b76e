-- The spelling of styles by cells: the form behind a cell, and the cells that can be spelled.
use Rattle.std.proofs.Common.{◌≡◌, ℕ, zero, suc, ◌^◌, ◌<◌, ◌≤◌, true, cond, List, [], ◌∷◌, length, Some, refl, sym, ap, subst, ◌∙◌, arith, inl, inr}
use Rattle.std.specs.Prelude.{All, slice_get}
use Rattle.std.proofs.lemmas.Bool.{cases_Bool}
use Rattle.std.proofs.lemmas.List.Elements.{All-nil, All-cons, All-head, All-tail}
use Rattle.roam_cells.specs.Glyph.{Glyph}
use Rattle.roam_cells.specs.declared.styles.Style.{Style}
use Rattle.roam_update.specs.CellText.{is_short_style, cells_text}
use Rattle.roam_update.specs.ChangeText.{AreShort, runs_text}
use Rattle.roam_update.specs.Runs.{Run}
use Rattle.roam_cells.specs.Same.{same_style}
use Rattle.roam_update.specs.Styles.{Form, Whole, Numbered, number_in, used_after, is_used_up}
use Rattle.roam_cells.proofs.SameCells.{style_same}

-- how cells say their styles behind one of a style
abbrev pub past : Form → Style → Form
past Whole s = Whole
past (Numbered table used) s = Numbered table (used_after used (number_in table s))

-- and behind several
abbrev pub past_all : Form → List Glyph → Form
past_all f [] = f
past_all f (g ∷ gs) = past_all (past f g.style) gs

-- a style that can be said: its colours have two bytes each, or it has been used, or it is the next of the table
abbrev pub Fits : Form → Style → Type 0
Fits Whole s = is_short_style s ≡ true
Fits (Numbered table used) s = (number_in table s ≤ used) × (number_in table s < length table)

-- cells that can be said one after the other
abbrev pub TakesCells : Form → List Glyph → Type 0
TakesCells f [] = Unit {0}
TakesCells f (g ∷ gs) = Fits f g.style × TakesCells (past f g.style) gs

-- runs that can be said, behind which all styles of a table have been used
abbrev pub TakesRuns : Form → List Run → Type 0
TakesRuns f [] = is_used_up f ≡ true
TakesRuns f (run ∷ runs) = TakesCells f run.cells × TakesRuns (past_all f run.cells) runs

-- a table whose numbers have three bytes, with each style once
pub record IsTable (table : List Style) : Type 0 where
  pub few : length table < 256 ^ 3
  pub once : (k : ℕ) (s : Style) → slice_get table k ≡ Some s → number_in table s ≡ k

abbrev pub IsForm : Form → Type 0
IsForm Whole = Unit {0}
IsForm (Numbered table used) = IsTable table

pub form_past : (f : Form) (s : Style) → IsForm f → IsForm (past f s)
form_past Whole s h = h
form_past (Numbered table used) s h = h

pub form_past_all : (f : Form) (gs : List Glyph) → IsForm f → IsForm (past_all f gs)
form_past_all f [] h = h
form_past_all f (g ∷ gs) h = form_past_all (past f g.style) gs (form_past f g.style h)

-- how far a table has been used is no part of a cell's text
pub cells_past : (f : Form) (s : Style) (gs : List Glyph) → cells_text (past f s) gs ≡ cells_text f gs
cells_past Whole s gs = refl
cells_past (Numbered table used) s gs = refl

runs_past : (f : Form) (s : Style) (runs : List Run) → runs_text (past f s) runs ≡ runs_text f runs
runs_past Whole s runs = refl
runs_past (Numbered table used) s runs = refl

pub runs_past_all : (f : Form) (gs : List Glyph) (runs : List Run) → runs_text (past_all f gs) runs ≡ runs_text f runs
runs_past_all f [] runs = refl
runs_past_all f (g ∷ gs) runs = runs_past_all (past f g.style) gs runs ∙ runs_past f g.style runs

-- a style is at the place of its number
pub stands : (table : List Style) (s : Style) → number_in table s < length table → slice_get table (number_in table s) ≡ Some s
stands [] s h = absurd (omega arith)
stands (t ∷ table) s h =
    elim (cases_Bool (same_style s t)) [
      | inl e ↦ rw e (ap (λ (x : Style). Some x) (sym (style_same s t e)))
      | inr e ↦ rw e (stands table s (let less : cond (same_style s t) 0 (suc (number_in table s)) < suc (length table) = h in omega (arith, rw e at less)))
    ]

pub place_below : (table : List Style) (k : ℕ) (s : Style) → slice_get table k ≡ Some s → k < length table
place_below [] k s e = absurd cc
place_below (t ∷ table) zero s e = omega arith
place_below (t ∷ table) (suc k) s e = let h = place_below table k s e in omega (arith, h)

-- ---- cells that say their styles in full

abbrev IsShort : Glyph → Type 0
IsShort g = is_short_style g.style ≡ true

abbrev AreShortCells : Run → Type 0
AreShortCells run = All IsShort run.cells

pub short_cells : (gs : List Glyph) → All IsShort gs → TakesCells Whole gs
short_cells [] h = tt
short_cells (g ∷ gs) h = (All-head IsShort g gs h, short_cells gs (All-tail IsShort g gs h))

pub whole_past : (gs : List Glyph) → past_all Whole gs ≡ Whole
whole_past [] = refl
whole_past (g ∷ gs) = whole_past gs

pub short_runs : (runs : List Run) → AreShort runs → TakesRuns Whole runs
short_runs [] h = refl
short_runs (run ∷ runs) h = (
  short_cells run.cells (All-head AreShortCells run runs h),
  subst (λ (f : Form). TakesRuns f runs) (sym (whole_past run.cells)) (short_runs runs (All-tail AreShortCells run runs h)),
)

cells_short : (gs : List Glyph) → TakesCells Whole gs → All IsShort gs
cells_short [] h = All-nil IsShort
cells_short (g ∷ gs) h = All-cons IsShort g gs h.0 (cells_short gs h.1)

pub runs_short : (runs : List Run) → TakesRuns Whole runs → AreShort runs
runs_short [] h = All-nil AreShortCells
runs_short (run ∷ runs) h =
    All-cons AreShortCells run runs (cells_short run.cells h.0)
    (runs_short runs (subst (λ (f : Form). TakesRuns f runs) (whole_past run.cells) h.1))
