-- The effect of a size on a terminal.
use Rattle.std.proofs.Common.{◌≡◌, ℕ, Bool, List, [], ◌∷◌, refl}
use Rattle.roam_text.specs.declared.functions.Function.TheVariants.{Size}
use Rattle.roam_grid.specs.Frames.{leaving, after_resizing}
use Rattle.roam_history.specs.Histories.{Scrollback}
use Rattle.roam_history.specs.Fitting.{after_refit}
use Rattle.roam_term.specs.Leaving.{top_rows}
use Rattle.roam_grid.specs.Marks.{all_on}
use Rattle.roam_term.specs.Marks.{marked_by, marked_through}
use Rattle.roam_term.specs.Terminal.{Live, sized_to, changed_by, live_after, rows_left, history_after, kept_by, answer, answers_after, on_main, with_rows}

pub cols-sized : (rows cols : ℕ) (l : Live) → (sized_to rows cols l).screen.cols ≡ cols
unfolding after_resizing
cols-sized rows cols l = refl

pub rows-sized : (rows cols : ℕ) (l : Live) → (sized_to rows cols l).screen.rows ≡ rows
unfolding after_resizing
rows-sized rows cols l = refl

pub lived-size : (rows cols : ℕ) (l : Live) → live_after l (Size rows cols ∷ []) ≡ sized_to rows cols l
unfolding changed_by
lived-size rows cols l = refl

pub kept-size : (rows cols : ℕ) (l : Live) (h : Scrollback)
    → kept_by l (Size rows cols ∷ []) h ≡ after_refit cols (with_rows (on_main l.alternate (top_rows (leaving rows l.screen) l.screen)) h)
unfolding history_after rows_left
kept-size rows cols l h = refl

pub answered-size : (rows cols : ℕ) (l : Live) → answers_after l (Size rows cols ∷ []) ≡ []
unfolding answer
answered-size rows cols l = refl

pub marked-size : (rows cols : ℕ) (l : Live) (marks : List Bool) → marked_through l (Size rows cols ∷ []) marks ≡ all_on
unfolding marked_by
marked-size rows cols l marks = refl
