-- The effect of a dispatched function: it is never a size.
use Rattle.std.proofs.Common.{◌≡◌, ℕ, Bool, List, refl}
use Rattle.roam_text.specs.declared.functions.Dispatch.{Dispatch}
use Rattle.roam_text.specs.declared.functions.Dispatch.TheVariants.{Print, C0, C1, Esc, Csi}
use Rattle.roam_text.specs.Dispatched.{function_of}
use Rattle.roam_controls.specs.Commands.{command_of, parameters_of}
use Rattle.roam_history.specs.Histories.{Scrollback}
use Rattle.roam_term.specs.Marks.{marked_by, marks_performed}
use Rattle.roam_term.specs.Terminal.{Live, changed_by, commanded_by, history_after, rows_left, left_by, on_main, with_rows}

pub changed-dispatch : (d : Dispatch) (params inter : List ℕ) (l : Live)
    → changed_by (function_of d params inter) l ≡ commanded_by (command_of (function_of d params inter)) (parameters_of (function_of d params inter)) l
unfolding changed_by
changed-dispatch (Print c) params inter l = refl
changed-dispatch (C0 b) params inter l = refl
changed-dispatch (C1 b) params inter l = refl
changed-dispatch (Esc last) params inter l = refl
changed-dispatch (Csi mark last) params inter l = refl

pub marked-dispatch : (d : Dispatch) (params inter : List ℕ) (l : Live) (marks : List Bool)
    → marked_by (function_of d params inter) l marks
    ≡ marks_performed (command_of (function_of d params inter)) (parameters_of (function_of d params inter)) l marks
unfolding marked_by
marked-dispatch (Print c) params inter l marks = refl
marked-dispatch (C0 b) params inter l marks = refl
marked-dispatch (C1 b) params inter l marks = refl
marked-dispatch (Esc last) params inter l marks = refl
marked-dispatch (Csi mark last) params inter l marks = refl

pub kept-dispatch : (d : Dispatch) (params inter : List ℕ) (l : Live) (h : Scrollback)
    → history_after (function_of d params inter) l h ≡ with_rows (on_main l.alternate (left_by (command_of (function_of d params inter)) l)) h
unfolding history_after rows_left
kept-dispatch (Print c) params inter l h = refl
kept-dispatch (C0 b) params inter l h = refl
kept-dispatch (C1 b) params inter l h = refl
kept-dispatch (Esc last) params inter l h = refl
kept-dispatch (Csi mark last) params inter l h = refl
