-- The parts of a layout that a layout command leaves, if it shows no row anew.
use Rattle.std.proofs.Common.{◌≡◌, ◌≢◌, ℕ, true, false, cond, leb, length, Option, Some, None, refl, sym, ap, ◌∙◌, subst, get_or-set_other}
use Rattle.std.specs.Prelude.{slice_index}
use Rattle.std.proofs.lemmas.Bool.{cond_both, false≢true, leb-false}
use Rattle.roam_acts.specs.declared.acts.Act.{Act}
use Rattle.roam_acts.specs.declared.acts.Act.TheVariants.{Key, SplitRight, SplitDown, Close, Focus, Next, Grow, Size, View}
use Rattle.roam_cells.specs.declared.faults.Fault.TheVariants.{LastPane, NoPane, PanesFull, TooSmall, BadSize}
use Rattle.roam_layout.specs.Trees.{Shape, leaves, has, is_one, free}
use Rattle.roam_layout.specs.Rects.{is_roomy, spot, after_growth, fits_in}
use Rattle.roam_layout.specs.Layouts.{Plan, Outcome, Laid, Refused, outcome_of, split, with_tree, is_session_size, area}
use Rattle.roam_layout.specs.declared.rects.Way.{Way}
use Rattle.roam_layout.specs.declared.rects.Way.TheVariants.{Right, Down}
use Rattle.roam_layout.proofs.Counting.{free_is_free}
use Rattle.roam_session.specs.Marks.{is_shown_anew}

-- a pane isn't the one whose view moves
abbrev pub IsUnviewed : Act → Plan → ℕ → Type 0
IsUnviewed (View d) t k = k ≢ t.focus
IsUnviewed act t k = Unit {0}

pub record IsSamePlan (act : Act) (s t : Plan) : Type 0 where
  pub size : (r : ℕ) → is_shown_anew act t r ≡ false → (t.rows ≡ s.rows) × (t.cols ≡ s.cols)
  pub views : (k : ℕ) → has k s.tree ≡ true → IsUnviewed act t k → slice_index t.views k ≡ slice_index s.views k

abbrev IfSame : Act → Plan → Outcome → Type 0
IfSame act s (Laid t) = IsSamePlan act s t
IfSame act s (Refused fault) = Unit {0}

plain : (act : Act) (s t : Plan) → t.rows ≡ s.rows → t.cols ≡ s.cols → t.views ≡ s.views → IsSamePlan act s t
plain act s t rows cols views = record { size = λ r h. (rows, cols); views = λ k h u. ap (λ l. slice_index l k) views }

split_same : (act : Act) (w : Way) (s : Plan) → IfSame act s (split w s)
split_same act w s =
    let n = free s.tree in
    cond_both (leb 9 (length (leaves s.tree))) (Refused PanesFull)
    (cond (is_roomy w (spot s.focus s.tree (area s.rows s.cols))) (Laid _) (Refused TooSmall)) (IfSame act s) (λ e. tt)
    (λ e. cond_both (is_roomy w (spot s.focus s.tree (area s.rows s.cols))) (Laid _) (Refused TooSmall) (IfSame act s)
    (λ roomy. record {
      size = λ r h. (refl, refl);
      views = λ k h u.
          get_or-set_other s.views n k 0 0
          (λ same. false≢true (sym (free_is_free s.tree (leb-false 9 (length (leaves s.tree)) e)) ∙ ap (λ j. has j s.tree) (sym same) ∙ h));
    })
    (λ e. tt))

grown_same : (d : _) (s : Plan) (o : Option Shape) → IfSame (Grow d) s (with_tree s o)
grown_same d s None = tt
grown_same d s (Some t) = plain (Grow d) s (record s { tree = t }) refl refl refl

laid_same : (act : Act) (s : Plan) → IfSame act s (outcome_of s act)
laid_same (Key k) s = plain (Key k) s s refl refl refl
laid_same SplitRight s = split_same SplitRight Right s
laid_same SplitDown s = split_same SplitDown Down s
laid_same Close s =
    cond_both (is_one s.focus s.tree) (Refused LastPane) (Laid _) (IfSame Close s) (λ e. tt)
    (λ e. record { size = λ r h. (refl, refl); views = λ k h u. refl })
laid_same (Focus p) s =
    cond_both (has p s.tree) (Laid _) (Refused NoPane) (IfSame (Focus p) s)
    (λ e. record { size = λ r h. (refl, refl); views = λ k h u. refl }) (λ e. tt)
laid_same Next s = record { size = λ r h. (refl, refl); views = λ k h u. refl }
laid_same (Grow d) s =
    cond_both (is_one s.focus s.tree) (Refused LastPane) (with_tree s (after_growth s.focus d s.tree (area s.rows s.cols))) (IfSame (Grow d) s)
    (λ e. tt) (λ e. grown_same d s (after_growth s.focus d s.tree (area s.rows s.cols)))
laid_same (Size r c) s =
    cond_both (is_session_size r c) (cond (fits_in s.tree (area r c)) (Laid _) (Refused TooSmall)) (Refused BadSize) (IfSame (Size r c) s)
    (λ size. cond_both (fits_in s.tree (area r c)) (Laid _) (Refused TooSmall) (IfSame (Size r c) s)
    (λ fits. record { size = λ j h. absurd (false≢true (sym h)); views = λ k h u. refl }) (λ e. tt))
    (λ e. tt)
laid_same (View d) s = record { size = λ r h. (refl, refl); views = λ k h u. get_or-set_other s.views s.focus k _ 0 u }

pub same_plan : (act : Act) (s t : Plan) → outcome_of s act ≡ Laid t → IsSamePlan act s t
same_plan act s t e = subst (IfSame act s) e (laid_same act s)
