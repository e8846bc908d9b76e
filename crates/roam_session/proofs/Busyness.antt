-- No layout command finds a queue full, and no key changes the layout.
use Rattle.std.proofs.Common.{◌≡◌, refl, Bool, true, false, cond, length, Option, Some, None}
use Rattle.std.specs.Prelude.{nat_le}
use Rattle.roam_keys.specs.declared.keys.Key.{Key as KeyOfKeyboard}
use Rattle.roam_acts.specs.declared.acts.Act.{Act}
use Rattle.roam_acts.specs.declared.acts.Act.TheVariants.{Key, SplitRight, SplitDown, Close, Focus, Next, Grow, Size, View}
use Rattle.roam_cells.specs.declared.faults.Fault.TheVariants.{Busy}
use Rattle.roam_layout.specs.Trees.{Shape, leaves, has, is_one}
use Rattle.roam_layout.specs.Rects.{is_roomy, spot, after_growth, fits_in}
use Rattle.roam_layout.specs.Layouts.{Plan, Outcome, Laid, Refused, outcome_of, split, with_tree, is_session_size, area}
use Rattle.roam_layout.specs.declared.rects.Way.{Way}
use Rattle.roam_layout.specs.declared.rects.Way.TheVariants.{Right, Down}
use Rattle.roam_session.specs.Sessions.{key_in}

abbrev IsFree : Outcome → Type 0
IsFree o = o ≡ Refused Busy → ⊥

either : (v : Bool) (x y : Outcome) → IsFree x → IsFree y → IsFree (cond v x y)
either true x y one other = one
either false x y one other = other

split_free : (way : Way) (s : Plan) → IsFree (split way s)
split_free way s =
    either (nat_le 9 (length (leaves s.tree))) _ _ (λ e. cc)
    (either (is_roomy way (spot s.focus s.tree (area s.rows s.cols))) _ _ (λ e. cc) (λ e. cc))

tree_free : (s : Plan) (t : Option Shape) → IsFree (with_tree s t)
tree_free s None = λ e. cc
tree_free s (Some t) = λ e. cc

pub never_busy : (s : Plan) (act : Act) → IsFree (outcome_of s act)
never_busy s (Key k) = λ e. cc
never_busy s SplitRight = split_free Right s
never_busy s SplitDown = split_free Down s
never_busy s Close = either (is_one s.focus s.tree) _ _ (λ e. cc) (λ e. cc)
never_busy s (Focus p) = either (has p s.tree) _ _ (λ e. cc) (λ e. cc)
never_busy s Next = λ e. cc
never_busy s (Grow d) = either (is_one s.focus s.tree) _ _ (λ e. cc) (tree_free s (after_growth s.focus d s.tree (area s.rows s.cols)))
never_busy s (Size r c) = either (is_session_size r c) _ _ (either (fits_in s.tree (area r c)) _ _ (λ e. cc) (λ e. cc)) (λ e. cc)
never_busy s (View d) = λ e. cc

-- a key leaves the layout
pub keys_are_laid : (s : Plan) (act : Act) (key : KeyOfKeyboard) → key_in act ≡ Some key → outcome_of s act ≡ Laid s
keys_are_laid s (Key k) key e = refl
keys_are_laid s SplitRight key e = cc
keys_are_laid s SplitDown key e = cc
keys_are_laid s Close key e = cc
keys_are_laid s (Focus p) key e = cc
keys_are_laid s Next key e = cc
keys_are_laid s (Grow d) key e = cc
keys_are_laid s (Size r c) key e = cc
keys_are_laid s (View d) key e = cc
