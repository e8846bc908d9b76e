-- The text of a diff from its parts.
use Rattle.std.proofs.Common.{◌≡◌, ℕ, ◌*◌, ◌≤◌, List, [], ◌++◌, length, refl, ap, ◌∙◌, arith}
use Rattle.roam_screens.specs.Screenshot.{Screenshot, IsScreenshot}
use Rattle.roam_update.specs.ChangeText.{head_of, head_text}
use Rattle.roam_update.specs.Numbers.{styles_in, form_in, form_behind, runs_said}
use Rattle.roam_update.specs.Shots.{change_to, difference_one, difference_two}
use Rattle.roam_update.specs.Styles.{Form, Whole, Numbered, styles_used}
use Rattle.roam_update.specs.declared.numbers.Numbers.{Numbers}
use Rattle.roam_update.proofs.ChangeAgain.{is_change_to}
use Rattle.roam_update.specs.TableText.{joined_text}
use Rattle.roam_update.proofs.Said.{styles_are, behind_table, runs_same, runs_whole}
use Rattle.roam_update.proofs.Sizing.{area}
use Rattle.roam_update.proofs.UsedUp.{count_all}

-- a diff has no more styles than a screen has places
pub few_styles : (base s : Screenshot) → IsScreenshot s → length (styles_used [] (change_to base s).runs) ≤ 100000
few_styles base s h =
    let is = is_change_to base s h in
    let count = count_all (s.rows * s.cols) (change_to base s).runs is.apart in
    let few = area s.rows s.cols h.size.most_rows h.size.most_columns in
    omega (arith, count, few)

-- the parts of a diff's text are that text
pub joined_is : (base s : Screenshot) (body : List ℕ) → body ≡ [] ++ runs_said (Numbered [] 0) (change_to base s).runs
    → joined_text (head_of (change_to base s)) (styles_used [] (change_to base s).runs) (length (change_to base s).runs) body ≡ difference_two base s
joined_is base s body e =
    let x = change_to base s in
    ap (joined_text (head_of x) (styles_used [] x.runs) (length x.runs)) (e ∙ runs_same [] (styles_used [] x.runs) x.runs refl)

-- the styles behind all runs
pub styles_behind : (base s : Screenshot) (n : Numbers) (f : Form) → f ≡ Numbered [] 0 → form_in n ≡ form_behind f (change_to base s).runs
    → styles_in n ≡ styles_used [] (change_to base s).runs
styles_behind base s n f is e =
    let runs = (change_to base s).runs in
    styles_are n (styles_used [] runs) (e ∙ ap (λ (x : Form). form_behind x runs) is ∙ behind_table [] 0 runs)

-- a head and the runs behind it
pub whole_is : (base s : Screenshot) (f : Form) (body : List ℕ) → f ≡ Whole → body ≡ runs_said f (change_to base s).runs
    → head_text (head_of (change_to base s)) ++ body ≡ difference_one base s
whole_is base s f body is e =
    let x = change_to base s in
    ap (λ (t : List ℕ). head_text (head_of x) ++ t) (e ∙ ap (λ (y : Form). runs_said y x.runs) is ∙ runs_whole x.runs)
