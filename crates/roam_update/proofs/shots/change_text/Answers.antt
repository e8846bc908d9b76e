use Rattle.std.proofs.Common.{◌≡◌, ◌∙◌, ◌++◌, ℕ, List, [], length, ap, arith}
use Rattle.roam_update.specs.ChangeText.{head_of}
use Rattle.roam_update.specs.Numbers.{styles_in, form_in, runs_said}
use Rattle.roam_update.specs.Shots.{change_to}
use Rattle.roam_update.specs.Styles.{Form, Numbered, styles_used}
use Rattle.roam_update.specs.TableText.{joined_text}
use Rattle.roam_update.proofs.Joined.{few_styles, joined_is, styles_behind}
use Rattle.roam_update.proofs.shots.change_text.Goals as goal

pub returns-clause-text : goal.returns-clause-text
returns-clause-text g c =
    let base = g.B.Seen.screen c.args.base.now in
    let shot = g.S.Seen.screen c.args.shot.now in
    let runs = (change_to base shot).runs in
    let body = c.deref.result.now in
    let said : body ≡ [] ++ runs_said (Numbered [] 0) runs =
    c.deref.ensures.value ∙ c.in_ok-runs.ensures.runs ∙ ap (λ (x : List ℕ). x ++ runs_said (form_in c.new-numbers.result) runs) c.new-body.ensures.items
    ∙ ap (λ (f : Form). [] ++ runs_said f runs) c.new-numbers.ensures.none in
    let styles : styles_in c.add_changes.new.numbers ≡ styles_used [] runs =
    styles_behind base shot c.add_changes.new.numbers (form_in c.new-numbers.result) c.new-numbers.ensures.none c.in_ok-runs.ensures.form in
    let head : c.head_of.result ≡ head_of (change_to base shot) =
    c.head_of.ensures.head ∙ (λ i. record (head_of (change_to base shot)) { runs = c.in_ok-runs.ensures.count i }) in
    c.in_ok-text.ensures.text
    ∙ (λ i. joined_text (head i) (styles i) (c.in_ok-runs.ensures.count i) body)
    ∙ joined_is base shot body said

pub joined-requires-clause-few : goal.joined-requires-clause-few
joined-requires-clause-few g c =
    let base = g.B.Seen.screen c.args.base.now in
    let shot = g.S.Seen.screen c.args.shot.now in
    let styles : styles_in c.add_changes.new.numbers ≡ styles_used [] (change_to base shot).runs =
    styles_behind base shot c.add_changes.new.numbers (form_in c.new-numbers.result) c.new-numbers.ensures.none c.in_ok-runs.ensures.form in
    omega (arith, few_styles base shot c.facts.ensures.screenshot, ap length styles)
