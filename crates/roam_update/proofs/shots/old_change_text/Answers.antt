use Rattle.std.proofs.Common.{◌≡◌, ◌∙◌, ◌++◌, ℕ, List, ap}
use Rattle.roam_update.specs.ChangeText.{head_of, head_text}
use Rattle.roam_update.specs.Numbers.{form_in, runs_said}
use Rattle.roam_update.specs.Shots.{change_to, difference_one}
use Rattle.roam_update.proofs.Joined.{whole_is}
use Rattle.roam_update.proofs.shots.old_change_text.Goals as goal

pub returns : goal.returns
returns g c =
    let base = g.B.Seen.screen c.args.base.now in
    let shot = g.S.Seen.screen c.args.shot.now in
    let runs = (change_to base shot).runs in
    let f = form_in c.none-numbers.result in
    let body : c.deref.result.now ≡ runs_said f runs =
    c.deref.ensures.value ∙ c.in_ok-runs.ensures.runs ∙ ap (λ (x : List ℕ). x ++ runs_said f runs) c.new-body.ensures.items in
    let head : c.head_of.result ≡ head_of (change_to base shot) =
    c.head_of.ensures.head ∙ (λ i. record (head_of (change_to base shot)) { runs = c.in_ok-runs.ensures.count i }) in
    let front : c.in_ok-text.text.items ≡ head_text (head_of (change_to base shot)) = c.in_ok-text.ensures.items ∙ c.bytes.ensures.bytes ∙ ap head_text head in
    let all : c.extend_from_slice.new.self.items ≡ difference_one base shot =
    c.in_ok-extend_from_slice.ensures.items ∙ ap (λ (x : List ℕ). x ++ c.deref.result.now) front
    ∙ whole_is base shot f c.deref.result.now c.none-numbers.ensures.whole body in
    record { text = all }
