use Rattle.std.proofs.Common.{◌≡◌, ap, subst, ◌∙◌}
use Rattle.std.specs.Prelude.{IfOk, IfSome}
use Rattle.roam_rewrap.specs.Windows.{place_of, position_at, reflow_at}
use Rattle.roam_rewrap.specs.Wrapping.{rewrapped}
use Rattle.roam_rewrap.proofs.windows.Reflow.of.Goals as goal

pub returns-clause-reflowed : goal.returns-clause-reflowed
returns-clause-reflowed c =
    let text = c.args.text.now in
    let rows = c.args.rows in
    let cols = c.args.cols in
    let visible = c.args.visible in
    let all = c.in_ok-all.all.items in
    let position = position_at text c.args.cursor in
    subst (λ x. IfOk c.at.result (λ made. IfSome made (λ reflow. reflow ≡ x)))
    (ap (λ p. reflow_at all p rows cols visible) (c.in-Some.ensures.place ∙ ap (place_of position) c.deref.ensures.value)
    ∙ ap (λ l. reflow_at l (place_of position l) rows cols visible)
    (c.in_ok-all.ensures.rows ∙ ap (λ n. rewrapped n text) c.from.ensures))
    c.at.ensures.reflowed
