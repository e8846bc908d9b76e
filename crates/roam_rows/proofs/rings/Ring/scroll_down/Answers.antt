use Rattle.std.proofs.Common.{◌∙◌, ◌-◌, ℕ, min, ap, subst}
use Rattle.roam_rows.specs.Vertical.{AreTurned}
use Rattle.roam_rows.proofs.Scrolls.{all_down_is}
use Rattle.roam_rows.proofs.rings.Ring.scroll_down.Goals as goal

pub returns : goal.returns
returns c =
    let v = c.args.self.now in
    let w = c.turn.new.self in
    let x = c.clear_rows.new.self in
    let m = c.min-n.result in
    let turned : AreTurned (v.rows - m) v w = subst (λ (k : ℕ). AreTurned (k - m) v w) c.rows-rows.ensures.rows c.turn.ensures.turned in
    record { ring = all_down_is c.args.n m v w x c.facts.ensures.rows c.facts-2.ensures.rows (c.min-n.ensures ∙ ap (min c.args.n) c.rows-rows.ensures.rows) turned c.clear_rows.ensures.shape c.clear_rows.ensures.blanked }
