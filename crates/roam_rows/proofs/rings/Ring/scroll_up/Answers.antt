use Rattle.std.proofs.Common.{◌∙◌, ◌-◌, min, ap}
use Rattle.roam_rows.specs.Vertical.{AreBlanked}
use Rattle.roam_rows.proofs.Scrolls.{all_up_is}
use Rattle.roam_rows.proofs.rings.Ring.scroll_up.Goals as goal

pub returns : goal.returns
returns c =
    let v = c.args.self.now in
    let w = c.turn.new.self in
    let x = c.clear_rows.new.self in
    let m = c.min-n.result in
    let blanked : AreBlanked w.rows w.cols (v.rows - m) v.rows w.cells x.cells = rw (← c.rows-rows.ensures.rows) c.clear_rows.ensures.blanked in
    record { ring = all_up_is c.args.n m v w x c.facts.ensures.rows c.facts-2.ensures.rows (c.min-n.ensures ∙ ap (min c.args.n) c.rows-rows.ensures.rows) c.turn.ensures.turned c.clear_rows.ensures.shape blanked }
