use Rattle.roam_rows.proofs.Scrolls.{cleared_is}
use Rattle.roam_rows.proofs.rings.Ring.blank_rows.Goals as goal

pub returns : goal.returns
returns c =
    let a = c.args in
    record { ring = cleared_is a.from a.to a.self.now c.clear_rows.new.self c.facts.ensures.rows c.facts-2.ensures.rows c.clear_rows.ensures.shape c.clear_rows.ensures.blanked }
