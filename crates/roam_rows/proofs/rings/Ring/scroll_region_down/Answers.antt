use Rattle.roam_rows.proofs.Scrolls.{region_down_is}
use Rattle.roam_rows.proofs.rings.Ring.scroll_region_down.Goals as goal

pub returns : goal.returns
returns c =
    let a = c.args in
    record {
      ring =
          region_down_is a.top a.bottom a.n c.min-n.result a.self.now c.lower_rows.new.self c.clear_rows.new.self c.facts.ensures.rows c.facts-2.ensures.rows c.requires.margins.0 c.requires.margins.1 c.min-n.ensures
          c.lower_rows.ensures.shape c.clear_rows.ensures.shape c.lower_rows.ensures.lowered c.clear_rows.ensures.blanked;
    }
