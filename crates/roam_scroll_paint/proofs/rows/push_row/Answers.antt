use Rattle.std.proofs.Common.{◌∙◌}
use Rattle.roam_term.specs.Ground.{shown_at}
use Rattle.roam_scroll_paint.proofs.Turns.{whole_row}
use Rattle.roam_scroll_paint.proofs.rows.push_row.Goals as goal

pub returns : goal.returns
returns g c =
    let new = g.N.Seen.screen c.args.new.now in
    let left = c.in_ok-left.left in
    let both = whole_row c.args.marks.now (shown_at new) new.cols c.from.result c.args.row c.args.end c.args.style c.args.text.now.items
    c.write_row.new.text.items c.erase_from.new.text.items left.style c.in_ok-set.set left.doubtful (c.from.ensures ∙ c.cols.ensures.cols)
    c.in_ok-left.ensures.text c.in_ok-left.ensures.style c.in_ok-left.ensures.doubt c.in_ok-set.ensures.text c.in_ok-set.ensures.style in
    record { text = both.0; style = both.1 }
