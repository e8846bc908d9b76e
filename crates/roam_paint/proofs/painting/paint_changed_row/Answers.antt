use Rattle.std.proofs.Common.{◌≡◌, true, sym, rules}
use Rattle.roam_paint.proofs.Loops.{nothing, quiet_text, quiet_style}
use Rattle.roam_paint.proofs.painting.paint_changed_row.Goals as goal

pub returns-then-is_same_row-clause-text : goal.returns-then-is_same_row-clause-text
returns-then-is_same_row-clause-text g c =
    let yes : c.is_same_row.result ≡ true = search rules in
    nothing c.args.text.now.items _
    (quiet_text (g.O.Seen.screen c.args.old.now) (g.N.Seen.screen c.args.new.now) c.args.row c.args.style (c.is_same_row.ensures.same yes) (g.N.Seen.screen c.args.new.now).cols)

pub returns-then-is_same_row-clause-style : goal.returns-then-is_same_row-clause-style
returns-then-is_same_row-clause-style g c =
    let yes : c.is_same_row.result ≡ true = search rules in
    sym (quiet_style (g.O.Seen.screen c.args.old.now) (g.N.Seen.screen c.args.new.now) c.args.row c.args.style (c.is_same_row.ensures.same yes) (g.N.Seen.screen c.args.new.now).cols)
