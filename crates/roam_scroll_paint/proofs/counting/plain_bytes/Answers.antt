use Rattle.std.proofs.Common.{sym, ◌∙◌, arith}
use Rattle.roam_scroll_paint.proofs.Lengths.{all_least}
use Rattle.roam_scroll_paint.proofs.counting.plain_bytes.Goals as goal

pub returns : goal.returns
returns g c =
    let all = all_least (g.O.Seen.screen c.args.old.now) (g.N.Seen.screen c.args.new.now) c.rows_bytes.result c.closing_bytes.result
    (sym c.is_same_size.ensures.same ∙ c.if-not-is_same_size.false) c.rows_bytes.ensures.least c.closing_bytes.ensures.least in
    record { least = omega (arith, all) }
