use Rattle.std.proofs.Common.{◌≡◌, ◌∙◌, max, set, sym, ap, arith, get_or}
use Rattle.roam_rows.proofs.Written.{set_back}
use Rattle.roam_rows.proofs.lengths.raise.Goals as goal

pub returns-then-lengths-at : goal.returns-then-lengths-at
returns-then-lengths-at c =
    let a = c.args in
    let low = c.if-lengths-at.true in
    let top : a.end ≡ max (get_or a.lengths.now a.at 0) a.end = omega arith in
    record { lengths = ap (set a.lengths.now a.at) top }

pub returns-else-lengths-at : goal.returns-else-lengths-at
returns-else-lengths-at c =
    let a = c.args in
    let high = c.if-lengths-at.false in
    let top : max (get_or a.lengths.now a.at 0) a.end ≡ get_or a.lengths.now a.at 0 = omega arith in
    record { lengths = sym (ap (set a.lengths.now a.at) top ∙ set_back a.lengths.now a.at c.requires.at_in) }
