use Rattle.std.proofs.Common.{◌≡◌, ◌+◌, ◌-◌, arith, length, min}
use Rattle.roam_stored_rows.proofs.Places.{last-place}
use Rattle.roam_stored_rows.proofs.finding.last_place.Goals as goal

pub returns : goal.returns
returns c =
    let end : c.min-end.result ≡ min (length c.args.line.now) (c.args.size + (length c.args.text.now - 1)) =
    omega (arith, c.min-end.ensures, c.saturating_add.ensures, c.requires.size, c.requires.some) in
    record { place = last-place c.args.text.now c.args.line.now c.args.size c.min-end.result c.rfind.result c.requires.some end c.rfind.ensures }
