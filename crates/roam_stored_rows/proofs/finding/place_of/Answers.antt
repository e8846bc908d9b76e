use Rattle.std.proofs.Common.{arith}
use Rattle.roam_stored_rows.proofs.Places.{stands-within}
use Rattle.roam_stored_rows.proofs.finding.place_of.Goals as goal

pub returns-then-line-text : goal.returns-then-line-text
returns-then-line-text c =
    record {
      place = λ k a b h. let within = stands-within c.args.text.now c.args.line.now k c.requires.some h in omega (arith, within, c.if-line-text.true);
    }
