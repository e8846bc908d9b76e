use Rattle.roam_stored_rows.proofs.Places.{first-far, first-none, first-some}
use Rattle.roam_stored_rows.proofs.finding.first_place.Goals as goal

pub returns-in_default : goal.returns-in_default
returns-in_default c = record { place = first-none c.args.text.now c.args.line.now c.args.size c.requires.size c.requires.some c.in_default.ensures }

pub returns-then-place-size : goal.returns-then-place-size
returns-then-place-size c =
    record {
      place = first-some c.args.text.now c.args.line.now c.args.size c.in-Some.place c.requires.size c.requires.some c.in-Some.ensures c.if-place-size.true;
    }

pub returns-else-place-size : goal.returns-else-place-size
returns-else-place-size c =
    record {
      place = first-far c.args.text.now c.args.line.now c.args.size c.in-Some.place c.requires.size c.requires.some c.in-Some.ensures c.if-place-size.false;
    }
