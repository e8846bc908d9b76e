use Rattle.std.proofs.Common.{ap, ◌∙◌}
use Rattle.roam_rewrap.specs.Windows.{place_of}
use Rattle.roam_rewrap.proofs.Positions.{same_place}
use Rattle.roam_rewrap.proofs.places.placed.Goals as goal

pub returns-clause-place : goal.returns-clause-place
returns-clause-place c =
    let all = c.args.all.now in
    let is = c.in_ok-position.ensures.position in
    same_place _ _ (c.place_of.ensures.row ∙ ap (λ p. (place_of p all).row) is) (c.place_of.ensures.col ∙ ap (λ p. (place_of p all).col) is)
