use Rattle.std.proofs.Common.{◌≡◌, eqb, ap, ◌∙◌}
use Rattle.roam_wire.specs.Fragments.{seen, all_there}
use Rattle.roam_wire.proofs.Places.{none_missing}
use Rattle.roam_wire.proofs.fragments.Fragments.is_whole.Goals as goal

pub returns : goal.returns
returns c =
    let is : seen c.self.inside.places.items ≡ c.args.self.now = c.self.view_is in
    record { whole = ap (λ n. eqb n 0) c.self.invariant ∙ none_missing (seen c.self.inside.places.items) ∙ ap all_there is }
