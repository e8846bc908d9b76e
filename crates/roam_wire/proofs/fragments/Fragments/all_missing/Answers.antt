use Rattle.std.proofs.Common.{ap, sym, ◌∙◌}
use Rattle.roam_wire.specs.Fragments.{count_missing}
use Rattle.roam_wire.proofs.Places.{count_missing-replicate}
use Rattle.roam_wire.proofs.fragments.Fragments.all_missing.Goals as goal

pub invariant_of-result : goal.invariant_of-result
invariant_of-result c = sym (ap count_missing c.in_ok-empty_places.ensures.places ∙ count_missing-replicate c.args.count)
