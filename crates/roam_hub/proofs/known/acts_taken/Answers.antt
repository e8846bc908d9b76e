use Rattle.std.proofs.Common.{◌≡◌, ◌∙◌, Some, refl, sym, ap}
use Rattle.std.specs.Prelude.{slice_get}
use Rattle.std.specs.Map.Iter.{deref_pair}
use Rattle.std.specs.Option.{option_map}
use Rattle.roam_hub.proofs.Recording.{taken_more, no_acts}
use Rattle.roam_hub.proofs.known.acts_taken.Goals as goal

pub loop-at-init : goal.loop-at-init
loop-at-init c = sym (no_acts c.args.records.now.entries)

pub loop-at-preserved : goal.loop-at-preserved
loop-at-preserved c =
    let r = c.unwrap.result in
    let here : slice_get c.args.records.now.entries c.loop-at.at ≡ Some (r.0.now, r.1.now) =
    sym c.get_index.ensures.entry ∙ ap (option_map deref_pair) c.unwrap.ensures in
    taken_more c.args.records.now.entries c.loop-at.at c.loop-at.taken _ _ (r.0.now, r.1.now) here c.loop-at.invariant c.taken-taken.ensures.taken
    refl
