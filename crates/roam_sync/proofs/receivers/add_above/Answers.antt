use Rattle.std.proofs.Common.{rules, ◌∙◌, ap, leb}
use Rattle.std.proofs.lemmas.Fn.{filter_same}
use Rattle.roam_sync.specs.Receivers.{from_floor}
use Rattle.roam_sync.proofs.receivers.add_above.Goals as goal

pub returns : goal.returns
returns g c = record {
  pairs = filter_same _ (λ p. leb c.args.floor p.number) _ (λ x b f' h. search rules) _ _ c.retain.ensures.filtered
      ∙ ap (from_floor c.args.floor) (rw c.unwrap.ensures at c.push.ensures.items);
}
