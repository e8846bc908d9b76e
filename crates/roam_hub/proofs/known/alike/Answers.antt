use Rattle.std.proofs.Common.{◌≡◌, ◌∙◌, Some, sym, ap}
use Rattle.std.specs.Prelude.{slice_get}
use Rattle.std.specs.Map.Iter.{deref_pair}
use Rattle.std.specs.Option.{option_map}
use Rattle.roam_model.specs.ServerArrivals.{is_same}
use Rattle.roam_hub.proofs.Recording.{counted_more, few_more}
use Rattle.roam_hub.proofs.known.alike.Goals as goal

pub loop-at-preserved : goal.loop-at-preserved
loop-at-preserved c =
    let r = c.unwrap.result in
    let here : slice_get c.args.records.now.entries c.loop-at.at ≡ Some (r.0.now, r.1.now) =
    sym c.get_index.ensures.entry ∙ ap (option_map deref_pair) c.unwrap.ensures in
    let one = c.is_same.ensures.same ∙ ap (λ b. is_same b c.args.watches) c.watches.ensures.watches in
    record {
      count =
          counted_more c.args.watches c.args.records.now.entries c.loop-at.at c.loop-at.count c.counted-count.result (r.0.now, r.1.now)
          c.is_same.result here c.loop-at.invariant.count one c.counted-count.ensures.count;
      few = few_more c.loop-at.at c.loop-at.count c.counted-count.result c.is_same.result c.loop-at.invariant.few c.counted-count.ensures.count;
    }
