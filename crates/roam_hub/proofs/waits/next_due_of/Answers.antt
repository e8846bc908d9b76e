use Rattle.std.proofs.Common.{◌≡◌, ◌∙◌, ◌<◌, Some, length, sym, ap, arith}
use Rattle.std.specs.Prelude.{slice_get}
use Rattle.std.specs.Map.Iter.{deref_pair}
use Rattle.std.specs.Option.{option_map}
use Rattle.roam_hub.proofs.Waiting.{quiet_more, then_more}
use Rattle.roam_hub.proofs.waits.next_due_of.Goals as goal

pub loop-at-preserved : goal.loop-at-preserved
loop-at-preserved c =
    let r = c.unwrap.result in
    let here : slice_get c.args.records.now.entries c.loop-at.at ≡ Some (r.0.now, r.1.now) =
    sym c.get_index.ensures.entry ∙ ap (option_map deref_pair) c.unwrap.ensures in
    let within : c.loop-at.at < length c.args.records.now.entries =
    omega (arith, c.loop-at-test.true, c.loop-at.auto.at-end, c.len-at-end.ensures.len) in
    record {
      before =
          quiet_more c.args.number c.args.clock c.loop-at.at c.args.records.now.entries (r.0.now, r.1.now) within here c.loop-at.due
          c.next_due.result c.earlier-due.result c.earlier-due.ensures.come c.loop-at.invariant.before c.next_due.ensures.before;
      then =
          then_more c.args.number c.args.clock c.loop-at.at c.args.records.now.entries (r.0.now, r.1.now) within here c.loop-at.due
          c.next_due.result c.earlier-due.result c.earlier-due.ensures.one_of c.loop-at.invariant.then c.next_due.ensures.at;
    }
