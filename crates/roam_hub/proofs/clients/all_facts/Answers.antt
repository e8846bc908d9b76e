use Rattle.std.proofs.Common.{arith, sym, take}
use Rattle.std.proofs.lemmas.List.{take_all}
use Rattle.std.proofs.lemmas.List.Elements.{All-more, All-same}
use Rattle.roam_acts.specs.Acts.{HasKey}
use Rattle.roam_hub.proofs.clients.all_facts.Goals as goal

pub loop-act-preserved : goal.loop-act-preserved
loop-act-preserved c =
    All-more HasKey c.args.acts.now c.loop-act.act-index _ (omega (arith, c.loop-act-test.true, c.loop-act.auto.act-index-end))
    c.loop-act.invariant c.facts.ensures.key

pub returns : goal.returns
returns c =
    record {
      keys =
          All-same HasKey c.args.acts.now (take c.loop-act.act-index c.args.acts.now)
          (sym (take_all c.loop-act.act-index c.args.acts.now (omega (arith, c.loop-act.auto.act-index-end)))) c.loop-act.invariant;
    }
