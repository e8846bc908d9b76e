use Rattle.std.proofs.Common.{ℕ, sym, take, take_all, arith}
use Rattle.std.proofs.lemmas.List.Elements.{All-more, All-same}
use Rattle.roam_screens.specs.Screenshot.{Screenshot, IsScreenshot}
use Rattle.roam_layout.proofs.pictures.facts_of.Goals as goal

pub loop-k-preserved : goal.loop-k-preserved
loop-k-preserved c =
    All-more (λ (x : ℕ × Screenshot). IsScreenshot x.1) c.args.shots.now c.loop-k.k c.index-shots-k.result c.loop-k-test.true
    c.loop-k.invariant
    c.facts.ensures.screenshot

pub returns : goal.returns
returns c =
    record {
      screenshots = All-same (λ (x : ℕ × Screenshot). IsScreenshot x.1) c.args.shots.now (take c.loop-k.k c.args.shots.now)
          (sym (take_all c.loop-k.k c.args.shots.now (omega arith))) c.loop-k.invariant;
    }
