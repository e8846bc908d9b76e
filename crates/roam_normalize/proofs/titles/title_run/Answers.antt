use Rattle.std.proofs.Common.{sym, ◌∙◌, arith}
use Rattle.roam_normalize.proofs.TitleScans.{title-on}
use Rattle.roam_normalize.proofs.titles.title_run.Goals as goal

pub loop-at-preserved : goal.loop-at-preserved
loop-at-preserved c =
    let less = c.loop-at-test.true in
    let few = c.if-at-lt-MOST_TITLE.true in (
      omega (arith, less),
      omega (arith, few),
      title-on c.args.rest.now c.loop-at.at less few (sym c.is_title.ensures.title ∙ c.if-is_title.true) c.loop-at.invariant.2,
    )
