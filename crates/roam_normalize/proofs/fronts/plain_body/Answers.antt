use Rattle.std.proofs.Common.{sym, ◌∙◌, arith}
use Rattle.std.specs.Prelude.{◌==◌, slice_index}
use Rattle.roam_normalize.proofs.Glances.{count-le, first-low, glance-end, glance-on, plain-body}
use Rattle.roam_normalize.proofs.Scanning.{scan-on}
use Rattle.roam_normalize.proofs.fronts.plain_body.Goals as goal

pub loop-at-preserved : goal.loop-at-preserved
loop-at-preserved c =
    let rest = c.args.rest.now in
    let at = c.loop-at.at in
    let less = c.loop-at-test.true in
    let few = c.if-at-lt-MOST_BODY.true in
    let plain = sym c.is_plain.ensures.plain ∙ c.if-is_plain.true in
    let pair = sym c.is_pair.ensures.pair ∙ c.if-is_pair.false in
    let count = c.counted-semicolons.ensures.count in (
      omega (arith, less),
      omega (arith, few),
      count-le (slice_index rest at == 0x3B) c.counted-semicolons.result c.loop-at.semicolons at count c.loop-at.invariant.2,
      λ _. first-low rest at plain c.loop-at.invariant.3,
      scan-on rest at less few (plain-body (slice_index rest at) plain) c.loop-at.invariant.4,
      glance-on rest at c.loop-at.before c.loop-at.semicolons c.counted-semicolons.result less plain pair count c.loop-at.invariant.5,
    )

pub returns-else-semicolons-gt-MOST_SEMICOLONS-clause-glance : goal.returns-else-semicolons-gt-MOST_SEMICOLONS-clause-glance
returns-else-semicolons-gt-MOST_SEMICOLONS-clause-glance c some =
    glance-end c.args.rest.now c.loop-at.at c.loop-at.before c.loop-at.semicolons c.if-semicolons-gt-MOST_SEMICOLONS.false c.loop-at.invariant.5
