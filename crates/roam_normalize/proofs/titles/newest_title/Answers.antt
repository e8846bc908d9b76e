use Rattle.std.proofs.Common.{◌+◌, ◌-◌, length, take, drop, sym, ap, ◌∙◌, subst}
use Rattle.std.specs.Option.{option_map}
use Rattle.roam_normalize.specs.Titles.{IsLength, newest, titles_part}
use Rattle.roam_normalize.proofs.Naming.{walk-ended, walk-held, walk-on, walk-within}
use Rattle.roam_normalize.proofs.titles.newest_title.Goals as goal

pub returns-then-length-eq0 : goal.returns-then-length-eq0
returns-then-length-eq0 c =
    let bytes = c.args.bytes.now in
    let at = c.loop-at.at in
    let still = c.still_run-at in
    record {
      title = walk-held bytes at still.result still.ensures.still (λ title. title.now) c.loop-at.title c.loop-at.invariant.1
          (subst (λ n. IsLength n (take (length bytes - (at + still.result)) (drop (at + still.result) bytes))) c.if-length-eq0.true
          c.front_length-length.ensures.length);
    }

pub loop-at-preserved : goal.loop-at-preserved
loop-at-preserved c =
    let bytes = c.args.bytes.now in
    let at = c.loop-at.at in
    let still = c.still_run-at in
    let front = c.front_length-length in (
      walk-within bytes at still.result still.ensures.still front.result c.loop-at.invariant.0 still.ensures.within front.ensures.within,
      walk-on bytes at still.result still.ensures.still (λ title. title.now) c.loop-at.title c.loop-at.invariant.1 front.result
          c.front_title.result c.if-length-eq0.false front.ensures.length c.front_title.ensures.title
          ∙ ap (λ o. newest (titles_part (drop (at + still.result + front.result) bytes)) (option_map (λ title. title.now) o))
          (sym c.or-title.ensures),
    )

pub returns : goal.returns
returns c =
    record {
      title = walk-ended (λ title. title.now) c.loop-at.title c.args.bytes.now c.loop-at.at c.loop-at-test.false c.loop-at.invariant.1;
    }
