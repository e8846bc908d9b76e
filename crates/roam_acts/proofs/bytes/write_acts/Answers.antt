use Rattle.std.proofs.Common.{ap, take, length, ◌∙◌, arith, List, ℕ, ◌≤◌, length-append}
use Rattle.std.proofs.Math.Seq.{take-append_seam}
use Rattle.roam_acts.specs.Bytes.{acts_text}
use Rattle.roam_acts.proofs.bytes.write_acts.Goals as goal

pub returns-then-is_err-clause-err : goal.returns-then-is_err-clause-err
returns-then-is_err-clause-err c =
    let old = c.args.out.now.items in
    let less : length old ≤ length c.loop-act.out.items = omega (arith, ap length c.loop-act.invariant, length-append old (acts_text (take c.loop-act.act-index c.args.acts.now))) in
    c.truncate.ensures.items
    ∙ ap (λ (xs : List ℕ). take (length xs) c.write_act.new.out.items) c.as_slice-start.ensures.value
    ∙ c.write_act.ensures.before (length old) less
    ∙ ap (take (length old)) c.loop-act.invariant
    ∙ take-append_seam old (acts_text (take c.loop-act.act-index c.args.acts.now))
