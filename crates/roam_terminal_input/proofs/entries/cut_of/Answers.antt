use Rattle.std.proofs.Common.{ap, sym, ◌∙◌, arith}
use Rattle.roam_terminal_input.specs.Entries.{begins_separator, cut_of}
use Rattle.roam_terminal_input.proofs.Separating.{found_at, from_start, goes_on, nowhere}
use Rattle.roam_terminal_input.proofs.entries.cut_of.Goals as goal

pub loop-at-init : goal.loop-at-init
loop-at-init c = from_start (cut_of c.args.text.now)

pub returns-then-begins_separator-clause-cut : goal.returns-then-begins_separator-clause-cut
returns-then-begins_separator-clause-cut c = found_at c.args.text.now c.loop-at.at c.loop-at-test.true c.loop-at.invariant
    (ap begins_separator (sym c.split_at.ensures.back) ∙ sym c.begins_separator.ensures.begins ∙ c.if-begins_separator.true)

pub loop-at-preserved : goal.loop-at-preserved
loop-at-preserved c = goes_on c.args.text.now c.loop-at.at c.loop-at-test.true c.loop-at.invariant
    (ap begins_separator (sym c.split_at.ensures.back) ∙ sym c.begins_separator.ensures.begins ∙ c.if-begins_separator.false)

pub returns-clause-cut : goal.returns-clause-cut
returns-clause-cut c = nowhere c.args.text.now c.loop-at.at (omega arith) c.loop-at.invariant
