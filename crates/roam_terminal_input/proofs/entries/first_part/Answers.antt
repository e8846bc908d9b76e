use Rattle.std.proofs.Common.{arith}
use Rattle.roam_terminal_input.proofs.Parting.{cut, no_cut, uncut}
use Rattle.roam_terminal_input.proofs.entries.first_part.Goals as goal

pub returns-then-cuts-eq0-clause-none : goal.returns-then-cuts-eq0-clause-none
returns-then-cuts-eq0-clause-none c = λ _. uncut c.args.cuts c.args.text.now c.if-cuts-eq0.true

pub returns-in-Some-clause-some : goal.returns-in-Some-clause-some
returns-in-Some-clause-some c = (
  omega arith,
  rw (c.split_at.ensures.front, c.split_at-in-Some.ensures.back)
      (cut c.args.cuts c.in-Some.at c.args.text.now (omega arith) c.in-Some.ensures.cut),
)

pub returns-in-None-clause-none : goal.returns-in-None-clause-none
returns-in-None-clause-none c = λ _. no_cut c.args.cuts c.args.text.now c.in-None.ensures.cut
