use Rattle.roam_attach.proofs.Running.{not_passed}
use Rattle.roam_attach.proofs.attaching.is_over.Goals as goal

pub returns-else-is_done-clause-goes : goal.returns-else-is_done-clause-goes
returns-else-is_done-clause-goes g c = λ no at_end.
    not_passed c.args.typist.now.lines c.args.client.now c.unwrap_or-seen.result c.args.ports.now.silence.moment c.has_passed.result no
    c.has_passed.ensures.passed (c.is_done.ensures.pending c.if-is_done.false)
