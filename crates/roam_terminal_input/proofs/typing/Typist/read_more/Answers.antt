use Rattle.std.proofs.Common.{arith, length, ◌≤◌}
use Rattle.roam_terminal_input.specs.Typing.{bytes_given}
use Rattle.roam_terminal_input.proofs.Standing.{consumes_given, given_short, ok_then}
use Rattle.roam_terminal_input.proofs.typing.Typist.read_more.Goals as goal

pub returns-clause-reads : goal.returns-clause-reads
returns-clause-reads g c = ok_then c.hear.result c.hear.ensures.reads (λ reads.
    let answer = c.read-answer.result in
    let buf = c.read-answer.new.buf in
    let few : length (bytes_given answer buf) ≤ 1024 = omega (arith, given_short answer buf, c.read-answer.auto.buf) in
    (bytes_given answer buf, few, consumes_given _ _ answer buf c.read-answer.ensures.bytes, reads))
