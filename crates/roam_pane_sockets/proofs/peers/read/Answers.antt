use Rattle.std.proofs.Common.{take, rules}
use Rattle.roam_pane_sockets.proofs.Bringing.{brought, goes-on, nothing-came}
use Rattle.roam_pane_sockets.proofs.peers.read.Goals as goal

pub returns-in_err-making-clause-brings : goal.returns-in_err-making-clause-brings
returns-in_err-making-clause-brings c = nothing-came _ _ c.from_residual.result c.args.buf.now (search rules) (search rules)

pub returns-in-Some-clause-brings : goal.returns-in-Some-clause-brings
returns-in-Some-clause-brings c =
    goes-on c.args.pane_input.now c.go_on.new.self (take c.in-Some.count c.go_on.new.buf) c.in-Some.ensures.carries c.go_on.ensures.kind

pub returns-clause-brings : goal.returns-clause-brings
returns-clause-brings c =
    brought c.args.pane_input.now c.go_on.new.self c.hear.new.pane_input c.hear.result c.args.now c.hear.new.buf (search rules)
    c.hear.ensures.brings c.hear.ensures.none
