use Rattle.std.proofs.Common.{◌≡◌, Some, length, drop, ap, ◌∙◌, rules, arith}
use Rattle.roam_world_script.specs.Kinds.{head_of, headed_in, kinds}
use Rattle.roam_world_script.proofs.Heads.{begins_pane, head_fits, is_found, is_only}
use Rattle.roam_world_script.proofs.lines.read_line.Goals as goal

pub split_at-requires : goal.split_at-requires
split_at-requires c =
    let found : headed_in kinds c.args.line.now ≡ Some c.in-Some.kind = search rules in
    omega (arith, head_fits c.args.line.now c.in-Some.kind found, ap length c.head.ensures.head)

pub returns-clause-found : goal.returns-clause-found
returns-clause-found c =
    let found : headed_in kinds c.args.line.now ≡ Some c.in-Some.kind = search rules in
    let behind : c.split_at.result.1.now ≡ drop (length (head_of c.in-Some.kind)) c.args.line.now = c.split_at.ensures.back
    ∙ ap (λ h. drop (length h) c.args.line.now) c.head.ensures.head in
    is_found c.args.line.now c.split_at.result.1.now c.in-Some.kind c.argument.result found behind c.argument.ensures.read

pub returns-clause-only : goal.returns-clause-only
returns-clause-only c =
    let found : headed_in kinds c.args.line.now ≡ Some c.in-Some.kind = search rules in
    let behind : c.split_at.result.1.now ≡ drop (length (head_of c.in-Some.kind)) c.args.line.now = c.split_at.ensures.back
    ∙ ap (λ h. drop (length h) c.args.line.now) c.head.ensures.head in
    is_only c.args.line.now c.split_at.result.1.now c.in-Some.kind c.argument.result c.one_act_a_line.ensures.one found behind
    c.argument.ensures.read

pub returns-clause-memory : goal.returns-clause-memory
returns-clause-memory c =
    let found : headed_in kinds c.args.line.now ≡ Some c.in-Some.kind = search rules in
    λ full. begins_pane c.args.line.now c.in-Some.kind found (c.argument.ensures.memory full)
