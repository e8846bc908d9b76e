use Rattle.std.proofs.Common.{rules, ◌++◌, ℕ, List, ◌≤◌, length, ap, subst, take}
use Rattle.std.specs.Io.KnownBytes.{Consumes, ReadConsumes}
use Rattle.roam_pane_sockets.specs.FilterStages.{PassesOn, taken_in}
use Rattle.roam_pane_sockets.specs.PaneInputs.{Carries, IsBrought}
use Rattle.roam_pane_sockets.proofs.Bringing.{front-kept, how-many}
use Rattle.roam_pane_sockets.proofs.peers.read_piece.Goals as goal

pub returns-in-Ok-clause-brings : goal.returns-in-Ok-clause-brings
returns-in-Ok-clause-brings g c = λ n is.
    let piece = take c.in-Ok.count c.read_once-answer.new.buf in
    let new = c.came.new.self in
    let bytes = take c.came.result c.came.new.buf in
    let old-left = g.S.Stream.remaining c.args.stream.now in
    let new-left = g.S.Stream.remaining c.read_once-answer.new.self in
    let within : c.in-Ok.count ≤ length c.read_once-answer.new.buf = search rules in
    let consumed = subst (λ r. ReadConsumes old-left new-left r c.read_once-answer.new.buf) c.in-Ok.is c.read_once-answer.ensures.bytes in
    subst (λ (k : ℕ). (x : List ℕ) × Consumes old-left new-left x
    × IsBrought x c.args.now c.args.pane_input.now new k (take k c.came.new.buf)) (ap how-many is) (
      piece,
      consumed.0,
      record {
        carries = λ came given h.
            subst (λ (l : List ℕ). Carries new (came ++ l) (given ++ bytes)) (front-kept c.in-Ok.count c.read_once-answer.new.buf _ within)
            (c.came.ensures.carries came given h);
        kind = c.came.ensures.kind;
        through =
            subst (λ (l : List ℕ). PassesOn c.args.now (taken_in l c.args.pane_input.now.filter_stage) new.filter_stage c.came.result)
            (front-kept c.in-Ok.count c.read_once-answer.new.buf _ within) c.came.ensures.through;
      },
    )
