use Rattle.std.proofs.Common.{◌≡◌, ◌≢◌, ◌+◌, ◌≤◌, ◌∙◌, length, arith, rules}
use Rattle.roam_outer_terminal.proofs.Written.{fails_from, keeps_more, more_gone, no_more_gone, others_write, writes_more}
use Rattle.roam_outer_terminal.proofs.terminal.Terminal.write_waiting.Goals as goal

pub returns-then-write_piece-eq0-clause-writes : goal.returns-then-write_piece-eq0-clause-writes
returns-then-write_piece-eq0-clause-writes g c = writes_more _ _ _ _ _ _ c.loop.invariant.writes c.write_piece.ensures.writes

pub returns-then-write_piece-eq0-clause-apart : goal.returns-then-write_piece-eq0-clause-apart
returns-then-write_piece-eq0-clause-apart g c = keeps_more _ _ _ c.loop.invariant.apart c.write_piece.ensures.apart

pub returns-then-write_piece-eq0-clause-gone : goal.returns-then-write_piece-eq0-clause-gone
returns-then-write_piece-eq0-clause-gone g c =
    let same : length c.write_piece.new.self.waiting + 0 ≡ length c.loop.self.waiting = search rules in
    no_more_gone c.loop.has_taken c.args.self.now.waiting c.loop.self.waiting c.write_piece.new.self.waiting c.loop.invariant.gone same

pub returns-then-write_piece-eq0-clause-fails : goal.returns-then-write_piece-eq0-clause-fails
returns-then-write_piece-eq0-clause-fails g c =
    fails_from c.args.self.now.state c.loop.self.state c.write_piece.new.self.state c.loop.invariant.on c.write_piece.ensures.fails

pub returns-then-write_piece-eq0-clause-others : goal.returns-then-write_piece-eq0-clause-others
returns-then-write_piece-eq0-clause-others g c =
    others_write c.args.self.now c.loop.self c.write_piece.new.self c.loop.invariant.others c.write_piece.ensures.others

pub loop-preserved : goal.loop-preserved
loop-preserved g c =
    let same : c.write_piece.new.self.state ≡ c.loop.self.state = search rules in
    let some : c.write_piece.result ≢ 0 = search rules in
    let went : length c.write_piece.new.self.waiting + c.write_piece.result ≡ length c.loop.self.waiting = c.write_piece.ensures.went in
    let before : length c.loop.self.waiting ≤ length c.args.self.now.waiting = c.loop.invariant.fewer in
    record {
      fewer = omega arith;
      gone = more_gone c.write_piece.result c.args.self.now.waiting c.loop.self.waiting c.write_piece.new.self.waiting before went some;
      apart = keeps_more _ _ _ c.loop.invariant.apart c.write_piece.ensures.apart;
      on = same ∙ c.loop.invariant.on;
      others = others_write c.args.self.now c.loop.self c.write_piece.new.self c.loop.invariant.others c.write_piece.ensures.others;
      writes = writes_more _ _ _ _ _ _ c.loop.invariant.writes c.write_piece.ensures.writes;
    }
