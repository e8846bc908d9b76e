use Rattle.std.proofs.Common.{rules}
use Rattle.std.specs.Prelude.{◌≢◌}
use Rattle.roam_outer_terminal.specs.Hearing.IsRead.{read}
use Rattle.roam_outer_terminal.specs.declared.terminal.State.TheVariants.{Gone}
use Rattle.roam_outer_terminal.proofs.Heard.{read_on, refused_after}
use Rattle.roam_outer_terminal.proofs.TakenLines.{reads_more}
use Rattle.roam_outer_terminal.proofs.Written.{keeps_more}
use Rattle.roam_outer_terminal.proofs.terminal.Terminal.read_line.Goals as goal

pub returns-then-not-read_piece-clause-reads : goal.returns-then-not-read_piece-clause-reads
returns-then-not-read_piece-clause-reads g c =
    let on : c.loop.self.state ≢ Gone = search rules in
    reads_more _ _ _ _ _ _ _ _ on c.loop.invariant.reads c.read_piece.ensures.reads

pub returns-then-not-read_piece-clause-apart : goal.returns-then-not-read_piece-clause-apart
returns-then-not-read_piece-clause-apart g c = keeps_more _ _ _ c.loop.invariant.apart c.read_piece.ensures.apart

pub returns-then-not-read_piece-clause-others : goal.returns-then-not-read_piece-clause-others
returns-then-not-read_piece-clause-others g c =
    read (read_on c.args.self.now c.loop.self c.read_piece.new.self c.loop.invariant.others c.read_piece.ensures.others)

pub returns-in-TooLong-clause-others : goal.returns-in-TooLong-clause-others
returns-in-TooLong-clause-others g c =
    refused_after c.args.self.now c.loop.self c.refuse.new.self c.loop.invariant.others (search rules) c.refuse.ensures.refused

pub loop-preserved : goal.loop-preserved
loop-preserved g c =
    let on : c.loop.self.state ≢ Gone = search rules in
    record {
      apart = keeps_more _ _ _ c.loop.invariant.apart c.read_piece.ensures.apart;
      others = read_on c.args.self.now c.loop.self c.read_piece.new.self c.loop.invariant.others c.read_piece.ensures.others;
      reads = reads_more _ _ _ _ _ _ _ _ on c.loop.invariant.reads c.read_piece.ensures.reads;
    }
