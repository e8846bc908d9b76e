use Rattle.std.proofs.Common.{ℕ, List, [], ◌≤◌, ◌*◌}
use Rattle.std.specs.Io.KnownBytes.{Consumes}
use Rattle.roam_world_run.specs.Scripts.{Before}
use Rattle.roam_world_run.specs.Played.{Fed}
use Rattle.roam_world_run.proofs.play.Play.all.Given as goal

-- all bytes read so far were played
abbrev pub invariant-loop : goal.invariant-loop
invariant-loop g l = (log : List ℕ) × Consumes (g.R.Read.remaining l.initial.reader) (g.R.Read.remaining l.reader) log
    × Fed Before [] log l.begun.items (g.W.Write.contents l.initial.writer) (g.W.Write.contents l.writer) l.self.world 0 l.self.lines
    × (l.self.lines ≤ 1024 * l.counter)
