use Rattle.std.proofs.Common.{◌≡◌, string_bytes}
use Rattle.roam_cells.specs.declared.faults.Fault.{Fault}
use Rattle.roam_cells.specs.declared.faults.Fault.TheVariants as fault
use Rattle.roam_world_script.specs.Lines.{value_of}
use Rattle.roam_world_run.specs.Played.{HasAnswer}
use Rattle.roam_world_run.specs.Scripts.{Stage}
use Rattle.roam_world_run.proofs.Playing.{answered_first, misplaced_at, misplaced_first, refused_first}
use Rattle.roam_world_run.proofs.play.answer.Goals as goal

pub returns-in-Some-clause-misplaced : goal.returns-in-Some-clause-misplaced
returns-in-Some-clause-misplaced c = misplaced_at c.answer_in.result c.args.world.now c.in-Some.world (value_of c.args.line) c.in-Some.is
    c.answer_in.ensures.misplaced

pub returns-in-None-clause-answered : goal.returns-in-None-clause-answered
returns-in-None-clause-answered c = answered_first (λ text (stage : Stage). HasAnswer stage (value_of c.args.line) (string_bytes text)
    c.begin.new.world) c.begin.result c.args.world.now c.in-None.is c.begin.ensures.answered

pub returns-in-None-clause-misplaced : goal.returns-in-None-clause-misplaced
returns-in-None-clause-misplaced c = misplaced_first c.begin.result c.args.world.now (value_of c.args.line) c.in-None.is
    c.begin.ensures.misplaced

pub returns-in-None-clause-refused : goal.returns-in-None-clause-refused
returns-in-None-clause-refused c = refused_first (λ (f : Fault). f ≡ fault.OutOfMemory) (λ (f : Fault). f ≡ fault.BadSize) c.begin.result
    c.args.world.now (value_of c.args.line) c.in-None.is c.begin.ensures.refused
