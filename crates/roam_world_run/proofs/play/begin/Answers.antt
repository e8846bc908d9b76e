use Rattle.std.proofs.Common.{◌≡◌, None, refl, ap}
use Rattle.roam_world_script.specs.Values.{Session}
use Rattle.roam_world_script.specs.Lines.{value_of}
use Rattle.roam_world_run.specs.Scripts.{Before}
use Rattle.roam_world_run.proofs.Playing.{has_begun}
use Rattle.roam_world_run.proofs.play.begin.Goals as goal

pub returns-clause-answered : goal.returns-clause-answered
returns-clause-answered c =
    let is : value_of c.args.line.now ≡ Session c.in-Session.id c.in-Session.rows c.in-Session.cols = ap value_of c.in-Session.is in
    has_begun Before None c.in_ok-new.field-0 (value_of c.args.line.now) c.in-Session.id c.in-Session.rows c.in-Session.cols _ refl is tt
    c.in_ok-new.ensures.size c.in_ok-from_str.ensures.ok c.in_ok-new.ensures.stands
