use Rattle.std.proofs.Common.{◌≡◌, Some, string_bytes, rules}
use Rattle.roam_world_script.specs.Lines.{value_of}
use Rattle.roam_simulation.specs.Events.{event_of}
use Rattle.roam_world_run.specs.Asked.{asked_in}
use Rattle.roam_world_run.specs.Scripts.{event_in}
use Rattle.roam_world_run.proofs.Playing.{has_asked, has_happened}
use Rattle.roam_world_run.proofs.play.answer_in.Goals as goal

pub returns-in-Some-clause-answered : goal.returns-in-Some-clause-answered
returns-in-Some-clause-answered c = λ session size es rs s.
    let is : asked_in s.world (value_of c.args.line) ≡ Some (string_bytes c.in-Some.text) = (rw c.in-Some.is at
    c.in_ok-text.ensures.asked) s.world s.stands in
    has_asked c.args.world.now session size es rs (value_of c.args.line) (string_bytes c.in-Some.text) s is

pub returns-in_ok-happen-in-Some-event_of-clause-answered : goal.returns-in_ok-happen-in-Some-event_of-clause-answered
returns-in_ok-happen-in-Some-event_of-clause-answered c = λ session size es rs s.
    let h = c.in_ok-happen-in-Some-event_of.ensures.answered session size es rs s in
    let is : event_in (value_of c.args.line) ≡ Some (event_of c.in-Some-event_of.event) = search rules in
    has_happened c.happen.new.world session size es rs (value_of c.args.line) (string_bytes c.in_ok-happen-in-Some-event_of.field-0)
    (event_of c.in-Some-event_of.event) h.0 is h.1 h.2
