use Rattle.std.proofs.Common.{◌≡◌, true, false, Some, rules}
use Rattle.roam_outer_terminal.specs.Painted.{is_here}
use Rattle.roam_outer_terminal.specs.Silence.{due_of, is_over}
use Rattle.roam_outer_terminal.specs.Writing.{is_empty}
use Rattle.roam_outer_terminal.proofs.Written.{empty_is, here_is, says_silent}
use Rattle.roam_outer_terminal.proofs.terminal.Terminal.tell_silence_in_records.Goals as goal

pub returns-in-Some : goal.returns-in-Some
returns-in-Some g c =
    let old = c.args.self.now in
    let over : is_over c.args.seen ≡ false = search rules in
    let due : due_of c.args.seen ≡ Some c.in-Some.seconds = search rules in
    let empty : is_empty old.waiting ≡ true = search rules in
    let here : is_here old.state ≡ true = search rules in
    record {
      tells = says_silent c.args.seen c.in-Some.seconds old c.say_silent.new.self over due (empty_is old.waiting empty)
          (here_is old.state here) c.say_silent.ensures.told;
    }
