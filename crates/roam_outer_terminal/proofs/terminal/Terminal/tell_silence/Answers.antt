use Rattle.std.proofs.Common.{◌≡◌, true, false, None, Some, subst, rules}
use Rattle.std.specs.Prelude.{is_some}
use Rattle.roam_outer_terminal.specs.Painted.{is_here}
use Rattle.roam_outer_terminal.specs.Silence.{due_of, is_over}
use Rattle.roam_outer_terminal.specs.Writing.{SaysSilence, is_empty, seen_by}
use Rattle.roam_outer_terminal.specs.Writing.TellsSilence.{says}
use Rattle.roam_outer_terminal.proofs.Written.{empty_is, here_is, tells_by}
use Rattle.roam_outer_terminal.proofs.terminal.Terminal.tell_silence.Goals as goal

pub returns-in-Some : goal.returns-in-Some
returns-in-Some g c =
    let old = c.args.self.now in
    let seen = seen_by c.args.silence old in
    let untold : is_some old.display_state ≡ false = search rules in
    let over : is_over seen ≡ false = search rules in
    let due : due_of seen ≡ Some c.in-Some.seconds = search rules in
    let empty : is_empty old.waiting ≡ true = search rules in
    let bare : old.over ≡ None = search rules in
    let here : is_here old.state ≡ true = search rules in
    record {
      tells = tells_by c.args.silence c.in-Some.seconds old c.tell_over.new.self untold over due (empty_is old.waiting empty) bare
          (here_is old.state here) c.tell_over.ensures.told;
    }

pub returns-then-is_some : goal.returns-then-is_some
returns-then-is_some g c =
    let old = c.args.self.now in
    let is : is_some old.display_state ≡ true = search rules in
    let seen : c.tell.new.self ≡ seen_by c.args.silence old = search rules in
    record {
      tells = says is
          (subst (λ s. SaysSilence s old c.tell_silence_in_records.new.self) seen c.tell_silence_in_records.ensures.tells);
    }
