use Rattle.std.proofs.Common.{◌≡◌, Some, sym, ap, subst, rules}
use Rattle.roam_display_state.specs.DisplayState.{TellsTaken}
use Rattle.roam_outer_terminal.proofs.Said.{texts_more}
use Rattle.roam_outer_terminal.proofs.terminal.Terminal.tell_all.Goals as goal

pub returns-in-Some : goal.returns-in-Some
returns-in-Some g c =
    let old = c.args.self.now in
    let was : old.display_state ≡ Some c.in-Some.display_state = search rules in
    let took = c.tell_taken.ensures.tells in
    let told = c.tell_noted.ensures.tells in
    record {
      told = λ before is.
          let same : before ≡ c.in-Some.display_state = cc in
          record {
            between = c.tell_taken.new.self;
            after = c.tell_noted.new.display_state;
            taken = took.0;
            shown = told.0;
            tells_taken = subst (λ b. TellsTaken c.args.acknowledged took.0 b c.tell_taken.new.self) (sym same) took.1;
            tells_noted = told.1;
            is = ap (λ w. record old { display_state = Some c.tell_noted.new.display_state; waiting = w })
                (texts_more old.waiting c.tell_taken.new.waiting c.tell_noted.new.waiting took.0 told.0 took.2 told.2);
          };
    }
