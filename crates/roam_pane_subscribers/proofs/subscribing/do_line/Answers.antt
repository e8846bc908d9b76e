use Rattle.std.proofs.Common.{refl, rules, subst}
use Rattle.roam_pane_subscribers.specs.Asking.{closes, gone, last, refused}
use Rattle.roam_pane_subscribers.specs.Closing.{Closes}
use Rattle.roam_pane_subscribers.proofs.Asked.{asks_for, focus_is, may_close}
use Rattle.roam_pane_subscribers.proofs.subscribing.do_line.Goals as goal

pub returns-in-Gone : goal.returns-in-Gone
returns-in-Gone c = record {
  does = gone c.in-Some.close (asks_for _ _ _ c.in-Some.is c.read_close.ensures.found) (c.acts_for.ensures.gone.0 c.in-Gone.is) refl refl;
}

pub returns-in-LastPane : goal.returns-in-LastPane
returns-in-LastPane c =
    let both = c.acts_for.ensures.last.0 c.in-LastPane.is in
    record { does = last c.in-Some.close (asks_for _ _ _ c.in-Some.is c.read_close.ensures.found) both.0 both.1 refl refl }

pub returns-in-Ok : goal.returns-in-Ok
returns-in-Ok c =
    let may = may_close _ c.args.now.now _ _ _ c.in-Acts.is c.acts_for.ensures.gone c.acts_for.ensures.last in
    let focus = focus_is _ _ _ c.in-Acts.is c.acts_for.ensures.acts in
    record {
      does = closes c.in-Some.close (asks_for _ _ _ c.in-Some.is c.read_close.ensures.found) may.0 may.1
          (subst (λ after. Closes c.args.closer.now c.close.new.self c.in-Some.close.pane c.in-Some.close.generation after c.args.moment)
          focus (search rules)) refl;
    }

pub returns-in-Err : goal.returns-in-Err
returns-in-Err c =
    let may = may_close _ c.args.now.now _ _ _ c.in-Acts.is c.acts_for.ensures.gone c.acts_for.ensures.last in
    record {
      does = refused c.in-Some.close (asks_for _ _ _ c.in-Some.is c.read_close.ensures.found) may.0 may.1
          (search rules) (search rules) refl;
    }
