use Rattle.std.proofs.Common.{◌≡◌, rules, ◌∷◌, [], refl}
use Rattle.roam_display_records.specs.Looks.{screen_text}
use Rattle.roam_display_records.specs.declared.records.Record.TheVariants.{Screen}
use Rattle.roam_display_state.specs.DisplayState.TellsLook.{looked, unasked}
use Rattle.roam_display_state.proofs.display_state.DisplayState.tell_look.Goals as goal

pub returns-in_default : goal.returns-in_default
returns-in_default g c = record { tells = ([], unasked (search rules) refl refl, search rules, refl) }

pub returns : goal.returns
returns g c =
    let text : c.deref.result.now ≡ screen_text c.in-Some.looking (g.S.Seen.screen c.args.shot.now) = search rules in
    record {
      tells = (
        Screen c.deref.result ∷ [],
        looked c.in-Some.looking c.deref.result (search rules) text refl (search rules),
        search rules,
        refl,
      );
    }
