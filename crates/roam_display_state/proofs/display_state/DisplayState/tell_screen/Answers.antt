use Rattle.std.proofs.Common.{◌≡◌, ◌∷◌, ◌++◌, rules, [], refl, sym, ap, ◌∙◌, append-nil, Ok}
use Rattle.roam_display_state.specs.Scopes.{place_told}
use Rattle.roam_display_state.specs.DisplayState.{places_said, painting_said, sizes_said}
use Rattle.roam_display_state.specs.DisplayState.Tells.{current, no_memory, shown}
use Rattle.roam_display_state.proofs.Found.{found}
use Rattle.roam_display_state.proofs.Refused.{refused}
use Rattle.roam_display_state.proofs.display_state.DisplayState.tell_screen.Goals as goal

pub returns-in_err-painting : goal.returns-in_err-painting
returns-in_err-painting c =
    record {
      tells = refused c.args.shot.now c.args.self.now c.args.waiting.now c.from_residual.result c.in_err-painting.field-0.0
          (λ bad. c.painting.ensures.bad_size (search rules)) (search rules) (search rules);
    }

pub returns-in_default : goal.returns-in_default
returns-in_default c =
    let found = c.painting.ensures.current (c.in_ok-painting.was ∙ ap Ok c.in_default.is) in
    record { tells = ([], current found.0 found.1 found.2 refl refl, search rules, refl) }

pub returns-in_err-push : goal.returns-in_err-push
returns-in_err-push c = record { tells = ([], no_memory refl refl, search rules, search rules) }

pub returns : goal.returns
returns c =
    let old = c.args.self.now in
    let is = found _ c.in_ok-painting.field-0 c.in-Some.painting c.in-Some.is c.in_ok-painting.ensures.painting in
    record {
      tells = (
        sizes_said old.sized c.in-Some.painting.view
            ++ (places_said old.placed (place_told old.scope c.in-Some.painting.part) ++ painting_said old.view is.0 ∷ []),
        shown c.in-Some.painting.part c.in-Some.painting.view is.0 is.1 is.2 is.3 is.4 is.5 refl (search rules),
        search rules,
        refl,
      );
    }
