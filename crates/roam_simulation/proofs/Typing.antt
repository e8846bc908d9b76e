-- An act is typed at an instance.
use Rattle.std.proofs.Common.{◌≡◌, ℕ, ◌<◌, length, set, Some, None, refl, ap, subst}
use Rattle.std.specs.Prelude.{Result}
use Rattle.roam_cells.specs.declared.faults.Fault.{Fault}
use Rattle.roam_acts.specs.declared.acts.Act.{Act}
use Rattle.roam_model.specs.Clients.{after_act}
use Rattle.roam_model.specs.Worlds.{World, Typed, Refused, with_client}
use Rattle.roam_model.specs.Steps.{empty_slot, watching, full, spent, typed, no_memory}
use Rattle.roam_hub.specs.Clients.{ClientView, view_of, Types, watching as types_watching, full as types_full, spent as types_spent, typed as types_typed, no_memory as types_no_memory}
use Rattle.roam_simulation.specs.Worlds.{IsWant, WorldView, start_in, Stands, Steps}
use Rattle.roam_simulation.proofs.Inputs.{done_by}
use Rattle.roam_simulation.proofs.Slots.{Sits, sits, vacant, stands_kept, stands_put}

pub steps_typed : (v : WorldView) (w : World) (slot : ℕ) (act : Act) (result : Result (Unit {0}) Fault) (c c' : ClientView) → Stands v w
    → slot < length v.slots → start_in v.slots slot ≡ Some c
    → Types c act result c'
    → Steps w (Typed slot act) (done_by result) (record v { slots = set v.slots slot (Some c') })
steps_typed v w slot act result c c' st lt at types =
    go (subst (λ (x : ClientView). Types x act result c') s.stands types)
  where
    s : Sits w slot c
    s = sits v w slot c st at

    go : Types (view_of w.server.session s.id (w.clients s.id)) act result c'
        → Steps w (Typed slot act) (done_by result) (record v { slots = set v.slots slot (Some c') })
    go (types_watching w' e stands) =
        record {
          left = w;
          step = watching s.id s.at w' (ap done_by e) refl;
          stands = stands_kept v w slot c c' st lt s stands;
          memory = λ want. absurd (subst (λ r. IsWant (done_by r)) e want);
        }
    go (types_full n f e stands) =
        record {
          left = w;
          step = full s.id s.at n f (ap done_by e) refl;
          stands = stands_kept v w slot c c' st lt s stands;
          memory = λ want. absurd (subst (λ r. IsWant (done_by r)) e want);
        }
    go (types_spent n f e stands) =
        record {
          left = w;
          step = spent s.id s.at n f (ap done_by e) refl;
          stands = stands_kept v w slot c c' st lt s stands;
          memory = λ want. absurd (subst (λ r. IsWant (done_by r)) e want);
        }
    go (types_typed n nf ns e stands) =
        record {
          left = with_client w s.id (after_act (w.clients s.id) act);
          step = typed s.id s.at n nf ns (ap done_by e) refl;
          stands = stands_put v w slot c c' (after_act (w.clients s.id) act) st lt s s.made stands;
          memory = λ want. (s.id, s.at, n, nf, ns);
        }
    go (types_no_memory edits room low e stands) =
        record {
          left = w;
          step = no_memory (ap done_by e) refl;
          stands = stands_kept v w slot c c' st lt s stands;
          memory = λ want. (s.id, s.at, edits, room, low);
        }

pub steps_untyped : (v : WorldView) (w : World) (slot : ℕ) (act : Act) → Stands v w → start_in v.slots slot ≡ None
    → Steps w (Typed slot act) Refused v
steps_untyped v w slot act st at =
    record { left = w; step = empty_slot (vacant v w slot st at) refl refl; stands = st; memory = λ want. absurd want }
