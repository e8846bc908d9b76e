use Rattle.std.proofs.Common.{◌++◌, refl, ap, ◌∙◌, [], ◌∷◌, map}
use Rattle.std.specs.Prelude.{Ok, Err}
use Rattle.roam_turns.specs.Calls.{parcels_in}
use Rattle.roam_turns.specs.Calls.ServerCall.{ServerTick}
use Rattle.roam_turns.specs.Parts.Call.{Port, Core}
use Rattle.roam_turns.specs.Turns.{ServerTicks}
use Rattle.roam_turns.proofs.Making.{Just, makes_none, makes_core, makes_ports, makes_both, makes_as}
use Rattle.roam_turns.proofs.serving.tick_and_send.Goals as goal

pub returns-in-Ok : goal.returns-in-Ok
returns-in-Ok g c =
    let step = g.C.ServerCore.step in
    let sends = c.send_parcels.ensures.sends in
    let call = ServerTick c.args.now (Ok (parcels_in c.in-Ok.parcels.items)) in
    record {
      ticks =
          makes_both step (Just (Core call ∷ [])) (Just (map Port sends.0)) (ServerTicks c.args.now)
          (makes_core step [] call (makes_none step) c.in-Ok.ensures.tells c.in-Ok.ensures.step)
          (makes_ports step sends.0 sends.1)
          (λ xs ys e f. (Ok (parcels_in c.in-Ok.parcels.items), sends.0, ap (λ l. l ++ ys) e ∙ ap (λ l. Core call ∷ l) f, sends.2));
    }

pub returns-in-Err : goal.returns-in-Err
returns-in-Err g c =
    let step = g.C.ServerCore.step in
    let call = ServerTick c.args.now (Err c.in-Err.field-0) in
    record {
      ticks =
          makes_as step (Just (Core call ∷ [])) (ServerTicks c.args.now)
          (makes_core step [] call (makes_none step) c.in-Err.ensures.tells c.in-Err.ensures.step)
          (λ xs e. (Err c.in-Err.field-0, [], e, refl));
    }
