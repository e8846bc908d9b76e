use Rattle.std.proofs.Common.{◌++◌, ℕ, List, Vec, refl, subst, ap, ◌∙◌, [], ◌∷◌, map}
use Rattle.std.specs.Prelude.{Ok, Err}
use Rattle.std.specs.declared.alloc.Global.{Global}
use Rattle.roam_wire.specs.Cutting.{texts_of}
use Rattle.roam_turns.specs.Calls.ClientCall.{ClientTick}
use Rattle.roam_turns.specs.Parts.Call.{Port, Core}
use Rattle.roam_turns.specs.Turns.{Sends, parcel_to, ClientTicks}
use Rattle.roam_turns.proofs.Making.{Just, makes_none, makes_core, makes_ports, makes_both, makes_as}
use Rattle.roam_turns.proofs.attaching.tick_and_send.Goals as goal

pub returns-in-Ok-clause-ticks : goal.returns-in-Ok-clause-ticks
returns-in-Ok-clause-ticks g c =
    let step = g.C.ClientCore.step in
    let sends = c.send_texts.ensures.sends in
    let each = subst (λ (texts : List (Vec ℕ Global)). Sends (map (parcel_to c.args.to) (texts_of texts)) sends.0)
    c.deref.ensures.value sends.2 in
    let call = ClientTick c.args.now (Ok (texts_of c.in-Ok.texts.items)) in
    makes_both step (Just (Core call ∷ [])) (Just (map Port sends.0)) (ClientTicks c.args.now c.args.to)
    (makes_core step [] call (makes_none step) c.in-Ok.ensures.tells c.in-Ok.ensures.step)
    (makes_ports step sends.0 sends.1)
    (λ xs ys e f. (Ok (texts_of c.in-Ok.texts.items), sends.0, ap (λ l. l ++ ys) e ∙ ap (λ l. Core call ∷ l) f, each))

pub returns-in-Err-clause-ticks : goal.returns-in-Err-clause-ticks
returns-in-Err-clause-ticks g c =
    let step = g.C.ClientCore.step in
    let call = ClientTick c.args.now (Err c.in-Err.field-0) in
    makes_as step (Just (Core call ∷ [])) (ClientTicks c.args.now c.args.to)
    (makes_core step [] call (makes_none step) c.in-Err.ensures.tells c.in-Err.ensures.step)
    (λ xs e. (Err c.in-Err.field-0, [], e, refl))
