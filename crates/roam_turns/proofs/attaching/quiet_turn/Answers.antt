use Rattle.std.proofs.Common.{◌++◌, ap, sym, subst, [], ◌∷◌}
use Rattle.std.proofs.KnownBytes.{Keeps-trans}
use Rattle.roam_turns.specs.Calls.PortCall.{Now}
use Rattle.roam_turns.specs.Painting.{Follows}
use Rattle.roam_turns.specs.Parts.{Then, ReceivesUpTo}
use Rattle.roam_turns.specs.Parts.Call.{Port}
use Rattle.roam_turns.specs.Turns.{IsToClient, ClientTicks, QuietTurn}
use Rattle.roam_turns.proofs.Making.{Just, makes_none, makes_port, makes_then, makes_both}
use Rattle.roam_turns.proofs.attaching.quiet_turn.Goals as goal

pub returns-clause-turn : goal.returns-clause-turn
returns-clause-turn g c =
    let step = g.C.ClientCore.step in
    let now = c.now-now.result in
    let ticks = ClientTicks now c.args.to in
    let parts = Then (ReceivesUpTo (IsToClient now) 2048 32) ticks in
    makes_both step (Just (Port (Now now) ∷ [])) parts (QuietTurn c.args.to)
    (makes_port step [] (Now now) (makes_none step) c.now-now.ensures.tells)
    (makes_then step (ReceivesUpTo (IsToClient now) 2048 32) ticks c.receive_all.ensures.receives c.tick_and_send.ensures.ticks)
    (λ xs ys e rest. record { now = now; rest = ys; all = ap (λ l. l ++ ys) e; parts = rest })

pub returns-clause-follows : goal.returns-clause-follows
returns-clause-follows g c =
    let first = g.C.ClientCore.number c.args.client.now in
    let screen = g.C.ClientCore.screen c.args.client.now in
    subst (λ n. Follows first screen n (g.C.ClientCore.screen c.tick_and_send.new.client)) (sym c.tick_and_send.ensures.number)
    (subst (λ s. Follows first screen (g.C.ClientCore.number c.receive_all.new.client) s) (sym c.tick_and_send.ensures.screen)
    c.receive_all.ensures.follows)

pub returns-clause-written : goal.returns-clause-written
returns-clause-written g c =
    Keeps-trans _ _ _ (Keeps-trans _ _ _ c.now-now.ensures.written c.receive_all.ensures.written) c.tick_and_send.ensures.written
