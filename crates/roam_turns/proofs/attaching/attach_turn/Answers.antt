use Rattle.std.proofs.Common.{◌++◌, ap, sym, subst, [], ◌∷◌}
use Rattle.std.specs.Option.{option_copied}
use Rattle.std.proofs.KnownBytes.{Keeps-trans}
use Rattle.roam_screens.specs.Screenshot.{IsScreenshot}
use Rattle.roam_turns.specs.Calls.PortCall.{Now}
use Rattle.roam_turns.specs.Painting.{IsBehind, Follows}
use Rattle.roam_turns.specs.Parts.{Then, ReceivesUpTo}
use Rattle.roam_turns.specs.Parts.Call.{Port}
use Rattle.roam_turns.specs.Turns.{Types, IsToClient, Paints, ClientTicks, AttachTurn}
use Rattle.roam_turns.proofs.Making.{Just, makes_none, makes_port, makes_then, makes_both, makes_as}
use Rattle.roam_turns.proofs.Painted.{paints_at, paints_behind, behind_later}
use Rattle.roam_turns.proofs.Starts.{follows_both}
use Rattle.roam_turns.proofs.Leading.{turn_leads, shows_noted, led_within}
use Rattle.roam_turns.proofs.attaching.attach_turn.Goals as goal

pub returns-clause-turn : goal.returns-clause-turn
returns-clause-turn g c =
    let step = g.C.ClientCore.step in
    let now = c.now-now.result in
    let before = c.receive_all.new.client in
    let after = c.tick_and_send.new.client in
    let n = g.C.ClientCore.number after in
    let s = g.C.ClientCore.screen after in
    let old = c.args.outer.now in
    let new = c.paint_screen.new.outer in
    let next = option_copied c.args.next in
    let taken = c.type_next-taken.result in
    let ticks = ClientTicks now c.args.to in
    let paints = Then (Paints n s old new) ticks in
    let receives = Then (ReceivesUpTo (IsToClient now) 2048 32) paints in
    let parts = Then (Types next taken) receives in
    makes_both step (Just (Port (Now now) ∷ [])) parts (AttachTurn n s old new c.args.to next taken)
    (makes_port step [] (Now now) (makes_none step) c.now-now.ensures.tells)
    (makes_then step (Types next taken) receives (c.type_next-taken.ensures.types _)
    (makes_then step (ReceivesUpTo (IsToClient now) 2048 32) paints c.receive_all.ensures.receives
    (makes_then step (Paints n s old new) ticks
    (makes_as step (Paints (g.C.ClientCore.number before) (g.C.ClientCore.screen before) old new) (Paints n s old new)
    c.paint_screen.ensures.paints
    (paints_at (g.C.ClientCore.number before) n (g.C.ClientCore.screen before) s old new (sym c.tick_and_send.ensures.number)
    (sym c.tick_and_send.ensures.screen)))
    c.tick_and_send.ensures.ticks)))
    (λ xs ys e rest. record { now = now; rest = ys; all = ap (λ l. l ++ ys) e; parts = rest })

pub returns-clause-leads : goal.returns-clause-leads
returns-clause-leads g c calls turn =
    turn_leads c.painted_leads_over.ensures.leads c.opened_begins_blank.ensures.begins _ _ _ _ _ _ _ calls
    (subst IsScreenshot (sym c.tick_and_send.ensures.screen) c.paint_screen.ensures.screen)
    turn

pub returns-clause-behind : goal.returns-clause-behind
returns-clause-behind g c =
    let before = c.receive_all.new.client in
    let new = c.paint_screen.new.outer in
    let kept =
    paints_behind (g.C.ClientCore.number before) (g.C.ClientCore.screen before) c.args.outer.now new _ c.paint_screen.ensures.paints.part
    (behind_later c.args.outer.now _ _ _ _ c.requires.behind
    (follows_both _ _ _ _ _ _ c.type_next-taken.ensures.follows c.receive_all.ensures.follows)) in
    subst (λ n. IsBehind new n (g.C.ClientCore.screen c.tick_and_send.new.client)) (sym c.tick_and_send.ensures.number)
    (subst (λ s. IsBehind new (g.C.ClientCore.number before) s) (sym c.tick_and_send.ensures.screen) kept)

pub returns-clause-shows : goal.returns-clause-shows
returns-clause-shows g c calls turn is =
    shows_noted c.args.outer.now c.paint_screen.new.outer _ _ _ (returns-clause-leads g c calls turn) (returns-clause-behind g c) is

pub returns-clause-follows : goal.returns-clause-follows
returns-clause-follows g c =
    let kept =
    follows_both _ _ _ _ _ _ c.type_next-taken.ensures.follows c.receive_all.ensures.follows in
    let first = g.C.ClientCore.number c.args.client.now in
    let screen = g.C.ClientCore.screen c.args.client.now in
    subst (λ n. Follows first screen n (g.C.ClientCore.screen c.tick_and_send.new.client)) (sym c.tick_and_send.ensures.number)
    (subst (λ s. Follows first screen (g.C.ClientCore.number c.receive_all.new.client) s) (sym c.tick_and_send.ensures.screen) kept)

pub returns-clause-led : goal.returns-clause-led
returns-clause-led g c =
    led_within c.args.outer.now c.paint_screen.new.outer _ _ _ _
    (Keeps-trans _ _ _ c.now-now.ensures.written c.receive_all.ensures.written) c.paint_screen.ensures.led c.tick_and_send.ensures.written
