use Rattle.std.proofs.Common.{◌++◌, ap, [], ◌∷◌}
use Rattle.roam_turns.specs.Calls.PortCall.{Now}
use Rattle.roam_turns.specs.Parts.{Then, Each, ReceivesUpTo}
use Rattle.roam_turns.specs.Parts.Call.{Port}
use Rattle.roam_turns.specs.Turns.{TellsGeneration, AsksPane, FillsPane, IsToServer, ServerTicks, ServeTurn}
use Rattle.roam_turns.proofs.Making.{Just, makes_none, makes_port, makes_then, makes_both}
use Rattle.roam_turns.proofs.serving.serve_turn.Goals as goal

pub returns : goal.returns
returns g c =
    let step = g.C.ServerCore.step in
    let now = c.now-now.result in
    let ticks = ServerTicks now in
    let fills = Then (Each FillsPane 1 9) ticks in
    let asks = Then (Each AsksPane 1 9) fills in
    let generations = Then (Each TellsGeneration 1 9) asks in
    let receives = Then (ReceivesUpTo (IsToServer now) 2048 32) generations in
    record {
      turn =
          makes_both step (Just (Port (Now now) ∷ [])) receives ServeTurn
          (makes_port step [] (Now now) (makes_none step) c.now-now.ensures.tells)
          (makes_then step (ReceivesUpTo (IsToServer now) 2048 32) generations c.receive_all.ensures.receives
          (makes_then step (Each TellsGeneration 1 9) asks c.tell_generations.ensures.tells
          (makes_then step (Each AsksPane 1 9) fills c.ask_panes.ensures.asks
          (makes_then step (Each FillsPane 1 9) ticks c.fill_panes.ensures.fills c.tick_and_send.ensures.ticks))))
          (λ xs ys e parts. record { now = now; rest = ys; all = ap (λ l. l ++ ys) e; parts = parts });
    }
