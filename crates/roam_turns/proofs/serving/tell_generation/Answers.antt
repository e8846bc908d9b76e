use Rattle.std.proofs.Common.{[], ◌∷◌}
use Rattle.roam_turns.specs.Calls.PortCall.{PaneGenerations}
use Rattle.roam_turns.specs.Calls.ServerCall.{Generation}
use Rattle.roam_turns.specs.Parts.Call.{Port, Core}
use Rattle.roam_turns.specs.Turns.{TellsGeneration}
use Rattle.roam_turns.proofs.Making.{Just, makes_none, makes_core, makes_port, makes_as}
use Rattle.roam_turns.proofs.serving.tell_generation.Goals as goal

pub returns : goal.returns
returns g c =
    let step = g.C.ServerCore.step in
    let pane = c.args.pane in
    let generation = c.generation-generation.result in
    record {
      tells =
          makes_as step (Just (Core (Generation pane generation) ∷ Port (PaneGenerations pane generation) ∷ [])) (TellsGeneration pane)
          (makes_port step (Core (Generation pane generation) ∷ []) (PaneGenerations pane generation)
          (makes_core step [] (Generation pane generation) (makes_none step) c.generation-generation.ensures.tells c.generation-generation.ensures.step)
          c.pane_generations.ensures.tells)
          (λ xs e. (generation, e));
    }
