use Rattle.std.proofs.Common.{◌≤◌, subst, take, Some, None, [], ◌∷◌, arith, length-take}
use Rattle.roam_turns.specs.Calls.{Tells}
use Rattle.roam_turns.specs.Calls.PortCall.{PaneTook}
use Rattle.roam_turns.specs.Calls.ServerCall.{Output, Drain}
use Rattle.roam_turns.specs.Parts.Call.{Port, Core}
use Rattle.roam_turns.specs.Turns.{FillsPane}
use Rattle.roam_turns.specs.Turns.FillsPane.{no_pane, quiet, refused, took}
use Rattle.roam_turns.proofs.Making.{Just, makes_none, makes_core, makes_port, makes_as}
use Rattle.roam_turns.proofs.Taking.{takes_some, less_within}
use Rattle.roam_turns.proofs.serving.fill_pane.Goals as goal

pub drain-refused-requires : goal.drain-refused-requires
drain-refused-requires g c =
    let less : c.pane_out-took.result ≤ c.in-Some.len =
    omega (arith, c.pane_out-took.ensures.within, length-take c.in-Some.len c.output.new.out) in
    record { within = less_within c.pane_out-took.result c.in-Some.len _ less c.in-Some.ensures.waits }

pub returns-in-None : goal.returns-in-None
returns-in-None g c =
    let step = g.C.ServerCore.step in
    record {
      fills =
          makes_as step (Just (Core (Output c.args.pane 1024 None) ∷ [])) (FillsPane c.args.pane)
          (makes_core step [] (Output c.args.pane 1024 None) (makes_none step) c.in-None.ensures.tells c.in-None.ensures.step)
          (λ xs e. no_pane e);
    }

pub returns-in-Some-eq0 : goal.returns-in-Some-eq0
returns-in-Some-eq0 g c =
    let step = g.C.ServerCore.step in
    let at = c.in-Some-eq0 in
    record {
      fills =
          makes_as step (Just (Core (Output c.args.pane 1024 (Some [])) ∷ [])) (FillsPane c.args.pane)
          (makes_core step [] (Output c.args.pane 1024 (Some [])) (makes_none step)
          (subst (λ n. Tells (g.C.ServerCore.made c.args.server.now) (g.C.ServerCore.made c.output.new.self)
          (Output c.args.pane 1024 (Some (take n c.output.new.out)) ∷ [])) at.field-0-test at.ensures.tells)
          (subst (λ n. step c.args.server.now (Output c.args.pane 1024 (Some (take n c.output.new.out))) c.output.new.self)
          at.field-0-test at.ensures.step))
          (λ xs e. quiet e);
    }

pub returns-then-took-gt0 : goal.returns-then-took-gt0
returns-then-took-gt0 g c =
    let step = g.C.ServerCore.step in
    let pane = c.args.pane in
    let bytes = take c.in-Some.len c.output.new.out in
    let n = c.pane_out-took.result in
    let answer = c.drain-refused.result in
    record {
      fills =
          makes_as step (Just (Core (Output pane 1024 (Some bytes)) ∷ Port (PaneTook pane bytes n) ∷ Core (Drain pane n answer) ∷ []))
          (FillsPane pane)
          (makes_core step (Core (Output pane 1024 (Some bytes)) ∷ Port (PaneTook pane bytes n) ∷ []) (Drain pane n answer)
          (makes_port step (Core (Output pane 1024 (Some bytes)) ∷ []) (PaneTook pane bytes n)
          (makes_core step [] (Output pane 1024 (Some bytes)) (makes_none step) c.in-Some.ensures.tells c.in-Some.ensures.step)
          c.pane_out-took.ensures.tells) c.drain-refused.ensures.tells c.drain-refused.ensures.step)
          (λ xs e. took bytes n answer
          (takes_some c.in-Some.len c.output.new.out c.in-Some.ensures.within c.in-Some.len-test.1) c.if-took-gt0.true e);
    }

pub returns-else-took-gt0 : goal.returns-else-took-gt0
returns-else-took-gt0 g c =
    let step = g.C.ServerCore.step in
    let pane = c.args.pane in
    let bytes = take c.in-Some.len c.output.new.out in
    record {
      fills =
          makes_as step (Just (Core (Output pane 1024 (Some bytes)) ∷ Port (PaneTook pane bytes 0) ∷ [])) (FillsPane pane)
          (makes_port step (Core (Output pane 1024 (Some bytes)) ∷ []) (PaneTook pane bytes 0)
          (makes_core step [] (Output pane 1024 (Some bytes)) (makes_none step) c.in-Some.ensures.tells c.in-Some.ensures.step)
          (subst (λ n. Tells (g.P.Ports.told c.args.ports.now) (g.P.Ports.told c.pane_out-took.new.self) (PaneTook pane bytes n ∷ []))
          (omega (arith, c.if-took-gt0.false)) c.pane_out-took.ensures.tells))
          (λ xs e. refused bytes
          (takes_some c.in-Some.len c.output.new.out c.in-Some.ensures.within c.in-Some.len-test.1) e);
    }
