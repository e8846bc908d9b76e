use Rattle.std.proofs.Common.{rules, subst, take, [], ◌∷◌}
use Rattle.roam_turns.specs.Calls.{Tells}
use Rattle.roam_turns.specs.Calls.PortCall.{PaneGave, PaneGaveNothing}
use Rattle.roam_turns.specs.Calls.ServerCall.{Room, PaneBytes}
use Rattle.roam_turns.specs.Parts.Call.{Port, Core}
use Rattle.roam_turns.specs.Turns.{AsksPane, TakesPiece}
use Rattle.roam_turns.specs.Turns.AsksPane.{full, nothing, empty, piece}
use Rattle.roam_turns.proofs.Making.{Just, makes_none, makes_core, makes_port, makes_as}
use Rattle.roam_turns.proofs.Taking.{takes_some}
use Rattle.roam_turns.proofs.serving.ask_pane.Goals as goal

pub returns-then-not-takes_piece : goal.returns-then-not-takes_piece
returns-then-not-takes_piece g c =
    let not : TakesPiece c.room.result → ⊥ = λ h. search (rules, c.takes_piece.ensures.takes.1 h) in
    let step = g.C.ServerCore.step in
    record {
      asks =
          makes_as step (Just (Core (Room c.args.pane c.room.result) ∷ [])) (AsksPane c.args.pane)
          (makes_core step [] (Room c.args.pane c.room.result) (makes_none step) c.room.ensures.tells c.room.ensures.step)
          (λ xs e. full c.room.result not e);
    }

pub returns-in-None : goal.returns-in-None
returns-in-None g c =
    let takes : TakesPiece c.room.result = search (rules, c.takes_piece.ensures.takes.0) in
    let step = g.C.ServerCore.step in
    record {
      asks =
          makes_as step (Just (Core (Room c.args.pane c.room.result) ∷ Port (PaneGaveNothing c.args.pane 1024) ∷ []))
          (AsksPane c.args.pane)
          (makes_port step (Core (Room c.args.pane c.room.result) ∷ []) (PaneGaveNothing c.args.pane 1024)
          (makes_core step [] (Room c.args.pane c.room.result) (makes_none step) c.room.ensures.tells c.room.ensures.step)
          c.in-None.ensures.tells)
          (λ xs e. nothing c.room.result takes e);
    }

pub returns-in-Some-eq0 : goal.returns-in-Some-eq0
returns-in-Some-eq0 g c =
    let takes : TakesPiece c.room.result = search (rules, c.takes_piece.ensures.takes.0) in
    let step = g.C.ServerCore.step in
    record {
      asks =
          makes_as step (Just (Core (Room c.args.pane c.room.result) ∷ Port (PaneGave c.args.pane 1024 []) ∷ []))
          (AsksPane c.args.pane)
          (makes_port step (Core (Room c.args.pane c.room.result) ∷ []) (PaneGave c.args.pane 1024 [])
          (makes_core step [] (Room c.args.pane c.room.result) (makes_none step) c.room.ensures.tells c.room.ensures.step)
          (subst (λ n. Tells (g.P.Ports.told c.args.ports.now) (g.P.Ports.told c.pane_in.new.self)
          (PaneGave c.args.pane 1024 (take n c.pane_in.new.buf) ∷ [])) c.in-Some-eq0.field-0-test c.in-Some-eq0.ensures.tells))
          (λ xs e. empty c.room.result takes e);
    }

pub returns-in-Some : goal.returns-in-Some
returns-in-Some g c =
    let takes : TakesPiece c.room.result = search (rules, c.takes_piece.ensures.takes.0) in
    let step = g.C.ServerCore.step in
    let bytes = take c.in-Some.len c.pane_in.new.buf in
    record {
      asks =
          makes_as step (Just (Core (Room c.args.pane c.room.result) ∷ Port (PaneGave c.args.pane 1024 bytes)
          ∷ Core (PaneBytes c.args.pane bytes c.pane_bytes-refused.result) ∷ []))
          (AsksPane c.args.pane)
          (makes_core step (Core (Room c.args.pane c.room.result) ∷ Port (PaneGave c.args.pane 1024 bytes) ∷ [])
          (PaneBytes c.args.pane bytes c.pane_bytes-refused.result)
          (makes_port step (Core (Room c.args.pane c.room.result) ∷ []) (PaneGave c.args.pane 1024 bytes)
          (makes_core step [] (Room c.args.pane c.room.result) (makes_none step) c.room.ensures.tells c.room.ensures.step)
          c.in-Some.ensures.tells) c.pane_bytes-refused.ensures.tells c.pane_bytes-refused.ensures.step)
          (λ xs e. piece c.room.result bytes c.pane_bytes-refused.result takes
          (takes_some c.in-Some.len c.pane_in.new.buf c.in-Some.ensures.within c.in-Some.len-test.1) e);
    }
