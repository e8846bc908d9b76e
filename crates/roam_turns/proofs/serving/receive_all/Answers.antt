use Rattle.std.proofs.Common.{◌≡◌, ◌-◌, ◌+◌, ◌∷◌, [], suc, take, length, arith, rules, refl, subst}
use Rattle.roam_turns.specs.Calls.{Tells}
use Rattle.roam_turns.specs.Calls.PortCall.{Received, NothingReceived}
use Rattle.roam_turns.specs.Calls.ServerCall.{ToServer}
use Rattle.roam_turns.specs.Parts.{Receives, ReceivesUpTo}
use Rattle.roam_turns.specs.Parts.Call.{Port, Core}
use Rattle.roam_turns.specs.Turns.{IsToServer}
use Rattle.roam_turns.proofs.Making.{Just, makes_none, makes_core, makes_port, makes_as, until_start, until_more, until_ends, until_done, receives_none, receives_no_more, receives_one_more}
use Rattle.roam_turns.proofs.serving.receive_all.Goals as goal

pub loop-init : goal.loop-init
loop-init g c = (refl, until_start g.C.ServerCore.step (ReceivesUpTo (IsToServer c.args.now) 2048 32))

pub returns-in-None : goal.returns-in-None
returns-in-None g c =
    let step = g.C.ServerCore.step in
    let left = 32 - c.loop.counter in
    let e : left ≡ suc (31 - c.loop.counter) = omega arith in
    record {
      receives =
          until_ends step (ReceivesUpTo (IsToServer c.args.now) 2048 32) (ReceivesUpTo (IsToServer c.args.now) 2048 left)
          (Just (Port (NothingReceived 2048) ∷ [])) c.loop.invariant.1
          (makes_port step [] (NothingReceived 2048) (makes_none step)
          (subst (λ room. Tells (g.P.Ports.told c.loop.ports) (g.P.Ports.told c.receive.new.self) (NothingReceived room ∷ []))
          c.loop.invariant.0 c.in-None.ensures.tells))
          (receives_no_more (IsToServer c.args.now) 2048 (31 - c.loop.counter) left e);
    }

pub returns : goal.returns
returns g c =
    let left = 32 - c.loop.counter in
    let e : left ≡ 0 = omega arith in
    record {
      receives =
          until_done g.C.ServerCore.step (ReceivesUpTo (IsToServer c.args.now) 2048 32) (ReceivesUpTo (IsToServer c.args.now) 2048 left)
          c.loop.invariant.1 (receives_none (IsToServer c.args.now) 2048 left e);
    }

pub loop-preserved : goal.loop-preserved
loop-preserved g c =
    let step = g.C.ServerCore.step in
    let now = c.args.now in
    let n = 32 - (c.loop.counter + 1) in
    let left = 32 - c.loop.counter in
    let e : left ≡ suc n = omega arith in
    let from = c.in-Some.from in
    let bytes = take c.in-Some.len c.receive.new.buf in
    let bytes_len : length c.receive.new.buf ≡ 2048 = search (rules, c.receive.auto.buf, c.loop.invariant.0) in
    let call = ToServer from bytes now c.datagram-dropped.result in (
      bytes_len,
      until_more step (ReceivesUpTo (IsToServer now) 2048 32) (ReceivesUpTo (IsToServer now) 2048 left)
          (ReceivesUpTo (IsToServer now) 2048 n) (Receives (IsToServer now) 2048) c.loop.invariant.1
          (makes_as step (Just (Port (Received 2048 from bytes) ∷ Core call ∷ [])) (Receives (IsToServer now) 2048)
          (makes_core step (Port (Received 2048 from bytes) ∷ []) call
          (makes_port step [] (Received 2048 from bytes) (makes_none step)
          (subst (λ room. Tells (g.P.Ports.told c.loop.ports) (g.P.Ports.told c.receive.new.self) (Received room from bytes ∷ []))
          c.loop.invariant.0 c.in-Some.ensures.tells))
          c.datagram-dropped.ensures.tells c.datagram-dropped.ensures.step)
          (λ xs all. record { from = from; bytes = bytes; call = call; given = (c.datagram-dropped.result, refl); all = all }))
          (receives_one_more (IsToServer now) 2048 n left e),
    )
