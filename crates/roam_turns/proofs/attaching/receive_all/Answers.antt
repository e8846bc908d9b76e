use Rattle.std.proofs.Common.{◌≡◌, ◌-◌, ◌+◌, ◌∷◌, [], suc, take, length, arith, rules, refl, subst, ◌∙◌}
use Rattle.std.proofs.KnownBytes.{Keeps-refl, Keeps-trans}
use Rattle.roam_turns.specs.Calls.{Tells}
use Rattle.roam_turns.specs.Calls.PortCall.{Received, NothingReceived}
use Rattle.roam_turns.specs.Calls.ClientCall.{ToClient}
use Rattle.roam_turns.specs.Parts.{Receives, ReceivesUpTo}
use Rattle.roam_turns.specs.Parts.Call.{Port, Core}
use Rattle.roam_turns.specs.Turns.{IsToClient}
use Rattle.roam_turns.proofs.Making.{Just, makes_none, makes_core, makes_port, makes_as, until_start, until_more, until_ends, until_done, receives_none, receives_no_more, receives_one_more}
use Rattle.roam_turns.proofs.Starts.{follows_none, follows_both}
use Rattle.roam_turns.proofs.attaching.receive_all.Goals as goal

pub loop-init : goal.loop-init
loop-init g c = (refl, Keeps-refl _, follows_none _ _, until_start g.C.ClientCore.step (ReceivesUpTo (IsToClient c.args.now) 2048 32), refl)

pub returns-in-None-clause-receives : goal.returns-in-None-clause-receives
returns-in-None-clause-receives g c =
    let step = g.C.ClientCore.step in
    let left = 32 - c.loop.counter in
    let e : left ≡ suc (31 - c.loop.counter) = omega arith in
    until_ends step (ReceivesUpTo (IsToClient c.args.now) 2048 32) (ReceivesUpTo (IsToClient c.args.now) 2048 left)
    (Just (Port (NothingReceived 2048) ∷ [])) c.loop.invariant.3
    (makes_port step [] (NothingReceived 2048) (makes_none step)
    (subst (λ room. Tells (g.P.Ports.told c.loop.ports) (g.P.Ports.told c.receive.new.self) (NothingReceived room ∷ []))
    c.loop.invariant.0 c.in-None.ensures.tells))
    (receives_no_more (IsToClient c.args.now) 2048 (31 - c.loop.counter) left e)

pub returns-in-None-clause-follows : goal.returns-in-None-clause-follows
returns-in-None-clause-follows g c = c.loop.invariant.2

pub returns-clause-receives : goal.returns-clause-receives
returns-clause-receives g c =
    let left = 32 - c.loop.counter in
    let e : left ≡ 0 = omega arith in
    until_done g.C.ClientCore.step (ReceivesUpTo (IsToClient c.args.now) 2048 32) (ReceivesUpTo (IsToClient c.args.now) 2048 left)
    c.loop.invariant.3 (receives_none (IsToClient c.args.now) 2048 left e)

pub returns-clause-follows : goal.returns-clause-follows
returns-clause-follows g c = c.loop.invariant.2

pub loop-preserved : goal.loop-preserved
loop-preserved g c =
    let step = g.C.ClientCore.step in
    let now = c.args.now in
    let n = 32 - (c.loop.counter + 1) in
    let left = 32 - c.loop.counter in
    let e : left ≡ suc n = omega arith in
    let from = c.in-Some.field-0-0 in
    let bytes = take c.in-Some.len c.receive.new.buf in
    let bytes_len : length c.receive.new.buf ≡ 2048 = search (rules, c.receive.auto.buf, c.loop.invariant.0) in
    let call = ToClient bytes now c.datagram-dropped.result in (
      bytes_len,
      Keeps-trans _ _ _ c.loop.invariant.1 c.in-Some.ensures.written,
      follows_both _ _ _ _ _ _ c.loop.invariant.2 c.datagram-dropped.ensures.follows,
      until_more step (ReceivesUpTo (IsToClient now) 2048 32) (ReceivesUpTo (IsToClient now) 2048 left)
          (ReceivesUpTo (IsToClient now) 2048 n) (Receives (IsToClient now) 2048) c.loop.invariant.3
          (makes_as step (Just (Port (Received 2048 from bytes) ∷ Core call ∷ [])) (Receives (IsToClient now) 2048)
          (makes_core step (Port (Received 2048 from bytes) ∷ []) call
          (makes_port step [] (Received 2048 from bytes) (makes_none step)
          (subst (λ room. Tells (g.P.Ports.told c.loop.ports) (g.P.Ports.told c.receive.new.self) (Received room from bytes ∷ []))
          c.loop.invariant.0 c.in-Some.ensures.tells))
          c.datagram-dropped.ensures.tells c.datagram-dropped.ensures.step)
          (λ xs all. record { from = from; bytes = bytes; call = call; given = (c.datagram-dropped.result, refl); all = all }))
          (receives_one_more (IsToClient now) 2048 n left e),
      c.in-Some.ensures.notice ∙ c.loop.invariant.4,
    )

pub returns-in-None-clause-written : goal.returns-in-None-clause-written
returns-in-None-clause-written g c = Keeps-trans _ _ _ c.loop.invariant.1 c.in-None.ensures.written

pub returns-in-None-clause-notice : goal.returns-in-None-clause-notice
returns-in-None-clause-notice g c = c.in-None.ensures.notice ∙ c.loop.invariant.4
