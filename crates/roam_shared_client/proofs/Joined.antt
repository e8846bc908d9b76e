-- A run goes on, step after step.
use Rattle.std.proofs.Common.{◌≡◌, ℕ, suc, ◌+◌, ◌<◌, arith, true, List, [], ◌∷◌, ◌++◌, length, Option, None, refl, sym, ap, ◌∙◌, subst}
use Rattle.std.specs.Prelude.{Result, Ok, Err, OnOk, OnErr}
use Rattle.roam_cells.specs.declared.faults.Fault.{Fault}
use Rattle.roam_cells.specs.declared.addresses.Addr.{Addr}
use Rattle.roam_turns.specs.Calls.{DoorCall, PortCall, Tells}
use Rattle.roam_turns.specs.Calls.DoorCall.{Came as came, Rested, Slept}
use Rattle.roam_turns.specs.Calls.PortCall.{Asked}
use Rattle.roam_shared_client.specs.Running.{ArriveAll, Arrives, IsFresh, IsStep, Rests, RunStep, Runs, RunsBy, TakesTurn, TakesTurns}
use Rattle.roam_shared_client.specs.Running.Arrives.{no_memory, taken_in}
use Rattle.roam_shared_client.specs.Running.Rests.{sleeps, waits}
use Rattle.roam_shared_client.specs.Running.RunStep.{Asks, Came, Took}
use Rattle.roam_shared_client.specs.Sharing.{Rounds, Shared, most_terminals}
use Rattle.roam_outer_terminal.specs.declared.silence.Silence.{Silence}
use Rattle.roam_outer_terminal.specs.declared.terminal.Terminal.{Terminal}

module _ {S : Type 0} (remaining contents : S → Option (List ℕ)) (to : Addr) where
  abbrev pub Calls : Type 0
  Calls = Option (List PortCall)

  runs_more : (steps : List (RunStep S)) (step : RunStep S) (calls between calls' : Calls) (old mid new : Shared S)
      → RunsBy remaining contents to steps calls between old mid → IsStep remaining contents to step between calls' mid new
      → RunsBy remaining contents to (steps ++ step ∷ []) calls calls' old new
  runs_more [] step calls between calls' old mid new h k =
      let first =
      subst (λ c. IsStep remaining contents to step c calls' old new) h.0
      (subst (λ s. IsStep remaining contents to step between calls' s new) h.1 k) in
      (new, calls', first, (refl, refl))
  runs_more (first ∷ steps) step calls between calls' old mid new h k =
      (h.0, h.1, h.2, runs_more steps step h.1 between calls' h.0 mid new h.3 k)

  pub runs_none : (calls : Calls) (s : Shared S) → Runs remaining contents to calls calls s s
  runs_none calls s = ([], (refl, refl))

  pub runs_asked : (call : DoorCall) (calls between calls' : Calls) (old new : Shared S) → Runs remaining contents to calls between old new
      → Tells between calls' (Asked call ∷ []) → Runs remaining contents to calls calls' old new
  runs_asked call calls between calls' old new h tells =
      (h.0 ++ Asks call ∷ [], runs_more h.0 (Asks call) calls between calls' old new new h.1 (tells, refl))

  pub runs_rested : (longest : ℕ) (calls between calls' : Calls) (old new : Shared S) → Runs remaining contents to calls between old new
      → Rests longest between calls' new → Runs remaining contents to calls calls' old new
  runs_rested longest calls between calls' old new h rests =
      elim rests [
        | sleeps idle tells ↦ runs_asked (Slept longest) calls between calls' old new h tells
        | waits due busy next tells ↦ runs_asked (Rested longest due) calls between calls' old new h tells
      ]

  runs_both : (steps later : List (RunStep S)) (calls between calls' : Calls) (old mid new : Shared S)
      → RunsBy remaining contents to steps calls between old mid → RunsBy remaining contents to later between calls' mid new
      → RunsBy remaining contents to (steps ++ later) calls calls' old new
  runs_both [] later calls between calls' old mid new h k =
      subst (λ c. RunsBy remaining contents to later c calls' old new) h.0
      (subst (λ s. RunsBy remaining contents to later between calls' s new) h.1 k)
  runs_both (first ∷ steps) later calls between calls' old mid new h k =
      (h.0, h.1, h.2, runs_both steps later h.1 between calls' h.0 mid new h.3 k)

  pub runs_joined : (calls between calls' : Calls) (old mid new : Shared S) → Runs remaining contents to calls between old mid
      → Runs remaining contents to between calls' mid new → Runs remaining contents to calls calls' old new
  runs_joined calls between calls' old mid new h k = (h.0 ++ k.0, runs_both h.0 k.0 calls between calls' old mid new h.1 k.1)

  pub runs_round : (silence : Silence) (wait : ℕ) (calls between calls' : Calls) (old mid new : Shared S)
      → Runs remaining contents to calls between old mid → Rounds remaining contents to silence wait between calls' mid new
      → Runs remaining contents to calls calls' old new
  runs_round silence wait calls between calls' old mid new h k =
      (h.0 ++ Took silence wait ∷ [], runs_more h.0 (Took silence wait) calls between calls' old mid new h.1 k)

  -- one came, or was let go
  pub runs_came : (stream : S) (result : Result (Unit {0}) Fault) (calls between calls' : Calls) (old mid new : Shared S)
      → Runs remaining contents to calls between old mid → Tells between calls' (Asked (came true) ∷ [])
      → OnOk result ((t : Terminal S) × (t.stream ≡ stream) × IsFresh t × (new.all ≡ mid.all ++ t ∷ []))
      → OnErr result (new.all ≡ mid.all) → new ≡ record mid { all = new.all } → Runs remaining contents to calls calls' old new
  runs_came stream (Ok u) calls between calls' old mid new h tells added err others =
      let is : new ≡ record mid { all = mid.all ++ added.0 ∷ [] } = others ∙ ap (λ l. record mid { all = l }) added.3 in (
        h.0 ++ Came stream ∷ [],
        runs_more h.0 (Came stream) calls between calls' old mid new h.1
            (tells, record { terminal = added.0; is = added.1; fresh = added.2; all = is }),
      )
  runs_came stream (Err fault) calls between calls' old mid new h tells added err others =
      let is : new ≡ mid = others ∙ ap (λ l. record mid { all = l }) err in
      subst (λ s. Runs remaining contents to calls calls' old s) (sym is) (runs_asked (came true) calls between calls' old mid h tells)

-- a terminal that connected was added if there was room and memory
pub arrived : {S : Type 0} (stream : S) (result : Result (Unit {0}) Fault) (old new : Shared S)
    → OnOk result ((t : Terminal S) × (t.stream ≡ stream) × IsFresh t × (new.all ≡ old.all ++ t ∷ []))
    → length old.all < most_terminals → OnErr result (new.all ≡ old.all) → new ≡ record old { all = new.all } → Arrives old new
arrived stream (Ok u) old new added room err others =
    taken_in stream room (record {
      terminal = added.0;
      is = added.1;
      fresh = added.2;
      all = others ∙ ap (λ l. record old { all = l }) added.3;
    })
arrived stream (Err fault) old new added room err others = no_memory room (others ∙ ap (λ l. record old { all = l }) err)

-- one more came, or one more turn was taken
one_more : (n : ℕ) → n + 1 ≡ suc n
one_more n = omega arith

pub one_more_arrival : {S : Type 0} (n : ℕ) (calls between calls' : Option (List PortCall)) (old mid new : Shared S)
    → ArriveAll n calls between old mid → Tells between calls' (Asked (came true) ∷ []) → Arrives mid new
    → ArriveAll (n + 1) calls calls' old new
one_more_arrival n calls between calls' old mid new all tells last =
    subst (λ m. ArriveAll m calls calls' old new) (sym (one_more n)) (mid, between, all, tells, last)

pub one_more_turn : {S : Type 0} (remaining contents : S → Option (List ℕ)) (to : Addr) (rounds n : ℕ) (silence : Silence)
    (calls between calls' : Option (List PortCall)) (old mid new : Shared S)
    → TakesTurns remaining contents to rounds n calls between old mid
    → TakesTurn remaining contents to rounds silence None between calls' mid new
    → TakesTurns remaining contents to rounds (n + 1) calls calls' old new
one_more_turn remaining contents to rounds n silence calls between calls' old mid new all last =
    subst (λ m. TakesTurns remaining contents to rounds m calls calls' old new) (sym (one_more n)) (mid, between, silence, all, last)
