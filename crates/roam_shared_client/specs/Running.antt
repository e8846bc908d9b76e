-- The whole run of a client instance with its outer terminals: terminals come, and rounds are taken, one joined to the next, until the end.
use Rattle.std.specs.Prelude.{◌≡◌, ℕ, zero, suc, ◌-◌, ◌<◌, ◌≤◌, ◌^◌, ◌==◌, min, nat_lt, not, Bool, true, false, List, [], ◌∷◌, ◌++◌, length, Option, Some, None, IfSome, is_some, codes, if◌then◌else◌}
use Rattle.roam_hub.specs.Clients.{ClientView}
use Rattle.roam_hub.specs.Waits.{has_come}
use Rattle.roam_cells.specs.declared.addresses.Addr.{Addr}
use Rattle.roam_turns.specs.Calls.{DoorCall, PortCall, Tells}
use Rattle.roam_turns.specs.Calls.DoorCall.{Came as came, HasEnded, Rested, Slept}
use Rattle.roam_turns.specs.Calls.PortCall.{Asked}
use Rattle.roam_terminal_input.specs.Lines.{nothing_came}
use Rattle.roam_model.specs.Clients.{moment_of}
use Rattle.roam_model.specs.Sendings.{is_client_due}
use Rattle.roam_shared_client.specs.Sharing.{Rounds, Shared, most_terminals}
use Rattle.roam_outer_terminal.specs.Silence.{end_of, wait_of}
use Rattle.roam_outer_terminal.specs.declared.silence.End.{End}
use Rattle.roam_outer_terminal.specs.declared.silence.End.TheVariants.{Gone}
use Rattle.roam_outer_terminal.specs.declared.silence.Silence.{Silence}
use Rattle.roam_outer_terminal.specs.declared.terminal.State.TheVariants.{Here}
use Rattle.roam_outer_terminal.specs.declared.terminal.Terminal.{Terminal}

-- the text for a terminal above sixteen
abbrev pub full_text : List ℕ
full_text = codes "full\n"

-- a terminal that just came: nothing was read of it, nothing is known of it, and nothing waits
pub record IsFresh {S : Type 0} (t : Terminal S) : Type 0 where
  pub lines : t.lines ≡ nothing_came
  pub outer : t.outer ≡ None
  pub predicting : t.predicting ≡ None
  pub over : t.over ≡ None
  pub waiting : t.waiting ≡ []
  pub watches : t.watches ≡ false
  pub told : t.told ≡ None
  pub stuck : t.stuck ≡ None
  pub here : t.state ≡ Here
  pub untold : t.display_state ≡ None

-- one came at the other end of a stream, behind the others
pub record Comes {S : Type 0} (stream : S) (old new : Shared S) : Type 0 where
  pub terminal : Terminal S
  pub is : terminal.stream ≡ stream
  pub fresh : IsFresh terminal
  pub all : new ≡ record old { all = old.all ++ terminal ∷ [] }

-- ---- steps

-- a step of a run: a call of the door; a terminal that connected at the other end of a stream; or a round, with the instance's knowledge of
-- a silence and the longest wait after it
pub data RunStep (S : Type 0) : Type 0 where
  Asks : (call : DoorCall) → RunStep S
  Came : (stream : S) → RunStep S
  Took : (silence : Silence) → (wait : ℕ) → RunStep S

-- the door is asked between rounds, and all other calls of the ports are made in them
abbrev pub IsStep : {S : Type 0} → (S → Option (List ℕ)) → (S → Option (List ℕ)) → Addr → RunStep S
    → Option (List PortCall) → Option (List PortCall) → Shared S → Shared S → Type 0
IsStep remaining contents to (Asks call) calls calls' old new = Tells calls calls' (Asked call ∷ []) × (new ≡ old)
IsStep remaining contents to (Came stream) calls calls' old new = Tells calls calls' (Asked (came true) ∷ []) × Comes stream old new
IsStep remaining contents to (Took silence wait) calls calls' old new = Rounds remaining contents to silence wait calls calls' old new

-- these steps were taken, each from the end of the one before
abbrev pub RunsBy : {S : Type 0} → (S → Option (List ℕ)) → (S → Option (List ℕ)) → Addr → List (RunStep S)
    → Option (List PortCall) → Option (List PortCall) → Shared S → Shared S → Type 0
RunsBy remaining contents to [] calls calls' old new = (calls' ≡ calls) × (new ≡ old)
RunsBy {S} remaining contents to (step ∷ steps) calls calls' old new =
    (mid : Shared S) × (between : Option (List PortCall)) × IsStep remaining contents to step calls between old mid
    × RunsBy remaining contents to steps between calls' mid new

-- so a run goes on
abbrev pub Runs : {S : Type 0} → (S → Option (List ℕ)) → (S → Option (List ℕ)) → Addr
    → Option (List PortCall) → Option (List PortCall) → Shared S → Shared S → Type 0
Runs {S} remaining contents to calls calls' old new = (steps : List (RunStep S)) × RunsBy remaining contents to steps calls calls' old new

-- ---- new terminals

-- so many are asked for at most before a round
abbrev pub most_asked : ℕ
most_asked = 64

-- One that came at a door was taken in, if fewer than sixteen were there. If sixteen were there, or memory was refused, it was let go, and the client
-- is as it was.
pub data Arrives {S : Type 0} (old new : Shared S) : Type 0 where
  taken_in : (stream : S) → length old.all < most_terminals → Comes stream old new → Arrives old new
  full : most_terminals ≤ length old.all → new ≡ old → Arrives old new
  no_memory : length old.all < most_terminals → new ≡ old → Arrives old new

-- so many came, one after the other, each asked for
abbrev pub ArriveAll : {S : Type 0} → ℕ → Option (List PortCall) → Option (List PortCall) → Shared S → Shared S → Type 0
ArriveAll zero calls calls' old new = (calls' ≡ calls) × (new ≡ old)
ArriveAll {S} (suc n) calls calls' old new =
    (mid : Shared S) × (between : Option (List PortCall)) × ArriveAll n calls between old mid
    × Tells between calls' (Asked (came true) ∷ []) × Arrives mid new

-- new terminals were added or refused, until none was left or so many were asked for
pub data TakesIn {S : Type 0} (calls calls' : Option (List PortCall)) (old new : Shared S) : Type 0 where
  until_nobody : (n : ℕ) (between : Option (List PortCall)) → n < most_asked → ArriveAll n calls between old new
      → Tells between calls' (Asked (came false) ∷ []) → TakesIn calls calls' old new
  many : ArriveAll most_asked calls calls' old new → TakesIn calls calls' old new

-- ---- the rest, and the end

-- how many milliseconds it goes on at most once a terminal asked for the end
abbrev pub longest_end : ℕ
longest_end = 1000

-- a run that a terminal asked to end is over: every typed act is acknowledged, or a second passed since the first such request
pub data IsOver {S : Type 0} (s : Shared S) (moment : ℕ) : Type 0 where
  settled : (since : ℕ) → s.ending ≡ Some since → s.client.kept.acts.acts ≡ [] → IsOver s moment
  late : (since : ℕ) → s.ending ≡ Some since → longest_end ≤ moment - since → IsOver s moment

-- so many rounds end with the machine alone
abbrev pub is_for_good : ℕ → Bool
is_for_good rounds = rounds == 2 ^ 64 - 1

-- at most so many milliseconds, on this condition
abbrev pub within : Bool → ℕ → ℕ → ℕ
within is_so longest wait = if is_so then min wait longest else wait

-- The longest rest after a round that allows such a wait. If a terminal is there, until the next notice of silence. If the end was asked
-- for, no longer than that allows. Ten milliseconds if the rounds are counted, so that they end.
abbrev pub longest_rest : {S : Type 0} → Shared S → Silence → ℕ → ℕ → ℕ
longest_rest s silence wait rounds =
    within (not (is_for_good rounds)) 10
    (within (is_some s.ending) longest_end (within (nat_lt 0 (length s.all)) (wait_of silence) wait))

-- a client instance next has something due at a moment, or never: nothing is due before it, and something is at it
pub record IsNextDue (client : ClientView) (due : Option ℕ) : Type 0 where
  pub before : (now : ℕ) → now < 2 ^ 64 → has_come due now ≡ false → is_client_due client.kept (moment_of client.kept now) ≡ false
  pub at : IfSome due (λ d. is_client_due client.kept (moment_of client.kept d) ≡ true)

-- no terminal is there, none asked for the end, and all acts that were typed are acknowledged
pub record IsIdle {S : Type 0} (s : Shared S) : Type 0 where
  pub none : s.all ≡ []
  pub goes_on : s.ending ≡ None
  pub settled : s.client.kept.acts.acts ≡ []

-- The rest after a round, at most so many milliseconds: an idle instance sleeps; any other waits until its next due work.
pub data Rests {S : Type 0} (longest : ℕ) (calls calls' : Option (List PortCall)) (s : Shared S) : Type 0 where
  sleeps : IsIdle s → Tells calls calls' (Asked (Slept longest) ∷ []) → Rests longest calls calls' s
  waits : (due : Option ℕ) → (IsIdle s → ⊥) → IsNextDue s.client due → Tells calls calls' (Asked (Rested longest due) ∷ [])
      → Rests longest calls calls' s

-- The step after a round: the server has ended; or the run is over, and the result is what was heard of the server; or the instance rests.
pub data Follows {S : Type 0} (rounds : ℕ) (silence : Silence) (wait : ℕ) (end : Option End) (calls calls' : Option (List PortCall))
    (s : Shared S) : Type 0 where
  ended : Tells calls calls' (Asked (HasEnded true) ∷ []) → end ≡ Some Gone → Follows rounds silence wait end calls calls' s
  over : Tells calls calls' (Asked (HasEnded false) ∷ []) → IsOver s silence.moment → end ≡ Some (end_of silence)
      → Follows rounds silence wait end calls calls' s
  rests : (between : Option (List PortCall)) → Tells calls between (Asked (HasEnded false) ∷ []) → (IsOver s silence.moment → ⊥)
      → Rests (longest_rest s silence wait rounds) between calls' s → end ≡ None → Follows rounds silence wait end calls calls' s

-- ---- a whole run

-- A turn of a run: new terminals are added, a round is taken, and the step after it may be the end.
pub record TakesTurn {S : Type 0} (remaining contents : S → Option (List ℕ)) (to : Addr) (rounds : ℕ) (silence : Silence) (end : Option End)
    (calls calls' : Option (List PortCall)) (old new : Shared S) : Type 0 where
  pub mid : Shared S
  pub between : Option (List PortCall)
  pub after : Option (List PortCall)
  pub wait : ℕ
  pub came : TakesIn calls between old mid
  pub round : Rounds remaining contents to silence wait between after mid new
  pub follows : Follows rounds silence wait end after calls' new

-- so many turns were taken, none of which was the end
abbrev pub TakesTurns : {S : Type 0} → (S → Option (List ℕ)) → (S → Option (List ℕ)) → Addr → ℕ → ℕ
    → Option (List PortCall) → Option (List PortCall) → Shared S → Shared S → Type 0
TakesTurns remaining contents to rounds zero calls calls' old new = (calls' ≡ calls) × (new ≡ old)
TakesTurns {S} remaining contents to rounds (suc n) calls calls' old new =
    (mid : Shared S) × (between : Option (List PortCall)) × (silence : Silence)
    × TakesTurns remaining contents to rounds n calls between old mid
    × TakesTurn remaining contents to rounds silence None between calls' mid new

-- A whole run of at most so many rounds: all were taken, and the result is what was heard of the server; or fewer were, and one more that
-- was the end.
pub data RunsOut {S : Type 0} (remaining contents : S → Option (List ℕ)) (to : Addr) (rounds : ℕ) (last : Silence) (end : End)
    (calls calls' : Option (List PortCall)) (old new : Shared S) : Type 0 where
  counted : TakesTurns remaining contents to rounds rounds calls calls' old new → end ≡ end_of last
      → RunsOut remaining contents to rounds last end calls calls' old new
  ended : (n : ℕ) (between : Option (List PortCall)) (mid : Shared S) → n < rounds
      → TakesTurns remaining contents to rounds n calls between old mid
      → TakesTurn remaining contents to rounds last (Some end) between calls' mid new
      → RunsOut remaining contents to rounds last end calls calls' old new
