-- The acts typed at an instance in a run: the lines of its terminals, those of one between those of another.
use Rattle.std.specs.Prelude.{◌≡◌, ◌≢◌, ℕ, zero, suc, ◌+◌, ◌==◌, ◌≤◌, ◌<◌, Bool, true, false, List, [], ◌∷◌, ◌++◌, map, length, Option, None, if◌then◌else◌}
use Rattle.std.specs.Io.KnownBytes.{Consumes}
use Rattle.roam_acts.specs.declared.acts.Act.{Act}
use Rattle.roam_hub.specs.Clients.{ClientView}
use Rattle.roam_cells.specs.declared.addresses.Addr.{Addr}
use Rattle.roam_turns.specs.Calls.{PortCall}
use Rattle.roam_turns.specs.Cores.{client_step}
use Rattle.roam_turns.specs.Parts.{Makes}
use Rattle.roam_turns.specs.Turns.{QuietTurn}
use Rattle.roam_terminal_input.specs.Lines.{ended_all}
use Rattle.roam_shared_client.specs.Running.{Asks, Came, RunStep, RunsBy, Took}
use Rattle.roam_shared_client.specs.Sharing.{Shared}
use Rattle.roam_outer_terminal.specs.Staying.{is_gone}
use Rattle.roam_outer_terminal.specs.Terminals.{Stands, TakesAll, Types}
use Rattle.roam_outer_terminal.specs.declared.terminal.State.TheVariants.{Gone}
use Rattle.roam_outer_terminal.specs.declared.terminal.Terminal.{Terminal}

-- the streams at whose other ends terminals came, in their order
abbrev pub came_in : {S : Type 0} → List (RunStep S) → List S
came_in [] = []
came_in (Asks call ∷ steps) = came_in steps
came_in (Came stream ∷ steps) = stream ∷ came_in steps
came_in (Took silence wait ∷ steps) = came_in steps

-- the element at a place of a list, from 0
abbrev pub IsAt : {X : Type 0} → List X → ℕ → X → Type 0
IsAt [] n x = ⊥
IsAt (y ∷ ys) zero x = y ≡ x
IsAt (y ∷ ys) (suc n) x = IsAt ys n x

-- ---- the typed acts

-- an act that was typed, and the number of its terminal: so many came before it
pub record Typed : Type 0 where
  pub number : ℕ
  pub act : Act

-- all acts that were typed, as they follow one another
abbrev pub all_acts : List Typed → List Act
all_acts typed = map (λ t. t.act) typed

-- those of one terminal
abbrev pub acts_of : ℕ → List Typed → List Act
acts_of n [] = []
acts_of n (t ∷ typed) = (if t.number == n then t.act ∷ [] else []) ++ acts_of n typed

-- an instance goes on: acts are typed at it, and it takes turns that show nothing
pub data GoesOn (to : Addr) (old : ClientView) : List Act → ClientView → Type 0 where
  still : GoesOn to old [] old
  types : (mid new : ClientView) (before more : List Act) → GoesOn to old before mid → Types more mid new
      → GoesOn to old (before ++ more) new
  turns : (mid new : ClientView) (acts : List Act) (calls calls' : Option (List PortCall)) → GoesOn to old acts mid
      → Makes client_step (QuietTurn to) calls calls' None None mid new → GoesOn to old acts new

-- ---- a terminal's account

-- acts are those of the lines that these bytes begin with, each once and in order
pub record AreActsOf (read : List ℕ) (acts : List Act) : Type 0 where
  pub lines : List (List ℕ)
  pub rest : List ℕ
  pub watches : Bool
  pub is : read ≡ ended_all lines ++ rest
  pub takes : TakesAll lines false watches acts

-- a terminal of a run: its number, its stream at the beginning, its present or last state, and the bytes read from it
pub record Trace (S : Type 0) : Type 0 where
  pub number : ℕ
  pub came : S
  pub last : Terminal S
  pub read : List ℕ

-- It is the terminal of its number. Its bytes were read from its stream. The acts typed for it are those of its lines. Unless it is
-- disconnected, all lines that aren't typed are kept.
pub record IsTrace {S : Type 0} (remaining : S → Option (List ℕ)) (came : List S) (typed : List Typed) (a : Trace S) : Type 0 where
  pub at : IsAt came a.number a.came
  pub consumed : Consumes (remaining a.came) (remaining a.last.stream) a.read
  pub acts : AreActsOf a.read (acts_of a.number typed)
  pub stands : a.last.state ≢ Gone → Stands a.last.lines.kept a.last.watches a.read (acts_of a.number typed)

abbrev pub AreTraces : {S : Type 0} → (S → Option (List ℕ)) → List S → List Typed → List (Trace S) → Type 0
AreTraces remaining came typed [] = Unit {0}
AreTraces remaining came typed (a ∷ all) = IsTrace remaining came typed a × AreTraces remaining came typed all

-- how many of these have a number
abbrev pub count_of : {S : Type 0} → ℕ → List (Trace S) → ℕ
count_of n [] = 0
count_of n (a ∷ all) = (if a.number == n then 1 else 0) + count_of n all

-- each of these is there
abbrev pub AreThere : {S : Type 0} → List (Trace S) → Type 0
AreThere [] = Unit {0}
AreThere (a ∷ all) = (is_gone a.last ≡ false) × AreThere all

-- each of these was let go
abbrev pub AreGone : {S : Type 0} → List (Trace S) → Type 0
AreGone [] = Unit {0}
AreGone (a ∷ all) = (is_gone a.last ≡ true) × AreGone all

-- the terminals as they are, or were when they were let go
abbrev pub lasts : {S : Type 0} → List (Trace S) → List (Terminal S)
lasts all = map (λ a. a.last) all

-- The account of a run: the typed acts, each with its terminal's number, and one trace for each terminal that connected. Nothing else was
-- typed at the instance, and nothing for a terminal that didn't connect.
pub record IsTyped {S : Type 0} (remaining : S → Option (List ℕ)) (to : Addr) (came : List S) (first : ClientView) (s : Shared S)
    : Type 0 where
  pub typed : List Typed
  pub there : List (Trace S)
  pub left : List (Trace S)
  pub goes : GoesOn to first (all_acts typed) s.client
  pub all : s.all ≡ lasts there
  pub here : AreThere there
  pub gone : AreGone left
  pub are_there : AreTraces remaining came typed there
  pub were_there : AreTraces remaining came typed left
  pub each_once : (n : ℕ) → n < length came → count_of n there + count_of n left ≡ 1
  pub no_other : (n : ℕ) → length came ≤ n → count_of n there + count_of n left ≡ 0
  pub nobody : (n : ℕ) → length came ≤ n → acts_of n typed ≡ []

-- ---- the law

-- So it is after each run that begins without terminals.
abbrev pub LinesAreTyped : {S : Type 0} → (S → Option (List ℕ)) → (S → Option (List ℕ)) → Type 0
LinesAreTyped {S} remaining contents =
    (to : Addr) (steps : List (RunStep S)) (calls calls' : Option (List PortCall)) (old new : Shared S) → old.all ≡ []
    → RunsBy remaining contents to steps calls calls' old new → IsTyped remaining to (came_in steps) old.client new
