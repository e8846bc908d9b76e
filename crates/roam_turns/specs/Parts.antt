-- Parts of a turn: which calls they may be, and one after another.
use Rattle.std.specs.Prelude.{◌≡◌, ℕ, zero, suc, ◌+◌, ◌⊎◌, List, [], ◌∷◌, ◌++◌, Option}
use Rattle.roam_turns.specs.Calls.{PortCall, Tells, RunOf}
use Rattle.roam_turns.specs.Calls.PortCall.{Received, NothingReceived}
use Rattle.roam_cells.specs.declared.addresses.Addr.{Addr}

-- a call that a turn makes: of a port or of its core
pub data Call (C : Type 0) : Type 0 where
  Port : PortCall → Call C
  Core : C → Call C

-- the calls of ports among them, in their order
abbrev pub port_calls : {C : Type 0} → List (Call C) → List PortCall
port_calls [] = []
port_calls (Port call ∷ calls) = call ∷ port_calls calls
port_calls (Core call ∷ calls) = port_calls calls

-- the calls of the core among them, in their order
abbrev pub core_calls : {C : Type 0} → List (Call C) → List C
core_calls [] = []
core_calls (Port call ∷ calls) = core_calls calls
core_calls (Core call ∷ calls) = call ∷ core_calls calls

-- one part, and then another
pub record Then {C : Type 0} (First Later : List (Call C) → Type 0) (calls : List (Call C)) : Type 0 where
  pub before : List (Call C)
  pub after : List (Call C)
  pub all : calls ≡ before ++ after
  pub first : First before
  pub later : Later after

-- a part for each number from this one on, so many of them
unfoldable pub Each : {C : Type 0} → (ℕ → List (Call C) → Type 0) → ℕ → ℕ → List (Call C) → Type 0
Each Part at zero = λ calls. calls ≡ []
Each Part at (suc n) = Then (Part at) (Each Part (at + 1) n)

-- a datagram came into room for so many bytes, and the core was called with it
pub record Receives {C : Type 0} (IsGiven : Addr → List ℕ → C → Type 0) (room : ℕ) (calls : List (Call C)) : Type 0 where
  pub from : Addr
  pub bytes : List ℕ
  pub call : C
  pub given : IsGiven from bytes call
  pub all : calls ≡ Port (Received room from bytes) ∷ Core call ∷ []

-- at most so many receives, until one brings nothing
unfoldable pub ReceivesUpTo : {C : Type 0} → (Addr → List ℕ → C → Type 0) → ℕ → ℕ → List (Call C) → Type 0
ReceivesUpTo IsGiven room zero = λ calls. calls ≡ []
ReceivesUpTo IsGiven room (suc n) = λ calls.
    (calls ≡ Port (NothingReceived room) ∷ []) ⊎ Then (Receives IsGiven room) (ReceivesUpTo IsGiven room n) calls

-- The calls of a part were made: the ports and the core got just these, as far as they record, and the core's were its steps.
pub record Makes {C S : Type 0} (step : S → C → S → Type 0) (Part : List (Call C) → Type 0) (told told' : Option (List PortCall))
    (made made' : Option (List C)) (old new : S) : Type 0 where
  pub calls : List (Call C)
  pub part : Part calls
  pub tells : Tells told told' (port_calls calls)
  pub makes : Tells made made' (core_calls calls)
  pub runs : RunOf step old (core_calls calls) new
