-- The data that ports over memory give, and their state then.
use Rattle.std.specs.Prelude.{◌≡◌, ℕ, ◌+◌, ◌-◌, ◌^◌, ◌&&◌, min, nat_eq, not, List, [], ◌∷◌, take, drop, Bool, true, false, Option, Some, None}
use Rattle.roam_cells.specs.declared.addresses.Addr.{Addr}
use Rattle.roam_turns.specs.declared.memory.MemoryPorts.{MemoryPorts}
use Rattle.roam_turns.specs.Calls.{PortCall}
use Rattle.roam_turns.specs.Calls.PortCall.{Received, NothingReceived, PaneGave, PaneGaveNothing}
use Rattle.roam_turns.specs.Recording.{pieces_of}

-- the number of the next call that is counted; past the greatest there is none
abbrev pub next_call : MemoryPorts → ℕ
next_call ports = min (ports.calls + 1) (2 ^ 64 - 1)

-- the next call goes well: it isn't the one that fails
abbrev pub goes_well : MemoryPorts → Bool
goes_well ports = not (nat_eq (next_call ports) ports.fails_at)

-- ---- the data at the front

-- the first of these, if it is taken
abbrev pub first_where : {A : Type 0} → Bool → List A → Option A
first_where false all = None
first_where true [] = None
first_where true (a ∷ all) = Some a

-- those that are left
abbrev pub rest_where : {A : Type 0} → Bool → List A → List A
rest_where false all = all
rest_where true all = drop 1 all

-- the piece that is to come first is of this pane's program
abbrev pub is_first : ℕ → List (ℕ × List ℕ) → Bool
is_first pane [] = false
is_first pane (p ∷ all) = nat_eq p.0 pane

-- a pane's program gives a piece: the call goes well, and the piece that is to come first is its
abbrev pub gives_piece : ℕ → MemoryPorts → Bool
gives_piece pane ports = goes_well ports && is_first pane (pieces_of ports)

-- ---- what calls bring

-- a datagram comes into room for so many bytes, and is cut to it, or none comes
abbrev pub receive_of : ℕ → Option (Addr × List ℕ) → PortCall
receive_of room None = NothingReceived room
receive_of room (Some d) = Received room d.0 (take room d.1)

-- a piece of a pane's program comes into room for so many bytes, and is cut to it, or none comes
abbrev pub piece_of : ℕ → ℕ → Option (ℕ × List ℕ) → PortCall
piece_of pane room None = PaneGaveNothing pane room
piece_of pane room (Some p) = PaneGave pane room (take room p.1)

-- ---- what calls leave

-- the result of a call was recorded, or lost, and all else stays
abbrev pub Notes : MemoryPorts → MemoryPorts → Type 0
Notes old new = new ≡ record old { told = new.told; is_lost = new.is_lost }

-- so it was of a call that is counted
abbrev pub Counts : MemoryPorts → MemoryPorts → Type 0
Counts old new = Notes (record old { calls = next_call old }) new
