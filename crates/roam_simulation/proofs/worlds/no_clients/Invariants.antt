use Rattle.std.proofs.Common.{◌≡◌, ℕ, None, length}
use Rattle.std.specs.Prelude.{slice_index_or}
use Rattle.roam_simulation.proofs.worlds.no_clients.Given as goal

-- so many slots, and no instance in any
abbrev pub invariant-loop : goal.invariant-loop
invariant-loop l =
    record { count : length l.slots.items ≡ l.counter; none : (slot : ℕ) → slice_index_or l.slots.items slot None ≡ None }
