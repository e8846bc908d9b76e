-- The kinds of a datagram at an end: one set of words for the server and for a client instance.
use Rattle.std.specs.Prelude.{ℕ, List}
use Rattle.roam_cells.specs.declared.faults.Fault.{Fault}
use Rattle.roam_wire.specs.Gatherers.{Gathering}

-- A is the result of an end for a fragment that completes no instruction: an instance reports whether it was old, the server nothing
pub data Arrival (A : Type 0) : Type 0 where
  -- refused, and nothing is noted
  turned_away : Fault → Arrival A
  -- it completes no instruction; its result, and the gathered fragments then
  noted : A → Gathering → Arrival A
  -- the last fragment of an instruction; the gathered fragments then, and the instruction's text
  completed : Gathering → List ℕ → Arrival A
