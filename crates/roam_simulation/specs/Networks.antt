-- The datagrams that were sent, as they are kept.
use Rattle.std.specs.Prelude.{ℕ, ◌-◌, ◌==◌, List, map, slice_get, Option, None, if◌then◌else◌, Vec}
use Rattle.std.specs.declared.alloc.Global.{Global}
use Rattle.roam_wire.specs.Cutting.{texts_of}
use Rattle.roam_cells.specs.declared.addresses.Addr.{Addr}
use Rattle.roam_simulation.specs.declared.networks.Batch.{Batch}
use Rattle.roam_simulation.specs.declared.networks.Batch.TheVariants.{FromServer, FromClient}

-- the value of a network for contracts: the texts of all datagrams ever sent, and for how many more ticks there is room
pub record NetworkView : Type 0 where
  pub texts : List (List ℕ)
  pub room : ℕ

-- the texts of the datagrams of a tick
abbrev pub texts_in : Batch → List (List ℕ)
texts_in (FromServer parcels) = map (λ (p : Addr × Vec ℕ Global). p.1.items) parcels.items
texts_in (FromClient datagrams) = texts_of datagrams.items

-- the text of the datagram of a number, from 1
abbrev pub text_at : List (List ℕ) → ℕ → Option (List ℕ)
text_at texts number = if number == 0 then None else slice_get texts (number - 1)
