-- The addresses of streams: they belong to network 0, from which no network packet comes (RFC 1122, section 3.2.1.3).
use Rattle.std.specs.Prelude.{◌≡◌, ℕ, ◌+◌, ◌*◌, ◌/◌, ◌%◌, ◌^◌, ◌<◌, ◌==◌, [], ◌∷◌, slice_index, Option, Some, None, if◌then◌else◌}
use Rattle.roam_cells.specs.declared.addresses.Addr.{Addr}

-- a number's byte at a place, from the lowest
abbrev pub byte_at : ℕ → ℕ → ℕ
byte_at place number = number / 256 ^ place % 256

-- the address of the peer of a number: its low 40 bits
abbrev pub address_of : ℕ → Addr
address_of number = record {
  host = 0 ∷ byte_at 4 number ∷ byte_at 3 number ∷ byte_at 2 number ∷ [];
  port = number % 65536;
}

-- the number of the peer at an address of network 0
abbrev pub number_of : Addr → Option ℕ
number_of addr =
    if slice_index addr.host 0 == 0
    then Some (slice_index addr.host 1 * 4294967296 + slice_index addr.host 2 * 16777216 + slice_index addr.host 3 * 65536 + addr.port)
    else None

-- A number below 2^40 is that of its address, so no address is of two peers.
abbrev pub NumberStays : Type 0
NumberStays = (number : ℕ) → number < 2 ^ 40 → number_of (address_of number) ≡ Some number
