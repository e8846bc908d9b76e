-- Datagrams in a stream (this project's profile): each behind its length, in two bytes, the higher first.
use Rattle.std.specs.Prelude.{◌≡◌, ℕ, ◌+◌, ◌≤◌, ◌==◌, ◌||◌, List, ◌++◌, length, take, drop, min, nat_lt, if◌then◌else◌}
use Rattle.std.specs.List.{All, flat_map}
use Rattle.byteorder.specs.Endian.{big_bytes, big_number}
use Rattle.roam_stream_framing.specs.declared.frames.Front.{Front}
use Rattle.roam_stream_framing.specs.declared.frames.Front.TheVariants.{Whole, Part, Spoiled}

-- the most bytes of a datagram: a header's 42 and a payload's 1,200
abbrev pub longest_datagram : ℕ
longest_datagram = 1242

-- a text of a length that a datagram may have
pub record IsCarried (datagram : List ℕ) : Type 0 where
  pub some : 1 ≤ length datagram
  pub short : length datagram ≤ longest_datagram

-- a datagram in a stream
abbrev pub framed : List ℕ → List ℕ
framed datagram = big_bytes 2 (length datagram) ++ datagram

abbrev pub framed_all : List (List ℕ) → List ℕ
framed_all datagrams = flat_map framed datagrams

-- the state of the first datagram, given its length and so many bytes
abbrev pub front_by : ℕ → ℕ → Front
front_by n count =
    if n == 0 || nat_lt longest_datagram n then Spoiled
    else if nat_lt count (n + 2) then Part
    else Whole n

-- the state of the first datagram of these bytes
abbrev pub front_of : List ℕ → Front
front_of bytes = if nat_lt (length bytes) 2 then Part else front_by (big_number 2 bytes) (length bytes)

-- after these bytes of a stream these datagrams were given, and the rest is kept
pub record Stands (kept log : List ℕ) (given : List (List ℕ)) : Type 0 where
  pub is : log ≡ framed_all given ++ kept
  pub carried : All IsCarried given

-- these bytes begin with a datagram
pub record IsFirst (bytes datagram : List ℕ) : Type 0 where
  pub carried : IsCarried datagram
  pub first : bytes ≡ framed datagram ++ drop (2 + length datagram) bytes

-- a buffer has as much of a datagram as fits, so many bytes
pub record IsFilled (datagram : List ℕ) (n : ℕ) (buf : List ℕ) : Type 0 where
  pub count : n ≡ min (length datagram) (length buf)
  pub bytes : take n buf ≡ take n datagram

-- the kept bytes began with a datagram, and it is the next one given
pub record Gives (old new : List ℕ) (n : ℕ) (buf : List ℕ) : Type 0 where
  pub datagram : List ℕ
  pub carried : IsCarried datagram
  pub first : old ≡ framed datagram ++ new
  pub filled : IsFilled datagram n buf

-- ---- the law

-- the bytes begin with no whole datagram and no impossible length
abbrev pub IsPart : List ℕ → Type 0
IsPart bytes = front_of bytes ≡ Part

-- Bytes are datagrams and the beginning of one in exactly one way: a reader gets exactly the written datagrams.
abbrev pub OneReading : Type 0
OneReading = (given given' : List (List ℕ)) (kept kept' : List ℕ) → All IsCarried given → All IsCarried given' → IsPart kept → IsPart kept'
    → framed_all given ++ kept ≡ framed_all given' ++ kept' → (given ≡ given') × (kept ≡ kept')
