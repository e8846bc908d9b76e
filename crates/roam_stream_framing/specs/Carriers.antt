-- One end of a stream of datagrams: the bytes read and the bytes written.
use Rattle.std.specs.Prelude.{◌≡◌, ◌⊎◌, ℕ, Bool, true, List, ◌++◌, take, drop, Option, Some, None, IsErr}
use Rattle.std.specs.Io.KnownBytes.{Appends, Consumes}
use Rattle.roam_stream_framing.specs.declared.frames.Front.TheVariants.{Part, Spoiled}
use Rattle.roam_stream_framing.specs.Frames.{Gives, front_of}
use Rattle.roam_stream_framing.specs.Streams.{Answer, HasAnswered, MayEndReading}

-- bytes came behind those that are kept
pub record Came (before after : Option (List ℕ)) (old new : List ℕ) : Type 0 where
  pub bytes : List ℕ
  pub consumed : Consumes before after bytes
  pub kept : new ≡ old ++ bytes

-- Bytes were read behind the kept ones: a datagram of them is given, or the kept bytes are the beginning of one.
abbrev pub IsGiven : List ℕ → List ℕ → Option ℕ → List ℕ → Type 0
IsGiven came new None buf = (new ≡ came) × (front_of new ≡ Part)
IsGiven came new (Some n) buf = Gives came new n buf

-- so a stream was read from one moment to another
pub record Receives (before after : Option (List ℕ)) (old new : List ℕ) (result : Option ℕ) (buf : List ℕ) : Type 0 where
  pub bytes : List ℕ
  pub consumed : Consumes before after bytes
  pub given : IsGiven (old ++ bytes) new result buf

-- the first of the bytes that waited were written
pub record Writes (before after : Option (List ℕ)) (old new : List ℕ) : Type 0 where
  pub count : ℕ
  pub written : Appends before after (take count old)
  pub left : new ≡ drop count old

-- The reasons for which a stream is over after reads: it was before; the length of the next datagram is impossible; or a read reported its
-- end, or brought bytes for which memory was refused.
abbrev pub IsOverByReads : Bool → List ℕ → Option (List Answer) → Option (List Answer) → Type 0
IsOverByReads was kept before after = (was ≡ true) ⊎ ((front_of kept ≡ Spoiled) ⊎ HasAnswered MayEndReading before after)

-- The reasons for which no more is read from a stream: it is over; the kept bytes are not the beginning of a datagram; or a read has
-- failed.
abbrev pub HasReadAll : Bool → List ℕ → Option (List Answer) → Option (List Answer) → Type 0
HasReadAll over kept before after = (over ≡ true) ⊎ ((front_of kept ≡ Part → ⊥) ⊎ HasAnswered IsErr before after)
