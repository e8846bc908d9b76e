-- The contents of bytes as a datagram, or their first fault (this project's profile).
use Rattle.std.specs.Prelude.{ℕ, ◌+◌, Bool, not, ◌||◌, ◌&&◌, List, length, drop, slice_index, Option, Some, None, Result, Ok, Err, IsOk, nat_lt, nat_le, ◌==◌, if◌then◌else◌, ◌≡◌}
use Rattle.byteorder.specs.Endian.{big_number}
use Rattle.roam_acts.specs.Limits.{number_limit}
use Rattle.roam_cells.specs.declared.faults.Fault.{Fault}
use Rattle.roam_cells.specs.declared.faults.Fault.TheVariants.{OutOfMemory, BadDatagram}
use Rattle.roam_cells.specs.declared.faults.Reason.{Reason}
use Rattle.roam_cells.specs.declared.faults.Reason.TheVariants.{Short, Magic, Length, Fragment}
use Rattle.roam_cells.specs.declared.faults.Reason.TheVariants as reason
use Rattle.roam_wire.specs.declared.datagrams.Kind.{Kind}
use Rattle.roam_wire.specs.declared.datagrams.Kind.TheVariants.{ToClient, ToServer, FromWatcher}
use Rattle.roam_wire.specs.declared.headers.Header.{Header}
use Rattle.roam_wire.specs.declared.versions.Version.{Version}
use Rattle.roam_wire.specs.declared.versions.Version.TheVariants.{One, Two}
use Rattle.roam_wire.specs.Versions.{most_fragments, version_numbered}
use Rattle.roam_wire.specs.Datagrams.{DatagramValue}

-- the numbers at their places
abbrev pub header_at : List ℕ → Header
header_at bytes =
    record {
      magic = big_number 2 bytes;
      version = slice_index bytes 2;
      kind = slice_index bytes 3;
      session = big_number 8 (drop 4 bytes);
      client = big_number 8 (drop 12 bytes);
      number = big_number 8 (drop 20 bytes);
      id = big_number 8 (drop 28 bytes);
      index = big_number 2 (drop 36 bytes);
      count = big_number 2 (drop 38 bytes);
      len = big_number 2 (drop 40 bytes);
    }

-- a watcher's, which version 2 alone has
abbrev pub watcher_in : Version → Option Kind
watcher_in One = None
watcher_in Two = Some FromWatcher

-- the direction of a byte in a version
abbrev pub kind_tagged : Version → ℕ → Option Kind
kind_tagged v tag = if tag == 1 then Some ToClient else if tag == 2 then Some ToServer else if tag == 3 then watcher_in v else None

-- a length of 0, above 1,200, or not that of what follows
abbrev pub is_bad_length : Header → ℕ → Bool
is_bad_length h rest = h.len == 0 || nat_lt 1200 h.len || not (h.len == rest)

-- no count, too great a count, an index beyond it, a short fragment before the last, a number or an id of 0 or from 2^62 on
abbrev pub is_bad_fragment : Version → Header → Bool
is_bad_fragment v h =
    h.count == 0 || nat_lt (most_fragments v) h.count || nat_le h.count h.index || (nat_lt (h.index + 1) h.count && not (h.len == 1200))
    || h.number == 0 || nat_le number_limit h.number || h.id == 0 || nat_le number_limit h.id

-- the first fault after the direction
abbrev pub fragment_fault : Version → Header → ℕ → Option Reason
fragment_fault v h rest =
    if is_bad_length h rest then Some Length
    else if is_bad_fragment v h then Some Fragment
    else None

-- a version and a direction, unless there is no direction or a later fault
abbrev pub kind_unless : Version → Option Reason → Option Kind → Result (Version × Kind) Reason
kind_unless v fault None = Err reason.Kind
kind_unless v None (Some kind) = Ok (v, kind)
kind_unless v (Some fault) (Some kind) = Err fault

-- the same, unless there is no version
abbrev pub version_unless : Header → ℕ → Option Version → Result (Version × Kind) Reason
version_unless h rest None = Err reason.Version
version_unless h rest (Some v) = kind_unless v (fragment_fault v h rest) (kind_tagged v h.kind)

-- the version and the direction of a header before so many bytes, or the first fault
abbrev pub checked_header : Header → ℕ → Result (Version × Kind) Reason
checked_header h rest =
    if not (h.magic == 0x524D) then Err Magic
    else version_unless h rest (version_numbered h.version)

-- a datagram with this header
abbrev pub datagram_with : Header → List ℕ → Version → Kind → DatagramValue
datagram_with h payload version kind =
    record {
      version = version;
      kind = kind;
      session = h.session;
      client = h.client;
      number = h.number;
      id = h.id;
      index = h.index;
      count = h.count;
      payload = payload;
    }

-- the contents of a checked header and a payload
abbrev pub datagram_if : Header → List ℕ → Result (Version × Kind) Reason → Result DatagramValue Reason
datagram_if h payload (Ok p) = Ok (datagram_with h payload p.0 p.1)
datagram_if h payload (Err fault) = Err fault

-- the contents of bytes, or the first fault: too few of them, then the letters, the version, the direction, the length, the fragment
abbrev pub datagram_at : List ℕ → Result DatagramValue Reason
datagram_at bytes =
    if nat_lt (length bytes) 42 then Err Short
    else datagram_if (header_at bytes) (drop 42 bytes) (checked_header (header_at bytes) (length (drop 42 bytes)))

-- a refusal is for want of memory, if a value was read, or names that reason
abbrev pub Refuses : {V : Type 0} → Result V Reason → Fault → Type 0
Refuses read OutOfMemory = IsOk read
Refuses read (BadDatagram r) = read ≡ Err r
Refuses read _ = ⊥

-- the result of a call is that of reading, unless memory ran out
abbrev pub Gives : {X V : Type 0} → (X → V) → Result V Reason → Result X Fault → Type 0
Gives value read (Ok x) = read ≡ Ok (value x)
Gives value read (Err fault) = Refuses read fault
