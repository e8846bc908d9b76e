-- Datagrams: the one text of each (this project's profile). Numbers are big-endian.
use Rattle.std.specs.Prelude.{◌≡◌, ℕ, ◌+◌, ◌^◌, ◌<◌, ◌≤◌, List, ◌∷◌, ◌++◌, length}
use Rattle.byteorder.specs.Endian.{big_bytes}
use Rattle.roam_acts.specs.Limits.{number_limit}
use Rattle.roam_wire.specs.declared.datagrams.Datagram.{Datagram}
use Rattle.roam_wire.specs.declared.datagrams.Kind.{Kind}
use Rattle.roam_wire.specs.declared.datagrams.Kind.TheVariants.{ToClient, ToServer, FromWatcher}
use Rattle.roam_wire.specs.declared.headers.Header.{Header}
use Rattle.roam_wire.specs.declared.versions.Version.{Version}
use Rattle.roam_wire.specs.declared.versions.Version.TheVariants.{Two}
use Rattle.roam_wire.specs.Versions.{most_fragments, number_of_version}

-- the contents of a datagram, wherever its payload is in memory
pub record DatagramValue : Type 0 where
  pub version : Version
  pub kind : Kind
  pub session : ℕ
  pub client : ℕ
  pub number : ℕ
  pub id : ℕ
  pub index : ℕ
  pub count : ℕ
  pub payload : List ℕ

abbrev pub datagram_value : Datagram → DatagramValue
datagram_value d =
    record {
      version = d.version;
      kind = d.kind;
      session = d.session;
      client = d.client;
      number = d.number;
      id = d.id;
      index = d.index;
      count = d.count;
      payload = d.payload.items;
    }

-- the byte of a direction
abbrev pub tag_of : Kind → ℕ
tag_of ToClient = 1
tag_of ToServer = 2
tag_of FromWatcher = 3

-- the header of a datagram: the letters RM, and the payload's length
abbrev pub header_of : DatagramValue → Header
header_of d =
    record {
      magic = 0x524D;
      version = number_of_version d.version;
      kind = tag_of d.kind;
      session = d.session;
      client = d.client;
      number = d.number;
      id = d.id;
      index = d.index;
      count = d.count;
      len = length d.payload;
    }

-- the 42 bytes of a header
abbrev pub header_text : Header → List ℕ
header_text h =
    big_bytes 2 h.magic ++ (h.version ∷ h.kind ∷ big_bytes 8 h.session ++ (big_bytes 8 h.client
    ++ (big_bytes 8 h.number ++ (big_bytes 8 h.id ++ (big_bytes 2 h.index ++ (big_bytes 2 h.count ++ big_bytes 2 h.len))))))

-- the text of a datagram
abbrev pub datagram_text : DatagramValue → List ℕ
datagram_text d = header_text (header_of d) ++ d.payload

-- A datagram that has a text: a read-only instance's in version 2 only, numbers from 1 and below 2^62, no more fragments than its version
-- allows, each of 1,200 bytes except for the last, none of them empty.
pub record IsDatagram (d : DatagramValue) : Type 0 where
  pub kind : d.kind ≡ FromWatcher → d.version ≡ Two
  pub session : d.session < 2 ^ 64
  pub client : d.client < 2 ^ 64
  pub number : (1 ≤ d.number) × (d.number < number_limit)
  pub id : (1 ≤ d.id) × (d.id < number_limit)
  pub count : (1 ≤ d.count) × (d.count ≤ most_fragments d.version)
  pub index : d.index < d.count
  pub len : (1 ≤ length d.payload) × (length d.payload ≤ 1200)
  pub whole : d.index + 1 < d.count → length d.payload ≡ 1200
