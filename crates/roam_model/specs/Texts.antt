-- The network: datagrams, each with one fragment of an instruction's text.
use Rattle.std.specs.Prelude.{◌≡◌, ℕ, ◌+◌, List, length, map, Bool, true, false, if◌then◌else◌}
use Rattle.std.specs.List.{enumerate_from}
use Rattle.roam_cells.specs.declared.faults.Reason.{Reason}
use Rattle.roam_wire.specs.Instructions.{DownValue, IsDown, down_text, UpValue, IsUpOf, up_text, reason_for}
use Rattle.roam_sync.specs.Links.{Update}
use Rattle.roam_wire.specs.declared.datagrams.Kind.{Kind}
use Rattle.roam_wire.specs.declared.datagrams.Kind.TheVariants.{ToClient, ToServer, FromWatcher}
use Rattle.roam_wire.specs.Datagrams.{DatagramValue}
use Rattle.roam_wire.specs.declared.versions.Version.{Version}

-- the source or destination of datagrams: an IPv4 address and a port
pub record Address : Type 0 where
  pub host : ℕ
  pub port : ℕ

-- a text says a value, by the one text of each
pub record Says {V : Type 0} (IsValue : V → Type 0) (text_of : V → List ℕ) (text : List ℕ) (v : V) : Type 0 where
  pub is : IsValue v
  pub spelled : text ≡ text_of v

-- a text says none, and why
pub record SaysNone {V : Type 0} (IsValue : V → Type 0) (text_of : V → List ℕ) (head : ℕ) (text : List ℕ) (why : Reason) : Type 0 where
  pub none : (v : V) → IsValue v → text ≡ text_of v → ⊥
  pub reason : why ≡ reason_for head text

-- a text says an instruction to a client, or none
abbrev pub SaysDown : List ℕ → DownValue → Type 0
SaysDown = Says IsDown down_text

abbrev pub SaysNoDown : List ℕ → Reason → Type 0
SaysNoDown = SaysNone IsDown down_text 32

-- a text says an instruction to the server, or none
abbrev pub SaysUp : Bool → List ℕ → UpValue → Type 0
SaysUp watches = Says (IsUpOf watches) up_text

abbrev pub SaysNoUp : Bool → List ℕ → Reason → Type 0
SaysNoUp watches = SaysNone (IsUpOf watches) up_text 18

-- a datagram of this kind goes to the server
abbrev pub is_to_server : Kind → Bool
is_to_server ToClient = false
is_to_server ToServer = true
is_to_server FromWatcher = true

-- it comes from an instance that only watches
abbrev pub is_watching : Kind → Bool
is_watching ToClient = false
is_watching ToServer = false
is_watching FromWatcher = true

-- the kind of an instance's datagrams
abbrev pub kind_from : Bool → Kind
kind_from watches = if watches then FromWatcher else ToServer

-- the update that an instruction to a client brings
abbrev pub update_in : DownValue → Update
update_in d = record { old = d.old; new = d.new; floor = d.floor; change = d.change }

-- the datagram with the fragment of an index; its number follows those before the instruction's first
abbrev pub datagram_with : Version → Kind → ℕ → ℕ → ℕ → ℕ → ℕ → ℕ × List ℕ → DatagramValue
datagram_with v kind session client before id count fragment =
    record {
      version = v;
      kind = kind;
      session = session;
      client = client;
      number = before + fragment.0 + 1;
      id = id;
      index = fragment.0;
      count = count;
      payload = fragment.1;
    }

-- the datagrams of an instruction: each of its fragments in its order
abbrev pub datagrams_of : Version → Kind → ℕ → ℕ → ℕ → ℕ → List (List ℕ) → List DatagramValue
datagrams_of v kind session client before id fragments =
    map (datagram_with v kind session client before id (length fragments)) (enumerate_from 0 fragments)
