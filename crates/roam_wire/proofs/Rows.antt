-- The definitions at worked rows.
use Rattle.std.proofs.Common.{◌≡◌, ℕ, suc, zero, List, [], ◌∷◌, ◌++◌, replicate, drop, take, Some, None, Ok, Err, refl}
use Rattle.roam_acts.specs.declared.acts.Act.TheVariants.{Close, Next}
use Rattle.roam_cells.specs.declared.faults.Reason.TheVariants.{Short, Magic, Version, Length}
use Rattle.roam_cells.specs.declared.faults.Reason.TheVariants as reason
use Rattle.roam_wire.specs.declared.datagrams.Kind.TheVariants.{ToServer, FromWatcher}
use Rattle.roam_wire.specs.declared.versions.Version.TheVariants.{One, Two}
use Rattle.roam_wire.specs.Cutting.{cut_within}
use Rattle.roam_wire.specs.Datagrams.{DatagramValue, datagram_text}
use Rattle.roam_wire.specs.Gatherers.{Gathering, Old, Part, FragmentValue, Whole, gather, nothing}
use Rattle.roam_wire.specs.Headers.{datagram_at}
use Rattle.roam_wire.specs.Instructions.{down_text, up_text}
use Rattle.roam_wire.specs.AnyOrder.{answer_to, gathered_of}

-- the first datagram of a client: a state of number 0, the first act numbered 1, no acts
abbrev first : DatagramValue
first =
    record {
      version = One;
      kind = ToServer;
      session = 1;
      client = 0xA1;
      number = 1;
      id = 1;
      index = 0;
      count = 1;
      payload = up_text (record { acked = 0; first = 1; acts = [] });
    }

abbrev nulls : ℕ → List ℕ
nulls n = replicate n 0

abbrev head : ℕ → List ℕ
head version = 0x52 ∷ 0x4D ∷ version ∷ 2 ∷ nulls 7 ++ 1 ∷ nulls 7 ++ 0xA1 ∷ nulls 7 ++ 1 ∷ nulls 7 ++ 1 ∷ 0 ∷ 0 ∷ 0 ∷ 1 ∷ 0 ∷ 18 ∷ []

abbrev body : List ℕ
body = nulls 15 ++ 1 ∷ 0 ∷ 0 ∷ []

text : datagram_text first ≡ head 1 ++ body
text = refl

read : datagram_at (head 1 ++ body) ≡ Ok first
read = refl

short : datagram_at (take 41 (head 1)) ≡ Err Short
short = refl

cut_off : datagram_at (head 1 ++ drop 1 body) ≡ Err Length
cut_off = refl

other_version : datagram_at (head 3 ++ body) ≡ Err Version
other_version = refl

-- bad letters are reported before the version
other_letters : datagram_at (0x53 ∷ drop 1 (head 3) ++ body) ≡ Err Magic
other_letters = refl

-- the first datagram of an instance that only watches, which version 1 doesn't have
abbrev watching : ℕ → List ℕ
watching version = 0x52 ∷ 0x4D ∷ version ∷ 3 ∷ drop 4 (head version)

watcher : datagram_at (watching 2 ++ body) ≡ Ok (record first { version = Two; kind = FromWatcher })
watcher = refl

no_watcher : datagram_at (watching 1 ++ body) ≡ Err reason.Kind
no_watcher = refl

down : down_text (record { old = 0; new = 5; floor = 0; acked = 258; change = 7 ∷ [] }) ≡ nulls 15 ++ 5 ∷ nulls 14 ++ 1 ∷ 2 ∷ 7 ∷ []
down = refl

up : up_text (record { acked = 3; first = 256; acts = Next ∷ Close ∷ [] }) ≡ nulls 7 ++ 3 ∷ nulls 6 ++ 1 ∷ 0 ∷ 0 ∷ 2 ∷ 0x14 ∷ 0x12 ∷ []
up = refl

cut_in_threes : cut_within 3 7 (1 ∷ 2 ∷ 3 ∷ 4 ∷ 5 ∷ 6 ∷ 7 ∷ []) ≡ (1 ∷ 2 ∷ 3 ∷ []) ∷ (4 ∷ 5 ∷ 6 ∷ []) ∷ (7 ∷ []) ∷ []
cut_in_threes = refl

-- two fragments, the second first
abbrev fragment : ℕ → ℕ → ℕ → List ℕ → FragmentValue
fragment id index count payload = record { id = id; index = index; count = count; payload = payload }

abbrev half : Gathering
half = record { id = 1; fragments = None ∷ Some (3 ∷ []) ∷ [] }

second_first : gather nothing (fragment 1 1 2 (3 ∷ [])) ≡ Some (Part, half)
second_first = refl

then_whole : gather half (fragment 1 0 2 (1 ∷ 2 ∷ [])) ≡ Some (Whole (1 ∷ 2 ∷ 3 ∷ []), record { id = 1; fragments = Some (1 ∷ 2 ∷ []) ∷ Some (3 ∷ []) ∷ [] })
then_whole = refl

again : gather half (fragment 1 1 2 (3 ∷ [])) ≡ Some (Old, half)
again = refl

-- an old id is reported before a bad index
old_first : gather half (fragment 0 7 2 (3 ∷ [])) ≡ Some (Old, half)
old_first = refl

bad_index : gather half (fragment 2 7 2 (3 ∷ [])) ≡ None
bad_index = refl

other_count : gather half (fragment 1 0 3 (1 ∷ [])) ≡ None
other_count = refl

anew : gather half (fragment 2 0 1 (9 ∷ [])) ≡ Some (Whole (9 ∷ []), record { id = 2; fragments = Some (9 ∷ []) ∷ [] })
anew = refl

-- the result of a new gatherer after others arrived, the latest first
abbrev cuts : ℕ → List (List ℕ)
cuts zero = []
cuts (suc zero) = (1 ∷ 2 ∷ []) ∷ (3 ∷ []) ∷ []
cuts (suc (suc n)) = (9 ∷ []) ∷ []

abbrev arrived : List FragmentValue
arrived = fragment 1 1 2 (3 ∷ []) ∷ fragment 1 1 2 (3 ∷ []) ∷ []

held : gathered_of arrived ≡ half
held = refl

last_missing : answer_to cuts arrived (fragment 1 0 2 (1 ∷ 2 ∷ [])) ≡ Whole (1 ∷ 2 ∷ 3 ∷ [])
last_missing = refl

too_late : answer_to cuts (fragment 2 0 1 (9 ∷ []) ∷ arrived) (fragment 1 0 2 (1 ∷ 2 ∷ [])) ≡ Old
too_late = refl
