-- The steps by which the code reads lines. No public clause cites them: the grammar of Lines defines reading.
use Rattle.std.specs.Prelude.{ℕ, ◌+◌, ◌==◌, List, [], ◌∷◌, take, drop, Option, Some, None, option_and_then}
use Rattle.std.specs.Option.{option_map}
use Rattle.std.specs.Result.{result_ok}
use Rattle.hex.specs.Hex.{decode_of}
use Rattle.roam_tokens.specs.Numbers.{id_in, number_in}
use Rattle.roam_tokens.specs.Words.{first_word}
use Rattle.roam_world_script.specs.declared.kinds.Kind.{Kind}
use Rattle.roam_world_script.specs.declared.kinds.Kind.TheVariants as kind
use Rattle.roam_wire.specs.declared.versions.Version.{Version}
use Rattle.roam_wire.specs.declared.versions.Version.TheVariants.{One}
use Rattle.roam_wire.specs.Versions.{version_numbered}
use Rattle.roam_world_script.specs.Values.{LineValue, Session, Start, Watch, ServerTick, ClientTick, ToServer, ToClient, Drained, Show, Face, Output}

-- the bytes that hexadecimal digits write
abbrev pub bytes_in : List ℕ → Option (List ℕ)
bytes_in [] = None
bytes_in (digit ∷ digits) = result_ok (decode_of (digit ∷ digits))

-- two things that are both there
abbrev pub pair_of : {A B : Type 0} → Option A → Option B → Option (A × B)
pair_of None b = None
pair_of (Some a) None = None
pair_of (Some a) (Some b) = Some (a, b)

-- the readings of the first word and of the rest
abbrev pub each_of : {A B : Type 0} → (List ℕ → Option A) → (List ℕ → Option B) → Option (List ℕ × List ℕ) → Option (A × B)
each_of first rest None = None
each_of first rest (Some words) = pair_of (first words.0) (rest words.1)

abbrev pub two_in : {A B : Type 0} → (List ℕ → Option A) → (List ℕ → Option B) → List ℕ → Option (A × B)
two_in first rest text = each_of first rest (first_word text)

-- slots, panes, numbers of 16 and of 64 bits
abbrev pub slot_in : List ℕ → Option ℕ
slot_in text = number_in 7 text

abbrev pub byte_in : List ℕ → Option ℕ
byte_in text = number_in 255 text

abbrev pub short_in : List ℕ → Option ℕ
short_in text = number_in 65535 text

abbrev pub long_in : List ℕ → Option ℕ
long_in text = number_in 18446744073709551615 text

abbrev pub version_in : List ℕ → Option Version
version_in text = option_and_then version_numbered (byte_in text)

-- an id, and a version behind the first space; the first version without one
abbrev pub start_at : List ℕ → Option (List ℕ × List ℕ) → Option (ℕ × Version)
start_at text None = option_map (λ id. (id, One)) (id_in text)
start_at text (Some words) = pair_of (id_in words.0) (version_in words.1)

abbrev pub start_in : List ℕ → Option (ℕ × Version)
start_in text = start_at text (first_word text)

-- no more text follows
abbrev pub face_in : List ℕ → Option LineValue
face_in [] = Some Face
face_in (_ ∷ _) = None

-- the line of a kind that takes neither bytes nor an act, by what follows its head
abbrev pub plain_in : Kind → List ℕ → Option LineValue
plain_in kind.Session text = option_map (λ p. Session p.0 p.1.0 p.1.1) (two_in id_in (two_in short_in short_in) text)
plain_in kind.Start text = option_map (λ p. Start p.0 p.1.0 p.1.1) (two_in slot_in start_in text)
plain_in kind.Watch text = option_map (λ p. Watch p.0 p.1) (two_in slot_in id_in text)
plain_in kind.PaneBytes text = None
plain_in kind.Typed text = None
plain_in kind.ServerTick text = option_map ServerTick (long_in text)
plain_in kind.ClientTick text = option_map (λ p. ClientTick p.0 p.1) (two_in slot_in long_in text)
plain_in kind.ToServer text = option_map (λ p. ToServer p.0 p.1.0 p.1.1) (two_in long_in (two_in short_in long_in) text)
plain_in kind.ToClient text = option_map (λ p. ToClient p.0 p.1.0 p.1.1) (two_in slot_in (two_in long_in long_in) text)
plain_in kind.Drained text = option_map (λ p. Drained p.0 p.1) (two_in byte_in long_in text)
plain_in kind.Show text = option_map Show (slot_in text)
plain_in kind.Face text = face_in text
plain_in kind.Output text = option_map Output (byte_in text)
