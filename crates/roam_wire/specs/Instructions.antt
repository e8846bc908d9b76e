-- Instructions: the one text of each (this project's profile). Numbers are big-endian.
use Rattle.std.specs.Prelude.{◌≡◌, ℕ, ◌<◌, ◌≤◌, Bool, true, false, List, [], ◌++◌, length, drop, nat_lt, if◌then◌else◌}
use Rattle.std.specs.List.{All}
use Rattle.byteorder.specs.Endian.{big_bytes, big_number}
use Rattle.roam_acts.specs.Limits.{number_limit, most_acts}
use Rattle.roam_acts.specs.declared.acts.Act.{Act}
use Rattle.roam_acts.specs.Acts.{IsAct}
use Rattle.roam_acts.specs.Bytes.{acts_text}
use Rattle.roam_cells.specs.declared.faults.Reason.{Reason}
use Rattle.roam_cells.specs.declared.faults.Reason.TheVariants.{Short, Length}
use Rattle.roam_wire.specs.declared.instructions.Down.{Down}
use Rattle.roam_wire.specs.declared.instructions.Up.{Up}

-- the contents of an instruction to a client
pub record DownValue : Type 0 where
  pub old : ℕ
  pub new : ℕ
  pub floor : ℕ
  pub acked : ℕ
  pub change : List ℕ

abbrev pub down_value : Down → DownValue
down_value d = record { old = d.old; new = d.new; floor = d.floor; acked = d.acked; change = d.change.items }

-- its text
abbrev pub down_text : DownValue → List ℕ
down_text d = big_bytes 8 d.old ++ (big_bytes 8 d.new ++ (big_bytes 8 d.floor ++ (big_bytes 8 d.acked ++ d.change)))

-- an instruction that has a text: a floor at most the old number, that at most the new one, each number below 2^62
pub record IsDown (d : DownValue) : Type 0 where
  pub floor : d.floor ≤ d.old
  pub old : d.old ≤ d.new
  pub new : d.new < number_limit
  pub acked : d.acked < number_limit

-- bytes are the text of one
abbrev pub IsDownText : List ℕ → Type 0
IsDownText bytes = (d : DownValue) × IsDown d × (bytes ≡ down_text d)

-- the contents of an instruction to the server
pub record UpValue : Type 0 where
  pub acked : ℕ
  pub first : ℕ
  pub acts : List Act

abbrev pub up_value : Up → UpValue
up_value u = record { acked = u.acked; first = u.first; acts = u.acts.items }

-- its text
abbrev pub up_text : UpValue → List ℕ
up_text u = big_bytes 8 u.acked ++ (big_bytes 8 u.first ++ (big_bytes 2 (length u.acts) ++ acts_text u.acts))

-- an instruction that has a text: both numbers below 2^62, acts numbered from 1, at most 64 of them, each in its ranges
pub record IsUp (u : UpValue) : Type 0 where
  pub acked : u.acked < number_limit
  pub first : (1 ≤ u.first) × (u.first < number_limit)
  pub count : length u.acts ≤ most_acts
  pub acts : All IsAct u.acts

-- an instruction that has a text, from a read-only instance, which has no acts, or from another one
pub record IsUpOf (watches : Bool) (u : UpValue) : Type 0 where
  pub is : IsUp u
  pub none : watches ≡ true → u.acts ≡ []

-- the numbers before the acts are within their limits, and acts are to follow
pub record HasActs (watches : Bool) (bytes : List ℕ) : Type 0 where
  pub long : 18 ≤ length bytes
  pub acked : big_number 8 bytes < number_limit
  pub first : (1 ≤ big_number 8 (drop 8 bytes)) × (big_number 8 (drop 8 bytes) < number_limit)
  pub count : (1 ≤ big_number 2 (drop 16 bytes)) × (big_number 2 (drop 16 bytes) ≤ most_acts)
  pub typed : watches ≡ false

-- the reason for which bytes are no instruction that has so many before its diff or its acts
abbrev pub reason_for : ℕ → List ℕ → Reason
reason_for head bytes = if nat_lt (length bytes) head then Short else Length
