-- The record of a change: the length of its bytes and their checksum in four bytes each, the higher first, and its bytes.
use Rattle.std.specs.Prelude.{ℕ, ◌+◌, ◌-◌, ◌*◌, ◌%◌, ◌^◌, ◌<◌, ◌==◌, ◌&&◌, List, [], ◌∷◌, ◌++◌, Option, Some, None, drop, length, nat_le, take, if◌then◌else◌, ⊤}
use Rattle.std.specs.List.{flat_map}
use Rattle.std.specs.Option.{option_map}
use Rattle.byteorder.specs.Endian.{big_bytes, big_number}
use Rattle.roam_stored_rows.specs.declared.wraps.Wrap.{Wrap}
use Rattle.roam_stored_rows.specs.declared.wraps.Wrap.TheVariants.{Ends, Full, Early}
use Rattle.roam_row_files.specs.Changes.{RowChange, appends, begins, checks, clears, forgets, withdraws}

-- Adler-32 (RFC 1950, 2.2): both sums so far, and the bytes that follow
abbrev pub adler_from : ℕ → ℕ → List ℕ → ℕ
adler_from low high [] = high * 65536 + low
adler_from low high (byte ∷ bytes) = adler_from ((low + byte) % 65521) ((high + (low + byte) % 65521) % 65521) bytes

-- the checksum of bytes
abbrev pub adler : List ℕ → ℕ
adler bytes = adler_from 1 0 bytes

-- the first byte of an appended row: a space, a plus or `>`
abbrev pub wrap_byte : Wrap → ℕ
wrap_byte Ends = 32
wrap_byte Full = 43
wrap_byte Early = 62

-- the bytes of a change: a letter and a number of eight bytes; `C`; how a row ends, and its text; `K`, a number of eight bytes and two of
-- two, and a text
abbrev pub payload_of : RowChange → List ℕ
payload_of (begins number) = 66 ∷ big_bytes 8 number
payload_of (appends row) = wrap_byte row.wrap ∷ row.text
payload_of (withdraws end) = 87 ∷ big_bytes 8 end
payload_of clears = 67 ∷ []
payload_of (forgets first) = 70 ∷ big_bytes 8 first
payload_of (checks count rows cols text) = 75 ∷ big_bytes 8 count ++ (big_bytes 2 rows ++ (big_bytes 2 cols ++ text))

-- the record of a change
abbrev pub record_of : RowChange → List ℕ
record_of change = big_bytes 4 (length (payload_of change)) ++ big_bytes 4 (adler (payload_of change)) ++ payload_of change

-- the records of changes
abbrev pub records_of : List RowChange → List ℕ
records_of changes = flat_map record_of changes

-- the numbers of a change fit their bytes
abbrev pub NumbersFit : RowChange → Type 0
NumbersFit (begins number) = number < 2 ^ 64
NumbersFit (appends row) = length row.text < 2 ^ 32 - 1
NumbersFit (withdraws end) = end < 2 ^ 64
NumbersFit clears = ⊤
NumbersFit (forgets first) = first < 2 ^ 64
NumbersFit (checks count rows cols text) = (count < 2 ^ 64) × (rows < 2 ^ 16) × (cols < 2 ^ 16) × (length text < 2 ^ 32 - 13)

-- the change of a letter and a number
abbrev pub numbered : ℕ → ℕ → Option RowChange
numbered kind number =
    if kind == 66 then Some (begins number)
    else if kind == 87 then Some (withdraws number)
    else if kind == 70 then Some (forgets number)
    else None

-- the checkpoint that these bytes spell behind their letter
abbrev pub check_in : List ℕ → Option RowChange
check_in rest =
    if nat_le 12 (length rest)
    then Some (checks (big_number 8 rest) (big_number 2 (drop 8 rest)) (big_number 2 (drop 10 rest)) (drop 12 rest))
    else None

-- the change of a letter, and of a number if one follows
abbrev pub short_change_in : ℕ → List ℕ → Option RowChange
short_change_in kind rest =
    if length rest == 0 then (if kind == 67 then Some clears else None)
    else if length rest == 8 then numbered kind (big_number 8 rest)
    else None

-- the change that these bytes spell
abbrev pub change_in : List ℕ → Option RowChange
change_in [] = None
change_in (kind ∷ rest) =
    if kind == 32 then Some (appends (record { wrap = Ends; text = rest }))
    else if kind == 43 then Some (appends (record { wrap = Full; text = rest }))
    else if kind == 62 then Some (appends (record { wrap = Early; text = rest }))
    else if kind == 75 then check_in rest
    else short_change_in kind rest

-- the change of the first record of bytes, whose payload has this length, and the length of the record
abbrev pub front_with : ℕ → List ℕ → Option (RowChange × ℕ)
front_with size bytes =
    if nat_le 8 (length bytes) && nat_le size (length (drop 8 bytes)) && (adler (take size (drop 8 bytes)) == big_number 4 (drop 4 bytes))
    then option_map (λ change. (change, 8 + size)) (change_in (take size (drop 8 bytes)))
    else None

-- the change of the first record of bytes, and the length of the record
abbrev pub front_of : List ℕ → Option (RowChange × ℕ)
front_of bytes = front_with (big_number 4 bytes) bytes
