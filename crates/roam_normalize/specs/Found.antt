-- The front of some bytes, as the code finds it.
use Rattle.std.specs.Prelude.{ℕ, ◌≡◌, ◌≤◌, ◌<◌, ◌+◌, ⊤, ◌==◌, ◌&&◌, ◌||◌, nat_le, nat_lt, Bool, true, not, List, [], ◌∷◌, take, drop, length, slice_index}
use Rattle.memchr.specs.Find.{is_byte2}
use Rattle.roam_normalize.specs.declared.fronts.Scanned.{Scanned}
use Rattle.roam_normalize.specs.declared.fronts.Scanned.TheVariants.{Unfinished, Neither, Sequence}
use Rattle.roam_normalize.specs.declared.fronts.Found.{Found}
use Rattle.roam_normalize.specs.declared.fronts.Found.TheVariants.{Held, Same, Hyphen, Titled, Changed}
use Rattle.roam_normalize.specs.Meanings.{hyphen, text_of}
use Rattle.roam_normalize.specs.Normalized.{Scan, Unfinished as UnfinishedScan, Neither as NeitherScan, Sequence as SequenceScan, Held as HeldFront, Taken, front, most_body, scan, with_byte}

-- the scan of bytes behind ESC and 5B
abbrev pub IsScan : Scanned → List ℕ → Type 0
IsScan Unfinished bytes = scan most_body bytes ≡ UnfinishedScan
IsScan Neither bytes = scan most_body bytes ≡ NeitherScan
IsScan (Sequence count) bytes = (scan most_body bytes ≡ SequenceScan (take count bytes) (slice_index bytes count)) × (count < length bytes)

-- the front of some bytes
abbrev pub IsFound : Found → List ℕ → Type 0
IsFound Held bytes = front bytes ≡ HeldFront
IsFound (Same count) bytes = (front bytes ≡ Taken count (take count bytes)) × (0 < count) × (count ≤ length bytes)
IsFound Hyphen bytes = (front bytes ≡ Taken 2 hyphen) × (2 ≤ length bytes)
IsFound (Titled count) bytes = (front bytes ≡ Taken count []) × (0 < count) × (count ≤ length bytes)
IsFound (Changed kind count) bytes =
    (front bytes ≡ Taken (count + 3) (text_of kind (take count (drop 2 bytes)) (slice_index bytes (count + 2))))
    × (count + 3 ≤ length bytes)

-- with bytes in front
abbrev pub with_bytes : List ℕ → Scan → Scan
with_bytes [] s = s
with_bytes (b ∷ bytes) s = with_byte b (with_bytes bytes s)

-- neither ESC nor C2
abbrev pub is_still : ℕ → Bool
is_still b = not (is_byte2 0x1B 0xC2 b)

-- such bytes alone
abbrev pub AreStill : List ℕ → Type 0
AreStill [] = ⊤
AreStill (b ∷ bytes) = (is_still b ≡ true) × AreStill bytes

-- a digit or a semicolon
abbrev pub is_plain : ℕ → Bool
is_plain b = (nat_le 0x30 b && nat_lt b 0x3A) || b == 0x3B
