-- The meaning of bytes, in bytes that this project's profile reads so.
use Rattle.std.specs.Prelude.{ℕ, zero, suc, ◌≡◌, ◌+◌, ◌==◌, ◌&&◌, ◌||◌, not, Bool, true, false, cond, nat_lt, nat_le, if◌then◌else◌, List, [], ◌∷◌, ◌++◌, length, drop}
use Rattle.roam_normalize.specs.Meanings.{hyphen, meaning}

-- the most bytes of a control sequence between CSI and its final byte that are looked at; a longer one goes through as it is
abbrev pub most_body : ℕ
most_body = 255

-- the most bytes that are kept back: ESC, 5B and so many
abbrev pub most_held : ℕ
most_held = 257

-- a parameter byte or an intermediate byte: 20 to 3F (ECMA-48 5.4)
abbrev pub is_body : ℕ → Bool
is_body b = nat_le 0x20 b && nat_lt b 0x40

-- a final byte: 40 to 7E (ECMA-48 5.4)
abbrev pub is_final : ℕ → Bool
is_final b = nat_le 0x40 b && nat_lt b 0x7F

-- the scan behind ESC and 5B: the beginning of a control sequence, a whole one by its bytes, or neither
pub data Scan : Type 0 where
  Unfinished : Scan
  Neither : Scan
  Sequence : List ℕ → ℕ → Scan

-- with a byte in front
abbrev pub with_byte : ℕ → Scan → Scan
with_byte b Unfinished = Unfinished
with_byte b Neither = Neither
with_byte b (Sequence body last) = Sequence (b ∷ body) last

-- the scan of bytes behind ESC and 5B, with so much room before the final byte
abbrev pub scan : ℕ → List ℕ → Scan
scan room [] = Unfinished
scan zero (b ∷ rest) = cond (is_final b) (Sequence [] b) Neither
scan (suc room) (b ∷ rest) = if is_body b then with_byte b (scan room rest) else cond (is_final b) (Sequence [] b) Neither

-- the most bytes of a title between ESC k and its end
abbrev pub most_title : ℕ
most_title = 255

-- a byte of a title: neither CAN, SUB nor ESC, which end it (ECMA-48 8.3.6, 8.3.148, 5.3)
abbrev pub is_title : ℕ → Bool
is_title b = not (b == 0x18 || (b == 0x1A || b == 0x1B))

-- the scan behind ESC k, with which screen and tmux set a title: the beginning of a title, or a whole one and how many bytes of its end
-- belong to it
pub data TitleScan : Type 0 where
  OpenTitle : TitleScan
  Titled : List ℕ → ℕ → TitleScan

-- with a byte of the title in front
abbrev pub with_letter : ℕ → TitleScan → TitleScan
with_letter b OpenTitle = OpenTitle
with_letter b (Titled title end) = Titled (b ∷ title) end

-- behind the ESC that ends a title: `ESC \` belongs to the title, any other sequence begins anew
abbrev pub terminator : List ℕ → TitleScan
terminator [] = OpenTitle
terminator (c ∷ rest) = Titled [] (cond (c == 0x5C) 2 0)

-- The end of a title, which is full or not. One byte more than the longest title has ends it, and prints. CAN and SUB belong to the title.
abbrev pub title_end : Bool → List ℕ → TitleScan
title_end full [] = OpenTitle
title_end full (b ∷ rest) = if full then Titled [] 0 else if b == 0x1B then terminator rest else Titled [] 1

-- the scan of bytes behind ESC k, with so much room for the title
abbrev pub title_scan : ℕ → List ℕ → TitleScan
title_scan zero bytes = title_end true bytes
title_scan (suc room) [] = OpenTitle
title_scan (suc room) (b ∷ rest) = if is_title b then with_letter b (title_scan room rest) else title_end false (b ∷ rest)

-- the front of some bytes: kept back, as its meaning may still change, or so many bytes with their output
pub data Front : Type 0 where
  Held : Front
  Taken : ℕ → List ℕ → Front

-- a byte that goes through as it is
abbrev pub one : ℕ → Front
one b = Taken 1 (b ∷ [])

-- behind ESC and 5B
abbrev pub sequence_front : Scan → Front
sequence_front Unfinished = Held
sequence_front Neither = one 0x1B
sequence_front (Sequence body last) = Taken (length body + 3) (meaning body last)

-- behind ESC k: a title goes out as nothing
abbrev pub title_front : TitleScan → Front
title_front OpenTitle = Held
title_front (Titled title end) = Taken (length title + end + 2) []

-- behind ESC; whatever comes before it, ESC begins anew
abbrev pub escape_front : List ℕ → Front
escape_front [] = Held
escape_front (c ∷ rest) =
    if c == 0x5B then sequence_front (scan most_body rest) else if c == 0x6B then title_front (title_scan most_title rest) else one 0x1B

-- behind C2, with which the soft hyphen U+00AD begins, C2 AD; whatever comes before it, C2 begins a character (Unicode Table 3-7)
abbrev pub lead_front : List ℕ → Front
lead_front [] = Held
lead_front (c ∷ rest) = cond (c == 0xAD) (Taken 2 hyphen) (one 0xC2)

-- the front
abbrev pub front : List ℕ → Front
front [] = Held
front (b ∷ rest) = if b == 0x1B then escape_front rest else if b == 0xC2 then lead_front rest else one b

-- the output, and the bytes kept back
pub record Normalized : Type 0 where
  pub out : List ℕ
  pub held : List ℕ

-- with this in front
abbrev pub behind : List ℕ → Normalized → Normalized
behind first m = record { out = first ++ m.out; held = m.held }

-- the front, and the rest
abbrev pub onward : Front → List ℕ → (List ℕ → Normalized) → Normalized
onward Held bytes go = record { out = []; held = bytes }
onward (Taken count out) bytes go = behind out (go (drop count bytes))

-- front by front; fuel is at least the number of bytes
unfoldable pub normalized_from : ℕ → List ℕ → Normalized
normalized_from zero bytes = record { out = []; held = bytes }
normalized_from (suc n) bytes = onward (front bytes) bytes (normalized_from n)

-- the meaning of some bytes
unfoldable pub normalized : List ℕ → Normalized
normalized bytes = normalized_from (length bytes) bytes

-- the bytes that go out for some bytes
abbrev pub normalized_part : List ℕ → List ℕ
normalized_part bytes = (normalized bytes).out

-- the bytes kept back, since the next ones may change their meaning
abbrev pub held_part : List ℕ → List ℕ
held_part bytes = (normalized bytes).held

-- some bytes go through as they are, and what these mean follows
abbrev pub GoesThrough : List ℕ → List ℕ → Type 0
GoesThrough run rest = normalized (run ++ rest) ≡ behind run (normalized rest)

-- so many bytes of the front were taken, with this output; none, with empty output, if they are kept back
abbrev pub Goes : ℕ → List ℕ → List ℕ → List ℕ → Type 0
Goes zero bytes old new = (front bytes ≡ Held) × (new ≡ old)
Goes (suc n) bytes old new = (out : List ℕ) × (front bytes ≡ Taken (suc n) out) × (new ≡ old ++ out)
