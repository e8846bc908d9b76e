-- Rows of ASCII, and rows without styles.
use Rattle.std.proofs.Common.{rules, ◌≡◌, ◌&&◌, ℕ, ◌<◌, ◌==◌, Bool, true, false, List, [], ◌∷◌, length, map, refl, sym, ap, ◌∙◌, arith, zero, suc, if◌then◌else◌}
use Rattle.std.specs.Char.{to_ascii_lowercase}
use Rattle.std.specs.Str.{IsAscii, encode_utf8_all}
use Rattle.std.proofs.lemmas.Str.{encodes-IsAscii}
use Rattle.bstr.specs.Utf8.{lossy_chars}
use Rattle.bstr.proofs.lemmas.EncodeLemmas.{lossy_chars-encode}
use Rattle.memchr.specs.Find.{Nowhere, Passes, is_byte}
use Rattle.ucd_case.proofs.CaseFoldingLemmas.{simple_fold-ascii}
use lib.Utf8.{low_scalar, scalars}
use Rattle.roam_stored_rows.specs.Finding.{compared, plain_from}

ascii-rest : (b : ℕ) (bytes : List ℕ) → IsAscii (b ∷ bytes) → IsAscii bytes
ascii-rest b bytes h k = h (suc k)

all-scalars : (bytes : List ℕ) → IsAscii bytes → scalars bytes ≡ true
all-scalars [] h = refl
all-scalars (b ∷ bytes) h =
    let low : b < 128 = h 0 in
    both (low_scalar b (omega (arith, low))) (all-scalars bytes (ascii-rest b bytes h))
  where
    both : {x y : Bool} → x ≡ true → y ≡ true → (x && y) ≡ true
    both {x} {y} e f = ap (λ t. t && y) e ∙ f

-- bytes of ASCII are their own letters
ascii-own : (bytes : List ℕ) → IsAscii bytes → lossy_chars bytes ≡ bytes
ascii-own bytes h =
    ap lossy_chars (sym (encodes-IsAscii bytes h)) ∙ lossy_chars-encode bytes (all-scalars bytes h)

lower-ascii : (c : ℕ) → c < 128 → to_ascii_lowercase c < 128
lower-ascii c h = search rules

folded-ascii : (bytes : List ℕ) → IsAscii bytes → map (compared true) bytes ≡ map to_ascii_lowercase bytes
folded-ascii [] h = refl
folded-ascii (b ∷ bytes) h =
    ap (λ x. x ∷ map (compared true) bytes) (simple_fold-ascii b (h 0))
    ∙ ap (λ (l : List ℕ). to_ascii_lowercase b ∷ l) (folded-ascii bytes (ascii-rest b bytes h))

lower-all : (bytes : List ℕ) → IsAscii bytes → IsAscii (map to_ascii_lowercase bytes)
lower-all [] h k = h k
lower-all (b ∷ bytes) h zero = lower-ascii b (h 0)
lower-all (b ∷ bytes) h (suc k) = lower-all bytes (ascii-rest b bytes h) k

ascii-folded : (bytes : List ℕ) → IsAscii bytes → encode_utf8_all (map (compared true) (lossy_chars bytes)) ≡ map to_ascii_lowercase bytes
ascii-folded bytes h =
    ap (λ (l : List ℕ). encode_utf8_all (map (compared true) l)) (ascii-own bytes h) ∙ ap encode_utf8_all (folded-ascii bytes h)
    ∙ encodes-IsAscii (map to_ascii_lowercase bytes) (lower-all bytes h)

exact-same : (bytes : List ℕ) → map (compared false) bytes ≡ bytes
exact-same [] = refl
exact-same (b ∷ bytes) = ap (λ (l : List ℕ). b ∷ l) (exact-same bytes)

ascii-exact : (bytes : List ℕ) → IsAscii bytes → encode_utf8_all (map (compared false) (lossy_chars bytes)) ≡ bytes
ascii-exact bytes h =
    ap (λ (l : List ℕ). encode_utf8_all (map (compared false) l)) (ascii-own bytes h) ∙ ap encode_utf8_all (exact-same bytes) ∙ encodes-IsAscii bytes h

pub ascii-letters : (folded : Bool) (bytes : List ℕ) → IsAscii bytes
    → (if folded then map to_ascii_lowercase bytes else bytes) ≡ encode_utf8_all (map (compared folded) (lossy_chars bytes))
ascii-letters true bytes h = sym (ascii-folded bytes h)
ascii-letters false bytes h = sym (ascii-exact bytes h)

no-style : (b : ℕ) (bytes : List ℕ) (t : Bool) → (b == 27) ≡ t → ((b == 27) ≡ true → ⊥) → plain_from false bytes ≡ bytes
    → plain_from false (b ∷ bytes) ≡ b ∷ bytes
no-style b bytes true e h rest = absurd (h e)
no-style b bytes false e h rest =
    ap (λ (t : Bool). if t then plain_from true bytes else b ∷ plain_from false bytes) e ∙ ap (λ (l : List ℕ). b ∷ l) rest

-- bytes without ESC have no styles
pub no-styles : (bytes : List ℕ) → Nowhere (Passes (is_byte 27) bytes) 0 (length bytes) → plain_from false bytes ≡ bytes
no-styles [] h = refl
no-styles (b ∷ bytes) h = no-style b bytes (b == 27) refl (λ e. h 0 (omega arith) (omega arith) e)
    (no-styles bytes (λ k a s e. h (suc k) (omega arith) (omega (arith, s)) e))
