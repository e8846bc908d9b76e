-- Where letters stand among letters, and their bytes among bytes.
use Rattle.std.proofs.Common.{◌≡◌, ℕ, ◌+◌, ◌-◌, ◌/◌, ◌%◌, ◌≤◌, ◌<◌, ◌⊎◌, Bool, true, false, cond, List, [], ◌∷◌, ◌++◌, drop, length, take, get_or, refl, sym, ap, subst, ◌∙◌, arith, inl, inr, zero, suc, append_assoc, length-append, length-drop, take-append-drop}
use Rattle.std.specs.Str.{encode_utf8_all}
use Rattle.std.proofs.lemmas.Bool.{cases_lt, le-ltb, lt-ltb}
use Rattle.std.proofs.lemmas.List.{drop-append-le, drop_at, get_or-append_right, get_or_append_left, length-take-le, take-append-le, take_at}
use Rattle.std.proofs.lemmas.Nat.{mod_below}
use Rattle.std.proofs.lemmas.Str.{cons_from_encodes, encode_ascii, encodes-append, len_utf8_bounds, length-encode, length-le-encodes}
use lib.Utf8.{encode}
use lib.Dec.{ltb}
use Rattle.roam_stored_rows.specs.Finding.{StandsAt}

-- a byte that continues a letter, or that can't
abbrev pub IsLater : ℕ → Type 0
IsLater b = (128 ≤ b) × (b < 192)

later-of : (bits : ℕ) → IsLater (128 + bits % 64)
later-of bits = let m : bits % 64 < 64 = mod_below bits 64 (omega arith) in (omega arith, omega (arith, m))

abbrev Laters : List ℕ → Type 0
Laters [] = Unit {0}
Laters (b ∷ bytes) = IsLater b × Laters bytes

later-at : (bytes : List ℕ) → Laters bytes → (k : ℕ) → k < length bytes → IsLater (get_or bytes k 0)
later-at [] h k s = absurd (let no : ⊥ = omega (arith, s) in no)
later-at (b ∷ bytes) h zero s = h.0
later-at (b ∷ bytes) h (suc k) s = later-at bytes h.1 k (omega (arith, s))

-- the bytes of a letter: the first doesn't continue one, and the others do
pub record Spelling (bytes : List ℕ) : Type 0 where
  pub first : ℕ
  pub rest : List ℕ
  pub is : bytes ≡ first ∷ rest
  pub lead : (first < 128) ⊎ (192 ≤ first)
  pub laters : Laters rest

taken : {X : Type 0} (y : Bool) (a b : X) → y ≡ true → cond y a b ≡ a
taken y a b e = ap (λ (t : Bool). cond t a b) e

passed : {X : Type 0} (y : Bool) (a b : X) → y ≡ false → cond y a b ≡ b
passed y a b e = ap (λ (t : Bool). cond t a b) e

two : (c : ℕ) → 128 ≤ c → c < 2048 → encode c ≡ (192 + c / 64) ∷ (128 + c % 64) ∷ []
unfolding encode
two c l h = passed (ltb c 128) _ _ (le-ltb c 128 l) ∙ taken (ltb c 2048) _ _ (lt-ltb c 2048 h)

three : (c : ℕ) → 2048 ≤ c → c < 65536 → encode c ≡ (224 + c / 4096) ∷ (128 + c / 64 % 64) ∷ (128 + c % 64) ∷ []
unfolding encode
three c l h =
    passed (ltb c 128) _ _ (le-ltb c 128 (omega (arith, l))) ∙ passed (ltb c 2048) _ _ (le-ltb c 2048 l) ∙ taken (ltb c 65536) _ _ (lt-ltb c 65536 h)

four : (c : ℕ) → 65536 ≤ c → encode c ≡ (240 + c / 262144) ∷ (128 + c / 4096 % 64) ∷ (128 + c / 64 % 64) ∷ (128 + c % 64) ∷ []
unfolding encode
four c l =
    passed (ltb c 128) _ _ (le-ltb c 128 (omega (arith, l))) ∙ passed (ltb c 2048) _ _ (le-ltb c 2048 (omega (arith, l)))
    ∙ passed (ltb c 65536) _ _ (le-ltb c 65536 l)

spelling : (c : ℕ) → Spelling (encode c)
spelling c =
    elim (cases_lt c 128) as (λ _. Spelling (encode c)) [
      | inl a ↦ record { first = c; rest = []; is = encode_ascii c a; lead = inl a; laters = tt }
      | inr a ↦ elim (cases_lt c 2048) as (λ _. Spelling (encode c)) [
        | inl b ↦ record { first = 192 + c / 64; rest = (128 + c % 64) ∷ []; is = two c a b; lead = inr (omega arith); laters = (later-of c, tt) }
        | inr b ↦ elim (cases_lt c 65536) as (λ _. Spelling (encode c)) [
          | inl d ↦ record {
            first = 224 + c / 4096;
            rest = (128 + c / 64 % 64) ∷ (128 + c % 64) ∷ [];
            is = three c b d;
            lead = inr (omega arith);
            laters = (later-of (c / 64), (later-of c, tt));
          }
          | inr d ↦ record {
            first = 240 + c / 262144;
            rest = (128 + c / 4096 % 64) ∷ (128 + c / 64 % 64) ∷ (128 + c % 64) ∷ [];
            is = four c d;
            lead = inr (omega arith);
            laters = (later-of (c / 4096), (later-of (c / 64), (later-of c, tt)));
          }
        ]
      ]
    ]

pub letter-some : (c : ℕ) → 0 < length (encode c)
letter-some c = omega (arith, length-encode c, (len_utf8_bounds c).0)

pub spelled-some : (text : List ℕ) → 0 < length text → 0 < length (encode_utf8_all text)
spelled-some text h = omega (arith, h, length-le-encodes text)

pub text-some : (text : List ℕ) → 0 < length (encode_utf8_all text) → 0 < length text
text-some [] h = h
text-some (c ∷ text) h = omega arith

-- letters whose bytes begin with those of others begin with these
pub letters-front : (text letters rest : List ℕ) → encode_utf8_all text ++ rest ≡ encode_utf8_all letters
    → (more : List ℕ) × (letters ≡ text ++ more) × (encode_utf8_all more ≡ rest)
letters-front [] letters rest e = (letters, refl, sym e)
letters-front (c ∷ text) letters rest e =
    let (others, is, behind) = cons_from_encodes letters (encode_utf8_all text ++ rest) c (sym e ∙ append_assoc (encode c) (encode_utf8_all text) rest) in
    let (more, same, left) = letters-front text others rest (sym behind) in
    (more, is ∙ ap (λ (l : List ℕ). c ∷ l) same, left)

-- a front that is longer than another has it as its own front
pub longer-front : (xs ys zs ws : List ℕ) → xs ++ ys ≡ zs ++ ws → length xs ≤ length zs
    → (zs ≡ xs ++ drop (length xs) zs) × (ys ≡ drop (length xs) zs ++ ws)
longer-front xs ys zs ws e s =
    let n = length xs in
    let front : take n zs ≡ xs = sym (take-append-le n zs ws s) ∙ ap (λ (l : List ℕ). take n l) (sym e) ∙ take_at xs ys n refl in
    let back : ys ≡ drop n zs ++ ws = sym (drop_at xs ys n refl) ∙ ap (λ (l : List ℕ). drop n l) e ∙ drop-append-le n zs ws s in
    (sym (take-append-drop n zs) ∙ ap (λ (l : List ℕ). l ++ drop n zs) front, back)

-- where the bytes of a text stand among those of letters, the text stands among the letters
pub record StandsIn (text letters before : List ℕ) : Type 0 where
  pub front : List ℕ
  pub more : List ℕ
  pub is : letters ≡ front ++ (text ++ more)
  pub bytes : encode_utf8_all front ≡ before

first-byte : (c : ℕ) (text before rest : List ℕ) → Spelling (encode c)
    → get_or (before ++ (encode_utf8_all (c ∷ text) ++ rest)) (length before) 0 ≡ get_or (encode c) 0 0
first-byte c text before rest s =
    get_or-append_right before (encode_utf8_all (c ∷ text) ++ rest) (length before) (length before) 0 refl (omega arith)
    ∙ ap (λ n. get_or (encode_utf8_all (c ∷ text) ++ rest) n 0) (omega arith)
    ∙ ap (λ (l : List ℕ). get_or l 0 0) (append_assoc (encode c) (encode_utf8_all text) rest)
    ∙ get_or_append_left (encode c) (encode_utf8_all text ++ rest) 0 0 (letter-some c)

not-within : (y c : ℕ) (letters text before rest : List ℕ) → encode y ++ encode_utf8_all letters ≡ before ++ (encode_utf8_all (c ∷ text) ++ rest)
    → 0 < length before → length before < length (encode y) → ⊥
not-within y c letters text before rest e low high =
    let sy = spelling y in
    let sc = spelling c in
    let k = length before in
    let at : get_or (encode y) k 0 ≡ get_or (encode c) 0 0 =
    sym (get_or_append_left (encode y) (encode_utf8_all letters) 0 k high) ∙ ap (λ (l : List ℕ). get_or l k 0) e ∙ first-byte c text before rest sc in
    let first : get_or (encode c) 0 0 ≡ sc.first = ap (λ (l : List ℕ). get_or l 0 0) sc.is in
    let short : length (encode y) ≡ suc (length sy.rest) = ap length sy.is in
    let shift : get_or (encode y) k 0 ≡ get_or sy.rest (k - 1) 0 =
    ap (λ (l : List ℕ). get_or l k 0) sy.is ∙ ap (λ n. get_or (sy.first ∷ sy.rest) n 0) (let p : k ≡ suc (k - 1) = omega (arith, low) in p) in
    let later : IsLater (get_or sy.rest (k - 1) 0) = later-at sy.rest sy.laters (k - 1) (omega (arith, low, high, short)) in
    elim sc.lead as (λ _. ⊥) [
      | inl a ↦ omega (arith, a, later.0, shift, at, first)
      | inr a ↦ omega (arith, a, later.1, shift, at, first)
    ]

pub letters-stand : (letters text before rest : List ℕ) → 0 < length text → encode_utf8_all letters ≡ before ++ (encode_utf8_all text ++ rest)
    → StandsIn text letters before
letters-stand [] text before rest some e =
    let n = ap length e ∙ length-append before (encode_utf8_all text ++ rest) in
    absurd (let no : ⊥ = omega (arith, n, length-append (encode_utf8_all text) rest, spelled-some text some) in no)
letters-stand (y ∷ letters) [] before rest some e = absurd (let no : ⊥ = omega (arith, some) in no)
letters-stand (y ∷ letters) (c ∷ text) [] rest some e =
    let (more, is, left) = letters-front (c ∷ text) (y ∷ letters) rest (sym e) in
    record { front = []; more = more; is = is; bytes = refl }
letters-stand (y ∷ letters) (c ∷ text) (b ∷ before) rest some e =
    elim (cases_lt (length (b ∷ before)) (length (encode y))) as (λ _. StandsIn (c ∷ text) (y ∷ letters) (b ∷ before)) [
      | inl s ↦ absurd (not-within y c letters text (b ∷ before) rest e (omega arith) s)
      | inr s ↦
          let (whole, behind) = longer-front (encode y) (encode_utf8_all letters) (b ∷ before) (encode_utf8_all (c ∷ text) ++ rest) e s in
          let found = letters-stand letters (c ∷ text) (drop (length (encode y)) (b ∷ before)) rest some behind in
          record {
            front = y ∷ found.front;
            more = found.more;
            is = ap (λ (l : List ℕ). y ∷ l) found.is;
            bytes = ap (λ (l : List ℕ). encode y ++ l) found.bytes ∙ sym whole;
          }
    ]

-- what stands at a place, in three parts
pub stands-parts : (text line : List ℕ) (place : ℕ) → StandsAt text line place → line ≡ take place line ++ (text ++ drop (length text) (drop place line))
stands-parts text line place h =
    sym (take-append-drop place line)
    ∙ ap (λ (l : List ℕ). take place line ++ l)
    (sym (take-append-drop (length text) (drop place line)) ∙ ap (λ (l : List ℕ). l ++ drop (length text) (drop place line)) h)

pub parts-stand : (before text more : List ℕ) (place : ℕ) → length before ≡ place → StandsAt text (before ++ (text ++ more)) place
parts-stand before text more place e =
    ap (λ (l : List ℕ). take (length text) l) (drop_at before (text ++ more) place e) ∙ take_at text more (length text) refl

-- a text that stands at a letter of the first part of a line has its bytes at a byte of that part
pub bytes-begin : (text front rest : List ℕ) (place : ℕ) → place < length front → StandsAt text (front ++ rest) place
    → (at : ℕ) × (at < length (encode_utf8_all front)) × StandsAt (encode_utf8_all text) (encode_utf8_all (front ++ rest)) at
bytes-begin text front rest place low h =
    let line = front ++ rest in
    let before = take place line in
    let behind = drop (length text) (drop place line) in
    let at = length (encode_utf8_all before) in
    let parts : encode_utf8_all line ≡ encode_utf8_all before ++ (encode_utf8_all text ++ encode_utf8_all behind) =
    ap encode_utf8_all (stands-parts text line place h) ∙ encodes-append before (text ++ behind)
    ∙ ap (λ (l : List ℕ). encode_utf8_all before ++ l) (encodes-append text behind) in
    let same : before ≡ take place front = take-append-le place front rest (omega (arith, low)) in
    let split : encode_utf8_all front ≡ encode_utf8_all before ++ encode_utf8_all (drop place front) =
    ap encode_utf8_all (sym (take-append-drop place front) ∙ ap (λ (l : List ℕ). l ++ drop place front) (sym same))
    ∙ encodes-append before (drop place front) in
    let some : 0 < length (drop place front) = rw (length-drop place front) (omega (arith, low)) in
    let size = ap length split ∙ length-append (encode_utf8_all before) (encode_utf8_all (drop place front)) in (
      at,
      omega (arith, size, spelled-some (drop place front) some),
      subst (λ (l : List ℕ). StandsAt (encode_utf8_all text) l at) (sym parts)
          (parts-stand (encode_utf8_all before) (encode_utf8_all text) (encode_utf8_all behind) at refl),
    )

-- and the other way round
pub letters-begin : (text front rest : List ℕ) (at : ℕ) → 0 < length text → at < length (encode_utf8_all front)
    → StandsAt (encode_utf8_all text) (encode_utf8_all (front ++ rest)) at
    → (place : ℕ) × (place < length front) × StandsAt text (front ++ rest) place
letters-begin text front rest at some low h =
    let line = front ++ rest in
    let bytes = encode_utf8_all line in
    let needle = encode_utf8_all text in
    let found = letters-stand line text (take at bytes) (drop (length needle) (drop at bytes)) some (stands-parts needle bytes at h) in
    let whole : length bytes ≡ length (encode_utf8_all front) + length (encode_utf8_all rest) =
    ap length (encodes-append front rest) ∙ length-append (encode_utf8_all front) (encode_utf8_all rest) in
    let size : length (encode_utf8_all found.front) ≡ at = ap length found.bytes ∙ length-take-le at bytes (omega (arith, low, whole)) in
    let place = length found.front in
    let inside : place < length front =
    elim (cases_lt place (length front)) as (λ _. place < length front) [
      | inl s ↦ s
      | inr s ↦
          let (longer, behind) = longer-front front rest found.front (text ++ found.more) found.is s in
          let sum = ap (λ (l : List ℕ). length (encode_utf8_all l)) longer
          ∙ ap length (encodes-append front (drop (length front) found.front))
          ∙ length-append (encode_utf8_all front) (encode_utf8_all (drop (length front) found.front)) in
          absurd (let no : ⊥ = omega (arith, sum, size, low) in no)
    ] in
    (place, inside, subst (λ (l : List ℕ). StandsAt text l place) (sym found.is) (parts-stand found.front text found.more place refl))
