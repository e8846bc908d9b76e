-- The records of changes: the first is read whole, or not at all.
use Rattle.std.proofs.Common.{◌≡◌, ℕ, ◌+◌, ◌-◌, ◌%◌, ◌^◌, ◌≤◌, ◌<◌, ◌==◌, ◌&&◌, Bool, true, false, List, [], ◌∷◌, ◌++◌, Option, Some, None, drop, length, nat_le, take, refl, sym, ap, ◌∙◌, arith, lit<, inl, inr, if◌then◌else◌, length-append, length-drop}
use Rattle.std.specs.Option.{option_map, unwrap_or}
use Rattle.std.proofs.lemmas.Bool.{and_parts, cases_lt, eq-eqb, le-leb, leb-true, lt-leb}
use Rattle.std.proofs.lemmas.List.{length-take-le, take_at}
use Rattle.std.proofs.lemmas.Nat.{mod_below}
use Rattle.byteorder.specs.Endian.{big_bytes, big_number}
use Rattle.byteorder.specs.Numbers.{big_from-take, big_number-reads_back}
use Rattle.roam_row_files.specs.Records.{NumbersFit, adler, adler_from, change_in, front_of, front_with, payload_of, record_of, wrap_byte}
use Rattle.roam_row_files.specs.Changes.{RowChange, appends, begins, checks, clears, forgets, withdraws}
use Rattle.roam_stored_rows.specs.declared.wraps.Wrap.{Wrap}
use Rattle.roam_stored_rows.specs.declared.wraps.Wrap.TheVariants.{Ends, Full, Early}

-- what stands in a record reads back
row-back : (wrap : Wrap) (text : List ℕ) → change_in (wrap_byte wrap ∷ text) ≡ Some (appends (record { wrap = wrap; text = text }))
row-back Ends text = refl
row-back Full text = refl
row-back Early text = refl

check-back : (count rows cols : ℕ) (text : List ℕ) → count < 2 ^ 64 → rows < 2 ^ 16 → cols < 2 ^ 16
    → change_in (payload_of (checks count rows cols text)) ≡ Some (checks count rows cols text)
check-back count rows cols text h i j =
    let sizes = big_bytes 2 rows ++ (big_bytes 2 cols ++ text) in
    let a : big_number 8 (big_bytes 8 count ++ sizes) ≡ count = big_number-reads_back 8 count sizes h in
    let b : big_number 2 sizes ≡ rows = big_number-reads_back 2 rows (big_bytes 2 cols ++ text) i in
    let c : big_number 2 (big_bytes 2 cols ++ text) ≡ cols = big_number-reads_back 2 cols text j in
    let rest = big_bytes 8 count ++ sizes in
    let long : nat_le 12 (length rest) ≡ true = le-leb 12 (length rest) (omega arith) in
    ap (λ (b : Bool). if b then Some (checks (big_number 8 rest) (big_number 2 (drop 8 rest)) (big_number 2 (drop 10 rest)) (drop 12 rest)) else None) long
    ∙ ap (λ n. Some (checks n (big_number 2 sizes) (big_number 2 (big_bytes 2 cols ++ text)) text)) a
    ∙ ap (λ n. Some (checks count n (big_number 2 (big_bytes 2 cols ++ text)) text)) b
    ∙ ap (λ n. Some (checks count rows n text)) c

pub change-back : (change : RowChange) → NumbersFit change → change_in (payload_of change) ≡ Some change
change-back (begins number) h = ap (λ n. Some (begins n)) (big_number-reads_back 8 number [] h)
change-back (appends row) h = row-back row.wrap row.text
change-back (withdraws end) h = ap (λ n. Some (withdraws n)) (big_number-reads_back 8 end [] h)
change-back clears h = refl
change-back (forgets first) h = ap (λ n. Some (forgets n)) (big_number-reads_back 8 first [] h)
change-back (checks count rows cols text) h = check-back count rows cols text h.0 h.1 h.2

pub payload-fits : (change : RowChange) → NumbersFit change → length (payload_of change) < 2 ^ 32
payload-fits (begins number) h = lit< tt
payload-fits (appends row) h = omega (arith, h)
payload-fits (withdraws end) h = lit< tt
payload-fits clears h = lit< tt
payload-fits (forgets first) h = lit< tt
payload-fits (checks count rows cols text) h = omega (arith, h.3)

pub adler-fits : (low high : ℕ) (bytes : List ℕ) → low < 65521 → high < 65521 → adler_from low high bytes < 2 ^ 32
adler-fits low high [] h k = omega (arith, h, k)
adler-fits low high (byte ∷ bytes) h k =
    adler-fits ((low + byte) % 65521) ((high + (low + byte) % 65521) % 65521) bytes (mod_below (low + byte) 65521 (lit< tt))
    (mod_below (high + (low + byte) % 65521) 65521 (lit< tt))

pub if-yes : {X : Type 0} (b : Bool) (x y : X) → b ≡ true → (if b then x else y) ≡ x
if-yes b x y h = ap (λ (t : Bool). if t then x else y) h

pub if-no : {X : Type 0} (b : Bool) (x y : X) → b ≡ false → (if b then x else y) ≡ y
if-no b x y h = ap (λ (t : Bool). if t then x else y) h

pub all-true : (a b c : Bool) → a ≡ true → b ≡ true → c ≡ true → (a && b && c) ≡ true
all-true a b c h i j = ap (λ t. t && b && c) h ∙ ap (λ t. true && t && c) i ∙ ap (λ t. true && true && t) j

pub first-false : (a b c : Bool) → a ≡ false → (a && b && c) ≡ false
first-false a b c h = ap (λ t. t && b && c) h

pub second-false : (a b c : Bool) → b ≡ false → (a && b && c) ≡ false
second-false true b c h = ap (λ t. true && t && c) h
second-false false b c h = refl

pub front-whole : (size : ℕ) (bytes p : List ℕ) (change : RowChange) → big_number 4 bytes ≡ size → 8 ≤ length bytes
    → size ≤ length (drop 8 bytes) → take size (drop 8 bytes) ≡ p → adler p ≡ big_number 4 (drop 4 bytes) → change_in p ≡ Some change
    → front_of bytes ≡ Some (change, 8 + size)
front-whole size bytes p change e long fits is sum back =
    let check : (adler (take size (drop 8 bytes)) == big_number 4 (drop 4 bytes)) ≡ true =
    eq-eqb (adler (take size (drop 8 bytes))) (big_number 4 (drop 4 bytes)) (ap adler is ∙ sum) in
    ap (λ n. front_with n bytes) e
    ∙ if-yes (nat_le 8 (length bytes) && nat_le size (length (drop 8 bytes)) && (adler (take size (drop 8 bytes)) == big_number 4 (drop 4 bytes)))
    (option_map (λ (c : RowChange). (c, 8 + size)) (change_in (take size (drop 8 bytes)))) None
    (all-true (nat_le 8 (length bytes)) (nat_le size (length (drop 8 bytes))) (adler (take size (drop 8 bytes)) == big_number 4 (drop 4 bytes))
    (le-leb 8 (length bytes) long) (le-leb size (length (drop 8 bytes)) fits) check)
    ∙ ap (λ (l : List ℕ). option_map (λ (c : RowChange). (c, 8 + size)) (change_in l)) is
    ∙ ap (λ (o : Option RowChange). option_map (λ (c : RowChange). (c, 8 + size)) o) back

pub front-short : (bytes : List ℕ) → length bytes < 8 → front_of bytes ≡ None
front-short bytes h =
    let size = big_number 4 bytes in
    if-no (nat_le 8 (length bytes) && nat_le size (length (drop 8 bytes)) && (adler (take size (drop 8 bytes)) == big_number 4 (drop 4 bytes)))
    (option_map (λ (c : RowChange). (c, 8 + size)) (change_in (take size (drop 8 bytes)))) None
    (first-false (nat_le 8 (length bytes)) (nat_le size (length (drop 8 bytes))) (adler (take size (drop 8 bytes)) == big_number 4 (drop 4 bytes))
    (lt-leb 8 (length bytes) h))

pub front-cut : (size : ℕ) (bytes : List ℕ) → big_number 4 bytes ≡ size → length (drop 8 bytes) < size → front_of bytes ≡ None
front-cut size bytes e h =
    ap (λ n. front_with n bytes) e
    ∙ if-no (nat_le 8 (length bytes) && nat_le size (length (drop 8 bytes)) && (adler (take size (drop 8 bytes)) == big_number 4 (drop 4 bytes)))
    (option_map (λ (c : RowChange). (c, 8 + size)) (change_in (take size (drop 8 bytes)))) None
    (second-false (nat_le 8 (length bytes)) (nat_le size (length (drop 8 bytes))) (adler (take size (drop 8 bytes)) == big_number 4 (drop 4 bytes))
    (lt-leb size (length (drop 8 bytes)) h))

pub record-length : (change : RowChange) → length (record_of change) ≡ 8 + length (payload_of change)
record-length change =
    let p = payload_of change in
    length-append (big_bytes 4 (length p) ++ big_bytes 4 (adler p)) p

-- the first record of bytes is read
pub record-read : (change : RowChange) (rest : List ℕ) → NumbersFit change
    → front_of (record_of change ++ rest) ≡ Some (change, length (record_of change))
record-read change rest h =
    let p = payload_of change in
    let n = length p in
    let k = adler p in
    let bytes = record_of change ++ rest in
    let behind : drop 8 bytes ≡ p ++ rest = refl in
    let size : big_number 4 bytes ≡ n = big_number-reads_back 4 n (big_bytes 4 k ++ (p ++ rest)) (payload-fits change h) in
    let sum : big_number 4 (drop 4 bytes) ≡ k = big_number-reads_back 4 k (p ++ rest) (adler-fits 1 0 p (lit< tt) (lit< tt)) in
    let all : length bytes ≡ length (record_of change) + length rest = length-append (record_of change) rest in
    let whole = record-length change in
    let fits : n ≤ length (drop 8 bytes) = omega (arith, length-append p rest) in
    front-whole n bytes p change size (omega (arith, all, whole)) fits (take_at p rest n refl) (sym sum) (change-back change h)
    ∙ ap (λ m. let r : Option (RowChange × ℕ) = Some (change, m) in r) (sym whole)

-- a record that is cut off is none
pub record-cut : (change : RowChange) (rest : List ℕ) (m : ℕ) → NumbersFit change → m < length (record_of change)
    → front_of (take m (record_of change ++ rest)) ≡ None
record-cut change rest m h low =
    let p = payload_of change in
    let n = length p in
    let bytes = record_of change ++ rest in
    let cut = take m bytes in
    let whole = record-length change in
    let all : length bytes ≡ length (record_of change) + length rest = length-append (record_of change) rest in
    let size : length cut ≡ m = length-take-le m bytes (omega (arith, all, low)) in
    elim (cases_lt m 8) as (λ _. front_of cut ≡ None) [
      | inl s ↦ front-short cut (omega (arith, size, s))
      | inr s ↦
          let number : big_number 4 cut ≡ n =
          big_from-take 0 4 m bytes (omega (arith, s)) ∙ big_number-reads_back 4 n (big_bytes 4 (adler p) ++ (p ++ rest)) (payload-fits change h) in
          let left : length (drop 8 cut) ≡ m - 8 = length-drop 8 cut ∙ ap (λ (k : ℕ). k - 8) size in
          front-cut n cut number (omega (arith, left, low, whole, s))
    ]

-- what is known of the first record of bytes
pub record IsFirst (bytes : List ℕ) (change : RowChange) (size : ℕ) : Type 0 where
  pub some : 8 ≤ size
  pub within : size ≤ length bytes

first-parts : (n : ℕ) (bytes : List ℕ) (found : Option RowChange) (change : RowChange) (size : ℕ) → n ≤ length (drop 8 bytes) → 8 ≤ length bytes
    → option_map {U = RowChange × ℕ} (λ (c : RowChange). (c, 8 + n)) found ≡ Some (change, size) → IsFirst bytes change size
first-parts n bytes None change size h i e =
    let no : ◌≡◌ {A = Option (RowChange × ℕ)} None (Some (change, size)) = e in
    absurd (let k : ⊥ = cc in k)
first-parts n bytes (Some c) change size h i e =
    let pair : (c, 8 + n) ≡ (change, size) = ap (λ (o : Option (RowChange × ℕ)). unwrap_or o (c, 8 + n)) e in
    let same : 8 + n ≡ size = ap (λ (p : RowChange × ℕ). p.1) pair in
    record { some = omega (arith, same); within = omega (arith, same, h, i, length-drop 8 bytes) }

first-if : (b : Bool) (n : ℕ) (bytes : List ℕ) (found : Option RowChange) (change : RowChange) (size : ℕ)
    → (b ≡ true → (8 ≤ length bytes) × (n ≤ length (drop 8 bytes)))
    → (if b then option_map {U = RowChange × ℕ} (λ (c : RowChange). (c, 8 + n)) found else None) ≡ Some (change, size) → IsFirst bytes change size
first-if true n bytes found change size h e = let s = h refl in first-parts n bytes found change size s.1 s.0 e
first-if false n bytes found change size h e =
    let no : ◌≡◌ {A = Option (RowChange × ℕ)} None (Some (change, size)) = e in absurd (let k : ⊥ = cc in k)

pub first-known : (bytes : List ℕ) (change : RowChange) (size : ℕ) → front_of bytes ≡ Some (change, size) → IsFirst bytes change size
first-known bytes change size e =
    let n = big_number 4 bytes in
    let sum = adler (take n (drop 8 bytes)) == big_number 4 (drop 4 bytes) in
    let fits = nat_le n (length (drop 8 bytes)) in
    first-if (nat_le 8 (length bytes) && fits && sum) n bytes (change_in (take n (drop 8 bytes))) change size
    (λ t. let first = and_parts (nat_le 8 (length bytes) && fits) sum t in
    let both = and_parts (nat_le 8 (length bytes)) fits first.0 in
    (leb-true 8 (length bytes) both.0, leb-true n (length (drop 8 bytes)) both.1))
    e
