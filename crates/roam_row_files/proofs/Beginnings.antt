-- What is read of the records of changes, of which the end may be cut off.
use Rattle.std.proofs.Common.{◌<◌, ◌≡◌, ℕ, ◌+◌, ◌-◌, ◌≤◌, List, [], ◌∷◌, ◌++◌, Option, Some, None, drop, length, take, refl, sym, ap, subst, ◌∙◌, arith, inl, inr, lit<, suc, zero, length-append, length-drop, length-take, take-append-drop}
use Rattle.std.specs.List.{All}
use Rattle.std.specs.Option.{unwrap_or}
use Rattle.std.proofs.lemmas.Bool.{cases_lt}
use Rattle.std.proofs.lemmas.List.{drop_at, take-take, take_all, take_at}
use Rattle.std.proofs.lemmas.List.Concat.{flat_map-append}
use Rattle.roam_row_files.specs.Reading.{AreWhole, Reads, goes, stops}
use Rattle.roam_row_files.specs.Records.{NumbersFit, front_of, record_of, records_of}
use Rattle.roam_row_files.specs.Changes.{RowChange}
use Rattle.std.proofs.Math.Seq.{take-append-add}
use Rattle.roam_row_files.proofs.Framing.{first-known, front-short, record-cut, record-read}

all-rest : {X : Type 0} (P : X → Type 0) (x : X) (xs : List X) → All P (x ∷ xs) → All P xs
all-rest P x xs h k d s = h (suc k) d (omega (arith, s))

take-past : {X : Type 0} (xs ys : List X) (n m : ℕ) → length xs ≡ n → take (n + m) (xs ++ ys) ≡ xs ++ take m ys
take-past xs ys n m h = ap (λ k. take (k + m) (xs ++ ys)) (sym h) ∙ take-append-add xs ys m

pub none-read : (bytes : List ℕ) (found : List RowChange) (end : ℕ) → Reads bytes found end → front_of bytes ≡ None → (found ≡ []) × (end ≡ 0)
none-read bytes found end (stops b e) h = (refl, refl)
none-read bytes found end (goes b change size changes end' e r) h =
    let no : ◌≡◌ {A = Option (RowChange × ℕ)} (Some (change, size)) None = sym e ∙ h in
    absurd (let k : ⊥ = cc in k)

pub some-read : (bytes : List ℕ) (found : List RowChange) (end : ℕ) (change : RowChange) (size : ℕ) → Reads bytes found end
    → front_of bytes ≡ Some (change, size)
    → (rest : List RowChange) × (more : ℕ) × (found ≡ change ∷ rest) × (end ≡ size + more) × Reads (drop size bytes) rest more
some-read bytes found end change size (stops b e) h =
    let no : ◌≡◌ {A = Option (RowChange × ℕ)} (Some (change, size)) None = sym h ∙ e in
    absurd (let k : ⊥ = cc in k)
some-read bytes found end change size (goes b one n changes end' e r) h =
    let both : Some (one, n) ≡ Some (change, size) = sym e ∙ h in
    let pair : (one, n) ≡ (change, size) = ap (λ (o : Option (RowChange × ℕ)). unwrap_or o (one, n)) both in
    let same : one ≡ change = ap (λ (p : RowChange × ℕ). p.0) pair in
    let length_same : n ≡ size = ap (λ (p : RowChange × ℕ). p.1) pair in (
      changes,
      end',
      ap (λ (c : RowChange). c ∷ changes) same,
      ap (λ k. k + end') length_same,
      subst (λ k. Reads (drop k b) changes end') length_same r,
    )

-- no record is whole before the end of the first
pub none-whole : (c : RowChange) (cs : List RowChange) (n : ℕ) → n < length (record_of c)
    → (k : ℕ) → k ≤ length (c ∷ cs) → length (records_of (take k (c ∷ cs))) ≤ n → k ≤ 0
none-whole c cs n s zero h w = omega arith
none-whole c cs n s (suc k) h w =
    absurd (let no : ⊥ = omega (arith, w, length-append (record_of c) (records_of (take k cs)), s) in no)

-- behind a whole record, as many are whole as among the bytes behind it
pub more-whole : (c : RowChange) (cs : List RowChange) (n count : ℕ) → length (record_of c) ≤ n
    → ((k : ℕ) → k ≤ length cs → length (records_of (take k cs)) ≤ n - length (record_of c) → k ≤ count)
    → (k : ℕ) → k ≤ length (c ∷ cs) → length (records_of (take k (c ∷ cs))) ≤ n → k ≤ suc count
more-whole c cs n count s f zero h w = omega arith
more-whole c cs n count s f (suc k) h w =
    let rest : k ≤ count = f k (omega (arith, h)) (omega (arith, w, length-append (record_of c) (records_of (take k cs)), s)) in
    omega (arith, rest)

-- of the bytes up to a place, the first changes are read
abbrev pub IsBeginning : List RowChange → List RowChange → ℕ → ℕ → Type 0
IsBeginning changes found n end = (count : ℕ) × (found ≡ take count changes) × AreWhole changes n count end

pub first-changes : (changes : List RowChange) (bytes : List ℕ) (found : List RowChange) (n end : ℕ) → All NumbersFit changes
    → Reads bytes found end → bytes ≡ take n (records_of changes) → IsBeginning changes found n end
first-changes [] bytes found n end h r e =
    let empty : bytes ≡ [] = e ∙ take_all n [] (omega arith) in
    let none = none-read bytes found end r (subst (λ (b : List ℕ). front_of b ≡ None) (sym empty) (front-short [] (lit< tt))) in
    (0, none.0, record { among = omega arith; end_is = none.1; all = λ k s _. s })
first-changes (c ∷ cs) bytes found n end h r e =
    let L = length (record_of c) in
    let fits : NumbersFit c = h 0 c (omega arith) in
    let all : (k : ℕ) → length (records_of (take (suc k) (c ∷ cs))) ≡ L + length (records_of (take k cs)) =
    λ k. length-append (record_of c) (records_of (take k cs)) in
    elim (cases_lt n L) as (λ _. IsBeginning (c ∷ cs) found n end) [
      | inl s ↦
          let none = none-read bytes found end r (subst (λ (b : List ℕ). front_of b ≡ None) (sym e) (record-cut c (records_of cs) n fits s)) in (
            0,
            none.0,
            record {
              among = omega arith;
              end_is = none.1;
              all = none-whole c cs n s;
            },
          )
      | inr s ↦
          let m = n - L in
          let sum : L + m ≡ n = omega (arith, s) in
          let split : bytes ≡ record_of c ++ take m (records_of cs) =
          e ∙ ap (λ k. take k (record_of c ++ records_of cs)) (sym sum) ∙ take-past (record_of c) (records_of cs) L m refl in
          let front : front_of bytes ≡ Some (c, L) =
          subst (λ (b : List ℕ). front_of b ≡ Some (c, L)) (sym split) (record-read c (take m (records_of cs)) fits) in
          let (rest, more, f, g, q) = some-read bytes found end c L r front in
          let behind : drop L bytes ≡ take m (records_of cs) =
          ap (λ (b : List ℕ). drop L b) split ∙ drop_at (record_of c) (take m (records_of cs)) L refl in
          let (count, i, w) = first-changes cs (drop L bytes) rest m more (all-rest NumbersFit c cs h) q behind in (
            suc count,
            f ∙ ap (λ (l : List RowChange). c ∷ l) i,
            record {
              among = omega (arith, w.among);
              end_is = g ∙ ap (λ k. L + k) w.end_is ∙ sym (all count);
              all = more-whole c cs n count s w.all;
            },
          )
    ]

-- the records of changes are read as these
pub records-read : (changes : List RowChange) → All NumbersFit changes → Reads (records_of changes) changes (length (records_of changes))
records-read [] h = stops [] (front-short [] (lit< tt))
records-read (c ∷ cs) h =
    let L = length (record_of c) in
    let rest = records-read cs (all-rest NumbersFit c cs h) in
    let front = record-read c (records_of cs) (h 0 c (omega arith)) in
    let behind : drop L (record_of c ++ records_of cs) ≡ records_of cs = drop_at (record_of c) (records_of cs) L refl in
    subst (λ n. Reads (records_of (c ∷ cs)) (c ∷ cs) n) (sym (length-append (record_of c) (records_of cs)))
    (goes (record_of c ++ records_of cs) c L cs (length (records_of cs)) front
    (subst (λ (l : List ℕ). Reads l cs (length (records_of cs))) (sym behind) rest))

records-append : (xs ys : List RowChange) → records_of (xs ++ ys) ≡ records_of xs ++ records_of ys
records-append xs ys = flat_map-append record_of xs ys

all-append : (xs ys : List RowChange) → All NumbersFit xs → All NumbersFit ys → All NumbersFit (xs ++ ys)
all-append [] ys h i k d s = i k d s
all-append (x ∷ xs) ys h i zero d s = h zero d (omega arith)
all-append (x ∷ xs) ys h i (suc k) d s = all-append xs ys (all-rest NumbersFit x xs h) i k d (omega (arith, s))

all-take : (n : ℕ) (xs : List RowChange) → All NumbersFit xs → All NumbersFit (take n xs)
all-take zero xs h k d s = absurd (let no : ⊥ = omega (arith, s) in no)
all-take (suc n) [] h k d s = absurd (let no : ⊥ = omega (arith, s) in no)
all-take (suc n) (x ∷ xs) h zero d s = h zero d (omega arith)
all-take (suc n) (x ∷ xs) h (suc k) d s = all-take n xs (all-rest NumbersFit x xs h) k d (omega (arith, s))

-- the whole records of a file that was cut off are the records of the changes that are read
pub whole-front : (changes : List RowChange) (n count end : ℕ) → AreWhole changes n count end → end ≤ n
    → take end (take n (records_of changes)) ≡ records_of (take count changes)
whole-front changes n count end w s =
    let front = records_of (take count changes) in
    let split : records_of changes ≡ front ++ records_of (drop count changes) =
    ap records_of (sym (take-append-drop count changes)) ∙ records-append (take count changes) (drop count changes) in
    take-take end n (records_of changes) s ∙ ap (λ (l : List ℕ). take end l) split
    ∙ take_at front (records_of (drop count changes)) end (sym w.end_is)

pub reads-within : (bytes : List ℕ) (found : List RowChange) (end : ℕ) → Reads bytes found end → end ≤ length bytes
reads-within bytes found end (stops b e) = omega arith
reads-within bytes found end (goes b change size changes more e r) =
    let first = first-known b change size e in
    let rest = reads-within (drop size b) changes more r in
    omega (arith, first.within, rest, length-drop size b)

pub writers-go-on : (changes more found : List RowChange) (n end : ℕ) → All NumbersFit changes → All NumbersFit more
    → Reads (take n (records_of changes)) found end
    → Reads (take end (take n (records_of changes)) ++ records_of more) (found ++ more) (end + length (records_of more))
writers-go-on changes more found n end h i r =
    let bytes = take n (records_of changes) in
    let (count, is, w) = first-changes changes bytes found n end h r refl in
    let low : end ≤ n = omega (arith, reads-within bytes found end r, length-take n (records_of changes)) in
    let front = whole-front changes n count end w low in
    let all = take count changes ++ more in
    let file : take end bytes ++ records_of more ≡ records_of all =
    ap (λ (l : List ℕ). l ++ records_of more) front ∙ sym (records-append (take count changes) more) in
    let size : length (records_of all) ≡ end + length (records_of more) =
    ap length (records-append (take count changes) more) ∙ length-append (records_of (take count changes)) (records_of more)
    ∙ ap (λ k. k + length (records_of more)) (sym w.end_is) in
    let same : found ++ more ≡ all = ap (λ (l : List RowChange). l ++ more) is in
    subst (λ (l : List ℕ). Reads l (found ++ more) (end + length (records_of more))) (sym file)
    (subst (λ (l : List RowChange). Reads (records_of all) l (end + length (records_of more))) (sym same)
    (subst (λ k. Reads (records_of all) all k) size (records-read all (all-append (take count changes) more (all-take count changes h) i))))

pub cuts-are-read : (changes found : List RowChange) (n end : ℕ) → All NumbersFit changes → Reads (take n (records_of changes)) found end
    → (count : ℕ) × (found ≡ take count changes) × AreWhole changes n count end
cuts-are-read changes found n end h r = first-changes changes (take n (records_of changes)) found n end h r refl

-- bytes that are read, at most as many as the fuel
some-reading : (fuel : ℕ) (bytes : List ℕ) → length bytes ≤ fuel → (found : List RowChange) × (end : ℕ) × Reads bytes found end
some-reading fuel bytes h = by_front fuel bytes h (front_of bytes) refl
  where
    by_front : (fuel : ℕ) (bytes : List ℕ) → length bytes ≤ fuel → (o : Option (RowChange × ℕ)) → front_of bytes ≡ o
        → (found : List RowChange) × (end : ℕ) × Reads bytes found end
    by_front fuel bytes h None e = ([], 0, stops bytes e)
    by_front zero bytes h (Some (change, size)) e =
        let first = first-known bytes change size e in absurd (let no : ⊥ = omega (arith, first.some, first.within, h) in no)
    by_front (suc fuel) bytes h (Some (change, size)) e =
        let first = first-known bytes change size e in
        let (found, end, r) = by_front fuel (drop size bytes) (omega (arith, first.some, first.within, h, length-drop size bytes)) (front_of (drop size bytes)) refl in
        (change ∷ found, size + end, goes bytes change size found end e r)

pub same-reading : (bytes : List ℕ) (found others : List RowChange) (end n : ℕ) → Reads bytes found end → Reads bytes others n → (others ≡ found) × (n ≡ end)
same-reading bytes found others end n (stops b e) r = none-read b others n r e
same-reading bytes found others end n (goes b change size changes more e s) r =
    let (rest, m, is, sum, q) = some-read b others n change size r e in
    let (same, end_same) = same-reading (drop size b) changes rest more m s q in
    (is ∙ ap (λ (l : List RowChange). change ∷ l) same, sum ∙ ap (λ k. size + k) end_same)

pub any-bytes : (bytes : List ℕ) → (found : List RowChange) × (end : ℕ) × Reads bytes found end × (end ≤ length bytes)
    × ((others : List RowChange) (n : ℕ) → Reads bytes others n → (others ≡ found) × (n ≡ end))
any-bytes bytes =
    let (found, end, r) = some-reading (length bytes) bytes (omega arith) in
    (found, end, r, reads-within bytes found end r, λ others n s. same-reading bytes found others end n r s)
