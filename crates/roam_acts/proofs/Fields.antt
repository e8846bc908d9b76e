-- An act is read from its fields, and from no others.
use Rattle.std.proofs.Common.{◌≡◌, ℕ, suc, ◌+◌, ◌^◌, ◌<◌, ◌≤◌, ◌≤ℤ◌, Bool, true, false, cond, ltb, List, [], ◌∷◌, ◌++◌, length, get_or, take, drop, Option, Some, None, ℤ, pos, negsuc, inl, inr, refl, sym, ap, subst, ◌∙◌, arith, lit<}
use Rattle.std.proofs.lemmas.Bool.{le-ltb, ltb-false, cases_lt}
use Rattle.std.proofs.lemmas.Int.{ints, to_z-of_z, of_z-to_z}
use Rattle.std.proofs.lemmas.List.{take-append-drop, get_or-drop, get_or-take, get_or_past, length-take, length-drop, length-append}
use Rattle.std.proofs.lemmas.Nat.{be_bytes_2, be_bytes_4}
use Rattle.std.specs.Int.{w16, from_be_bytes, cast_signed, cast_unsigned}
use Rattle.std.specs.Prelude.{FitsSigned}
use Rattle.byteorder.specs.Endian.{big_bytes, big_number}
use Rattle.byteorder.specs.Numbers.{big_number-reads_back, big_from-lt}
use lib.Utf8.{scalar, scalar_cases}
use Rattle.std.specs.Option.{option_map}
use Rattle.std.proofs.Math.Seq.{take-append_seam, drop-append_seam}
use Rattle.roam_acts.specs.declared.acts.Act.{Act}
use Rattle.roam_acts.specs.declared.acts.Act.TheVariants.{SplitRight, SplitDown, Close, Focus, Next, Grow, Size, View}
use Rattle.roam_acts.specs.declared.acts.Act.TheVariants as act
use Rattle.roam_keys.specs.declared.keys.Key.{Key}
use Rattle.roam_keys.specs.declared.keys.Key.TheVariants.{Char}
use Rattle.roam_acts.specs.declared.kinds.Kind.{Kind}
use Rattle.roam_acts.specs.declared.kinds.Kind.TheVariants as kind
use Rattle.roam_acts.specs.Acts.{is_in_range, IsAct, IsKey, HasKey}
use Rattle.roam_acts.specs.Keys.{named_keys, numbered_in}
use Rattle.roam_acts.specs.Kinds.{kinds, kind_of, kind_of_key, tag_of, tagged_in, width_of}
use Rattle.roam_acts.specs.Bytes.{act_text, fields_of, key_fields}
use Rattle.roam_acts.specs.Reading.{act_of_fields, after_tag, character, first_act, act_in_range}
use Rattle.roam_acts.proofs.Ranges.{in_range, has_range}
use Rattle.roam_acts.proofs.Tables.{number_found, tag_found, tagged_again}

abbrev pub IsBytes : List ℕ → Type 0
IsBytes bytes = (i : ℕ) → get_or bytes i 0 < 256

pub IsBytes-drop : (n : ℕ) (bytes : List ℕ) → IsBytes bytes → IsBytes (drop n bytes)
IsBytes-drop n bytes h i = rw get_or-drop (h (n + i))

pub IsBytes-take : (n : ℕ) (bytes : List ℕ) → IsBytes bytes → IsBytes (take n bytes)
IsBytes-take n bytes h i =
    elim (cases_lt i n) [
      | inl lt ↦ rw (get_or-take n bytes i 0 lt) (h i)
      | inr le ↦ rw (get_or_past (take n bytes) i 0 (omega (arith, length-take n bytes))) (omega arith)
    ]

-- ---- a number's bytes

back_2 : (xs : List ℕ) → length xs ≡ 2 → IsBytes xs → big_bytes 2 (big_number 2 xs) ≡ xs
back_2 xs long fits = be_bytes_2 xs (big_number 2 xs) long fits (omega arith)

back_4 : (xs : List ℕ) → length xs ≡ 4 → IsBytes xs → big_bytes 4 (big_number 4 xs) ≡ xs
back_4 xs long fits = be_bytes_4 xs (big_number 4 xs) long fits (omega arith)

number_2 : (n : ℕ) → n < 2 ^ 16 → big_number 2 (big_bytes 2 n) ≡ n
number_2 n lt = big_number-reads_back 2 n [] (omega arith)

-- a number with a sign, from its two bytes
signed_2 : (z : ℤ) → FitsSigned w16 z → cast_signed w16 (big_number 2 (big_bytes 2 (cast_unsigned w16 z))) ≡ z
signed_2 z fits = ap (cast_signed w16) (number_2 (cast_unsigned w16 z) (omega (arith, ints))) ∙ to_z-of_z w16 z fits

-- and back
bytes_2 : (xs : List ℕ) → length xs ≡ 2 → IsBytes xs → big_bytes 2 (cast_unsigned w16 (cast_signed w16 (big_number 2 xs))) ≡ xs
bytes_2 xs long fits =
    let small : big_number 2 xs < 2 ^ 16 = big_from-lt 0 2 xs fits in
    ap (big_bytes 2) (of_z-to_z w16 (big_number 2 xs) small) ∙ back_2 xs long fits

-- ---- an act's fields are read again

scalar_fits : (c : ℕ) → scalar c ≡ true → c < 2 ^ 32
scalar_fits c e = elim (scalar_cases c e) [ inl low ↦ omega arith | inr high ↦ omega (arith, high.1) ]

a_character : (c : ℕ) → scalar c ≡ true → character c ≡ Some (act.Key (Char c))
a_character c e = rw e refl

again_key : (k : Key) → IsKey k → act_of_fields (kind_of_key k) (key_fields k) ≡ Some (act.Key k)
again_key (Char c) h = ap character (big_number-reads_back 4 c [] (scalar_fits c h)) ∙ a_character c h
again_key _ h = refl

size_again : (r c : ℕ) → r ≤ 9999 → c ≤ 9999 → act_of_fields kind.Size (big_bytes 2 r ++ big_bytes 2 c) ≡ Some (Size r c)
size_again r c h k =
    let rows : big_number 2 (big_bytes 2 r ++ big_bytes 2 c) ≡ r = big_number-reads_back 2 r (big_bytes 2 c) (omega arith) in
    let cols : big_number 2 (big_bytes 2 c) ≡ c = number_2 c (omega arith) in
    λ i. Some (Size (rows i) (cols i))

pub small_fits : (z : ℤ) → negsuc 499 ≤ℤ z → z ≤ℤ pos 500 → FitsSigned w16 z
small_fits (pos n) low high = record { sfits = omega (arith, ints, high) }
small_fits (negsuc n) low high = record { sfits = omega (arith, ints, low) }

pub again : (a : Act) → IsAct a → act_of_fields (kind_of a) (fields_of a) ≡ Some a
again (act.Key k) h = again_key k h.1
again SplitRight h = refl
again SplitDown h = refl
again Close h = refl
again (Focus p) h = refl
again Next h = refl
again (Grow d) h = ap (λ (z : ℤ). Some (Grow z)) (signed_2 d (small_fits d (omega (arith, ints, h.0.0)) (omega (arith, ints, h.0.1))))
again (Size r c) h = size_again r c h.0.0 h.0.1
again (View d) h = ap (λ (z : ℤ). Some (View z)) (signed_2 d (small_fits d (omega (arith, ints, h.0.0)) (omega (arith, ints, h.0.1))))

width_key : (k : Key) → length (key_fields k) ≡ width_of (kind_of_key k)
width_key (Char c) = refl
width_key _ = refl

pub width : (a : Act) → length (fields_of a) ≡ width_of (kind_of a)
width (act.Key k) = width_key k
width SplitRight = refl
width SplitDown = refl
width Close = refl
width (Focus p) = refl
width Next = refl
width (Grow d) = refl
width (Size r c) = refl
width (View d) = refl

read_after : (kind : Kind) (fields rest : List ℕ) (a : Act) → length fields ≡ width_of kind → act_of_fields kind fields ≡ Some a → is_in_range a ≡ true → after_tag (Some kind) (fields ++ rest) ≡ Some (a, rest)
read_after kind fields rest a long e fits =
    let n = width_of kind in
    let whole : ltb (length (fields ++ rest)) n ≡ false = le-ltb _ _ (omega (arith, length-append fields rest)) in
    let front : take n (fields ++ rest) ≡ fields = rw (← long) (take-append_seam fields rest) in
    let back : drop n (fields ++ rest) ≡ rest = rw (← long) (drop-append_seam fields rest) in
    rw (whole, front, back, e, fits) refl

-- the act at the front is read
pub first_again : (a : Act) (rest : List ℕ) → IsAct a → first_act (act_text a ++ rest) ≡ Some (a, rest)
first_again a rest h =
    ap (λ k. after_tag k (fields_of a ++ rest)) (tagged_again (kind_of a))
    ∙ read_after (kind_of a) (fields_of a) rest a (width a) (again a h) (in_range a h.0)

-- ---- the text that was read is there

-- an act of a kind with these fields, in its ranges or not
pub record Stands (kind : Kind) (fields : List ℕ) (a : Act) : Type 0 where
  pub same_kind : kind_of a ≡ kind
  pub has_key : HasKey a
  pub same_fields : fields_of a ≡ fields

moved : (kind : Kind) (fields : List ℕ) (a b : Act) → a ≡ b → Stands kind fields a → Stands kind fields b
moved kind fields a b e s = subst (Stands kind fields) e s

character_found : (c : ℕ) (a : Act) → character c ≡ Some a → (scalar c ≡ true) × (act.Key (Char c) ≡ a)
character_found c a e = by (scalar c) e
  where
    by : (b : Bool) → cond b (Some (act.Key (Char c))) None ≡ Some a → (b ≡ true) × (act.Key (Char c) ≡ a)
    by true e = (refl, cc)
    by false e = absurd cc

key_found : (r : Option Key) (a : Act) → option_map act.Key r ≡ Some a → (k : Key) × (r ≡ Some k) × (act.Key k ≡ a)
key_found None a e = absurd cc
key_found (Some k) a e = (k, refl, cc)

empty : (xs : List ℕ) → length xs ≡ 0 → [] ≡ xs
empty [] e = refl
empty (x ∷ xs) e = absurd (omega (arith, e))

one : (xs : List ℕ) → length xs ≡ 1 → get_or xs 0 0 ∷ [] ≡ xs
one [] e = absurd (omega (arith, e))
one (x ∷ xs) e = ap (λ (t : List ℕ). x ∷ t) (empty xs (omega (arith, e)))

sizes : (fields : List ℕ) → length fields ≡ 4 → IsBytes fields → big_bytes 2 (big_number 2 fields) ++ big_bytes 2 (big_number 2 (drop 2 fields)) ≡ fields
sizes fields long fits =
    let same : (i : ℕ) → i < 2 → get_or (take 2 fields) i 0 ≡ get_or fields i 0 = λ i lt. get_or-take 2 fields i 0 lt in
    let first : big_number 2 fields ≡ from_be_bytes w16 (take 2 fields) = omega (arith, same 0 (lit< tt), same 1 (lit< tt)) in
    let front : big_bytes 2 (big_number 2 fields) ≡ take 2 fields =
    be_bytes_2 (take 2 fields) (big_number 2 fields) (omega (arith, long, length-take 2 fields)) (IsBytes-take 2 fields fits) first in
    let back : big_bytes 2 (big_number 2 (drop 2 fields)) ≡ drop 2 fields = back_2 (drop 2 fields) (omega (arith, long, length-drop 2 fields)) (IsBytes-drop 2 fields fits) in
    (λ i. front i ++ back i) ∙ take-append-drop 2 fields

named_stands : (fields : List ℕ) (k : Key) → length fields ≡ 1 → numbered_in named_keys (get_or fields 0 0) ≡ Some k → Stands kind.Named fields (act.Key k)
named_stands fields k long e =
    let both = number_found (get_or fields 0 0) k e in
    record { same_kind = both.0.kind; has_key = both.0.is_key; same_fields = both.0.fields ∙ ap (λ (n : ℕ). n ∷ []) both.1 ∙ one fields long }

pub stands : (kind : Kind) (fields : List ℕ) (a : Act) → length fields ≡ width_of kind → IsBytes fields → act_of_fields kind fields ≡ Some a → Stands kind fields a
stands kind.Char fields a long fits e =
    let c = character_found (big_number 4 fields) a e in
    moved kind.Char fields (act.Key (Char (big_number 4 fields))) a c.1 (record { same_kind = refl; has_key = c.0; same_fields = back_4 fields long fits })
stands kind.Named fields a long fits e =
    let k = key_found (numbered_in named_keys (get_or fields 0 0)) a e in
    moved kind.Named fields (act.Key k.0) a k.2 (named_stands fields k.0 long k.1)
stands kind.SplitRight fields a long fits e = moved kind.SplitRight fields SplitRight a (cc) (record { same_kind = refl; has_key = tt; same_fields = empty fields long })
stands kind.SplitDown fields a long fits e = moved kind.SplitDown fields SplitDown a (cc) (record { same_kind = refl; has_key = tt; same_fields = empty fields long })
stands kind.Close fields a long fits e = moved kind.Close fields Close a (cc) (record { same_kind = refl; has_key = tt; same_fields = empty fields long })
stands kind.Focus fields a long fits e = moved kind.Focus fields (Focus (get_or fields 0 0)) a (cc) (record { same_kind = refl; has_key = tt; same_fields = one fields long })
stands kind.Next fields a long fits e = moved kind.Next fields Next a (cc) (record { same_kind = refl; has_key = tt; same_fields = empty fields long })
stands kind.Grow fields a long fits e = moved kind.Grow fields (Grow (cast_signed w16 (big_number 2 fields))) a (cc) (record { same_kind = refl; has_key = tt; same_fields = bytes_2 fields long fits })
stands kind.Size fields a long fits e = moved kind.Size fields (Size (big_number 2 fields) (big_number 2 (drop 2 fields))) a (cc) (record { same_kind = refl; has_key = tt; same_fields = sizes fields long fits })
stands kind.View fields a long fits e = moved kind.View fields (View (cast_signed w16 (big_number 2 fields))) a (cc) (record { same_kind = refl; has_key = tt; same_fields = bytes_2 fields long fits })

passed : Act → List ℕ → Bool → Option (Act × List ℕ)
passed b rest true = Some (b, rest)
passed b rest false = None

is_passed : (b : Act) (rest : List ℕ) (t : Bool) → is_in_range b ≡ t → act_in_range (Some b) rest ≡ passed b rest t
unfolding passed
is_passed b rest true is = rw is refl
is_passed b rest false is = rw is refl

abbrev pub here : Act → List ℕ → Option (Act × List ℕ)
here a rest = Some (a, rest)

pub pair_same : (a b : Act) (xs ys : List ℕ) → here a xs ≡ here b ys → (a ≡ b) × (xs ≡ ys)
pair_same a b xs ys e =
    let first : Act × List ℕ = (a, xs) in
    let second : Act × List ℕ = (b, ys) in
    let whole : first ≡ second = cc in
    (ap (λ (p : Act × List ℕ). p.0) whole, ap (λ (p : Act × List ℕ). p.1) whole)

ranged_found : (r : Option Act) (rest rest' : List ℕ) (a : Act) → act_in_range r rest ≡ Some (a, rest') → (r ≡ Some a) × (rest ≡ rest') × (is_in_range a ≡ true)
unfolding passed
ranged_found None rest rest' a e = absurd cc
ranged_found (Some b) rest rest' a e = by (is_in_range b) refl (sym (is_passed b rest (is_in_range b) refl) ∙ e)
  where
    by : (t : Bool) → is_in_range b ≡ t → passed b rest t ≡ Some (a, rest') → (Some b ≡ Some a) × (rest ≡ rest') × (is_in_range a ≡ true)
    by true is e = let both = pair_same b a rest rest' e in (ap (λ (x : Act). Some x) both.0, both.1, sym (ap is_in_range both.0) ∙ is)
    by false is e = absurd cc

unless_short : (b : Bool) (r : Option (Act × List ℕ)) (p : Act × List ℕ) → cond b None r ≡ Some p → (b ≡ false) × (r ≡ Some p)
unless_short true r p e = absurd cc
unless_short false r p e = (refl, e)

found_after : (kind : Kind) (bytes rest : List ℕ) (a : Act) → IsBytes bytes → after_tag (Some kind) bytes ≡ Some (a, rest) → IsAct a × (kind_of a ≡ kind) × (bytes ≡ fields_of a ++ rest)
found_after kind bytes rest a fits e =
    let n = width_of kind in
    let long = unless_short (ltb (length bytes) n) _ (a, rest) e in
    let r = ranged_found (act_of_fields kind (take n bytes)) (drop n bytes) rest a long.1 in
    let enough : n ≤ length bytes = ltb-false _ _ long.0 in
    let s = stands kind (take n bytes) a (omega (arith, length-take n bytes)) (IsBytes-take n bytes fits) r.0 in
    ((has_range a r.2, s.has_key), s.same_kind, sym (take-append-drop n bytes) ∙ (λ i. sym s.same_fields i ++ r.1 i))

pub first_found : (bytes rest : List ℕ) (a : Act) → IsBytes bytes → first_act bytes ≡ Some (a, rest) → IsAct a × (bytes ≡ act_text a ++ rest)
first_found [] rest a fits e = absurd cc
first_found (tag ∷ bytes) rest a fits e = by (tagged_in kinds tag) refl e
  where
    by : (k : Option Kind) → tagged_in kinds tag ≡ k → after_tag k bytes ≡ Some (a, rest) → IsAct a × ((tag ∷ bytes) ≡ act_text a ++ rest)
    by None is e = absurd cc
    by (Some kind) is e =
        let f = found_after kind bytes rest a (λ i. fits (suc i)) e in
        let same : tag ≡ tag_of (kind_of a) = sym (tag_found tag kind is) ∙ ap tag_of (sym f.1) in
        (f.0, λ i. same i ∷ f.2 i)
