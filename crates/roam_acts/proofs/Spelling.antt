-- A line is read as the act that it spells, and as no other.
use Rattle.std.proofs.Common.{◌≡◌, ℕ, ◌+◌, ◌<◌, ◌≤◌, Bool, true, false, cond, eqb, ltb, List, [], ◌∷◌, ◌++◌, length, get_or, take, drop, Option, Some, None, ℤ, pos, negsuc, inl, inr, refl, sym, ap, subst, ◌∙◌, arith, lit≤, leb, add-one}
use Rattle.std.proofs.Math.Seq.{take-append_seam, drop-append_seam, drop-append-add, drop-cons}
use Rattle.std.proofs.lemmas.Bool.{eqb-true, ltb-true, not-false}
use Rattle.std.proofs.lemmas.List.Sums.{prefix_len_stops}
use Rattle.std.proofs.lemmas.Bool.Decides.{nat_tests}
use Rattle.std.proofs.lemmas.Int.{ints}
use Rattle.std.proofs.lemmas.Fmt.{decimal_is_IsNumeral, digits_is_IsNumeral}
use Rattle.std.proofs.lemmas.List.{length-append, take-append-drop}
use Rattle.std.proofs.lemmas.Str.Parse.{digit_from_value}
use Rattle.std.specs.Fmt.{decimal, signed_decimal}
use Rattle.std.specs.Int.{w16}
use Rattle.std.specs.List.{position, prefix_len}
use Rattle.std.specs.Option.{ok_or, option_map}
use Rattle.std.specs.Prelude.{IfOk, Ok}
use Rattle.roam_cells.specs.declared.faults.Fault.TheVariants.{BadAct}
use Rattle.std.specs.Prelude.{FitsSigned, not}
use Rattle.std.specs.Str.Parse.{AllDigits}
use lib.Utf8.{scalar_cases}
use Rattle.roam_acts.specs.declared.acts.Act.{Act}
use Rattle.roam_acts.specs.declared.acts.Act.TheVariants.{SplitRight, SplitDown, Close, Focus, Next, Grow, Size, View}
use Rattle.roam_acts.specs.declared.acts.Act.TheVariants as act
use Rattle.roam_keys.specs.declared.keys.Key.{Key}
use Rattle.roam_keys.specs.declared.keys.Key.TheVariants.{Char}
use Rattle.roam_acts.specs.declared.kinds.Kind.{Kind}
use Rattle.roam_acts.specs.declared.kinds.Kind.TheVariants as kind
use Rattle.roam_acts.specs.Acts.{is_in_range, HasKey, IsAct, IsInRange, IsKey}
use Rattle.roam_acts.specs.Keys.{named_in, named_keys}
use Rattle.roam_acts.specs.Kinds.{head_of, headed_in, kind_of, kind_of_key, kinds}
use Rattle.roam_acts.specs.Lines.{IsArgument, IsKeyArgument, Spells, key_argument, line_of}
use Rattle.roam_acts.specs.Reading.{act_in, act_of_argument, after_head, bare, focus_of, natural, integer_in, only_ranged, scalar_in, size_at, size_of}
use Rattle.roam_acts.proofs.Numbers.{digits_short, number_again, number_found, scalar_again, scalar_found}
use Rattle.roam_acts.proofs.Ranges.{has_range, in_range}
use Rattle.roam_acts.proofs.Fields.{small_fits}
use Rattle.roam_acts.proofs.Tables.{head_found, headed_again, name_found}

-- ---- a spelling is read

natural_fits : (n : ℕ) → n ≤ 9999 → FitsSigned w16 (pos n)
natural_fits n le = record { sfits = omega (arith, le) }

natural_again : (n : ℕ) → n ≤ 9999 → natural (integer_in (decimal n)) ≡ Some n
natural_again n le = ap natural (number_again (pos n) (natural_fits n le))

no_spaces : (ds rest : List ℕ) → AllDigits 10 ds → prefix_len (λ (b : ℕ). not (eqb b 32)) (ds ++ 32 ∷ rest) ≡ length ds
no_spaces [] rest h = refl
no_spaces (d ∷ ds) rest h =
    let digit = digit_from_value d h.0 in
    let other : eqb d 32 ≡ false = grind (arith, nat_tests, digit) in
    let more = no_spaces ds rest h.1 in
    rw (other, more) (omega arith)

space_at : (ds rest : List ℕ) → AllDigits 10 ds → position (λ (b : ℕ). eqb b 32) (ds ++ 32 ∷ rest) ≡ Some (length ds)
space_at ds rest h =
    let place = no_spaces ds rest h in
    let there : ltb (length ds) (length (ds ++ 32 ∷ rest)) ≡ true = grind (arith, nat_tests, length-append ds (32 ∷ rest)) in
    rw (place, there) refl

size_again : (r c : ℕ) → r ≤ 9999 → c ≤ 9999 → act_of_argument kind.Size (decimal r ++ 32 ∷ decimal c) ≡ Some (Size r c)
size_again r c rows cols =
    let num = decimal_is_IsNumeral r (omega (arith, rows)) in
    let text = decimal r ++ 32 ∷ decimal c in
    let place = space_at (decimal r) (decimal c) num.0.1 in
    let front : take (length (decimal r)) text ≡ decimal r = take-append_seam (decimal r) (32 ∷ decimal c) in
    let back : drop (length (decimal r) + 1) text ≡ decimal c = drop-append-add (decimal r) (32 ∷ decimal c) 1 in
    ap (λ (p : Option ℕ). size_at p text) place
    ∙ (λ i. size_of (natural (integer_in (front i))) (natural (integer_in (back i))))
    ∙ (λ i. size_of (natural_again r rows i) (natural_again c cols i))

focus_again : (p : ℕ) → p ≤ 9 → act_of_argument kind.Focus (decimal p) ≡ Some (Focus p)
focus_again p le =
    let fits : p ≤ 9999 = omega (arith, le) in
    let here : focus_of (Some p) ≡ Some (Focus p) = grind (arith, nat_tests) in
    ap focus_of (natural_again p fits) ∙ here

key_again : (k : Key) (text : List ℕ) → IsKey k → IsKeyArgument k text → act_of_argument (kind_of_key k) text ≡ Some (act.Key k)
key_again (Char c) text is h = ap (option_map (λ (x : ℕ). act.Key (Char x))) (scalar_again text c is h)
key_again _ text is h = ap (λ (t : List ℕ). option_map act.Key (named_in named_keys t)) h

pub argument_again : (a : Act) (text : List ℕ) → IsAct a → IsArgument a text → act_of_argument (kind_of a) text ≡ Some a
argument_again (act.Key k) text is h = key_again k text is.1 h
argument_again SplitRight text is h = ap (bare SplitRight) h
argument_again SplitDown text is h = ap (bare SplitDown) h
argument_again Close text is h = ap (bare Close) h
argument_again (Focus p) text is h = ap (act_of_argument kind.Focus) h ∙ focus_again p is.0.1
argument_again Next text is h = ap (bare Next) h
argument_again (Grow d) text is h = ap (act_of_argument kind.Grow) h ∙ ap (option_map Grow) (number_again d (small_fits d (omega (arith, ints, is.0.0)) (omega (arith, ints, is.0.1))))
argument_again (Size r c) text is h = ap (act_of_argument kind.Size) h ∙ size_again r c is.0.0 is.0.1
argument_again (View d) text is h = ap (act_of_argument kind.View) h ∙ ap (option_map View) (number_again d (small_fits d (omega (arith, ints, is.0.0)) (omega (arith, ints, is.0.1))))

pub line_again : (a : Act) (line : List ℕ) → IsAct a → Spells line a → act_in line ≡ Some a
line_again a line is s =
    let text = s.0 in
    let head = head_of (kind_of a) in
    let ranged : is_in_range a ≡ true = in_range a is.0 in
    let one : only_ranged (Some a) ≡ Some a = rw ranged refl in
    ap act_in s.1
    ∙ ap (λ k. after_head k (head ++ text)) (headed_again (kind_of a) text)
    ∙ ap (λ (t : List ℕ). only_ranged (act_of_argument (kind_of a) t)) (drop-append_seam head text)
    ∙ ap only_ranged (argument_again a text is s.2)
    ∙ one

-- ---- the act read is the one spelled

pub record ActWith (k : Kind) (text : List ℕ) (a : Act) : Type 0 where
  pub same_kind : kind_of a ≡ k
  pub has_key : HasKey a
  pub argument : IsArgument a text

moved : (k : Kind) (text : List ℕ) (a b : Act) → a ≡ b → ActWith k text a → ActWith k text b
moved k text a b e s = subst (ActWith k text) e s

mapped : {X : Type 0} (f : X → Act) (r : Option X) (a : Act) → option_map f r ≡ Some a → (x : X) × (r ≡ Some x) × (f x ≡ a)
mapped f None a e = absurd cc
mapped f (Some x) a e = (x, refl, cc)

bare_found : (b : Act) (text : List ℕ) (a : Act) → bare b text ≡ Some a → (text ≡ []) × (b ≡ a)
bare_found b [] a e = (refl, cc)
bare_found b (x ∷ text) a e = absurd cc

natural_found : (text : List ℕ) (n : ℕ) → natural (integer_in text) ≡ Some n → text ≡ decimal n
natural_found text n e = by (integer_in text) refl e
  where
    by : (r : Option ℤ) → integer_in text ≡ r → natural r ≡ Some n → text ≡ decimal n
    by None is e = absurd cc
    by (Some (pos m)) is e = let same : m ≡ n = cc in (number_found text (pos m) is).1 ∙ ap decimal same
    by (Some (negsuc m)) is e = absurd cc

focus_found : (r : Option ℕ) (a : Act) → focus_of r ≡ Some a → (p : ℕ) × (r ≡ Some p) × (Focus p ≡ a)
focus_found None a e = absurd cc
focus_found (Some p) a e = by (leb p 9) e
  where
    by : (b : Bool) → cond b (Some (Focus p)) None ≡ Some a → (q : ℕ) × (Some p ≡ Some q) × (Focus q ≡ a)
    by true e = (p, refl, cc)
    by false e = absurd cc

size_found : (rows cols : Option ℕ) (a : Act) → size_of rows cols ≡ Some a → (r : ℕ) × (c : ℕ) × (rows ≡ Some r) × (cols ≡ Some c) × (Size r c ≡ a)
size_found (Some r) (Some c) a e = (r, c, refl, refl, cc)
size_found (Some r) None a e = absurd cc
size_found None cols a e = absurd cc

key_told : (text : List ℕ) (k : Key) → named_in named_keys text ≡ Some k → ActWith kind.Named text (act.Key k)
key_told text k e = let n = name_found text k e in record { same_kind = n.kind; has_key = n.is_key; argument = n.argument }

bare_told : (k : Kind) (b : Act) (text : List ℕ) (a : Act) → bare b text ≡ Some a → ((t : List ℕ) → t ≡ [] → ActWith k t b) → ActWith k text a
bare_told k b text a e h = let f = bare_found b text a e in moved k text b a f.1 (h text f.0)

place_found : (b : Bool) (x y : ℕ) → cond b (Some x) None ≡ Some y → (b ≡ true) × (x ≡ y)
place_found true x y e = (refl, cc)
place_found false x y e = absurd cc

size_split : (text : List ℕ) (p : ℕ) → position (λ (b : ℕ). eqb b 32) text ≡ Some p → text ≡ take p text ++ 32 ∷ drop (p + 1) text
size_split text p e =
    let other : ℕ → Bool = λ b. not (eqb b 32) in
    let place = prefix_len other text in
    let there = place_found (ltb place (length text)) place p e in
    let lt : place < length text = ltb-true place (length text) there.0 in
    let space : get_or text place 0 ≡ 32 = eqb-true _ _ (not-false _ (prefix_len_stops other text 0 lt)) in
    let cut : text ≡ take place text ++ 32 ∷ drop (place + 1) text =
    sym (take-append-drop place text) ∙ ap (λ (t : List ℕ). take place text ++ t) (drop-cons text place 0 lt ∙ (λ i. space i ∷ drop (sym (add-one place) i) text)) in
    cut ∙ ap (λ (n : ℕ). take n text ++ 32 ∷ drop (n + 1) text) there.1

size_told : (text : List ℕ) (r : Option ℕ) (a : Act) → position (λ (b : ℕ). eqb b 32) text ≡ r → size_at r text ≡ Some a → ActWith kind.Size text a
size_told text None a is e = absurd cc
size_told text (Some p) a is e =
    let f = size_found (natural (integer_in (take p text))) (natural (integer_in (drop (p + 1) text))) a e in
    let rows = natural_found (take p text) f.0 f.2 in
    let cols = natural_found (drop (p + 1) text) f.1 f.3 in
    moved kind.Size text (Size f.0 f.1) a f.4 (record { same_kind = refl; has_key = tt; argument = size_split text p is ∙ (λ i. rows i ++ 32 ∷ cols i) })

pub argument_found : (k : Kind) (text : List ℕ) (a : Act) → act_of_argument k text ≡ Some a → ActWith k text a
argument_found kind.Char text a e =
    let m = mapped (λ (c : ℕ). act.Key (Char c)) (scalar_in text) a e in
    let s = scalar_found text m.0 m.1 in
    moved kind.Char text (act.Key (Char m.0)) a m.2 (record { same_kind = refl; has_key = s.0; argument = s.1 })
argument_found kind.Named text a e =
    let m = mapped act.Key (named_in named_keys text) a e in
    moved kind.Named text (act.Key m.0) a m.2 (key_told text m.0 m.1)
argument_found kind.SplitRight text a e = bare_told kind.SplitRight SplitRight text a e (λ t h. record { same_kind = refl; has_key = tt; argument = h })
argument_found kind.SplitDown text a e = bare_told kind.SplitDown SplitDown text a e (λ t h. record { same_kind = refl; has_key = tt; argument = h })
argument_found kind.Close text a e = bare_told kind.Close Close text a e (λ t h. record { same_kind = refl; has_key = tt; argument = h })
argument_found kind.Focus text a e =
    let f = focus_found (natural (integer_in text)) a e in
    moved kind.Focus text (Focus f.0) a f.2 (record { same_kind = refl; has_key = tt; argument = natural_found text f.0 f.1 })
argument_found kind.Next text a e = bare_told kind.Next Next text a e (λ t h. record { same_kind = refl; has_key = tt; argument = h })
argument_found kind.Grow text a e =
    let m = mapped Grow (integer_in text) a e in
    moved kind.Grow text (Grow m.0) a m.2 (record { same_kind = refl; has_key = tt; argument = (number_found text m.0 m.1).1 })
argument_found kind.Size text a e = size_told text (position (λ (b : ℕ). eqb b 32) text) a refl e
argument_found kind.View text a e =
    let m = mapped View (integer_in text) a e in
    moved kind.View text (View m.0) a m.2 (record { same_kind = refl; has_key = tt; argument = (number_found text m.0 m.1).1 })

ranged_found : (r : Option Act) (a : Act) → only_ranged r ≡ Some a → (r ≡ Some a) × (is_in_range a ≡ true)
ranged_found None a e = absurd cc
ranged_found (Some b) a e = by (is_in_range b) refl e
  where
    by : (t : Bool) → is_in_range b ≡ t → cond t (Some b) None ≡ Some a → (Some b ≡ Some a) × (is_in_range a ≡ true)
    by true is e = let same : b ≡ a = cc in (ap (λ (x : Act). Some x) same, sym (ap is_in_range same) ∙ is)
    by false is e = absurd cc

pub line_found : (line : List ℕ) (a : Act) → act_in line ≡ Some a → IsAct a × Spells line a
line_found line a e = by (headed_in kinds line) refl e
  where
    by : (k : Option Kind) → headed_in kinds line ≡ k → after_head k line ≡ Some a → IsAct a × Spells line a
    by None is e = absurd cc
    by (Some k) is e =
        let text = drop (length (head_of k)) line in
        let r = ranged_found (act_of_argument k text) a e in
        let t = argument_found k text a r.0 in
        ((has_range a r.1, t.has_key), (text, head_found line k is ∙ ap (λ (x : Kind). head_of x ++ text) (sym t.same_kind), t.argument))

-- ---- laws

pub one_act : (line : List ℕ) (a b : Act) → IsAct a → IsAct b → Spells line a → Spells line b → a ≡ b
one_act line a b p q s t = let both : Some a ≡ Some b = sym (line_again a line p s) ∙ line_again b line q t in cc

key_written : (k : Key) → IsKey k → IsKeyArgument k (key_argument k)
key_written (Char c) is =
    let small : c < 16777216 = elim (scalar_cases c is) [ inl low ↦ omega arith | inr high ↦ omega (arith, high.1) ] in
    let num = digits_is_IsNumeral 16 false (lit≤ tt) (lit≤ tt) c (omega (arith, small)) in
    (num.0, digits_short c small, num.1)
key_written _ is = refl

pub written : (a : Act) → IsAct a → Spells (line_of a) a
written (act.Key k) is = (key_argument k, refl, key_written k is.1)
written SplitRight is = ([], refl, refl)
written SplitDown is = ([], refl, refl)
written Close is = ([], refl, refl)
written (Focus p) is = (decimal p, refl, refl)
written Next is = ([], refl, refl)
written (Grow d) is = (signed_decimal d, refl, refl)
written (Size r c) is = (decimal r ++ 32 ∷ decimal c, refl, refl)
written (View d) is = (signed_decimal d, refl, refl)

-- ---- what reading answers

pub is_found : (line : List ℕ) (r : Option Act) → r ≡ act_in line → IfOk (ok_or r BadAct) (λ a. IsAct a × Spells line a)
is_found line None e = tt
is_found line (Some a) e = line_found line a (sym e)

pub is_ranged : (line : List ℕ) (r : Option Act) → r ≡ act_in line → IfOk (ok_or r BadAct) IsInRange
is_ranged line None e = tt
is_ranged line (Some a) e = (line_found line a (sym e)).0.0

pub only_act : (line : List ℕ) (r : Option Act) → r ≡ act_in line → (a : Act) → IsAct a → Spells line a → ok_or r BadAct ≡ Ok a
only_act line r e a is s = ap (λ (x : Option Act). ok_or x BadAct) (e ∙ line_again a line is s)
