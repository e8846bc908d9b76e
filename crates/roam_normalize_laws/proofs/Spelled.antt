-- Spelled-out renditions set, group by group, the style that all parameters set.
use Rattle.std.proofs.Common.{◌≡◌, ◌≢◌, ◌⊎◌, ◌≤◌, ◌<◌, ◌+◌, ◌-◌, ℕ, zero, suc, Bool, true, false, cond, nat_lt, List, [], ◌∷◌, ◌++◌, length, map, take, drop, take_all, length-drop, refl, sym, ap, ◌∙◌, arith, subst, inl, inr}
use Rattle.std.specs.Prelude.{◌==◌, ◌||◌}
use Rattle.std.specs.List.{fold}
use Rattle.std.proofs.lemmas.Bool.Decides.{nat_tests}
use Rattle.roam_cells.specs.declared.styles.Style.{Style}
use Rattle.roam_text.specs.ControlSequences.{capped_value, first_sixteen}
use Rattle.roam_controls.specs.declared.renditions.Awaited.TheVariants.{Aspect}
use Rattle.roam_controls.specs.Renditions.{Rendition, styled_by, with_parameter}
use Rattle.roam_normalize.specs.declared.renditions.Field.TheVariants.{Plain, Colour, LineColour, NoLineColour, Parted}
use Rattle.roam_normalize.specs.Renditions.{after_field, fields_length, first_field, first_kind, group_length, group_size, group_text, next_field, rendition, spelled_from, spelled_out, whole_kind}
use Rattle.roam_normalize_laws.specs.Sense.{AreKnown, Sets, SpelledOutMeansTheSame, parameters_of, styled_so}
use Rattle.roam_normalize_laws.proofs.Fields.{Numbers, all-fields, digits, digits-some, drop-fields, end-fields, first-digits, first-is, no-colons, numbers, numbers-left, take-fields}
use Rattle.roam_normalize_laws.proofs.Values.{kind-is, kind_by, together-is, together_by, value}
use Rattle.roam_normalize_laws.proofs.Styles.{after, aspect-ends, few-kept, index-group, mixture-group, other-kept, splits, start}

map-take : (n : ℕ) (ds : List (List ℕ)) → map capped_value (take n ds) ≡ take n (map capped_value ds)
map-take zero ds = refl
map-take (suc n) [] = refl
map-take (suc n) (d ∷ ds) = ap (λ l. capped_value d ∷ l) (map-take n ds)

map-drop : (n : ℕ) (ds : List (List ℕ)) → map capped_value (drop n ds) ≡ drop n (map capped_value ds)
map-drop zero ds = refl
map-drop (suc n) [] = refl
map-drop (suc n) (d ∷ ds) = map-drop n ds

map-length : (ds : List (List ℕ)) → length (map capped_value ds) ≡ length ds
map-length [] = refl
map-length (d ∷ ds) = ap suc (map-length ds)

lt-yes : (a b : ℕ) → a < b → nat_lt a b ≡ true
lt-yes a b h = grind (arith, nat_tests)

lt-true : (a b : ℕ) → nat_lt a b ≡ true → a < b
lt-true a b h = grind (arith, nat_tests)

lt-false : (a b : ℕ) → nat_lt a b ≡ false → b ≤ a
lt-false a b h = grind (arith, nat_tests)

drop-past : {X : Type 0} (n : ℕ) (xs : List X) → length xs ≤ n → drop n xs ≡ []
drop-past zero [] h = refl
drop-past (suc n) [] h = refl
drop-past zero (x ∷ xs) h = absurd (omega (arith, h))
drop-past (suc n) (x ∷ xs) h = drop-past n xs (omega (arith, h))

known-behind : (n : ℕ) (ps : List ℕ) (r : Rendition) → AreKnown r ps → AreKnown (fold with_parameter r (take n ps)) (drop n ps)
known-behind zero ps r h = h
known-behind (suc n) [] r h = tt
known-behind (suc n) (p ∷ ps) r h = known-behind n ps (with_parameter r p) h.1

-- behind parameters that end an aspect
known-left : (n : ℕ) (ps : List ℕ) (g : Style) → AreKnown (start g) ps → (after g (take n ps)).awaited ≡ Aspect
    → AreKnown (start (styled_by (take n ps) g)) (drop n ps)
known-left n ps g h is =
    subst (λ a. AreKnown (record { style = (after g (take n ps)).style; awaited = a }) (drop n ps)) is (known-behind n ps (start g) h)

-- the first parameter, and those behind it
first-parameter : (body : List ℕ) → Numbers body → parameters_of body ≡ value (first_field 0x3B body) ∷ drop 1 (parameters_of body)
first-parameter body h = by (digits body) (digits-some body h) (first-is body h)
  where
    by : (ds : List (List ℕ)) → 0 < length ds → take 1 ds ≡ map (λ b. b - 0x30) (first_field 0x3B body) ∷ []
        → map capped_value ds ≡ value (first_field 0x3B body) ∷ drop 1 (map capped_value ds)
    by [] some is = absurd (omega (arith, some))
    by (d ∷ ds) some is = ap (λ l. map capped_value l ++ map capped_value ds) is

-- the second one is 0 if there is none
record Second (body : List ℕ) : Type 0 where
  digits_there : Rattle.roam_normalize_laws.proofs.Fields.Digits (next_field body)
  is : (drop 1 (parameters_of body) ≡ []) ⊎ (drop 1 (parameters_of body) ≡ value (next_field body) ∷ drop 2 (parameters_of body))

second-parameter : (body : List ℕ) → Numbers body → Second body
second-parameter body h = record {
  digits_there = first-digits (after_field 0x3B body) (numbers-left (fields_length 0x3B 1 body + 1) body h);
  is = by (nat_lt (fields_length 0x3B 1 body) (length body)) refl;
}
  where
    behind : List ℕ
    behind = after_field 0x3B body

    drop-one : (ps : List ℕ) → drop 1 (drop 1 ps) ≡ drop 2 ps
    drop-one [] = refl
    drop-one (p ∷ ps) = refl

    by : (t : Bool) → nat_lt (fields_length 0x3B 1 body) (length body) ≡ t
        → (drop 1 (parameters_of body) ≡ []) ⊎ (drop 1 (parameters_of body) ≡ value (next_field body) ∷ drop 2 (parameters_of body))
    by true less =
        let rest : parameters_of behind ≡ drop 1 (parameters_of body) =
        ap (map capped_value) (drop-fields 0 body h (lt-true (fields_length 0x3B 1 body) (length body) less)) ∙ map-drop 1 (digits body) in
        inr (sym rest ∙ first-parameter behind (numbers-left (fields_length 0x3B 1 body + 1) body h)
        ∙ ap (λ l. value (next_field body) ∷ l) (ap (drop 1) rest ∙ drop-one (parameters_of body)))
    by false more =
        let few = end-fields 0 body h (lt-false (fields_length 0x3B 1 body) (length body) more) in
        let long = map-length (digits body) in
        inl (drop-past 1 (parameters_of body) (omega (arith, few, long)))

-- ---- one group, and what follows it

module _ (n : ℕ) (body : List ℕ) (g : Style) (nums : Numbers body) (known : AreKnown (start g) (parameters_of body)) (fuel : length body < suc n)
    (again : (rest : List ℕ) (h : Style) → length rest < n → Numbers rest → length rest ≤ length body → AreKnown (start h) (parameters_of rest)
    → Sets (spelled_from n rest) h (styled_by (parameters_of rest) h)) where
  abbrev ps : List ℕ
  ps = parameters_of body

  abbrev group : List ℕ
  group = take (group_length body) body

  abbrev rest : List ℕ
  rest = drop (group_length body + 1) body

  group-sets : (k : ℕ) → group_text (first_kind body) group ≡ rendition group → group_length body ≡ fields_length 0x3B (suc k) body
      → (fields_length 0x3B (suc k) body < length body → (suc k ≤ 16) × ((after g (take (suc k) ps)).awaited ≡ Aspect))
      → (length ps ≤ suc k → styled_by (first_sixteen ps) g ≡ styled_by ps g)
      → Sets (spelled_from (suc n) body) g (styled_by ps g)
  unfolding spelled_from
  group-sets k text size goes_on ends = by (nat_lt (group_length body) (length body)) refl
    where
      group-parameters : parameters_of group ≡ take (suc k) ps
      group-parameters =
          ap (λ l. parameters_of (take l body)) size ∙ ap (map capped_value) (take-fields k body nums) ∙ map-take (suc k) (digits body)

      by : (t : Bool) → nat_lt (group_length body) (length body) ≡ t
          → Sets (group_text (first_kind body) group ++ cond t (spelled_from n rest) []) g (styled_by ps g)
      by true less =
          let under = lt-true (group_length body) (length body) less in
          let inside : fields_length 0x3B (suc k) body < length body = subst (λ l. l < length body) size under in
          let facts = goes_on inside in
          let left : parameters_of rest ≡ drop (suc k) ps =
          ap (λ l. parameters_of (drop (l + 1) body)) size
          ∙ ap (map capped_value) (drop-fields k body nums inside) ∙ map-drop (suc k) (digits body) in
          let short = length-drop (group_length body + 1) body in
          let first : styled_so g group ≡ styled_by (take (suc k) ps) g =
          ap (λ l. styled_by (first_sixteen l) g) group-parameters
          ∙ ap (λ l. styled_by l g) (few-kept (take (suc k) ps) (taken-few (suc k) ps facts.0)) in
          let knows = subst (λ s. AreKnown (start s) (parameters_of rest)) (sym first)
          (subst (AreKnown (start (styled_by (take (suc k) ps) g))) (sym left) (known-left (suc k) ps g known facts.1)) in
          let more = again rest (styled_so g group) (omega (arith, short, under, fuel)) (numbers-left (group_length body + 1) body nums)
          (omega (arith, short)) knows in
          record {
            groups = group ∷ more.groups;
            is = ap (λ l. l ++ spelled_from n rest) text ∙ ap (λ l. rendition group ++ l) more.is;
            style = more.style ∙ ap (λ l. styled_by l (styled_so g group)) left ∙ ap (styled_by (drop (suc k) ps)) first
                ∙ sym (splits (suc k) ps g facts.1);
          }
        where
          taken-few : (m : ℕ) (l : List ℕ) → m ≤ 16 → length (take m l) ≤ 16
          taken-few zero l h = omega arith
          taken-few (suc m) [] h = omega arith
          taken-few (suc m) (x ∷ l) h = let more = few-taken m l in omega (arith, more, h)
            where
              few-taken : (m : ℕ) (l : List ℕ) → length (take m l) ≤ m
              few-taken zero l = omega arith
              few-taken (suc m) [] = omega arith
              few-taken (suc m) (x ∷ l) = let more = few-taken m l in omega (arith, more)
      by false over =
          let whole = lt-false (group_length body) (length body) over in
          let few : length ps ≤ suc k =
          subst (λ l. l ≤ suc k) (sym (map-length (digits body)))
          (end-fields k body nums (subst (λ l. length body ≤ l) size whole)) in
          record {
            groups = group ∷ [];
            is = ap (λ l. l ++ []) text;
            style = ap (λ l. styled_by (first_sixteen l) g) (group-parameters ∙ take_all (suc k) ps few) ∙ ends few;
          }

  few-ends : (k : ℕ) → suc k ≤ 16 → length ps ≤ suc k → styled_by (first_sixteen ps) g ≡ styled_by ps g
  few-ends k low few = ap (λ l. styled_by l g) (few-kept ps (omega (arith, low, few)))

  kind : first_kind body ≡ kind_by (value (first_field 0x3B body))
  kind =
      ap (λ c. cond (nat_lt 0 c) Parted (whole_kind (first_field 0x3B body))) (no-colons (first_field 0x3B body) (first-digits body nums))
      ∙ kind-is (first_field 0x3B body) (first-digits body nums)

  abbrev p : ℕ
  p = value (first_field 0x3B body)

  abbrev q : ℕ
  q = value (next_field body)

  goes-length : (k : ℕ) → fields_length 0x3B (suc k) body < length body → suc k < length ps
  goes-length k less =
      let some = digits-some (drop (fields_length 0x3B (suc k) body + 1) body) (numbers-left (fields_length 0x3B (suc k) body + 1) body nums) in
      let same = ap length (drop-fields k body nums less) in
      let long = length-drop (suc k) (digits body) in
      let all = map-length (digits body) in
      omega (arith, some, same, long, all)

  plain-sets : first_kind body ≡ Plain → (p == 38 || p == 48) ≡ false → Sets (spelled_from (suc n) body) g (styled_by ps g)
  plain-sets is other =
      group-sets 0 (ap (λ k. group_text k group) is) (ap (λ k. fields_length 0x3B (group_size k (next_field body)) body) is)
      (λ less. (omega arith, ap (λ l. (after g (take 1 l)).awaited) (first-parameter body nums) ∙ aspect-ends p g other))
      (few-ends 0 (omega arith))

  -- two parameters and more
  two : drop 1 ps ≡ q ∷ drop 2 ps → ps ≡ p ∷ q ∷ drop 2 ps
  two is = first-parameter body nums ∙ ap (λ l. p ∷ l) is

  colour-sets : (length body ≤ 255) → first_kind body ≡ Colour → (p == 38 || p == 48) ≡ true → Sets (spelled_from (suc n) body) g (styled_by ps g)
  colour-sets short is colour = by (q == 5) refl (q == 2) refl
    where
      next : Second body
      next = second-parameter body nums

      size : (k : ℕ) → together_by 256 q ≡ k → group_length body ≡ fields_length 0x3B k body
      size k same =
          ap (λ c. fields_length 0x3B (group_size c (next_field body)) body) is
          ∙ ap (λ m. fields_length 0x3B m body) (together-is 256 (next_field body) next.digits_there ∙ same)

      text : group_text (first_kind body) group ≡ rendition group
      text = ap (λ k. group_text k group) is

      both : (k : ℕ) → 1 < suc k → fields_length 0x3B (suc k) body < length body → ps ≡ p ∷ q ∷ drop 2 ps
      both k some less = from next.is
        where
          from : (drop 1 ps ≡ []) ⊎ (drop 1 ps ≡ q ∷ drop 2 ps) → ps ≡ p ∷ q ∷ drop 2 ps
          from (inl none) =
              let long = goes-length k less in
              let left = length-drop 1 ps in
              let empty = ap length none in absurd (omega (arith, some, long, left, empty))
          from (inr is_there) = two is_there

      eq-yes : (a b : ℕ) → (a == b) ≡ true → a ≡ b
      eq-yes a b h = grind (arith, nat_tests)

      three : (i : List ℕ) (l : List ℕ) → l ≡ p ∷ q ∷ i → 3 < length l → q ≡ 5 → (after g (take 3 l)).awaited ≡ Aspect
      three [] l same long five = let n = ap length same in absurd (omega (arith, long, n))
      three (i ∷ more) l same long five =
          ap (λ m. (after g (take 3 m)).awaited) (same ∙ ap (λ c. p ∷ c ∷ i ∷ more) five) ∙ index-group p i g colour

      five-of : (i : List ℕ) (l : List ℕ) → l ≡ p ∷ q ∷ i → 5 < length l → q ≡ 2 → (after g (take 5 l)).awaited ≡ Aspect
      five-of [] l same long two_is = let n = ap length same in absurd (omega (arith, long, n))
      five-of (r ∷ []) l same long two_is = let n = ap length same in absurd (omega (arith, long, n))
      five-of (r ∷ e ∷ []) l same long two_is = let n = ap length same in absurd (omega (arith, long, n))
      five-of (r ∷ e ∷ b ∷ more) l same long two_is =
          ap (λ m. (after g (take 5 m)).awaited) (same ∙ ap (λ c. p ∷ c ∷ r ∷ e ∷ b ∷ more) two_is) ∙ mixture-group p r e b g colour

      one-kept : drop 1 ps ≡ [] → styled_by (first_sixteen ps) g ≡ styled_by ps g
      one-kept none =
          let left = length-drop 1 ps in
          let empty = ap length none in ap (λ l. styled_by l g) (few-kept ps (omega (arith, left, empty)))

      rest-kept : (q == 5) ≡ false → (q == 2) ≡ false → styled_by (first_sixteen ps) g ≡ styled_by ps g
      rest-kept no_five no_two = from next.is
        where
          from : (drop 1 ps ≡ []) ⊎ (drop 1 ps ≡ q ∷ drop 2 ps) → styled_by (first_sixteen ps) g ≡ styled_by ps g
          from (inl none) = one-kept none
          from (inr is_there) =
              subst (λ l. styled_by (first_sixteen l) g ≡ styled_by l g) (sym (two is_there))
              (other-kept p q (drop 2 ps) g colour no_five no_two)

      by : (x : Bool) → (q == 5) ≡ x → (y : Bool) → (q == 2) ≡ y → Sets (spelled_from (suc n) body) g (styled_by ps g)
      by true five y e =
          group-sets 2 text (size 3 (ap (λ t. cond t 3 (cond (q == 2) 5 256)) five))
          (λ less. (omega arith, three (drop 2 ps) ps (both 2 (omega arith) less) (goes-length 2 less) (eq-yes q 5 five))) (few-ends 2 (omega arith))
      by false five true e =
          group-sets 4 text (size 5 (ap (λ t. cond t 3 (cond (q == 2) 5 256)) five ∙ ap (λ t. cond t 5 256) e))
          (λ less. (omega arith, five-of (drop 2 ps) ps (both 4 (omega arith) less) (goes-length 4 less) (eq-yes q 2 e))) (few-ends 4 (omega arith))
      by false five false e =
          let all = all-fields 255 body nums short in
          group-sets 255 text (size 256 (ap (λ t. cond t 3 (cond (q == 2) 5 256)) five ∙ ap (λ t. cond t 5 256) e))
          (λ less. absurd (omega (arith, less, all))) (λ few. rest-kept five e)

  sets-by : length body ≤ 255 → Sets (spelled_from (suc n) body) g (styled_by ps g)
  sets-by short = by (p == 38 || p == 48) refl
    where
      eq-no : (a b : ℕ) → a ≢ b → (a == b) ≡ false
      eq-no a b h = grind (arith, nat_tests)

      known_first : AreKnown (start g) (p ∷ drop 1 ps)
      known_first = subst (AreKnown (start g)) (first-parameter body nums) known

      selects : (p ≢ 58) × (p ≢ 59)
      selects = known_first.0 refl

      by : (t : Bool) → (p == 38 || p == 48) ≡ t → Sets (spelled_from (suc n) body) g (styled_by ps g)
      by true is = colour-sets short (kind ∙ ap (λ t. cond t Colour (cond (p == 58) LineColour (cond (p == 59) NoLineColour Plain))) is) is
      by false is =
          plain-sets (kind ∙ ap (λ t. cond t Colour (cond (p == 58) LineColour (cond (p == 59) NoLineColour Plain))) is
          ∙ ap (λ t. cond t LineColour (cond (p == 59) NoLineColour Plain)) (eq-no p 58 selects.0)
          ∙ ap (λ t. cond t NoLineColour Plain) (eq-no p 59 selects.1)) is

spelled : (n : ℕ) (body : List ℕ) (g : Style) → length body < n → Numbers body → length body ≤ 255 → AreKnown (start g) (parameters_of body)
    → Sets (spelled_from n body) g (styled_by (parameters_of body) g)
spelled zero body g less nums short known = absurd (omega (arith, less))
spelled (suc n) body g less nums short known =
    sets-by n body g nums known less (λ rest h l m s k. spelled n rest h l m (omega (arith, s, short)) k) short

pub spelled-means : SpelledOutMeansTheSame
unfolding spelled_out
spelled-means body g short are known = spelled (suc (length body)) body g (omega arith) (numbers body are) short known
