-- The results of a first look at a rendition.
use Rattle.std.proofs.Common.{◌≡◌, ◌≤◌, ◌<◌, ◌+◌, ℕ, zero, suc, Bool, true, false, cond, nat_lt, List, [], ◌∷◌, ◌++◌, length, take, drop, refl, sym, ap, ◌∙◌, arith, append_assoc}
use Rattle.std.specs.Prelude.{⊤, ◌==◌, ◌||◌, ◌&&◌, slice_index}
use Rattle.std.proofs.lemmas.List.{append-nil, length-take-le, take_more}
use Rattle.roam_normalize.specs.declared.meanings.Kind.TheVariants.{AsItStands, Columns, Rendition}
use Rattle.roam_normalize.specs.Meanings.{are_numbers, are_parameters, has_columns, has_three, kind_of}
use Rattle.roam_normalize.specs.Normalized.{is_body, is_final}
use Rattle.roam_normalize.specs.Found.{is_plain}
use Rattle.std.proofs.lemmas.Bool.Decides.{nat_tests}
use Rattle.roam_normalize.specs.declared.renditions.Field.{Field}
use Rattle.roam_normalize.specs.declared.renditions.Field.TheVariants.{Plain, Colour, LineColour, NoLineColour, Parted}
use Rattle.roam_normalize.specs.Renditions.{count_of, fields_length, first_field, first_kind, group_length, has_lines, has_lines_from, is_changed, is_of_lines, is_pair, may_change, most_semicolons, number_kind, two_kind, whole_kind, without_zeros}

-- neither 58 nor 59 in any number
abbrev NoPair : List ℕ → Type 0
NoPair [] = ⊤
NoPair (a ∷ []) = ⊤
NoPair (a ∷ b ∷ rest) = (is_pair a b ≡ false) × NoPair (b ∷ rest)

no-pair-behind : (a : ℕ) (rest : List ℕ) → NoPair (a ∷ rest) → NoPair rest
no-pair-behind a [] h = tt
no-pair-behind a (b ∷ rest) h = h.1

no-pair-left : (n : ℕ) (bytes : List ℕ) → NoPair bytes → NoPair (drop n bytes)
no-pair-left zero bytes h = h
no-pair-left (suc n) [] h = h
no-pair-left (suc n) (b ∷ rest) h = no-pair-left n rest (no-pair-behind b rest h)

-- two characters that are no such pair begin no colour of lines
two-plain : (p q r s t u : Bool) → (r && (t || u)) ≡ false
    → is_of_lines (cond ((p || q) && s) Colour (cond (r && t) LineColour (cond (r && u) NoLineColour Plain))) ≡ false
two-plain p q false s t u h = colour ((p || q) && s)
  where
    colour : (x : Bool) → is_of_lines (cond x Colour Plain) ≡ false
    colour true = refl
    colour false = refl
two-plain p q true s true u h = cc
two-plain p q true s false true h = cc
two-plain p q true s false false h = colour ((p || q) && s)
  where
    colour : (x : Bool) → is_of_lines (cond x Colour Plain) ≡ false
    colour true = refl
    colour false = refl

two-kind : (a b : ℕ) → is_pair a b ≡ false → is_of_lines (two_kind a b) ≡ false
two-kind a b h = two-plain (a == 0x33) (a == 0x34) (a == 0x35) (b == 0x38) (b == 0x38) (b == 0x39) h

parted : (t : Bool) (k : Field) → is_of_lines k ≡ false → is_of_lines (cond t Parted k) ≡ false
parted true k h = refl
parted false k h = h

-- a number that begins some bytes
number-kind : (n : ℕ) (bytes : List ℕ) → NoPair bytes → is_of_lines (number_kind (take n bytes)) ≡ false
number-kind zero bytes h = refl
number-kind (suc n) [] h = refl
number-kind (suc zero) (a ∷ rest) h = refl
number-kind (suc (suc n)) (a ∷ []) h = refl
number-kind (suc (suc zero)) (a ∷ b ∷ rest) h = two-kind a b h.0
number-kind (suc (suc (suc n))) (a ∷ b ∷ []) h = two-kind a b h.0
number-kind (suc (suc (suc n))) (a ∷ b ∷ c ∷ rest) h = refl

-- a field that begins some bytes
whole-kind : (n : ℕ) (bytes : List ℕ) → NoPair bytes → is_of_lines (whole_kind (take n bytes)) ≡ false
whole-kind zero bytes h = refl
whole-kind (suc n) [] h = refl
whole-kind (suc n) (b ∷ rest) h = by (b == 0x30) (whole-kind n rest (no-pair-behind b rest h))
  where
    by : (t : Bool) → is_of_lines (whole_kind (take n rest)) ≡ false
        → is_of_lines (number_kind (cond t (without_zeros (take n rest)) (b ∷ take n rest))) ≡ false
    by true behind = behind
    by false behind = number-kind (suc n) (b ∷ rest) h

first-plain : (bytes : List ℕ) → NoPair bytes → is_of_lines (first_kind bytes) ≡ false
first-plain bytes h =
    parted (nat_lt 0 (count_of 0x3A (first_field 0x3B bytes))) (whole_kind (first_field 0x3B bytes)) (whole-kind (fields_length 0x3B 1 bytes) bytes h)

and-false : (t b : Bool) → b ≡ false → (t && b) ≡ false
and-false true b h = h
and-false false b h = refl

no-lines : (n : ℕ) (bytes : List ℕ) → NoPair bytes → has_lines_from n bytes ≡ false
unfolding has_lines_from
no-lines zero bytes h = refl
no-lines (suc n) bytes h =
    ap (λ t. t || (nat_lt (group_length bytes) (length bytes) && has_lines_from n (drop (group_length bytes + 1) bytes))) (first-plain bytes h)
    ∙ and-false (nat_lt (group_length bytes) (length bytes)) (has_lines_from n (drop (group_length bytes + 1) bytes))
    (no-lines n (drop (group_length bytes + 1) bytes) (no-pair-left (group_length bytes + 1) bytes h))

-- ---- the results of a first look

record Glance (before semicolons : ℕ) (bytes : List ℕ) : Type 0 where
  colons : count_of 0x3A bytes ≡ 0
  few : semicolons + count_of 0x3B bytes ≤ most_semicolons
  pairs : NoPair (before ∷ bytes)

not-more : (a b : ℕ) → nat_lt a b ≡ false → b ≤ a
not-more a b h = grind (arith, nat_tests)

glance : (before semicolons : ℕ) (bytes : List ℕ) → may_change before semicolons bytes ≡ false → Glance before semicolons bytes
glance before semicolons [] h =
    let few = not-more most_semicolons semicolons h in
    record { colons = refl; few = omega (arith, few); pairs = tt }
glance before semicolons (b ∷ rest) h = go (b == 0x3A) refl (is_pair before b) refl (b == 0x3B) refl h (λ n e. glance b n rest e)
  where
    go : (x : Bool) → (b == 0x3A) ≡ x → (y : Bool) → is_pair before b ≡ y → (z : Bool) → (b == 0x3B) ≡ z
        → cond (x || y) true (may_change b (cond z (suc semicolons) semicolons) rest) ≡ false
        → ((n : ℕ) → may_change b n rest ≡ false → Glance b n rest) → Glance before semicolons (b ∷ rest)
    go true p y q z r h again = cc
    go false p true q z r h again = cc
    go false p false q true r h again =
        let more = again (suc semicolons) h in
        let few = more.few in
        let one : count_of 0x3B (b ∷ rest) ≡ suc (count_of 0x3B rest) = ap (λ t. cond t (suc (count_of 0x3B rest)) (count_of 0x3B rest)) r in
        record {
          colons = ap (λ t. cond t (suc (count_of 0x3A rest)) (count_of 0x3A rest)) p ∙ more.colons;
          few = omega (arith, few, one);
          pairs = (q, more.pairs);
        }
    go false p false q false r h again =
        let more = again semicolons h in
        let few = more.few in
        let one : count_of 0x3B (b ∷ rest) ≡ count_of 0x3B rest = ap (λ t. cond t (suc (count_of 0x3B rest)) (count_of 0x3B rest)) r in
        record {
          colons = ap (λ t. cond t (suc (count_of 0x3A rest)) (count_of 0x3A rest)) p ∙ more.colons;
          few = omega (arith, few, one);
          pairs = (q, more.pairs);
        }

lt-no : (a b : ℕ) → b ≤ a → nat_lt a b ≡ false
lt-no a b h = grind (arith, nat_tests)

-- without any of these a rendition hasn't to be spelled out
pub unchanged : (bytes : List ℕ) → may_change 0 0 bytes ≡ false → false ≡ is_changed bytes
unfolding has_lines
unchanged bytes h =
    let g = glance 0 0 bytes h in
    let few = g.few in
    sym (ap (λ n. nat_lt 0 n || (nat_lt most_semicolons (count_of 0x3B bytes) || has_lines bytes)) g.colons
    ∙ ap (λ t. t || has_lines bytes) (lt-no most_semicolons (count_of 0x3B bytes) (omega (arith, few)))
    ∙ no-lines (suc (length bytes)) bytes (no-pair-behind 0 bytes g.pairs))

-- ---- byte by byte

plain-colon : (b : ℕ) → is_plain b ≡ true → (b == 0x3A) ≡ false
plain-colon b h = grind (arith, nat_tests)

pub plain-low : (b : ℕ) → is_plain b ≡ true → b < 0x3C
plain-low b h = grind (arith, nat_tests)

pub plain-body : (b : ℕ) → is_plain b ≡ true → is_body b ≡ true
plain-body b h = grind (arith, nat_tests)

pub final-no-body : (b : ℕ) → is_final b ≡ true → is_body b ≡ false
final-no-body b h = grind (arith, nat_tests)

pub glance-on : (rest : List ℕ) (at before semicolons next : ℕ) → at < length rest → is_plain (slice_index rest at) ≡ true → is_pair before (slice_index rest at) ≡ false
    → next ≡ cond (slice_index rest at == 0x3B) (suc semicolons) semicolons
    → ((more : List ℕ) → may_change 0 0 (take at rest ++ more) ≡ may_change before semicolons more)
    → (more : List ℕ) → may_change 0 0 (take (at + 1) rest ++ more) ≡ may_change (slice_index rest at) next more
glance-on rest at before semicolons next less plain pair count so_far more =
    let b = slice_index rest at in
    ap (λ l. may_change 0 0 (l ++ more)) (take_more rest at 0 less)
    ∙ ap (may_change 0 0) (append_assoc (take at rest) (b ∷ []) more)
    ∙ so_far (b ∷ more)
    ∙ ap (λ t. cond (t || is_pair before b) true (may_change b (cond (b == 0x3B) (suc semicolons) semicolons) more)) (plain-colon b plain)
    ∙ ap (λ t. cond t true (may_change b (cond (b == 0x3B) (suc semicolons) semicolons) more)) pair
    ∙ sym (ap (λ n. may_change b n more) count)

pub glance-end : (rest : List ℕ) (at before semicolons : ℕ) → semicolons ≤ most_semicolons
    → ((more : List ℕ) → may_change 0 0 (take at rest ++ more) ≡ may_change before semicolons more) → may_change 0 0 (take at rest) ≡ false
glance-end rest at before semicolons few so_far =
    ap (may_change 0 0) (sym (append-nil (take at rest))) ∙ so_far [] ∙ lt-no most_semicolons semicolons few

not-mark : (b : ℕ) → b < 0x3C → (b == 0x3F) ≡ false
not-mark b h = grind (arith, nat_tests)

-- digits and semicolons without special cases keep their meaning
pub kind-plain : (body : List ℕ) (last : ℕ) → 0 < length body → slice_index body 0 < 0x3C → may_change 0 0 body ≡ false → AsItStands ≡ kind_of body last
kind-plain [] last some low glance = absurd (omega (arith, some))
kind-plain (b ∷ body) last some low glance =
    let columns : has_columns (b ∷ body) ≡ false = ap (λ t. t && (are_numbers body && has_three true body)) (not-mark b low) in
    let changed : is_changed (b ∷ body) ≡ false = sym (unchanged (b ∷ body) glance) in
    let first : ((last == 0x68 || last == 0x6C) && has_columns (b ∷ body)) ≡ false = and-false (last == 0x68 || last == 0x6C) (has_columns (b ∷ body)) columns in
    let second : (last == 0x6D && (are_parameters (b ∷ body) && is_changed (b ∷ body))) ≡ false =
    and-false (last == 0x6D) (are_parameters (b ∷ body) && is_changed (b ∷ body)) (and-false (are_parameters (b ∷ body)) (is_changed (b ∷ body)) changed) in
    sym (ap (λ t. cond t Columns (cond (last == 0x6D && (are_parameters (b ∷ body) && is_changed (b ∷ body))) Rendition AsItStands)) first
    ∙ ap (λ t. cond t Rendition AsItStands) second)

first-of-take : (n : ℕ) (rest : List ℕ) → 0 < n → slice_index (take n rest) 0 ≡ slice_index rest 0
first-of-take zero rest some = absurd (omega (arith, some))
first-of-take (suc n) [] some = refl
first-of-take (suc n) (b ∷ rest) some = refl

pub kind-of-front : (count : ℕ) (rest : List ℕ) → 0 < count → count < length rest → slice_index rest 0 < 0x3C → may_change 0 0 (take count rest) ≡ false
    → AsItStands ≡ kind_of (take count rest) (slice_index rest count)
kind-of-front count rest some less low glance =
    let long : length (take count rest) ≡ count = length-take-le count rest (omega (arith, less)) in
    let same = first-of-take count rest some in
    kind-plain (take count rest) (slice_index rest count) (omega (arith, some, long)) (omega (arith, low, same)) glance

pub count-le : (t : Bool) (n s most : ℕ) → n ≡ cond t (suc s) s → s ≤ most → n ≤ most + 1
count-le true n s most e few = omega (arith, e, few)
count-le false n s most e few = omega (arith, e, few)

pub first-low : (rest : List ℕ) (at : ℕ) → is_plain (slice_index rest at) ≡ true → (0 < at → slice_index rest 0 < 0x3C) → slice_index rest 0 < 0x3C
first-low rest zero plain before = plain-low (slice_index rest 0) plain
first-low rest (suc at) plain before = before (omega arith)
