-- The digits of a parameter.
use Rattle.std.proofs.Common.{◌≡◌, ◌≢◌, ◌<◌, ◌≤◌, ◌+◌, ◌-◌, ◌*◌, ℕ, zero, suc, Bool, true, false, cond, nat_lt, min, List, [], ◌∷◌, ◌++◌, map, take, length, get_or, append_assoc, refl, sym, ap, ◌∙◌, arith}
use Rattle.std.specs.Prelude.{◌==◌}
use Rattle.std.proofs.lemmas.Bool.Decides.{nat_tests}
use Rattle.std.proofs.lemmas.Bool.{false≢true}
use Rattle.std.proofs.lemmas.List.{take_more}
use Rattle.roam_text.specs.Kinds.{kind_of, c0_kind, ascii_kind, c1_kind}
use Rattle.roam_text.specs.Log.{Sign, Character, character}
use Rattle.roam_text.specs.Functions.{AreAscii}
use Rattle.roam_text.specs.Residual.{outcome, given_in, all_of, control_sequence_from, add_digit, add_separator, step_in}
use Rattle.roam_text.specs.ShortNumbers.{IsShortNumber}
use Rattle.roam_text.specs.declared.kinds.Kind.TheVariants.{Intermediate, Digit, Colon, Separator, PrivateMarker, Upper, Lower, Delete, Graphic}
use Rattle.roam_text.specs.declared.parsers.Parser.{Parser}
use Rattle.roam_text.specs.declared.parsers.Phase.TheVariants.{InControlSequence}
use Rattle.roam_text.specs.declared.parsers.Place.{Place}
use Rattle.roam_text.specs.declared.parsers.Place.TheVariants.{Start, Parameters, Intermediates}
use Rattle.roam_text.specs.declared.parsers.Sequence.{Sequence}

lt-yes : (a b : ℕ) → a < b → nat_lt a b ≡ true
lt-yes a b h = grind (arith, nat_tests)

lt-no : (a b : ℕ) → b ≤ a → nat_lt a b ≡ false
lt-no a b h = grind (arith, nat_tests)

digit-kind : (b : ℕ) → 0x30 ≤ b → b < 0x3A → kind_of b ≡ Digit b
digit-kind b low high =
    ap (λ t. cond t (c0_kind b) (cond (nat_lt b 0x80) (ascii_kind b) (cond (nat_lt b 0xA0) (c1_kind b) Graphic))) (lt-no b 0x20 (omega arith))
    ∙ ap (λ t. cond t (ascii_kind b) (cond (nat_lt b 0xA0) (c1_kind b) Graphic)) (lt-yes b 0x80 (omega arith))
    ∙ ap (λ t. cond t (Intermediate b) (cond (nat_lt b 0x3A) (Digit b) (cond (b == 0x3A) Colon (cond (b == 0x3B) Separator (cond (nat_lt b 0x40) (PrivateMarker b) (cond (nat_lt b 0x60) (Upper b) (cond (nat_lt b 0x7F) (Lower b) Delete))))))) (lt-no b 0x30 low)
    ∙ ap (λ t. cond t (Digit b) (cond (b == 0x3A) Colon (cond (b == 0x3B) Separator (cond (nat_lt b 0x40) (PrivateMarker b) (cond (nat_lt b 0x60) (Upper b) (cond (nat_lt b 0x7F) (Lower b) Delete)))))) (lt-yes b 0x3A high)

digit-step : (place : Place) (q : Sequence) (b : ℕ) → place ≢ Intermediates → step_in place q (Digit b) ≡ add_digit q b
digit-step Start q b h = refl
digit-step Parameters q b h = refl
digit-step Intermediates q b h = absurd (h refl)

separator-step : (place : Place) (q : Sequence) → place ≢ Intermediates → step_in place q Separator ≡ add_separator q
separator-step Start q h = refl
separator-step Parameters q h = refl
separator-step Intermediates q h = absurd (h refl)

-- a digit is read
digit-read : (p : Parser) (b : ℕ) → p.phase ≡ InControlSequence → p.sequence.place ≢ Intermediates → 0x30 ≤ b → b < 0x3A
    → (rest : List Sign) → outcome p (character b ∷ rest) ≡ given_in p.phase (add_digit p.sequence b) rest
digit-read p b phase place low high rest =
    ap (λ k. outcome p (Character k b ∷ rest)) (digit-kind b low high)
    ∙ ap (λ f. given_in f p.sequence (Character (Digit b) b ∷ rest)) phase
    ∙ ap (λ q. all_of (control_sequence_from q rest)) (digit-step p.sequence.place p.sequence b place)
    ∙ sym (ap (λ f. given_in f (add_digit p.sequence b) rest) phase)

-- a separator is read
pub separator-read : (p : Parser) → p.phase ≡ InControlSequence → p.sequence.place ≢ Intermediates
    → (rest : List Sign) → outcome p (character 0x3B ∷ rest) ≡ given_in p.phase (add_separator p.sequence) rest
separator-read p phase place rest =
    ap (λ f. given_in f p.sequence (character 0x3B ∷ rest)) phase
    ∙ ap (λ q. all_of (control_sequence_from q rest)) (separator-step p.sequence.place p.sequence place)
    ∙ sym (ap (λ f. given_in f (add_separator p.sequence) rest) phase)

-- a sequence whose parameter is this number so far
abbrev pub numbered : Sequence → ℕ → Sequence
numbered q n = record q { place = Parameters; number = n }

is_late : Place → Bool
is_late Intermediates = true
is_late place = false

pub parameters-come : Parameters ≢ Intermediates
unfolding is_late
parameters-come e = absurd (false≢true (ap is_late e))

one-value : (n a m : ℕ) → n ≡ 0 → a < 10 → m ≡ a → min 9999 (10 * n + a) ≡ m
one-value n a m none few is = omega arith

two-value : (n a b m : ℕ) → n ≡ 0 → a < 10 → b < 10 → m ≡ 10 * a + b → min 9999 (10 * min 9999 (10 * n + a) + b) ≡ m
two-value n a b m none few less is = omega arith

three-value : (n a b c m : ℕ) → n ≡ 0 → a < 10 → b < 10 → c < 10 → m ≡ 10 * (10 * a + b) + c
    → min 9999 (10 * min 9999 (10 * min 9999 (10 * n + a) + b) + c) ≡ m
three-value n a b c m none few less least is = omega arith

-- the digits of a short number are read
pub short-read : (p : Parser) (digits number a b c : ℕ) → IsShortNumber digits number a b c → 0 < digits
    → p.phase ≡ InControlSequence → p.sequence.place ≢ Intermediates → p.sequence.number ≡ 0
    → (rest : List Sign) → outcome p (map character (take digits (a ∷ b ∷ c ∷ [])) ++ rest) ≡ given_in p.phase (numbered p.sequence number) rest
short-read p zero number a b c short some phase place none rest = absurd (omega (arith, some))
short-read p (suc zero) number a b c short some phase place none rest =
    let first = short.first (omega arith) in
    digit-read p a phase place first.0 first.1 rest
    ∙ ap (λ n. given_in p.phase (numbered p.sequence n) rest) (one-value p.sequence.number (a - 48) number none (omega (arith, first.0, first.1)) (short.one refl))
short-read p (suc (suc zero)) number a b c short some phase place none rest =
    let first = short.first (omega arith) in
    let second = short.second (omega arith) in
    let p1 : Parser = record p { sequence = add_digit p.sequence a } in
    digit-read p a phase place first.0 first.1 (character b ∷ rest)
    ∙ digit-read p1 b phase parameters-come second.0 second.1 rest
    ∙ ap (λ n. given_in p.phase (numbered p.sequence n) rest)
    (two-value p.sequence.number (a - 48) (b - 48) number none (omega (arith, first.0, first.1)) (omega (arith, second.0, second.1)) (short.two refl))
short-read p (suc (suc (suc zero))) number a b c short some phase place none rest =
    let first = short.first (omega arith) in
    let second = short.second (omega arith) in
    let third = short.third (omega arith) in
    let p1 : Parser = record p { sequence = add_digit p.sequence a } in
    let p2 : Parser = record p { sequence = add_digit p1.sequence b } in
    digit-read p a phase place first.0 first.1 (character b ∷ character c ∷ rest)
    ∙ digit-read p1 b phase parameters-come second.0 second.1 (character c ∷ rest)
    ∙ digit-read p2 c phase parameters-come third.0 third.1 rest
    ∙ ap (λ n. given_in p.phase (numbered p.sequence n) rest)
    (three-value p.sequence.number (a - 48) (b - 48) (c - 48) number none (omega (arith, first.0, first.1)) (omega (arith, second.0, second.1))
    (omega (arith, third.0, third.1)) (short.three refl))
short-read p (suc (suc (suc (suc n)))) number a b c short some phase place none rest =
    let few = short.few in absurd (omega (arith, few))

-- they are ASCII
pub short-ascii : (digits number a b c : ℕ) → IsShortNumber digits number a b c → AreAscii (take digits (a ∷ b ∷ c ∷ []))
short-ascii zero number a b c short = tt
short-ascii (suc zero) number a b c short =
    let first = short.first (omega arith) in (omega (arith, first.1), tt)
short-ascii (suc (suc zero)) number a b c short =
    let first = short.first (omega arith) in
    let second = short.second (omega arith) in (omega (arith, first.1), (omega (arith, second.1), tt))
short-ascii (suc (suc (suc zero))) number a b c short =
    let first = short.first (omega arith) in
    let second = short.second (omega arith) in
    let third = short.third (omega arith) in (omega (arith, first.1), (omega (arith, second.1), (omega (arith, third.1), tt)))
short-ascii (suc (suc (suc (suc n)))) number a b c short =
    let few = short.few in absurd (omega (arith, few))

append-nil : {A : Type 0} (xs : List A) → xs ++ [] ≡ xs
append-nil [] = refl
append-nil (x ∷ xs) = ap (λ l. x ∷ l) (append-nil xs)

-- the front of a list and up to three items after it
pub short-front : (xs : List ℕ) (at d : ℕ) → d ≤ 3 → at + 3 < length xs
    → take (at + d) xs ≡ take at xs ++ take d (get_or xs at 0 ∷ get_or xs (at + 1) 0 ∷ get_or xs (at + 2) 0 ∷ [])
short-front xs at zero few inside =
    let is : at + 0 ≡ at = omega arith in
    ap (λ n. take n xs) is ∙ sym (append-nil (take at xs))
short-front xs at (suc zero) few inside = take_more xs at 0 (omega arith)
short-front xs at (suc (suc zero)) few inside =
    let is : at + 2 ≡ (at + 1) + 1 = omega arith in
    ap (λ n. take n xs) is ∙ take_more xs (at + 1) 0 (omega arith)
    ∙ ap (λ l. l ++ get_or xs (at + 1) 0 ∷ []) (take_more xs at 0 (omega arith))
    ∙ append_assoc (take at xs) (get_or xs at 0 ∷ []) (get_or xs (at + 1) 0 ∷ [])
short-front xs at (suc (suc (suc zero))) few inside =
    let is : at + 3 ≡ (at + 2) + 1 = omega arith in
    ap (λ n. take n xs) is ∙ take_more xs (at + 2) 0 (omega arith)
    ∙ ap (λ l. l ++ get_or xs (at + 2) 0 ∷ []) (short-front xs at (suc (suc zero)) (omega arith) inside)
    ∙ append_assoc (take at xs) (get_or xs at 0 ∷ get_or xs (at + 1) 0 ∷ []) (get_or xs (at + 2) 0 ∷ [])
short-front xs at (suc (suc (suc (suc n)))) few inside = absurd (omega (arith, few))
