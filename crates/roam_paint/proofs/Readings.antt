-- The functions that a terminal's reader makes of the painter's sequences, character by character.
use Rattle.std.proofs.Common.{◌≡◌, ◌≤◌, ◌<◌, ℕ, ◌+◌, ◌-◌, ◌*◌, ◌%◌, ◌^◌, min, true, false, ◌&&◌, cond, ltb, inl, inr, List, [], ◌∷◌, ◌++◌, map, length, take, take_all, Option, Some, None, refl, sym, ap, ◌∙◌, arith, append_assoc}
use Rattle.std.specs.Prelude.{⊤, decimal}
use Rattle.std.specs.List.{flat_map}
use Rattle.std.specs.Char.{encode_utf8, IsScalar}
use Rattle.std.specs.Str.{encode_utf8_all}
use Rattle.std.proofs.Math.Utf8.{scalars, low_scalar}
use Rattle.std.proofs.lemmas.List.{append-nil, map-append}
use Rattle.std.proofs.lemmas.Fmt.{decimal_by_steps}
use Rattle.std.proofs.lemmas.Str.{encode_ascii}
use Rattle.std.proofs.lemmas.Bool.{false≢true, lt-ltb, le-ltb, lt-leb, cases_lt}
use Rattle.unicode_width.specs.Width.{char_width}
use Rattle.roam_text.specs.declared.kinds.Kind.{Kind}
use Rattle.roam_text.specs.declared.kinds.Kind.TheVariants.{Digit, Separator, PrivateMarker, Graphic}
use Rattle.roam_text.specs.declared.functions.Function.{Function}
use Rattle.roam_text.specs.declared.functions.Function.TheVariants.{Print}
use Rattle.roam_text.specs.Kinds.{kind_of, c0_kind, ascii_kind, c1_kind}
use Rattle.roam_text.specs.Log.{Sign, Character, character}
use Rattle.roam_text.specs.Inside.{Front, front_while, rest_while, acts}
use Rattle.roam_text.specs.ControlSequences.{Header, in_control_sequence, body_of, with_digit, digits_of_parameters, number_from, capped_value, is_numeric, kinds_while, kinds_after, intermediates, header, header_after, with_inter, first_sixteen, control_sequence_function, end_control_sequence, behind, control_sequence}
use Rattle.roam_text.specs.Functions.{functions}
use Rattle.roam_text.proofs.Fronts.{functions-step}
use Rattle.roam_text.proofs.Entries.{functions-plain, functions-graphic}
use Rattle.roam_paint.specs.Sequences.{parameter_text, spelling_of}
use Rattle.roam_term.specs.ControlFunctions.{csi}

-- ---- digits

abbrev less : ℕ → ℕ
less b = b - 48

abbrev AreDigits : List ℕ → Type 0
AreDigits [] = ⊤
AreDigits (b ∷ bs) = (48 ≤ b) × (b < 58) × AreDigits bs

digits-more : (ds : List ℕ) (b : ℕ) → AreDigits ds → 48 ≤ b → b < 58 → AreDigits (ds ++ b ∷ [])
digits-more [] b h low high = (low, high, tt)
digits-more (d ∷ ds) b h low high = (h.0, h.1, digits-more ds b h.2 low high)

number-more : (n : ℕ) (ds : List ℕ) (d : ℕ) → number_from n (ds ++ d ∷ []) ≡ 10 * number_from n ds + d
number-more n [] d = refl
number-more n (x ∷ ds) d = number-more (10 * n + x) ds d

decimal-digits : (n : ℕ) → n < 2 ^ 64 → AreDigits (decimal n)
decimal-digits n h = decimal_by_steps (λ n ds. AreDigits ds) (λ n k. (omega arith, omega (arith, k), tt)) (λ n ds k e. digits-more ds (48 + n % 10) e (omega arith) (omega arith)) n h

decimal-number : (n : ℕ) → n < 2 ^ 64 → number_from 0 (map less (decimal n)) ≡ n
decimal-number n h =
    decimal_by_steps (λ n ds. number_from 0 (map less ds) ≡ n)
    (λ n k. omega arith)
    (λ n ds k e.
    let last : less (48 + n % 10) ≡ n % 10 = omega arith in
    ap (number_from 0) (map-append less ds ((48 + n % 10) ∷ [])) ∙ number-more 0 (map less ds) (less (48 + n % 10)) ∙ omega (arith, e, last)) n h

digit_ascii : (b : ℕ) → 48 ≤ b → b < 58 → ascii_kind b ≡ Digit b
digit_ascii b low high = rw (le-ltb b 0x30 low, lt-ltb b 0x3A high) refl

digit_kind : (b : ℕ) → 48 ≤ b → b < 58 → kind_of b ≡ Digit b
digit_kind b low high =
    ap (λ t. cond t (c0_kind b) (cond (ltb b 0x80) (ascii_kind b) (cond (ltb b 0xA0) (c1_kind b) Graphic))) (le-ltb b 0x20 (omega (arith, low)))
    ∙ ap (λ t. cond t (ascii_kind b) (cond (ltb b 0xA0) (c1_kind b) Graphic)) (lt-ltb b 0x80 (omega (arith, high)))
    ∙ digit_ascii b low high

-- ---- the body of a control sequence

abbrev pub AreNumeric : List ℕ → Type 0
AreNumeric [] = ⊤
AreNumeric (b ∷ bs) = (is_numeric (kind_of b) ≡ true) × (b < 128) × AreNumeric bs

numeric-append : (xs ys : List ℕ) → AreNumeric xs → AreNumeric ys → AreNumeric (xs ++ ys)
numeric-append [] ys h k = k
numeric-append (x ∷ xs) ys h k = (h.0, h.1, numeric-append xs ys h.2 k)

numeric-digits : (ds : List ℕ) → AreDigits ds → AreNumeric ds
numeric-digits [] h = tt
numeric-digits (d ∷ ds) h =
    let low = h.0 in
    let high = h.1 in
    (ap is_numeric (digit_kind d low high), omega (arith, high), numeric-digits ds h.2)

numeric-inside : (k : Kind) (c : ℕ) → is_numeric k ≡ true → in_control_sequence (Character k c) ≡ true
numeric-inside (Digit b) c h = refl
numeric-inside Separator c h = refl
numeric-inside k c h = absurd (false≢true h)

numeric-still : (k : Kind) (c : ℕ) → is_numeric k ≡ true → acts (Character k c) ≡ []
numeric-still (Digit b) c h = refl
numeric-still Separator c h = refl
numeric-still k c h = absurd (false≢true h)

numeric-body : (k : Kind) (c : ℕ) (rest : List Sign) → is_numeric k ≡ true → body_of (Character k c ∷ rest) ≡ k ∷ body_of rest
numeric-body (Digit b) c rest h = refl
numeric-body Separator c rest h = refl
numeric-body k c rest h = absurd (false≢true h)

inside-front : (bs : List ℕ) (s : Sign) (rest : List Sign) → AreNumeric bs → in_control_sequence s ≡ false → front_while in_control_sequence (map character bs ++ s ∷ rest) ≡ map character bs
inside-front [] s rest h e = ap (λ t. cond t (s ∷ front_while in_control_sequence rest) []) e
inside-front (b ∷ bs) s rest h e =
    ap (λ t. cond t (character b ∷ front_while in_control_sequence (map character bs ++ s ∷ rest)) []) (numeric-inside (kind_of b) b h.0)
    ∙ ap (λ l. character b ∷ l) (inside-front bs s rest h.2 e)

inside-rest : (bs : List ℕ) (s : Sign) (rest : List Sign) → AreNumeric bs → in_control_sequence s ≡ false → rest_while in_control_sequence (map character bs ++ s ∷ rest) ≡ s ∷ rest
inside-rest [] s rest h e = ap (λ t. cond t (rest_while in_control_sequence rest) (s ∷ rest)) e
inside-rest (b ∷ bs) s rest h e =
    ap (λ t. cond t (rest_while in_control_sequence (map character bs ++ s ∷ rest)) (character b ∷ (map character bs ++ s ∷ rest))) (numeric-inside (kind_of b) b h.0)
    ∙ inside-rest bs s rest h.2 e

inside-acts : (bs : List ℕ) → AreNumeric bs → flat_map acts (map character bs) ≡ []
inside-acts [] h = refl
inside-acts (b ∷ bs) h = ap (λ l. l ++ flat_map acts (map character bs)) (numeric-still (kind_of b) b h.0) ∙ inside-acts bs h.2

inside-body : (bs : List ℕ) → AreNumeric bs → body_of (map character bs) ≡ map kind_of bs
inside-body [] h = refl
inside-body (b ∷ bs) h = numeric-body (kind_of b) b (map character bs) h.0 ∙ ap (λ l. kind_of b ∷ l) (inside-body bs h.2)

inside-while : (bs : List ℕ) → AreNumeric bs → kinds_while is_numeric (map kind_of bs) ≡ map kind_of bs
inside-while [] h = refl
inside-while (b ∷ bs) h =
    ap (λ t. cond t (kind_of b ∷ kinds_while is_numeric (map kind_of bs)) []) h.0 ∙ ap (λ l. kind_of b ∷ l) (inside-while bs h.2)

inside-after : (bs : List ℕ) → AreNumeric bs → kinds_after is_numeric (map kind_of bs) ≡ []
inside-after [] h = refl
inside-after (b ∷ bs) h =
    ap (λ t. cond t (kinds_after is_numeric (map kind_of bs)) (kind_of b ∷ map kind_of bs)) h.0 ∙ inside-after bs h.2

header-numeric : (k : Kind) (ks : List Kind) → is_numeric k ≡ true → header (k ∷ ks) ≡ header_after None (k ∷ ks)
header-numeric (PrivateMarker b) ks h = absurd (false≢true h)
header-numeric k ks h = refl

header-plain : (bs : List ℕ) → AreNumeric bs → header (map kind_of bs) ≡ header_after None (map kind_of bs)
header-plain [] h = refl
header-plain (b ∷ bs) h = header-numeric (kind_of b) (map kind_of bs) h.0

-- ---- its numbers

split-digits : (ds : List ℕ) (tail : List Kind) (x : List ℕ) (xs : List (List ℕ)) → AreDigits ds → digits_of_parameters tail ≡ x ∷ xs → digits_of_parameters (map kind_of ds ++ tail) ≡ (map less ds ++ x) ∷ xs
split-digits [] tail x xs h e = e
split-digits (d ∷ ds) tail x xs h e =
    ap (λ k. digits_of_parameters (k ∷ (map kind_of ds ++ tail))) (digit_kind d h.0 h.1)
    ∙ ap (with_digit (d - 48)) (split-digits ds tail x xs h.2 e)

abbrev pub AreSmall : List ℕ → Type 0
AreSmall [] = ⊤
AreSmall (p ∷ ps) = (p ≤ 9999) × AreSmall ps

small : (p : ℕ) → p ≤ 9999 → p < 2 ^ 64
small p h = omega (arith, h)

abbrev numerals : List ℕ → List (List ℕ)
numerals ps = map (λ p. map less (decimal p)) ps

parameters-numeric : (p : ℕ) (ps : List ℕ) → AreSmall (p ∷ ps) → AreNumeric (parameter_text (p ∷ ps))
parameters-numeric p [] h = numeric-digits (decimal p) (decimal-digits p (small p h.0))
parameters-numeric p (q ∷ ps) h =
    numeric-append (decimal p) (0x3B ∷ parameter_text (q ∷ ps)) (numeric-digits (decimal p) (decimal-digits p (small p h.0))) (refl, omega arith, parameters-numeric q ps h.1)

parameters-split : (p : ℕ) (ps : List ℕ) → AreSmall (p ∷ ps) → digits_of_parameters (map kind_of (parameter_text (p ∷ ps))) ≡ numerals (p ∷ ps)
parameters-split p [] h =
    ap digits_of_parameters (sym (append-nil (map kind_of (decimal p)))) ∙ split-digits (decimal p) [] [] [] (decimal-digits p (small p h.0)) refl
    ∙ ap (λ l. l ∷ []) (append-nil (map less (decimal p)))
parameters-split p (q ∷ ps) h =
    ap digits_of_parameters (map-append kind_of (decimal p) (0x3B ∷ parameter_text (q ∷ ps)))
    ∙ split-digits (decimal p) (Separator ∷ map kind_of (parameter_text (q ∷ ps))) [] (numerals (q ∷ ps)) (decimal-digits p (small p h.0)) (ap (λ l. [] ∷ l) (parameters-split q ps h.1))
    ∙ ap (λ l. l ∷ numerals (q ∷ ps)) (append-nil (map less (decimal p)))

capped-number : (p : ℕ) → p ≤ 9999 → capped_value (map less (decimal p)) ≡ p
capped-number p h = ap (min 9999) (decimal-number p (small p h)) ∙ omega (arith, h)

capped-all : (ps : List ℕ) → AreSmall ps → map capped_value (numerals ps) ≡ ps
capped-all [] h = refl
capped-all (p ∷ ps) h = ap (λ x. x ∷ map capped_value (numerals ps)) (capped-number p h.0) ∙ ap (λ l. p ∷ l) (capped-all ps h.1)

unmarked-is : (mark : Option ℕ) (p : ℕ) (ps : List ℕ) → AreSmall (p ∷ ps) → length (p ∷ ps) ≤ 16
    → header_after mark (map kind_of (parameter_text (p ∷ ps))) ≡ Some (record { mark = mark; params = p ∷ ps; inter = [] })
unfolding first_sixteen
unmarked-is mark p ps h few =
    let bs = parameter_text (p ∷ ps) in
    let n = parameters-numeric p ps h in
    ap (λ ks. with_inter mark (take 16 (map capped_value (digits_of_parameters ks))) (intermediates (kinds_after is_numeric (map kind_of bs)))) (inside-while bs n)
    ∙ ap (λ ks. with_inter mark (take 16 (map capped_value (digits_of_parameters (map kind_of bs)))) (intermediates ks)) (inside-after bs n)
    ∙ ap (λ xs. with_inter mark (take 16 (map capped_value xs)) (Some [])) (parameters-split p ps h)
    ∙ ap (λ xs. with_inter mark (take 16 xs) (Some [])) (capped-all (p ∷ ps) h)
    ∙ ap (λ xs. with_inter mark xs (Some [])) (take_all 16 (p ∷ ps) few)

-- ---- a whole sequence

-- a byte that ends a control sequence
pub record IsFinal (last : ℕ) : Type 0 where
  pub out : in_control_sequence (character last) ≡ false
  pub ends : (h : Option Header) (rest : List Sign) → end_control_sequence h (character last ∷ rest) ≡ record { gives = control_sequence_function h last; left = rest }
  pub ascii : last < 128

module _ (p : ℕ) (ps : List ℕ) (last : ℕ) (rest : List Sign) (h : AreSmall (p ∷ ps)) (few : length (p ∷ ps) ≤ 16) (final : IsFinal last) where
  abbrev bs : List ℕ
  bs = parameter_text (p ∷ ps)

  abbrev body : List Sign
  body = map character bs ++ character last ∷ rest

  abbrev of_mark : Option ℕ → Option Header
  of_mark mark = Some (record { mark = mark; params = p ∷ ps; inter = [] })

  numeric : AreNumeric bs
  numeric = parameters-numeric p ps h

  reads-plain : control_sequence body ≡ record { gives = csi None (p ∷ ps) last ∷ []; left = rest }
  reads-plain =
      ap (λ l. behind (flat_map acts l) (end_control_sequence (header (body_of l)) (rest_while in_control_sequence body))) (inside-front bs (character last) rest numeric final.out)
      ∙ ap (λ l. behind (flat_map acts (map character bs)) (end_control_sequence (header (body_of (map character bs))) l)) (inside-rest bs (character last) rest numeric final.out)
      ∙ ap (λ l. behind l (end_control_sequence (header (body_of (map character bs))) (character last ∷ rest))) (inside-acts bs numeric)
      ∙ ap (λ ks. behind [] (end_control_sequence (header ks) (character last ∷ rest))) (inside-body bs numeric)
      ∙ ap (λ x. behind [] (end_control_sequence x (character last ∷ rest))) (header-plain bs numeric ∙ unmarked-is None p ps h few)
      ∙ ap (behind []) (final.ends (of_mark None) rest)

  reads-private : control_sequence (character 0x3F ∷ body) ≡ record { gives = csi (Some 0x3F) (p ∷ ps) last ∷ []; left = rest }
  reads-private =
      ap (λ l. behind (flat_map acts (character 0x3F ∷ l)) (end_control_sequence (header (body_of (character 0x3F ∷ l))) (rest_while in_control_sequence body))) (inside-front bs (character last) rest numeric final.out)
      ∙ ap (λ l. behind (flat_map acts (map character bs)) (end_control_sequence (header (body_of (character 0x3F ∷ map character bs))) l)) (inside-rest bs (character last) rest numeric final.out)
      ∙ ap (λ l. behind l (end_control_sequence (header (body_of (character 0x3F ∷ map character bs))) (character last ∷ rest))) (inside-acts bs numeric)
      ∙ ap (λ ks. behind [] (end_control_sequence (header (PrivateMarker 0x3F ∷ ks)) (character last ∷ rest))) (inside-body bs numeric)
      ∙ ap (λ x. behind [] (end_control_sequence x (character last ∷ rest))) (unmarked-is (Some 0x3F) p ps h few)
      ∙ ap (behind []) (final.ends (of_mark (Some 0x3F)) rest)

  pub gives-plain : functions (character 0x1B ∷ character 0x5B ∷ body) ≡ csi None (p ∷ ps) last ∷ functions rest
  gives-plain = functions-step (character 0x1B) (character 0x5B ∷ body) ∙ ap (λ (f : Front). f.gives ++ functions f.left) reads-plain

  pub gives-private : functions (character 0x1B ∷ character 0x5B ∷ character 0x3F ∷ body) ≡ csi (Some 0x3F) (p ∷ ps) last ∷ functions rest
  gives-private = functions-step (character 0x1B) (character 0x5B ∷ character 0x3F ∷ body) ∙ ap (λ (f : Front). f.gives ++ functions f.left) reads-private

-- ---- functions that are read as they are spelled

pub record Legible (f : Function) : Type 0 where
  pub letters : List ℕ
  pub good : scalars letters ≡ true
  pub bytes : spelling_of f ≡ encode_utf8_all letters
  pub gives : (rest : List Sign) → functions (map character letters ++ rest) ≡ f ∷ functions rest

abbrev AreAscii : List ℕ → Type 0
AreAscii [] = ⊤
AreAscii (b ∷ bs) = (b < 128) × AreAscii bs

ascii-numeric : (bs : List ℕ) (last : ℕ) → AreNumeric bs → last < 128 → AreAscii (bs ++ last ∷ [])
ascii-numeric [] last h k = (k, tt)
ascii-numeric (b ∷ bs) last h k = (h.1, ascii-numeric bs last h.2 k)

ascii-encoded : (bs : List ℕ) → AreAscii bs → bs ≡ encode_utf8_all bs
ascii-encoded [] h = refl
ascii-encoded (b ∷ bs) h = ap (λ l. b ∷ l) (ascii-encoded bs h.1) ∙ sym (ap (λ l. l ++ encode_utf8_all bs) (encode_ascii b h.0))

ascii-good : (bs : List ℕ) → AreAscii bs → scalars bs ≡ true
ascii-good [] h = refl
ascii-good (b ∷ bs) h = let low = h.0 in ap (λ t. t && scalars bs) (low_scalar b (omega (arith, low))) ∙ ascii-good bs h.1

pub legible-plain : (p : ℕ) (ps : List ℕ) (last : ℕ) → AreSmall (p ∷ ps) → length (p ∷ ps) ≤ 16 → IsFinal last → Legible (csi None (p ∷ ps) last)
legible-plain p ps last h few final =
    let text = 0x1B ∷ 0x5B ∷ (parameter_text (p ∷ ps) ++ last ∷ []) in
    let ascii : AreAscii text = (omega arith, (omega arith, ascii-numeric (parameter_text (p ∷ ps)) last (parameters-numeric p ps h) final.ascii)) in
    record {
      letters = text;
      good = ascii-good text ascii;
      bytes = ascii-encoded text ascii;
      gives = λ rest.
          ap (λ l. functions (character 0x1B ∷ character 0x5B ∷ (l ++ rest))) (map-append character (parameter_text (p ∷ ps)) (last ∷ []))
          ∙ ap (λ l. functions (character 0x1B ∷ character 0x5B ∷ l)) (append_assoc (map character (parameter_text (p ∷ ps))) (character last ∷ []) rest)
          ∙ gives-plain p ps last rest h few final;
    }

pub legible-private : (p : ℕ) (ps : List ℕ) (last : ℕ) → AreSmall (p ∷ ps) → length (p ∷ ps) ≤ 16 → IsFinal last → Legible (csi (Some 0x3F) (p ∷ ps) last)
legible-private p ps last h few final =
    let text = 0x1B ∷ 0x5B ∷ 0x3F ∷ (parameter_text (p ∷ ps) ++ last ∷ []) in
    let ascii : AreAscii text = (omega arith, (omega arith, (omega arith, ascii-numeric (parameter_text (p ∷ ps)) last (parameters-numeric p ps h) final.ascii))) in
    record {
      letters = text;
      good = ascii-good text ascii;
      bytes = ascii-encoded text ascii;
      gives = λ rest.
          ap (λ l. functions (character 0x1B ∷ character 0x5B ∷ character 0x3F ∷ (l ++ rest))) (map-append character (parameter_text (p ∷ ps)) (last ∷ []))
          ∙ ap (λ l. functions (character 0x1B ∷ character 0x5B ∷ character 0x3F ∷ l)) (append_assoc (map character (parameter_text (p ∷ ps))) (character last ∷ []) rest)
          ∙ gives-private p ps last rest h few final;
    }

-- ---- characters

low-none : (c : ℕ) → c < 0x20 → char_width false c ≡ None
unfolding char_width
low-none c h = rw (lt-ltb c 0x7F (omega (arith, h)), lt-leb 0x20 c h) refl

middle-none : (c : ℕ) → 0x7F ≤ c → c < 0xA0 → char_width false c ≡ None
unfolding char_width
middle-none c h k = rw (le-ltb c 0x7F h, lt-leb 0xA0 c k) refl

gives-character : (c : ℕ) (rest : List Sign) → (char_width false c ≡ None → ⊥) → functions (character c ∷ rest) ≡ Print c ∷ functions rest
gives-character c rest h =
    elim (cases_lt c 0x20) [
      | inl low ↦ absurd (h (low-none c low))
      | inr high ↦
          elim (cases_lt c 0x7F) [
            | inl a ↦ functions-plain c rest high a
            | inr b ↦
                elim (cases_lt c 0xA0) [
                  | inl e ↦ absurd (h (middle-none c b e))
                  | inr e ↦ functions-graphic c rest e
                ]
          ]
    ]

pub legible-print : (c : ℕ) → (char_width false c ≡ None → ⊥) → IsScalar c → Legible (Print c)
legible-print c h good = record {
  letters = c ∷ [];
  good = ap (λ t. t && true) good;
  bytes = sym (append-nil (encode_utf8 c));
  gives = λ rest. gives-character c rest h;
}
