-- A control sequence with neither a private marker nor an intermediate byte says nothing.
use Rattle.std.proofs.Common.{◌≡◌, ◌<◌, ◌≤◌, ℕ, Bool, true, false, cond, nat_lt, List, [], ◌∷◌, ◌++◌, map, Option, None, Some, refl, sym, ap, ◌∙◌, arith, append_assoc, subst}
use Rattle.std.specs.Prelude.{◌==◌, ◌&&◌, ◌||◌, nat_le, not, ⊤}
use Rattle.std.specs.List.{fold, flat_map}
use Rattle.std.specs.Option.{option_to_list}
use Rattle.std.proofs.lemmas.Bool.Decides.{nat_tests}
use Rattle.std.proofs.lemmas.List.Concat.{flat_map-append}
use Rattle.roam_text.specs.declared.kinds.Kind.{Kind}
use Rattle.roam_text.specs.declared.kinds.Kind.TheVariants.{Digit, Colon, Separator, PrivateMarker, Intermediate, Upper, Lower, Delete, Graphic}
use Rattle.roam_text.specs.declared.functions.Function.{Function}
use Rattle.roam_text.specs.Kinds.{kind_of, c0_kind, ascii_kind, c1_kind}
use Rattle.roam_text.specs.Log.{Sign, Character, character, settled_part, unfinished_part}
use Rattle.roam_text.specs.Inside.{front_while, rest_while, acts}
use Rattle.roam_text.specs.ControlSequences.{Header, in_control_sequence, body_of, header, with_inter, intermediates, kinds_after, kinds_while, is_numeric, control_sequence, control_sequence_function, end_control_sequence, first_sixteen, digits_of_parameters, capped_value}
use Rattle.roam_text.specs.Functions.{functions}
use Rattle.roam_text.specs.Strings.{strings}
use Rattle.roam_text.proofs.Bytes.{settled-append, one-ascii, true≢false}
use Rattle.roam_text.proofs.Fronts.{functions-step}
use Rattle.roam_text.proofs.StringMoves.{strings-step}
use Rattle.roam_pane_metadata.specs.declared.settings.Settings.{Settings}
use Rattle.roam_pane_metadata.specs.declared.screen_modes.ScreenModes.{ScreenModes}
use Rattle.roam_pane_metadata.specs.Settings.{granted, heard}
use Rattle.roam_pane_metadata.specs.Emissions.{emitted_by}
use Rattle.roam_pane_metadata.specs.declared.settings.Wish.TheVariants.{Nothing, SetAnsiModes, ResetAnsiModes}
use Rattle.roam_pane_metadata.specs.declared.queries.QueryForm.TheVariants.{Nothing as NoQuery, Window}
use Rattle.roam_pane_metadata.specs.Queries.{asked, asked_in}
use Rattle.roam_pane_metadata.specs.ScreenModes.{modes_after, modes_granted}
use Rattle.roam_pane_metadata.specs.Silence.{SaySame, SaysNothing, AreNumbers, IsPlainSequence, counts, is_number, is_final}
use Rattle.roam_pane_metadata.proofs.Folds.{ArePlain, modes-more, plain-asked}

lt-yes : (a b : ℕ) → a < b → nat_lt a b ≡ true
lt-yes a b h = grind (arith, nat_tests)

lt-no : (a b : ℕ) → b ≤ a → nat_lt a b ≡ false
lt-no a b h = grind (arith, nat_tests)

-- the kinds of number bytes, and of final bytes that don't count
abbrev IsNumeral : Kind → Type 0
IsNumeral (Digit b) = ⊤
IsNumeral Colon = ⊤
IsNumeral Separator = ⊤
IsNumeral k = ⊥

abbrev IsFinal : Kind → Type 0
IsFinal (Upper b) = counts b ≡ false
IsFinal (Lower b) = counts b ≡ false
IsFinal k = ⊥

module _ (P : Kind → Type 0) (b : ℕ) (low : 0x30 ≤ b) (high : b < 0x80) where
  -- a property of the kind of ASCII from 30 up
  from-ascii : P (cond (nat_lt b 0x3A) (Digit b) (cond (b == 0x3A) Colon (cond (b == 0x3B) Separator
      (cond (nat_lt b 0x40) (PrivateMarker b) (cond (nat_lt b 0x60) (Upper b) (cond (nat_lt b 0x7F) (Lower b) Delete)))))) → P (kind_of b)
  from-ascii p =
      subst (λ t. P (cond t (c0_kind b) (cond (nat_lt b 0x80) (ascii_kind b) (cond (nat_lt b 0xA0) (c1_kind b) Graphic)))) (sym (lt-no b 0x20 (omega (arith, low))))
      (subst (λ t. P (cond t (ascii_kind b) (cond (nat_lt b 0xA0) (c1_kind b) Graphic))) (sym (lt-yes b 0x80 high))
      (subst (λ t. P (cond t (Intermediate b) (cond (nat_lt b 0x3A) (Digit b) (cond (b == 0x3A) Colon (cond (b == 0x3B) Separator
      (cond (nat_lt b 0x40) (PrivateMarker b) (cond (nat_lt b 0x60) (Upper b) (cond (nat_lt b 0x7F) (Lower b) Delete)))))))) (sym (lt-no b 0x30 low)) p))

numeral-by : (b : ℕ) (k : Kind) (x y z : Bool) → (x ≡ false → y ≡ false → z ≡ true)
    → IsNumeral (cond x (Digit b) (cond y Colon (cond z Separator k)))
numeral-by b k true y z h = tt
numeral-by b k false true z h = tt
numeral-by b k false false true h = tt
numeral-by b k false false false h = absurd (true≢false (sym (h refl refl)))

last-number : (b : ℕ) → is_number b ≡ true → nat_lt b 0x3A ≡ false → (b == 0x3A) ≡ false → (b == 0x3B) ≡ true
last-number b h x y = grind (arith, nat_tests)

number-low : (b : ℕ) → is_number b ≡ true → 0x30 ≤ b
number-low b h = grind (arith, nat_tests)

number-high : (b : ℕ) → is_number b ≡ true → b < 0x80
number-high b h = grind (arith, nat_tests)

numeral : (b : ℕ) → is_number b ≡ true → IsNumeral (kind_of b)
numeral b h = from-ascii IsNumeral b (number-low b h) (number-high b h)
    (numeral-by b _ (nat_lt b 0x3A) (b == 0x3A) (b == 0x3B) (last-number b h))

final-by : (b : ℕ) (x y z u v w : Bool) → counts b ≡ false → x ≡ false → y ≡ false → z ≡ false → u ≡ false → (v ≡ false → w ≡ true)
    → IsFinal (cond x (Digit b) (cond y Colon (cond z Separator (cond u (PrivateMarker b) (cond v (Upper b) (cond w (Lower b) Delete))))))
final-by b false false false false true w o p q r s h = o
final-by b false false false false false true o p q r s h = o
final-by b false false false false false false o p q r s h = absurd (true≢false (sym (h refl)))
final-by b true y z u v w o p q r s h = absurd (true≢false p)
final-by b false true z u v w o p q r s h = absurd (true≢false q)
final-by b false false true u v w o p q r s h = absurd (true≢false r)
final-by b false false false true v w o p q r s h = absurd (true≢false s)

final-low : (b : ℕ) → is_final b ≡ true → 0x40 ≤ b
final-low b h = grind (arith, nat_tests)

final-high : (b : ℕ) → is_final b ≡ true → b < 0x7F
final-high b h = grind (arith, nat_tests)

and-right : (x y z : Bool) → ((x && y) && not z) ≡ true → z ≡ false
and-right true true false h = refl
and-right true true true h = cc
and-right true false z h = cc
and-right false y z h = cc

final-counts : (b : ℕ) → is_final b ≡ true → counts b ≡ false
final-counts b h = and-right (nat_le 0x40 b) (nat_lt b 0x7F) (counts b) h

not-equal : (a b : ℕ) → b < a → (a == b) ≡ false
not-equal a b h = grind (arith, nat_tests)

final-kind : (b : ℕ) → is_final b ≡ true → IsFinal (kind_of b)
final-kind b h =
    let low = final-low b h in
    let high = final-high b h in
    from-ascii IsFinal b (omega (arith, low)) (omega (arith, high))
    (final-by b (nat_lt b 0x3A) (b == 0x3A) (b == 0x3B) (nat_lt b 0x40) (nat_lt b 0x60) (nat_lt b 0x7F) (final-counts b h)
    (lt-no b 0x3A (omega (arith, low))) (not-equal b 0x3A (omega (arith, low))) (not-equal b 0x3B (omega (arith, low))) (lt-no b 0x40 low) (λ _. lt-yes b 0x7F high))

-- ---- the fronts

abbrev AllNumerals : List Kind → Type 0
AllNumerals [] = ⊤
AllNumerals (k ∷ ks) = IsNumeral k × AllNumerals ks

abbrev signs_of : List Kind → List ℕ → List Sign → List Sign
signs_of [] cs rest = rest
signs_of (k ∷ ks) [] rest = rest
signs_of (k ∷ ks) (c ∷ cs) rest = Character k c ∷ signs_of ks cs rest

module _ (last : Kind) (code : ℕ) (tail : List Sign) (final : IsFinal last) where
  abbrev end : List Sign
  end = Character last code ∷ tail

  stops : (k : Kind) (c : ℕ) → IsFinal k → in_control_sequence (Character k c) ≡ false
  stops (Upper b) c f = refl
  stops (Lower b) c f = refl
  stops k c f = absurd f

  goes : (k : Kind) (c : ℕ) → IsNumeral k → in_control_sequence (Character k c) ≡ true
  goes (Digit b) c n = refl
  goes Colon c n = refl
  goes Separator c n = refl
  goes k c n = absurd n

  record Body (body : List ℕ) : Type 0 where
    kinds : List Kind
    numerals : AllNumerals kinds
    front : List Sign
    whole : front_while in_control_sequence (map character body ++ end) ≡ front
    kinds_are : body_of front ≡ kinds
    acts_none : flat_map acts front ≡ []
    left : rest_while in_control_sequence (map character body ++ end) ≡ end

  body-kind : (k : Kind) (c : ℕ) (rest : List Sign) → IsNumeral k → body_of (Character k c ∷ rest) ≡ k ∷ body_of rest
  body-kind (Digit b) c rest n = refl
  body-kind Colon c rest n = refl
  body-kind Separator c rest n = refl
  body-kind k c rest n = absurd n

  body-acts : (k : Kind) (c : ℕ) → IsNumeral k → acts (Character k c) ≡ []
  body-acts (Digit b) c n = refl
  body-acts Colon c n = refl
  body-acts Separator c n = refl
  body-acts k c n = absurd n

  of-body : (body : List ℕ) → AreNumbers body → Body body
  of-body [] numbers = record {
    kinds = [];
    numerals = tt;
    front = [];
    whole = ap (λ t. cond t (Character last code ∷ front_while in_control_sequence tail) []) (stops last code final);
    kinds_are = refl;
    acts_none = refl;
    left = ap (λ t. cond t (rest_while in_control_sequence tail) end) (stops last code final);
  }
  of-body (b ∷ body) numbers =
      let more = of-body body numbers.1 in
      let k = kind_of b in
      let n = numeral b numbers.0 in
      record {
        kinds = k ∷ more.kinds;
        numerals = (n, more.numerals);
        front = character b ∷ more.front;
        whole = ap (λ t. cond t (character b ∷ front_while in_control_sequence (map character body ++ end)) []) (goes k b n)
            ∙ ap (λ l. character b ∷ l) more.whole;
        kinds_are = body-kind k b more.front n ∙ ap (λ l. k ∷ l) more.kinds_are;
        acts_none = ap (λ l. l ++ flat_map acts more.front) (body-acts k b n) ∙ more.acts_none;
        left = ap (λ t. cond t (rest_while in_control_sequence (map character body ++ end)) (character b ∷ (map character body ++ end))) (goes k b n) ∙ more.left;
      }

-- ---- its meaning

-- a byte that is no number of a parameter makes it ignored
abbrev PlainHeader : Option Header → Type 0
PlainHeader None = ⊤
PlainHeader (Some h) = (h.mark ≡ None) × (h.inter ≡ [])

plain-inter : (params : List ℕ) (ks : List Kind) → AllNumerals ks → PlainHeader (with_inter None params (intermediates (kinds_after is_numeric ks)))
plain-inter params [] n = (refl, refl)
plain-inter params (Digit b ∷ ks) n = plain-inter params ks n.1
plain-inter params (Separator ∷ ks) n = plain-inter params ks n.1
plain-inter params (Colon ∷ ks) n = tt
plain-inter params (k ∷ ks) n = absurd n.0

plain-header : (ks : List Kind) → AllNumerals ks → PlainHeader (header ks)
plain-header [] n = plain-inter (first_sixteen (map capped_value (digits_of_parameters []))) [] n
plain-header (PrivateMarker b ∷ ks) n = absurd n.0
plain-header (k ∷ ks) n = plain-inter (first_sixteen (map capped_value (digits_of_parameters (kinds_while is_numeric (k ∷ ks))))) (k ∷ ks) n

none-of : (x y z : Bool) → (x || y || z) ≡ false → (x ≡ false) × (y ≡ false) × (z ≡ false)
none-of false false false h = (refl, refl, refl)
none-of false false true h = cc
none-of false true z h = cc
none-of true y z h = cc

plain-function : (mark : Option ℕ) (inter params : List ℕ) (last : ℕ) → counts last ≡ false → mark ≡ None → inter ≡ []
    → ArePlain (control_sequence_function (Some (record { mark = mark; params = params; inter = inter })) last)
plain-function None [] params last o m i =
    let no = none-of (last == 0x68) (last == 0x6C) (last == 0x74) o in
    record {
      sets = λ s. ap (λ t. granted (cond t SetAnsiModes (cond (last == 0x6C) ResetAnsiModes Nothing)) params s) no.0
          ∙ ap (λ t. granted (cond t ResetAnsiModes Nothing) params s) no.1;
      modes = λ f. ap (λ t. modes_granted (cond t SetAnsiModes (cond (last == 0x6C) ResetAnsiModes Nothing)) params f) no.0
          ∙ ap (λ t. modes_granted (cond t ResetAnsiModes Nothing) params f) no.1;
      asked = λ s f. ap (λ t. option_to_list (asked (cond t Window NoQuery) params s f) ++ []) no.2;
      emits = refl;
    }
plain-function None (b ∷ inter) params last o m i = cc
plain-function (Some mark) inter params last o m i = cc

header-plain : (h : Option Header) (last : ℕ) → counts last ≡ false → PlainHeader h → ArePlain (control_sequence_function h last)
header-plain None last o p = record { sets = λ s. refl; modes = λ f. refl; asked = λ s f. refl; emits = refl }
header-plain (Some h) last o p = plain-function h.mark h.inter h.params last o p.0 p.1

fold-after : (fs more : List Function) (s : Settings) → fold heard s (fs ++ more) ≡ fold heard (fold heard s fs) more
fold-after [] more s = refl
fold-after (f ∷ fs) more s = fold-after fs more (heard s f)

ends-plain : (k : Kind) (c : ℕ) (h : Option Header) (tail : List Sign) → IsFinal k → PlainHeader h
    → ArePlain (end_control_sequence h (Character k c ∷ tail)).gives × ((end_control_sequence h (Character k c ∷ tail)).left ≡ tail)
ends-plain (Upper b) c h tail f p = (header-plain h b f p, refl)
ends-plain (Lower b) c h tail f p = (header-plain h b f p, refl)
ends-plain k c h tail f p = absurd f

module _ (body : List ℕ) (last : ℕ) (numbers : AreNumbers body) (final : is_final last ≡ true) (rest : List Sign) where
  abbrev at_end : IsFinal (kind_of last)
  at_end = final-kind last final

  abbrev b : Body (kind_of last) last rest at_end body
  b = of-body (kind_of last) last rest at_end body numbers

  abbrev tail : List Sign
  tail = map character body ++ character last ∷ rest

  gives-is : (control_sequence tail).gives ≡ (end_control_sequence (header b.kinds) (character last ∷ rest)).gives
  gives-is =
      ap (λ l. flat_map acts l ++ (end_control_sequence (header (body_of l)) (rest_while in_control_sequence tail)).gives) b.whole
      ∙ ap (λ l. l ++ (end_control_sequence (header (body_of b.front)) (rest_while in_control_sequence tail)).gives) b.acts_none
      ∙ ap (λ l. (end_control_sequence (header l) (rest_while in_control_sequence tail)).gives) b.kinds_are
      ∙ ap (λ l. (end_control_sequence (header b.kinds) l).gives) b.left

  sequence : ArePlain (control_sequence tail).gives × ((control_sequence tail).left ≡ rest)
  sequence =
      let ends = ends-plain (kind_of last) last (header b.kinds) rest at_end (plain-header b.kinds b.numerals) in (
        subst ArePlain (sym gives-is) ends.0,
        ap (λ l. (end_control_sequence (header (body_of l)) (rest_while in_control_sequence tail)).left) b.whole
            ∙ ap (λ l. (end_control_sequence (header l) (rest_while in_control_sequence tail)).left) b.kinds_are
            ∙ ap (λ l. (end_control_sequence (header b.kinds) l).left) b.left
            ∙ ends.1,
      )

  abbrev gives : List Function
  gives = (control_sequence tail).gives

  functions-are : functions (character 0x1B ∷ character 0x5B ∷ tail) ≡ gives ++ functions rest
  functions-are = functions-step (character 0x1B) (character 0x5B ∷ tail) ∙ ap (λ l. gives ++ functions l) sequence.1

  sequence-sets : (s : Settings) → fold heard s (functions (character 0x1B ∷ character 0x5B ∷ tail)) ≡ fold heard s (functions rest)
  sequence-sets s =
      ap (fold heard s) functions-are ∙ fold-after gives (functions rest) s ∙ ap (λ t. fold heard t (functions rest)) (sequence.0.sets s)

  sequence-modes : (f : ScreenModes)
      → fold modes_after f (functions (character 0x1B ∷ character 0x5B ∷ tail)) ≡ fold modes_after f (functions rest)
  sequence-modes f =
      ap (fold modes_after f) functions-are ∙ modes-more gives (functions rest) f
      ∙ ap (λ t. fold modes_after t (functions rest)) (sequence.0.modes f)

  sequence-asks : (s : Settings) (f : ScreenModes)
      → asked_in s f (functions (character 0x1B ∷ character 0x5B ∷ tail)) ≡ asked_in s f (functions rest)
  sequence-asks s f = ap (asked_in s f) functions-are ∙ plain-asked gives (functions rest) s f sequence.0

  sequence-resets : flat_map emitted_by (functions (character 0x1B ∷ character 0x5B ∷ tail)) ≡ flat_map emitted_by (functions rest)
  sequence-resets =
      ap (flat_map emitted_by) functions-are ∙ flat_map-append emitted_by gives (functions rest)
      ∙ ap (λ l. l ++ flat_map emitted_by (functions rest)) sequence.0.emits

  sequence-texts : strings (character 0x1B ∷ character 0x5B ∷ tail) ≡ strings rest
  sequence-texts = strings-step (character 0x1B) (character 0x5B ∷ tail) ∙ ap strings sequence.1

-- each byte of ASCII is a character of its own
ascii-first : (b : ℕ) → b < 0x80 → (more : List ℕ) → settled_part (b ∷ more) ≡ b ∷ settled_part more
ascii-first b low more =
    let one = one-ascii b low in
    settled-append (b ∷ []) more
    ∙ ap (λ l. l ++ settled_part (unfinished_part (b ∷ []) ++ more)) (sym one.chars)
    ∙ ap (λ l. b ∷ settled_part (l ++ more)) (sym one.pending)

numbers-first : (body : List ℕ) → AreNumbers body → (more : List ℕ) → settled_part (body ++ more) ≡ body ++ settled_part more
numbers-first [] n more = refl
numbers-first (b ∷ body) n more = ascii-first b (number-high b n.0) (body ++ more) ∙ ap (λ l. b ∷ l) (numbers-first body n.1 more)

map-more : (body : List ℕ) (last : ℕ) (rest : List ℕ) → map character (body ++ last ∷ rest) ≡ map character body ++ character last ∷ map character rest
map-more [] last rest = refl
map-more (b ∷ body) last rest = ap (λ l. character b ∷ l) (map-more body last rest)

-- such a sequence says nothing
pub sequence-silent : (bytes : List ℕ) → IsPlainSequence bytes → SaysNothing bytes
sequence-silent bytes q more =
    let x = settled_part more in
    let high = final-high q.last q.final in
    let chars : settled_part (bytes ++ more) ≡ 0x1B ∷ 0x5B ∷ (q.body ++ q.last ∷ x) =
    ap (λ l. settled_part (l ++ more)) q.is
    ∙ ascii-first 0x1B (omega arith) (0x5B ∷ ((q.body ++ q.last ∷ []) ++ more))
    ∙ ap (λ l. 0x1B ∷ l) (ascii-first 0x5B (omega arith) ((q.body ++ q.last ∷ []) ++ more))
    ∙ ap (λ l. 0x1B ∷ 0x5B ∷ settled_part l) (append_assoc q.body (q.last ∷ []) more)
    ∙ ap (λ l. 0x1B ∷ 0x5B ∷ l) (numbers-first q.body q.numbers (q.last ∷ more))
    ∙ ap (λ l. 0x1B ∷ 0x5B ∷ (q.body ++ l)) (ascii-first q.last (omega (arith, high)) more) in
    let signs = map-more q.body q.last x in
    subst (λ l. SaySame l x) (sym chars) (record {
      settings = λ s. ap (λ l. fold heard s (functions (character 0x1B ∷ character 0x5B ∷ l))) signs
          ∙ sequence-sets q.body q.last q.numbers q.final (map character x) s;
      texts = ap (λ l. strings (character 0x1B ∷ character 0x5B ∷ l)) signs
          ∙ sequence-texts q.body q.last q.numbers q.final (map character x);
      resets = ap (λ l. flat_map emitted_by (functions (character 0x1B ∷ character 0x5B ∷ l))) signs
          ∙ sequence-resets q.body q.last q.numbers q.final (map character x);
      modes = λ f. ap (λ l. fold modes_after f (functions (character 0x1B ∷ character 0x5B ∷ l))) signs
          ∙ sequence-modes q.body q.last q.numbers q.final (map character x) f;
      asked = λ s f. ap (λ l. asked_in s f (functions (character 0x1B ∷ character 0x5B ∷ l))) signs
          ∙ sequence-asks q.body q.last q.numbers q.final (map character x) s f;
    })
