-- ESC c, read in any state, ends all that is unfinished.
use Rattle.std.proofs.Common.{◌≡◌, ◌<◌, ℕ, Bool, true, false, cond, nat_lt, List, [], ◌∷◌, ◌++◌, map, length, refl, sym, ap, ◌∙◌, arith, append_assoc, length-append}
use Rattle.std.specs.Prelude.{◌==◌}
use Rattle.std.proofs.lemmas.List.{append-nil, map-append}
use Rattle.bstr.specs.Utf8.{Decoded, decoded, bad, good, second, code_of_2}
use Rattle.roam_text.specs.declared.functions.Function.{Function}
use Rattle.roam_text.specs.declared.functions.Function.TheVariants.{Esc}
use Rattle.roam_text.specs.Functions.{functions, functions_of}
use Rattle.roam_text.specs.Log.{Item, Byte, Sign, character, bytes_of, signs, settled_part, unfinished_part, is_unfinished}
use Rattle.roam_text.specs.Resting.{AtRest}
use Rattle.roam_text.proofs.Bytes.{is_unfinished-true, unfinished-short, unfinished-unfinished, settled-append, unfinished-append, one-ascii, push-cut}
use Rattle.roam_text.proofs.Fronts.{functions-nil, functions-step}
use Rattle.roam_text.proofs.Encoded.{signs-bytes, unfinished-bytes}
use Rattle.roam_text.proofs.Escapes.{functions-escape}
use Rattle.roam_text.proofs.Graphics.{printed_if, functions-graphic-after}

-- ---- ESC cuts an unfinished character

no_second : (p q r s : Bool) → cond p false (cond q false (cond r false (cond s false false))) ≡ false
no_second true q r s = refl
no_second false true r s = refl
no_second false false true s = refl
no_second false false false true = refl
no_second false false false false = refl

second-escape : (a : ℕ) → second a 0x1B ≡ false
second-escape a = no_second (a == 0xE0) (a == 0xED) (a == 0xF0) (a == 0xF4)

-- an unfinished character takes nothing of an ESC that follows
same-decoded : (t : List ℕ) → length t < 4 → 0 < length t → decoded (t ++ 0x1B ∷ []) ≡ decoded t
same-decoded [] few some = absurd (omega (arith, some))
same-decoded (a ∷ []) few some =
    ap (λ b. cond (nat_lt a 0x80) (good a 1) (cond (nat_lt a 0xC2) (bad 1) (cond (nat_lt 0xF4 a) (bad 1)
    (cond b (cond (nat_lt a 0xE0) (good (code_of_2 a 0x1B) 2) (bad 2)) (bad 1))))) (second-escape a)
same-decoded (a ∷ b ∷ []) few some = refl
same-decoded (a ∷ b ∷ c ∷ []) few some = refl
same-decoded (a ∷ b ∷ c ∷ d ∷ t) few some = absurd (omega (arith, few))

abbrev replaced_if : Bool → List ℕ
replaced_if true = 0xFFFD ∷ []
replaced_if false = []

record Cuts (t : List ℕ) : Type 0 where
  is_cut : Bool
  chars : settled_part (t ++ 0x1B ∷ []) ≡ replaced_if is_cut ++ 0x1B ∷ []
  pending : unfinished_part (t ++ 0x1B ∷ []) ≡ []

cuts : (t : List ℕ) → is_unfinished t ≡ true → Cuts t
cuts [] h = let one = one-ascii 0x1B (omega arith) in record { is_cut = false; chars = sym one.chars; pending = sym one.pending }
cuts (a ∷ t) h =
    let all = a ∷ t in
    let u = is_unfinished-true all h in
    let same = same-decoded all (unfinished-short all h) (omega arith) in
    let whole = u.size in
    let size_is : (decoded (all ++ 0x1B ∷ [])).size ≡ (decoded all).size = ap (λ (x : Decoded). x.size) same in
    let long = length-append all (0x1B ∷ []) in
    let settles = push-cut all 0x1B h (omega arith) (ap (λ (x : Decoded). x.char) same ∙ u.none) (omega (arith, whole, size_is, long)) (0x1B ∷ []) []
    (one-ascii 0x1B (omega arith)) in
    record { is_cut = true; chars = sym settles.chars; pending = sym settles.pending }

module _ (t : List ℕ) (h : is_unfinished t ≡ true) where
  abbrev cut : Cuts t
  cut = cuts t h

  settled-opened : settled_part (t ++ 0x1B ∷ 0x63 ∷ []) ≡ replaced_if cut.is_cut ++ 0x1B ∷ 0x63 ∷ []
  settled-opened =
      ap settled_part (sym (append_assoc t (0x1B ∷ []) (0x63 ∷ []))) ∙ settled-append (t ++ 0x1B ∷ []) (0x63 ∷ [])
      ∙ ap (λ l. l ++ settled_part (unfinished_part (t ++ 0x1B ∷ []) ++ 0x63 ∷ [])) cut.chars
      ∙ ap (λ l. (replaced_if cut.is_cut ++ 0x1B ∷ []) ++ settled_part (l ++ 0x63 ∷ [])) cut.pending
      ∙ ap (λ l. (replaced_if cut.is_cut ++ 0x1B ∷ []) ++ l) (sym (one-ascii 0x63 (omega arith)).chars)
      ∙ append_assoc (replaced_if cut.is_cut) (0x1B ∷ []) (0x63 ∷ [])

  unfinished-opened : unfinished_part (t ++ 0x1B ∷ 0x63 ∷ []) ≡ []
  unfinished-opened =
      ap unfinished_part (sym (append_assoc t (0x1B ∷ []) (0x63 ∷ []))) ∙ unfinished-append (t ++ 0x1B ∷ []) (0x63 ∷ [])
      ∙ ap (λ l. unfinished_part (l ++ 0x63 ∷ [])) cut.pending ∙ sym (one-ascii 0x63 (omega arith)).pending

-- ---- the functions of a log that is followed by ESC c

abbrev pub reset_text : List ℕ
reset_text = 0x1B ∷ 0x63 ∷ []

abbrev pub reset : Function
reset = Esc (record { items = [] }) 0x63

module _ (log : List Item) where
  abbrev end : List ℕ
  end = unfinished_part (bytes_of log)

  abbrev is_cut : Bool
  is_cut = (cut end (unfinished-unfinished (bytes_of log))).is_cut

  abbrev later : List Item
  later = log ++ map Byte reset_text

  -- all signs before the ESC
  abbrev known : List Sign
  known = signs log ++ map character (replaced_if is_cut)

  signs-later : signs later ≡ known ++ character 0x1B ∷ character 0x63 ∷ []
  signs-later =
      signs-bytes log reset_text
      ∙ ap (λ l. signs log ++ map character l) (settled-opened end (unfinished-unfinished (bytes_of log)))
      ∙ ap (λ l. signs log ++ l) (map-append character (replaced_if is_cut) (0x1B ∷ 0x63 ∷ []))
      ∙ sym (append_assoc (signs log) (map character (replaced_if is_cut)) (character 0x1B ∷ character 0x63 ∷ []))

  after-later : (more : List Sign) → functions (signs later ++ more) ≡ functions known ++ reset ∷ functions more
  after-later more =
      ap (λ l. functions (l ++ more)) signs-later
      ∙ ap functions (append_assoc known (character 0x1B ∷ character 0x63 ∷ []) more)
      ∙ functions-escape 0x1B (character 0x63 ∷ more) known
      ∙ ap (λ l. functions known ++ l) (functions-step (character 0x1B) (character 0x63 ∷ more))

  functions-later : functions_of later ≡ functions known ++ reset ∷ []
  functions-later = ap functions (sym (append-nil (signs later))) ∙ after-later [] ∙ ap (λ l. functions known ++ reset ∷ l) functions-nil

  -- it ends at rest
  pub rests-later : AtRest later
  rests-later = record {
    whole = unfinished-bytes log reset_text ∙ unfinished-opened end (unfinished-unfinished (bytes_of log));
    to_come = λ more. after-later more ∙ sym (append_assoc (functions known) (reset ∷ []) (functions more))
        ∙ sym (ap (λ l. l ++ functions more) functions-later);
  }

  -- a known front gives the functions of the log, and perhaps a U+FFFD
  known-by : (b : Bool) → (t : Bool) × (functions (signs log ++ map character (replaced_if b)) ≡ functions_of log ++ printed_if 0xFFFD t)
  known-by true = functions-graphic-after 0xFFFD (signs log)
  known-by false = (false, ap functions (append-nil (signs log)) ∙ sym (append-nil (functions_of log)))

  -- the functions of the log, perhaps a U+FFFD, and the reset
  pub functions-reset : (t : Bool) × (functions_of later ≡ (functions_of log ++ printed_if 0xFFFD t) ++ reset ∷ [])
  functions-reset = let known = known-by is_cut in (known.0, functions-later ∙ ap (λ l. l ++ reset ∷ []) known.1)
