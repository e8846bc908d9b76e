-- A close is read from its text, and from no other.
use Rattle.std.proofs.Common.{◌≡◌, ℕ, ◌+◌, ◌^◌, ◌<◌, ◌≤◌, Bool, true, false, cond, eqb, List, [], ◌∷◌, ◌++◌, length, take, drop, Bor, Option, Some, None, refl, sym, ap, subst, ◌∙◌, arith, rules, lit≤}
use Rattle.std.proofs.lemmas.Bool.Decides.{Decides-eqb, nat_tests}
use Rattle.std.proofs.lemmas.Fmt.{decimal_is_IsNumeral}
use Rattle.std.proofs.lemmas.Slice.Eq.{strip_prefix_is}
use Rattle.std.specs.Cmp.Lexicographic.{pointwise}
use Rattle.std.specs.Fmt.{decimal}
use Rattle.std.specs.Prelude.{IfSome}
use Rattle.roam_tokens.specs.Numbers.{number_in}
use Rattle.roam_tokens.proofs.Spelled.{number_again, number_found}
use Rattle.roam_pane_protocol.specs.declared.closes.Close.{Close}
use Rattle.roam_pane_protocol.specs.Closes.{IsClose, IsPane, close_head, close_text, focus_text}
use Rattle.roam_tokens.specs.Words.{first_word}
use Rattle.roam_pane_protocol.specs.Reading.{above_zero, close_at, close_in, close_of, generation_alone, generation_and_focus_at, generation_and_focus_in, generation_in, generation_with, pane_in}
use Rattle.roam_tokens.proofs.Wording.{IsWord, digits_are_word, word_again, word_alone, word_found}

-- the words behind the head of a close
abbrev pub words : Close → List ℕ
words close = decimal close.pane ++ 0x20 ∷ (decimal close.generation ++ focus_text close.focus)

decimal_word : (n : ℕ) → n < 2 ^ 64 → IsWord (decimal n)
decimal_word n small = digits_are_word 10 (decimal n) (lit≤ tt) (decimal_is_IsNumeral n small).0.1

-- ---- a close with the text is read

not_zero : (n : ℕ) → 1 ≤ n → above_zero (Some n) ≡ Some n
not_zero n h = let apart : eqb n 0 ≡ false = grind (arith, nat_tests, h) in ap (λ (b : Bool). cond b None (Some n)) apart

pane_again : (p : ℕ) → IsPane p → pane_in (decimal p) ≡ Some p
pane_again p h = ap above_zero (number_again 9 p h.1 (omega (arith, h.1))) ∙ not_zero p h.0

generation_again : (n : ℕ) → n < 2 ^ 64 → generation_in (decimal n) ≡ Some n
generation_again n lt = number_again 18446744073709551615 n (omega (arith, lt)) lt

pane_word : (p : ℕ) → IsPane p → IsWord (decimal p)
pane_word p h = decimal_word p (omega (arith, h.1))

rest_again : (generation : ℕ) (focus : Option ℕ) → generation < 2 ^ 64 → IfSome focus IsPane
    → generation_and_focus_in (decimal generation ++ focus_text focus) ≡ Some (generation, focus)
rest_again generation None small h =
    let text : decimal generation ++ [] ≡ decimal generation = search rules in
    ap generation_and_focus_in text ∙ ap (generation_and_focus_at (decimal generation)) (word_alone (decimal generation) (decimal_word generation small))
    ∙ ap generation_alone (generation_again generation small)
rest_again generation (Some p) small h =
    ap (generation_and_focus_at (decimal generation ++ 0x20 ∷ decimal p)) (word_again (decimal generation) (decimal p) (decimal_word generation small))
    ∙ (λ i. generation_with (generation_again generation small i) (pane_again p h i))

pub close_again : (close : Close) → IsClose close → close_in (words close) ≡ Some close
close_again close h =
    ap close_at (word_again (decimal close.pane) (decimal close.generation ++ focus_text close.focus) (pane_word close.pane h.pane))
    ∙ (λ i. close_of (pane_again close.pane h.pane i) (rest_again close.generation close.focus h.generation h.focus i))

-- ---- the close read has the text

above : (o : Option ℕ) (p : ℕ) → above_zero o ≡ Some p → (o ≡ Some p) × (1 ≤ p)
above None p e = absurd cc
above (Some n) p e = by (eqb n 0) refl e
  where
    by : (b : Bool) → eqb n 0 ≡ b → cond b None (Some n) ≡ Some p → (Some n ≡ Some p) × (1 ≤ p)
    by true zero h = absurd cc
    by false apart h =
        let same : n ≡ p = cc in
        let more : 1 ≤ n = grind (arith, nat_tests, apart) in
        (h, omega (arith, same, more))

record IsPaneText (text : List ℕ) (p : ℕ) : Type 0 where
  is_pane : IsPane p
  text_is : text ≡ decimal p

pane_found : (text : List ℕ) (p : ℕ) → pane_in text ≡ Some p → IsPaneText text p
pane_found text p e =
    let both = above (number_in 9 text) p e in
    let number = number_found 9 text p both.0 in
    record { is_pane = (both.1, number.0); text_is = number.1 }

record IsRest (text : List ℕ) (generation : ℕ) (focus : Option ℕ) : Type 0 where
  small : generation < 2 ^ 64
  is_pane : IfSome focus IsPane
  text_is : text ≡ decimal generation ++ focus_text focus

alone_found : (o : Option ℕ) (p : ℕ × Option ℕ) → generation_alone o ≡ Some p → (o ≡ Some p.0) × (p.1 ≡ None)
alone_found None p e = absurd cc
alone_found (Some n) p e =
    let made : ℕ × Option ℕ = (n, None) in
    let same : made ≡ p = cc in
    (ap (λ (q : ℕ × Option ℕ). Some q.0) same, sym (ap (λ (q : ℕ × Option ℕ). q.1) same))

with_found : (a b : Option ℕ) (p : ℕ × Option ℕ) → generation_with a b ≡ Some p → (f : ℕ) × (a ≡ Some p.0) × (b ≡ Some f) × (p.1 ≡ Some f)
with_found None b p e = absurd cc
with_found (Some n) None p e = absurd cc
with_found (Some n) (Some f) p e =
    let made : ℕ × Option ℕ = (n, Some f) in
    let same : made ≡ p = cc in
    (f, ap (λ (q : ℕ × Option ℕ). Some q.0) same, refl, sym (ap (λ (q : ℕ × Option ℕ). q.1) same))

is_alone_rest : (text : List ℕ) (generation : ℕ) (focus : Option ℕ) → generation_in text ≡ Some generation → focus ≡ None → IsRest text generation focus
is_alone_rest text generation focus e none =
    let number = number_found 18446744073709551615 text generation e in
    subst (λ (o : Option ℕ). IsRest text generation o) (sym none) (record {
      small = omega (arith, number.0);
      is_pane = tt;
      text_is = number.1 ∙ (let more : decimal generation ≡ decimal generation ++ [] = search rules in more);
    })

is_rest : (text word more : List ℕ) (generation f : ℕ) (focus : Option ℕ) → text ≡ word ++ 32 ∷ more → generation_in word ≡ Some generation
    → pane_in more ≡ Some f → focus ≡ Some f → IsRest text generation focus
is_rest text word more generation f focus cut e g some =
    let number = number_found 18446744073709551615 word generation e in
    let pane = pane_found more f g in
    subst (λ (o : Option ℕ). IsRest text generation o) (sym some) (record {
      small = omega (arith, number.0);
      is_pane = pane.is_pane;
      text_is = cut ∙ (λ i. number.1 i ++ 32 ∷ pane.text_is i);
    })

rest_found : (text : List ℕ) (p : ℕ × Option ℕ) → generation_and_focus_in text ≡ Some p → IsRest text p.0 p.1
rest_found text p e = by (first_word text) refl e
  where
    by : (r : Option (List ℕ × List ℕ)) → first_word text ≡ r → generation_and_focus_at text r ≡ Some p → IsRest text p.0 p.1
    by None is e = let both = alone_found (generation_in text) p e in is_alone_rest text p.0 p.1 both.0 both.1
    by (Some cut) is e =
        let all = with_found (generation_in cut.0) (pane_in cut.1) p e in
        is_rest text cut.0 cut.1 p.0 all.0 p.1 (word_found text cut is) all.1 all.2 all.3

-- a text of a close
pub record IsCloseText (text : List ℕ) (close : Close) : Type 0 where
  pub is_close : IsClose close
  pub text_is : text ≡ words close

of_found : (a : Option ℕ) (b : Option (ℕ × Option ℕ)) (close : Close) → close_of a b ≡ Some close
    → (a ≡ Some close.pane) × (b ≡ Some (close.generation, close.focus))
of_found None b close e = absurd cc
of_found (Some p) None close e = absurd cc
of_found (Some p) (Some rest) close e =
    let made : Close = record { pane = p; generation = rest.0; focus = rest.1 } in
    let same : made ≡ close = cc in
    (ap (λ (c : Close). Some c.pane) same, ap (λ (c : Close). Some (c.generation, c.focus)) same)

pub close_found : (text : List ℕ) (close : Close) → close_in text ≡ Some close → IsCloseText text close
close_found text close e = by (first_word text) refl e
  where
    by : (r : Option (List ℕ × List ℕ)) → first_word text ≡ r → close_at r ≡ Some close → IsCloseText text close
    by None is e = absurd cc
    by (Some cut) is e =
        let both = of_found (pane_in cut.0) (generation_and_focus_in cut.1) close e in
        let pane = pane_found cut.0 close.pane both.0 in
        let rest = rest_found cut.1 (close.generation, close.focus) both.1 in
        record {
          is_close = record { pane = pane.is_pane; generation = rest.small; focus = rest.is_pane };
          text_is = word_found text cut is ∙ (λ i. pane.text_is i ++ 32 ∷ rest.text_is i);
        }

-- ---- a line, and the words behind its head

pub line_found : (line behind : List ℕ) (r : Option Close) → line ≡ close_head ++ behind → r ≡ close_in behind
    → IfSome r (λ close. IsClose close × (line ≡ close_text close))
line_found line behind None e read = tt
line_found line behind (Some close) e read =
    let found = close_found behind close (sym read) in
    (found.is_close, e ∙ ap (λ (text : List ℕ). close_head ++ text) found.text_is)

pub line_only : (line behind : List ℕ) (r : Option Close) → line ≡ close_head ++ behind → r ≡ close_in behind
    → (close : Close) → IsClose close → line ≡ close_text close → r ≡ Some close
line_only line behind r e read close is text =
    let same : close_head ++ behind ≡ close_head ++ words close = sym e ∙ text in
    let rest : behind ≡ words close = ap (drop 6) same in
    read ∙ ap close_in rest ∙ close_again close is

-- the rest behind the head
pub behind_head : (line head : List ℕ) (rest : Bor (List ℕ)) → head ≡ close_head
    → (pointwise eqb (take (length head) line) head ≡ true) × (rest.now ≡ drop (length head) line) × (length rest.now
    + length head ≡ length line) → line ≡ close_head ++ rest.now
behind_head line head rest e h =
    strip_prefix_is Decides-eqb line head (Some rest) h ∙ ap (λ (text : List ℕ). text ++ rest.now) e
