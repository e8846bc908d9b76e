-- Bytes without ESC, BEL and C2 say nothing, and leave nothing unfinished that matters.
use Rattle.std.proofs.Common.{◌≡◌, ◌<◌, ◌≤◌, ℕ, zero, suc, Bool, true, false, cond, nat_lt, List, [], ◌∷◌, ◌++◌, map, length, drop, refl, sym, ap, ◌∙◌, arith, append_assoc, length-append, ⊎_elim, inl, inr, subst}
use Rattle.std.specs.Prelude.{◌==◌, ◌||◌, not, ⊤, slice_index, ◌⊎◌}
use Rattle.std.specs.List.{flat_map, fold}
use Rattle.std.proofs.lemmas.List.{append-nil}
use Rattle.std.proofs.lemmas.Bool.{cases_Bool, eqb-true}
use Rattle.std.proofs.lemmas.Bool.Decides.{nat_tests}
use Rattle.bstr.specs.Utf8.{Decoded, decoded, bad, good, second, continues, code_of_2, code_of_3, code_of_4, or_replacement}
use Rattle.bstr.proofs.lemmas.PieceLemmas.{by-shape}
use Rattle.roam_text.specs.declared.kinds.Kind.{Kind}
use Rattle.roam_text.specs.declared.kinds.Kind.TheVariants.{C0Control, Bell, Cancel, Escape, Intermediate, Digit, Colon, Separator, PrivateMarker, Upper, Lower, Delete, Graphic}
use Rattle.roam_text.specs.declared.functions.Function.{Function}
use Rattle.roam_text.specs.declared.functions.Function.TheVariants.{Print, C0}
use Rattle.roam_text.specs.Kinds.{kind_of, c0_kind, ascii_kind, c1_kind}
use Rattle.roam_text.specs.Log.{Sign, Character, character, settled_part, unfinished_part, is_unfinished}
use Rattle.roam_text.specs.Functions.{functions}
use Rattle.roam_text.specs.Strings.{strings}
use Rattle.roam_text.proofs.Bytes.{Settles, is_unfinished-true, settled-end, settled-more, settled-append, unfinished-unfinished, unfinished-empty, shorter, finished-some, one-ascii, one-lead-settles, unfinished-short, push-cut}
use Rattle.roam_text.proofs.UnfinishedEnds.{unfinished-tail}
use Rattle.roam_text.proofs.Fronts.{functions-step}
use Rattle.roam_text.proofs.StringMoves.{strings-step}
use Rattle.roam_pane_metadata.specs.declared.settings.Settings.{Settings}
use Rattle.roam_pane_metadata.specs.declared.screen_modes.ScreenModes.{ScreenModes}
use Rattle.roam_pane_metadata.specs.Settings.{heard}
use Rattle.roam_pane_metadata.specs.Emissions.{emitted_by}
use Rattle.roam_pane_metadata.specs.Queries.{asked_in}
use Rattle.roam_pane_metadata.specs.ScreenModes.{modes_after}
use Rattle.roam_pane_metadata.specs.Silence.{SaySame, SaysNothing, AreStill, is_still}

-- ---- saying the same

pub same-refl : (a : List ℕ) → SaySame a a
same-refl a = record { settings = λ s. refl; texts = refl; resets = refl; modes = λ f. refl; asked = λ s f. refl }

pub same-sym : (a b : List ℕ) → SaySame a b → SaySame b a
same-sym a b h = record {
  settings = λ s. sym (h.settings s);
  texts = sym h.texts;
  resets = sym h.resets;
  modes = λ f. sym (h.modes f);
  asked = λ s f. sym (h.asked s f);
}

pub same-trans : (a b c : List ℕ) → SaySame a b → SaySame b c → SaySame a c
same-trans a b c h k = record {
  settings = λ s. h.settings s ∙ k.settings s;
  texts = h.texts ∙ k.texts;
  resets = h.resets ∙ k.resets;
  modes = λ f. h.modes f ∙ k.modes f;
  asked = λ s f. h.asked s f ∙ k.asked s f;
}

-- ---- characters that say nothing

pub record Quiet (k : Kind) (c : ℕ) : Type 0 where
  pub settings : (rest : List Sign) (s : Settings) → fold heard s (functions (Character k c ∷ rest)) ≡ fold heard s (functions rest)
  pub texts : (rest : List Sign) → strings (Character k c ∷ rest) ≡ strings rest
  pub resets : (rest : List Sign) → flat_map emitted_by (functions (Character k c ∷ rest)) ≡ flat_map emitted_by (functions rest)
  pub modes : (rest : List Sign) (f : ScreenModes)
      → fold modes_after f (functions (Character k c ∷ rest)) ≡ fold modes_after f (functions rest)
  pub asked : (rest : List Sign) (s : Settings) (f : ScreenModes)
      → asked_in s f (functions (Character k c ∷ rest)) ≡ asked_in s f (functions rest)

quiet-plain : (k : Kind) (c : ℕ) (gives : List Function)
    → ((rest : List Sign) → functions (Character k c ∷ rest) ≡ gives ++ functions rest)
    → ((s : Settings) (fs : List Function) → fold heard s (gives ++ fs) ≡ fold heard s fs)
    → ((f : ScreenModes) (fs : List Function) → fold modes_after f (gives ++ fs) ≡ fold modes_after f fs)
    → ((s : Settings) (f : ScreenModes) (fs : List Function) → asked_in s f (gives ++ fs) ≡ asked_in s f fs)
    → ((fs : List Function) → flat_map emitted_by (gives ++ fs) ≡ flat_map emitted_by fs)
    → ((rest : List Sign) → strings (Character k c ∷ rest) ≡ strings rest) → Quiet k c
quiet-plain k c gives step skip held asks emits texts = record {
  settings = λ rest s. ap (fold heard s) (step rest) ∙ skip s (functions rest);
  texts = texts;
  resets = λ rest. ap (flat_map emitted_by) (step rest) ∙ emits (functions rest);
  modes = λ rest f. ap (fold modes_after f) (step rest) ∙ held f (functions rest);
  asked = λ rest s f. ap (asked_in s f) (step rest) ∙ asks s f (functions rest);
}

-- a character that is printed
quiet-print : (k : Kind) (c : ℕ) → ((rest : List Sign) → functions (Character k c ∷ rest) ≡ Print c ∷ functions rest)
    → ((rest : List Sign) → strings (Character k c ∷ rest) ≡ strings rest) → Quiet k c
quiet-print k c step texts = quiet-plain k c (Print c ∷ []) step (λ s fs. refl) (λ f fs. refl) (λ s f fs. refl) (λ fs. refl) texts

-- a C0 control that is no bell
quiet-c0 : (k : Kind) (c b : ℕ) → (b == 7) ≡ false → ((rest : List Sign) → functions (Character k c ∷ rest) ≡ C0 b ∷ functions rest)
    → ((rest : List Sign) → strings (Character k c ∷ rest) ≡ strings rest) → Quiet k c
quiet-c0 k c b silent step texts = quiet-plain k c (C0 b ∷ []) step
    (λ s fs. ap (λ t. fold heard (cond t (heard s (C0 7)) s) fs) silent) (λ f fs. refl)
    (λ s f fs. ap (λ t. asked_in (cond t (heard s (C0 7)) s) f fs) silent) (λ fs. refl) texts

module _ (c : ℕ) where
  either : (t : Bool) (x y : Kind) → Quiet x c → Quiet y c → Quiet (cond t x y) c
  either true x y p q = p
  either false x y p q = q

  quiet-ascii_kind : Quiet (ascii_kind c) c
  quiet-ascii_kind =
      either (nat_lt c 0x30) (Intermediate c) _ (quiet-print (Intermediate c) c (functions-step (Character (Intermediate c) c)) (strings-step (Character (Intermediate c) c)))
      (either (nat_lt c 0x3A) (Digit c) _ (quiet-print (Digit c) c (functions-step (Character (Digit c) c)) (strings-step (Character (Digit c) c)))
      (either (c == 0x3A) Colon _ (quiet-print Colon c (functions-step (Character Colon c)) (strings-step (Character Colon c)))
      (either (c == 0x3B) Separator _ (quiet-print Separator c (functions-step (Character Separator c)) (strings-step (Character Separator c)))
      (either (nat_lt c 0x40) (PrivateMarker c) _ (quiet-print (PrivateMarker c) c (functions-step (Character (PrivateMarker c) c)) (strings-step (Character (PrivateMarker c) c)))
      (either (nat_lt c 0x60) (Upper c) _ (quiet-print (Upper c) c (functions-step (Character (Upper c) c)) (strings-step (Character (Upper c) c)))
      (either (nat_lt c 0x7F) (Lower c) Delete (quiet-print (Lower c) c (functions-step (Character (Lower c) c)) (strings-step (Character (Lower c) c)))
      (quiet-plain Delete c [] (functions-step (Character Delete c)) (λ s fs. refl) (λ f fs. refl) (λ s f fs. refl) (λ fs. refl)
      (strings-step (Character Delete c)))))))))

  quiet-c0_kind : (c == 0x1B) ≡ false → (c == 7) ≡ false → Quiet (c0_kind c) c
  quiet-c0_kind escape bell =
      let cancel = quiet-c0 (Cancel c) c c bell (functions-step (Character (Cancel c) c)) (strings-step (Character (Cancel c) c)) in
      let control = quiet-c0 (C0Control c) c c bell (functions-step (Character (C0Control c) c)) (strings-step (Character (C0Control c) c)) in
      subst (λ t. Quiet (cond t Escape (cond (c == 0x18) (Cancel c) (cond (c == 0x1A) (Cancel c) (cond (c == 0x07) Bell (C0Control c))))) c) (sym escape)
      (either (c == 0x18) (Cancel c) _ cancel
      (either (c == 0x1A) (Cancel c) _ cancel
      (subst (λ t. Quiet (cond t Bell (C0Control c)) c) (sym bell) control)))

  lt-yes : (a b : ℕ) → a < b → nat_lt a b ≡ true
  lt-yes a b h = grind (arith, nat_tests)

  lt-no : (a b : ℕ) → b ≤ a → nat_lt a b ≡ false
  lt-no a b h = grind (arith, nat_tests)

  pub quiet-low : c < 0x80 → (c == 0x1B) ≡ false → (c == 7) ≡ false → Quiet (kind_of c) c
  quiet-low low escape bell =
      either (nat_lt c 0x20) (c0_kind c) _ (quiet-c0_kind escape bell)
      (subst (λ t. Quiet (cond t (ascii_kind c) (cond (nat_lt c 0xA0) (c1_kind c) Graphic)) c) (sym (lt-yes c 0x80 low)) quiet-ascii_kind)

  pub quiet-high : 0xA0 ≤ c → Quiet (kind_of c) c
  quiet-high high =
      subst (λ t. Quiet (cond t (c0_kind c) (cond (nat_lt c 0x80) (ascii_kind c) (cond (nat_lt c 0xA0) (c1_kind c) Graphic))) c) (sym (lt-no c 0x20 (omega (arith, high))))
      (subst (λ t. Quiet (cond t (ascii_kind c) (cond (nat_lt c 0xA0) (c1_kind c) Graphic)) c) (sym (lt-no c 0x80 (omega (arith, high))))
      (subst (λ t. Quiet (cond t (c1_kind c) Graphic) c) (sym (lt-no c 0xA0 high))
      (quiet-print Graphic c (functions-step (Character Graphic c)) (strings-step (Character Graphic c)))))

abbrev AllQuiet : List ℕ → Type 0
AllQuiet [] = ⊤
AllQuiet (c ∷ cs) = Quiet (kind_of c) c × AllQuiet cs

quiet-front : (cs rest : List ℕ) → AllQuiet cs → SaySame (cs ++ rest) rest
quiet-front [] rest q = same-refl rest
quiet-front (c ∷ cs) rest q =
    let more = quiet-front cs rest q.1 in
    record {
      settings = λ s. q.0.settings (map character (cs ++ rest)) s ∙ more.settings s;
      texts = q.0.texts (map character (cs ++ rest)) ∙ more.texts;
      resets = q.0.resets (map character (cs ++ rest)) ∙ more.resets;
      modes = λ f. q.0.modes (map character (cs ++ rest)) f ∙ more.modes f;
      asked = λ s f. q.0.asked (map character (cs ++ rest)) s f ∙ more.asked s f;
    }

-- ---- the characters of still bytes

module _ (b : ℕ) (still : is_still b ≡ true) where
  parts : (x y z : Bool) → not (x || y || z) ≡ true → (x ≡ false) × (y ≡ false) × (z ≡ false)
  parts true y z h = cc
  parts false true z h = cc
  parts false false true h = cc
  parts false false false h = (refl, refl, refl)

  pub still-parts : ((b == 0x1B) ≡ false) × ((b == 0x07) ≡ false) × ((b == 0xC2) ≡ false)
  still-parts = parts (b == 0x1B) (b == 0x07) (b == 0xC2) still

-- one of three tests that don't all fail
pub which : (x y z : Bool) → not (x || y || z) ≡ false → (x ≡ true) ⊎ ((y ≡ true) ⊎ (z ≡ true))
which true y z h = inl refl
which false true z h = inr (inl refl)
which false false true h = inr (inr refl)
which false false false h = cc

not-equal : (a b : ℕ) → (a == b) ≡ false → a ≡ b → ⊥
not-equal a b h e = grind (arith, nat_tests)

two-high : (b c : ℕ) → 0xC3 ≤ b → b < 0xE0 → 0xA0 ≤ code_of_2 b c
two-high b c low high = omega (arith, low, high)

three-high : (b c d : ℕ) → 0xE0 ≤ b → second b c ≡ true → 0xA0 ≤ code_of_3 b c d
three-high b c d low is = grind (arith, nat_tests)

four-high : (b c d e : ℕ) → 0xF0 ≤ b → second b c ≡ true → 0xA0 ≤ code_of_4 b c d e
four-high b c d e low is = grind (arith, nat_tests)

replaced : Quiet (kind_of 0xFFFD) 0xFFFD
replaced = quiet-high 0xFFFD (omega arith)

first-quiet : (bs : List ℕ) → is_still (slice_index bs 0) ≡ true → Quiet (kind_of (or_replacement (decoded bs).char)) (or_replacement (decoded bs).char)
first-quiet bs still =
    let b = slice_index bs 0 in
    let c = slice_index bs 1 in
    let d = slice_index bs 2 in
    let e = slice_index bs 3 in
    let none = still-parts b still in
    let Q : Decoded → Type 0 = λ x. Quiet (kind_of (or_replacement x.char)) (or_replacement x.char) in
    by-shape (length bs) b c d e
    (λ h. subst Q (sym h.1) replaced)
    (λ h. subst Q (sym h.2) (quiet-low b h.1 none.0 none.1))
    (λ h. subst Q (sym h.3) replaced)
    (λ h. subst Q (sym h.2) replaced)
    (λ h. subst Q (sym h.4) replaced)
    (λ h. subst Q (sym h.4) replaced)
    (λ h. let other = not-equal b 0xC2 none.2 in
    subst Q (sym h.4) (quiet-high (code_of_2 b c) (two-high b c (grind arith) h.2)))
    (λ h. subst Q (sym h.5) replaced)
    (λ h. subst Q (sym h.5) replaced)
    (λ h. subst Q (sym h.5) (quiet-high (code_of_3 b c d) (three-high b c d h.1 h.3)))
    (λ h. subst Q (sym h.6) replaced)
    (λ h. subst Q (sym h.6) replaced)
    (λ h. subst Q (sym h.6) (quiet-high (code_of_4 b c d e) (four-high b c d e h.1 h.3)))

still-drop : (n : ℕ) (bs : List ℕ) → AreStill bs → AreStill (drop n bs)
still-drop zero bs h = h
still-drop (suc n) [] h = h
still-drop (suc n) (b ∷ bs) h = still-drop n bs h.1

still-first : (bs : List ℕ) → AreStill bs → 0 < length bs → is_still (slice_index bs 0) ≡ true
still-first [] h some = absurd (omega (arith, some))
still-first (b ∷ bs) h some = h.0

still-tail : (front tail : List ℕ) → AreStill (front ++ tail) → AreStill tail
still-tail [] tail h = h
still-tail (b ∷ front) tail h = still-tail front tail h.1

still-one : (bs : List ℕ) (b : ℕ) → AreStill bs → is_still b ≡ true → AreStill (bs ++ b ∷ [])
still-one [] b h s = (s, tt)
still-one (a ∷ bs) b h s = (h.0, still-one bs b h.1 s)

all-quiet : (n : ℕ) (bs : List ℕ) → length bs ≤ n → AreStill bs → AllQuiet (settled_part bs)
all-quiet zero [] few still = subst AllQuiet (sym (settled-end [] unfinished-empty)) tt
all-quiet zero (b ∷ bs) few still = absurd (omega (arith, few))
all-quiet (suc n) bs few still = ⊎_elim
    (λ yes. subst AllQuiet (sym (settled-end bs yes)) tt)
    (λ ends. let less = shorter bs ends in
    subst AllQuiet (sym (settled-more bs ends))
    (first-quiet bs (still-first bs still (finished-some bs ends)), all-quiet n (drop (decoded bs).size bs) (omega (arith, few, less)) (still-drop (decoded bs).size bs still)))
    (cases_Bool (is_unfinished bs))

-- the unfinished end of still bytes
still-unfinished : (bs : List ℕ) → AreStill bs → AreStill (unfinished_part bs)
still-unfinished bs still =
    let tail = unfinished-tail bs in
    still-tail tail.0 (unfinished_part bs) (subst AreStill tail.1 still)

-- still bytes say what their unfinished end does
only-end : (bs more : List ℕ) → AreStill bs → SaySame (settled_part (bs ++ more)) (settled_part (unfinished_part bs ++ more))
only-end bs more still =
    subst (λ l. SaySame l (settled_part (unfinished_part bs ++ more))) (sym (settled-append bs more))
    (quiet-front (settled_part bs) (settled_part (unfinished_part bs ++ more)) (all-quiet (length bs) bs (omega arith) still))

-- ---- what cuts an unfinished character

module _ (m : ℕ) (no_second : (a : ℕ) → second a m ≡ false) (no_more : continues m ≡ false) where
  cut-decoded : (t : List ℕ) → length t < 4 → 0 < length t → decoded (t ++ m ∷ []) ≡ decoded t
  cut-decoded [] few some = absurd (omega (arith, some))
  cut-decoded (a ∷ []) few some =
      ap (λ b. cond (nat_lt a 0x80) (good a 1) (cond (nat_lt a 0xC2) (bad 1) (cond (nat_lt 0xF4 a) (bad 1)
      (cond b (cond (nat_lt a 0xE0) (good (code_of_2 a m) 2) (bad 2)) (bad 1))))) (no_second a)
  cut-decoded (a ∷ b ∷ []) few some =
      ap (λ t. cond (nat_lt a 0x80) (good a 1) (cond (nat_lt a 0xC2) (bad 1) (cond (nat_lt 0xF4 a) (bad 1)
      (cond (second a b) (cond (nat_lt a 0xE0) (good (code_of_2 a b) 2)
      (cond t (cond (nat_lt a 0xF0) (good (code_of_3 a b m) 3) (bad 3)) (bad 2))) (bad 1))))) no_more
  cut-decoded (a ∷ b ∷ c ∷ []) few some =
      ap (λ t. cond (nat_lt a 0x80) (good a 1) (cond (nat_lt a 0xC2) (bad 1) (cond (nat_lt 0xF4 a) (bad 1)
      (cond (second a b) (cond (nat_lt a 0xE0) (good (code_of_2 a b) 2)
      (cond (continues c) (cond (nat_lt a 0xF0) (good (code_of_3 a b c) 3)
      (cond t (good (code_of_4 a b c m) 4) (bad 3))) (bad 2))) (bad 1))))) no_more
  cut-decoded (a ∷ b ∷ c ∷ d ∷ t) few some = absurd (omega (arith, few))

module _ (m : ℕ) (no_second : (a : ℕ) → second a m ≡ false) (no_more : continues m ≡ false) (cs rest : List ℕ) (settles : Settles (m ∷ []) cs rest) where
  -- the unfinished character is U+FFFD
  pub cut-settles : (a : ℕ) (t : List ℕ) → is_unfinished (a ∷ t) ≡ true → Settles ((a ∷ t) ++ m ∷ []) (0xFFFD ∷ cs) rest
  cut-settles a t h =
      let all = a ∷ t in
      let u = is_unfinished-true all h in
      let same = cut-decoded m no_second no_more all (unfinished-short all h) (omega arith) in
      let whole = u.size in
      let size_is : (decoded (all ++ m ∷ [])).size ≡ (decoded all).size = ap (λ (x : Decoded). x.size) same in
      let long = length-append all (m ∷ []) in
      push-cut all m h (omega arith) (ap (λ (x : Decoded). x.char) same ∙ u.none) (omega (arith, whole, size_is, long)) cs rest settles

  -- and what cut it is read anew
  cut-same : (t : List ℕ) → is_unfinished t ≡ true → (more : List ℕ) → SaySame (settled_part (t ++ m ∷ more)) (settled_part (m ∷ more))
  cut-same [] h more = same-refl (settled_part (m ∷ more))
  cut-same (a ∷ t) h more =
      let all = a ∷ t in
      let cut = cut-settles a t h in
      let one : settled_part (m ∷ more) ≡ cs ++ settled_part (rest ++ more) =
      settled-append (m ∷ []) more ∙ ap (λ l. l ++ settled_part (unfinished_part (m ∷ []) ++ more)) (sym settles.chars)
      ∙ ap (λ l. cs ++ settled_part (l ++ more)) (sym settles.pending) in
      let both : settled_part (all ++ m ∷ more) ≡ 0xFFFD ∷ settled_part (m ∷ more) =
      ap settled_part (sym (append_assoc all (m ∷ []) more)) ∙ settled-append (all ++ m ∷ []) more
      ∙ ap (λ l. l ++ settled_part (unfinished_part (all ++ m ∷ []) ++ more)) (sym cut.chars)
      ∙ ap (λ l. 0xFFFD ∷ cs ++ settled_part (l ++ more)) (sym cut.pending)
      ∙ ap (λ l. 0xFFFD ∷ l) (sym one) in
      subst (λ l. SaySame l (settled_part (m ∷ more))) (sym both) (quiet-front (0xFFFD ∷ []) (settled_part (m ∷ more)) (replaced, tt))

pub no-second-escape : (a : ℕ) → second a 0x1B ≡ false
no-second-escape a = grind (arith, nat_tests)

no-second-bell : (a : ℕ) → second a 0x07 ≡ false
no-second-bell a = grind (arith, nat_tests)

no-second-lead : (a : ℕ) → second a 0xC2 ≡ false
no-second-lead a = grind (arith, nat_tests)

-- a byte that isn't still cuts the unfinished end
not-still-cuts : (m : ℕ) → is_still m ≡ false → (t : List ℕ) → is_unfinished t ≡ true → (more : List ℕ)
    → SaySame (settled_part (t ++ m ∷ more)) (settled_part (m ∷ more))
not-still-cuts m h t u more =
    let Same : ℕ → Type 0 = λ m. SaySame (settled_part (t ++ m ∷ more)) (settled_part (m ∷ more)) in
    let escape = one-ascii 0x1B (omega arith) in
    let bell = one-ascii 0x07 (omega arith) in
    let lead = one-lead-settles 0xC2 (omega arith) (omega arith) in
    ⊎_elim (λ is. subst Same (sym (eqb-true m 0x1B is)) (cut-same 0x1B no-second-escape refl (0x1B ∷ []) [] escape t u more))
    (λ o. ⊎_elim (λ is. subst Same (sym (eqb-true m 0x07 is)) (cut-same 0x07 no-second-bell refl (0x07 ∷ []) [] bell t u more))
    (λ is. subst Same (sym (eqb-true m 0xC2 is)) (cut-same 0xC2 no-second-lead refl [] (0xC2 ∷ []) lead t u more)) o)
    (which (m == 0x1B) (m == 0x07) (m == 0xC2) h)

-- the unfinished end of still bytes is silent
unfinished-silent : (more t : List ℕ) → is_unfinished t ≡ true → AreStill t → SaySame (settled_part (t ++ more)) (settled_part more)
unfinished-silent [] t u still =
    subst (λ l. SaySame (settled_part l) (settled_part [])) (sym (append-nil t))
    (subst (λ l. SaySame l (settled_part [])) (sym (settled-end t u) ∙ refl) (subst (SaySame []) (sym (settled-end [] unfinished-empty)) (same-refl [])))
unfinished-silent (m ∷ more) t u still = ⊎_elim
    (λ yes.
    let with_it = t ++ m ∷ [] in
    let both = still-one t m still yes in
    let alone : AreStill (m ∷ []) = (yes, tt) in
    let there = same-trans (settled_part (with_it ++ more)) (settled_part (unfinished_part with_it ++ more)) (settled_part more)
    (only-end with_it more both) (unfinished-silent more (unfinished_part with_it) (unfinished-unfinished with_it) (still-unfinished with_it both)) in
    let here = same-trans (settled_part (m ∷ more)) (settled_part (unfinished_part (m ∷ []) ++ more)) (settled_part more)
    (only-end (m ∷ []) more alone) (unfinished-silent more (unfinished_part (m ∷ [])) (unfinished-unfinished (m ∷ [])) (still-unfinished (m ∷ []) alone)) in
    subst (λ l. SaySame (settled_part l) (settled_part (m ∷ more))) (append_assoc t (m ∷ []) more)
    (same-trans (settled_part (with_it ++ more)) (settled_part more) (settled_part (m ∷ more)) there (same-sym (settled_part (m ∷ more)) (settled_part more) here)))
    (λ never. not-still-cuts m never t u more)
    (cases_Bool (is_still m))

-- still bytes say nothing
pub still-silent : (bs : List ℕ) → AreStill bs → SaysNothing bs
still-silent bs still more = same-trans (settled_part (bs ++ more)) (settled_part (unfinished_part bs ++ more)) (settled_part more)
    (only-end bs more still) (unfinished-silent more (unfinished_part bs) (unfinished-unfinished bs) (still-unfinished bs still))
