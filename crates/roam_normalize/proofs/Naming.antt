-- The titles of some bytes, front by front.
use Rattle.std.proofs.Common.{◌≡◌, ◌≤◌, ◌<◌, ◌+◌, ◌-◌, ℕ, zero, suc, Bool, true, false, cond, List, [], ◌∷◌, ◌++◌, length, take, drop, refl, sym, ap, ◌∙◌, arith, append_assoc, length-drop, subst, inl, inr, ◌⊎◌, ◌≢◌}
use Rattle.std.specs.Prelude.{◌==◌, ◌&&◌, Option, None, Some}
use Rattle.std.proofs.lemmas.List.{drop-append-le, drop-drop, drop_all, take-append-drop}
use Rattle.roam_normalize.specs.Normalized.{Front, Held, Taken, TitleScan, OpenTitle, Titled, front, held_part, normalized, onward, Normalized, title_scan, title_front, sequence_front, scan, most_body, most_title, one, escape_front, is_title, lead_front, title_end, with_letter}
use Rattle.roam_normalize.specs.Titles.{AreOfTitle, IsLength, front_title, newest, title_of, titles_from, titles_onward, titles_part, with_letters}
use Rattle.std.specs.Option.{option_map, option_or}
use Rattle.std.proofs.lemmas.Bool.Decides.{nat_tests}
use Rattle.roam_normalize.specs.Found.{AreStill, is_still}
use Rattle.roam_normalize.proofs.Going.{parts, run-within, still-front}
use Rattle.roam_normalize.proofs.Spelling.{rest-lent}
use Rattle.roam_normalize.proofs.TitleScans.{letters-titled, scan-letter, scan-stops}
use Rattle.roam_normalize.proofs.Cutting.{FrontFits, SameFront, SameTitle, front-fits, front-same, normalized-step, title-same}

titles_from-same : (m n : ℕ) (bytes : List ℕ) → length bytes ≤ m → length bytes ≤ n → titles_from m bytes ≡ titles_from n bytes
unfolding titles_from
titles_from-same zero zero bytes p q = refl
titles_from-same zero (suc n) [] p q = refl
titles_from-same zero (suc n) (b ∷ rest) p q = absurd (omega (arith, p))
titles_from-same (suc m) zero [] p q = refl
titles_from-same (suc m) zero (b ∷ rest) p q = absurd (omega (arith, q))
titles_from-same (suc m) (suc n) bytes p q = go (λ xs a b. titles_from-same m n xs a b) (front bytes) (front-fits bytes)
  where
    go : ((xs : List ℕ) → length xs ≤ m → length xs ≤ n → titles_from m xs ≡ titles_from n xs) → (f : Front) → FrontFits (length bytes) f
        → titles_onward f bytes (titles_from m) ≡ titles_onward f bytes (titles_from n)
    go again Held fits = refl
    go again (Taken count out) fits =
        let some = fits.0 in
        let most = fits.1 in
        let left = length-drop count bytes in
        ap (λ l. front_title bytes ++ l) (again (drop count bytes) (omega (arith, p, some, most, left)) (omega (arith, q, some, most, left)))

-- the title at the front, and those of the rest
pub titles-step : (bytes : List ℕ) → titles_part bytes ≡ titles_onward (front bytes) bytes titles_part
unfolding titles_part titles_from
titles-step [] = refl
titles-step (b ∷ rest) = go (front (b ∷ rest)) (front-fits (b ∷ rest))
  where
    go : (f : Front) → FrontFits (length (b ∷ rest)) f
        → titles_onward f (b ∷ rest) (titles_from (length rest)) ≡ titles_onward f (b ∷ rest) titles_part
    go Held fits = refl
    go (Taken count out) fits =
        let some = fits.0 in
        let most = fits.1 in
        let left = length-drop count (b ∷ rest) in
        ap (λ l. front_title (b ∷ rest) ++ l)
        (titles_from-same (length rest) (length (drop count (b ∷ rest))) (drop count (b ∷ rest)) (omega (arith, some, most, left)) (omega arith))

-- ---- however they are cut

-- a title at a front that is taken is there with more bytes too
title-stays : (s t : TitleScan) → SameTitle s t → (count : ℕ) (out : List ℕ) → title_front s ≡ Taken count out → title_of t ≡ title_of s
title-stays OpenTitle t same count out is = cc
title-stays (Titled title end) t same count out is = ap title_of same

front-title-stays : (bytes more : List ℕ) (count : ℕ) (out : List ℕ) → front bytes ≡ Taken count out → front_title (bytes ++ more) ≡ front_title bytes
front-title-stays [] more count out is = cc
front-title-stays (b ∷ []) more count out is = lone (b == 0x1B) refl (b == 0xC2) refl more
  where
    lone : (s : Bool) → (b == 0x1B) ≡ s → (t : Bool) → (b == 0xC2) ≡ t → (more : List ℕ) → front_title ((b ∷ []) ++ more) ≡ []
    lone s e t f [] = refl
    lone true e t f (c ∷ more) = absurd (held e)
      where
        held : (b == 0x1B) ≡ true → ⊥
        held e = nothing (ap (λ t. cond t Held (cond (b == 0xC2) Held (one b))) (sym e) ∙ is)
          where
            nothing : Held ≡ Taken count out → ⊥
            nothing h = cc
    lone false e t f (c ∷ more) = ap (λ t. cond (t && c == 0x6B) (title_of (title_scan most_title more)) []) e
front-title-stays (b ∷ c ∷ rest) more count out is = by (b == 0x1B) refl (c == 0x5B) refl (c == 0x6B) refl
  where
    by : (s : Bool) → (b == 0x1B) ≡ s → (t : Bool) → (c == 0x5B) ≡ t → (u : Bool) → (c == 0x6B) ≡ u
        → cond ((b == 0x1B) && (c == 0x6B)) (title_of (title_scan most_title (rest ++ more))) []
        ≡ cond ((b == 0x1B) && (c == 0x6B)) (title_of (title_scan most_title rest)) []
    by false e t f u g = ap (λ s. cond (s && (c == 0x6B)) (title_of (title_scan most_title (rest ++ more))) []) e
        ∙ sym (ap (λ s. cond (s && (c == 0x6B)) (title_of (title_scan most_title rest)) []) e)
    by true e t f false g = ap (λ u. cond ((b == 0x1B) && u) (title_of (title_scan most_title (rest ++ more))) []) g
        ∙ none (title_of (title_scan most_title (rest ++ more)))
        ∙ sym (ap (λ u. cond ((b == 0x1B) && u) (title_of (title_scan most_title rest)) []) g ∙ none (title_of (title_scan most_title rest)))
      where
        none : (x : List (List ℕ)) → cond ((b == 0x1B) && false) x [] ≡ []
        none x = ap (λ s. cond (s && false) x []) e
    by true e true f true g = absurd (grind (arith, nat_tests, f, g))
    by true e false f true g =
        ap (λ l. cond ((b == 0x1B) && (c == 0x6B)) l [])
        (title-stays (title_scan most_title rest) (title_scan most_title (rest ++ more)) (title-same most_title rest more) count out
        (ap (λ u. cond u (title_front (title_scan most_title rest)) (one 0x1B)) (sym g)
        ∙ ap (λ t. cond t (sequence_front (scan most_body rest)) (cond (c == 0x6B) (title_front (title_scan most_title rest)) (one 0x1B))) (sym f)
        ∙ ap (λ s. cond s (escape_front (c ∷ rest)) (cond (b == 0xC2) (lead_front (c ∷ rest)) (one b))) (sym e) ∙ is))

held-step : (b : ℕ) (rest : List ℕ) → front (b ∷ rest) ≡ Held → held_part (b ∷ rest) ≡ b ∷ rest
held-step b rest is = ap (λ (m : Normalized). m.held) (normalized-step (b ∷ rest) ∙ ap (λ f. onward f (b ∷ rest) normalized) is)

taken-step : (bytes : List ℕ) (count : ℕ) (out : List ℕ) → front bytes ≡ Taken count out → held_part bytes ≡ held_part (drop count bytes)
taken-step bytes count out is = ap (λ (m : Normalized). m.held) (normalized-step bytes ∙ ap (λ f. onward f bytes normalized) is)

within : (n : ℕ) (bytes more : List ℕ) → length bytes ≤ n → titles_part (bytes ++ more) ≡ titles_part bytes ++ titles_part (held_part bytes ++ more)
within n [] more few =
    sym (ap (λ l. l ++ titles_part (held_part [] ++ more)) (titles-step [])
    ∙ ap (λ (m : Normalized). titles_part (m.held ++ more)) (normalized-step []))
within zero (b ∷ rest) more few = absurd (omega (arith, few))
within (suc n) (b ∷ rest) more few = go (λ xs a. within n xs more a) (front (b ∷ rest)) refl (front-fits (b ∷ rest)) (front-same (b ∷ rest) more)
  where
    go : ((xs : List ℕ) → length xs ≤ n → titles_part (xs ++ more) ≡ titles_part xs ++ titles_part (held_part xs ++ more)) → (f : Front)
        → front (b ∷ rest) ≡ f → FrontFits (length (b ∷ rest)) f → SameFront f (front ((b ∷ rest) ++ more))
        → titles_part ((b ∷ rest) ++ more) ≡ titles_part (b ∷ rest) ++ titles_part (held_part (b ∷ rest) ++ more)
    go again Held is fits same =
        sym (ap (λ l. l ++ titles_part (held_part (b ∷ rest) ++ more)) (titles-step (b ∷ rest) ∙ ap (λ f. titles_onward f (b ∷ rest) titles_part) is)
        ∙ ap (λ l. titles_part (l ++ more)) (held-step b rest is))
    go again (Taken count out) is fits same =
        let some = fits.0 in
        let most = fits.1 in
        let left = length-drop count (b ∷ rest) in
        let later = drop count (b ∷ rest) in
        let own = front_title (b ∷ rest) in
        titles-step ((b ∷ rest) ++ more) ∙ ap (λ f. titles_onward f ((b ∷ rest) ++ more) titles_part) same
        ∙ ap (λ l. l ++ titles_part (drop count ((b ∷ rest) ++ more))) (front-title-stays (b ∷ rest) more count out is)
        ∙ ap (λ l. own ++ titles_part l) (drop-append-le count (b ∷ rest) more most)
        ∙ ap (λ l. own ++ l) (again later (omega (arith, few, some, most, left)))
        ∙ sym (append_assoc own (titles_part later) (titles_part (held_part later ++ more)))
        ∙ ap (λ l. l ++ titles_part (held_part later ++ more)) (sym (titles-step (b ∷ rest) ∙ ap (λ f. titles_onward f (b ∷ rest) titles_part) is))
        ∙ ap (λ l. titles_part (b ∷ rest) ++ titles_part (l ++ more)) (sym (taken-step (b ∷ rest) count out is))

pub titles-cut : (bytes more : List ℕ) → titles_part (bytes ++ more) ≡ titles_part bytes ++ titles_part (held_part bytes ++ more)
titles-cut bytes more = within (length bytes) bytes more (omega arith)

-- ---- the newest

newest-append : (xs ys : List (List ℕ)) (before : Option (List ℕ)) → newest (xs ++ ys) before ≡ newest ys (newest xs before)
newest-append [] ys before = refl
newest-append (x ∷ xs) ys before = newest-append xs ys (Some x)

newest-some : (xs : List (List ℕ)) (x : List ℕ) (before : Option (List ℕ)) → newest xs (Some x) ≡ option_or (newest xs (Some x)) before
newest-some [] x before = refl
newest-some (y ∷ xs) x before = newest-some xs y before

newest-or : (xs : List (List ℕ)) (before : Option (List ℕ)) → newest xs before ≡ option_or (newest xs None) before
newest-or [] before = refl
newest-or (x ∷ xs) before = newest-some xs x before

map-or : {T U : Type 0} (f : T → U) (o p : Option T) → option_map f (option_or o p) ≡ option_or (option_map f o) (option_map f p)
map-or f None p = refl
map-or f (Some x) p = refl

-- ---- bytes without titles

still-title : (b : ℕ) (rest : List ℕ) → is_still b ≡ true → front_title (b ∷ rest) ≡ []
still-title b [] still = refl
still-title b (c ∷ rest) still =
    ap (λ t. cond (t && c == 0x6B) (title_of (title_scan most_title rest)) []) (parts (b == 0x1B) (b == 0xC2) still).0

still-titles : (run rest : List ℕ) → AreStill run → titles_part (run ++ rest) ≡ titles_part rest
still-titles [] rest still = refl
still-titles (b ∷ run) rest still =
    titles-step (b ∷ (run ++ rest)) ∙ ap (λ f. titles_onward f (b ∷ (run ++ rest)) titles_part) (still-front b (run ++ rest) still.0)
    ∙ ap (λ l. l ++ titles_part (run ++ rest)) (still-title b (run ++ rest) still.0) ∙ still-titles run rest still.1

-- ---- a walk

abbrev lent : List ℕ → ℕ → List ℕ
lent bytes at = take (length bytes - at) (drop at bytes)

module _ (bytes : List ℕ) (at : ℕ) (still : ℕ) (quiet : AreStill (take still (lent bytes at))) where
  skipped : titles_part (drop at bytes) ≡ titles_part (drop (at + still) bytes)
  skipped =
      ap titles_part (sym (take-append-drop still (drop at bytes)))
      ∙ still-titles (take still (drop at bytes)) (drop still (drop at bytes)) (subst (λ l. AreStill (take still l)) (rest-lent bytes at) quiet)
      ∙ ap titles_part (drop-drop still at bytes)

  module _ {T : Type 0} (f : T → List ℕ) (title : Option T)
      (so_far : newest (titles_part bytes) None ≡ newest (titles_part (drop at bytes)) (option_map f title)) where
    here : newest (titles_part bytes) None ≡ newest (titles_part (drop (at + still) bytes)) (option_map f title)
    here = so_far ∙ ap (λ l. newest l (option_map f title)) skipped

    pub walk-held : IsLength 0 (lent bytes (at + still)) → option_map f title ≡ newest (titles_part bytes) None
    walk-held is =
        let step = titles-step (drop (at + still) bytes)
        ∙ ap (λ x. titles_onward x (drop (at + still) bytes) titles_part) (ap front (sym (rest-lent bytes (at + still))) ∙ is) in
        sym (here ∙ ap (λ l. newest l (option_map f title)) step)

    pub walk-on : (n : ℕ) (found : Option T) → (n ≡ 0 → ⊥) → IsLength n (lent bytes (at + still))
        → newest (front_title (lent bytes (at + still))) None ≡ option_map f found
        → newest (titles_part bytes) None ≡ newest (titles_part (drop (at + still + n) bytes)) (option_map f (option_or found title))
    walk-on zero found some is own = absurd (some refl)
    walk-on (suc n) found some is own =
        let rest = drop (at + still) bytes in
        let step = titles-step rest ∙ ap (λ x. titles_onward x rest titles_part) (ap front (sym (rest-lent bytes (at + still))) ∙ is.1) in
        here ∙ ap (λ l. newest l (option_map f title)) step
        ∙ newest-append (front_title rest) (titles_part (drop (suc n) rest)) (option_map f title)
        ∙ ap (newest (titles_part (drop (suc n) rest))) (newest-or (front_title rest) (option_map f title)
        ∙ ap (λ l. option_or (newest (front_title l) None) (option_map f title)) (sym (rest-lent bytes (at + still)))
        ∙ ap (λ o. option_or o (option_map f title)) own ∙ sym (map-or f found title))
        ∙ ap (λ l. newest (titles_part l) (option_map f (option_or found title))) (drop-drop (suc n) (at + still) bytes)

  pub walk-within : (n : ℕ) → at ≤ length bytes → still ≤ length (lent bytes at) → n ≤ length (lent bytes (at + still)) → at + still + n ≤ length bytes
  walk-within n low first later = run-within bytes (at + still) n (run-within bytes at still low first) later

pub walk-ended : {T : Type 0} (f : T → List ℕ) (title : Option T) (bytes : List ℕ) (at : ℕ) → length bytes ≤ at
    → newest (titles_part bytes) None ≡ newest (titles_part (drop at bytes)) (option_map f title) → option_map f title ≡ newest (titles_part bytes) None
walk-ended f title bytes at all so_far =
    sym (so_far ∙ ap (λ l. newest (titles_part l) (option_map f title)) (drop_all at bytes all) ∙ ap (λ l. newest l (option_map f title)) (titles-step []))

-- ---- what is a title

letters : (room : ℕ) (t rest : List ℕ) → AreOfTitle t → length t ≤ room
    → title_scan room (t ++ rest) ≡ with_letters t (title_scan (room - length t) rest)
letters room [] rest are few = let same : room ≡ room - 0 = omega arith in ap (λ n. title_scan n rest) same
letters zero (b ∷ t) rest are few = absurd (omega (arith, few))
letters (suc room) (b ∷ t) rest are few =
    let low : suc room - 1 ≡ room = omega arith in
    let same : room - length t ≡ suc room - suc (length t) = omega arith in
    scan-letter (suc room) b (t ++ rest) (omega arith) are.0 ∙ ap (λ n. with_letter b (title_scan n (t ++ rest))) low
    ∙ ap (with_letter b) (letters room t rest are.1 (omega (arith, few)))
    ∙ ap (λ n. with_letter b (with_letters t (title_scan n rest))) same

drop-behind : (t rest : List ℕ) (k : ℕ) → drop (length t + k) (t ++ rest) ≡ drop k rest
drop-behind [] rest k = let same : 0 + k ≡ k = omega arith in ap (λ n. drop n rest) same
drop-behind (b ∷ t) rest k =
    let same : suc (length t) + k ≡ suc (length t + k) = omega arith in
    ap (λ n. drop n (b ∷ (t ++ rest))) same ∙ drop-behind t rest k

module _ (t rest : List ℕ) (end : ℕ) (is : title_scan most_title (t ++ rest) ≡ Titled t end) where
  behind-title : drop (length t + end + 2) (0x1B ∷ 0x6B ∷ (t ++ rest)) ≡ drop end rest
  behind-title =
      let two : length t + end + 2 ≡ suc (suc (length t + end)) = omega arith in
      ap (λ n. drop n (0x1B ∷ 0x6B ∷ (t ++ rest))) two ∙ drop-behind t rest end

  pub title-goes : normalized (0x1B ∷ 0x6B ∷ (t ++ rest)) ≡ normalized (drop end rest)
  title-goes =
      normalized-step (0x1B ∷ 0x6B ∷ (t ++ rest))
      ∙ ap (λ s. onward (title_front s) (0x1B ∷ 0x6B ∷ (t ++ rest)) normalized) is ∙ ap normalized behind-title

  pub title-named : titles_part (0x1B ∷ 0x6B ∷ (t ++ rest)) ≡ t ∷ titles_part (drop end rest)
  title-named =
      titles-step (0x1B ∷ 0x6B ∷ (t ++ rest))
      ∙ ap (λ s. titles_onward (title_front s) (0x1B ∷ 0x6B ∷ (t ++ rest)) titles_part) is
      ∙ ap (λ s. title_of s ++ titles_part (drop (length t + end + 2) (0x1B ∷ 0x6B ∷ (t ++ rest)))) is
      ∙ ap (λ l. t ∷ titles_part l) behind-title

-- a byte that ends a title that is not full
ends : (t rest : List ℕ) (b end : ℕ) → AreOfTitle t → length t < most_title → is_title b ≡ false → title_end false (b ∷ rest) ≡ Titled [] end
    → title_scan most_title (t ++ b ∷ rest) ≡ Titled t end
ends t rest b end are few no_letter is =
    letters most_title t (b ∷ rest) are (omega (arith, few))
    ∙ ap (with_letters t) (scan-stops (most_title - length t) (b ∷ rest) false (λ none. absurd (omega (arith, none, few))) (λ some. refl)
    (λ some. inr no_letter) ∙ is)
    ∙ letters-titled t end

pub title-out : (t more : List ℕ) → AreOfTitle t → length t < most_title → title_scan most_title (t ++ 0x1B ∷ 0x5C ∷ more) ≡ Titled t 2
title-out t more are few = ends t (0x5C ∷ more) 0x1B 2 are few refl refl

pub title-cancelled : (t more : List ℕ) (b : ℕ) → AreOfTitle t → length t < most_title → (b ≡ 0x18) ⊎ (b ≡ 0x1A)
    → title_scan most_title (t ++ b ∷ more) ≡ Titled t 1
title-cancelled t more b are few (inl e) = ap (λ c. title_scan most_title (t ++ c ∷ more)) e ∙ ends t more 0x18 1 are few refl refl
title-cancelled t more b are few (inr e) = ap (λ c. title_scan most_title (t ++ c ∷ more)) e ∙ ends t more 0x1A 1 are few refl refl

pub title-broken : (t more : List ℕ) (c : ℕ) → AreOfTitle t → length t < most_title → c ≢ 0x5C
    → title_scan most_title (t ++ 0x1B ∷ c ∷ more) ≡ Titled t 0
title-broken t more c are few other =
    ends t (c ∷ more) 0x1B 0 are few refl (ap (λ x. Titled [] (cond x 2 0)) (eq-no c other))
  where
    eq-no : (c : ℕ) → c ≢ 0x5C → (c == 0x5C) ≡ false
    eq-no c h = grind (arith, nat_tests)

pub title-full : (t more : List ℕ) (b : ℕ) → AreOfTitle t → length t ≡ most_title → title_scan most_title (t ++ b ∷ more) ≡ Titled t 0
title-full t more b are full =
    let none : most_title - length t ≡ 0 = omega (arith, full) in
    letters most_title t (b ∷ more) are (omega (arith, full))
    ∙ ap (λ n. with_letters t (title_scan n (b ∷ more))) none ∙ letters-titled t 0
