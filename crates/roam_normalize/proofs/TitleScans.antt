-- The code finds the title that the definitions give.
use Rattle.std.proofs.Common.{◌≡◌, ◌≤◌, ◌<◌, ◌+◌, ◌-◌, ◌⊎◌, inl, inr, ℕ, zero, suc, Bool, true, false, cond, List, [], ◌∷◌, ◌++◌, length, take, drop, length-drop, refl, sym, ap, ◌∙◌, arith, subst}
use Rattle.std.specs.Prelude.{◌==◌, slice_index}
use Rattle.std.proofs.lemmas.List.{drop_more, get_or-drop, take_more}
use Rattle.std.proofs.lemmas.Bool.Decides.{nat_tests}
use Rattle.roam_normalize.specs.Normalized.{TitleScan, OpenTitle, Titled, is_title, most_title, title_end, title_scan, with_letter}
use Rattle.roam_normalize.specs.Titles.{with_letters}
use Rattle.roam_normalize.proofs.Spelling.{rest-lent}

letters-more : (bytes : List ℕ) (b : ℕ) (s : TitleScan) → with_letters (bytes ++ b ∷ []) s ≡ with_letters bytes (with_letter b s)
letters-more [] b s = refl
letters-more (a ∷ bytes) b s = ap (with_letter a) (letters-more bytes b s)

letters-open : (bytes : List ℕ) → with_letters bytes OpenTitle ≡ OpenTitle
letters-open [] = refl
letters-open (b ∷ bytes) = ap (with_letter b) (letters-open bytes)

pub letters-titled : (bytes : List ℕ) (end : ℕ) → with_letters bytes (Titled [] end) ≡ Titled bytes end
letters-titled [] end = refl
letters-titled (b ∷ bytes) end = ap (with_letter b) (letters-titled bytes end)

pub scan-letter : (room b : ℕ) (rest : List ℕ) → 0 < room → is_title b ≡ true → title_scan room (b ∷ rest) ≡ with_letter b (title_scan (room - 1) rest)
scan-letter zero b rest some is = absurd (omega (arith, some))
scan-letter (suc room) b rest some is =
    ap (λ t. cond t (with_letter b (title_scan room rest)) (title_end false (b ∷ rest))) is
    ∙ ap (λ n. with_letter b (title_scan n rest)) (omega arith)

pub title-on : (bytes : List ℕ) (at : ℕ) → at < length bytes → at < most_title → is_title (slice_index bytes at) ≡ true
    → title_scan most_title bytes ≡ with_letters (take at bytes) (title_scan (most_title - at) (drop at bytes))
    → title_scan most_title bytes ≡ with_letters (take (at + 1) bytes) (title_scan (most_title - (at + 1)) (drop (at + 1) bytes))
title-on bytes at less few is so_far =
    so_far
    ∙ ap (λ l. with_letters (take at bytes) (title_scan (most_title - at) l)) (drop_more bytes at 0 less)
    ∙ ap (with_letters (take at bytes)) (scan-letter (most_title - at) (slice_index bytes at) (drop (at + 1) bytes) (omega (arith, few)) is)
    ∙ sym (letters-more (take at bytes) (slice_index bytes at) (title_scan (most_title - at - 1) (drop (at + 1) bytes)))
    ∙ ap (λ l. with_letters l (title_scan (most_title - at - 1) (drop (at + 1) bytes))) (sym (take_more bytes at 0 less))
    ∙ ap (λ n. with_letters (take (at + 1) bytes) (title_scan n (drop (at + 1) bytes))) (omega arith)

-- if no byte of a title follows, its end does
pub scan-stops : (room : ℕ) (rest : List ℕ) (full : Bool) → (room ≡ 0 → full ≡ true) → (0 < room → full ≡ false)
    → (0 < length rest → (room ≡ 0) ⊎ (is_title (slice_index rest 0) ≡ false)) → title_scan room rest ≡ title_end full rest
scan-stops zero rest full is none stops = ap (λ t. title_end t rest) (sym (is refl))
scan-stops (suc room) [] full is none stops = refl
scan-stops (suc room) (b ∷ rest) full is none stops =
    ap (λ t. cond t (with_letter b (title_scan room rest)) (title_end false (b ∷ rest))) (other (stops (omega arith)))
    ∙ ap (λ t. title_end t (b ∷ rest)) (sym (none (omega arith)))
  where
    other : (suc room ≡ 0) ⊎ (is_title b ≡ false) → is_title b ≡ false
    other (inl e) = absurd (omega (arith, e))
    other (inr e) = e

module _ (bytes : List ℕ) (at : ℕ) (found : title_scan most_title bytes ≡ with_letters (take at bytes) (title_scan (most_title - at) (drop at bytes)))
    (full : Bool) (ends : title_scan (most_title - at) (drop at bytes) ≡ title_end full (drop at bytes)) where
  pub title-open : title_end full (drop at bytes) ≡ OpenTitle → title_scan most_title bytes ≡ OpenTitle
  title-open is = found ∙ ap (with_letters (take at bytes)) (ends ∙ is) ∙ letters-open (take at bytes)

  pub title-whole : (end : ℕ) → title_end full (drop at bytes) ≡ Titled [] end → title_scan most_title bytes ≡ Titled (take at bytes) end
  title-whole end is = found ∙ ap (with_letters (take at bytes)) (ends ∙ is) ∙ letters-titled (take at bytes) end

-- the bytes behind a title that stopped
module _ (rest : List ℕ) (at : ℕ) (within : at ≤ length rest) (few : at ≤ most_title)
    (found : title_scan most_title rest ≡ with_letters (take at rest) (title_scan (most_title - at) (drop at rest)))
    (stops : at < length rest → (most_title ≤ at) ⊎ (is_title (slice_index rest at) ≡ false)) where
  abbrev behind : List ℕ
  behind = take (length rest - at) (drop at rest)

  stopped : title_scan (most_title - at) behind ≡ title_end (at == most_title) behind
  stopped =
      scan-stops (most_title - at) behind (at == most_title) (λ none. grind (arith, nat_tests, none, few))
      (λ some. grind (arith, nat_tests, some)) here
    where
      here : 0 < length behind → (most_title - at ≡ 0) ⊎ (is_title (slice_index behind 0) ≡ false)
      here some =
          let long = length-drop at rest in
          let same = ap length (rest-lent rest at) in
          by (stops (omega (arith, some, long, same)))
        where
          by : (most_title ≤ at) ⊎ (is_title (slice_index rest at) ≡ false) → (most_title - at ≡ 0) ⊎ (is_title (slice_index behind 0) ≡ false)
          by (inl e) = inl (omega (arith, e))
          by (inr e) =
              inr (ap (λ l. is_title (slice_index l 0)) (rest-lent rest at)
              ∙ ap is_title (get_or-drop at rest 0 0 ∙ ap (slice_index rest) (omega arith)) ∙ e)

  pub rest-open : title_end (at == most_title) behind ≡ OpenTitle → title_scan most_title rest ≡ OpenTitle
  rest-open is =
      title-open rest at found (at == most_title)
      (subst (λ l. title_scan (most_title - at) l ≡ title_end (at == most_title) l) (rest-lent rest at) stopped)
      (subst (λ l. title_end (at == most_title) l ≡ OpenTitle) (rest-lent rest at) is)

  pub rest-whole : (end : ℕ) → title_end (at == most_title) behind ≡ Titled [] end → title_scan most_title rest ≡ Titled (take at rest) end
  rest-whole end is =
      title-whole rest at found (at == most_title)
      (subst (λ l. title_scan (most_title - at) l ≡ title_end (at == most_title) l) (rest-lent rest at) stopped) end
      (subst (λ l. title_end (at == most_title) l ≡ Titled [] end) (rest-lent rest at) is)

  pub whole-within : (end : ℕ) → end ≤ length behind → at + end ≤ length rest
  whole-within end most =
      let long = length-drop at rest in
      let same = ap length (rest-lent rest at) in
      omega (arith, most, long, same, within)
