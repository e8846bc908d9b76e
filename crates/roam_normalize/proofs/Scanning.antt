-- The code finds the front that the definitions give.
use Rattle.std.proofs.Common.{◌≡◌, ◌≤◌, ◌<◌, ◌+◌, ◌-◌, ◌⊎◌, ⊎_elim, inl, inr, ℕ, zero, suc, true, false, cond, List, [], ◌∷◌, ◌++◌, length, take, drop, refl, sym, ap, ◌∙◌, arith}
use Rattle.std.specs.Prelude.{slice_index}
use Rattle.std.proofs.lemmas.List.{drop_all, drop_more, take_more}
use Rattle.roam_normalize.specs.Normalized.{Scan, Unfinished, Neither, Sequence, is_body, is_final, most_body, scan, with_byte}
use Rattle.roam_normalize.specs.Found.{with_bytes}

with-more : (bytes : List ℕ) (b : ℕ) (s : Scan) → with_bytes (bytes ++ b ∷ []) s ≡ with_bytes bytes (with_byte b s)
with-more [] b s = refl
with-more (a ∷ bytes) b s = ap (with_byte a) (with-more bytes b s)

with-unfinished : (bytes : List ℕ) → with_bytes bytes Unfinished ≡ Unfinished
with-unfinished [] = refl
with-unfinished (b ∷ bytes) = ap (with_byte b) (with-unfinished bytes)

with-neither : (bytes : List ℕ) → with_bytes bytes Neither ≡ Neither
with-neither [] = refl
with-neither (b ∷ bytes) = ap (with_byte b) (with-neither bytes)

with-sequence : (bytes : List ℕ) (last : ℕ) → with_bytes bytes (Sequence [] last) ≡ Sequence bytes last
with-sequence [] last = refl
with-sequence (b ∷ bytes) last = ap (with_byte b) (with-sequence bytes last)

scan-nothing : (room : ℕ) → scan room [] ≡ Unfinished
scan-nothing zero = refl
scan-nothing (suc room) = refl

-- a byte allowed between CSI and a final byte
scan-body : (room b : ℕ) (rest : List ℕ) → 0 < room → is_body b ≡ true → scan room (b ∷ rest) ≡ with_byte b (scan (room - 1) rest)
scan-body zero b rest some is = absurd (omega (arith, some))
scan-body (suc room) b rest some is =
    ap (λ t. cond t (with_byte b (scan room rest)) (cond (is_final b) (Sequence [] b) Neither)) is
    ∙ ap (λ n. with_byte b (scan n rest)) (omega arith)

-- another
scan-end : (room b : ℕ) (rest : List ℕ) → (room ≡ 0) ⊎ (is_body b ≡ false) → scan room (b ∷ rest) ≡ cond (is_final b) (Sequence [] b) Neither
scan-end zero b rest h = refl
scan-end (suc room) b rest h = ⊎_elim (λ e. absurd (omega (arith, e)))
    (λ e. ap (λ t. cond t (with_byte b (scan room rest)) (cond (is_final b) (Sequence [] b) Neither)) e) h

at-drop : (bytes : List ℕ) (at : ℕ) → at < length bytes → drop at bytes ≡ slice_index bytes at ∷ drop (at + 1) bytes
at-drop bytes at less = drop_more bytes at 0 less

pub scan-on : (bytes : List ℕ) (at : ℕ) → at < length bytes → at < most_body → is_body (slice_index bytes at) ≡ true
    → scan most_body bytes ≡ with_bytes (take at bytes) (scan (most_body - at) (drop at bytes))
    → scan most_body bytes ≡ with_bytes (take (at + 1) bytes) (scan (most_body - (at + 1)) (drop (at + 1) bytes))
scan-on bytes at less few is so_far =
    so_far
    ∙ ap (λ l. with_bytes (take at bytes) (scan (most_body - at) l)) (at-drop bytes at less)
    ∙ ap (with_bytes (take at bytes)) (scan-body (most_body - at) (slice_index bytes at) (drop (at + 1) bytes) (omega (arith, few)) is)
    ∙ sym (with-more (take at bytes) (slice_index bytes at) (scan (most_body - at - 1) (drop (at + 1) bytes)))
    ∙ ap (λ l. with_bytes l (scan (most_body - at - 1) (drop (at + 1) bytes))) (sym (take_more bytes at 0 less))
    ∙ ap (λ n. with_bytes (take (at + 1) bytes) (scan n (drop (at + 1) bytes))) (omega arith)

module _ (bytes : List ℕ) (at : ℕ) (found : scan most_body bytes ≡ with_bytes (take at bytes) (scan (most_body - at) (drop at bytes))) where
  pub scan-unfinished : length bytes ≤ at → scan most_body bytes ≡ Unfinished
  scan-unfinished all =
      found ∙ ap (λ l. with_bytes (take at bytes) (scan (most_body - at) l)) (drop_all at bytes all)
      ∙ ap (with_bytes (take at bytes)) (scan-nothing (most_body - at)) ∙ with-unfinished (take at bytes)

  ends : at < length bytes → (most_body ≤ at) ⊎ (is_body (slice_index bytes at) ≡ false)
      → scan most_body bytes ≡ with_bytes (take at bytes) (cond (is_final (slice_index bytes at)) (Sequence [] (slice_index bytes at)) Neither)
  ends less stops =
      found ∙ ap (λ l. with_bytes (take at bytes) (scan (most_body - at) l)) (at-drop bytes at less)
      ∙ ap (with_bytes (take at bytes)) (scan-end (most_body - at) (slice_index bytes at) (drop (at + 1) bytes)
      (⊎_elim (λ e. inl (omega (arith, e))) (λ e. inr e) stops))

  pub scan-neither : at < length bytes → (most_body ≤ at) ⊎ (is_body (slice_index bytes at) ≡ false) → is_final (slice_index bytes at) ≡ false → scan most_body bytes ≡ Neither
  scan-neither less stops is =
      ends less stops ∙ ap (λ t. with_bytes (take at bytes) (cond t (Sequence [] (slice_index bytes at)) Neither)) is ∙ with-neither (take at bytes)

  pub scan-sequence : at < length bytes → (most_body ≤ at) ⊎ (is_body (slice_index bytes at) ≡ false) → is_final (slice_index bytes at) ≡ true
      → scan most_body bytes ≡ Sequence (take at bytes) (slice_index bytes at)
  scan-sequence less stops is =
      ends less stops ∙ ap (λ t. with_bytes (take at bytes) (cond t (Sequence [] (slice_index bytes at)) Neither)) is ∙ with-sequence (take at bytes) (slice_index bytes at)
