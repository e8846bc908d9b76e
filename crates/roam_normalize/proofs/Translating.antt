-- The output for some bytes, and the bytes still to be read.
use Rattle.std.proofs.Common.{◌≡◌, ◌≤◌, ◌+◌, ◌-◌, ℕ, zero, suc, List, [], ◌++◌, length, take, drop, refl, sym, ap, ◌∙◌, append_assoc}
use Rattle.std.proofs.lemmas.List.{append-nil, drop-drop, drop_all, take-append-drop}
use Rattle.roam_normalize.specs.Normalized.{Taken, Goes, GoesThrough, Normalized, behind, front, held_part, normalized, normalized_part, onward}
use Rattle.roam_normalize.specs.Found.{AreStill}
use Rattle.roam_normalize.proofs.Cutting.{normalized-step, normalized-append}
use Rattle.roam_normalize.proofs.Spelling.{rest-lent}
use Rattle.roam_normalize.proofs.Going.{still-goes}

abbrev lent : List ℕ → ℕ → List ℕ
lent bytes at = take (length bytes - at) (drop at bytes)

module _ (bytes : List ℕ) (at : ℕ) (out : List ℕ) (so_far : normalized bytes ≡ behind out (normalized (drop at bytes))) where
  -- a run went through
  pub run-on : (same : ℕ) → GoesThrough (take same (lent bytes at)) (drop same (lent bytes at))
      → normalized bytes ≡ behind (out ++ take same (lent bytes at)) (normalized (drop (at + same) bytes))
  run-on same goes =
      so_far
      ∙ ap (λ l. behind out (normalized l)) (sym (rest-lent bytes at) ∙ sym (take-append-drop same (lent bytes at)))
      ∙ ap (behind out) goes
      ∙ ap (λ l. record { out = l; held = (normalized (drop same (lent bytes at))).held }) (sym (append_assoc out (take same (lent bytes at)) (normalized (drop same (lent bytes at))).out))
      ∙ ap (λ l. behind (out ++ take same (lent bytes at)) (normalized (drop same l))) (rest-lent bytes at)
      ∙ ap (λ l. behind (out ++ take same (lent bytes at)) (normalized l)) (drop-drop same at bytes)

  -- all was read
  pub all-read : length bytes ≤ at → (out ≡ normalized_part bytes) × ([] ≡ held_part bytes)
  all-read all =
      let last : normalized bytes ≡ behind out (record { out = []; held = [] }) =
      so_far ∙ ap (λ l. behind out (normalized l)) (drop_all at bytes all) ∙ ap (behind out) (normalized-step []) in (
        sym (ap (λ (m : Normalized). m.out) last ∙ append-nil out),
        sym (ap (λ (m : Normalized). m.held) last),
      )

  -- the front is kept back
  pub rest-held : (new : List ℕ) → Goes zero (lent bytes at) out new → (new ≡ normalized_part bytes) × (lent bytes at ≡ held_part bytes)
  rest-held new goes =
      let last : normalized bytes ≡ behind out (record { out = []; held = drop at bytes }) =
      so_far ∙ ap (behind out) (normalized-step (drop at bytes) ∙ ap (λ f. onward f (drop at bytes) normalized) (ap front (sym (rest-lent bytes at)) ∙ goes.0)) in (
        goes.1 ∙ sym (ap (λ (m : Normalized). m.out) last ∙ append-nil out),
        rest-lent bytes at ∙ sym (ap (λ (m : Normalized). m.held) last),
      )

  -- or went out as it is meant
  went : (count : ℕ) (new text : List ℕ) → front (lent bytes at) ≡ Taken count text → new ≡ out ++ text
      → normalized bytes ≡ behind new (normalized (drop (at + count) bytes))
  went count new text is same =
      so_far ∙ ap (behind out) (normalized-step (drop at bytes) ∙ ap (λ f. onward f (drop at bytes) normalized) (ap front (sym (rest-lent bytes at)) ∙ is))
      ∙ ap (λ l. record { out = l; held = (normalized (drop count (drop at bytes))).held }) (sym (append_assoc out text (normalized (drop count (drop at bytes))).out))
      ∙ ap (λ l. behind l (normalized (drop count (drop at bytes)))) (sym same)
      ∙ ap (λ l. behind new (normalized l)) (drop-drop count at bytes)

  pub front-on : (count : ℕ) (new : List ℕ) → (count ≡ 0 → ⊥) → Goes count (lent bytes at) out new → normalized bytes ≡ behind new (normalized (drop (at + count) bytes))
  front-on zero new some goes = absurd (some refl)
  front-on (suc n) new some goes = went (suc n) new goes.0 goes.1 goes.2

-- ---- laws

pub out-cut : (bytes more : List ℕ) → normalized_part (bytes ++ more) ≡ normalized_part bytes ++ normalized_part (held_part bytes ++ more)
out-cut bytes more = ap (λ (m : Normalized). m.out) (normalized-append bytes more)

pub held-cut : (bytes more : List ℕ) → held_part (bytes ++ more) ≡ held_part (held_part bytes ++ more)
held-cut bytes more = ap (λ (m : Normalized). m.held) (normalized-append bytes more)

pub still-same : (bytes : List ℕ) → AreStill bytes → normalized_part bytes ≡ bytes
still-same bytes still =
    ap normalized_part (sym (append-nil bytes)) ∙ ap (λ (m : Normalized). m.out) (still-goes bytes [] still)
    ∙ ap (λ (m : Normalized). bytes ++ m.out) (normalized-step []) ∙ append-nil bytes
