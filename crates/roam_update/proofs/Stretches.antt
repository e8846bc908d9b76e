-- Stretches of two lists of cells: one that is the same is skipped, one that differs is a run.
use Rattle.std.proofs.Common.{◌≡◌, ℕ, zero, suc, ◌+◌, ◌-◌, ◌<◌, ◌≤◌, Bool, true, false, List, [], ◌∷◌, length, take, drop, refl, sym, ap, subst, ◌∙◌, arith, inl, inr}
use Rattle.std.specs.Prelude.{slice_range}
use Rattle.std.proofs.lemmas.Bool.{cases_lt}
use Rattle.std.proofs.lemmas.List.{drop_more, drop_all}
use Rattle.roam_cells.specs.Glyph.{Glyph, blank}
use Rattle.roam_cells.specs.Place.{glyph_at}
use Rattle.roam_cells.specs.Same.{same}
use Rattle.roam_update.specs.Runs.{Run, lead, runs_from}
use Rattle.roam_cells.proofs.SameCells.{same_glyph, other_glyph}

-- ---- the case that both lists go on

module _ (b c : Glyph) (bs cs : List Glyph) where
  pub lead_same : same b c ≡ true → lead (b ∷ bs) (c ∷ cs) ≡ []
  unfolding lead
  lead_same e = rw e refl

  pub lead_more : same b c ≡ false → lead (b ∷ bs) (c ∷ cs) ≡ c ∷ lead bs cs
  unfolding lead
  lead_more e = rw e refl

  pub runs_same : (inside : Bool) (k : ℕ) → same b c ≡ true → runs_from inside k (b ∷ bs) (c ∷ cs) ≡ runs_from false (k + 1) bs cs
  unfolding runs_from
  runs_same inside k e = rw e refl

  pub runs_inside : (k : ℕ) → same b c ≡ false → runs_from true k (b ∷ bs) (c ∷ cs) ≡ runs_from true (k + 1) bs cs
  unfolding runs_from
  runs_inside k e = rw e refl

  pub runs_begin : (k : ℕ) → same b c ≡ false → runs_from false k (b ∷ bs) (c ∷ cs) ≡ record { first = k; cells = c ∷ lead bs cs } ∷ runs_from true (k + 1) bs cs
  unfolding runs_from
  runs_begin k e = rw e refl

pub runs_none : (inside : Bool) (k : ℕ) (cs : List Glyph) → runs_from inside k [] cs ≡ []
unfolding runs_from
runs_none inside k cs = refl

pub runs_past : (inside : Bool) (k : ℕ) (b : Glyph) (bs : List Glyph) → runs_from inside k (b ∷ bs) [] ≡ []
unfolding runs_from
runs_past inside k b bs = refl

pub lead_none : (cs : List Glyph) → lead [] cs ≡ []
unfolding lead
lead_none cs = refl

-- ---- the runs from a place on

module _ (base cells : List Glyph) (len : length base ≡ length cells) where
  abbrev pub left : Bool → ℕ → List Run
  left inside k = runs_from inside k (drop k base) (drop k cells)

  -- a property of both lists from a place on is one at each later place
  ends : (P : List Glyph → List Glyph → Type 0) (k : ℕ) → k < length cells
      → P (glyph_at base k ∷ drop (k + 1) base) (glyph_at cells k ∷ drop (k + 1) cells) → P (drop k base) (drop k cells)
  ends P k h p =
      let g : k < length base = omega (arith, h, len) in
      subst (λ (x : List Glyph). P x (drop k cells)) (sym (drop_more base k blank g))
      (subst (λ (y : List Glyph). P (glyph_at base k ∷ drop (k + 1) base) y) (sym (drop_more cells k blank h)) p)

  same_step : (inside : Bool) (k : ℕ) → k < length cells → glyph_at base k ≡ glyph_at cells k → left inside k ≡ left false (k + 1)
  same_step inside k h e =
      ends (λ x y. runs_from inside k x y ≡ left false (k + 1)) k h
      (runs_same (glyph_at base k) (glyph_at cells k) (drop (k + 1) base) (drop (k + 1) cells) inside k (same_glyph _ _ e))

  inside_step : (k : ℕ) → k < length cells → ¬ (glyph_at base k ≡ glyph_at cells k) → left true k ≡ left true (k + 1)
  inside_step k h e =
      ends (λ x y. runs_from true k x y ≡ left true (k + 1)) k h
      (runs_inside (glyph_at base k) (glyph_at cells k) (drop (k + 1) base) (drop (k + 1) cells) k (other_glyph _ _ e))

  pub at_end : (inside : Bool) (k : ℕ) → length cells ≤ k → left inside k ≡ []
  at_end inside k h =
      ap (λ (x : List Glyph). runs_from inside k x (drop k cells)) (drop_all k base (omega (arith, h, len))) ∙ runs_none inside k (drop k cells)

  -- a stretch that is the same
  pub skipped : (n k : ℕ) → k + n ≤ length cells → ((i : ℕ) → k ≤ i → i < k + n → glyph_at base i ≡ glyph_at cells i) → left false k ≡ left false (k + n)
  skipped zero k h each = let e : k ≡ k + 0 = omega arith in ap (left false) e
  skipped (suc n) k h each =
      let e : k + 1 + n ≡ k + suc n = omega arith in
      same_step false k (omega (arith, h)) (each k (omega arith) (omega arith))
      ∙ skipped n (k + 1) (omega (arith, h)) (λ i p q. each i (omega (arith, p)) (omega (arith, q))) ∙ ap (left false) e

  stops : (k : ℕ) → (k < length cells → glyph_at base k ≡ glyph_at cells k) → left true k ≡ left false k
  stops k e =
      elim (cases_lt k (length cells)) [
        | inl h ↦ same_step true k h (e h) ∙ sym (same_step false k h (e h))
        | inr h ↦ at_end true k h ∙ sym (at_end false k h)
      ]

  stops_lead : (k : ℕ) → (k < length cells → glyph_at base k ≡ glyph_at cells k) → lead (drop k base) (drop k cells) ≡ []
  stops_lead k e =
      elim (cases_lt k (length cells)) [
        | inl h ↦
            ends (λ x y. lead x y ≡ []) k h
            (lead_same (glyph_at base k) (glyph_at cells k) (drop (k + 1) base) (drop (k + 1) cells) (same_glyph _ _ (e h)))
        | inr h ↦ ap (λ (x : List Glyph). lead x (drop k cells)) (drop_all k base (omega (arith, h, len))) ∙ lead_none (drop k cells)
      ]

  -- the rest of a stretch that differs
  rest_lead : (n k : ℕ) → k + n ≤ length cells → ((i : ℕ) → k ≤ i → i < k + n → ¬ (glyph_at base i ≡ glyph_at cells i))
      → (k + n < length cells → glyph_at base (k + n) ≡ glyph_at cells (k + n)) → lead (drop k base) (drop k cells) ≡ take n (drop k cells)
  rest_lead zero k h each last =
      let e : k + 0 ≡ k = omega arith in
      stops_lead k (λ p. subst (λ (j : ℕ). glyph_at base j ≡ glyph_at cells j) e (last (omega (arith, p))))
  rest_lead (suc n) k h each last =
      let e : k + suc n ≡ k + 1 + n = omega arith in
      let more = rest_lead n (k + 1) (omega (arith, h)) (λ i p q. each i (omega (arith, p)) (omega (arith, q)))
      (λ p. subst (λ (j : ℕ). glyph_at base j ≡ glyph_at cells j) e (last (omega (arith, p)))) in
      ends (λ x y. lead x y ≡ take (suc n) y) k (omega (arith, h))
      (lead_more (glyph_at base k) (glyph_at cells k) (drop (k + 1) base) (drop (k + 1) cells) (other_glyph _ _ (each k (omega arith) (omega arith)))
      ∙ ap (λ (x : List Glyph). glyph_at cells k ∷ x) more)

  rest_runs : (n k : ℕ) → k + n ≤ length cells → ((i : ℕ) → k ≤ i → i < k + n → ¬ (glyph_at base i ≡ glyph_at cells i))
      → (k + n < length cells → glyph_at base (k + n) ≡ glyph_at cells (k + n)) → left true k ≡ left false (k + n)
  rest_runs zero k h each last =
      let e : k + 0 ≡ k = omega arith in
      stops k (λ p. subst (λ (j : ℕ). glyph_at base j ≡ glyph_at cells j) e (last (omega (arith, p)))) ∙ ap (left false) (sym e)
  rest_runs (suc n) k h each last =
      let e : k + suc n ≡ k + 1 + n = omega arith in
      inside_step k (omega (arith, h)) (each k (omega arith) (omega arith))
      ∙ rest_runs n (k + 1) (omega (arith, h)) (λ i p q. each i (omega (arith, p)) (omega (arith, q)))
      (λ p. subst (λ (j : ℕ). glyph_at base j ≡ glyph_at cells j) e (last (omega (arith, p))))
      ∙ ap (left false) (sym e)

  -- a stretch that differs is one run
  pub one_run : (first end : ℕ) → first < end → end ≤ length cells → ((i : ℕ) → first ≤ i → i < end → ¬ (glyph_at base i ≡ glyph_at cells i))
      → (end < length cells → glyph_at base end ≡ glyph_at cells end)
      → left false first ≡ record { first = first; cells = slice_range cells first end } ∷ left false end
  one_run first end p q each last =
      let n = end - (first + 1) in
      let e : first + 1 + n ≡ end = omega (arith, p) in
      let f : suc n ≡ end - first = omega (arith, p) in
      let stop = λ (h : first + 1 + n < length cells). subst (λ (j : ℕ). glyph_at base j ≡ glyph_at cells j) (sym e) (last (omega (arith, h))) in
      let front : lead (drop (first + 1) base) (drop (first + 1) cells) ≡ take n (drop (first + 1) cells) =
      rest_lead n (first + 1) (omega (arith, q)) (λ i a b. each i (omega (arith, a)) (omega (arith, b))) stop in
      let tail : left true (first + 1) ≡ left false end =
      rest_runs n (first + 1) (omega (arith, q)) (λ i a b. each i (omega (arith, a)) (omega (arith, b))) stop ∙ ap (left false) e in
      let run : glyph_at cells first ∷ lead (drop (first + 1) base) (drop (first + 1) cells) ≡ slice_range cells first end =
      ap (λ (x : List Glyph). glyph_at cells first ∷ x) front
      ∙ ap (take (suc n)) (sym (drop_more cells first blank (omega (arith, p, q)))) ∙ ap (λ (m : ℕ). take m (drop first cells)) f in
      ends (λ x y. runs_from false first x y ≡ record { first = first; cells = slice_range cells first end } ∷ left false end) first (omega (arith, p, q))
      (runs_begin (glyph_at base first) (glyph_at cells first) (drop (first + 1) base) (drop (first + 1) cells) first (other_glyph _ _ (each first (omega arith) p))
      ∙ ap (λ (x : List Glyph). record { first = first; cells = x } ∷ left true (first + 1)) run
      ∙ ap (λ (x : List Run). record { first = first; cells = slice_range cells first end } ∷ x) tail)

  -- the runs of a stretch that differs, and then one that is the same
  pub next_run : (first end next : ℕ) → first < end → end ≤ next → next ≤ length cells
      → ((i : ℕ) → first ≤ i → i < end → ¬ (glyph_at base i ≡ glyph_at cells i)) → ((i : ℕ) → end ≤ i → i < next → glyph_at base i ≡ glyph_at cells i)
      → (end < length cells → glyph_at base end ≡ glyph_at cells end)
      → left false first ≡ record { first = first; cells = slice_range cells first end } ∷ left false next
  next_run first end next p q r differ agree last =
      let e : end + (next - end) ≡ next = omega (arith, q) in
      one_run first end p (omega (arith, q, r)) differ last
      ∙ ap (λ (x : List Run). record { first = first; cells = slice_range cells first end } ∷ x)
      (skipped (next - end) end (omega (arith, q, r)) (λ i a b. agree i a (omega (arith, b))) ∙ ap (left false) e)
