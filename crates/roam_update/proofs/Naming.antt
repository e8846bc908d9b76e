-- The runs of cells that differ from a base name exactly the places that differ.
use Rattle.std.proofs.Common.{◌≡◌, ℕ, zero, suc, ◌+◌, ◌*◌, ◌<◌, ◌≤◌, Bool, true, false, List, [], ◌∷◌, length, sym, ap, subst, ◌∙◌, arith, inl, inr}
use Rattle.std.specs.Prelude.{◌⊎◌, ◌↔◌}
use Rattle.std.proofs.lemmas.Bool.{cases_Bool, false≢true}
use Rattle.roam_cells.specs.Glyph.{Glyph}
use Rattle.roam_cells.specs.Place.{glyph_at}
use Rattle.roam_cells.specs.Same.{same}
use Rattle.roam_update.specs.Runs.{Run, IsNamed, IsNamedBy, AreApart, lead, runs_from, runs_between}
use Rattle.roam_screens.specs.Screenshot.{Screenshot, IsScreenshot}
use Rattle.roam_update.specs.Shots.{change_to}
use Rattle.roam_update.specs.Sizes.{sized_cells}
use Rattle.roam_update.proofs.ChangeAgain.{is_change_to}
use Rattle.roam_update.proofs.Parting.{apart}
use Rattle.roam_cells.proofs.SameCells.{glyph_same, same_glyph}
use Rattle.roam_update.proofs.Sizing.{length_sized}
use Rattle.roam_update.proofs.Stretches.{lead_same, lead_more, runs_same, runs_inside, runs_begin}

-- runs from a place on name none before it
none_below : (least end i : ℕ) (runs : List Run) → AreApart least end runs → i < least → IsNamed i runs → ⊥
unfolding AreApart IsNamed
none_below least end i [] h p n = n
none_below least end i (run ∷ runs) h p n =
    elim n [
      | inl by ↦ absurd (omega (arith, p, by.from, h.0.from))
      | inr rest ↦ none_below (run.first + length run.cells + 1) end i runs h.1 (omega (arith, p, h.0.from)) rest
    ]

named_here : (i : ℕ) (run : Run) (runs : List Run) → IsNamedBy i run → IsNamed i (run ∷ runs)
unfolding IsNamed
named_here i run runs h = inl h

named_later : (i : ℕ) (run : Run) (runs : List Run) → IsNamed i runs → IsNamed i (run ∷ runs)
unfolding IsNamed
named_later i run runs h = inr h

named_cases : (i : ℕ) (run : Run) (runs : List Run) → IsNamed i (run ∷ runs) → IsNamedBy i run ⊎ IsNamed i runs
unfolding IsNamed
named_cases i run runs h = h

-- whether the run that has begun names a place, or one of those that follow
abbrev Names : Bool → ℕ → List Glyph → List Glyph → ℕ → Type 0
Names true k bs cs i = (i < k + length (lead bs cs)) ⊎ IsNamed i (runs_from true k bs cs)
Names false k bs cs i = IsNamed i (runs_from false k bs cs)

module _ (k n : ℕ) (b c : Glyph) (bs cs : List Glyph) (len : length bs ≡ length cs) (fits : k + length (c ∷ cs) ≤ n) where
  -- ---- at a place that does not differ

  module _ (e : same b c ≡ true) where
    after_same : AreApart (k + 1) n (runs_from false (k + 1) bs cs)
    after_same = apart false (k + 1) n bs cs len (omega (arith, fits))

    none_here : (inside : Bool) → Names inside k (b ∷ bs) (c ∷ cs) k → ⊥
    none_here true h =
        elim h [
          | inl p ↦ let z : length (lead (b ∷ bs) (c ∷ cs)) ≡ 0 = ap length (lead_same b c bs cs e) in absurd (omega (arith, p, z))
          | inr p ↦ none_below (k + 1) n k (runs_from false (k + 1) bs cs) after_same (omega arith) (subst (IsNamed k) (runs_same b c bs cs true k e) p)
        ]
    none_here false h = none_below (k + 1) n k (runs_from false (k + 1) bs cs) after_same (omega arith) (subst (IsNamed k) (runs_same b c bs cs false k e) h)

    past_same : (inside : Bool) (i : ℕ) → k < i → Names inside k (b ∷ bs) (c ∷ cs) i → Names false (k + 1) bs cs i
    past_same true i p h =
        elim h [
          | inl q ↦ let z : length (lead (b ∷ bs) (c ∷ cs)) ≡ 0 = ap length (lead_same b c bs cs e) in absurd (omega (arith, p, q, z))
          | inr q ↦ subst (IsNamed i) (runs_same b c bs cs true k e) q
        ]
    past_same false i p h = subst (IsNamed i) (runs_same b c bs cs false k e) h

    same_past : (inside : Bool) (i : ℕ) → Names false (k + 1) bs cs i → Names inside k (b ∷ bs) (c ∷ cs) i
    same_past true i h = inr (subst (IsNamed i) (sym (runs_same b c bs cs true k e)) h)
    same_past false i h = subst (IsNamed i) (sym (runs_same b c bs cs false k e)) h

  -- ---- at a place that differs

  -- the run that begins here
  abbrev begins : Run
  begins = record { first = k; cells = c ∷ lead bs cs }

  here : (inside : Bool) → same b c ≡ false → Names inside k (b ∷ bs) (c ∷ cs) k
  here true e = let m : length (lead (b ∷ bs) (c ∷ cs)) ≡ suc (length (lead bs cs)) = ap length (lead_more b c bs cs e) in inl (omega (arith, m))
  here false e =
      subst (IsNamed k) (sym (runs_begin b c bs cs k e)) (named_here k begins (runs_from true (k + 1) bs cs) (record { from = omega arith; to = omega arith }))

  past : (inside : Bool) (i : ℕ) → same b c ≡ false → k < i → Names inside k (b ∷ bs) (c ∷ cs) i → Names true (k + 1) bs cs i
  past true i e p h =
      elim h [
        | inl q ↦ let m : length (lead (b ∷ bs) (c ∷ cs)) ≡ suc (length (lead bs cs)) = ap length (lead_more b c bs cs e) in inl (omega (arith, m, q))
        | inr q ↦ inr (subst (IsNamed i) (runs_inside b c bs cs k e) q)
      ]
  past false i e p h =
      elim (named_cases i begins (runs_from true (k + 1) bs cs) (subst (IsNamed i) (runs_begin b c bs cs k e) h)) [
        | inl q ↦ let t : i < k + suc (length (lead bs cs)) = q.to in inl (omega (arith, t))
        | inr q ↦ inr q
      ]

  back : (inside : Bool) (i : ℕ) → same b c ≡ false → k < i → Names true (k + 1) bs cs i → Names inside k (b ∷ bs) (c ∷ cs) i
  back true i e p h =
      elim h [
        | inl q ↦ let m : length (lead (b ∷ bs) (c ∷ cs)) ≡ suc (length (lead bs cs)) = ap length (lead_more b c bs cs e) in inl (omega (arith, m, q))
        | inr q ↦ inr (subst (IsNamed i) (sym (runs_inside b c bs cs k e)) q)
      ]
  back false i e p h =
      subst (IsNamed i) (sym (runs_begin b c bs cs k e)) (elim h [
        | inl q ↦ named_here i begins (runs_from true (k + 1) bs cs) (record { from = omega (arith, p); to = omega (arith, q) })
        | inr q ↦ named_later i begins (runs_from true (k + 1) bs cs) q
      ])

-- place j of the two lists, whose first place is k
abbrev Exactly : Bool → ℕ → List Glyph → List Glyph → ℕ → Type 0
Exactly inside k bs cs j = (Names inside k bs cs (k + j) → ¬ (glyph_at bs j ≡ glyph_at cs j)) × (¬ (glyph_at bs j ≡ glyph_at cs j) → Names inside k bs cs (k + j))

first_place : (inside : Bool) (k n : ℕ) (b c : Glyph) (bs cs : List Glyph) → length bs ≡ length cs → k + length (c ∷ cs) ≤ n
    → (Names inside k (b ∷ bs) (c ∷ cs) k → ¬ (b ≡ c)) × (¬ (b ≡ c) → Names inside k (b ∷ bs) (c ∷ cs) k)
first_place inside k n b c bs cs len fits =
    elim (cases_Bool (same b c)) [
      | inl e ↦ (λ h. absurd (none_here k n b c bs cs len fits e inside h), λ d. absurd (d (glyph_same b c e)))
      | inr e ↦ (λ h q. false≢true (sym e ∙ same_glyph b c q), λ d. here k n b c bs cs len fits inside e)
    ]

exactly : (inside : Bool) (k n : ℕ) (bs cs : List Glyph) (j : ℕ) → length bs ≡ length cs → k + length cs ≤ n → j < length cs → Exactly inside k bs cs j
exactly inside k n [] [] j len fits p = absurd (omega arith)
exactly inside k n [] (c ∷ cs) j len fits p = absurd (omega arith)
exactly inside k n (b ∷ bs) [] j len fits p = absurd (omega arith)
exactly inside k n (b ∷ bs) (c ∷ cs) zero len fits p =
    let both = first_place inside k n b c bs cs (omega (arith, len)) fits in
    let e : k ≡ k + 0 = omega arith in
    (λ h. both.0 (subst (Names inside k (b ∷ bs) (c ∷ cs)) (sym e) h), λ d. subst (Names inside k (b ∷ bs) (c ∷ cs)) e (both.1 d))
exactly inside k n (b ∷ bs) (c ∷ cs) (suc j) len fits p =
    let l : length bs ≡ length cs = omega (arith, len) in
    let i = k + suc j in
    let e : k + 1 + j ≡ i = omega arith in
    let above : k < i = omega arith in
    elim (cases_Bool (same b c)) [
      | inl s ↦
          let ih = exactly false (k + 1) n bs cs j l (omega (arith, fits)) (omega (arith, p)) in (
            λ h. ih.0 (subst (Names false (k + 1) bs cs) (sym e) (past_same k n b c bs cs l fits s inside i above h)),
            λ d. same_past k n b c bs cs l fits s inside i (subst (Names false (k + 1) bs cs) e (ih.1 d)),
          )
      | inr s ↦
          let ih = exactly true (k + 1) n bs cs j l (omega (arith, fits)) (omega (arith, p)) in (
            λ h. ih.0 (subst (Names true (k + 1) bs cs) (sym e) (past k n b c bs cs l fits inside i s above h)),
            λ d. back k n b c bs cs l fits inside i s above (subst (Names true (k + 1) bs cs) e (ih.1 d)),
          )
    ]

pub named_exactly : (base cells : List Glyph) (k : ℕ) → length base ≡ length cells → k < length cells
    → IsNamed k (runs_between base cells) ↔ (¬ (glyph_at base k ≡ glyph_at cells k))
named_exactly base cells k len p =
    let both = exactly false 0 (length cells) base cells k len (omega arith) p in
    let e : 0 + k ≡ k = omega arith in
    (λ h. both.0 (subst (λ (i : ℕ). IsNamed i (runs_between base cells)) (sym e) h), λ d. subst (λ (i : ℕ). IsNamed i (runs_between base cells)) e (both.1 d))

pub named_between : (base s : Screenshot) (k : ℕ) → IsScreenshot s → k < length s.cells
    → IsNamed k (change_to base s).runs ↔ (¬ (glyph_at (sized_cells s.rows s.cols base) k ≡ glyph_at s.cells k))
named_between base s k h p = named_exactly (sized_cells s.rows s.cols base) s.cells k (length_sized s.rows s.cols base ∙ sym h.count) p

pub apart_change : (base s : Screenshot) → IsScreenshot s → AreApart 0 (s.rows * s.cols) (change_to base s).runs
apart_change base s h = (is_change_to base s h).apart
