-- The runs of cells that differ from a base, put into the base, give the cells.
use Rattle.std.proofs.Common.{◌≡◌, ℕ, ◌+◌, Bool, true, false, List, [], ◌∷◌, ◌++◌, length, set, refl, sym, subst, ◌∙◌, append_assoc, arith, inl, inr, length-append}
use Rattle.std.proofs.lemmas.Bool.{cases_Bool}
use Rattle.std.proofs.Math.Seq.{set-append_seam}
use Rattle.roam_cells.specs.Glyph.{Glyph}
use Rattle.roam_cells.specs.Same.{same}
use Rattle.roam_update.specs.Runs.{lead, runs_from, with_cells_at, patched_cells}
use Rattle.roam_cells.proofs.SameCells.{glyph_same}

-- the base once the run that has begun is put in
abbrev begun : Bool → List Glyph → ℕ → List Glyph → List Glyph → List Glyph
begun true base k bs cs = with_cells_at base k (lead bs cs)
begun false base k bs cs = base

abbrev Patches : Bool → List Glyph → List Glyph → List Glyph → Type 0
Patches inside front bs cs = patched_cells (begun inside (front ++ bs) (length front) bs cs) (runs_from inside (length front) bs cs) ≡ front ++ cs

none_left : (inside : Bool) (front : List Glyph) → Patches inside front [] []
unfolding with_cells_at patched_cells runs_from lead
none_left true front = refl
none_left false front = refl

module _ (front : List Glyph) (b c : Glyph) (bs cs : List Glyph) where
  -- one more cell in front
  further : (inside : Bool) → Patches inside (front ++ c ∷ []) bs cs
      → patched_cells (begun inside (front ++ c ∷ bs) (length front + 1) bs cs) (runs_from inside (length front + 1) bs cs) ≡ front ++ c ∷ cs
  further inside h =
      let len : length (front ++ c ∷ []) ≡ length front + 1 = omega (arith, length-append front (c ∷ [])) in
      subst (λ (n : ℕ). patched_cells (begun inside (front ++ c ∷ bs) n bs cs) (runs_from inside n bs cs) ≡ front ++ c ∷ cs) len
      (subst (λ (x : List Glyph). patched_cells (begun inside x (length (front ++ c ∷ [])) bs cs) (runs_from inside (length (front ++ c ∷ [])) bs cs) ≡ front ++ c ∷ cs) (append_assoc front (c ∷ []) bs)
      (h ∙ append_assoc front (c ∷ []) cs))

  stays : (inside : Bool) → same b c ≡ true → Patches false (front ++ c ∷ []) bs cs → Patches inside front (b ∷ bs) (c ∷ cs)
  unfolding with_cells_at runs_from lead
  stays true e h = rw (e, glyph_same b c e) (further false h)
  stays false e h = rw (e, glyph_same b c e) (further false h)

  seam : Patches true (front ++ c ∷ []) bs cs
      → patched_cells (with_cells_at (set (front ++ b ∷ bs) (length front) c) (length front + 1) (lead bs cs)) (runs_from true (length front + 1) bs cs) ≡ front ++ c ∷ cs
  seam h = subst (λ (x : List Glyph). patched_cells (with_cells_at x (length front + 1) (lead bs cs)) (runs_from true (length front + 1) bs cs) ≡ front ++ c ∷ cs) (sym (set-append_seam front b bs c)) (further true h)

  differs : (inside : Bool) → same b c ≡ false → Patches true (front ++ c ∷ []) bs cs → Patches inside front (b ∷ bs) (c ∷ cs)
  unfolding with_cells_at patched_cells runs_from lead
  differs true e h = rw e (seam h)
  differs false e h = rw e (seam h)

patches : (inside : Bool) (front bs cs : List Glyph) → length bs ≡ length cs → Patches inside front bs cs
patches inside front [] [] h = none_left inside front
patches inside front [] (c ∷ cs) h = absurd (omega arith)
patches inside front (b ∷ bs) [] h = absurd (omega arith)
patches inside front (b ∷ bs) (c ∷ cs) h =
    elim (cases_Bool (same b c)) [
      | inl e ↦ stays front b c bs cs inside e (patches false (front ++ c ∷ []) bs cs (omega (arith, h)))
      | inr e ↦ differs front b c bs cs inside e (patches true (front ++ c ∷ []) bs cs (omega (arith, h)))
    ]

-- the maximal runs of the places that differ, put into the base, give the cells
pub patched_between : (base cells : List Glyph) → length base ≡ length cells → patched_cells base (runs_from false 0 base cells) ≡ cells
patched_between base cells h = patches false [] base cells h
