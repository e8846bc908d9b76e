-- How long a diff's text may be: 26 bytes a place, and 13.
use Rattle.std.proofs.Common.{◌≡◌, ℕ, ◌+◌, ◌*◌, ◌≤◌, Bool, true, false, List, [], ◌∷◌, length, refl, sym, ap, ◌∙◌, arith, inl, inr, length-append}
use Rattle.std.specs.Prelude.{All}
use Rattle.std.proofs.lemmas.Bool.{cases_Bool}
use Rattle.std.proofs.Math.Nat.{mul-le-mul_right}
use Rattle.std.proofs.lemmas.List.Elements.{All-head, All-tail}
use Rattle.roam_cells.specs.Glyph.{Glyph}
use Rattle.roam_screens.specs.Narrow.{IsOldScreenshot}
use Rattle.roam_screens.specs.Screenshot.{Screenshot}
use Rattle.roam_update.specs.Styles.{Whole}
use Rattle.roam_cells.specs.Same.{same}
use Rattle.roam_update.specs.CellText.{IsPlain, cell_text, cells_text}
use Rattle.roam_update.specs.ChangeText.{run_text, runs_text}
use Rattle.roam_update.specs.Runs.{Run, lead, runs_from}
use Rattle.roam_update.specs.Shots.{difference_one}
use Rattle.roam_update.specs.Sizes.{sized_cells}
use Rattle.roam_update.proofs.CellAgain.{few_points, length_cell}
use Rattle.roam_update.proofs.Sizing.{length_sized}
use Rattle.roam_update.proofs.Stretches.{lead_same, lead_more, lead_none, runs_same, runs_inside, runs_begin, runs_none}
use Rattle.roam_update.proofs.Testing.{all_plain}

old_area : (rows cols : ℕ) → rows ≤ 100 → cols ≤ 250 → rows * cols ≤ 25000
old_area rows cols h k = let n = mul-le-mul_right cols h in omega (arith, n)

cell_bound : (g : Glyph) → IsPlain g → length (cell_text Whole g) ≤ 18
cell_bound g h = omega (arith, length_cell Whole g, few_points g.points h.shown.text)

-- the bytes of the rest of the run that has begun, and of the runs that follow
abbrev weight : Bool → ℕ → List Glyph → List Glyph → ℕ
weight true k bs cs = length (cells_text Whole (lead bs cs)) + length (runs_text Whole (runs_from true k bs cs))
weight false k bs cs = length (runs_text Whole (runs_from false k bs cs))

none : (inside : Bool) (k : ℕ) (cs : List Glyph) → weight inside k [] cs ≡ 0
none true k cs = rw (lead_none cs, runs_none true k cs) refl
none false k cs = rw (runs_none false k cs) refl

weight_same : (inside : Bool) (k : ℕ) (b c : Glyph) (bs cs : List Glyph) → same b c ≡ true → weight inside k (b ∷ bs) (c ∷ cs) ≡ weight false (k + 1) bs cs
weight_same true k b c bs cs e =
    ap (λ (l : List Glyph). length (cells_text Whole l) + length (runs_text Whole (runs_from true k (b ∷ bs) (c ∷ cs)))) (lead_same b c bs cs e)
    ∙ ap (λ (l : List Run). 0 + length (runs_text Whole l)) (runs_same b c bs cs true k e) ∙ omega arith
weight_same false k b c bs cs e = ap (λ (l : List Run). length (runs_text Whole l)) (runs_same b c bs cs false k e)

weight_differs : (inside : Bool) (k : ℕ) (b c : Glyph) (bs cs : List Glyph) → same b c ≡ false
    → weight inside k (b ∷ bs) (c ∷ cs) ≤ 8 + length (cell_text Whole c) + weight true (k + 1) bs cs
weight_differs true k b c bs cs e =
    let a = ap (λ (l : List Glyph). length (cells_text Whole l)) (lead_more b c bs cs e) in
    let s = length-append (cell_text Whole c) (cells_text Whole (lead bs cs)) in
    let r = ap (λ (l : List Run). length (runs_text Whole l)) (runs_inside b c bs cs k e) in
    omega (arith, a, s, r)
weight_differs false k b c bs cs e =
    let first : Run = record { first = k; cells = c ∷ lead bs cs } in
    let rest = runs_text Whole (runs_from true (k + 1) bs cs) in
    let r = ap (λ (l : List Run). length (runs_text Whole l)) (runs_begin b c bs cs k e) in
    let s = length-append (run_text Whole first) rest in
    let t = length-append (cell_text Whole c) (cells_text Whole (lead bs cs)) in
    omega (arith, r, s, t)

bound : (inside : Bool) (k : ℕ) (bs cs : List Glyph) → length bs ≡ length cs → All IsPlain cs → weight inside k bs cs ≤ 26 * length cs
bound inside k [] cs h p = let z = none inside k cs in omega (arith, z)
bound inside k (b ∷ bs) [] h p = absurd (omega arith)
bound inside k (b ∷ bs) (c ∷ cs) h p =
    let tail = All-tail IsPlain c cs p in
    elim (cases_Bool (same b c)) [
      | inl e ↦
          let more = bound false (k + 1) bs cs (omega (arith, h)) tail in
          let is = weight_same inside k b c bs cs e in
          omega (arith, more, is)
      | inr e ↦
          let more = bound true (k + 1) bs cs (omega (arith, h)) tail in
          let is = weight_differs inside k b c bs cs e in
          let cell = cell_bound c (All-head IsPlain c cs p) in
          omega (arith, more, is, cell)
    ]

-- a diff has at most 650,013 bytes
pub most_one : (base s : Screenshot) → IsOldScreenshot s → length (difference_one base s) ≤ 650013
most_one base s old =
    let h = old.screenshot in
    let start = sized_cells s.rows s.cols base in
    let len : length start ≡ length s.cells = length_sized s.rows s.cols base ∙ sym h.count in
    let few = old_area s.rows s.cols old.rows old.cols in
    let runs = bound false 0 start s.cells len (all_plain s.cells h.shown h.unguarded) in
    omega (arith, runs, few, h.count)
