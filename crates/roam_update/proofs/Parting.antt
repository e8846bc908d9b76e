-- The runs of cells that differ from a base rise and do not touch, and name exactly the places that differ.
use Rattle.std.proofs.Common.{◌≡◌, ℕ, suc, ◌+◌, ◌≤◌, Bool, true, false, List, [], ◌∷◌, length, sym, ap, subst, arith, inl, inr}
use Rattle.std.specs.Prelude.{All}
use Rattle.std.proofs.lemmas.Bool.{cases_Bool}
use Rattle.std.proofs.lemmas.List.Elements.{All-nil, All-cons, All-head, All-tail}
use Rattle.roam_cells.specs.Glyph.{Glyph}
use Rattle.roam_cells.specs.Same.{same}
use Rattle.roam_update.specs.CellText.{IsPlain}
use Rattle.roam_update.specs.Runs.{Run, AreApart, lead, runs_from, runs_between}
use Rattle.roam_update.proofs.Plain.{ArePlain}
use Rattle.roam_update.proofs.Stretches.{lead_same, lead_more, runs_same, runs_inside, runs_begin, runs_none, runs_past}

-- ---- apart

pub lower : (a b n : ℕ) (rs : List Run) → a ≤ b → AreApart b n rs → AreApart a n rs
unfolding AreApart
lower a b n [] h k = k
lower a b n (r ∷ rs) h k = (record { from = omega (arith, h, k.0.from); some = k.0.some; to = k.0.to }, k.1)

pub no_runs : (least n : ℕ) → AreApart least n []
unfolding AreApart
no_runs least n = tt

one_more : (first n : ℕ) (cells : List Glyph) (rs : List Run) → 1 ≤ length cells → first + length cells ≤ n → AreApart (first + length cells + 1) n rs
    → AreApart first n (record { first = first; cells = cells } ∷ rs)
unfolding AreApart
one_more first n cells rs a b c = (record { from = omega arith; some = a; to = b }, c)

lead_short : (bs cs : List Glyph) → length (lead bs cs) ≤ length cs
unfolding lead
lead_short [] cs = omega arith
lead_short (b ∷ bs) [] = omega arith
lead_short (b ∷ bs) (c ∷ cs) =
    elim (cases_Bool (same b c)) [
      | inl e ↦ rw e (omega arith)
      | inr e ↦ rw e (let h = lead_short bs cs in omega (arith, h))
    ]

abbrev pub floor : Bool → ℕ → List Glyph → List Glyph → ℕ
floor true k bs cs = k + length (lead bs cs) + 1
floor false k bs cs = k

low_floor : (inside : Bool) (k : ℕ) (bs cs : List Glyph) → length (lead bs cs) ≡ 0 → floor inside k bs cs ≤ k + 1
low_floor true k bs cs e = omega (arith, e)
low_floor false k bs cs e = omega arith

differs : (inside : Bool) (k n : ℕ) (b c : Glyph) (bs cs : List Glyph) → same b c ≡ false → k + length (c ∷ cs) ≤ n
    → AreApart (k + 1 + length (lead bs cs) + 1) n (runs_from true (k + 1) bs cs) → AreApart (floor inside k (b ∷ bs) (c ∷ cs)) n (runs_from inside k (b ∷ bs) (c ∷ cs))
differs true k n b c bs cs e p more =
    let one : length (lead (b ∷ bs) (c ∷ cs)) ≡ suc (length (lead bs cs)) = ap length (lead_more b c bs cs e) in
    subst (λ (rs : List Run). AreApart (k + length (lead (b ∷ bs) (c ∷ cs)) + 1) n rs) (sym (runs_inside b c bs cs k e))
    (lower (k + length (lead (b ∷ bs) (c ∷ cs)) + 1) (k + 1 + length (lead bs cs) + 1) n (runs_from true (k + 1) bs cs) (omega (arith, one)) more)
differs false k n b c bs cs e p more =
    let short = lead_short bs cs in
    subst (λ (rs : List Run). AreApart k n rs) (sym (runs_begin b c bs cs k e))
    (one_more k n (c ∷ lead bs cs) (runs_from true (k + 1) bs cs) (omega arith) (omega (arith, p, short))
    (lower (k + length (c ∷ lead bs cs) + 1) (k + 1 + length (lead bs cs) + 1) n (runs_from true (k + 1) bs cs) (omega arith) more))

pub apart : (inside : Bool) (k n : ℕ) (bs cs : List Glyph) → length bs ≡ length cs → k + length cs ≤ n → AreApart (floor inside k bs cs) n (runs_from inside k bs cs)
apart inside k n [] cs h p = subst (λ (rs : List Run). AreApart (floor inside k [] cs) n rs) (sym (runs_none inside k cs)) (no_runs (floor inside k [] cs) n)
apart inside k n (b ∷ bs) [] h p = absurd (omega arith)
apart inside k n (b ∷ bs) (c ∷ cs) h p =
    elim (cases_Bool (same b c)) [
      | inl e ↦
          let more = apart false (k + 1) n bs cs (omega (arith, h)) (omega (arith, p)) in
          subst (λ (rs : List Run). AreApart (floor inside k (b ∷ bs) (c ∷ cs)) n rs) (sym (runs_same b c bs cs inside k e))
          (lower (floor inside k (b ∷ bs) (c ∷ cs)) (k + 1) n (runs_from false (k + 1) bs cs) (low_floor inside k (b ∷ bs) (c ∷ cs) (ap length (lead_same b c bs cs e))) more)
      | inr e ↦ differs inside k n b c bs cs e p (apart true (k + 1) n bs cs (omega (arith, h)) (omega (arith, p)))
    ]

pub apart_between : (base cells : List Glyph) → length base ≡ length cells → AreApart 0 (length cells) (runs_between base cells)
apart_between base cells h = apart false 0 (length cells) base cells h (omega arith)

pub runs_few : (least n : ℕ) (rs : List Run) → least ≤ n + 1 → AreApart least n rs → length rs + least ≤ n + 1
unfolding AreApart
runs_few least n [] h k = omega (arith, h)
runs_few least n (r ∷ rs) h k =
    let within = k.0 in
    let more = runs_few (r.first + length r.cells + 1) n rs (omega (arith, within.to)) k.1 in
    omega (arith, more, within.from, within.some)

-- ---- plain

lead_plain : (bs cs : List Glyph) → All IsPlain cs → All IsPlain (lead bs cs)
unfolding lead
lead_plain [] cs h = All-nil IsPlain
lead_plain (b ∷ bs) [] h = All-nil IsPlain
lead_plain (b ∷ bs) (c ∷ cs) h =
    elim (cases_Bool (same b c)) [
      | inl e ↦ rw e (All-nil IsPlain)
      | inr e ↦ rw e (All-cons IsPlain c (lead bs cs) (All-head IsPlain c cs h) (lead_plain bs cs (All-tail IsPlain c cs h)))
    ]

abbrev HasPlain : Run → Type 0
HasPlain run = All IsPlain run.cells

plain_differs : (inside : Bool) (k : ℕ) (b c : Glyph) (bs cs : List Glyph) → All IsPlain (c ∷ cs) → same b c ≡ false → ArePlain (runs_from true (k + 1) bs cs)
    → ArePlain (runs_from inside k (b ∷ bs) (c ∷ cs))
plain_differs true k b c bs cs h e more = subst ArePlain (sym (runs_inside b c bs cs k e)) more
plain_differs false k b c bs cs h e more =
    subst ArePlain (sym (runs_begin b c bs cs k e))
    (All-cons HasPlain (record { first = k; cells = c ∷ lead bs cs }) (runs_from true (k + 1) bs cs)
    (All-cons IsPlain c (lead bs cs) (All-head IsPlain c cs h) (lead_plain bs cs (All-tail IsPlain c cs h))) more)

pub plain_from : (inside : Bool) (k : ℕ) (bs cs : List Glyph) → All IsPlain cs → ArePlain (runs_from inside k bs cs)
plain_from inside k [] cs h = subst ArePlain (sym (runs_none inside k cs)) (All-nil HasPlain)
plain_from inside k (b ∷ bs) [] h = subst ArePlain (sym (runs_past inside k b bs)) (All-nil HasPlain)
plain_from inside k (b ∷ bs) (c ∷ cs) h =
    let tail = All-tail IsPlain c cs h in
    elim (cases_Bool (same b c)) [
      | inl e ↦ subst ArePlain (sym (runs_same b c bs cs inside k e)) (plain_from false (k + 1) bs cs tail)
      | inr e ↦ plain_differs inside k b c bs cs h e (plain_from true (k + 1) bs cs tail)
    ]
