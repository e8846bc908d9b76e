-- Tables of styles: a style keeps its number as a table grows, and runs use up exactly the table of their styles.
use Rattle.std.proofs.Common.{◌≡◌, ℕ, zero, suc, ◌+◌, ◌<◌, ◌≤◌, Bool, true, false, cond, List, [], ◌∷◌, ◌++◌, length, take, Some, refl, sym, ap, subst, ◌∙◌, arith, inl, inr, length-append, append_assoc}
use Rattle.std.specs.Prelude.{slice_get, ◌⊎◌}
use Rattle.std.proofs.lemmas.Bool.{cases_Bool, false≢true, eq-eqb, ne_eqb, eqb-true, cases_eq, or_right}
use Rattle.std.proofs.lemmas.List.{append-nil, take_all}
use Rattle.roam_cells.specs.Glyph.{Glyph}
use Rattle.roam_cells.specs.declared.styles.Style.{Style}
use Rattle.roam_update.specs.Runs.{Run, AreApart}
use Rattle.roam_cells.specs.Same.{same_style}
use Rattle.roam_update.specs.Styles.{Form, Whole, Numbered, has_style, number_in, with_style, styles_after, styles_used, used_after}
use Rattle.roam_update.proofs.Forms.{past_all, Fits, TakesCells, TakesRuns, stands}
use Rattle.roam_cells.proofs.SameCells.{style_again}

-- ---- one style

pub number_below : (table : List Style) (s : Style) → has_style table s ≡ true → number_in table s < length table
number_below [] s h = absurd (false≢true h)
number_below (t ∷ table) s h =
    elim (cases_Bool (same_style s t)) [
      | inl e ↦ rw e (omega arith)
      | inr e ↦ rw e (let more = number_below table s (rw e at h) in omega (arith, more))
    ]

pub number_none : (table : List Style) (s : Style) → has_style table s ≡ false → number_in table s ≡ length table
number_none [] s h = refl
number_none (t ∷ table) s h =
    elim (cases_Bool (same_style s t)) [
      | inl e ↦ absurd (false≢true (sym (rw e at h)))
      | inr e ↦ rw e (ap suc (number_none table s (rw e at h)))
    ]

-- a style that is in a table keeps its number as the table grows
pub number_stays : (table more : List Style) (s : Style) → has_style table s ≡ true → number_in (table ++ more) s ≡ number_in table s
number_stays [] more s h = absurd (false≢true h)
number_stays (t ∷ table) more s h =
    elim (cases_Bool (same_style s t)) [
      | inl e ↦ rw e refl
      | inr e ↦ rw e (ap suc (number_stays table more s (rw e at h)))
    ]

pub has_more : (table more : List Style) (s : Style) → has_style table s ≡ true → has_style (table ++ more) s ≡ true
has_more [] more s h = absurd (false≢true h)
has_more (t ∷ table) more s h =
    elim (cases_Bool (same_style s t)) [
      | inl e ↦ rw e refl
      | inr e ↦ rw e (has_more table more s (rw e at h))
    ]

has_last : (table : List Style) (s : Style) → has_style (table ++ s ∷ []) s ≡ true
has_last [] s = rw (style_again s) refl
has_last (t ∷ table) s =
    elim (cases_Bool (same_style s t)) [
      | inl e ↦ rw e refl
      | inr e ↦ rw e (has_last table s)
    ]

pub number_last : (table : List Style) (s : Style) → has_style table s ≡ false → number_in (table ++ s ∷ []) s ≡ length table
number_last [] s h = rw (style_again s) refl
number_last (t ∷ table) s h =
    elim (cases_Bool (same_style s t)) [
      | inl e ↦ absurd (false≢true (sym (rw e at h)))
      | inr e ↦ rw e (ap suc (number_last table s (rw e at h)))
    ]

-- ---- a table after a style

-- the facts about a table and its growth by a style
pub record Grows (table : List Style) (s : Style) (next : List Style) : Type 0 where
  pub has : has_style next s ≡ true
  pub number : number_in next s ≤ length table
  pub used : used_after (length table) (number_in next s) ≡ length next
  pub longer : (more : List Style) × (next ≡ table ++ more)

by_cases : (b : Bool) (table : List Style) (s : Style) → has_style table s ≡ b → Grows table s (cond b table (table ++ s ∷ []))
by_cases true table s h =
    let low = number_below table s h in
    record {
      has = h;
      number = omega (arith, low);
      used = ap (λ (t : Bool). cond t (length table + 1) (length table)) (ne_eqb (number_in table s) (length table) (λ e. omega (arith, e, low)));
      longer = ([], sym (append-nil table));
    }
by_cases false table s h =
    let last = number_last table s h in
    let len : length table + 1 ≡ length (table ++ s ∷ []) = sym (length-append table (s ∷ [])) in
    record {
      has = has_last table s;
      number = omega (arith, last);
      used = ap (λ (t : Bool). cond t (length table + 1) (length table)) (eq-eqb (number_in (table ++ s ∷ []) s) (length table) last) ∙ len;
      longer = (s ∷ [], refl);
    }

pub grows : (table : List Style) (s : Style) → Grows table s (with_style table s)
grows table s = by_cases (has_style table s) table s refl

-- ---- a table after cells and runs

abbrev pub Extends : List Style → List Style → Type 0
Extends table next = (more : List Style) × (next ≡ table ++ more)

pub extends_again : (a b c : List Style) → Extends a b → Extends b c → Extends a c
extends_again a b c p q = (p.0 ++ q.0, q.1 ∙ ap (λ (x : List Style). x ++ q.0) p.1 ∙ append_assoc a p.0 q.0)

pub cells_extend : (table : List Style) (gs : List Glyph) → Extends table (styles_after table gs)
unfolding styles_after
cells_extend table [] = ([], sym (append-nil table))
cells_extend table (g ∷ gs) =
    extends_again table (with_style table g.style) (styles_after (with_style table g.style) gs) ((grows table g.style).longer)
    (cells_extend (with_style table g.style) gs)

pub runs_extend : (table : List Style) (runs : List Run) → Extends table (styles_used table runs)
unfolding styles_used
runs_extend table [] = ([], sym (append-nil table))
runs_extend table (run ∷ runs) =
    extends_again table (styles_after table run.cells) (styles_used (styles_after table run.cells) runs) (cells_extend table run.cells)
    (runs_extend (styles_after table run.cells) runs)

-- the number of a style in a table that has it is its number in each longer one
pub number_kept : (table whole : List Style) (s : Style) → Extends table whole → has_style table s ≡ true → number_in whole s ≡ number_in table s
number_kept table whole s p h = ap (λ (x : List Style). number_in x s) p.1 ∙ number_stays table p.0 s h

longer_by : (table whole : List Style) → Extends table whole → length table ≤ length whole
longer_by table whole p = omega (arith, ap length p.1, length-append table p.0)

-- ---- the table of cells is used up by them

after_one : (table whole : List Style) (s : Style) → Extends (with_style table s) whole
    → (Fits (Numbered whole (length table)) s) × (used_after (length table) (number_in whole s) ≡ length (with_style table s))
after_one table whole s p =
    let next = with_style table s in
    let g = grows table s in
    let number : number_in whole s ≡ number_in next s = number_kept next whole s p g.has in
    let low = number_below next s g.has in (
      (omega (arith, number, g.number), omega (arith, number, low, longer_by next whole p)),
      ap (used_after (length table)) number ∙ g.used,
    )

pub record TakesAll (whole : List Style) (from to : ℕ) (gs : List Glyph) : Type 0 where
  pub takes : TakesCells (Numbered whole from) gs
  pub past : past_all (Numbered whole from) gs ≡ Numbered whole to

pub cells_taken : (table whole : List Style) (gs : List Glyph) → Extends (styles_after table gs) whole
    → TakesAll whole (length table) (length (styles_after table gs)) gs
unfolding styles_after
cells_taken table whole [] p = record { takes = tt; past = refl }
cells_taken table whole (g ∷ gs) p =
    let next = with_style table g.style in
    let one = after_one table whole g.style (extends_again next (styles_after next gs) whole (cells_extend next gs) p) in
    let more = cells_taken next whole gs p in
    record {
      takes = (one.0, subst (λ (n : ℕ). TakesCells (Numbered whole n) gs) (sym one.1) more.takes);
      past = ap (λ (n : ℕ). past_all (Numbered whole n) gs) one.1 ∙ more.past;
    }

runs_taken : (table whole : List Style) (runs : List Run) → styles_used table runs ≡ whole → TakesRuns (Numbered whole (length table)) runs
unfolding styles_used
runs_taken table whole [] e = eq-eqb (length table) (length whole) (ap length e)
runs_taken table whole (run ∷ runs) e =
    let next = styles_after table run.cells in
    let more = runs_taken next whole runs e in
    let longer : Extends next whole = subst (Extends next) e (runs_extend next runs) in
    let cells = cells_taken table whole run.cells longer in
    (cells.takes, subst (λ (f : Form). TakesRuns f runs) (sym cells.past) more)

-- the runs use up exactly the table of their styles
pub table_taken : (runs : List Run) → TakesRuns (Numbered (styles_used [] runs) 0) runs
table_taken runs = runs_taken [] (styles_used [] runs) runs refl

-- ---- and no other table is used up by them

has_front_of : (whole : List Style) (n : ℕ) (s : Style) → number_in whole s < n → number_in whole s < length whole → has_style (take n whole) s ≡ true
has_front_of [] n s h k = absurd (omega (arith, k))
has_front_of (t ∷ whole) zero s h k = absurd (omega (arith, h))
has_front_of (t ∷ whole) (suc n) s h k =
    elim (cases_Bool (same_style s t)) [
      | inl e ↦ rw e refl
      | inr e ↦
          let less : suc (number_in whole s) < suc n = rw e at h in
          let few : suc (number_in whole s) < suc (length whole) = rw e at k in
          rw e (has_front_of whole n s (omega (arith, less)) (omega (arith, few)))
    ]

none_in_front : (whole : List Style) (n : ℕ) (s : Style) → n ≤ number_in whole s → has_style (take n whole) s ≡ false
none_in_front whole zero s h = refl
none_in_front [] (suc n) s h = refl
none_in_front (t ∷ whole) (suc n) s h =
    elim (cases_Bool (same_style s t)) [
      | inl e ↦ let low : suc n ≤ 0 = rw e at h in absurd (omega (arith, low))
      | inr e ↦ let low : suc n ≤ suc (number_in whole s) = rw e at h in rw e (none_in_front whole n s (omega (arith, low)))
    ]

take_one_more : (whole : List Style) (n : ℕ) (s : Style) → slice_get whole n ≡ Some s → take n whole ++ s ∷ [] ≡ take (suc n) whole
take_one_more [] n s e = absurd cc
take_one_more (t ∷ whole) zero s e = let same : s ≡ t = cc in ap (λ (x : Style). x ∷ []) same
take_one_more (t ∷ whole) (suc n) s e = ap (λ (x : List Style). t ∷ x) (take_one_more whole n s e)

front_more : (whole : List Style) (used : ℕ) (s : Style) → Fits (Numbered whole used) s
    → with_style (take used whole) s ≡ take (used_after used (number_in whole s)) whole
front_more whole used s h =
    elim (cases_eq (number_in whole s) used) [
      | inl e ↦
          let none = none_in_front whole used s (omega (arith, e)) in
          let next : used_after used (number_in whole s) ≡ suc used =
          ap (λ (t : Bool). cond t (used + 1) used) (eq-eqb (number_in whole s) used e) ∙ omega arith in
          let here : slice_get whole used ≡ Some s = ap (slice_get whole) (sym e) ∙ stands whole s h.1 in
          rw (none, next) (take_one_more whole used s here)
      | inr e ↦
          let has = has_front_of whole used s (omega (arith, e, h.0)) h.1 in
          let next : used_after used (number_in whole s) ≡ used = ap (λ (t : Bool). cond t (used + 1) used) (ne_eqb (number_in whole s) used e) in
          rw (has, next) refl
    ]

-- how many styles of a table have been used
abbrev used_in : Form → ℕ
used_in Whole = 0
used_in (Numbered table used) = used

record IsFront (whole before after : List Style) (f : Form) : Type 0 where
  form : f ≡ Numbered whole (used_in f)
  table : after ≡ take (used_in f) whole

front_cells : (whole : List Style) (used : ℕ) (gs : List Glyph) → TakesCells (Numbered whole used) gs
    → IsFront whole (take used whole) (styles_after (take used whole) gs) (past_all (Numbered whole used) gs)
unfolding styles_after
front_cells whole used [] h = record { form = refl; table = refl }
front_cells whole used (g ∷ gs) h =
    let next = used_after used (number_in whole g.style) in
    let more = front_cells whole next gs h.1 in
    record {
      form = more.form;
      table = ap (λ (t : List Style). styles_after t gs) (front_more whole used g.style h.0) ∙ more.table;
    }

front_runs : (whole : List Style) (used : ℕ) (runs : List Run) → TakesRuns (Numbered whole used) runs → styles_used (take used whole) runs ≡ whole
unfolding styles_used
front_runs whole used [] h = ap (λ (n : ℕ). take n whole) (eqb-true used (length whole) h) ∙ take_all (length whole) whole (omega arith)
front_runs whole used (run ∷ runs) h =
    let f = past_all (Numbered whole used) run.cells in
    let cells = front_cells whole used run.cells h.0 in
    ap (λ (t : List Style). styles_used t runs) cells.table
    ∙ front_runs whole (used_in f) runs (subst (λ (x : Form). TakesRuns x runs) cells.form h.1)

-- the table that runs use up is that of their styles
pub table_is : (whole : List Style) (runs : List Run) → TakesRuns (Numbered whole 0) runs → styles_used [] runs ≡ whole
table_is whole runs h = front_runs whole 0 runs h

-- ---- a table without repetitions

abbrev pub IsOnce : List Style → Type 0
IsOnce table = (k : ℕ) (s : Style) → slice_get table k ≡ Some s → number_in table s ≡ k

last_place : (table : List Style) (t s : Style) (k : ℕ) → slice_get (table ++ t ∷ []) k ≡ Some s
    → (slice_get table k ≡ Some s) ⊎ ((k ≡ length table) × (t ≡ s))
last_place [] t s zero e = let same : t ≡ s = cc in inr (refl, same)
last_place [] t s (suc k) e = absurd cc
last_place (x ∷ table) t s zero e = inl e
last_place (x ∷ table) t s (suc k) e =
    elim (last_place table t s k e) [
      | inl h ↦ inl h
      | inr h ↦ inr (ap suc h.0, h.1)
    ]

has_placed : (table : List Style) (k : ℕ) (s : Style) → slice_get table k ≡ Some s → has_style table s ≡ true
has_placed [] k s e = absurd cc
has_placed (t ∷ table) zero s e = let same : t ≡ s = cc in rw (ap (same_style s) same ∙ style_again s) refl
has_placed (t ∷ table) (suc k) s e = rw (has_placed table k s e) (or_right (same_style s t) true refl)

-- one more style that isn't in the table
pub once_more : (table : List Style) (t : Style) → IsOnce table → has_style table t ≡ false → IsOnce (table ++ t ∷ [])
once_more table t once none k s e =
    elim (last_place table t s k e) [
      | inl h ↦ number_stays table (t ∷ []) s (has_placed table k s h) ∙ once k s h
      | inr h ↦ ap (number_in (table ++ t ∷ [])) (sym h.1) ∙ number_last table t none ∙ sym h.0
    ]

pub once_with : (table : List Style) (s : Style) → IsOnce table → IsOnce (with_style table s)
once_with table s once =
    elim (cases_Bool (has_style table s)) [
      | inl e ↦ rw e once
      | inr e ↦ rw e (once_more table s once e)
    ]

pub once_none : IsOnce []
once_none k s e = absurd cc

pub once_cells : (table : List Style) (gs : List Glyph) → IsOnce table → IsOnce (styles_after table gs)
unfolding styles_after
once_cells table [] h = h
once_cells table (g ∷ gs) h = once_cells (with_style table g.style) gs (once_with table g.style h)

pub once_runs : (table : List Style) (runs : List Run) → IsOnce table → IsOnce (styles_used table runs)
unfolding styles_used
once_runs table [] h = h
once_runs table (run ∷ runs) h = once_runs (styles_after table run.cells) runs (once_cells table run.cells h)

-- ---- how many there are

pub count_one : (table : List Style) (s : Style) → length (with_style table s) ≤ length table + 1
count_one table s =
    elim (cases_Bool (has_style table s)) [
      | inl e ↦ rw e (omega arith)
      | inr e ↦ rw e (omega (arith, length-append table (s ∷ [])))
    ]

pub count_cells : (table : List Style) (gs : List Glyph) → length (styles_after table gs) ≤ length table + length gs
unfolding styles_after
count_cells table [] = omega arith
count_cells table (g ∷ gs) = omega (arith, count_cells (with_style table g.style) gs, count_one table g.style)

-- runs that rise and stay below an end have no more styles than places
pub count_runs : (table : List Style) (least end : ℕ) (runs : List Run) → least ≤ end + 1 → AreApart least end runs
    → length (styles_used table runs) + least ≤ length table + end + 1
unfolding styles_used AreApart
count_runs table least end [] h apart = omega (arith, h)
count_runs table least end (run ∷ runs) h apart =
    let cells = count_cells table run.cells in
    let more = count_runs (styles_after table run.cells) (run.first + length run.cells + 1) end runs (omega (arith, apart.0.to)) apart.1 in
    omega (arith, cells, more, apart.0.from)

-- and so of all the runs of a diff
pub count_all : (end : ℕ) (runs : List Run) → AreApart 0 end runs → length (styles_used [] runs) ≤ end
unfolding styles_used AreApart
count_all end [] apart = omega arith
count_all end (run ∷ runs) apart =
    let cells = count_cells [] run.cells in
    let more = count_runs (styles_after [] run.cells) (run.first + length run.cells + 1) end runs (omega (arith, apart.0.to)) apart.1 in
    omega (arith, cells, more, apart.0.from)

pub number_at_most : (table : List Style) (s : Style) → number_in table s ≤ length table
number_at_most table s =
    elim (cases_Bool (has_style table s)) [
      | inl e ↦ let low = number_below table s e in omega (arith, low)
      | inr e ↦ omega (arith, number_none table s e)
    ]
