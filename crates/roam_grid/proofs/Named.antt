-- Marks beside the maps of places: which rows a map names.
use Rattle.std.proofs.Common.{◌≡◌, ◌≢◌, ℕ, suc, ◌+◌, ◌-◌, ◌<◌, ◌≤◌, ◌⊎◌, inl, inr, Bool, true, false, ◌&&◌, ◌||◌, cond, eqb, ltb, leb, min, List, refl, sym, ap, subst, ◌∙◌, arith}
use Rattle.std.proofs.lemmas.Bool.{false≢true, cases_eq, cases_lt}
use Rattle.std.proofs.lemmas.List.{get_or-replicate}
use Rattle.std.proofs.lemmas.Grind.{common_steps}
use Rattle.roam_cells.specs.Glyph.{Glyph, blank}
use Rattle.roam_rows.specs.Row.{RowSource, Column}
use Rattle.roam_rows.specs.Places.{Source, From, Fresh, at_row, in_row}
use Rattle.roam_rows.specs.Editing.{insertion_source, deletion_source}
use Rattle.roam_rows.specs.Erasing.{erasure_source}
use Rattle.roam_rows.specs.Scrolling.{up, down}
use Rattle.roam_rows.specs.Writing.{writing_source}
use Rattle.roam_rows.proofs.Lifting.{in_here, in_other}
use Rattle.roam_grid.specs.Screen.{Screen, IsScreen}
use Rattle.roam_grid.specs.Editing.{is_between_margins}
use Rattle.roam_grid.specs.Erasing.{line_from, line_to, page_from, page_to, is_in_page, page_blanked}
use Rattle.roam_grid.specs.Marks.{all_on, is_marked, also_marked, row_marked, rows_marked, moved_marked, marks_scrolled, marks_cells_moved, marks_lines_moved, marks_in_line, marks_erased_in_page}
use Rattle.roam_grid.specs.Laws.{IsNamed, AreNamedMarked}
use Rattle.roam_cells.specs.declared.extents.Extent.{Extent}
use Rattle.roam_cells.specs.declared.extents.Extent.TheVariants.{ToEnd, ToStart, All}
use Rattle.roam_grid.proofs.Marked.{marked_at, marked_twice, same_row, other_row, range_in}
use Rattle.roam_grid.proofs.Pages.{outside, inside, row_agrees}

-- the row and the column of a source, from 1
abbrev row_from : Source → ℕ
row_from (From r c) = suc r
row_from (Fresh x) = 0

abbrev col_from : Source → ℕ
col_from (From r c) = suc c
col_from (Fresh x) = 0

pub fresh_not : (x : Glyph) (r c : ℕ) → Fresh x ≢ From r c
fresh_not x r c e = let h : 0 ≡ suc r = ap row_from e in absurd (omega (arith, h))

other_row_not : (s d r c : ℕ) → s ≢ r → From s d ≢ From r c
other_row_not s d r c ne e = let h : suc s ≡ suc r = ap row_from e in ne (omega (arith, h))

other_col_not : (s d r c : ℕ) → d ≢ c → From s d ≢ From r c
other_col_not s d r c ne e = let h : suc d ≡ suc c = ap col_from e in ne (omega (arith, h))

pub or_none : (a b : Bool) → (a || b) ≡ false → b ≡ false
or_none true b e = absurd (false≢true (sym e))
or_none false b e = e

-- the case that a test names the rows
pub named_by : (s : Screen) (source : ℕ → ℕ → Source) (names : ℕ → Bool) (marks : List Bool) → s.rows ≤ 200
    → ((r : ℕ) → r < s.rows → names r ≡ true → IsNamed s.cols source r)
    → ((r c : ℕ) → r < s.rows → c < s.cols → names r ≡ false → source r c ≡ From r c)
    → AreNamedMarked s source marks (also_marked names marks)
named_by s source names marks few on off = record {
  stay = λ r h e. marked_at names marks r (omega (arith, few, h)) ∙ ap (λ b. b || names r) e;
  named = λ r h e f. on r h (sym (ap (λ b. b || names r) e) ∙ sym (marked_at names marks r (omega (arith, few, h))) ∙ f);
  rest = λ r c p q f. off r c p q (or_none (is_marked marks r) (names r) (sym (marked_at names marks r (omega (arith, few, p))) ∙ f));
}

-- the case that each place takes itself
pub named_none : (s : Screen) (source : ℕ → ℕ → Source) (marks : List Bool) → ((r c : ℕ) → r < s.rows → c < s.cols → source r c ≡ From r c) → AreNamedMarked s source marks marks
named_none s source marks all = record {
  stay = λ r h e. e;
  named = λ r h e f. absurd (false≢true (sym e ∙ f));
  rest = λ r c p q f. all r c p q;
}

pub in_range : (from to r : ℕ) → (leb from r && ltb r to) ≡ true → (from ≤ r) × (r < to)
in_range from to r h = (grind (arith, common_steps), grind (arith, common_steps))

pub out_range : (from to r : ℕ) → (leb from r && ltb r to) ≡ false → (r < from) ⊎ (to ≤ r)
out_range from to r h = elim (cases_lt r from) [ inl p ↦ inl p | inr p ↦ elim (cases_lt r to) [ inl q ↦ absurd (false≢true (sym h ∙ (grind (arith, common_steps)))) | inr q ↦ inr q ] ]

is_zero : (n : ℕ) → eqb n 0 ≡ true → n ≡ 0
is_zero n h = grind (arith, common_steps)

is_some : (n : ℕ) → eqb n 0 ≡ false → 0 < n
is_some n h = grind (arith, common_steps)

-- the case that rows move by n
moved_by : (s : Screen) (source : ℕ → ℕ → Source) (n from to : ℕ) (marks : List Bool) → s.rows ≤ 200
    → (n ≡ 0 → (r c : ℕ) → r < s.rows → c < s.cols → source r c ≡ From r c)
    → (0 < n → (r : ℕ) → r < s.rows → from ≤ r → r < to → IsNamed s.cols source r)
    → ((r c : ℕ) → r < s.rows → c < s.cols → (r < from) ⊎ (to ≤ r) → source r c ≡ From r c)
    → (b : Bool) → eqb n 0 ≡ b → AreNamedMarked s source marks (moved_marked n from to marks)
moved_by s source n from to marks few none on off true e =
    subst (λ (k : List Bool). AreNamedMarked s source marks k) (sym (ap (λ b. cond b marks (rows_marked from to marks)) e)) (named_none s source marks (none (is_zero n e)))
moved_by s source n from to marks few none on off false e =
    subst (λ (k : List Bool). AreNamedMarked s source marks k) (sym (ap (λ b. cond b marks (rows_marked from to marks)) e))
    (named_by s source (λ r. leb from r && ltb r to) marks few
    (λ r p h. let i = in_range from to r h in on (is_some n e) r p i.0 i.1)
    (λ r c p q h. off r c p q (out_range from to r h)))

up_none : (top bottom n r c : ℕ) → n ≡ 0 → up top bottom n r c ≡ From r c
up_none top bottom n r c e = ap (λ k. up top bottom k r c) e ∙ by_range (leb top r && leb r bottom) refl
  where
    by_range : (b : Bool) → (leb top r && leb r bottom) ≡ b → up top bottom 0 r c ≡ From r c
    by_range true h = grind (arith, common_steps)
    by_range false h = grind (arith, common_steps)

pub up_moves : (top bottom n r c : ℕ) → top ≤ r → r + n ≤ bottom → up top bottom n r c ≡ From (r + n) c
up_moves top bottom n r c p q = grind (arith, common_steps)

pub up_blank : (top bottom n r c : ℕ) → top ≤ r → r ≤ bottom → bottom < r + n → up top bottom n r c ≡ Fresh blank
up_blank top bottom n r c p q h = grind (arith, common_steps)

pub up_out : (top bottom n r c : ℕ) → (r < top) ⊎ (bottom + 1 ≤ r) → up top bottom n r c ≡ From r c
up_out top bottom n r c (inl p) = grind (arith, common_steps)
up_out top bottom n r c (inr p) = grind (arith, common_steps)

up_named : (cols top bottom n r : ℕ) → 0 < cols → 0 < n → top ≤ r → r < bottom + 1 → IsNamed cols (up top bottom n) r
up_named cols top bottom n r some pos p q = (
  0,
  some,
  λ e.
      elim (cases_lt bottom (r + n)) [
        | inl h ↦ fresh_not blank r 0 (sym (up_blank top bottom n r 0 p (omega (arith, q)) h) ∙ e)
        | inr h ↦ other_row_not (r + n) 0 r 0 (λ k. absurd (omega (arith, k, pos))) (sym (up_moves top bottom n r 0 p h) ∙ e)
      ],
)

down_none : (top bottom n r c : ℕ) → n ≡ 0 → down top bottom n r c ≡ From r c
down_none top bottom n r c e = ap (λ k. down top bottom k r c) e ∙ by_range (leb top r && leb r bottom) refl
  where
    by_range : (b : Bool) → (leb top r && leb r bottom) ≡ b → down top bottom 0 r c ≡ From r c
    by_range true h = grind (arith, common_steps)
    by_range false h = grind (arith, common_steps)

down_moves : (top bottom n r c : ℕ) → top + n ≤ r → r ≤ bottom → down top bottom n r c ≡ From (r - n) c
down_moves top bottom n r c p q = grind (arith, common_steps)

down_blank : (top bottom n r c : ℕ) → top ≤ r → r ≤ bottom → r < top + n → down top bottom n r c ≡ Fresh blank
down_blank top bottom n r c p q h = grind (arith, common_steps)

down_out : (top bottom n r c : ℕ) → (r < top) ⊎ (bottom + 1 ≤ r) → down top bottom n r c ≡ From r c
down_out top bottom n r c (inl p) = grind (arith, common_steps)
down_out top bottom n r c (inr p) = grind (arith, common_steps)

down_named : (cols top bottom n r : ℕ) → 0 < cols → 0 < n → top ≤ r → r < bottom + 1 → IsNamed cols (down top bottom n) r
down_named cols top bottom n r some pos p q = (
  0,
  some,
  λ e.
      elim (cases_lt r (top + n)) [
        | inl h ↦ fresh_not blank r 0 (sym (down_blank top bottom n r 0 p (omega (arith, q)) h) ∙ e)
        | inr h ↦ other_row_not (r - n) 0 r 0 (λ k. absurd (omega (arith, k, pos, h))) (sym (down_moves top bottom n r 0 h (omega (arith, q))) ∙ e)
      ],
)

-- a map of one row names it
in_row_named : (cols R r c : ℕ) (one : ℕ → RowSource) → r ≡ R → c < cols → (at_row R (one c) ≢ From R c) → IsNamed cols (in_row R one) r
in_row_named cols R r c one e c_in ne = (c, c_in, λ h. ne (sym (in_here R c one) ∙ sym (ap (λ j. in_row R one j c) e) ∙ h ∙ ap (λ j. From j c) e))

is_row : (r R : ℕ) → eqb r R ≡ true → r ≡ R
is_row r R h = grind (arith, common_steps)

is_other : (r R : ℕ) → eqb r R ≡ false → r ≢ R
is_other r R h e = false≢true (sym h ∙ (grind (arith, common_steps)))

row_named : (s : Screen) (R c : ℕ) (one : ℕ → RowSource) (marks : List Bool) → s.rows ≤ 200 → c < s.cols → (at_row R (one c) ≢ From R c)
    → AreNamedMarked s (in_row R one) marks (row_marked R marks)
row_named s R c one marks few c_in ne =
    named_by s (in_row R one) (λ r. eqb r R) marks few (λ r p h. in_row_named s.cols R r c one (is_row r R h) c_in ne) (λ r d p q h. in_other R r d one (is_other r R h))

module _ (s : Screen) (marks : List Bool) (is : IsScreen s) where
  pub few : s.rows ≤ 200
  few = is.frame.size.most_rows

  pub some : 0 < s.cols
  some = omega (arith, is.frame.col_in)

  pub up_marks : (n : ℕ) → AreNamedMarked s (up s.top s.bottom n) marks (marks_scrolled n s marks)
  up_marks n =
      moved_by s (up s.top s.bottom n) n s.top (s.bottom + 1) marks few (λ e r c p q. up_none s.top s.bottom n r c e)
      (λ pos r p a b. up_named s.cols s.top s.bottom n r some pos a b) (λ r c p q out. up_out s.top s.bottom n r c out) (eqb n 0) refl

  pub down_marks : (n : ℕ) → AreNamedMarked s (down s.top s.bottom n) marks (marks_scrolled n s marks)
  down_marks n =
      moved_by s (down s.top s.bottom n) n s.top (s.bottom + 1) marks few (λ e r c p q. down_none s.top s.bottom n r c e)
      (λ pos r p a b. down_named s.cols s.top s.bottom n r some pos a b) (λ r c p q out. down_out s.top s.bottom n r c out) (eqb n 0) refl

  lines_marked : (n : ℕ) → is_between_margins s ≡ true → moved_marked n s.row (s.bottom + 1) marks ≡ marks_lines_moved n s marks
  lines_marked n h = sym (ap (λ b. cond b (moved_marked n s.row (s.bottom + 1) marks) marks) h)

  pub lines_up : (n : ℕ) → is_between_margins s ≡ true → AreNamedMarked s (up s.row s.bottom n) marks (marks_lines_moved n s marks)
  lines_up n h =
      subst (λ (k : List Bool). AreNamedMarked s (up s.row s.bottom n) marks k) (lines_marked n h)
      (moved_by s (up s.row s.bottom n) n s.row (s.bottom + 1) marks few (λ e r c p q. up_none s.row s.bottom n r c e)
      (λ pos r p a b. up_named s.cols s.row s.bottom n r some pos a b) (λ r c p q out. up_out s.row s.bottom n r c out) (eqb n 0) refl)

  pub lines_down : (n : ℕ) → is_between_margins s ≡ true → AreNamedMarked s (down s.row s.bottom n) marks (marks_lines_moved n s marks)
  lines_down n h =
      subst (λ (k : List Bool). AreNamedMarked s (down s.row s.bottom n) marks k) (lines_marked n h)
      (moved_by s (down s.row s.bottom n) n s.row (s.bottom + 1) marks few (λ e r c p q. down_none s.row s.bottom n r c e)
      (λ pos r p a b. down_named s.cols s.row s.bottom n r some pos a b) (λ r c p q out. down_out s.row s.bottom n r c out) (eqb n 0) refl)

  -- a map of the cursor's row that is the row itself if n is 0
  cells_by : (n : ℕ) (one : ℕ → RowSource) → (n ≡ 0 → (c : ℕ) → c < s.cols → one c ≡ Column c) → (0 < n → at_row s.row (one s.col) ≢ From s.row s.col)
      → AreNamedMarked s (in_row s.row one) marks (marks_cells_moved n s marks)
  cells_by n one none on =
      moved_by s (in_row s.row one) n s.row (s.row + 1) marks few
      (λ e r c p q. elim (cases_eq r s.row) [
        | inl h ↦ ap (λ j. in_row s.row one j c) h ∙ in_here s.row c one ∙ ap (at_row s.row) (none e c q) ∙ sym (ap (λ j. From j c) h)
        | inr h ↦ in_other s.row r c one h
      ])
      (λ pos r p a b. in_row_named s.cols s.row r s.col one (omega (arith, a, b)) is.frame.col_in (on pos))
      (λ r c p q out. in_other s.row r c one (λ e. elim out [ inl a ↦ absurd (omega (arith, a, e)) | inr a ↦ absurd (omega (arith, a, e)) ])) (eqb n 0) refl

  inserted_none : (col n c : ℕ) → n ≡ 0 → insertion_source col n c ≡ Column c
  inserted_none col n c e = ap (λ k. insertion_source col k c) e ∙ by_side (ltb c col) refl
    where
      by_side : (b : Bool) → ltb c col ≡ b → insertion_source col 0 c ≡ Column c
      by_side true h = grind (arith, common_steps)
      by_side false h = grind (arith, common_steps)

  inserted_here : (col n : ℕ) → 0 < n → insertion_source col n col ≡ RowSource.Fresh blank
  inserted_here col n h = grind (arith, common_steps)

  pub inserted_marks : (n : ℕ) → AreNamedMarked s (in_row s.row (insertion_source s.col n)) marks (marks_cells_moved n s marks)
  inserted_marks n =
      cells_by n (insertion_source s.col n) (λ e c q. inserted_none s.col n c e)
      (λ pos e. fresh_not blank s.row s.col (sym (ap (at_row s.row) (inserted_here s.col n pos)) ∙ e))

  deleted_none : (cols col n c : ℕ) → n ≡ 0 → c < cols → deletion_source cols col n c ≡ Column c
  deleted_none cols col n c e q = ap (λ k. deletion_source cols col k c) e ∙ by_side (ltb c col) refl
    where
      by_side : (b : Bool) → ltb c col ≡ b → deletion_source cols col 0 c ≡ Column c
      by_side true h = grind (arith, common_steps)
      by_side false h = grind (arith, common_steps)

  deleted_fresh : (cols col n : ℕ) → cols ≤ col + n → deletion_source cols col n col ≡ RowSource.Fresh blank
  deleted_fresh cols col n h = grind (arith, common_steps)

  deleted_moves : (cols col n : ℕ) → col + n < cols → deletion_source cols col n col ≡ Column (col + n)
  deleted_moves cols col n h = grind (arith, common_steps)

  pub deleted_marks : (n : ℕ) → AreNamedMarked s (in_row s.row (deletion_source s.cols s.col n)) marks (marks_cells_moved n s marks)
  deleted_marks n =
      cells_by n (deletion_source s.cols s.col n) (λ e c q. deleted_none s.cols s.col n c e q) (λ pos e.
      elim (cases_lt (s.col + n) s.cols) [
        | inl h ↦ other_col_not s.row (s.col + n) s.row s.col (λ k. absurd (omega (arith, k, pos))) (sym (ap (at_row s.row) (deleted_moves s.cols s.col n h)) ∙ e)
        | inr h ↦ fresh_not blank s.row s.col (sym (ap (at_row s.row) (deleted_fresh s.cols s.col n h)) ∙ e)
      ])

  blanked_here : (from to : ℕ) → from < to → erasure_source from to from ≡ RowSource.Fresh blank
  blanked_here from to h = grind (arith, common_steps)

  blanked_marks : (from to : ℕ) → from < to → to ≤ s.cols → AreNamedMarked s (in_row s.row (erasure_source from to)) marks (marks_in_line s marks)
  blanked_marks from to h k = row_named s s.row from (erasure_source from to) marks few (omega (arith, h, k)) (λ e. fresh_not blank s.row from (sym (ap (at_row s.row) (blanked_here from to h)) ∙ e))

  pub erased_marks : (n : ℕ) → 0 < n → AreNamedMarked s (in_row s.row (erasure_source s.col (min (s.col + n) s.cols))) marks (marks_in_line s marks)
  erased_marks n pos = blanked_marks s.col (min (s.col + n) s.cols) (omega (arith, is.frame.col_in, pos)) (omega arith)

  pub line_range : (e : Extent) → (line_from e s.col < line_to e s.cols s.col) × (line_to e s.cols s.col ≤ s.cols)
  line_range ToEnd = (is.frame.col_in, omega arith)
  line_range ToStart = (omega arith, omega (arith, is.frame.col_in))
  line_range All = (some, omega arith)

  pub line_marks : (e : Extent) → AreNamedMarked s (in_row s.row (erasure_source (line_from e s.col) (line_to e s.cols s.col))) marks (marks_in_line s marks)
  line_marks e = blanked_marks (line_from e s.col) (line_to e s.cols s.col) (line_range e).0 (line_range e).1

  written_here : (x : Glyph) (col : ℕ) → writing_source x col col ≡ RowSource.Fresh x
  written_here x col = grind (arith, common_steps)

  pub written_marks : (x : Glyph) → AreNamedMarked s (in_row s.row (writing_source x s.col)) marks (row_marked s.row marks)
  written_marks x = row_named s s.row s.col (writing_source x s.col) marks few is.frame.col_in (λ e. fresh_not x s.row s.col (sym (ap (at_row s.row) (written_here x s.col)) ∙ e))

  in_page : (e : Extent) (r : ℕ) → page_from e s.row ≤ r → r < page_to e s.rows s.row → IsNamed s.cols (page_blanked e s.row s.col) r
  in_page e r p q = (0, some, λ h. fresh_not blank r 0 (sym (ap (λ b. cond b (Fresh blank) (From r 0)) (inside e s.rows s.row s.col r 0 p q)) ∙ h))

  in_line : (e : Extent) (r : ℕ) → r ≡ s.row → IsNamed s.cols (page_blanked e s.row s.col) r
  in_line e r k =
      let here : is_in_page e s.row s.col s.row (line_from e s.col) ≡ true =
      sym (row_agrees e s.cols s.row s.col (line_from e s.col) (omega (arith, (line_range e).0, (line_range e).1))) ∙ range_in (line_from e s.col) (line_to e s.cols s.col) (line_from e s.col) (omega arith) (line_range e).0 in (
        line_from e s.col,
        omega (arith, (line_range e).0, (line_range e).1),
        λ h.
            fresh_not blank r (line_from e s.col) (sym (ap (λ j. page_blanked e s.row s.col j (line_from e s.col)) k ∙ ap (λ b. cond b (Fresh blank) (From s.row (line_from e s.col))) here) ∙ h),
      )

  pub page_marks : (e : Extent) → AreNamedMarked s (page_blanked e s.row s.col) marks (marks_erased_in_page e s marks)
  page_marks e =
      let from = page_from e s.row in
      let to = page_to e s.rows s.row in
      let both : ℕ → Bool = λ r. eqb r s.row || (leb from r && ltb r to) in
      subst (λ (k : List Bool). AreNamedMarked s (page_blanked e s.row s.col) marks k)
      (sym (marked_twice (λ r. eqb r s.row) (λ r. leb from r && ltb r to) both marks (λ r h. refl)))
      (named_by s (page_blanked e s.row s.col) both marks few
      (λ r p h. elim (cases_eq r s.row) [
        | inl k ↦ in_line e r k
        | inr k ↦ let i = in_range from to r (sym (ap (λ b. b || (leb from r && ltb r to)) (other_row r s.row k)) ∙ h) in in_page e r i.0 i.1
      ])
      (λ r c p q h. elim (cases_eq r s.row) [
        | inl k ↦ absurd (false≢true (sym h ∙ ap (λ b. b || (leb from r && ltb r to)) (same_row r s.row k)))
        | inr k ↦
            ap (λ b. cond b (Fresh blank) (From r c))
            (outside e s.rows s.row s.col r c p k (out_range from to r (sym (ap (λ b. b || (leb from r && ltb r to)) (other_row r s.row k)) ∙ h)))
      ]))

-- every row of 200 is marked
pub all_marked : (r : ℕ) → r < 200 → is_marked all_on r ≡ true
unfolding all_on
all_marked r h = get_or-replicate 200 r true false h
