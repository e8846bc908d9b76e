-- Cells that are put into rows, one row after the other.
use Rattle.std.proofs.Common.{◌≡◌, ℕ, zero, suc, ◌+◌, ◌-◌, ◌*◌, ◌/◌, ◌%◌, ◌<◌, ◌≤◌, ◌⊎◌, inl, inr, List, [], ◌∷◌, ◌++◌, length, get_or, set, drop, Option, Some, None, refl, sym, ap, subst, ◌∙◌, length-append, arith}
use Rattle.std.specs.Prelude.{◌↔◌, EachIndex, option_and_then}
use Rattle.std.proofs.lemmas.Bool.{cases_eq}
use Rattle.std.proofs.lemmas.List.{length-set, set-append_left, set-append_right, get_or-set_same, get_or-set_other, get_or-append_right, append_assoc}
use Rattle.std.proofs.lemmas.Option.{none-some}
use Rattle.roam_cells.specs.Glyph.{Glyph, blank}
use Rattle.roam_cells.specs.Place.{glyph_at, cell_at, IsWholeLine, IsWholeRow, AreWhole}
use Rattle.roam_cells.proofs.Places.{place_of}
use Rattle.roam_screens.specs.Lines.{cells_in_order, AreLines}
use Rattle.roam_screens.proofs.Lined.{joined_row, joined_count}
use Rattle.roam_update.specs.CellText.{Front, glyph_read, form_after, cell_size, cells_read}
use Rattle.roam_update.specs.Put.{cells_put}
use Rattle.roam_update.specs.Styles.{Form}
use Rattle.roam_update.specs.Runs.{with_cells_at}
use Rattle.roam_update.proofs.Putting.{laid, some_path, cells_put_none, cells_put_suc, cells_put_fails}
use Rattle.roam_update.proofs.Sizing.{row_cell}
use Rattle.roam_update.proofs.Slices.{row_whole}
use Rattle.roam_update.proofs.Touching.{cells_count, line_like}

-- ---- cells put into a part of a list

put_left : (xs ys gs : List Glyph) (k : ℕ) → k + length gs ≤ length xs → with_cells_at (xs ++ ys) k gs ≡ with_cells_at xs k gs ++ ys
unfolding with_cells_at
put_left xs ys [] k h = refl
put_left xs ys (g ∷ gs) k h =
    ap (λ (l : List Glyph). with_cells_at l (k + 1) gs) (set-append_left xs ys k g (omega (arith, h)))
    ∙ put_left (set xs k g) ys gs (k + 1) (omega (arith, h, length-set xs k g))

put_right : (xs ys gs : List Glyph) (m k : ℕ) → length xs ≡ m → with_cells_at (xs ++ ys) (m + k) gs ≡ xs ++ with_cells_at ys k gs
unfolding with_cells_at
put_right xs ys [] m k e = refl
put_right xs ys (g ∷ gs) m k e =
    let less : m + k - m ≡ k = omega arith in
    let next : m + k + 1 ≡ m + (k + 1) = omega arith in
    ap (λ (l : List Glyph). with_cells_at l (m + k + 1) gs) (set-append_right xs ys m (m + k) g e (omega arith))
    ∙ (λ i. with_cells_at (xs ++ set ys (less i) g) (next i) gs) ∙ put_right xs (set ys k g) gs m (k + 1) e

rest_long : (cols : ℕ) (line : List Glyph) (lines : List (List Glyph)) → EachIndex (line ∷ lines) (λ r. length (get_or (line ∷ lines) r []) ≡ cols)
    → EachIndex lines (λ r. length (get_or lines r []) ≡ cols)
rest_long cols line lines long k h = long (suc k) (omega (arith, h))

-- cells put into one row
put_joined : (cols : ℕ) (lines : List (List Glyph)) (r c : ℕ) (gs : List Glyph) → EachIndex lines (λ k. length (get_or lines k []) ≡ cols)
    → r < length lines → c + length gs ≤ cols
    → with_cells_at (cells_in_order lines) (r * cols + c) gs ≡ cells_in_order (set lines r (with_cells_at (get_or lines r []) c gs))
put_joined cols [] r c gs long p q = absurd (omega (arith, p))
put_joined cols (line ∷ lines) zero c gs long p q =
    let first : length line ≡ cols = long 0 (omega arith) in
    let here : zero * cols + c ≡ c = omega arith in
    ap (λ (k : ℕ). with_cells_at (line ++ cells_in_order lines) k gs) here ∙ put_left line (cells_in_order lines) gs c (omega (arith, first, q))
put_joined cols (line ∷ lines) (suc r) c gs long p q =
    let first : length line ≡ cols = long 0 (omega arith) in
    let here : suc r * cols + c ≡ cols + (r * cols + c) = omega arith in
    ap (λ (k : ℕ). with_cells_at (line ++ cells_in_order lines) k gs) here
    ∙ put_right line (cells_in_order lines) gs cols (r * cols + c) first
    ∙ ap (λ (l : List Glyph). line ++ l) (put_joined cols lines r c gs (rest_long cols line lines long) (omega (arith, p)) q)

-- ---- the text of cells in two parts

cases_some : {A : Type 0} (o : Option A) → (o ≡ None) ⊎ ((x : A) × (o ≡ Some x))
cases_some None = inl refl
cases_some (Some x) = inr (x, refl)

no_laid : (c k : ℕ) (line cells : List Glyph) (o : Option (Front (List Glyph))) → option_and_then (laid c line) o ≡ None → option_and_then (laid k cells) o ≡ None
no_laid c k line cells None e = refl
no_laid c k line cells (Some cs) e = absurd cc

-- text that is not of n cells is so at any place
put_elsewhere : (f : Form) (n c k : ℕ) (line cells : List Glyph) (text : List ℕ) → cells_put f n c line text ≡ None → cells_put f n k cells text ≡ None
put_elsewhere f n c k line cells text e = no_laid c k line cells (cells_read f n text) e

abbrev whole_by : List (List Glyph) → ℕ → Front (List Glyph) → Option (Front (List Glyph))
whole_by lines r x = Some (record { value = cells_in_order (set lines r x.value); rest = x.rest; form = x.form })

laid_joined : (cols : ℕ) (lines : List (List Glyph)) (r c n : ℕ) (o : Option (Front (List Glyph))) (x : Front (List Glyph))
    → EachIndex lines (λ k. length (get_or lines k []) ≡ cols) → r < length lines → c + n ≤ cols
    → ((cs : Front (List Glyph)) → o ≡ Some cs → length cs.value ≡ n)
    → option_and_then (laid c (get_or lines r [])) o ≡ Some x → option_and_then (laid (r * cols + c) (cells_in_order lines)) o ≡ whole_by lines r x
laid_joined cols lines r c n None x long p q count e = absurd cc
laid_joined cols lines r c n (Some cs) x long p q count e =
    let both : record { value = with_cells_at (get_or lines r []) c cs.value; rest = cs.rest; form = cs.form } ≡ x = some_path e in
    let all = put_joined cols lines r c cs.value long p (omega (arith, q, count cs refl)) in
    let value = all ∙ ap (λ (y : Front (List Glyph)). cells_in_order (set lines r y.value)) both in
    λ i. Some (record { value = value i; rest = (both i).rest; form = (both i).form })

-- cells put into a row are put into all rows
put_row : (f : Form) (cols : ℕ) (lines : List (List Glyph)) (r c n : ℕ) (text : List ℕ) (x : Front (List Glyph))
    → EachIndex lines (λ k. length (get_or lines k []) ≡ cols) → r < length lines → c + n ≤ cols
    → cells_put f n c (get_or lines r []) text ≡ Some x → cells_put f n (r * cols + c) (cells_in_order lines) text ≡ whole_by lines r x
put_row f cols lines r c n text x long p q e = laid_joined cols lines r c n (cells_read f n text) x long p q (λ cs h. cells_count f n text cs h) e

-- cells that are put, and further ones behind them
put_split : (m k first : ℕ) (f : Form) (cells : List Glyph) (text : List ℕ) (x : Front (List Glyph)) → cells_put f m first cells text ≡ Some x
    → cells_put f (m + k) first cells text ≡ cells_put x.form k (first + m) x.value x.rest
put_split zero k first f cells text x e =
    let same : record { value = cells; rest = text; form = f } ≡ x = some_path (sym (cells_put_none f zero first cells text refl) ∙ e) in
    let all : zero + k ≡ k = omega arith in
    let here : first ≡ first + zero = omega arith in
    ap (λ (j : ℕ). cells_put f j first cells text) all ∙ (λ i. cells_put (same i).form k (here i) (same i).value (same i).rest)
put_split (suc m) k first f cells text x e =
    elim (cases_some (glyph_read f text)) [
      | inl none ↦ absurd (none-some x (sym (cells_put_fails f (suc m) first cells text (omega arith) none) ∙ e))
      | inr some ↦
          let g = some.0 in
          let next = form_after f text in
          let rest = drop (cell_size f text) text in
          let after = sym (cells_put_suc f m first cells text g some.1) ∙ e in
          let all : suc m + k ≡ suc (m + k) = omega arith in
          let here : first + 1 + m ≡ first + suc m = omega arith in
          ap (λ (j : ℕ). cells_put f j first cells text) all ∙ cells_put_suc f (m + k) first cells text g some.1
          ∙ put_split m k (first + 1) next (set cells first g) rest x after ∙ ap (λ (j : ℕ). cells_put x.form k j x.value x.rest) here
    ]

put_stops : (m k first : ℕ) (f : Form) (cells : List Glyph) (text : List ℕ) → cells_put f m first cells text ≡ None → cells_put f (m + k) first cells text ≡ None
put_stops zero k first f cells text e =
    absurd (none-some _ (sym e ∙ cells_put_none f zero first cells text refl))
put_stops (suc m) k first f cells text e =
    elim (cases_some (glyph_read f text)) [
      | inl none ↦ cells_put_fails f (suc m + k) first cells text (omega arith) none
      | inr some ↦
          let g = some.0 in
          let after = sym (cells_put_suc f m first cells text g some.1) ∙ e in
          let all : suc m + k ≡ suc (m + k) = omega arith in
          ap (λ (j : ℕ). cells_put f j first cells text) all ∙ cells_put_suc f (m + k) first cells text g some.1
          ∙ put_stops m k (first + 1) (form_after f text) (set cells first g) (drop (cell_size f text) text) after
    ]

-- ---- one step of a run over rows

module _ (f : Form) (cols : ℕ) (lines : List (List Glyph)) (place end n : ℕ) (text : List ℕ) (some : 0 < cols)
    (long : EachIndex lines (λ k. length (get_or lines k []) ≡ cols)) (there : place < end) (fits : end ≤ length lines * cols)
    (part : place % cols + n ≤ cols) (left : n ≤ end - place) where
  at : (place / cols < length lines) × (place % cols < cols) × (place / cols * cols + place % cols ≡ place)
  at = place_of (length lines) cols place (omega (arith, there, fits))

  pub step_row : place / cols < length lines
  step_row = at.0

  pub step_room : place % cols + n ≤ length (get_or lines (place / cols) [])
  step_room = let own = long (place / cols) at.0 in omega (arith, own, part)

  pub step_go : (line : List Glyph) (rest : List ℕ) (next : Form)
      → cells_put f n (place % cols) (get_or lines (place / cols) []) text ≡ Some (record { value = line; rest = rest; form = next })
      → cells_put next (end - (place + n)) (place + n) (cells_in_order (set lines (place / cols) line)) rest ≡ cells_put f (end - place) place (cells_in_order lines) text
  step_go line rest next e =
      let x : Front (List Glyph) = record { value = line; rest = rest; form = next } in
      let all : n + (end - (place + n)) ≡ end - place = omega (arith, there, left) in
      let here = put_row f cols lines (place / cols) (place % cols) n text x long at.0 part e in
      let here_is : cells_put f n place (cells_in_order lines) text ≡ whole_by lines (place / cols) x =
      ap (λ (k : ℕ). cells_put f n k (cells_in_order lines) text) (sym at.2) ∙ here in
      sym (put_split n (end - (place + n)) place f (cells_in_order lines) text
      (record { value = cells_in_order (set lines (place / cols) line); rest = rest; form = next }) here_is)
      ∙ ap (λ (k : ℕ). cells_put f k place (cells_in_order lines) text) all

  pub step_stops : cells_put f n (place % cols) (get_or lines (place / cols) []) text ≡ None → cells_put f (end - place) place (cells_in_order lines) text ≡ None
  step_stops e =
      let all : n + (end - (place + n)) ≡ end - place = omega (arith, there, left) in
      ap (λ (k : ℕ). cells_put f k place (cells_in_order lines) text) (sym all)
      ∙ put_stops n (end - (place + n)) place f (cells_in_order lines) text (put_elsewhere f n (place % cols) place (get_or lines (place / cols) []) (cells_in_order lines) text e)

  pub step_lines : (line : List Glyph) → length line ≡ length (get_or lines (place / cols) [])
      → EachIndex (set lines (place / cols) line) (λ k. length (get_or (set lines (place / cols) line) k []) ≡ cols)
  step_lines line as_long k h =
      elim (cases_eq k (place / cols)) [
        | inl e ↦
            ap (λ (j : ℕ). length (get_or (set lines (place / cols) line) j [])) e ∙ ap length (get_or-set_same lines (place / cols) line [] at.0)
            ∙ as_long ∙ long (place / cols) at.0
        | inr d ↦
            ap length (get_or-set_other lines (place / cols) k line [] d)
            ∙ long k (omega (arith, h, length-set lines (place / cols) line))
      ]

-- ---- whole characters

module _ (rows cols : ℕ) (lines : List (List Glyph)) (are : AreLines rows cols lines) where
  -- rows of whole characters are a screen of them
  pub whole_all : ((r : ℕ) → r < length lines → IsWholeRow (get_or lines r [])) → AreWhole rows cols (cells_in_order lines)
  whole_all each r p =
      let line = get_or lines r [] in
      let q : r < length lines = omega (arith, p, are.count) in
      let row = joined_row cols rows lines r are p in
      line_like cols (glyph_at line) (cell_at cols (cells_in_order lines) r)
      (λ c h. ap (λ (l : List Glyph). get_or l c blank) (sym row) ∙ row_cell cols r c (cells_in_order lines) h)
      (subst (λ (n : ℕ). IsWholeLine n (glyph_at line)) (are.long r q) (each r q))

  pub all_whole : AreWhole rows cols (cells_in_order lines) → (r : ℕ) → r < length lines → IsWholeRow (get_or lines r [])
  all_whole whole r q =
      let p : r < rows = omega (arith, q, are.count) in
      subst IsWholeRow (joined_row cols rows lines r are p) (row_whole rows cols (cells_in_order lines) r (joined_count cols rows lines are) whole p)

-- a row alone
pub one_line : (cols : ℕ) (cells : List Glyph) → length cells ≡ cols → AreWhole 1 cols cells ↔ IsWholeRow cells
one_line cols cells long =
    let at : (c : ℕ) → c < cols → cell_at cols cells 0 c ≡ glyph_at cells c =
    λ c q. let here : 0 * cols + c ≡ c = omega arith in ap (λ (k : ℕ). get_or cells k blank) here in (
      λ h. subst (λ (n : ℕ). IsWholeLine n (glyph_at cells)) (sym long) (line_like cols (cell_at cols cells 0) (glyph_at cells) at (h 0 (omega arith))),
      λ h r p.
          let e : 0 ≡ r = omega arith in
          subst (λ (k : ℕ). IsWholeLine cols (cell_at cols cells k)) e
          (line_like cols (glyph_at cells) (cell_at cols cells 0) (λ c q. sym (at c q)) (subst (λ (n : ℕ). IsWholeLine n (glyph_at cells)) long h)),
    )

-- ---- rows taken one after the other

module _ (done : List (List Glyph)) (line : List Glyph) (rest rows : List (List Glyph)) (e : done ++ line ∷ rest ≡ rows) where
  pub taken : get_or rows (length done) [] ≡ line
  taken =
      let none : length done - length done ≡ 0 = omega arith in
      ap (λ (l : List (List Glyph)). get_or l (length done) []) (sym e)
      ∙ get_or-append_right done (line ∷ rest) (length done) (length done) [] refl (omega arith)
      ∙ ap (λ (k : ℕ). get_or (line ∷ rest) k []) none

  pub taken_below : length done < length rows
  taken_below = omega (arith, ap length e, length-append done (line ∷ rest))

  pub taken_on : (done ++ line ∷ []) ++ rest ≡ rows
  taken_on = append_assoc done (line ∷ []) rest ∙ e
