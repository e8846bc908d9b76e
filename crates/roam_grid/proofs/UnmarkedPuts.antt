-- A row without a mark shows the same cells as before when cells are written, one or many, and when a code point joins one.
use Rattle.std.proofs.Common.{◌≡◌, ◌≢◌, ℕ, suc, ◌+◌, ◌-◌, ◌*◌, ◌<◌, ◌≤◌, ◌⊎◌, inl, inr, Bool, true, false, ◌&&◌, ◌||◌, cond, eqb, ltb, leb, List, [], ◌∷◌, ◌++◌, length, get_or, set, refl, sym, ap, ◌∙◌, arith, length-append, get_or-set_same, get_or-set_other}
use Rattle.std.proofs.lemmas.Bool.{false≢true, cases_eq, cases_lt}
use Rattle.std.proofs.lemmas.Nat.{same_from_place}
use Rattle.std.proofs.lemmas.Grind.{common_steps}
use Rattle.roam_cells.specs.Glyph.{Glyph, is_wide, is_right_half, right_of, blank, is_cell_text, with_point}
use Rattle.roam_cells.specs.Place.{cell_at, glyph_at, AreWhole, IsWholeRow}
use Rattle.roam_cells.proofs.Places.{get_or-table, place_below}
use Rattle.roam_rows.specs.Row.{RowSource, Column, Fresh, row_moved, IsInRow}
use Rattle.roam_rows.specs.Places.{Source, mapped_cells, moved_at, in_row}
use Rattle.roam_rows.specs.Editing.{insertion_source}
use Rattle.roam_rows.specs.Scrolling.{up}
use Rattle.roam_rows.specs.Writing.{writing_source, base_column}
use Rattle.roam_rows.proofs.Inking.{written_whole}
use Rattle.roam_rows.proofs.Lifting.{in_other, in_row_else}
use Rattle.roam_rows.proofs.Shifts.{inserted_whole}
use Rattle.roam_rows.proofs.Vertical.{row_stays, row_blank, rows_whole}
use Rattle.roam_grid.specs.Cursor.{after_carriage_return, after_index}
use Rattle.roam_grid.specs.Laws.{IsChanged, ShowsUnmarked}
use Rattle.roam_grid.specs.Marks.{is_marked, row_marked, marks_scrolled, marks_indexed, marks_settled, marks_with_room, marks_put, marks_put_all, joins, marks_joined_in, marks_joined}
use Rattle.roam_grid.specs.Screen.{Screen, IsScreen, mapped_screen}
use Rattle.roam_grid.specs.Scrolling.{scrolled_up}
use Rattle.roam_grid.specs.Writing.{columns, after_wrap, wrap_done, with_room, made_way, after_ink, after_advance, leaves_row, put_on, put_all, joined_in, joined_on}
use Rattle.roam_grid.specs.declared.writing.Writing.{Writing}
use Rattle.roam_grid.proofs.Marked.{marked_at, same_row}
use Rattle.roam_grid.proofs.MarkedRuns.{made_row, marks_steps}
use Rattle.roam_grid.proofs.Named.{or_none, out_range, up_out, up_moves, up_blank}
use Rattle.roam_grid.proofs.Runs.{in_row_whole, row_of, row_of_whole}
use Rattle.roam_grid.proofs.Unmarked.{row_same, unchanged}

-- the requirements of the steps of writing to a screen
record IsSound (s : Screen) : Type 0 where
  few : s.rows ≤ 200
  row_in : s.row < s.rows
  bottom_in : s.bottom < s.rows
  whole : AreWhole s.rows s.cols s.cells

-- a step, and the parts that it keeps
record Goes (s t : Screen) (m k : List Bool) : Type 0 where
  rows : t.rows ≡ s.rows
  cols : t.cols ≡ s.cols
  sound : IsSound t
  shown : ShowsUnmarked s t m k

was_off : (a b : Bool) → (a ≡ true → b ≡ true) → b ≡ false → a ≡ false
was_off false b h e = refl
was_off true b h e = absurd (false≢true (sym e ∙ h refl))

-- one step and then another
steps : (s t u : Screen) (m k l : List Bool) → Goes s t m k → Goes t u k l → Goes s u m l
steps s t u m k l a b = record {
  rows = b.rows ∙ a.rows;
  cols = b.cols ∙ a.cols;
  sound = b.sound;
  shown = record {
    stay = λ r p e. b.shown.stay r (omega (arith, a.rows, p)) (a.shown.stay r p e);
    shows = λ r c p q off.
        let then_in : r < t.rows = omega (arith, a.rows, p) in
        let mid_off = was_off (is_marked k r) (is_marked l r) (b.shown.stay r then_in) off in
        ap (λ n. cell_at n u.cells r c) (sym a.cols) ∙ b.shown.shows r c then_in (omega (arith, a.cols, q)) off ∙ ap (λ n. cell_at n t.cells r c) a.cols ∙ a.shown.shows r c p q mid_off;
  };
}

goes_nowhere : (s : Screen) (m : List Bool) → IsSound s → Goes s s m m
goes_nowhere s m sound = record { rows = refl; cols = refl; sound = sound; shown = unchanged s s m refl }

-- the rows go up by one
module _ (s : Screen) (m : List Bool) (is : IsSound s) where
  abbrev source : ℕ → ℕ → Source
  source = up s.top s.bottom 1

  up_at : (r c : ℕ) → r < s.rows → c < s.cols → cell_at s.cols (mapped_cells s.rows s.cols s.cells source) r c ≡ moved_at s.cols s.cells source r c
  up_at r c p q = get_or-table s.rows s.cols (moved_at s.cols s.cells source) r c blank p q

  stays_there : (r : ℕ) → r < s.rows → (r < s.top) ⊎ (s.bottom + 1 ≤ r) → (c : ℕ) → c < s.cols → cell_at s.cols (mapped_cells s.rows s.cols s.cells source) r c ≡ cell_at s.cols s.cells r c
  stays_there r p out c q = row_same s source r c is.whole p q (λ d h. up_out s.top s.bottom 1 r d out)

  up_whole : AreWhole s.rows s.cols (mapped_cells s.rows s.cols s.cells source)
  up_whole =
      rows_whole s.rows s.cols s.cells (mapped_cells s.rows s.cols s.cells source) is.whole (λ r p.
      elim (cases_lt r s.top) [
        | inl a ↦ inl (r, p, λ c q. stays_there r p (inl a) c q)
        | inr low ↦ elim (cases_lt s.bottom r) [
          | inl a ↦ inl (r, p, λ c q. stays_there r p (inr (omega (arith, a))) c q)
          | inr high ↦ elim (cases_lt s.bottom (r + 1)) [
            | inl a ↦ inr (λ c q. up_at r c p q ∙ row_blank s.cols s.cells source r c (λ d. up_blank s.top s.bottom 1 r d low high a))
            | inr a ↦
                inl (
                  r + 1,
                  omega (arith, a, is.bottom_in),
                  λ c q.
                      up_at r c p q ∙ row_stays s.rows s.cols s.cells is.whole source r c (r + 1) (omega (arith, a, is.bottom_in)) q (λ d. up_moves s.top s.bottom 1 r d low a),
                )
          ]
        ]
      ])

  abbrev names : ℕ → Bool
  names r = leb s.top r && ltb r (s.bottom + 1)

  up_shown : ShowsUnmarked s (scrolled_up 1 s) m (marks_scrolled 1 s m)
  unfolding scrolled_up
  up_shown = record {
    stay = λ r p e. marked_at names m r (omega (arith, is.few, p)) ∙ ap (λ b. b || names r) e;
    shows = λ r c p q off.
        stays_there r p (out_range s.top (s.bottom + 1) r (or_none (is_marked m r) (names r) (sym (marked_at names m r (omega (arith, is.few, p))) ∙ off))) c q;
  }

  next_row : eqb (s.row + 1) s.rows ≡ false → s.row + 1 < s.rows
  next_row e = let h = is.row_in in grind (arith, common_steps)

  index_by : (b d : Bool) → eqb (s.row + 1) s.rows ≡ d
      → Goes s (cond b (record (scrolled_up 1 s) { pending = false }) (cond d (record s { pending = false }) (record s { row = s.row + 1; pending = false }))) m (cond b (marks_scrolled 1 s m) m)
  unfolding scrolled_up
  index_by true d e = record {
    rows = refl;
    cols = refl;
    sound = record { few = is.few; row_in = is.row_in; bottom_in = is.bottom_in; whole = up_whole };
    shown = let h = up_shown in record { stay = h.stay; shows = h.shows };
  }
  index_by false true e = record {
    rows = refl;
    cols = refl;
    sound = record { few = is.few; row_in = is.row_in; bottom_in = is.bottom_in; whole = is.whole };
    shown = unchanged s _ m refl;
  }
  index_by false false e = record {
    rows = refl;
    cols = refl;
    sound = record { few = is.few; row_in = next_row e; bottom_in = is.bottom_in; whole = is.whole };
    shown = unchanged s _ m refl;
  }

  index_goes : Goes s (after_index s) m (marks_indexed s m)
  unfolding after_index marks_indexed
  index_goes = index_by (eqb s.row s.bottom) (eqb (s.row + 1) s.rows) refl

-- a wrap
wrap_goes : (s : Screen) (m : List Bool) → IsSound s → Goes s (after_wrap s) m (marks_indexed s m)
unfolding after_wrap after_carriage_return marks_indexed
wrap_goes s m is =
    let g = index_goes (after_carriage_return s) m (record { few = is.few; row_in = is.row_in; bottom_in = is.bottom_in; whole = is.whole }) in
    record { rows = g.rows; cols = g.cols; sound = g.sound; shown = record { stay = g.shown.stay; shows = g.shown.shows } }

module _ (s : Screen) (m : List Bool) (is : IsSound s) where
  settle_by : (b : Bool) → Goes s (cond b (after_wrap s) s) m (cond b (marks_indexed s m) m)
  settle_by true = wrap_goes s m is
  settle_by false = goes_nowhere s m is

  settle_goes : Goes s (wrap_done s) m (marks_settled s m)
  unfolding wrap_done marks_settled
  settle_goes = settle_by s.pending

  room_by : (a b w : Bool) → Goes s (cond (a && b) (cond w (after_wrap s) (record s { col = s.cols - 2 })) s) m (cond (a && b && w) (marks_indexed s m) m)
  room_by true true true = wrap_goes s m is
  room_by true true false = record {
    rows = refl;
    cols = refl;
    sound = record { few = is.few; row_in = is.row_in; bottom_in = is.bottom_in; whole = is.whole };
    shown = unchanged s _ m refl;
  }
  room_by true false w = goes_nowhere s m is
  room_by false b w = goes_nowhere s m is

  room_goes : (n : ℕ) (w : Writing) → Goes s (with_room n w s) m (marks_with_room n w s m)
  unfolding with_room
  room_goes n w = room_by (eqb n 2) (eqb (s.col + 1) s.cols) w.wraps

  advance_by : (n : ℕ) (w : Writing) (b : Bool) → Goes s (cond b (record s { col = s.col + n }) (record s { col = s.cols - 1; pending = w.wraps })) m m
  advance_by n w true = record {
    rows = refl;
    cols = refl;
    sound = record { few = is.few; row_in = is.row_in; bottom_in = is.bottom_in; whole = is.whole };
    shown = unchanged s _ m refl;
  }
  advance_by n w false = record {
    rows = refl;
    cols = refl;
    sound = record { few = is.few; row_in = is.row_in; bottom_in = is.bottom_in; whole = is.whole };
    shown = unchanged s _ m refl;
  }

  advance_goes : (n : ℕ) (w : Writing) → Goes s (after_advance n w s) m m
  unfolding after_advance
  advance_goes n w = advance_by n w (ltb (s.col + n) s.cols)

  -- a map of the cursor's row, which is marked
  row_goes : (one : ℕ → RowSource) (k : List Bool) → ((r : ℕ) → r < s.rows → is_marked m r ≡ true → is_marked k r ≡ true) → is_marked k s.row ≡ true
      → ((c : ℕ) → c < s.cols → IsInRow s.cols (one c)) → IsWholeRow (row_moved (row_of s.cols s.cells s.row) one) → Goes s (mapped_screen (in_row s.row one) s) m k
  row_goes one k stay on stays line = record {
    rows = refl;
    cols = refl;
    sound = record { few = is.few; row_in = is.row_in; bottom_in = is.bottom_in; whole = in_row_whole s.rows s.cols s.row s.cells is.whole is.row_in one stays line };
    shown = record {
      stay = stay;
      shows = λ r c p q off. elim (cases_eq r s.row) [
        | inl e ↦ absurd (false≢true (sym off ∙ ap (is_marked k) e ∙ on))
        | inr ne ↦ row_same s (in_row s.row one) r c is.whole p q (λ d h. in_other s.row r d one ne)
      ];
    };
  }

  line_whole : IsWholeRow (row_of s.cols s.cells s.row)
  line_whole = row_of_whole s.rows s.cols s.row s.cells is.whole is.row_in

  marks_row : is_marked (row_marked s.row m) s.row ≡ true
  marks_row = marked_at (λ r. eqb r s.row) m s.row (omega (arith, is.few, is.row_in)) ∙ ap (λ b. is_marked m s.row || b) (same_row s.row s.row refl) ∙ or_on (is_marked m s.row)
    where
      or_on : (b : Bool) → (b || true) ≡ true
      or_on true = refl
      or_on false = refl

  marks_stay : (r : ℕ) → r < s.rows → is_marked m r ≡ true → is_marked (row_marked s.row m) r ≡ true
  marks_stay r p e = marked_at (λ j. eqb j s.row) m r (omega (arith, is.few, p)) ∙ ap (λ b. b || eqb r s.row) e

  in_three : (cols c d : ℕ) (a b : Bool) → c < cols → d < cols → IsInRow cols (cond a (Column c) (cond b (Fresh blank) (Column d)))
  in_three cols c d true b p q = p
  in_three cols c d false true p q = tt
  in_three cols c d false false p q = q

  way_by : (n : ℕ) (b : Bool) → Goes s (cond b (mapped_screen (in_row s.row (insertion_source s.col n)) s) s) m (row_marked s.row m)
  way_by n true =
      row_goes (insertion_source s.col n) (row_marked s.row m) marks_stay marks_row
      (λ c q. in_three s.cols c (c - n) (ltb c s.col) (ltb c (s.col + n)) q (omega arith))
      (inserted_whole s.col n (row_of s.cols s.cells s.row) line_whole)
  way_by n false = record { rows = refl; cols = refl; sound = is; shown = record { stay = marks_stay; shows = λ r c p q off. refl } }

  way_goes : (n : ℕ) (w : Writing) → Goes s (made_way n w s) m (row_marked s.row m)
  unfolding made_way
  way_goes n w = way_by n w.inserts

  ink_goes : (x : Glyph) → is_right_half x ≡ false → is_marked m s.row ≡ true → Goes s (after_ink x s) m m
  unfolding after_ink
  ink_goes x no_half on =
      row_goes (writing_source x s.col) m (λ r p e. e) on (λ c q. in_row_else s.cols c x (right_of x) (eqb c s.col) (is_wide x && eqb c (s.col + 1)) q)
      (written_whole s.col (row_of s.cols s.cells s.row) x line_whole no_half)

put_goes : (x : Glyph) (w : Writing) (s : Screen) (m : List Bool) → IsSound s → is_right_half x ≡ false → Goes s (put_on x w s) m (marks_put x w s m)
unfolding put_on marks_put
put_goes x w s m is no_half =
    let n = columns x in
    let t = wrap_done s in
    let u = with_room n w t in
    let v = made_way n w u in
    let m1 = marks_settled s m in
    let m2 = marks_with_room n w t m1 in
    let k = row_marked u.row m2 in
    let one = settle_goes s m is in
    let two = room_goes t m1 one.sound n w in
    let three = way_goes u m2 two.sound n w in
    let on : is_marked k v.row ≡ true = ap (is_marked k) (made_row n w u) ∙ marks_row u m2 two.sound in
    let four = ink_goes v k three.sound x no_half on in
    let five = advance_goes (after_ink x v) k four.sound n w in
    steps s t (after_advance n w (after_ink x v)) m m1 k one
    (steps t u (after_advance n w (after_ink x v)) m1 m2 k two (steps u v (after_advance n w (after_ink x v)) m2 k k three (steps v (after_ink x v) (after_advance n w (after_ink x v)) k k k four five)))

put_all_goes : (xs : List Glyph) (w : Writing) (s : Screen) (m : List Bool) → IsSound s → ((k : ℕ) → k < length xs → is_right_half (glyph_at xs k) ≡ false) → Goes s (put_all xs w s) m (marks_put_all xs w s m)
unfolding put_all marks_put_all
put_all_goes [] w s m is no_half = goes_nowhere s m is
put_all_goes (x ∷ xs) w s m is no_half =
    let g = put_goes x w s m is (no_half 0 (omega arith)) in
    steps s (put_on x w s) (put_all xs w (put_on x w s)) m (marks_put x w s m) (marks_put_all xs w (put_on x w s) (marks_put x w s m)) g
    (put_all_goes xs w (put_on x w s) (marks_put x w s m) g.sound (λ k h. no_half (suc k) (omega (arith, h))))

sound_of : (s : Screen) → IsScreen s → IsSound s
sound_of s is = record { few = is.frame.size.most_rows; row_in = is.frame.row_in; bottom_in = is.frame.margins.1; whole = is.whole }

pub put_shows : (x : Glyph) (w : Writing) (s : Screen) (m : List Bool) → IsScreen s → is_right_half x ≡ false → ShowsUnmarked s (put_on x w s) m (marks_put x w s m)
put_shows x w s m is no_half = (put_goes x w s m (sound_of s is) no_half).shown

pub put_all_shows : (xs : List Glyph) (w : Writing) (s : Screen) (m : List Bool) → IsScreen s → ((k : ℕ) → k < length xs → is_right_half (glyph_at xs k) ≡ false) → ShowsUnmarked s (put_all xs w s) m (marks_put_all xs w s m)
put_all_shows xs w s m is no_half = (put_all_goes xs w s m (sound_of s is) no_half).shown

-- setting an element to itself changes nothing
set_there : (l : List Glyph) (i j : ℕ) (y : Glyph) → i < length l → y ≡ get_or l i blank → get_or (set l i y) j blank ≡ get_or l j blank
set_there l i j y h e =
    elim (cases_eq j i) [
      | inl same ↦ ap (λ k. get_or (set l i y) k blank) same ∙ get_or-set_same l i y blank h ∙ e ∙ sym (ap (λ k. get_or l k blank) same)
      | inr ne ↦ get_or-set_other l i j y blank ne
    ]

base_in : (cols col : ℕ) (b : Bool) → col < cols → cond b (col - 1) col < cols
base_in cols col true h = omega arith
base_in cols col false h = h

module _ (s : Screen) (m : List Bool) (is : IsScreen s) (point : ℕ) where
  module _ (col : ℕ) (col_in : col < s.cols) where
    abbrev base : ℕ
    base = base_column s.cols s.cells s.row col

    abbrev was : Glyph
    was = cell_at s.cols s.cells s.row base

    abbrev at : ℕ
    at = s.row * s.cols + base

    base_below : base < s.cols
    base_below = base_in s.cols col (is_right_half (cell_at s.cols s.cells s.row col)) col_in

    at_in : at < length s.cells
    at_in = let h = place_below s.rows s.cols s.row base is.frame.row_in base_below in omega (arith, h, is.size)

    abbrev test : ℕ → Bool
    test r = eqb r s.row && joins col point s

    same_by : (r c : ℕ) → c < s.cols → test r ≡ false → cell_at s.cols (set s.cells at (with_point point was)) r c ≡ cell_at s.cols s.cells r c
    same_by r c q off = elim (cases_eq r s.row) [
      | inl e ↦
          let none : joins col point s ≡ false = sym (ap (λ b. b && joins col point s) (same_row r s.row e)) ∙ off in
          set_there s.cells at (r * s.cols + c) (with_point point was) at_in (ap (λ b. cond b (record was { points = was.points ++ point ∷ [] }) was) none)
      | inr ne ↦ get_or-set_other s.cells at (r * s.cols + c) (with_point point was) blank (λ e. ne (same_from_place r c s.row base s.cols q base_below e).0)
    ]

    join_shows : ShowsUnmarked s (joined_in col point s) m (marks_joined_in col point s m)
    join_shows = record {
      stay = λ r p e. marked_at test m r (omega (arith, is.frame.size.most_rows, p)) ∙ ap (λ b. b || test r) e;
      shows = λ r c p q off. same_by r c q (or_none (is_marked m r) (test r) (sym (marked_at test m r (omega (arith, is.frame.size.most_rows, p))) ∙ off));
    }

  joined_by : (b d : Bool)
      → ShowsUnmarked s (cond b (joined_in s.col point s) (cond d s (joined_in (s.col - 1) point s))) m (cond b (marks_joined_in s.col point s m) (cond d m (marks_joined_in (s.col - 1) point s m)))
  joined_by true d = join_shows s.col is.frame.col_in
  joined_by false true = unchanged s s m refl
  joined_by false false = join_shows (s.col - 1) (omega (arith, is.frame.col_in))

  pub joined_shows : ShowsUnmarked s (joined_on point s) m (marks_joined point s m)
  unfolding joined_on marks_joined
  joined_shows = joined_by s.pending (eqb s.col 0)

more_points : (points : List ℕ) (point : ℕ) → length (points ++ point ∷ []) ≡ length points + 1
more_points points point = length-append points (point ∷ [])

joined_not : (point : ℕ) (x : Glyph) → is_cell_text (x.points ++ point ∷ []) ≡ true → with_point point x ≢ x
joined_not point x on e =
    let more : length (x.points ++ point ∷ []) ≡ length x.points =
    ap (λ (g : Glyph). length g.points) (sym (ap (λ b. cond b (record x { points = x.points ++ point ∷ [] }) x) on) ∙ e) in
    absurd (omega (arith, more, more_points x.points point))

and_parts : (a b : Bool) → (a && b) ≡ true → (a ≡ true) × (b ≡ true)
and_parts true b h = (refl, h)
and_parts false b h = absurd (false≢true h)

module _ (s : Screen) (m : List Bool) (is : IsScreen s) (point r : ℕ) (r_in : r < s.rows) (off : is_marked m r ≡ false) where
  join_changes : (col : ℕ) → col < s.cols → is_marked (marks_joined_in col point s m) r ≡ true → IsChanged s (joined_in col point s) r
  join_changes col col_in on =
      let test : ℕ → Bool = λ j. eqb j s.row && joins col point s in
      let names : (eqb r s.row && joins col point s) ≡ true = sym (ap (λ b. b || test r) off) ∙ sym (marked_at test m r (omega (arith, is.frame.size.most_rows, r_in))) ∙ on in
      let parts = and_parts (eqb r s.row) (joins col point s) names in
      let e : r ≡ s.row = let h = parts.0 in grind (arith, common_steps) in
      let b = base_column s.cols s.cells s.row col in
      let old = cell_at s.cols s.cells s.row b in
      let here : cell_at s.cols (joined_in col point s).cells s.row b ≡ with_point point old =
      get_or-set_same s.cells (s.row * s.cols + b) (with_point point old) blank (at_in s m is point col col_in) in (
        b,
        base_below s m is point col col_in,
        λ k.
            joined_not point old parts.1 (sym here ∙ ap (λ j. cell_at s.cols (joined_in col point s).cells j b) (sym e) ∙ k ∙ ap (λ j. cell_at s.cols s.cells j b) e),
      )

  changes_by : (p d : Bool) → is_marked (cond p (marks_joined_in s.col point s m) (cond d m (marks_joined_in (s.col - 1) point s m))) r ≡ true
      → IsChanged s (cond p (joined_in s.col point s) (cond d s (joined_in (s.col - 1) point s))) r
  changes_by true d on = join_changes s.col is.frame.col_in on
  changes_by false true on = absurd (false≢true (sym off ∙ on))
  changes_by false false on = join_changes (s.col - 1) (omega (arith, is.frame.col_in)) on

  pub joined_changes : is_marked (marks_joined point s m) r ≡ true → IsChanged s (joined_on point s) r
  unfolding joined_on marks_joined
  joined_changes on = changes_by s.pending (eqb s.col 0) on

advanced_by : (n : ℕ) (w : Writing) (s : Screen) (b : Bool) → (cond b (record s { col = s.col + n }) (record s { col = s.cols - 1; pending = w.wraps })).row ≡ s.row
advanced_by n w s true = refl
advanced_by n w s false = refl

advanced_row : (n : ℕ) (w : Writing) (s : Screen) → (after_advance n w s).row ≡ s.row
unfolding after_advance
advanced_row n w s = advanced_by n w s (ltb (s.col + n) s.cols)

inked_row : (x : Glyph) (s : Screen) → (after_ink x s).row ≡ s.row
unfolding after_ink
inked_row x s = refl

-- the rows that go up before a cell is written, and the row that the cursor is in afterwards
pub put_is : (x : Glyph) (w : Writing) (s : Screen) (m : List Bool) → IsScreen s
    → marks_put x w s m ≡ row_marked (put_on x w s).row (cond (leaves_row (columns x) w s) (marks_scrolled 1 s m) m)
unfolding marks_put put_on
put_is x w s m is =
    let n = columns x in
    let u = with_room n w (wrap_done s) in
    let row : (after_advance n w (after_ink x (made_way n w u))).row ≡ u.row = advanced_row n w (after_ink x (made_way n w u)) ∙ inked_row x (made_way n w u) ∙ made_row n w u in
    ap (row_marked u.row) (marks_steps n w s m is.frame.size.least_columns)
    ∙ ap (λ r. row_marked r (cond (leaves_row n w s) (marks_scrolled 1 s m) m)) (sym row)
