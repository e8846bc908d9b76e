-- The operations on a screen keep it a screen of its size, and its cells' code points those of cells.
use Rattle.std.proofs.Common.{◌≡◌, ℕ, zero, suc, ◌+◌, ◌-◌, ◌*◌, ◌<◌, ◌≤◌, Bool, true, false, not, ◌&&◌, cond, eqb, ltb, leb, min, max, List, set, length, get_or, replicate, refl, sym, ap, ◌∙◌, arith, length-set}
use Rattle.std.specs.Char.{IsScalar}
use Rattle.std.proofs.lemmas.Bool.{false≢true, ltb-true, ltb-false, eqb-true, eqb-false}
use Rattle.std.proofs.lemmas.List.{length-replicate}
use Rattle.roam_cells.specs.Glyph.{Glyph, IsShown, default_style, blank}
use Rattle.roam_cells.specs.Limits.{IsSize}
use Rattle.roam_cells.specs.Place.{cell_at, glyph_at, row_of}
use Rattle.roam_cells.specs.Width.{width_of}
use Rattle.roam_cells.proofs.Ascii.{ascii_width}
use Rattle.roam_rows.specs.Row.{RowSource}
use Rattle.roam_rows.specs.Places.{Source, mapped_cells, in_row}
use Rattle.roam_rows.specs.Scrolling.{up, down}
use Rattle.roam_rows.specs.Editing.{insertion_source, deletion_source}
use Rattle.roam_rows.specs.Erasing.{erasure_source, unguarded_blanked}
use Rattle.roam_rows.specs.Writing.{writing_source}
use Rattle.roam_cells.proofs.CellLists.{cell_shown, default_is_style}
use Rattle.roam_rows.proofs.Keeping.{AreCells, IsPlain, IsPlainIn, either, plain_cells, up_plain, down_plain, blanked_plain, plain_row_cells, inserted_plain, deleted_plain, blanked_plain_in, written_cells, joined_cells, same_cells, blank_cells, sized_cells}
use Rattle.roam_grid.specs.Screen.{Screen, IsFrame, start, mapped_screen}
use Rattle.roam_grid.specs.Tabs.{stop_from, next_stop, stop_before, stops_on, stops_back}
use Rattle.roam_grid.specs.Tabbing.{after_tabs, after_back_tabs, stop_set, stop_cleared, stops_cleared}
use Rattle.roam_grid.specs.Scrolling.{scrolled_up, scrolled_down, with_margins}
use Rattle.roam_grid.specs.Cursor.{after_backspace, after_carriage_return, after_index, moved_to, row_above, moved_up, row_below, moved_down, moved_right, moved_left, wrap_cleared, after_reverse_index, after_restoring}
use Rattle.roam_grid.specs.Editing.{cells_inserted, cells_deleted, cells_erased, lines_inserted, lines_deleted, is_between_margins}
use Rattle.roam_grid.specs.Erasing.{line_from, line_to, is_in_page, page_blanked, erased_in_page, erased_in_line, page_unguarded_blanked, erased_selectively_in_page, erased_selectively_in_line}
use Rattle.roam_grid.specs.Frames.{letter_e, after_alignment, all_blank, after_restart, after_resizing}
use Rattle.roam_grid.specs.Writing.{columns, after_wrap, wrap_done, with_room, made_way, after_ink, after_advance, put_on, put_all, joined_in, joined_on}
use Rattle.roam_cells.specs.declared.extents.Extent.{Extent}
use Rattle.roam_grid.specs.declared.writing.Writing.{Writing}
use Rattle.roam_grid.proofs.Puts.{wrapped_place, settled_none}
use Rattle.roam_grid.proofs.Starting.{length-start_stops}

-- a screen whose cells have the code points of cells
pub record IsSound (s : Screen) : Type 0 where
  pub frame : IsFrame s
  pub cells : AreCells s.rows s.cols s.cells

-- such a screen of the size of another
pub record Kept (s t : Screen) : Type 0 where
  pub rows : t.rows ≡ s.rows
  pub cols : t.cols ≡ s.cols
  pub sound : IsSound t

pub kept_same : (s : Screen) → IsSound s → Kept s s
kept_same s is = record { rows = refl; cols = refl; sound = is }

pub kept_then : (s t u : Screen) → Kept s t → Kept t u → Kept s u
kept_then s t u h k = record { rows = k.rows ∙ h.rows; cols = k.cols ∙ h.cols; sound = k.sound }

-- with no wrap pending
quiet : (s t : Screen) → Kept s t → Kept s (record t { pending = false })
quiet s t h = record {
  rows = h.rows;
  cols = h.cols;
  sound = record {
    frame = record {
      size = h.sound.frame.size;
      row_in = h.sound.frame.row_in;
      col_in = h.sound.frame.col_in;
      pends = λ e. absurd (false≢true e);
      margins = h.sound.frame.margins;
      stops = h.sound.frame.stops;
    };
    cells = h.sound.cells;
  };
}

module _ (s : Screen) (is : IsSound s) where
  -- ---- fields one by one

  at_place : (row col : ℕ) (pending : Bool) → row < s.rows → col < s.cols → (pending ≡ true → col + 1 ≡ s.cols)
      → Kept s (record s { row = row; col = col; pending = pending })
  at_place row col pending p q pends = record {
    rows = refl;
    cols = refl;
    sound = record {
      frame = record { size = is.frame.size; row_in = p; col_in = q; pends = pends; margins = is.frame.margins; stops = is.frame.stops };
      cells = is.cells;
    };
  }

  at_rest : (row col : ℕ) → row < s.rows → col < s.cols → Kept s (record s { row = row; col = col; pending = false })
  at_rest row col p q = at_place row col false p q (λ e. absurd (false≢true e))

  with_cells : (cells : List Glyph) → AreCells s.rows s.cols cells → Kept s (record s { cells = cells })
  with_cells cells are = record {
    rows = refl;
    cols = refl;
    sound = record {
      frame = record {
        size = is.frame.size;
        row_in = is.frame.row_in;
        col_in = is.frame.col_in;
        pends = is.frame.pends;
        margins = is.frame.margins;
        stops = is.frame.stops;
      };
      cells = are;
    };
  }

  with_stops : (stops : List Bool) → length stops ≡ 500 → Kept s (record s { stops = stops })
  with_stops stops len = record {
    rows = refl;
    cols = refl;
    sound = record {
      frame = record {
        size = is.frame.size;
        row_in = is.frame.row_in;
        col_in = is.frame.col_in;
        pends = is.frame.pends;
        margins = is.frame.margins;
        stops = len;
      };
      cells = is.cells;
    };
  }

  plain : (source : ℕ → ℕ → Source) → ((r c : ℕ) → r < s.rows → c < s.cols → IsPlain s.rows s.cols (source r c)) → Kept s (mapped_screen source s)
  plain source each = with_cells (mapped_cells s.rows s.cols s.cells source) (plain_cells s.rows s.cols s.rows s.cols s.cells source is.cells each)

  plain_row : (one : ℕ → RowSource) → ((c : ℕ) → c < s.cols → IsPlainIn s.cols (one c)) → Kept s (mapped_screen (in_row s.row one) s)
  plain_row one each =
      with_cells (mapped_cells s.rows s.cols s.cells (in_row s.row one))
      (plain_row_cells s.rows s.cols s.row s.cells one is.cells is.frame.row_in each)

  row_low : s.row < s.rows
  row_low = is.frame.row_in

  col_low : s.col < s.cols
  col_low = is.frame.col_in

  -- ---- moves of the cursor

  pub wrap_cleared_kept : Kept s (wrap_cleared s)
  unfolding wrap_cleared
  wrap_cleared_kept = quiet s s (kept_same s is)

  pub backspaced_kept : Kept s (after_backspace s)
  unfolding after_backspace
  backspaced_kept = at_rest s.row (s.col - 1) row_low (omega (arith, col_low))

  pub carried_kept : Kept s (after_carriage_return s)
  unfolding after_carriage_return
  carried_kept = at_rest s.row 0 row_low (omega (arith, col_low))

  pub moved_to_kept : (row col : ℕ) → Kept s (moved_to row col s)
  unfolding moved_to
  moved_to_kept row col = at_rest (min row (s.rows - 1)) (min col (s.cols - 1)) (omega (arith, row_low)) (omega (arith, col_low))

  pub restored_kept : (row col : ℕ) (pending : Bool) → Kept s (after_restoring row col pending s)
  unfolding after_restoring
  restored_kept row col pending =
      at_place (min row (s.rows - 1)) (min col (s.cols - 1)) (pending && eqb (min col (s.cols - 1) + 1) s.cols) (omega (arith, row_low))
      (omega (arith, col_low))
      (by_pending pending)
    where
      by_pending : (b : Bool) → (b && eqb (min col (s.cols - 1) + 1) s.cols) ≡ true → min col (s.cols - 1) + 1 ≡ s.cols
      by_pending true e = eqb-true (min col (s.cols - 1) + 1) s.cols e
      by_pending false e = absurd (false≢true e)

  pub moved_up_kept : (n : ℕ) → Kept s (moved_up n s)
  unfolding moved_up
  moved_up_kept n =
      at_rest (row_above n s) s.col
      (either (λ k. k < s.rows) (ltb s.row s.top) (s.row - n) (max (s.row - n) s.top) (λ e. omega (arith, row_low))
      (λ e. omega (arith, row_low, ltb-false s.row s.top e)))
      col_low

  pub moved_down_kept : (n : ℕ) → Kept s (moved_down n s)
  unfolding moved_down
  moved_down_kept n =
      at_rest (row_below n s) s.col
      (either (λ k. k < s.rows) (ltb s.bottom s.row) (min (s.row + n) (s.rows - 1)) (min (s.row + n) s.bottom) (λ e. omega (arith, row_low))
      (λ e. omega (arith, is.frame.margins.1)))
      col_low

  pub moved_right_kept : (n : ℕ) → Kept s (moved_right n s)
  unfolding moved_right
  moved_right_kept n = at_rest s.row (min (s.col + n) (s.cols - 1)) row_low (omega (arith, col_low))

  pub moved_left_kept : (n : ℕ) → Kept s (moved_left n s)
  unfolding moved_left
  moved_left_kept n = at_rest s.row (s.col - n) row_low (omega (arith, col_low))

  -- ---- scrolls and margins

  pub scrolled_up_kept : (n : ℕ) → Kept s (scrolled_up n s)
  unfolding scrolled_up
  scrolled_up_kept n = plain (up s.top s.bottom n) (up_plain s.rows s.cols s.top s.bottom n is.frame.margins.1)

  pub scrolled_down_kept : (n : ℕ) → Kept s (scrolled_down n s)
  unfolding scrolled_down
  scrolled_down_kept n = plain (down s.top s.bottom n) (down_plain s.rows s.cols s.top s.bottom n)

  pub with_margins_kept : (top bottom : ℕ) → top < bottom → bottom < s.rows → Kept s (with_margins top bottom s)
  unfolding with_margins
  with_margins_kept top bottom p q = record {
    rows = refl;
    cols = refl;
    sound = record {
      frame = record {
        size = is.frame.size;
        row_in = is.frame.row_in;
        col_in = is.frame.col_in;
        pends = is.frame.pends;
        margins = (p, q);
        stops = is.frame.stops;
      };
      cells = is.cells;
    };
  }

  pub indexed_kept : Kept s (after_index s)
  unfolding after_index
  indexed_kept =
      either (Kept s) (eqb s.row s.bottom) (record (scrolled_up 1 s) { pending = false })
      (cond (eqb (s.row + 1) s.rows) (record s { pending = false }) (record s { row = s.row + 1; pending = false }))
      (λ e. quiet s (scrolled_up 1 s) (scrolled_up_kept 1))
      (λ e. either (Kept s) (eqb (s.row + 1) s.rows) (record s { pending = false }) (record s { row = s.row + 1; pending = false })
      (λ k. quiet s s (kept_same s is))
      (λ k. at_rest (s.row + 1) s.col (omega (arith, row_low, eqb-false (s.row + 1) s.rows k)) col_low))

  pub reverse_indexed_kept : Kept s (after_reverse_index s)
  unfolding after_reverse_index
  reverse_indexed_kept =
      either (Kept s) (eqb s.row s.top) (record (scrolled_down 1 s) { pending = false }) (record s { row = s.row - 1; pending = false })
      (λ e. quiet s (scrolled_down 1 s) (scrolled_down_kept 1))
      (λ e. at_rest (s.row - 1) s.col (omega (arith, row_low)) col_low)

  -- ---- tabs

  pub stop_set_kept : Kept s (stop_set s)
  unfolding stop_set
  stop_set_kept = with_stops (set s.stops s.col true) (length-set s.stops s.col true ∙ is.frame.stops)

  pub stop_cleared_kept : Kept s (stop_cleared s)
  unfolding stop_cleared
  stop_cleared_kept = with_stops (set s.stops s.col false) (length-set s.stops s.col false ∙ is.frame.stops)

  pub stops_cleared_kept : Kept s (stops_cleared s)
  unfolding stops_cleared
  stops_cleared_kept = with_stops (replicate 500 false) (length-replicate 500 false)

  -- ---- edits and erasures

  pub cells_inserted_kept : (n : ℕ) → Kept s (cells_inserted n s)
  unfolding cells_inserted
  cells_inserted_kept n = quiet s (mapped_screen (in_row s.row (insertion_source s.col n)) s)
      (plain_row (insertion_source s.col n) (λ c q. inserted_plain s.cols s.col n c q))

  pub cells_deleted_kept : (n : ℕ) → Kept s (cells_deleted n s)
  unfolding cells_deleted
  cells_deleted_kept n = quiet s (mapped_screen (in_row s.row (deletion_source s.cols s.col n)) s)
      (plain_row (deletion_source s.cols s.col n) (λ c q. deleted_plain s.cols s.col n c q))

  blanked_kept : (from to : ℕ) → Kept s (record (mapped_screen (in_row s.row (erasure_source from to)) s) { pending = false })
  blanked_kept from to =
      quiet s (mapped_screen (in_row s.row (erasure_source from to)) s)
      (plain_row (erasure_source from to) (λ c q. blanked_plain_in s.cols (leb from c && ltb c to) c q))

  pub cells_erased_kept : (n : ℕ) → Kept s (cells_erased n s)
  unfolding cells_erased
  cells_erased_kept n = blanked_kept s.col (min (s.col + n) s.cols)

  pub erased_in_page_kept : (extent : Extent) → Kept s (erased_in_page extent s)
  unfolding erased_in_page
  erased_in_page_kept extent =
      quiet s (mapped_screen (page_blanked extent s.row s.col) s)
      (plain (page_blanked extent s.row s.col) (λ r c p q. blanked_plain s.rows s.cols (is_in_page extent s.row s.col r c) r c p q))

  pub erased_in_line_kept : (extent : Extent) → Kept s (erased_in_line extent s)
  unfolding erased_in_line
  erased_in_line_kept extent = blanked_kept (line_from extent s.col) (line_to extent s.cols s.col)

  pub erased_selectively_in_page_kept : (extent : Extent) → Kept s (erased_selectively_in_page extent s)
  unfolding erased_selectively_in_page
  erased_selectively_in_page_kept extent =
      quiet s (mapped_screen (page_unguarded_blanked extent s.cols s.cells s.row s.col) s)
      (plain (page_unguarded_blanked extent s.cols s.cells s.row s.col)
      (λ r c p q. blanked_plain s.rows s.cols (is_in_page extent s.row s.col r c && not (cell_at s.cols s.cells r c).guarded) r c p q))

  pub erased_selectively_in_line_kept : (extent : Extent) → Kept s (erased_selectively_in_line extent s)
  unfolding erased_selectively_in_line
  erased_selectively_in_line_kept extent =
      let row = row_of s.cols s.cells s.row in
      let from = line_from extent s.col in
      let to = line_to extent s.cols s.col in
      quiet s (mapped_screen (in_row s.row (unguarded_blanked row from to)) s)
      (plain_row (unguarded_blanked row from to)
      (λ c q. blanked_plain_in s.cols (leb from c && ltb c to && not (glyph_at row c).guarded) c q))

  -- ---- whole screens

  pub aligned_kept : Kept s (after_alignment s)
  unfolding after_alignment
  aligned_kept =
      let one : width_of 0x45 ≡ 1 = ascii_width 0x45 (omega arith) (omega arith) in
      record {
        rows = refl;
        cols = refl;
        sound = record {
          frame = record {
            size = is.frame.size;
            row_in = omega (arith, row_low);
            col_in = omega (arith, col_low);
            pends = λ e. absurd (false≢true e);
            margins = (omega (arith, is.frame.size.least_rows), omega (arith, row_low));
            stops = is.frame.stops;
          };
          cells = same_cells s.rows s.cols letter_e (ap (λ w. eqb w 2) one) refl
              (cell_shown 0x45 default_style false (ap (λ w. not (eqb w 0) && true && true) one) refl default_is_style);
        };
      }

  pub all_blank_kept : Kept s (all_blank s)
  unfolding all_blank
  all_blank_kept = with_cells (replicate (s.rows * s.cols) blank) (blank_cells s.rows s.cols)

-- ---- lines that come in and go out

at_start : (s t : Screen) → Kept s t → Kept s (record t { col = 0; pending = false })
at_start s t h = kept_then s t (record t { col = 0; pending = false }) h
    (at_rest t h.sound t.row 0 h.sound.frame.row_in (omega (arith, h.sound.frame.col_in)))

pub lines_inserted_kept : (n : ℕ) (s : Screen) → IsSound s → Kept s (lines_inserted n s)
unfolding lines_inserted
lines_inserted_kept n s is =
    let t = mapped_screen (down s.row s.bottom n) s in
    either (Kept s) (is_between_margins s) (record t { col = 0; pending = false }) (wrap_cleared s)
    (λ e. at_start s t (plain s is (down s.row s.bottom n) (down_plain s.rows s.cols s.row s.bottom n))) (λ e. wrap_cleared_kept s is)

pub lines_deleted_kept : (n : ℕ) (s : Screen) → IsSound s → Kept s (lines_deleted n s)
unfolding lines_deleted
lines_deleted_kept n s is =
    let t = mapped_screen (up s.row s.bottom n) s in
    either (Kept s) (is_between_margins s) (record t { col = 0; pending = false }) (wrap_cleared s)
    (λ e. at_start s t (plain s is (up s.row s.bottom n) (up_plain s.rows s.cols s.row s.bottom n is.frame.margins.1)))
    (λ e. wrap_cleared_kept s is)

-- ---- steps from tab stop to tab stop

from_low : (n c : ℕ) (stops : List Bool) → stop_from n c stops ≤ c + n
unfolding stop_from
from_low zero c stops = omega arith
from_low (suc n) c stops =
    let rest = from_low n (c + 1) stops in
    either (λ k. k ≤ c + suc n) (get_or stops c false) c (stop_from n (c + 1) stops) (λ e. omega arith) (λ e. omega (arith, rest))

next_low : (last c : ℕ) (stops : List Bool) → c ≤ last → next_stop last stops c ≤ last
next_low last c stops h =
    either (λ k. k ≤ last) (ltb c last) (stop_from (last - (c + 1)) (c + 1) stops) c
    (λ e. let low = ltb-true c last e in let far = from_low (last - (c + 1)) (c + 1) stops in omega (arith, low, far))
    (λ e. h)

on_low : (n last c : ℕ) (stops : List Bool) → c ≤ last → stops_on n last stops c ≤ last
unfolding stops_on
on_low zero last c stops h = h
on_low (suc n) last c stops h = on_low n last (next_stop last stops c) stops (next_low last c stops h)

before_low : (c : ℕ) (stops : List Bool) → stop_before c stops ≤ c
unfolding stop_before
before_low zero stops = omega arith
before_low (suc c) stops =
    let rest = before_low c stops in
    either (λ k. k ≤ suc c) (get_or stops c false) c (stop_before c stops) (λ e. omega arith) (λ e. omega (arith, rest))

back_low : (n c : ℕ) (stops : List Bool) → stops_back n stops c ≤ c
unfolding stops_back
back_low zero c stops = omega arith
back_low (suc n) c stops = omega (arith, back_low n (stop_before c stops) stops, before_low c stops)

pub tabbed_kept : (n : ℕ) (s : Screen) → IsSound s → Kept s (after_tabs n s)
unfolding after_tabs
tabbed_kept n s is =
    let low = on_low n (s.cols - 1) s.col s.stops (omega (arith, is.frame.col_in)) in
    at_rest s is s.row (stops_on n (s.cols - 1) s.stops s.col) is.frame.row_in (omega (arith, low, is.frame.col_in))

pub back_tabbed_kept : (n : ℕ) (s : Screen) → IsSound s → Kept s (after_back_tabs n s)
unfolding after_back_tabs
back_tabbed_kept n s is =
    let low = back_low n s.col s.stops in
    at_rest s is s.row (stops_back n s.stops s.col) is.frame.row_in (omega (arith, low, is.frame.col_in))

-- ---- writing

-- a screen of the size of another, with no wrap pending
record Ready (s t : Screen) : Type 0 where
  kept : Kept s t
  none : t.pending ≡ false

pub wrapped_kept : (s : Screen) → IsSound s → Kept s (after_wrap s)
unfolding after_wrap
wrapped_kept s is =
    let first = carried_kept s is in
    kept_then s (after_carriage_return s) (after_index (after_carriage_return s)) first (indexed_kept (after_carriage_return s) first.sound)

settled_kept : (s : Screen) → IsSound s → Kept s (wrap_done s)
unfolding wrap_done
settled_kept s is = either (Kept s) s.pending (after_wrap s) s (λ e. wrapped_kept s is) (λ e. kept_same s is)

settled_ready : (s : Screen) → IsSound s → Ready s (wrap_done s)
settled_ready s is = record { kept = settled_kept s is; none = settled_none s }

room_ready : (width : ℕ) (w : Writing) (s : Screen) → IsSound s → s.pending ≡ false → Ready s (with_room width w s)
unfolding with_room
room_ready width w s is none =
    let same : Ready s s = record { kept = kept_same s is; none = none } in
    let low : s.cols - 2 < s.cols = omega (arith, is.frame.size.least_columns) in
    either (Ready s) (eqb width 2 && eqb (s.col + 1) s.cols) (cond w.wraps (after_wrap s) (record s { col = s.cols - 2 })) s
    (λ e. either (Ready s) w.wraps (after_wrap s) (record s { col = s.cols - 2 })
    (λ k. record { kept = wrapped_kept s is; none = (wrapped_place s).1 })
    (λ k. record {
      kept = at_place s is s.row (s.cols - 2) s.pending is.frame.row_in low
          (λ p. absurd (false≢true (sym none ∙ p)));
      none = none;
    }))
    (λ e. same)

way_ready : (width : ℕ) (w : Writing) (s : Screen) → IsSound s → s.pending ≡ false → Ready s (made_way width w s)
unfolding made_way
way_ready width w s is none =
    either (Ready s) w.inserts (mapped_screen (in_row s.row (insertion_source s.col width)) s) s
    (λ e. record { kept = plain_row s is (insertion_source s.col width) (λ c q. inserted_plain s.cols s.col width c q); none = none })
    (λ e. record { kept = kept_same s is; none = none })

inked_ready : (x : Glyph) (s : Screen) → IsShown x → IsSound s → s.pending ≡ false → Ready s (after_ink x s)
unfolding after_ink
inked_ready x s shown is none = record {
  kept = with_cells s is (mapped_cells s.rows s.cols s.cells (in_row s.row (writing_source x s.col)))
      (written_cells s.rows s.cols s.row s.col s.cells x is.cells is.frame.row_in shown);
  none = none;
}

advanced_kept : (n : ℕ) (w : Writing) (s : Screen) → IsSound s → s.pending ≡ false → Kept s (after_advance n w s)
unfolding after_advance
advanced_kept n w s is none =
    either (Kept s) (ltb (s.col + n) s.cols) (record s { col = s.col + n }) (record s { col = s.cols - 1; pending = w.wraps })
    (λ e. at_place s is s.row (s.col + n) s.pending is.frame.row_in (ltb-true (s.col + n) s.cols e)
    (λ p. absurd (false≢true (sym none ∙ p))))
    (λ e. at_place s is s.row (s.cols - 1) w.wraps is.frame.row_in (omega (arith, is.frame.col_in)) (λ p. omega (arith, is.frame.col_in)))

pub put_on_kept : (x : Glyph) (w : Writing) (s : Screen) → IsShown x → IsSound s → Kept s (put_on x w s)
unfolding put_on
put_on_kept x w s shown is =
    let n = columns x in
    let a = wrap_done s in
    let b = with_room n w a in
    let c = made_way n w b in
    let d = after_ink x c in
    let first = settled_ready s is in
    let second = room_ready n w a first.kept.sound first.none in
    let third = way_ready n w b second.kept.sound second.none in
    let fourth = inked_ready x c shown third.kept.sound third.none in
    let fifth = advanced_kept n w d fourth.kept.sound fourth.none in
    kept_then s a (after_advance n w d) first.kept
    (kept_then a b (after_advance n w d) second.kept
    (kept_then b c (after_advance n w d) third.kept (kept_then c d (after_advance n w d) fourth.kept fifth)))

pub put_all_kept : (n : ℕ) (x : Glyph) (w : Writing) (s : Screen) → IsShown x → IsSound s → Kept s (put_all (replicate n x) w s)
unfolding put_all
put_all_kept zero x w s shown is = kept_same s is
put_all_kept (suc n) x w s shown is =
    let one = put_on_kept x w s shown is in
    kept_then s (put_on x w s) (put_all (replicate n x) w (put_on x w s)) one (put_all_kept n x w (put_on x w s) shown one.sound)

joined_in_kept : (col c : ℕ) (s : Screen) → col < s.cols → IsScalar c → IsSound s → Kept s (joined_in col c s)
joined_in_kept col c s col_in scalar is =
    with_cells s is (joined_in col c s).cells (joined_cells s.rows s.cols s.row col c s.cells is.cells is.frame.row_in col_in scalar)

pub joined_on_kept : (c : ℕ) (s : Screen) → IsScalar c → IsSound s → Kept s (joined_on c s)
unfolding joined_on
joined_on_kept c s scalar is =
    either (Kept s) s.pending (joined_in s.col c s) (cond (eqb s.col 0) s (joined_in (s.col - 1) c s))
    (λ e. joined_in_kept s.col c s is.frame.col_in scalar is)
    (λ e. either (Kept s) (eqb s.col 0) s (joined_in (s.col - 1) c s) (λ k. kept_same s is)
    (λ k. joined_in_kept (s.col - 1) c s (omega (arith, is.frame.col_in)) scalar is))

-- ---- sizes

pub start_sound : (rows cols : ℕ) → IsSize rows cols → IsSound (start rows cols)
start_sound rows cols size = record {
  frame = record {
    size = size;
    row_in = omega (arith, size.least_rows);
    col_in = omega (arith, size.least_columns);
    pends = λ e. absurd (false≢true e);
    margins = (omega (arith, size.least_rows), omega (arith, size.least_rows));
    stops = length-start_stops;
  };
  cells = blank_cells rows cols;
}

pub restarted_kept : (s : Screen) → IsSound s → Kept s (after_restart s)
unfolding after_restart
restarted_kept s is = record { rows = refl; cols = refl; sound = start_sound s.rows s.cols is.frame.size }

pub record Sized (new_rows new_cols : ℕ) (s : Screen) : Type 0 where
  pub rows : s.rows ≡ new_rows
  pub cols : s.cols ≡ new_cols
  pub sound : IsSound s

pub resized_kept : (rows cols off : ℕ) (s : Screen) → IsSize rows cols → IsSound s → Sized rows cols (after_resizing rows cols off s)
unfolding after_resizing
resized_kept rows cols off s size is = record {
  rows = refl;
  cols = refl;
  sound = record {
    frame = record {
      size = size;
      row_in = omega (arith, size.least_rows);
      col_in = omega (arith, size.least_columns);
      pends = λ e. absurd (false≢true e);
      margins = (omega (arith, size.least_rows), omega (arith, size.least_rows));
      stops = is.frame.stops;
    };
    cells = sized_cells rows cols off (record { rows = s.rows; cols = s.cols; cells = s.cells; first = 0 }) is.cells;
  };
}
