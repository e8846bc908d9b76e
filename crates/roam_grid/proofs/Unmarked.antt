-- A row without a mark shows the same cells as before.
use Rattle.std.proofs.Common.{◌≡◌, ℕ, ◌+◌, ◌<◌, Bool, true, false, cond, eqb, List, refl, sym, ap, subst, ◌∙◌}
use Rattle.roam_cells.specs.Glyph.{blank}
use Rattle.roam_cells.specs.Place.{cell_at, AreWhole}
use Rattle.roam_cells.proofs.Places.{get_or-table}
use Rattle.roam_rows.specs.Places.{Source, From, moved_at}
use Rattle.roam_rows.specs.Scrolling.{up, down}
use Rattle.roam_rows.proofs.Vertical.{row_stays}
use Rattle.roam_grid.specs.Cursor.{after_index, after_reverse_index, wrap_cleared}
use Rattle.roam_grid.specs.Editing.{cells_inserted, cells_deleted, cells_erased, lines_inserted, lines_deleted, is_between_margins}
use Rattle.roam_grid.specs.Erasing.{erased_in_page, erased_in_line, erased_selectively_in_page, erased_selectively_in_line}
use Rattle.roam_grid.specs.Laws.{AreNamedMarked, ShowsUnmarked}
use Rattle.roam_grid.specs.Marks.{moved_marked, marks_scrolled, marks_indexed, marks_reverse_indexed, marks_cells_moved, marks_lines_moved, marks_in_line, marks_erased_in_page, marks_erased_selectively_in_page, marks_erased_selectively_in_line}
use Rattle.roam_grid.specs.Screen.{Screen, IsScreen, mapped_screen}
use Rattle.roam_grid.specs.Scrolling.{scrolled_up, scrolled_down}
use Rattle.roam_cells.specs.declared.extents.Extent.{Extent}
use Rattle.roam_grid.proofs.Named.{up_marks, down_marks, lines_up, lines_down, inserted_marks, deleted_marks, erased_marks, line_marks, page_marks}
use Rattle.roam_grid.proofs.NamedGuards.{page_marks_selective, line_marks_selective}
use Rattle.roam_grid.proofs.Pages.{moved_same}

-- a row of a map in which each place takes itself
pub row_same : (s : Screen) (source : ℕ → ℕ → Source) (r c : ℕ) → AreWhole s.rows s.cols s.cells → r < s.rows → c < s.cols
    → ((d : ℕ) → d < s.cols → source r d ≡ From r d) → cell_at s.cols (mapped_screen source s).cells r c ≡ cell_at s.cols s.cells r c
row_same s source r c whole p q same =
    get_or-table s.rows s.cols (moved_at s.cols s.cells source) r c blank p q
    ∙ moved_same s.cols s.cells source From r c q same
    ∙ row_stays s.rows s.cols s.cells whole From r c r p q (λ d. refl)

by_map : (s : Screen) (source : ℕ → ℕ → Source) (m k : List Bool) → AreWhole s.rows s.cols s.cells → AreNamedMarked s source m k → ShowsUnmarked s (mapped_screen source s) m k
by_map s source m k whole named = record {
  stay = named.stay;
  shows = λ r c p q off. row_same s source r c whole p q (λ d h. named.rest r d p h off);
}

-- the same cells and the same marks
pub unchanged : (s t : Screen) (m : List Bool) → t.cells ≡ s.cells → ShowsUnmarked s t m m
unchanged s t m e = record { stay = λ r h e. e; shows = λ r c p q off. ap (λ l. cell_at s.cols l r c) e }

one_of : (s a x : Screen) (m k : List Bool) (b : Bool) → ShowsUnmarked s a m k → x.cells ≡ s.cells → ShowsUnmarked s (cond b a x) m (cond b k m)
one_of s a x m k true h e = h
one_of s a x m k false h e = unchanged s x m e

same_cells : (s a x : Screen) (b : Bool) → a.cells ≡ s.cells → x.cells ≡ s.cells → (cond b a x).cells ≡ s.cells
same_cells s a x true h e = h
same_cells s a x false h e = e

module _ (s : Screen) (m : List Bool) (is : IsScreen s) where
  pub up_shows : (n : ℕ) → ShowsUnmarked s (scrolled_up n s) m (marks_scrolled n s m)
  unfolding scrolled_up
  up_shows n = by_map s (up s.top s.bottom n) m (marks_scrolled n s m) is.whole (up_marks s m is n)

  pub down_shows : (n : ℕ) → ShowsUnmarked s (scrolled_down n s) m (marks_scrolled n s m)
  unfolding scrolled_down
  down_shows n = by_map s (down s.top s.bottom n) m (marks_scrolled n s m) is.whole (down_marks s m is n)

  pub inserted_shows : (n : ℕ) → ShowsUnmarked s (cells_inserted n s) m (marks_cells_moved n s m)
  unfolding cells_inserted
  inserted_shows n = let h = by_map s _ m (marks_cells_moved n s m) is.whole (inserted_marks s m is n) in record { stay = h.stay; shows = h.shows }

  pub deleted_shows : (n : ℕ) → ShowsUnmarked s (cells_deleted n s) m (marks_cells_moved n s m)
  unfolding cells_deleted
  deleted_shows n = let h = by_map s _ m (marks_cells_moved n s m) is.whole (deleted_marks s m is n) in record { stay = h.stay; shows = h.shows }

  pub erased_shows : (n : ℕ) → 0 < n → ShowsUnmarked s (cells_erased n s) m (marks_in_line s m)
  unfolding cells_erased
  erased_shows n pos = let h = by_map s _ m (marks_in_line s m) is.whole (erased_marks s m is n pos) in record { stay = h.stay; shows = h.shows }

  pub line_shows : (e : Extent) → ShowsUnmarked s (erased_in_line e s) m (marks_in_line s m)
  unfolding erased_in_line
  line_shows e = let h = by_map s _ m (marks_in_line s m) is.whole (line_marks s m is e) in record { stay = h.stay; shows = h.shows }

  pub page_shows : (e : Extent) → ShowsUnmarked s (erased_in_page e s) m (marks_erased_in_page e s m)
  unfolding erased_in_page
  page_shows e = let h = by_map s _ m (marks_erased_in_page e s m) is.whole (page_marks s m is e) in record { stay = h.stay; shows = h.shows }

  pub line_shows_selective : (e : Extent) → ShowsUnmarked s (erased_selectively_in_line e s) m (marks_erased_selectively_in_line e s m)
  unfolding erased_selectively_in_line
  line_shows_selective e = let h = by_map s _ m (marks_erased_selectively_in_line e s m) is.whole (line_marks_selective s m is e) in record { stay = h.stay; shows = h.shows }

  pub page_shows_selective : (e : Extent) → ShowsUnmarked s (erased_selectively_in_page e s) m (marks_erased_selectively_in_page e s m)
  unfolding erased_selectively_in_page
  page_shows_selective e = let h = by_map s _ m (marks_erased_selectively_in_page e s m) is.whole (page_marks_selective s m is e) in record { stay = h.stay; shows = h.shows }

  lines_by : (n : ℕ) (a : Screen) (b : Bool) → is_between_margins s ≡ b → (is_between_margins s ≡ true → ShowsUnmarked s a m (marks_lines_moved n s m))
      → ShowsUnmarked s (cond b a (wrap_cleared s)) m (marks_lines_moved n s m)
  unfolding wrap_cleared
  lines_by n a true e h = h e
  lines_by n a false e h =
      subst (λ (k : List Bool). ShowsUnmarked s (wrap_cleared s) m k) (sym (ap (λ b. cond b (moved_marked n s.row (s.bottom + 1) m) m) e)) (unchanged s (wrap_cleared s) m refl)

  pub lines_inserted_show : (n : ℕ) → ShowsUnmarked s (lines_inserted n s) m (marks_lines_moved n s m)
  unfolding lines_inserted
  lines_inserted_show n = lines_by n _ (is_between_margins s) refl (λ e. let h = by_map s _ m (marks_lines_moved n s m) is.whole (lines_down s m is n e) in record { stay = h.stay; shows = h.shows })

  pub lines_deleted_show : (n : ℕ) → ShowsUnmarked s (lines_deleted n s) m (marks_lines_moved n s m)
  unfolding lines_deleted
  lines_deleted_show n = lines_by n _ (is_between_margins s) refl (λ e. let h = by_map s _ m (marks_lines_moved n s m) is.whole (lines_up s m is n e) in record { stay = h.stay; shows = h.shows })

  pub reverse_shows : ShowsUnmarked s (after_reverse_index s) m (marks_reverse_indexed s m)
  unfolding after_reverse_index
  reverse_shows = one_of s _ _ m (marks_scrolled 1 s m) (eqb s.row s.top) (let h = down_shows 1 in record { stay = h.stay; shows = h.shows }) refl

  pub index_shows : ShowsUnmarked s (after_index s) m (marks_indexed s m)
  unfolding after_index marks_indexed
  index_shows =
      one_of s _ _ m (marks_scrolled 1 s m) (eqb s.row s.bottom) (let h = up_shows 1 in record { stay = h.stay; shows = h.shows })
      (same_cells s _ _ (eqb (s.row + 1) s.rows) refl refl)
