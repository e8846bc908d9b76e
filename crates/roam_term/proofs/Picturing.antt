-- A terminal shows a screen.
use Rattle.std.proofs.Common.{◌≡◌, ℕ, ◌+◌, ◌-◌, ◌*◌, ◌<◌, inl, inr, Bool, true, false, List, [], ◌∷◌, ◌++◌, map, drop, length, get_or, refl, sym, ap, ◌∙◌, subst, arith, append_assoc}
use Rattle.std.specs.Prelude.{All}
use Rattle.std.proofs.lemmas.Bool.{cases_lt}
use Rattle.std.proofs.lemmas.List.{get_or-map, length-map, get_or_append_left, get_or-append_right, get_or-take}
use Rattle.std.proofs.lemmas.List.Elements.{All-nil, All-cons}
use Rattle.roam_cells.specs.Glyph.{Glyph, IsShown, IsStyle, blank}
use Rattle.roam_cells.specs.declared.styles.Style.{Style}
use Rattle.roam_cells.specs.Limits.{IsSize}
use Rattle.roam_cells.specs.Place.{cell_at, AreWhole, IsWholeLine}
use Rattle.roam_screens.specs.Screenshot.{IsScreenshot}
use Rattle.roam_cells.proofs.Places.{place_below}
use Rattle.roam_rows.proofs.Keeping.{line_same}
use Rattle.roam_history.specs.Histories.{Scrollback, IsRow}
use Rattle.roam_text.specs.Log.{Item}
use Rattle.roam_term.specs.Picture.{shown_glyph, shown_style, rows_in_view, cells_in_view, picture_with, picture}
use Rattle.roam_term.specs.Screens.{AreSizes, IsScreenOf}
use Rattle.roam_term.specs.Terminal.{Live, term}
use Rattle.roam_term.proofs.Views.{flat, view_size, view_whole}
use Rattle.roam_term.proofs.Characters.{Each, each-drop}
use Rattle.roam_term.proofs.Keeping.{IsLive}
use Rattle.roam_term.proofs.Lines.{IsLine, term_is}

rows_of : (cols : ℕ) (rows : List (List Glyph)) → Each (IsLine cols) rows → All (IsRow cols) rows
rows_of cols [] h = All-nil (IsRow cols)
rows_of cols (row ∷ rows) h = All-cons (IsRow cols) row rows h.0.is (rows_of cols rows h.1)

-- rows of a history, and then the screen, are what cells show
flat_shown : (cols : ℕ) (rows : List (List Glyph)) (cells : List Glyph) → Each (IsLine cols) rows →
    ((k : ℕ) → IsShown (get_or cells k blank))
    → (k : ℕ) → IsShown (get_or (flat rows ++ cells) k blank)
flat_shown cols [] cells h each k = each k
flat_shown cols (row ∷ rows) cells h each k =
    let more = flat rows ++ cells in
    subst (λ (l : List Glyph). IsShown (get_or l k blank)) (sym (append_assoc row (flat rows) cells))
    (elim (cases_lt k (length row)) [
      | inl inside ↦ subst IsShown (sym (get_or_append_left row more blank k inside)) (h.0.shown k)
      | inr past ↦
          subst IsShown (sym (get_or-append_right row more (length row) k blank refl past))
          (flat_shown cols rows cells h.1 each (k - length row))
    ])

-- a cell as it is shown is of the width that it has
shown_line : (cols : ℕ) (reversed : Bool) (f : ℕ → Glyph) → IsWholeLine cols f → IsWholeLine cols (λ c. shown_glyph reversed (f c))
shown_line cols reversed f whole c q =
    let was = whole c q in
    record {
      wide = λ w. let pair = was.wide w in (pair.0, ap (shown_glyph reversed) pair.1);
      half = λ h. was.half h;
    }

turned_is : (reversed : Bool) (s : Style) → IsStyle s → IsStyle (shown_style reversed s)
turned_is true s is = record { foreground = is.foreground; background = is.background }
turned_is false s is = is

-- and what some cell shows
shown_is : (reversed : Bool) (g : Glyph) → IsShown g → IsShown (shown_glyph reversed g)
shown_is reversed g is = record { text = is.text; scalars = is.scalars; style = turned_is reversed g.style is.style }

module _ (v : ℕ) (l : Live) (h : Scrollback) (is : IsLive l) (lines : Each (IsLine l.screen.cols) h.rows) where
  abbrev rows : ℕ
  rows = l.screen.rows

  abbrev cols : ℕ
  cols = l.screen.cols

  abbrev above : List (List Glyph)
  above = drop (length h.rows - v) h.rows

  abbrev cells : List Glyph
  cells = cells_in_view v l h

  lines_above : Each (IsLine cols) above
  lines_above = each-drop (IsLine cols) (length h.rows - v) h.rows lines

  size : length cells ≡ rows * cols
  size = view_size cols rows above l.screen.cells (rows_of cols above lines_above) is.screen.cells.count

  whole : AreWhole rows cols cells
  whole = view_whole cols rows above l.screen.cells (rows_of cols above lines_above) is.screen.cells.count is.screen.cells.whole

  each_shown : (k : ℕ) → k < rows * cols → IsShown (get_or cells k blank)
  each_shown k low =
      subst IsShown (sym (get_or-take (rows * cols) (flat above ++ l.screen.cells) k blank low))
      (flat_shown cols above l.screen.cells lines_above is.screen.cells.shown k)

  abbrev reversed : Bool
  reversed = l.modes.reverse_screen

  count : length (map (shown_glyph reversed) cells) ≡ rows * cols
  count = length-map cells (shown_glyph reversed) ∙ size

  at : (k : ℕ) → k < rows * cols → get_or (map (shown_glyph reversed) cells) k blank ≡ shown_glyph reversed (get_or cells k blank)
  at k low = get_or-map (shown_glyph reversed) cells k blank blank (omega (arith, size, low))

  pub picture_is : IsScreenshot (picture_with v l h)
  picture_is = record {
    size = is.screen.frame.size;
    count = count;
    cursor = record {
      row_from = omega (arith, is.screen.frame.row_in);
      row_to = omega arith;
      col_from = omega arith;
      col_to = omega (arith, is.screen.frame.col_in);
    };
    whole = λ r p.
        line_same cols (λ c. shown_glyph reversed (cell_at cols cells r c)) (cell_at cols (map (shown_glyph reversed) cells) r)
        (λ c q. at (r * cols + c) (place_below rows cols r c p q))
        (shown_line cols reversed (cell_at cols cells r) (whole r p));
    unguarded = λ k low. ap (λ (g : Glyph). g.guarded) (at k (omega (arith, count, low)));
    shown = λ k low.
        subst IsShown (sym (at k (omega (arith, count, low))))
        (shown_is reversed (get_or cells k blank) (each_shown k (omega (arith, count, low))));
  }

pub picture_screen : (rows cols lines : ℕ) (log : List Item) (view : ℕ) → IsSize rows cols → AreSizes log
    → IsScreenOf (rows, cols) log (picture rows cols lines log view)
unfolding picture
picture_screen rows cols lines log view size sizes =
    let t = term rows cols lines log in
    let is = term_is rows cols lines log size sizes in
    record {
      shown = picture_is (rows_in_view t.live t.history view) t.live t.history is.live is.lines;
      size = is.size;
    }
