-- The reader of a painting finds CUP behind each code point after which terminals disagree on the cursor's column.
use Rattle.std.proofs.Common.{◌-◌, List, [], ◌∷◌, ◌++◌, map, sym, ap, ◌∙◌, subst, arith}
use Rattle.roam_cells.specs.Glyph.{default_style}
use Rattle.roam_screens.specs.Screenshot.{Screenshot, IsScreenshot}
use Rattle.roam_text.specs.declared.functions.Function.{Function}
use Rattle.roam_text.specs.Log.{Byte}
use Rattle.roam_text.specs.Functions.{functions, functions_of}
use Rattle.roam_text.specs.Resting.{AtRest}
use Rattle.roam_text.proofs.Bytes.{unfinished-empty, unfinished-end}
use Rattle.roam_text.proofs.Fronts.{functions-nil}
use Rattle.roam_term.specs.Ground.{shown_at}
use Rattle.roam_paint.specs.Painting.{same_size}
use Rattle.roam_paint.proofs.Whole.{wide_shown, half_shown, paintable_shown}
use Rattle.roam_scroll_paint.specs.Bands.{drawn_over, preparing}
use Rattle.roam_scroll_paint.specs.Doubts.{ArePlacedBehind}
use Rattle.roam_scroll_paint.specs.Leads.{PaintingPlaces}
use Rattle.roam_scroll_paint.specs.Painting.{settling, hiding, revealing, ArePainting}
use Rattle.roam_scroll_paint.specs.Rows.{placing_at}
use Rattle.roam_scroll_paint.specs.Styles.{styled_from}
use Rattle.roam_scroll_paint.proofs.Legibles.{plain-preparing, plain-rows, plain-styled, plain-placed, read-hiding, read-revealing}
use Rattle.roam_scroll_paint.proofs.Readings.{AreRead, read-append, are_read, plain-append, reads}
use Rattle.roam_scroll_paint.proofs.Steady.{all_steady, goes-preparing, goes-hiding, goes-revealing, goes-rows}
use Rattle.roam_scroll_paint.proofs.Wholes.{IsWhole}

-- a reader of nothing is between characters and between sequences
begins_at_rest : AtRest []
begins_at_rest = record { whole = unfinished-end [] unfinished-empty; to_come = λ rest. ap (λ l. l ++ functions rest) (sym functions-nil) }

module _ (old new : Screenshot) (is_new : IsScreenshot new) (fs : List Function) (p : ArePainting old new fs) where
  abbrev first : List Function
  first = hiding p.hides

  abbrev prepared : List Function
  prepared = preparing (same_size old new) p.band

  abbrev last : List Function
  last = revealing p.hides new.visible

  read_all : AreRead fs
  read_all =
      let tall = is_new.size.most_rows in
      let broad = is_new.size.most_columns in
      let row = is_new.cursor.row_to in
      let col = is_new.cursor.col_to in
      let settle = settling new p.style in
      let settled = plain-append (styled_from p.style default_style) (placing_at (new.cursor_row - 1) (new.cursor_col - 1) ∷ [])
      (plain-styled p.style default_style tt tt)
      (plain-placed (new.cursor_row - 1) (new.cursor_col - 1) (omega (arith, row, tall)) (omega (arith, col, broad))) in
      let rows = plain-rows new.rows new.cols (drawn_over old new p.band) (shown_at new) (omega (arith, tall)) (omega (arith, broad)) (paintable_shown new is_new) p.drawn (omega arith) in
      subst AreRead (sym p.all)
      (read-append first (prepared ++ (p.rows ++ (settle ++ last))) (read-hiding p.hides)
      (read-append prepared (p.rows ++ (settle ++ last)) (are_read prepared (plain-preparing new.rows (same_size old new) p.band (omega (arith, tall)) p.fits))
      (read-append p.rows (settle ++ last) (are_read p.rows rows)
      (read-append settle last (are_read settle settled) (read-revealing p.hides new.visible)))))

  placed_all : ArePlacedBehind fs
  placed_all =
      let whole : IsWhole new.cols (shown_at new) = record { wide = wide_shown new is_new; half = half_shown new is_new } in
      let rows = goes-rows new.rows new.cols (shown_at new) whole (λ r c a b. (paintable_shown new is_new r c a b).text) p.drawn (omega arith) in
      subst ArePlacedBehind (sym p.all)
      (all_steady first prepared p.rows p.style (new.cursor_row - 1) (new.cursor_col - 1) last (goes-hiding p.hides)
      (goes-preparing (same_size old new) p.band) rows (goes-revealing p.hides new.visible))

pub painting_places : PaintingPlaces
painting_places old new text is_new p =
    let fs = p.functions in
    let read = reads [] fs begins_at_rest (read_all old new is_new fs p.painting) in
    subst ArePlacedBehind (sym (ap (λ l. functions_of (map Byte l)) p.spelled ∙ read ∙ ap (λ l. l ++ fs) functions-nil)) (placed_all old new is_new fs p.painting)
