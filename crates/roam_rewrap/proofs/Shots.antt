-- The parts of text at the size of a screen.
use Rattle.std.proofs.Common.{◌≡◌, ℕ, ◌+◌, ◌-◌, Bool, List, ap, ◌∙◌}
use Rattle.std.specs.Prelude.{nat_le}
use Rattle.roam_cells.specs.Glyph.{Glyph}
use Rattle.roam_screens.specs.Screenshot.{Screenshot}
use Rattle.roam_rewrap.specs.Lines.{TextRow}
use Rattle.roam_rewrap.specs.Windows.{ReflowView, column_at, leaving_rows, reflow_at, shown_cells, shown_rows}
use Rattle.roam_rewrap.specs.declared.places.ScreenPosition.{ScreenPosition}

module _ (all_of : List TextRow) (place : ScreenPosition) (rows cols : ℕ) (visible : Bool) where
  abbrev shot_with : ℕ → List Glyph → Screenshot
  shot_with off cells =
      record {
        rows = rows;
        cols = cols;
        cells = cells;
        cursor_row = place.row - off + 1;
        cursor_col = column_at cols cells (place.row - off) place.col + 1;
        visible = visible;
      }

  abbrev view : ℕ → Screenshot → Bool → ReflowView
  view off shot pending = record { rows = all_of; off = off; shot = shot; pending = pending }

  pub same_reflow : (off : ℕ) (cells : List Glyph) (shot : Screenshot) (pending : Bool)
      → off ≡ leaving_rows rows place.row all_of → cells ≡ shown_cells rows cols (shown_rows rows off all_of)
      → shot ≡ shot_with off cells → pending ≡ nat_le cols place.col
      → view off shot pending ≡ reflow_at all_of place rows cols visible
  same_reflow off cells shot pending o c s p =
      ap (λ x. view off x pending) s
      ∙ ap (λ x. view off (shot_with off x) pending) c
      ∙ ap (λ x. view x (shot_with x (shown_cells rows cols (shown_rows rows x all_of))) pending) o
      ∙ ap (λ x. view (leaving_rows rows place.row all_of)
      (shot_with (leaving_rows rows place.row all_of) (shown_cells rows cols (shown_rows rows (leaving_rows rows place.row all_of) all_of))) x) p
