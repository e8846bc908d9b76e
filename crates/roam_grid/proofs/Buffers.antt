-- Scrolls with full margins, in the buffer.
use Rattle.std.proofs.Common.{◌≡◌, ℕ, ◌+◌, ◌-◌, true, false, cond, eqb, sym, ap, subst, arith}
use Rattle.std.proofs.lemmas.Bool.{eqb-true, and_parts}
use Rattle.roam_rows.specs.Rows.{Rows, AreRows, KeepPlaces}
use Rattle.roam_rows.specs.Places.{mapped_cells}
use Rattle.roam_rows.specs.Scrolling.{up, down, turned_up, turned_down, all_up, all_down}
use Rattle.roam_rows.proofs.Buffers.{kept_by_all_up, kept_by_all_down}
use Rattle.roam_grid.specs.Laws.{grid_up, grid_down}
use Rattle.roam_grid.specs.Screen.{Screen, GridView, rows_of, has_full_margins}
use Rattle.roam_grid.specs.Scrolling.{scrolled_up, scrolled_down, first_scrolled_up, first_scrolled_down}

margins_are : (s : Screen) → has_full_margins s ≡ true → (s.top ≡ 0) × (s.bottom ≡ s.rows - 1)
margins_are s full =
    let parts = and_parts (eqb s.top 0) (eqb (s.bottom + 1) s.rows) full in
    let last = eqb-true (s.bottom + 1) s.rows parts.1 in
    (eqb-true s.top 0 parts.0, omega (arith, last))

all_go_up : (n : ℕ) (v : GridView) → has_full_margins v.screen ≡ true → all_up n (rows_of v) ≡ rows_of (grid_up n v)
unfolding scrolled_up first_scrolled_up
all_go_up n v full =
    let s = v.screen in
    let at = margins_are s full in
    λ i. record {
      rows = s.rows;
      cols = s.cols;
      cells = mapped_cells s.rows s.cols s.cells (up (sym at.0 i) (sym at.1 i) n);
      first = cond (sym full i) (turned_up s.rows n v.first) v.first;
    }

all_go_down : (n : ℕ) (v : GridView) → has_full_margins v.screen ≡ true → all_down n (rows_of v) ≡ rows_of (grid_down n v)
unfolding scrolled_down first_scrolled_down
all_go_down n v full =
    let s = v.screen in
    let at = margins_are s full in
    λ i. record {
      rows = s.rows;
      cols = s.cols;
      cells = mapped_cells s.rows s.cols s.cells (down (sym at.0 i) (sym at.1 i) n);
      first = cond (sym full i) (turned_down s.rows n v.first) v.first;
    }

pub kept_up : (n : ℕ) (v : GridView) → AreRows (rows_of v) → has_full_margins v.screen ≡ true
    → KeepPlaces n v.screen.rows (rows_of v) (rows_of (grid_up n v))
kept_up n v are full =
    subst (λ (w : Rows). KeepPlaces n v.screen.rows (rows_of v) w) (all_go_up n v full) (kept_by_all_up n (rows_of v) are)

pub kept_down : (n : ℕ) (v : GridView) → AreRows (rows_of v) → has_full_margins v.screen ≡ true
    → KeepPlaces 0 (v.screen.rows - n) (rows_of v) (rows_of (grid_down n v))
kept_down n v are full =
    subst (λ (w : Rows). KeepPlaces 0 (v.screen.rows - n) (rows_of v) w) (all_go_down n v full) (kept_by_all_down n (rows_of v) are)

pub first_up : (n : ℕ) (s : Screen) (first : ℕ) → has_full_margins s ≡ false → first_scrolled_up n s first ≡ first
unfolding first_scrolled_up
first_up n s first e = ap (λ b. cond b (turned_up s.rows n first) first) e

pub first_down : (n : ℕ) (s : Screen) (first : ℕ) → has_full_margins s ≡ false → first_scrolled_down n s first ≡ first
unfolding first_scrolled_down
first_down n s first e = ap (λ b. cond b (turned_down s.rows n first) first) e
