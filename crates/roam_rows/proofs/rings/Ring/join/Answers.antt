use Rattle.std.proofs.Common.{◌≡◌, ◌∙◌, ◌+◌, ◌-◌, ◌*◌, ◌<◌, ℕ, List, false, cond, ap, arith, length, length-set, set, get_or, sym, subst}
use Rattle.std.proofs.lemmas.List.{with_items_is, get_or_default}
use Rattle.std.specs.Vec.{with_items}
use Rattle.roam_cells.specs.Glyph.{Glyph, is_right_half, with_point, blank}
use Rattle.roam_cells.specs.Place.{cell_at}
use Rattle.roam_cells.proofs.Joining.{with_point_like}
use Rattle.roam_rows.specs.Turned.{IsTurned, in_order, brought_back}
use Rattle.roam_rows.specs.Rows.{Rows}
use Rattle.roam_rows.specs.Writing.{base_column, joined_rows}
use Rattle.roam_rows.specs.Kept.{AreLengths}
use Rattle.roam_rows.proofs.Turning.{turned_at}
use Rattle.roam_rows.proofs.Lifting.{slice_whole, row_before}
use Rattle.roam_rows.proofs.Edits.{a_turned, rows_by}
use Rattle.roam_rows.proofs.Joins.{joined_is, joined_turned, joined_lengths}
use Rattle.roam_rows.proofs.rings.Ring.join.Goals as goal
use Rattle.roam_rows.proofs.rings.Ring.join.Goals.{After-with_point}

pub base_column-base-requires-clause-whole : goal.base_column-base-requires-clause-whole
base_column-base-requires-clause-whole c =
    let f = c.self.inside in
    let k = c.self.invariant in
    let place = c.place-at.ensures in
    let rows_are = ap (λ (s : Rows). s.rows) c.self.view_is in
    let row_in : c.args.row < f.rows = omega (arith, c.requires.on_rows) in
    let m = c.start_of-start.result + f.cols - c.start_of-start.result in
    let m_is : m ≡ f.cols = omega arith in
    rw c.deref.ensures.value (slice_whole f.rows f.cols f.first c.args.row c.start_of-start.result m f.cells.items k.turned row_in
    (a_turned f.rows f.cols f.first c.args.row c.place-at.result c.start_of-start.result m f.cells.items f.lengths.items k.turned k.lengths row_in place.place place.low c.start_of-start.ensures.start m_is) m_is)

done : (c : After-with_point) →
    let f = c.self.inside in
    let at = c.place-at.result in
    let base = c.base_column-base.result in
    let cells = set f.cells.items (c.start_of-start.result + base) c.with_point.result in
    let all = in_order f.cols f.first f.cells.items in
    (IsTurned f.rows f.cols f.first cells) × (AreLengths f.rows f.cols cells (with_items f.lengths c.raise.new.lengths).items)
    × (rows_by f.rows f.cols f.first (in_order f.cols f.first cells) ≡ joined_rows c.args.row c.args.col c.args.point (rows_by f.rows f.cols f.first all))
done c =
    let a = c.args in
    let f = c.self.inside in
    let k = c.self.invariant in
    let at = c.place-at in
    let start = c.start_of-start in
    let rows_are = ap (λ (s : Rows). s.rows) c.self.view_is in
    let cols_are = ap (λ (s : Rows). s.cols) c.self.view_is in
    let row_in : a.row < f.rows = omega (arith, c.requires.on_rows) in
    let col_in : a.col < f.cols = omega (arith, c.requires.on_rows) in
    let m = start.result + f.cols - start.result in
    let m_is : m ≡ f.cols = omega arith in
    let base = c.base_column-base.result in
    let base_in : base < f.cols = omega (arith, c.base_column-base.ensures.low) in
    let all = in_order f.cols f.first f.cells.items in
    let a_is = a_turned f.rows f.cols f.first a.row at.result start.result m f.cells.items f.lengths.items k.turned k.lengths row_in at.ensures.place at.ensures.low start.ensures.start m_is in
    let in_row = row_before f.rows f.cols f.first a.row start.result m f.cells.items k.turned row_in a_is m_is in
    let base_clause = rw c.deref.ensures.value at c.base_column-base.ensures.base in
    let none_clause = rw c.deref.ensures.value at c.base_column-base.ensures.no_half in
    let base_is : base ≡ base_column f.cols all a.row a.col = base_clause ∙ ap (λ (x : Glyph). cond (is_right_half x) (a.col - 1) a.col) (in_row a.col col_in) in
    let none : is_right_half (cell_at f.cols all a.row base) ≡ false = ap is_right_half (sym (in_row base base_in)) ∙ none_clause in
    let k_is : start.result + base ≡ brought_back f.rows (f.first + a.row) * f.cols + base = ap (λ j. j + base) a_is in
    let k_in : start.result + base < length f.cells.items = omega (arith, start.ensures.room, k.turned.size) in
    let x_is : c.index.result.now ≡ cell_at f.cols all a.row base =
    c.index.ensures ∙ get_or_default f.cells.items (start.result + base) c.index.result.now blank k_in
    ∙ ap (λ j. get_or f.cells.items j blank) k_is ∙ sym (turned_at f.rows f.cols f.first f.cells.items a.row base k.turned.size k.turned.first_in row_in base_in) in
    let y = c.with_point.result in
    let y_is : y ≡ with_point a.point (cell_at f.cols all a.row base) = c.with_point.ensures.cell ∙ ap (with_point a.point) x_is in
    let raised = rw c.as_mut_slice.ensures.value at c.raise.ensures.lengths in
    let long : length c.raise.new.lengths ≡ f.lengths.len = ap (length {A = ℕ}) c.raise.ensures.lengths ∙ length-set {A = ℕ} c.as_mut_slice.result.now at.result _ ∙ c.as_mut_slice.ensures.len in
    let lengths_are = with_items_is f.lengths c.raise.new.lengths long ∙ raised in (
      joined_turned f.rows f.cols f.first a.row base (start.result + base) f.cells.items y k.turned row_in base_in k_is none (rw y_is (with_point_like a.point (cell_at f.cols all a.row base) none)),
      subst (λ (us : List ℕ). AreLengths f.rows f.cols (set f.cells.items (start.result + base) y) us) (sym lengths_are)
          (joined_lengths f.rows f.cols f.first a.row at.result start.result base f.cells.items f.lengths.items y k.turned k.lengths row_in at.ensures.place at.ensures.low start.ensures.start base_in),
      ap (rows_by f.rows f.cols f.first)
          (joined_is f.rows f.cols f.first a.row base (start.result + base) f.cells.items y k.turned row_in base_in k_is
          ∙ ap (set all (a.row * f.cols + base)) y_is ∙ ap (λ b. set all (a.row * f.cols + b) (with_point a.point (cell_at f.cols all a.row b))) base_is),
    )

pub invariant_of-self : goal.invariant_of-self
invariant_of-self c =
    let d = done (goal.at.invariant_of-self c).After-with_point in
    record { turned = d.0; lengths = d.1 }

pub returns : goal.returns
returns c =
    let d = done (goal.at.returns c).After-with_point in
    record { ring = rw (← c.self.view_is) d.2 }
