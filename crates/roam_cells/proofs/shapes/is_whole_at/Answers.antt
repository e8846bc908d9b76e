use Rattle.std.proofs.Common.{◌≡◌, ℕ, ◌+◌, ◌-◌, ◌*◌, ◌<◌, true, false, List, [], ◌∷◌, length, get_or, refl, sym, ap, ◌∙◌, arith}
use Rattle.std.proofs.lemmas.Bool.{false≢true, ltb-true, lt-ltb}
use Rattle.std.proofs.lemmas.List.{get_or_default}
use Rattle.roam_cells.specs.Glyph.{Glyph, blank, is_wide, is_right_half, is_wide_text, is_empty_text, right_of}
use Rattle.roam_cells.specs.Place.{cell_at}
use Rattle.roam_cells.proofs.Places.{place_below}
use Rattle.roam_cells.proofs.shapes.is_whole_at.Goals as goal
use Rattle.roam_cells.proofs.shapes.is_whole_at.Goals.{After-is_wide}

-- a wide cell is no right half
wide_no_half : (points : List ℕ) → is_wide_text points ≡ true → is_empty_text points ≡ false
wide_no_half [] h = absurd (false≢true h)
wide_no_half (p ∷ ps) h = refl

-- the cell read at the place of a row and a column
read_at : (rows cols row col k : ℕ) (cells : List Glyph) (x : Glyph) → length cells ≡ rows * cols → row < rows → col < cols
    → k ≡ row * cols + col → x ≡ get_or cells k x → x ≡ cell_at cols cells row col
read_at rows cols row col k cells x count p q e is =
    let place = place_below rows cols row col p q in
    is ∙ get_or_default cells k x blank (omega (arith, place, count, e)) ∙ ap (λ i. get_or cells i blank) e

-- the cell of the row and the column
here : (c : After-is_wide) → c.index-cells-at.result ≡ cell_at c.args.cols c.args.cells.now c.args.row c.args.col
here c =
    let a = c.args in
    read_at a.rows a.cols a.row a.col (a.row * a.cols + a.col) a.cells.now c.index-cells-at.result
    c.requires.count c.requires.row c.requires.col refl c.index-cells-at.is

pub overflow_mul-at : goal.overflow_mul-at
overflow_mul-at c = omega (arith, place_below c.args.rows c.args.cols c.args.row c.args.col c.requires.row c.requires.col)

pub overflow_add-at : goal.overflow_add-at
overflow_add-at c = omega (arith, place_below c.args.rows c.args.cols c.args.row c.args.col c.requires.row c.requires.col)

pub bounds-cells-at : goal.bounds-cells-at
bounds-cells-at c = omega (arith, place_below c.args.rows c.args.cols c.args.row c.args.col c.requires.row c.requires.col)

pub bounds-cells-at-then-col-cols : goal.bounds-cells-at-then-col-cols
bounds-cells-at-then-col-cols c =
    omega (arith, place_below c.args.rows c.args.cols c.args.row (c.args.col + 1) c.requires.row c.if-col-cols.true)

pub bounds-cells-at-then-col-gt0 : goal.bounds-cells-at-then-col-gt0
bounds-cells-at-then-col-gt0 c =
    omega (arith, place_below c.args.rows c.args.cols c.args.row c.args.col c.requires.row c.requires.col)

pub returns-then-col-cols : goal.returns-then-col-cols
returns-then-col-cols c =
    let a = c.args in
    let at = cell_at a.cols a.cells.now a.row in
    let cell = here (goal.at.returns-then-col-cols c).After-is_wide in
    let wide : is_wide (at a.col) ≡ true = ap is_wide (sym cell) ∙ sym c.is_wide.ensures.wide ∙ c.if-is_wide.true in
    let next : c.index-cells-at-then-col-cols.result ≡ at (a.col + 1) =
    read_at a.rows a.cols a.row (a.col + 1) (a.row * a.cols + a.col + 1) a.cells.now c.index-cells-at-then-col-cols.result
    c.requires.count c.requires.row c.if-col-cols.true (omega arith) c.index-cells-at-then-col-cols.is in
    let right : c.right.result ≡ right_of (at a.col) = c.right.ensures.cell ∙ ap right_of cell in
    record {
      whole = (
        λ t. record {
          wide = λ _. (c.if-col-cols.true, sym next ∙ c.is_same.ensures.same.0 t ∙ right);
          half = λ h. absurd (false≢true (sym (wide_no_half (at a.col).points wide) ∙ h));
        },
        λ w. c.is_same.ensures.same.1 (next ∙ (w.wide wide).1 ∙ sym right),
      );
    }

pub returns-else-col-cols : goal.returns-else-col-cols
returns-else-col-cols c =
    let cell = here (goal.at.returns-else-col-cols c).After-is_wide in
    let wide = ap is_wide (sym cell) ∙ sym c.is_wide.ensures.wide ∙ c.if-is_wide.true in
    let a = c.args in
    record {
      whole = (
        λ t. absurd (omega (arith, ltb-true (a.col + 1) a.cols t, c.if-col-cols.false)),
        λ w. lt-ltb (a.col + 1) a.cols (w.wide wide).0,
      );
    }

pub returns-then-col-gt0 : goal.returns-then-col-gt0
returns-then-col-gt0 c =
    let a = c.args in
    let at = cell_at a.cols a.cells.now a.row in
    let cell = here (goal.at.returns-then-col-gt0 c).After-is_wide in
    let half : is_right_half (at a.col) ≡ true = ap is_right_half (sym cell) ∙ sym c.is_right_half.ensures.half ∙ c.if-is_right_half.true in
    let last : c.index-cells-at-then-col-gt0.result ≡ at (a.col - 1) =
    read_at a.rows a.cols a.row (a.col - 1) (a.row * a.cols + a.col - 1) a.cells.now c.index-cells-at-then-col-gt0.result
    c.requires.count c.requires.row (omega arith) (omega arith) c.index-cells-at-then-col-gt0.is in
    let wide : c.is_wide-then-col-gt0.result ≡ is_wide (at (a.col - 1)) = c.is_wide-then-col-gt0.ensures.wide ∙ ap is_wide last in
    record {
      whole = (
        λ t. record {
          wide = λ w. absurd (false≢true (sym (wide_no_half (at a.col).points w) ∙ half));
          half = λ _. (c.if-col-gt0.true, sym wide ∙ t);
        },
        λ w. wide ∙ (w.half half).1,
      );
    }

pub returns-else-col-gt0 : goal.returns-else-col-gt0
returns-else-col-gt0 c =
    let cell = here (goal.at.returns-else-col-gt0 c).After-is_wide in
    let half = ap is_right_half (sym cell) ∙ sym c.is_right_half.ensures.half ∙ c.if-is_right_half.true in
    record {
      whole = (
        λ t. absurd (omega (arith, ltb-true 0 c.args.col t, c.if-col-gt0.false)),
        λ w. lt-ltb 0 c.args.col (w.half half).0,
      );
    }

pub returns-else-is_right_half : goal.returns-else-is_right_half
returns-else-is_right_half c =
    let cell = here (goal.at.returns-else-is_right_half c).After-is_wide in
    let narrow = ap is_wide (sym cell) ∙ sym c.is_wide.ensures.wide ∙ c.if-is_wide.false in
    let full = ap is_right_half (sym cell) ∙ sym c.is_right_half.ensures.half ∙ c.if-is_right_half.false in
    record {
      whole = (
        λ _. record { wide = λ w. absurd (false≢true (sym narrow ∙ w)); half = λ h. absurd (false≢true (sym full ∙ h)) },
        λ _. refl,
      );
    }
