use Rattle.std.proofs.Common.{◌≡◌, ◌<◌, true, false, List, [], ◌∷◌, drop, length, ap, sym, ◌∙◌, inr, rules, arith}
use Rattle.std.specs.Prelude.{not}
use Rattle.std.proofs.lemmas.List.{drop_all, length-drop}
use Rattle.roam_rewrap.specs.Lines.{TextRow}
use Rattle.roam_scrollback.specs.Rewraps.{head_cells, rows_behind, rows_of}
use Rattle.roam_scrollback.proofs.Counting.{behind-ends, behind-on, head-ends, head-on, later-too, row-begins, row-whole, rows-held}
use Rattle.roam_scrollback.proofs.rewraps.first_back.Goals as goal
use Rattle.roam_scrollback.proofs.rewraps.first_back.Goals.{then-not-goes_on+then-from-all+else-from-kept, else-from-kept-via-then-from-kept+else-rows-filled, else-from-kept-via-else-from-kept, else-not-goes_on, else-not-goes_on-via-then-not-goes_on+else-from-all, else-not-goes_on-via-else-not-goes_on}

pub returns-then-rows-filled-clause-full : goal.returns-then-rows-filled-clause-full
returns-then-rows-filled-clause-full c =
    let text = c.args.all.now in
    let from = c.loop-from.from in
    let cols = c.args.cols in
    let inv = c.loop-from.invariant in
    let begins = row-begins text from c.index-all-from.result (omega (arith, c.loop-from-test.true)) inv.within c.index-all-from.is in
    let ends = sym c.goes_on.ensures.on ∙ c.if-not-goes_on.true in
    let one : c.rows_of.result ≡ rows_of (head_cells (drop from text)) cols =
    c.rows_of.ensures.rows ∙ ap (λ k. rows_of k cols) inv.cells ∙ rows-held (head_cells (drop from text)) cols in
    record {
      line = begins ∙ ap not ends;
      fills = inr (omega (arith, one, c.saturating_add-filled.ensures, inv.filled, c.if-rows-filled.true));
      latest = inv.latest;
    }

pub loop-from-preserved : goal.loop-from-preserved
loop-from-preserved c =
    let text = c.args.all.now in
    let from = c.loop-from.from in
    let cols = c.args.cols in
    let rest = drop from text in
    let row = c.index-all-from.result in
    let inv = c.loop-from.invariant in
    let some : 0 < from = omega (arith, c.loop-from-test.true) in
    let whole = row-whole text from row some inv.within c.index-all-from.is in
    let begins = row-begins text from row some inv.within c.index-all-from.is in
    let head = ap head_cells whole in
    let behind = ap (rows_behind cols) whole in
    let long = ap (λ (cells : List _). length cells) c.cells.ensures.cells in
    let later = later-too text c.args.kept c.args.rows cols from in
    elim c.if-not-goes_on.branch [
      | then-not-goes_on+then-from-all+else-from-kept w ↦
          let ends : row.goes_on ≡ false = sym c.goes_on.ensures.on ∙ w.if-not-goes_on.true in
          let more : 0 < length rest = omega (arith, length-drop from text, w.if-from-all.true) in
          let one : w.rows_of.result ≡ rows_of (head_cells rest) cols =
          w.rows_of.ensures.rows ∙ ap (λ k. rows_of k cols) inv.cells ∙ rows-held (head_cells rest) cols in
          record {
            within = omega (arith, inv.within);
            cells = omega (arith, c.saturating_add-cells.ensures, w.cells-is, long, head, head-ends row rest ends);
            filled = omega (arith, w.filled-is, w.saturating_add-filled.ensures, inv.filled, one, behind, behind-ends cols row rest more ends);
            latest =
                later
                (λ few here.
                elim w.else-from-kept.branch [
                  | else-from-kept-via-then-from-kept+else-rows-filled v ↦
                      omega (arith, one, w.saturating_add-filled.ensures, inv.filled, v.if-rows-filled.false, c.ranges.rows.fits)
                  | else-from-kept-via-else-from-kept v ↦ absurd (omega (arith, few, v.if-from-kept.false))
                ])
                inv.latest;
          }
      | else-not-goes_on w ↦
          elim w.else-not-goes_on.branch [
            | else-not-goes_on-via-then-not-goes_on+else-from-all v ↦
                let ends : row.goes_on ≡ false = sym c.goes_on.ensures.on ∙ v.if-not-goes_on.true in
                let none : rest ≡ [] = drop_all from text (omega (arith, v.if-from-all.false)) in
                let no_cells = ap head_cells none in
                let no_rows = ap (rows_behind cols) none in
                let last = ap (λ (rows : List TextRow). rows_behind cols (row ∷ rows)) none in
                record {
                  within = omega (arith, inv.within);
                  cells = omega (arith, c.saturating_add-cells.ensures, w.cells-is, inv.cells, no_cells, long, head, head-ends row rest ends);
                  filled = omega (arith, w.filled-is, inv.filled, no_rows, behind, last);
                  latest = later (λ few here. absurd (omega (arith, few, v.if-from-all.false, c.requires.some))) inv.latest;
                }
            | else-not-goes_on-via-else-not-goes_on v ↦
                let on : row.goes_on ≡ true = sym c.goes_on.ensures.on ∙ v.if-not-goes_on.false in
                record {
                  within = omega (arith, inv.within);
                  cells = omega (arith, c.saturating_add-cells.ensures, w.cells-is, inv.cells, long, head, head-on row rest on);
                  filled = omega (arith, w.filled-is, inv.filled, behind, behind-on cols row rest on);
                  latest = later (λ few here. absurd (search (rules, sym here ∙ begins ∙ ap not on))) inv.latest;
                }
          ]
    ]
