use Rattle.std.proofs.Common.{◌≡◌, ◌+◌, List, [], ◌∷◌, ◌++◌, map, take, sym, ap, subst, ◌∙◌}
use Rattle.std.proofs.lemmas.List.{map-append, take_more}
use Rattle.roam_rewrap.specs.Lines.{TextRow}
use Rattle.roam_scrollback.specs.Lines.{LeftRow, Writes, left_of}
use Rattle.roam_scrollback.proofs.Writing.{writes-then}
use Rattle.roam_scrollback.proofs.lines.LeftLines.push_texts.Goals as goal

pub loop-row-preserved : goal.loop-row-preserved
loop-row-preserved c =
    let rows = c.args.rows.now in
    let i = c.loop-row.row-index in
    let row = c.row-item.result in
    let more : take (i + 1) rows ≡ take i rows ++ row ∷ [] =
    take_more rows i row c.loop-row-test.true ∙ ap (λ (x : TextRow). take i rows ++ x ∷ []) (sym c.row-item.is) in
    subst (λ (l : List LeftRow). Writes c.args.self.now c.push_text.new.self l)
    (sym (ap (map left_of) more ∙ map-append left_of (take i rows) (row ∷ [])))
    (writes-then c.args.self.now c.loop-row.self c.push_text.new.self (map left_of (take i rows)) (left_of row ∷ []) c.loop-row.invariant
    c.push_text.ensures.written)
