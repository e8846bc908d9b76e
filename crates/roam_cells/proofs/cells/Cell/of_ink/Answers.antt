use Rattle.std.proofs.Common.{◌≡◌, ℕ, true, List, length, take, drop, set, sym, ap, ◌∙◌, arith, rules}
use Rattle.std.proofs.lemmas.Grind.{common_steps}
use Rattle.roam_cells.specs.Glyph.{Glyph, is_cell_text, is_text, is_wide_text}
use Rattle.roam_cells.proofs.Gathered.{spread, laid, one, two, three, wide_is, text_is_cell, accepted}
use Rattle.roam_cells.proofs.cells.Cell.of_ink.Goals as goal
use Rattle.roam_cells.proofs.cells.Cell.of_ink.Goals.{Joined-count-gt2, then-count-gt1+else-not-is_joiner, else-count-gt1}
use Rattle.roam_cells.proofs.cells.Cell.of_ink.Goals.{then-count-gt2+else-not-is_joiner-2, else-count-gt2}

-- the three places have the code points, and zeros after them
kept_is : (c : Joined-count-gt2) → c.if-count-gt2.kept ≡ spread c.args.points.now
kept_is c =
    let ps = c.args.points.now in
    let p = c.index-points-0-2 in
    elim c.if-count-gt1.branch [
      | then-count-gt1+else-not-is_joiner v ↦
          let q = v.index-points-1-then-count-gt1 in
          elim c.if-count-gt2.branch [
            | then-count-gt2+else-not-is_joiner-2 w ↦
                let r = w.index-points-2-then-count-gt2 in
                w.kept-is ∙ ap (λ (ks : List ℕ). set ks 2 r.result) v.kept-is
                ∙ three ps p.result q.result r.result w.if-count-gt2.true c.if-count-gt3.false p.is q.is r.is
            | else-count-gt2 w ↦
                w.kept-is ∙ v.kept-is ∙ two ps p.result q.result v.if-count-gt1.true w.if-count-gt2.false p.is q.is
          ]
      | else-count-gt1 v ↦
          elim c.if-count-gt2.branch [
            | then-count-gt2+else-not-is_joiner-2 w ↦ absurd (omega (arith, v.if-count-gt1.false, w.if-count-gt2.true))
            | else-count-gt2 w ↦ w.kept-is ∙ v.kept-is ∙ one ps p.result c.if-count-eq0.false v.if-count-gt1.false p.is
          ]
    ]

-- the kept points are all points
front : (c : Joined-count-gt2) → take (length c.args.points.now) c.if-count-gt2.kept ≡ c.args.points.now
front c =
    let ps = c.args.points.now in
    ap (take (length ps)) (kept_is c) ∙ (laid ps c.if-count-gt3.false).1

pub keeping-requires-clause-three : goal.keeping-requires-clause-three
keeping-requires-clause-three c = ap (length {A = ℕ}) (kept_is c) ∙ (laid c.args.points.now c.if-count-gt3.false).0

pub keeping-requires-clause-few : goal.keeping-requires-clause-few
keeping-requires-clause-few c = search rules

pub keeping-requires-clause-rest : goal.keeping-requires-clause-rest
keeping-requires-clause-rest c =
    let ps = c.args.points.now in
    ap (drop (length ps)) (kept_is c) ∙ (laid ps c.if-count-gt3.false).2

pub keeping-requires-clause-width : goal.keeping-requires-clause-width
keeping-requires-clause-width c =
    let ps = c.args.points.now in
    let first = c.index-points-0 in
    let wide = wide_is ps first.result c.width-columns.result c.if-count-eq0.false first.is c.width-columns.ensures.value in
    wide ∙ ap is_wide_text (sym (front c))

pub keeping-requires-clause-text : goal.keeping-requires-clause-text
keeping-requires-clause-text c = grind (arith, common_steps)

pub returns : goal.returns
returns c =
    let ps = c.args.points.now in
    let before = (goal.at.returns c).Joined-count-gt2 in
    let text : is_text ps ≡ true = ap is_text (sym (front before)) ∙ keeping-requires-clause-text before in
    let made = text_is_cell ps c.if-count-eq0.false text in
    let of : List ℕ → Glyph = λ points. record { points = points; style = c.args.ink.style; guarded = c.args.ink.guarded } in
    record { cell = accepted (is_cell_text ps) c.keeping.result (of ps) made (c.keeping.ensures.cell ∙ ap of (front before)) }
