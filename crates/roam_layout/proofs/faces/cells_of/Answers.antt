use Rattle.std.proofs.Common.{◌≡◌, ◌<◌, ◌+◌, ◌++◌, List, ℕ, inl, inr, length, sym, subst, ap, ◌∙◌, arith, rules}
use Rattle.std.proofs.lemmas.Bool.{cases_lt}
use Rattle.roam_cells.specs.Glyph.{Glyph}
use Rattle.roam_cells.specs.Place.{table, IsWholeRow, AreWhole, AreUnguarded}
use Rattle.roam_screens.specs.Screenshot.{Screenshot}
use Rattle.roam_layout.specs.Faces.{face, face_at, face_row, picture_in, Show}
use Rattle.roam_layout.proofs.Facing.{table_none, table_more, face_count, face_whole, face_unguarded}
use Rattle.roam_layout.proofs.Listed.{shows_by_number}
use Rattle.roam_layout.proofs.faces.cells_of.Goals as goal

pub loop-above-init : goal.loop-above-init
loop-above-init c =
    let s = c.args.layout.now in
    record {
      cells = λ picture show. c.in_ok-cells.ensures.items ∙ sym (table_none s.cols (λ r k. face_at s picture (r + 1) (k + 1)));
      whole = λ picture show r h. absurd (omega (arith, h));
      unguarded = λ picture show r h. absurd (omega (arith, h));
    }

pub loop-above-preserved : goal.loop-above-preserved
loop-above-preserved c =
    let s = c.args.layout.now in
    let k = c.loop-above.above in
    record {
      cells = λ picture show.
          c.in_ok-push_row.ensures.row picture show ∙ ap (λ l. l ++ face_row s picture (k + 1)) (c.loop-above.invariant.cells picture show)
          ∙ sym (table_more k s.cols (λ r j. face_at s picture (r + 1) (j + 1)));
      whole = λ picture show r h. elim (cases_lt r k) [
        | inl below ↦ c.loop-above.invariant.whole picture show r below
        | inr last ↦
            let e : k ≡ r = omega (arith, h, last) in
            subst (λ n. IsWholeRow (face_row s picture (n + 1))) e (c.in_ok-push_row.ensures.whole picture show)
      ];
      unguarded = λ picture show r h. elim (cases_lt r k) [
        | inl below ↦ c.loop-above.invariant.unguarded picture show r below
        | inr last ↦
            let e : k ≡ r = omega (arith, h, last) in
            subst (λ n. AreUnguarded (face_row s picture (n + 1))) e (c.in_ok-push_row.ensures.unguarded picture show)
      ];
    }

pub returns : goal.returns
returns c =
    let s = c.args.layout.now in
    let shots = c.args.shots.now in
    let e : c.loop-above.above ≡ s.rows = omega arith in
    let all : (picture : ℕ → Screenshot) → Show picture shots → c.loop-above.cells.items ≡ (face s picture).cells = λ picture show.
    c.loop-above.invariant.cells picture show ∙ ap (λ n. table n s.cols (λ r k. face_at s picture (r + 1) (k + 1))) e in
    let picture = picture_in shots in
    let show = shows_by_number s shots c.facts.ensures.plan c.requires.pictures in
    let whole : (r : ℕ) → r < s.rows → IsWholeRow (face_row s picture (r + 1)) = λ r h.
    c.loop-above.invariant.whole picture show r (omega (arith, h, e)) in
    let free : (r : ℕ) → r < s.rows → AreUnguarded (face_row s picture (r + 1)) = λ r h.
    c.loop-above.invariant.unguarded picture show r (omega (arith, h, e)) in
    record {
      cells = all;
      count = ap (λ (l : List Glyph). length l) (all picture show) ∙ face_count s picture whole free;
      whole = subst (λ (l : List Glyph). AreWhole s.rows s.cols l) (sym (all picture show)) (face_whole s picture whole free);
      unguarded = subst (λ (l : List Glyph). AreUnguarded l) (sym (all picture show)) (face_unguarded s picture whole free);
      fault = search rules;
    }
