use Rattle.std.proofs.Common.{◌≡◌, ◌∙◌, ◌+◌, ◌-◌, ◌<◌, ◌≤◌, ℕ, true, List, ap, arith, length, refl, rules, sym}
use Rattle.std.specs.Prelude.{IsTrue}
use Rattle.roam_cells.specs.Glyph.{Glyph, is_wide, is_right_half, right_of}
use Rattle.roam_cells.specs.Place.{glyph_at, IsWholeRow}
use Rattle.roam_history.specs.Lines.{with_blanks}
use Rattle.roam_history.proofs.Refitting.{glyph-with_blanks, length-with_blanks, is_wide-blank, not_past}
use Rattle.test_cells.proofs.histories.push.Goals as goal

-- a whole row with blanks after it
padded_whole : (cols : ℕ) (front : List Glyph) → length front ≤ cols → IsWholeRow front → IsWholeRow (with_blanks cols front)
padded_whole cols front few whole c q =
    let size = length-with_blanks cols front few in
    let at = glyph-with_blanks cols front in
    record {
      wide = λ w.
          let w' : is_wide (glyph_at front c) ≡ true = ap is_wide (sym (at c)) ∙ w in
          let pair = (whole c (not_past is_wide front c is_wide-blank w')).wide w' in
          let next : c + 1 < length front = pair.0 in
          (omega (arith, size), at (c + 1) ∙ pair.1 ∙ ap right_of (sym (at c)));
      half = λ w.
          let w' : is_right_half (glyph_at front c) ≡ true = ap is_right_half (sym (at c)) ∙ w in
          let pair = (whole c (not_past is_right_half front c refl w')).half w' in
          (pair.0, ap is_wide (at (c - 1)) ∙ pair.1);
    }

pub push_front-requires-clause-whole : goal.push_front-requires-clause-whole
push_front-requires-clause-whole c =
    let yes : IsTrue c.is_whole_row.result = search rules in
    padded_whole c.args.history.now.cols c.args.front.now (omega (arith, c.if-front-cols.true, c.cols.ensures.cols)) (c.is_whole_row.ensures.whole yes)
