use Rattle.std.proofs.Common.{◌≡◌, ◌∙◌, ◌+◌, ◌-◌, ◌*◌, ◌<◌, ℕ, List, ap, arith, length, sym}
use Rattle.roam_cells.specs.Glyph.{Glyph, is_wide, is_right_half, right_of}
use Rattle.roam_cells.specs.Place.{glyph_at, cell_at, AreWhole, IsWholeRow}
use Rattle.test_cells.proofs.histories.is_whole_row.Goals as goal

-- one row alone
only_row : (row : List Glyph) → AreWhole 1 (length row) row → IsWholeRow row
only_row row whole c q =
    let at : (k : ℕ) → cell_at (length row) row 0 k ≡ glyph_at row k = λ k. let e : 0 * length row + k ≡ k = omega arith in ap (glyph_at row) e in
    let h = whole 0 (omega arith) c q in
    record {
      wide = λ w.
          let pair = h.wide (ap is_wide (at c) ∙ w) in
          (pair.0, sym (at (c + 1)) ∙ pair.1 ∙ ap right_of (at c));
      half = λ w.
          let pair = h.half (ap is_right_half (at c) ∙ w) in
          (pair.0, ap is_wide (sym (at (c - 1))) ∙ pair.1);
    }

pub returns-else-is_empty : goal.returns-else-is_empty
returns-else-is_empty c =
    let row = c.args.row.now in
    record {
      whole = λ yes k q. let some : 0 < length row = omega arith in only_row row ((c.is_well_formed.ensures.rows 1 some (omega arith)).0 yes) k q;
    }
