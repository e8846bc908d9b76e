use Rattle.std.proofs.Common.{◌≡◌, ◌+◌, ◌-◌, ℕ, List, [], ◌∷◌, Some, None, drop, length, arith, ap, refl, sym, subst, ◌∙◌, add-zero, zero-add, length-drop}
use Rattle.std.proofs.lemmas.List.{drop-drop}
use Rattle.roam_stored_rows.specs.Rows.{RowsView, bytes_of}
use Rattle.roam_row_files.specs.Changes.{after_all, said}
use Rattle.roam_row_files.specs.Reading.{Reads, goes, stops}
use Rattle.roam_row_files.specs.Records.{front_of}
use Rattle.roam_row_files.proofs.Weights.{after-light}
use Rattle.roam_row_files.proofs.replays.replay.Goals as goal

pub loop-change-init : goal.loop-change-init
loop-change-init c =
    record {
      within = omega arith;
      light = omega arith;
      rows = λ changes end r. (changes, subst (λ k. Reads c.args.bytes.now changes k) (sym (zero-add end)) r, refl);
    }

pub loop-change-preserved : goal.loop-change-preserved
loop-change-preserved c =
    let bytes = c.args.bytes.now in
    let at = c.loop-change.end in
    let size = c.in-Some.size in
    let change = said c.in-Some.change in
    let front : front_of (drop at bytes) ≡ Some (change, size) =
    subst (λ (b : List ℕ). front_of b ≡ Some (change, size)) c.split_at.ensures.back c.in-Some.ensures.front in
    let left : length c.split_at.result.1.now ≡ length bytes - at = ap length c.split_at.ensures.back ∙ length-drop at bytes in
    let after = c.in_ok-apply.ensures.after in
    let bytes_after = ap (λ (v : RowsView). bytes_of v.rows) after in
    record {
      within = omega (arith, left, c.in-Some.ensures.within.1, c.loop-change.invariant.within);
      light = omega (arith, bytes_after, after-light change c.loop-change.rows, c.in-Some.ensures.size, c.loop-change.invariant.light);
      rows = λ changes end r.
          let behind : Reads (drop size (drop at bytes)) changes end = subst (λ (b : List ℕ). Reads b changes end) (sym (drop-drop size at bytes)) r in
          let (all, read, rows) = c.loop-change.invariant.rows (change ∷ changes) (size + end) (goes (drop at bytes) change size changes end front behind) in
          let place : at + (size + end) ≡ at + size + end = omega arith in
          (all, subst (λ k. Reads bytes all k) place read, rows ∙ ap (after_all changes) (sym after));
    }

pub returns : goal.returns
returns c =
    let bytes = c.args.bytes.now in
    let at = c.loop-change.end in
    let front : front_of (drop at bytes) ≡ None =
    subst (λ (b : List ℕ). front_of b ≡ None) c.split_at.ensures.back c.in_default.ensures.front in
    let (all, read, rows) = c.loop-change.invariant.rows [] 0 (stops (drop at bytes) front) in
    let whole : Reads bytes all at = subst (λ k. Reads bytes all k) (add-zero at) read in
    record {
      rows = (all, whole, sym rows);
      within = c.loop-change.invariant.within;
      faults = tt;
      light = c.loop-change.invariant.light;
    }
