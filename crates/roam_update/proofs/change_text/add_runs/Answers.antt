use Rattle.std.proofs.Common.{◌≡◌, ◌++◌, ◌<◌, ◌≤◌, ℕ, length, sym, ap, ◌∙◌, arith}
use Rattle.std.specs.Prelude.{slice_range}
use Rattle.roam_cells.specs.Place.{glyph_at}
use Rattle.roam_update.specs.Numbers.{form_in, form_behind, runs_said}
use Rattle.roam_update.proofs.Said.{count_over}
use Rattle.roam_update.proofs.Slices.{range_count}
use Rattle.roam_update.proofs.Sizing.{same_count}
use Rattle.roam_update.proofs.RunsText.{from_start, from_first, text_more, used_more, count_more, text_end, used_past, count_end}
use Rattle.roam_update.proofs.change_text.add_runs.Goals as goal

pub loop-first-init : goal.loop-first-init
loop-first-init g c =
    let base = (g.B.Seen.screen c.args.base.now).cells in
    let cells = (g.S.Seen.screen c.args.shot.now).cells in
    let size = c.requires.size in
    let len = same_count (g.B.Seen.screen c.args.base.now) (g.S.Seen.screen c.args.shot.now) c.facts.ensures.screenshot c.facts-2.ensures.screenshot size.rows size.cols in
    let next = c.first_difference-first.ensures in
    let e = from_start base cells len c.first_difference-first.result next.range.1 next.skipped in
    record {
      high = next.range.1;
      few = omega arith;
      differs = next.differs;
      are = c.requires.are;
      styles = omega (arith, ap length c.requires.none);
      text = ap (λ runs. c.args.text.now.items ++ runs_said (form_in c.args.numbers.now) runs) e;
      used = ap (form_behind (form_in c.args.numbers.now)) e;
      count = omega (arith, ap length e);
    }

pub loop-first-preserved : goal.loop-first-preserved
loop-first-preserved g c =
    let base = (g.B.Seen.screen c.args.base.now).cells in
    let cells = (g.S.Seen.screen c.args.shot.now).cells in
    let size = c.requires.size in
    let len = same_count (g.B.Seen.screen c.args.base.now) (g.S.Seen.screen c.args.shot.now) c.facts.ensures.screenshot c.facts-2.ensures.screenshot size.rows size.cols in
    let first = c.loop-first.first in
    let end = c.first_same-end.result in
    let next = c.first_difference-first-in-loop-first.result in
    let ends = c.first_same-end.ensures in
    let nexts = c.first_difference-first-in-loop-first.ensures in
    let p : first < end = omega (arith, ends.range.0) in
    let differ = λ (i : ℕ) (a : first ≤ i) (b : i < end). from_first (λ j. ¬ (glyph_at base j ≡ glyph_at cells j)) first end (c.loop-first.invariant.differs (omega arith)) ends.skipped i a b in
    let f = form_in c.loop-first.numbers in
    let grown = count_over f (form_in c.add_run.new.numbers) (slice_range cells first end) c.in_ok-add_run.ensures.form in
    let long = range_count cells first end in
    record {
      high = nexts.range.1;
      few = omega (arith, nexts.range.0, p);
      differs = nexts.differs;
      are = c.in_ok-add_run.ensures.are;
      styles = omega (arith, grown, long, nexts.range.0, p, c.loop-first.invariant.styles);
      text =
          rw (c.in_ok-add_run.ensures.run, c.in_ok-add_run.ensures.form)
          (text_more base cells len first end next p nexts.range.0 nexts.range.1 differ nexts.skipped ends.same c.loop-first.text.items f ∙ c.loop-first.invariant.text);
      used =
          rw c.in_ok-add_run.ensures.form
          (used_more base cells len first end next p nexts.range.0 nexts.range.1 differ nexts.skipped ends.same f ∙ c.loop-first.invariant.used);
      count = count_more base cells len first end next p nexts.range.0 nexts.range.1 differ nexts.skipped ends.same c.loop-first.count ∙ c.loop-first.invariant.count;
    }

pub returns-clause-runs : goal.returns-clause-runs
returns-clause-runs g c =
    let base = (g.B.Seen.screen c.args.base.now).cells in
    let cells = (g.S.Seen.screen c.args.shot.now).cells in
    let size = c.requires.size in
    let len = same_count (g.B.Seen.screen c.args.base.now) (g.S.Seen.screen c.args.shot.now) c.facts.ensures.screenshot c.facts-2.ensures.screenshot size.rows size.cols in
    let over : length cells ≤ c.loop-first.first = omega arith in
    sym (text_end base cells len c.loop-first.text.items (form_in c.loop-first.numbers) c.loop-first.first over) ∙ c.loop-first.invariant.text

pub returns-clause-form : goal.returns-clause-form
returns-clause-form g c =
    let base = (g.B.Seen.screen c.args.base.now).cells in
    let cells = (g.S.Seen.screen c.args.shot.now).cells in
    let size = c.requires.size in
    let len = same_count (g.B.Seen.screen c.args.base.now) (g.S.Seen.screen c.args.shot.now) c.facts.ensures.screenshot c.facts-2.ensures.screenshot size.rows size.cols in
    let over : length cells ≤ c.loop-first.first = omega arith in
    sym (used_past base cells len (form_in c.loop-first.numbers) c.loop-first.first over) ∙ c.loop-first.invariant.used

pub returns-clause-count : goal.returns-clause-count
returns-clause-count g c =
    let base = (g.B.Seen.screen c.args.base.now).cells in
    let cells = (g.S.Seen.screen c.args.shot.now).cells in
    let size = c.requires.size in
    let len = same_count (g.B.Seen.screen c.args.base.now) (g.S.Seen.screen c.args.shot.now) c.facts.ensures.screenshot c.facts-2.ensures.screenshot size.rows size.cols in
    let over : length cells ≤ c.loop-first.first = omega arith in
    let none = count_end base cells len c.loop-first.first over in
    omega (arith, none, c.loop-first.invariant.count)
