use Rattle.std.proofs.Common.{◌∙◌, sym, ap, get_or, take, fold}
use Rattle.std.proofs.lemmas.List.{take_more}
use Rattle.std.proofs.lemmas.List.Sums.{fold_more}
use Rattle.roam_term.specs.Marks.{marks_private_mode, marks_private_modes}
use Rattle.roam_term.specs.Terminal.{private_mode_set}
use Rattle.roam_term.proofs.Marking.{private-more}
use Rattle.roam_term.proofs.canvases.Canvas.set_private_modes.Goals as goal

pub loop-number-preserved : goal.loop-number-preserved
loop-number-preserved c =
    let a = c.args in
    let l = c.loop-number in
    let i = l.number-index in
    let p = get_or a.numbers.now i 0 in
    let s = a.self.now.live in
    let ps = take i a.numbers.now in
    record {
      set =
          c.set_private_mode.ensures.set ∙ ap (λ t. private_mode_set a.on t p) l.invariant.set
          ∙ sym (fold_more (private_mode_set a.on) s a.numbers.now i 0 c.loop-number-test.true);
      marks =
          c.set_private_mode.ensures.marks
          ∙ ap (λ t. marks_private_mode a.on t p l.self.marks) l.invariant.set
          ∙ ap (marks_private_mode a.on (fold (private_mode_set a.on) s ps) p) l.invariant.marks
          ∙ sym (private-more a.on s ps p a.self.now.marks)
          ∙ sym (ap (λ qs. marks_private_modes a.on s qs a.self.now.marks) (take_more a.numbers.now i 0 c.loop-number-test.true));
      size = record {
        rows = c.set_private_mode.ensures.size.rows ∙ l.invariant.size.rows;
        cols = c.set_private_mode.ensures.size.cols ∙ l.invariant.size.cols;
      };
    }
