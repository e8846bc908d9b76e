use Rattle.std.proofs.Common.{◌++◌, take, drop, sym, ap, ◌∙◌, arith}
use Rattle.std.specs.List.{filter}
use Rattle.std.proofs.lemmas.List.{append-nil, drop_all}
use Rattle.roam_pane_metadata.specs.Texts.{is_printable, longest_title}
use Rattle.roam_pane_metadata.proofs.Lists.{take-full, take-short}
use Rattle.roam_pane_metadata.proofs.texts.printable.Goals as goal
use Rattle.roam_pane_metadata.proofs.texts.printable.Goals.{then-loop-at-test+else-len-lt-LONGEST_TITLE, else-loop-at-test}

pub returns : goal.returns
returns c =
    let items = c.loop-at.title.items in
    let text = c.args.text.now in
    let same = c.loop-at.invariant.2 in
    let few = c.loop-at.invariant.0 in
    record {
      title = elim c.loop-at-test.branch [
        | then-loop-at-test+else-len-lt-LONGEST_TITLE w ↦
            sym (take-full longest_title items (filter is_printable (drop c.loop-at.at text)) (omega (arith, few, w.if-len-lt-LONGEST_TITLE.false, w.len.ensures))) ∙ same
        | else-loop-at-test w ↦
            sym (take-short longest_title items few)
            ∙ ap (take longest_title) (sym (append-nil items))
            ∙ ap (λ l. take longest_title (items ++ filter is_printable l)) (sym (drop_all c.loop-at.at text w.loop-at-test.false)) ∙ same
      ];
    }
