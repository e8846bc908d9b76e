use Rattle.std.proofs.Common.{ℕ, List, [], ◌∷◌, ◌++◌, Bool, ap, refl, subst, sym, ◌∙◌}
use Rattle.roam_scrollback_stream.specs.Readings.{DoesOrNot, InputView}
use Rattle.roam_scrollback_stream.specs.Runs.{RanTo, terminal_at, terminal_of}
use Rattle.roam_scrollback_stream.specs.Runs.IsBad.{misplaced, unknown}
use Rattle.roam_scrollback_stream.proofs.Reading.{answered-line, refused-line}
use Rattle.roam_scrollback_stream.proofs.rows.Run.end_line.Goals as goal

pub returns-in_default-clause-bad : goal.returns-in_default-clause-bad
returns-in_default-clause-bad c = λ n is read output reaches.
    refused-line c.args.self.now.terminals c.args.self.now.input n c.lines.result (output ++ c.args.tellings.now.out) read reaches
    c.requires.between is (c.lines.ensures.lines ∙ ap (λ (i : InputView). i.lines) c.take_request.ensures.ended)
    (λ starts. unknown c.args.self.now.input.line starts
    (λ request one same. c.in_default.not-Some request (c.take_request.ensures.only request one same)) refl)

pub returns-then-not-branch-clause-bad : goal.returns-then-not-branch-clause-bad
returns-then-not-branch-clause-bad c = λ n is read output reaches.
    let request = c.in-Some.request in
    let found = c.in-Some.ensures.found in
    let a = c.in_ok-answer.ensures.answers in
    let none = subst (λ (done : Bool). DoesOrNot done c.args.self.now.terminals.normalize request
    (terminal_at c.args.self.now.terminals.all_of (terminal_of request)) a.0 c.args.tellings.now.out c.answer.new.tellings.out)
    c.if-not-branch.true a.2 in
    subst (λ (o : List ℕ). RanTo n c.args.self.now.terminals.normalize (read ++ 0x0A ∷ []) (output ++ o)) (sym none.2)
    (refused-line c.args.self.now.terminals c.args.self.now.input n c.lines-then-not-branch.result (output ++ c.args.tellings.now.out) read reaches
    c.requires.between is (c.lines-then-not-branch.ensures.lines ∙ ap (λ (i : InputView). i.lines) c.take_request.ensures.ended)
    (λ starts. misplaced request found.0 none.0 (ap (λ (l : List ℕ). l ++ 0x0A ∷ []) found.1)))

pub returns-clause-reaches : goal.returns-clause-reaches
returns-clause-reaches c = λ read output reaches.
    let request = c.in-Some.request in
    let found = c.in-Some.ensures.found in
    let a = c.in_ok-answer.ensures.answers in
    let answers = subst (λ (done : Bool). DoesOrNot done c.args.self.now.terminals.normalize request
    (terminal_at c.args.self.now.terminals.all_of (terminal_of request)) a.0 c.args.tellings.now.out c.answer.new.tellings.out)
    c.if-not-branch.false a.2 in
    answered-line c.args.self.now.terminals c.answer.new.self c.args.self.now.input c.take_request.new.self c.expect.new.self request a.0 output
    c.args.tellings.now.out c.answer.new.tellings.out read reaches c.requires.between found.0 found.1 c.take_request.ensures.ended
    c.expect.ensures.expects c.in_ok-answer.ensures.normalize a.1 answers
