use Rattle.std.proofs.Common.{rules, ap}
use Rattle.roam_scrollback_stream.specs.Readings.{TerminalsView}
use Rattle.roam_scrollback_stream.proofs.Reading.{placed}
use Rattle.roam_scrollback_stream.proofs.rows.Terminals.answer.Goals as goal

pub returns-clause-answers : goal.returns-clause-answers
returns-clause-answers c =
    placed c.answer.result c.self.inside.normalize c.args.self.now.normalize c.args.request c.args.self.now.all_of c.self.inside.panes.items
    c.from-at.result c.index_mut.result.now c.answer.new.place c.args.tellings.now.out c.answer.new.tellings.out c.requires.is c.self.invariant
    (ap (λ (t : TerminalsView). t.all_of) c.self.view_is) (ap (λ (t : TerminalsView). t.normalize) c.self.view_is) (search rules)
    c.index_mut.ensures.value c.answer.ensures.answers
