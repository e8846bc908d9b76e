use Rattle.std.proofs.Common.{rules, [], ◌∷◌, false, ap, ◌∙◌}
use Rattle.roam_text.specs.Log.{Resized}
use Rattle.roam_scrollback.specs.Lines.{LinesView}
use Rattle.roam_scrollback_stream.specs.Panes.{TellingsView}
use Rattle.roam_scrollback_stream.proofs.Going.{from-one}
use Rattle.roam_scrollback_stream.proofs.Telling.{tells-one}
use Rattle.roam_scrollback_stream.proofs.panes.Pane.size.Goals as goal

pub returns-clause-told : goal.returns-clause-told
returns-clause-told c =
    tells-one c.args.self.now.source c.size.new.self c.tellings.inside.lines c.size.new.lines c.self.inside.kept false
    (Resized c.args.rows c.args.cols ∷ []) c.args.self.now.number
    c.args.tellings.now.out c.push_part.new.self.out
    (ap (λ (v : TellingsView). v.lines) (c.tellings.view_is ∙ c.swap_kept.ensures.lines)
    ∙ ap (λ (v : LinesView). record v { kept = c.self.inside.kept }) c.requires.none)
    (search rules) (search rules)

pub returns-clause-from : goal.returns-clause-from
returns-clause-from c =
    rw (← c.self.view_is)
    (from-one c.self.inside.source c.size.new.self c.tellings.inside.lines c.size.new.lines c.self.inside.kept c.take_kept.new.kept false
    (Resized c.args.rows c.args.cols ∷ []) c.self.inside.number
    c.args.tellings.now.out c.push_part.new.self.out
    (ap (λ (v : TellingsView). v.lines) (c.tellings.view_is ∙ c.swap_kept.ensures.lines)
    ∙ ap (λ (v : LinesView). record v { kept = c.self.inside.kept }) c.requires.none)
    c.take_kept.ensures.kept c.facts.ensures.few (search rules) (search rules))
