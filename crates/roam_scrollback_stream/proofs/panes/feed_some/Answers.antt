use Rattle.std.proofs.Common.{rules, map, take, ap, ◌∙◌}
use Rattle.roam_text.specs.Log.{Byte}
use Rattle.roam_scrollback.specs.Lines.{LinesView}
use Rattle.roam_scrollback_stream.specs.Panes.{TellingsView}
use Rattle.roam_scrollback_stream.proofs.Going.{from-one}
use Rattle.roam_scrollback_stream.proofs.Telling.{tells-one}
use Rattle.roam_scrollback_stream.proofs.panes.feed_some.Goals as goal

pub returns-clause-told : goal.returns-clause-told
returns-clause-told c =
    tells-one c.args.source.now c.feed-fed.new.self _ c.feed-fed.new.lines c.args.kept.now c.feed-fed.result.cleared
    (map Byte (take c.feed-fed.result.count c.args.piece.now)) c.args.number c.args.tellings.now.out c.push_part.new.self.out
    (ap (λ (v : TellingsView). v.lines) (c.tellings.view_is ∙ c.swap_kept.ensures.lines)
    ∙ ap (λ (v : LinesView). record v { kept = c.args.kept.now }) c.requires.none)
    c.feed-fed.ensures.sheds
    (search rules)

pub returns-clause-from : goal.returns-clause-from
returns-clause-from c =
    from-one c.args.source.now c.feed-fed.new.self _ c.feed-fed.new.lines c.args.kept.now c.take_kept.new.kept c.feed-fed.result.cleared
    (map Byte (take c.feed-fed.result.count c.args.piece.now)) c.args.number c.args.tellings.now.out c.push_part.new.self.out
    (ap (λ (v : TellingsView). v.lines) (c.tellings.view_is ∙ c.swap_kept.ensures.lines)
    ∙ ap (λ (v : LinesView). record v { kept = c.args.kept.now }) c.requires.none)
    c.take_kept.ensures.kept c.facts.ensures.few c.feed-fed.ensures.sheds
    (search rules)
