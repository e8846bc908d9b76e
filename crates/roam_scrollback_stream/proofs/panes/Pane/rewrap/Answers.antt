use Rattle.std.proofs.Common.{rules, ap, subst, ◌∙◌}
use Rattle.roam_scrollback.specs.Lines.{LinesView}
use Rattle.roam_scrollback.specs.Rewraps.{IsRewrapped}
use Rattle.roam_scrollback_stream.specs.Panes.{TellingsView}
use Rattle.roam_scrollback_stream.proofs.Answering.{answered}
use Rattle.roam_scrollback_stream.proofs.panes.Pane.rewrap.Goals as goal

pub returns-clause-answered : goal.returns-clause-answered
returns-clause-answered c =
    answered c.args.rows c.args.cols c.args.self.now _ c.args.tellings.now.out c.push_answer.new.self.out c.rewrap-done.result
    (λ d is. rw (← c.self.view_is) (record {
      is = c.requires.size;
      whole = search rules;
      lines = c.rewrap-done.new.lines;
      back = d.back;
      text = d.text.items;
      rewrapped =
          subst
          (λ (v : LinesView). IsRewrapped c.self.inside.source c.rewrap-done.new.self v c.rewrap-done.new.lines c.args.rows c.args.cols d.back d.text.items)
          (ap (λ (v : TellingsView). v.lines) (c.tellings.view_is ∙ c.swap_kept.ensures.lines)
          ∙ ap (λ (v : LinesView). record v { kept = c.self.inside.kept }) c.requires.none)
          (rw is at c.rewrap-done.ensures.rewrapped);
      kept = search rules;
      few = c.facts.ensures.few;
      held = search rules;
      number = search rules;
      written = let told = rw is at c.in_ok-push_answer.ensures.brought in search rules;
    }))
    (search rules) (search rules) (rw (← c.self.view_is) c.rewrap-done.ensures.later) (search rules)
