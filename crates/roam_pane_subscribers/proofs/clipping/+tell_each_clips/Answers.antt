use Rattle.std.proofs.Common.{◌∷◌, ◌∙◌, ap, subst, sym}
use Rattle.std.specs.Prelude.{◌||◌}
use Rattle.roam_pane_subscribers.specs.Clipping.{TellsEachClips}
use Rattle.roam_pane_subscribers.proofs.clipping.+tell_each_clips.Goals as goal

pub returns-then-tell_each_clips : goal.returns-then-tell_each_clips
returns-then-tell_each_clips g t c =
    let gave = c.tell_clips-gave.result in
    let yes = c.if-tell_each_clips.true in
    record {
      told = subst
          (λ olds. TellsEachClips g.S.Stream.contents c.args.may c.args.now.now c.args.panes.now.all.items c.tell_each_clips.result olds
          (c.tell_clips-gave.new.self ∷ c.tell_each_clips.new.all))
          (sym c.in-Some.ensures.cases.0) (
            gave,
            c.tell_each_clips.result,
            c.tell_clips-gave.ensures.tells,
            c.tell_each_clips.ensures.told,
            yes ∙ sym (ap (λ b. b || gave) yes),
          );
    }

pub returns-else-tell_each_clips : goal.returns-else-tell_each_clips
returns-else-tell_each_clips g t c =
    let gave = c.tell_clips-gave.result in
    record {
      told = subst
          (λ olds. TellsEachClips g.S.Stream.contents c.args.may c.args.now.now c.args.panes.now.all.items gave olds
          (c.tell_clips-gave.new.self ∷ c.tell_each_clips.new.all))
          (sym c.in-Some.ensures.cases.0) (
            gave,
            c.tell_each_clips.result,
            c.tell_clips-gave.ensures.tells,
            c.tell_each_clips.ensures.told,
            sym (ap (λ b. b || gave) c.if-tell_each_clips.false),
          );
    }
