use Rattle.std.proofs.Common.{◌≡◌, ◌⊎◌, Some, None, sym, ap, subst, rules}
use Rattle.roam_turns.specs.Painting.{LeadsSized}
use Rattle.roam_outer_terminal.specs.Overlaid.{IsOver}
use Rattle.roam_outer_terminal.specs.Painted.{MayJudge, shown_of}
use Rattle.roam_outer_terminal.proofs.Judged.{may_judge, noted_or}
use Rattle.roam_outer_terminal.proofs.Showing.{noted_from, noted_kept}
use Rattle.roam_outer_terminal.proofs.terminal.Terminal.paint.Goals as goal

pub returns-clause-paints : goal.returns-clause-paints
returns-clause-paints g c =
    let old = c.args.self.now in
    let client = c.args.client.now in
    let now = c.args.silence.moment in
    let mid = c.take_back-taken.new.self in
    let painted = c.paint_noted.new.self in
    let judged = c.judge.new.self in
    let new = c.lay.new.self in
    let taken = c.take_back-taken.ensures.taken in
    let outer : judged.outer ≡ painted.outer = ap (λ t. t.outer) c.judge.ensures.others in
    let waiting : judged.waiting ≡ painted.waiting = ap (λ t. t.waiting) c.judge.ensures.others in
    let predicting : new.predicting ≡ judged.predicting = ap (λ t. t.predicting) c.lay.ensures.others in
    let was : painted.predicting ≡ old.predicting = search rules in
    let leads : LeadsSized mid.outer judged.waiting judged.outer =
    subst (λ x. LeadsSized mid.outer judged.waiting x) (sym outer)
    (subst (λ w. LeadsSized mid.outer w painted.outer) (sym waiting) c.paint_noted.ensures.leads) in
    record {
      ready = c.requires.ready;
      untold = c.requires.untold;
      noted = painted.outer;
      is_noted = noted_from old.outer mid.outer painted.outer (Some (shown_of client))
          (noted_kept old.over old.outer mid.outer c.take_back-taken.result taken)
          (noted_or client _ _ c.paint_noted.result c.paint_noted.ensures.noted c.paint_noted.ensures.refused);
      stays = subst (λ x. (new.outer ≡ x) ⊎ (new.outer ≡ None)) outer c.lay.ensures.outer;
      leads = c.lay.ensures.leads old.over old.outer mid.outer taken leads;
      judged = subst (λ x. MayJudge now client painted.outer old.predicting x) (sym predicting)
          (subst (λ x. MayJudge now client painted.outer x judged.predicting) was
          (subst (λ m. MayJudge m client painted.outer painted.predicting judged.predicting) c.moment.ensures.moment
          (may_judge _ _ c.judge.result c.judge.ensures.judged c.judge.ensures.lost)));
      hidden = λ long. c.lay.ensures.hidden (c.wanted_if_kept-wanted.ensures.hidden long);
      over = subst (λ x. IsOver now x new.outer new.over) (sym predicting) (c.lay.ensures.over now c.wanted_if_kept-wanted.ensures.over);
      others = search rules;
    }
