use Rattle.std.proofs.Common.{◌≡◌, ◌⊎◌, Some, sym, ap, ◌∙◌, subst, rules}
use Rattle.roam_turns.specs.Painting.{IsBehind}
use Rattle.roam_outer_terminal.specs.Overlaid.{IsOver}
use Rattle.roam_outer_terminal.specs.Painted.{MayJudge, TellsIt, shown_of}
use Rattle.roam_outer_terminal.proofs.Judged.{may_judge}
use Rattle.roam_outer_terminal.proofs.Noted.{behind_noted}
use Rattle.roam_outer_terminal.proofs.Said.{some_is}
use Rattle.roam_outer_terminal.proofs.terminal.Terminal.tell.Goals as goal

pub returns-clause-tells : goal.returns-clause-tells
returns-clause-tells g c =
    let old = c.args.self.now in
    let client = c.args.client.now in
    let now = c.args.silence.moment in
    let noted = c.note.new.self in
    let judged = c.judge.new.self in
    let mid = c.stand_over.new.self in
    let was = some_is old.display_state c.requires.told in
    let outer : mid.outer ≡ noted.outer = ap (λ t. t.outer) c.stand_over.ensures.over ∙ ap (λ t. t.outer) c.judge.ensures.others in
    let judged_outer : judged.outer ≡ noted.outer = ap (λ t. t.outer) c.judge.ensures.others in
    let predicting : mid.predicting ≡ judged.predicting = ap (λ t. t.predicting) c.stand_over.ensures.over in
    let before : noted.predicting ≡ old.predicting = ap (λ t. t.predicting) c.note.ensures.others in
    let over : mid.over ≡ c.wanted_if_kept-wanted.result = ap (λ t. t.over) c.stand_over.ensures.over in
    let display_state : mid.display_state ≡ Some was.0 = search rules in
    record {
      ready = c.requires.ready;
      before = was.0;
      was = was.1;
      mid = mid;
      noted = subst (λ o. (o ≡ Some (shown_of client)) ⊎ (o ≡ old.outer)) (sym outer) c.note.ensures.noted;
      judged = subst (λ x. MayJudge now client mid.outer old.predicting x) (sym predicting)
          (subst (λ o. MayJudge now client o old.predicting judged.predicting) (sym outer)
          (subst (λ x. MayJudge now client noted.outer x judged.predicting) before
          (subst (λ m. MayJudge m client noted.outer noted.predicting judged.predicting) c.moment.ensures.moment
          (may_judge _ _ c.judge.result c.judge.ensures.judged c.judge.ensures.lost))));
      over = subst (λ x. IsOver now x mid.outer mid.over) (sym predicting)
          (subst (λ o. IsOver now judged.predicting o mid.over) (judged_outer ∙ sym outer)
          (subst (λ o. IsOver now judged.predicting judged.outer o) (sym over) c.wanted_if_kept-wanted.ensures.over));
      hidden = λ long. over ∙ c.wanted_if_kept-wanted.ensures.hidden long;
      others = search rules;
      tells = subst (λ a. TellsIt a was.0 mid c.tell_all.new.self) c.acknowledged.ensures.acknowledged
          (c.tell_all.ensures.told was.0 display_state);
    }

pub returns-clause-behind : goal.returns-clause-behind
returns-clause-behind g c = λ h.
    let old = c.args.self.now in
    let client = c.args.client.now in
    let n = client.kept.receiver.newest.number in
    let s = client.kept.receiver.newest.state in
    let mid = c.stand_over.new.self in
    let was = some_is old.display_state c.requires.told in
    let display_state : mid.display_state ≡ Some was.0 = search rules in
    let told = c.tell_all.ensures.told was.0 display_state in
    let outer : c.tell_all.new.self.outer ≡ c.note.new.self.outer =
    ap (λ t. t.outer) told.is ∙ (ap (λ t. t.outer) c.stand_over.ensures.over ∙ ap (λ t. t.outer) c.judge.ensures.others) in
    subst (λ o. IsBehind o n s) (sym outer) (behind_noted old.outer c.note.new.self.outer n s c.note.ensures.noted h)
