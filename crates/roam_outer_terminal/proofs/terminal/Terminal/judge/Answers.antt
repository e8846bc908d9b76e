use Rattle.std.proofs.Common.{rules, ◌≡◌, Some, refl, subst}
use Rattle.roam_overlay.specs.Overlays.{Judges, Loses}
use Rattle.roam_screens.specs.Shown.{shown_by}
use Rattle.roam_turns.specs.declared.outer.Noted.{Noted}
use Rattle.roam_outer_terminal.specs.Painted.IsJudged.{judged}
use Rattle.roam_outer_terminal.proofs.Judged.{on_err, on_ok}
use Rattle.roam_outer_terminal.proofs.terminal.Terminal.judge.Goals as goal

pub returns-clause-judged : goal.returns-clause-judged
returns-clause-judged g c =
    let number = c.in-Some-noted.number in
    let screen = shown_by c.in-Some-noted.screen in
    let noted : Noted = record { number = number; screen = screen } in
    let there : c.args.self.now.outer ≡ Some noted = search rules in
    let was : c.args.self.now.predicting ≡ Some c.in-Some.overlay = search rules in
    on_ok _ _ c.judge.result
    (λ is. judged noted c.in-Some.overlay c.judge.new.self there was refl
    (subst (λ n. Judges number screen n c.args.now c.in-Some.overlay c.judge.new.self) c.acknowledged.ensures.acknowledged is))
    c.judge.ensures.judged

pub returns-clause-lost : goal.returns-clause-lost
returns-clause-lost g c =
    let number = c.in-Some-noted.number in
    let screen = shown_by c.in-Some-noted.screen in
    let noted : Noted = record { number = number; screen = screen } in
    let there : c.args.self.now.outer ≡ Some noted = search rules in
    let was : c.args.self.now.predicting ≡ Some c.in-Some.overlay = search rules in
    on_err _ _ c.judge.result
    (λ is. record {
      n = noted;
      o = c.in-Some.overlay;
      o' = c.judge.new.self;
      noted = there;
      was = was;
      is = refl;
      loses = subst (λ n. Loses number screen n c.args.now c.in-Some.overlay c.judge.new.self) c.acknowledged.ensures.acknowledged is;
    })
    c.judge.ensures.ended
