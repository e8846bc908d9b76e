use Rattle.std.proofs.Common.{◌≡◌, ◌⊎◌, take, sym, subst, ap}
use Rattle.roam_pane_sockets.specs.FilterStages.{FilterStagePassesOn, IsSifted, Sifts, FilterStageView}
use Rattle.roam_pane_sockets.proofs.Sifting.{CutsChangeNothing, gone-on, gone-through, handed-on, ready-so}
use Rattle.roam_pane_sockets.proofs.filter_stages.FilterStage.go_on.Goals as goal

pub returns-clause-goes : goal.returns-clause-goes
returns-clause-goes c = λ came given h.
    let cuts : CutsChangeNothing = record { out = c.cuts_change_nothing.ensures.out; held = c.cuts_change_nothing.ensures.held } in
    let passed = ready-so _ c.pass.new.self came given (ap (λ f. f.ready) c.pass.ensures.passed)
    (subst (λ s. Sifts s came given) (sym c.self.view_is) h) in
    let sifted = gone-through _ c.sift_on.new.self c.args.now came given cuts c.sift_on.ensures.sifts passed in
    handed-on _ c.hand_on.new.self c.hand_on.result came given (take c.hand_on.result c.hand_on.new.buf)
    (ap (λ f. f.ready) c.hand_on.ensures.rest) c.hand_on.ensures.bytes (subst (λ s. Sifts s came given) (sym c.self-2.view_is) sifted)

pub returns-clause-through : goal.returns-clause-through
returns-clause-through c =
    let s : FilterStageView =
    record { held = c.self.inside.filter; unread = take c.self.inside.unread c.self.inside.piece; frames = c.self.inside.frames } in
    let m : FilterStageView = record {
      held = c.self-2.inside.filter;
      unread = take c.self-2.inside.unread c.self-2.inside.piece;
      frames = c.self-2.inside.frames;
    } in
    let p = c.pass.new.self in
    subst (λ v. FilterStagePassesOn c.args.now v (record m { frames = c.hand_on.new.self }) c.hand_on.result) c.self.view_is
    (gone-on c.args.now c.hand_on.result s m p c.hand_on.new.self c.pass.ensures.passed
    (subst (λ v. (v ≡ record s { frames = p }) ⊎ IsSifted (record s { frames = p }) v c.args.now) (sym c.self-2.view_is)
    c.sift_on.ensures.sifts) c.hand_on.ensures.free c.hand_on.ensures.rest)
