use Rattle.std.proofs.Common.{ap, ◌∙◌, sym, length, inl, inr, arith, ◌<◌}
use Rattle.std.specs.Prelude.{slice_set}
use Rattle.std.proofs.lemmas.List.{length-set}
use Rattle.roam_layout.specs.Trees.{shape_of, leaves}
use Rattle.roam_layout.specs.Kept.{plan_of}
use Rattle.roam_layout.specs.Layouts.{split, area, Laid}
use Rattle.roam_layout.specs.Rects.{is_roomy, spot}
use Rattle.roam_layout.proofs.Keeping.{plan_split, split_full, split_laid, split_small, split_done, counted}
use Rattle.std.proofs.lemmas.Result.{err_from_is_err_and}
use Rattle.roam_layout.proofs.layouts.Layout.split.Goals as goal

pub returns-in_err-fork : goal.returns-in_err-fork
returns-in_err-fork c =
    let gone = err_from_is_err_and c.from_residual.result c.from_residual.ensures.1 in
    record {
      answer = rw (gone.1) (inl (
        gone.2,
        split_laid c.args.way (plan_of c.self.inside) c.args.self.now c.rects.result.now c.area_of.result c.has_room.result c.self.view_is c.rects.ensures.rects
            (omega (arith, c.if-rects-ge9.false)) c.area_of.ensures.area c.has_room.ensures.room c.if-not-has_room.false,
      ));
    }

pub returns-in_err-tree : goal.returns-in_err-tree
returns-in_err-tree c =
    let gone = err_from_is_err_and c.from_residual-in_err-tree.result c.from_residual-in_err-tree.ensures.1 in
    record {
      answer = rw (gone.1) (inl (
        gone.2,
        split_laid c.args.way (plan_of c.self.inside) c.args.self.now c.rects.result.now c.area_of.result c.has_room.result c.self.view_is c.rects.ensures.rects
            (omega (arith, c.if-rects-ge9.false)) c.area_of.ensures.area c.has_room.ensures.room c.if-not-has_room.false,
      ));
    }

pub returns-in_err-of : goal.returns-in_err-of
returns-in_err-of c =
    let gone = err_from_is_err_and c.from_residual-in_err-of.result c.from_residual-in_err-of.ensures.1 in
    record {
      answer = rw (gone.1) (inl (
        gone.2,
        split_laid c.args.way (plan_of c.self.inside) c.args.self.now c.rects.result.now c.area_of.result c.has_room.result c.self.view_is c.rects.ensures.rects
            (omega (arith, c.if-rects-ge9.false)) c.area_of.ensures.area c.has_room.ensures.room c.if-not-has_room.false,
      ));
    }

pub returns-then-rects-ge9 : goal.returns-then-rects-ge9
returns-then-rects-ge9 c =
    let s = c.args.self.now in
    let e = counted s.tree (area s.rows s.cols) c.rects.result.now (length c.rects.result.now)
    (λ _. length c.rects.result.now) c.rects.ensures.rects in
    record { answer = inr (split_full c.args.way s (omega (arith, e, c.if-rects-ge9.true))) }

pub returns-then-not-has_room : goal.returns-then-not-has_room
returns-then-not-has_room c =
    let s = c.args.self.now in
    let a = c.self.inside in
    let e = counted s.tree (area s.rows s.cols) c.rects.result.now (length c.rects.result.now)
    (λ _. length c.rects.result.now) c.rects.ensures.rects in
    let same = ap (λ s. length (leaves s.tree)) c.self.view_is in
    record {
      answer = inr
          (ap (split c.args.way) (sym c.self.view_is)
          ∙ split_small c.args.way (plan_of a) (omega (arith, e, same, c.if-rects-ge9.false))
          (ap (λ r. is_roomy c.args.way (spot a.focus (shape_of a.tree) r)) (sym c.area_of.ensures.area) ∙ sym c.has_room.ensures.room
          ∙ c.if-not-has_room.true));
    }

pub of-requires : goal.of-requires
of-requires c =
    let s = c.args.self.now in
    let e = counted s.tree (area s.rows s.cols) c.rects.result.now (length c.rects.result.now)
    (λ _. length c.rects.result.now) c.rects.ensures.rects in
    let same = ap (λ s. length (leaves s.tree)) c.self.view_is in
    let few : length (leaves (plan_of c.self.inside).tree) < 9 = omega (arith, e, same, c.if-rects-ge9.false) in
    record {
      plan = plan_split (plan_of c.self.inside) c.args.way _ _ _ _ _ c.in_ok-fork.ensures.shape c.in_ok-tree.ensures.shape c.plant.ensures.shape c.free-pane.ensures.range.0 c.free-pane.ensures.range.1 c.free-pane.ensures.number few
          (length-set c.self.inside.views c.from.result _ ∙ c.self.invariant.plan.views)
          (ap (λ r. is_roomy c.args.way (spot c.self.inside.focus (shape_of c.self.inside.tree) r)) (sym c.area_of.ensures.area)
          ∙ sym c.has_room.ensures.room ∙ c.if-not-has_room.false) c.self.invariant.plan;
    }

pub returns : goal.returns
returns c =
    let s = c.args.self.now in
    let a = c.self.inside in
    let e = counted s.tree (area s.rows s.cols) c.rects.result.now (length c.rects.result.now)
    (λ _. length c.rects.result.now) c.rects.ensures.rects in
    let same = ap (λ s. length (leaves s.tree)) c.self.view_is in
    record {
      answer = ap (split c.args.way) (sym c.self.view_is)
          ∙ split_done c.args.way (plan_of a) _ _ _ _ _ (omega (arith, e, same, c.if-rects-ge9.false))
          (ap (λ r. is_roomy c.args.way (spot a.focus (shape_of a.tree) r)) (sym c.area_of.ensures.area) ∙ sym c.has_room.ensures.room
          ∙ c.if-not-has_room.false)
          c.in_ok-fork.ensures.shape c.in_ok-tree.ensures.shape c.plant.ensures.shape c.free-pane.ensures.number
          (λ i. slice_set a.views (c.from.ensures i) 0)
          ∙ ap Laid (sym c.in_ok-of.ensures.layout);
    }
