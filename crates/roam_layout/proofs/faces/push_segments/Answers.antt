use Rattle.std.proofs.Common.{ℕ, ◌<◌, length, ap, ◌∙◌, arith}
use Rattle.roam_screens.specs.Screenshot.{Screenshot, blank_screenshot}
use Rattle.roam_layout.proofs.Listed.{sizes_at, same_count}
use Rattle.roam_layout.proofs.Stepping.{pane_and_border, last_pane}
use Rattle.roam_layout.proofs.faces.push_segments.Goals.{then-k-borders+in_ok-push_border, else-k-borders}
use Rattle.roam_layout.proofs.faces.push_segments.Goals as goal

-- the value read past the end of a list
abbrev none : ℕ × Screenshot
none = (0, blank_screenshot 2 4)

pub push_pane-requires : goal.push_pane-requires
push_pane-requires g c =
    let ps = c.args.rects.now in
    let ss = g.P.Pictures.shots c.args.pictures.now in
    record {
      index = omega (arith, same_count ps ss c.requires.pictures, c.loop-k-test.true);
      size = sizes_at ps ss c.loop-k.k _ none c.requires.pictures c.loop-k-test.true;
    }

pub loop-k-preserved : goal.loop-k-preserved
loop-k-preserved g c =
    let ps = c.args.rects.now in
    let ss = g.P.Pictures.shots c.args.pictures.now in
    let k = c.loop-k.k in
    let there : k < length ss = omega (arith, same_count ps ss c.requires.pictures, c.loop-k-test.true) in
    elim c.if-k-borders.branch [
      | then-k-borders+in_ok-push_border w ↦
          pane_and_border c.args.row ps c.args.borders.now ss k _ none _ _ _ _ c.loop-k-test.true there _
          w.if-k-borders.true
          c.in_ok-push_pane.ensures.segment (ap (λ v. v.items) w.cells-is ∙ w.in_ok-push_border.ensures.segment) c.loop-k.invariant
      | else-k-borders w ↦
          last_pane c.args.row ps c.args.borders.now ss k _ none _ _ _ _ c.loop-k-test.true there w.if-k-borders.false
          c.in_ok-push_pane.ensures.segment (ap (λ v. v.items) w.cells-is) c.loop-k.invariant
    ]
