use Rattle.std.proofs.Common.{ℕ, ◌≡◌, Option, ◌∙◌, ap, arith, replicate, None}
use Rattle.roam_scrollback_stream.specs.Panes.{PaneView}
use Rattle.roam_scrollback_stream.proofs.Reading.{one-more}
use Rattle.roam_scrollback_stream.proofs.rows.no_panes.Goals as goal

pub loop-init : goal.loop-init
loop-init c = c.new-panes.ensures.items

pub loop-preserved : goal.loop-preserved
loop-preserved c = one-more c.loop.counter c.loop.panes.items c.push.new.self.items c.loop.invariant c.in_ok-push.ensures.items

pub returns : goal.returns
returns c =
    let all : c.loop.counter ≡ 1024 = omega (arith, c.loop-test.false, c.loop.auto.counter-end) in
    record { none = c.loop.invariant ∙ ap (λ (k : ℕ). replicate {A = Option PaneView} k None) all }
