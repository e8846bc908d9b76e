use Rattle.std.proofs.Common.{◌≡◌, ◌+◌, ◌-◌, ◌++◌, ℕ, Option, sym, ap, ◌∙◌, arith, rules}
use Rattle.roam_pane_protocol.specs.declared.pane_list.ListedPane.{ListedPane}
use Rattle.roam_pane_protocol.specs.Known.{pane_at}
use Rattle.roam_pane_protocol.specs.Lines.{lines_text, lines_for, lines_to}
use Rattle.roam_pane_protocol.proofs.Subscribing.{text_more}
use Rattle.roam_pane_protocol.proofs.lines.lines_between.Goals as goal

pub loop-pane-init : goal.loop-pane-init
unfolding lines_to
loop-pane-init c = search rules

pub loop-pane-preserved : goal.loop-pane-preserved
loop-pane-preserved c =
    let p = c.loop-pane.pane in
    let told : ℕ → Option ListedPane = pane_at c.args.told.now in
    let now : ℕ → Option ListedPane = pane_at c.args.now.now in
    let next : p ≡ p + 1 - 1 = omega arith in
    c.in_ok-push_pane.ensures.lines
    ∙ ap (λ text. text ++ lines_text (lines_for p c.get.result c.get-in-loop-pane.result)) c.loop-pane.invariant
    ∙ ap (λ o. lines_text (lines_to (p - 1) told now) ++ lines_text (lines_for p o c.get-in-loop-pane.result)) c.get.ensures.pane
    ∙ ap (λ o. lines_text (lines_to (p - 1) told now) ++ lines_text (lines_for p (told p) o)) c.get-in-loop-pane.ensures.pane
    ∙ sym (text_more p told now (omega arith)) ∙ ap (λ n. lines_text (lines_to n told now)) next
