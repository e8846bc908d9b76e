use Rattle.std.proofs.Common.{Some, inr, refl, subst, sym}
use Rattle.roam_pane_subscribers.specs.Closing.{HearsAnswer}
use Rattle.roam_pane_subscribers.proofs.closing.Closer.hear.Goals as goal

pub returns-then-not-is_settled : goal.returns-then-not-is_settled
returns-then-not-is_settled c = record {
  hears = subst (λ o. HearsAnswer o c.args.self.now (record c.args.self.now { client = Some c.datagram.new.self }) c.args.bytes.now c.args.now)
      (sym c.in-Some.is) (inr (c.datagram.result, c.datagram.new.self, c.datagram.ensures.heard, refl));
}
