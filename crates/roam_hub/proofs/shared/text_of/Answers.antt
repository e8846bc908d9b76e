use Rattle.std.proofs.Common.{sym, subst}
use Rattle.std.specs.Prelude.{slice_set}
use Rattle.std.specs.List.{All}
use Rattle.std.proofs.lemmas.List.Elements.{All-set}
use Rattle.std.proofs.lemmas.Result.{IfOk-weaker}
use Rattle.roam_hub.specs.Ends.{version_of, sending_of}
use Rattle.roam_hub.specs.declared.shared.SharedChange.{SharedChange}
use Rattle.roam_hub.specs.Shared.{IsBetween, LeadsOver}
use Rattle.roam_hub.proofs.Lending.{text_short, acked_between}
use Rattle.roam_hub.proofs.shared.text_of.Goals as goal

pub returns-clause-short : goal.returns-clause-short
returns-clause-short c =
    let leads = subst (LeadsOver (version_of c.args.sender.now) (sending_of c.args.sender.now)) (sym c.index_mut.ensures.value)
    (c.in_ok-at.ensures.at.1 c.index_mut.result.now) in
    IfOk-weaker c.text_with.result _ _ (λ text e. text_short (version_of c.args.sender.now) (sending_of c.args.sender.now)
    c.index_mut.result.now c.args.acked leads text.items e) c.text_with.ensures.written

pub returns-clause-stay : goal.returns-clause-stay
returns-clause-stay c =
    IfOk-weaker c.text_with.result _ _ (λ text e screens most m b.
    let all = c.in_ok-at.ensures.stay screens most m b in
    subst (λ (x : SharedChange). All (IsBetween screens) (slice_set c.made_at.new.changes.items c.in_ok-at.at x))
    (sym c.text_with.ensures.same)
    (All-set (IsBetween screens) c.made_at.new.changes.items c.in_ok-at.at _
    (acked_between screens c.index_mut.result.now c.args.acked (subst (IsBetween screens) (sym c.index_mut.ensures.value)
    (all c.in_ok-at.at c.index_mut.result.now c.in_ok-at.ensures.at.0))) all)) c.text_with.ensures.written
