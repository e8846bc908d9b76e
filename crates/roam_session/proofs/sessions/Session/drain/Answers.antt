use Rattle.std.proofs.Common.{◌≡◌, List, Option, sym, ap, ◌∙◌, subst}
use Rattle.roam_term.specs.Stands.{TermView}
use Rattle.std.proofs.lemmas.Result.{IfOk-weaker}
use Rattle.roam_session.specs.Sessions.{Drained}
use Rattle.roam_session.specs.Refusals.{none_refused}
use Rattle.roam_session.specs.Stands.{SessionView, IsSession, Appends, MarksRows, waiting_at}
use Rattle.roam_session.specs.Queues.{ChangesAt, IsDrained}
use Rattle.roam_session.proofs.Entering.{stands_drained, waiting_is}
use Rattle.roam_session.proofs.Standing.{either_way, kept_session}
use Rattle.roam_session.proofs.sessions.Session.drain.Goals as goal

pub returns-clause-drained : goal.returns-clause-drained
returns-clause-drained c =
    let old = c.args.self.now in
    let pane = c.args.pane in
    let n = c.args.n in
    let f = c.self.inside in
    let new : SessionView = record { plan = f.layout; terms = c.drain.new.terms.items; marks = f.marks; kept = f.kept; generations = f.generations } in
    IfOk-weaker c.drain.result (λ _. ChangesAt pane (IsDrained n) c.self.inside.terms.items new.terms)
    (λ _. Appends old new (Drained pane n))
    (λ _ changes. stands_drained old new pane n (ap (λ (s : SessionView). s.plan) c.self.view_is)
    (ap (λ (s : SessionView). s.generations) c.self.view_is)
    (subst (λ (s : SessionView). ChangesAt pane (IsDrained n) s.terms new.terms) c.self.view_is changes)) c.drain.ensures.drained

pub returns-clause-fault : goal.returns-clause-fault
returns-clause-fault c size log h =
    let pane = c.args.pane in
    c.drain.ensures.fault
    ∙ ap none_refused (ap (λ (s : SessionView). waiting_at s.terms pane) c.self.view_is ∙ waiting_is c.args.self.now pane size log h)

pub returns-clause-marks : goal.returns-clause-marks
returns-clause-marks c =
    let old = c.args.self.now in
    let pane = c.args.pane in
    let n = c.args.n in
    let f = c.self.inside in
    let new : SessionView = record { plan = f.layout; terms = c.drain.new.terms.items; marks = f.marks; kept = f.kept; generations = f.generations } in
    IfOk-weaker c.drain.result (λ _. ChangesAt pane (IsDrained n) c.self.inside.terms.items new.terms)
    (λ _. MarksRows old new (Drained pane n))
    (λ _ changes. record {
      kept = ap (λ (s : SessionView). s.kept) c.self.view_is;
      marks = λ size log h. ap (λ (s : SessionView). s.marks) c.self.view_is;
    }) c.drain.ensures.drained

pub invariant_of-self : goal.invariant_of-self
invariant_of-self c =
    let f = c.self.inside in
    let n = c.args.n in
    let p = c.args.pane in
    let us = c.drain.new.terms.items in
    let with_terms : List (Option TermView) → SessionView =
    λ ts. record { plan = f.layout; terms = ts; marks = f.marks; kept = f.kept; generations = f.generations } in
    either_way c.drain.result (ChangesAt p (IsDrained n) f.terms.items us) (us ≡ f.terms.items) (IsSession (with_terms us))
    (λ changes. kept_session p (IsDrained n) (λ old new h. h.keeps) f.layout f.terms.items us changes f.marks f.kept f.generations
    c.self.invariant)
    (λ same. subst (λ ts. IsSession (with_terms ts)) (sym same) c.self.invariant) c.drain.ensures.drained c.drain.ensures.err
