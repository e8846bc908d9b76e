use Rattle.std.proofs.Common.{◌≡◌, List, Option, sym, subst}
use Rattle.roam_term.specs.Stands.{TermView}
use Rattle.roam_session.specs.Stands.{SessionView, IsSession}
use Rattle.roam_session.specs.Queues.{ChangesAt, IsKeyed}
use Rattle.roam_session.proofs.Standing.{either_way, kept_session}
use Rattle.roam_session.proofs.sessions.Session.type_key.Goals as goal

pub invariant_of-self : goal.invariant_of-self
invariant_of-self c =
    let f = c.self.inside in
    let key = c.args.key.now in
    let p = c.focus.result in
    let us = c.type_key.new.terms.items in
    let with_terms : List (Option TermView) → SessionView =
    λ ts. record { plan = f.layout; terms = ts; marks = f.marks; kept = f.kept; generations = f.generations } in
    either_way c.type_key.result (ChangesAt p (IsKeyed key) f.terms.items us) (us ≡ f.terms.items) (IsSession (with_terms us))
    (λ changes. kept_session p (IsKeyed key) (λ old new h. h.keeps) f.layout f.terms.items us changes f.marks f.kept f.generations
    c.self.invariant)
    (λ same. subst (λ ts. IsSession (with_terms ts)) (sym same) c.self.invariant) c.type_key.ensures.keyed c.type_key.ensures.err
