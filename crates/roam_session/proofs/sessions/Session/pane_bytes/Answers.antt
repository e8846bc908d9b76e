use Rattle.std.proofs.Common.{◌≡◌, ℕ, Bool, List, Option, sym, ap, ◌∙◌, subst}
use Rattle.roam_term.specs.Stands.{TermView}
use Rattle.std.proofs.lemmas.Result.{IfOk-weaker}
use Rattle.roam_session.specs.Marks.{marks_after}
use Rattle.roam_session.specs.Sessions.{Given, session}
use Rattle.roam_session.specs.Refusals.{bytes_refused}
use Rattle.roam_session.specs.Stands.{SessionView, IsSession, Agrees, Appends, MarksRows, term_at, waiting_at}
use Rattle.roam_session.specs.Queues.{ChangesAt, IsFed}
use Rattle.roam_session.proofs.Entering.{stands_fed, waiting_is}
use Rattle.roam_session.proofs.Standing.{by_answer, on_taken, fed_session}
use Rattle.roam_session.proofs.MarkingRows.{marks_fed}
use Rattle.roam_session.proofs.sessions.Session.pane_bytes.Goals as goal

pub returns-clause-given : goal.returns-clause-given
returns-clause-given c =
    let old = c.args.self.now in
    let pane = c.args.pane in
    let bytes = c.args.piece.now in
    let f = c.self.inside in
    let new : SessionView =
    record { plan = f.layout; terms = c.feed.new.terms.items; marks = c.feed.new.marks; kept = f.kept; generations = f.generations } in
    IfOk-weaker c.feed.result (λ _. ChangesAt pane (IsFed bytes c.self.inside.layout pane c.self.inside.marks c.feed.new.marks) c.self.inside.terms.items new.terms)
    (λ _. Appends old new (Given pane bytes))
    (λ _ changes. stands_fed old new pane bytes c.self.inside.layout c.self.inside.marks c.feed.new.marks (ap (λ (s : SessionView). s.plan) c.self.view_is)
    (ap (λ (s : SessionView). s.generations) c.self.view_is)
    (subst (λ (s : SessionView). ChangesAt pane (IsFed bytes c.self.inside.layout pane c.self.inside.marks c.feed.new.marks) s.terms new.terms) c.self.view_is changes)) c.feed.ensures.fed

pub returns-clause-fault : goal.returns-clause-fault
returns-clause-fault c size log h =
    let pane = c.args.pane in
    c.feed.ensures.fault
    ∙ ap (bytes_refused c.args.piece.now)
    (ap (λ (s : SessionView). waiting_at s.terms pane) c.self.view_is ∙ waiting_is c.args.self.now pane size log h)

pub invariant_of-self : goal.invariant_of-self
invariant_of-self c =
    let f = c.self.inside in
    let bytes = c.args.piece.now in
    let p = c.args.pane in
    let us = c.feed.new.terms.items in
    let ms = c.feed.new.marks in
    let with_all : List (Option TermView) → List Bool → SessionView =
    λ ts marks. record { plan = f.layout; terms = ts; marks = marks; kept = f.kept; generations = f.generations } in
    by_answer c.feed.result (bytes_refused bytes (waiting_at f.terms.items p)) (ChangesAt p (IsFed bytes f.layout p f.marks ms) f.terms.items us)
    (us ≡ f.terms.items) (ms ≡ f.marks) (IsSession (with_all us ms)) c.feed.ensures.fault
    (λ free changes. fed_session p bytes f.layout f.marks ms f.terms.items us f.kept f.generations c.facts.ensures.plan free changes
    c.self.invariant)
    (λ same marks.
    subst (λ m. IsSession (with_all us m)) (sym marks) (subst (λ ts. IsSession (with_all ts f.marks)) (sym same) c.self.invariant))
    c.feed.ensures.fed c.feed.ensures.err c.feed.ensures.same

pub returns-clause-marks : goal.returns-clause-marks
returns-clause-marks c =
    let f = c.self.inside in
    let old = c.args.self.now in
    let pane = c.args.pane in
    let bytes = c.args.piece.now in
    let new : SessionView =
    record { plan = f.layout; terms = c.feed.new.terms.items; marks = c.feed.new.marks; kept = f.kept; generations = f.generations } in
    on_taken c.feed.result (bytes_refused bytes (waiting_at f.terms.items pane))
    (ChangesAt pane (IsFed bytes f.layout pane f.marks new.marks) f.terms.items new.terms) (MarksRows old new (Given pane bytes))
    c.feed.ensures.fault
    (λ free changes. record {
      kept = ap (λ (s : SessionView). s.kept) c.self.view_is;
      marks = λ size log h.
          subst (λ (s : SessionView). new.marks ≡ marks_after (session size log) (Given pane bytes) s.marks) c.self.view_is
          (marks_fed f.layout f.terms.items new.terms f.marks new.marks pane bytes size log c.self.invariant.quiet free changes
          (subst (λ (s : SessionView). s.plan ≡ (session size log).plan) (sym c.self.view_is) h.plan)
          (subst (λ (s : SessionView). (k : ℕ) → Agrees (term_at s.terms k) ((session size log).pane k)) (sym c.self.view_is) h.panes));
    }) c.feed.ensures.fed
