use Rattle.std.proofs.Common.{◌≡◌, ℕ, None, length}
use Rattle.roam_session.specs.Stands.{term_at}
use Rattle.roam_session.proofs.sessions.no_terms.Given as goal

abbrev pub invariant-loop : goal.invariant-loop
invariant-loop l = record { count : length l.terms.items ≡ l.counter; none : (k : ℕ) → term_at l.terms.items k ≡ None }
