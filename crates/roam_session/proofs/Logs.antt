-- Logs of sessions.
use Rattle.std.proofs.Common.{◌≡◌, List, [], ◌∷◌, ◌++◌}
use Rattle.std.proofs.lemmas.List.Sums.{fold-append}
use Rattle.roam_session.specs.Sessions.{SessionSize, Entry, session, after_entry, first_state}

-- one more entry is one more step
pub session-append : (size : SessionSize) (log : List Entry) (entry : Entry)
    → session size (log ++ entry ∷ []) ≡ after_entry (session size log) entry
unfolding session
session-append size log entry = fold-append after_entry (first_state size) log (entry ∷ [])
