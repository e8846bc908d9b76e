-- The bytes that go to the program of a pane: the bytes of keys, and the answers of the pane's terminal.
use Rattle.std.specs.Prelude.{◌≡◌, ℕ, ◌==◌, List, [], ◌∷◌, ◌++◌, take, Option, Some, None, if◌then◌else◌, true}
use Rattle.std.specs.Prelude.{is_some}
use Rattle.roam_keys.specs.declared.keys.Key.{Key}
use Rattle.roam_session.specs.Panes.{Pane, answers, key_bytes}
use Rattle.roam_session.specs.Sessions.{Entry, Given, Did, Drained, SessionSize, SessionState, session, key_in}
use Rattle.roam_session.specs.Refusals.{output_at}

-- the bytes that an entry adds behind the queued ones, if a pane is there
abbrev pub answers_in : Option Pane → List ℕ → List ℕ
answers_in None bytes = []
answers_in (Some pane) bytes = answers pane bytes

abbrev pub key_bytes_in : Option Pane → Option Key → List ℕ
key_bytes_in None key = []
key_bytes_in (Some pane) None = []
key_bytes_in (Some pane) (Some key) = key_bytes key pane

abbrev pub put_by : SessionState → Entry → ℕ → List ℕ
put_by s (Given q bytes) p = if q == p then answers_in (s.pane p) bytes else []
put_by s (Did client act) p = if s.plan.focus == p then key_bytes_in (s.pane p) (key_in act) else []
put_by s (Drained q n) p = []

-- the bytes that it takes off their front
abbrev pub taken_in : Option Pane → ℕ → List ℕ
taken_in None n = []
taken_in (Some pane) n = take n pane.waiting

abbrev pub taken_by : SessionState → Entry → ℕ → List ℕ
taken_by s (Given q bytes) p = []
taken_by s (Did client act) p = []
taken_by s (Drained q n) p = if q == p then taken_in (s.pane p) n else []

-- all that entries put there, after a log, in their order; and all that they took
abbrev pub all_put : SessionSize → List Entry → List Entry → ℕ → List ℕ
all_put size log [] p = []
all_put size log (e ∷ es) p = put_by (session size log) e p ++ all_put size (log ++ e ∷ []) es p

abbrev pub all_taken : SessionSize → List Entry → List Entry → ℕ → List ℕ
all_taken size log [] p = []
all_taken size log (e ∷ es) p = taken_by (session size log) e p ++ all_taken size (log ++ e ∷ []) es p

-- a pane is there after a log and after each of the entries that follow
abbrev pub StaysThere : SessionSize → List Entry → List Entry → ℕ → Type 0
StaysThere size log [] p = is_some ((session size log).pane p) ≡ true
StaysThere size log (e ∷ es) p = (is_some ((session size log).pane p) ≡ true) × StaysThere size (log ++ e ∷ []) es p

-- While a pane is there, the bytes that were taken, followed by the queued ones, are those queued at first, followed by all that were
-- added: each once and in order.
abbrev pub PassesEachByteOn : Type 0
PassesEachByteOn = (size : SessionSize) (log entries : List Entry) (p : ℕ) (first last : List ℕ) → StaysThere size log entries p
    → output_at size log p ≡ Some first → output_at size (log ++ entries) p ≡ Some last
    → all_taken size log entries p ++ last ≡ first ++ all_put size log entries p

-- at the beginning of a pane, nothing is queued
pub record BeginsWithNoOutput : Type 0 where
  pub at_first : (size : SessionSize) (p : ℕ) (output : List ℕ) → output_at size [] p ≡ Some output → output ≡ []
  pub later : (size : SessionSize) (log : List Entry) (e : Entry) (p : ℕ) (output : List ℕ) → output_at size log p ≡ None
      → output_at size (log ++ e ∷ []) p ≡ Some output → output ≡ []
