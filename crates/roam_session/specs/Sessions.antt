-- The session that a log makes: a layout and its panes (this project's profile).
use Rattle.std.specs.Prelude.{ℕ, ◌==◌, List, Option, Some, None, if◌then◌else◌}
use Rattle.std.specs.Option.{option_map}
use Rattle.std.specs.List.{fold}
use Rattle.roam_acts.specs.declared.acts.Act.{Act}
use Rattle.roam_acts.specs.declared.acts.Act.TheVariants.{Key}
use Rattle.roam_keys.specs.declared.keys.Key.{Key as KeyOfKeyboard}
use Rattle.roam_layout.specs.Rects.{rect_in}
use Rattle.roam_layout.specs.Layouts.{Plan, Outcome, Laid, Refused, start, outcome_of, panes}
use Rattle.roam_session.specs.Panes.{Pane, pane_after_act, after_feed, after_key, after_drain}

-- an event of a session: bytes of a pane's program are fed to the pane, an act of a client is done, or so many queued bytes of a pane go to
-- its program
pub data Entry : Type 0 where
  Given : (pane : ℕ) → (bytes : List ℕ) → Entry
  Did : (client : ℕ) → (act : Act) → Entry
  Drained : (pane : ℕ) → (count : ℕ) → Entry

-- the size that a session begins with
pub record SessionSize : Type 0 where
  pub rows : ℕ
  pub cols : ℕ

-- a session: its layout, and the pane at each number
pub record SessionState : Type 0 where
  pub plan : Plan
  pub pane : ℕ → Option Pane

-- ---- one entry

-- the effect of a change of one pane on a session
abbrev pub at_pane : ℕ → (Pane → Pane) → SessionState → SessionState
at_pane p change s = record { plan = s.plan; pane = (λ k. if k == p then option_map change (s.pane k) else s.pane k) }

-- the panes of a layout that becomes another
abbrev pub panes_given : Plan → Plan → (ℕ → Option Pane) → ℕ → Option Pane
panes_given old new pane k = pane_after_act (rect_in k (panes old)) (rect_in k (panes new)) (pane k)

-- the effect of a layout command; a refused one has none
abbrev pub laid_out : Outcome → SessionState → SessionState
laid_out (Laid plan) s = record { plan = plan; pane = panes_given s.plan plan s.pane }
laid_out (Refused fault) s = s

-- the key of an act by a key
abbrev pub key_in : Act → Option KeyOfKeyboard
key_in (Key key) = Some key
key_in act = None

-- an act with the key that it may have: a key goes to the pane in focus, any other act is a layout command
abbrev pub after_act : Option KeyOfKeyboard → Act → SessionState → SessionState
after_act (Some key) act s = at_pane s.plan.focus (after_key key) s
after_act None act s = laid_out (outcome_of s.plan act) s

abbrev pub after_entry : SessionState → Entry → SessionState
after_entry s (Given p bytes) = at_pane p (after_feed bytes) s
after_entry s (Did client act) = after_act (key_in act) act s
after_entry s (Drained p n) = at_pane p (after_drain n) s

-- ---- a log

-- a session begins with one pane that fills the area
abbrev pub first_state : SessionSize → SessionState
first_state size =
    record {
      plan = start size.rows size.cols;
      pane = (λ k. pane_after_act None (rect_in k (panes (start size.rows size.cols))) None);
    }

-- the session that a log makes, entry after entry
unfoldable pub session : SessionSize → List Entry → SessionState
session size log = fold after_entry (first_state size) log
