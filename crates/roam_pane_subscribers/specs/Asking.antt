-- The result of a line from a subscriber.
use Rattle.std.specs.Prelude.{◌≡◌, ◌⊎◌, ◌++◌, ◌||◌, ℕ, true, false, List, [], ◌∷◌, None, IfSome, IsSome, codes}
use Rattle.std.specs.List.{filter}
use Rattle.roam_pane_protocol.specs.Closes.{IsAlone, IsClose, IsPane, close_text, focus_after, is_making}
use Rattle.roam_pane_protocol.specs.declared.closes.Close.{Close}
use Rattle.roam_pane_protocol.specs.declared.pane_list.PaneList.{PaneList}
use Rattle.roam_terminal_input.specs.Lines.{IsFirst}
use Rattle.roam_pane_subscribers.specs.MetadataEvents.{is_metadata_line}
use Rattle.roam_pane_subscribers.specs.Queries.{is_queries_line}
use Rattle.roam_pane_subscribers.specs.Clips.{is_clips_line}
use Rattle.roam_pane_subscribers.specs.Closing.{Closes, IsThere}
use Rattle.roam_pane_subscribers.specs.Subscribing.{is_there, turned}
use Rattle.roam_pane_subscribers.specs.Seats.{any_new, is_host_line, kept_place, role_after, seated}
use Rattle.roam_pane_subscribers.specs.declared.closing.Closer.{Closer}
use Rattle.roam_pane_subscribers.specs.declared.subscribing.Subscriber.{Subscriber}

-- a line asks for a close
pub record AsksFor (line : List ℕ) (close : Close) : Type 0 where
  pub is : IsClose close
  pub text : line ≡ close_text close

-- A line is done at a moment, with these panes, and gets this reply. It may declare the pty host, or ask for metadata, clips or questions.
-- It may ask for no close, or for one of a pane that is gone or is the only one. Otherwise the close begins, and the focus goes to the pane
-- that it names. If memory runs out, nothing begins.
pub data DoesLine (now : PaneList) (line : List ℕ) (moment : ℕ) (old new : Closer) (said : List ℕ) : Type 0 where
  host : is_host_line line ≡ true → new ≡ old → said ≡ [] → DoesLine now line moment old new said
  metadata : is_metadata_line line ≡ true → new ≡ old → said ≡ [] → DoesLine now line moment old new said
  clips : is_clips_line line ≡ true → new ≡ old → said ≡ [] → DoesLine now line moment old new said
  queries : is_queries_line line ≡ true → new ≡ old → said ≡ [] → DoesLine now line moment old new said
  bad : is_host_line line ≡ false → is_metadata_line line ≡ false → is_clips_line line ≡ false → is_queries_line line ≡ false
      → ((close : Close) → AsksFor line close → ⊥) → new ≡ old → said ≡ codes "bad line\n" → DoesLine now line moment old new said
  gone : (close : Close) → AsksFor line close → is_making now close.pane close.generation ≡ false → new ≡ old → said ≡ []
      → DoesLine now line moment old new said
  last : (close : Close) → AsksFor line close → is_making now close.pane close.generation ≡ true → IsAlone now close.pane → new ≡ old
      → said ≡ codes "last pane\n" → DoesLine now line moment old new said
  closes : (close : Close) → AsksFor line close → is_making now close.pane close.generation ≡ true → (IsAlone now close.pane → ⊥)
      → Closes old new close.pane close.generation (focus_after now close) moment → said ≡ [] → DoesLine now line moment old new said
  refused : (close : Close) → AsksFor line close → is_making now close.pane close.generation ≡ true → (IsAlone now close.pane → ⊥)
      → new.closing ≡ old.closing → new.datagram ≡ old.datagram → said ≡ codes "out of memory\n" → DoesLine now line moment old new said

-- the first line was done and removed, and its reply is queued; or the subscriber was disconnected
pub record TakesLine {S : Type 0} (now : PaneList) (moment : ℕ) (closer closer' : Closer) (old new : Subscriber S) : Type 0 where
  pub line : List ℕ
  pub first : IsFirst old.lines.kept line new.lines.kept
  pub said : List ℕ
  pub does : DoesLine now line moment closer closer' said
  pub role : new.role ≡ role_after line old.role
  pub metadata_event : new.metadata_event ≡ record old.metadata_event { is_asked = old.metadata_event.is_asked || is_metadata_line line }
  pub clips : new.clips ≡ record old.clips { is_asked = old.clips.is_asked || is_clips_line line }
  pub queries : new.queries ≡ record old.queries { is_asked = old.queries.is_asked || is_queries_line line }
  pub waits : (new.program.stream ≡ None) ⊎ (new.waiting.items ≡ old.waiting.items ++ said)

-- A close in progress was asked for: its pane is there in that generation, and the focus goes to the pane that it names.
abbrev pub IsClosing : PaneList → ℕ → Closer → ℕ × ℕ → Type 0
IsClosing now moment new making =
    (close : Close) × (before : Closer) × IsClose close × (making ≡ (close.pane, close.generation))
    × (is_making now close.pane close.generation ≡ true) × Closes before new close.pane close.generation (focus_after now close) moment

-- While a close is under way none other is begun; and one that is under way then was asked for.
pub record IsAsked (now : PaneList) (moment : ℕ) (old new : Closer) : Type 0 where
  pub busy : IsSome old.closing → new ≡ old
  pub asked : old.closing ≡ None → IfSome new.closing (λ making. IsClosing now moment new making)

-- A turn was taken: no close is in progress after its datagram was given. If the pane is still there, the instance is dropped.
pub record Settles (panes : PaneList) (old new : Closer) : Type 0 where
  pub waits : IsSome old.datagram → new ≡ old
  pub settled : old.datagram ≡ None → new.closing ≡ None
  pub let_go : old.datagram ≡ None → IfSome old.closing (λ making. IsPane making.0 → IsThere panes making.0 making.1 → new.client ≡ None)
  pub others : new ≡ record old { client = new.client; closing = new.closing }
  pub kept : (new.client ≡ old.client) ⊎ (new.client ≡ None)

-- ---- the lines that remain

-- no whole line of it waits to be done
abbrev pub HasNoLine : {S : Type 0} → Subscriber S → Type 0
HasNoLine f = (line rest : List ℕ) → IsFirst f.lines.kept line rest → ⊥

abbrev pub HaveNoLine : {S : Type 0} → List (Subscriber S) → Type 0
HaveNoLine [] = Unit {0}
HaveNoLine (f ∷ fs) = HasNoLine f × HaveNoLine fs

-- If no close is in progress, no subscriber had a whole line left after the news. Then the pty host takes its place, those that left are
-- removed, and the first moves to the end.
pub record HaveAsked {S : Type 0} (closer : Closer) (all : List (Subscriber S)) : Type 0 where
  pub told : List (Subscriber S)
  pub done : closer.closing ≡ None → HaveNoLine told
  pub seats : all ≡ turned (filter is_there (kept_place (seated (any_new told) told)))
