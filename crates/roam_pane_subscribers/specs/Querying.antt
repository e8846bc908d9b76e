-- The questions of panes' programs that each subscriber gets.
use Rattle.std.specs.Prelude.{ℕ, ◌≡◌, true, false, List, [], Option, Some, None}
use Rattle.roam_pane_protocol.specs.declared.query_list.QueryList.{QueryList}
use Rattle.roam_pane_subscribers.specs.Queries.{query_news}
use Rattle.roam_pane_subscribers.specs.Clipping.{IsFree}
use Rattle.roam_pane_subscribers.specs.Subscribing.{HandsMetadataEvent}
use Rattle.roam_pane_subscribers.specs.declared.subscribing.Subscriber.{Subscriber}
use Rattle.roam_pane_sockets.specs.declared.panes.Pane.{Pane}

-- so many are known to it
abbrev pub notes_queries : {S : Type 0} → QueryList → Subscriber S → Subscriber S
notes_queries now f = record f { queries = record f.queries { told = Some now } }

-- New questions are queued for a subscriber, or none are: it asked just now, and gets no earlier question; other bytes are queued for it;
-- or memory was refused.
pub data GivesQueries {S : Type 0} (now : QueryList) (panes : List Pane) (old new : Subscriber S) : Type 0 where
  comes : old.queries.told ≡ None → new ≡ notes_queries now old → GivesQueries now panes old new
  waits : (told : QueryList) → old.queries.told ≡ Some told → (IsFree old → ⊥) → new ≡ old → GivesQueries now panes old new
  no_memory : (told : QueryList) → old.queries.told ≡ Some told → IsFree old → new ≡ old → GivesQueries now panes old new
  gives : (told : QueryList) → old.queries.told ≡ Some told → IsFree old → new.metadata_event.text.items ≡ query_news 9 told now panes
      → new ≡ record (notes_queries now old) { metadata_event = record old.metadata_event { text = new.metadata_event.text } } → GivesQueries now panes old new

-- A subscriber that asked for questions gets the new ones, and its first queued bytes are written. Any other is unchanged.
pub data TellsQueries {S : Type 0} (contents : S → Option (List ℕ)) (now : QueryList) (panes : List Pane) (old new : Subscriber S) : Type 0 where
  others : old.queries.is_asked ≡ false → new ≡ old → TellsQueries contents now panes old new
  quiet : old.queries.is_asked ≡ true → GivesQueries now panes old new → new.metadata_event.text.items ≡ [] → TellsQueries contents now panes old new
  tells : old.queries.is_asked ≡ true → (mid : Subscriber S) → GivesQueries now panes old mid → HandsMetadataEvent contents mid new
      → TellsQueries contents now panes old new
