-- The socket at which programs follow the panes.
use Rattle.std.specs.Prelude.{true, false, Bool, is_some, ◌≡◌, ◌⊎◌, ◌++◌, ℕ, [], List, take, drop, Option, IfSome, codes, ◌||◌, ◌∷◌}
use Rattle.std.specs.List.{All, AllZip, filter, flat_map}
use Rattle.roam_pane_protocol.specs.Known.{nothing}
use Rattle.roam_pane_protocol.specs.Lines.{lines_text, lines_between}
use Rattle.roam_pane_protocol.specs.declared.pane_list.PaneList.{PaneList}
use Rattle.roam_terminal_input.specs.Lines.{nothing_came}
use Rattle.roam_pane_protocol.specs.declared.metadata_list.MetadataList.{MetadataList}
use Rattle.roam_pane_subscribers.specs.MetadataEvents.{IsFreshMetadataEvent, Renews}
use Rattle.roam_pane_subscribers.specs.Queries.{AreFreshQueries}
use Rattle.roam_pane_subscribers.specs.Clips.{AreFreshClips}
use Rattle.roam_pane_subscribers.specs.Programs.{Wrote}
use Rattle.roam_pane_sockets.specs.declared.panes.Pane.{Pane}
use Rattle.roam_pane_subscribers.specs.declared.subscribing.Subscriber.{Subscriber}
use Rattle.roam_pane_subscribers.specs.declared.seats.Role.TheVariants.{Other}

-- its file in a folder
abbrev pub panes_path : List ℕ → List ℕ
panes_path folder = folder ++ codes "/panes"

-- how many bytes may wait for the program
abbrev pub room : ℕ
room = 65536

-- how many programs may follow the panes at once
abbrev pub most_subscribers : ℕ
most_subscribers = 64

-- how many there may be until the next turn: one more than these may say that it is the pty host
abbrev pub most_taken : ℕ
most_taken = 65

-- nothing was sent yet, and no bytes are queued
pub record IsFresh {S : Type 0} (f : Subscriber S) : Type 0 where
  pub told : f.told ≡ nothing
  pub waiting : f.waiting.items ≡ []
  pub lines : f.lines ≡ nothing_came
  pub role : f.role ≡ Other
  pub metadata_event : IsFreshMetadataEvent f.metadata_event
  pub clips : AreFreshClips f.clips
  pub queries : AreFreshQueries f.queries

-- the reply to a line that changes nothing; a close of a pane that is gone gets none
abbrev pub IsReply : List ℕ → Type 0
IsReply text = (text ≡ []) ⊎ ((text ≡ codes "bad line\n") ⊎ ((text ≡ codes "last pane\n") ⊎ (text ≡ codes "out of memory\n")))

abbrev pub joined : List (List ℕ) → List ℕ
joined texts = flat_map (λ (text : List ℕ). text) texts

-- replies are queued behind the queued bytes, or none is; queued metadata stays
pub record Replies {S : Type 0} (old new : Subscriber S) : Type 0 where
  pub told : new.told ≡ old.told
  pub beside : new.metadata_event.text ≡ old.metadata_event.text
  pub replies : List (List ℕ)
  pub each : All IsReply replies
  pub waiting : new.waiting.items ≡ old.waiting.items ++ joined replies

-- the text of the news
abbrev pub news : PaneList → PaneList → List ℕ
news told now = lines_text (lines_between told now)

-- A connected subscriber got the news: the first of the queued bytes and the news were written, and the rest stays queued. Nothing is
-- written while metadata is unfinished, so no line begins inside a record.
pub record Tells {S : Type 0} (contents : S → Option (List ℕ)) (now : PaneList) (old new : Subscriber S) : Type 0 where
  pub told : new.told ≡ now
  pub count : ℕ
  pub whole : (count ≡ 0) ⊎ (old.metadata_event.text.items ≡ [])
  pub waiting : new.waiting.items ≡ drop count (old.waiting.items ++ news old.told now)
  pub wrote : Wrote contents old.program.stream new.program.stream (take count (old.waiting.items ++ news old.told now))

-- it was, after replies to its lines
pub record WasTold {S : Type 0} (contents : S → Option (List ℕ)) (now : PaneList) (old new : Subscriber S) : Type 0 where
  pub mid : Subscriber S
  pub replies : Replies old mid
  pub tells : Tells contents now mid new

-- it asked for metadata, and no bytes are queued for it
pub record MayHear {S : Type 0} (f : Subscriber S) : Type 0 where
  pub asked : f.metadata_event.is_asked ≡ true
  pub clear : f.metadata_event.text.items ≡ []
  pub none : f.waiting.items ≡ []

-- new metadata is queued for it exactly if it may be, and nothing else changes
pub data RenewsMetadata {S : Type 0} (now : MetadataList) (panes : List Pane) (old new : Subscriber S) : Type 0 where
  waits : (MayHear old → ⊥) → new ≡ old → RenewsMetadata now panes old new
  renews : MayHear old → Renews now panes old.metadata_event new.metadata_event → new ≡ record old { metadata_event = new.metadata_event } → RenewsMetadata now panes old new

-- the other queued bytes are written once the metadata is whole, so no line begins inside a record; nothing else changes
pub record GoesOn {S : Type 0} (contents : S → Option (List ℕ)) (old new : Subscriber S) : Type 0 where
  pub count : ℕ
  pub whole : (count ≡ 0) ⊎ (old.metadata_event.text.items ≡ [])
  pub waiting : new.waiting.items ≡ drop count old.waiting.items
  pub wrote : Wrote contents old.program.stream new.program.stream (take count old.waiting.items)
  pub others : new ≡ record old { program = new.program; waiting = new.waiting }

-- The first queued bytes of the metadata were written, and the rest stays queued. Once all are, the other queued bytes follow. Nothing else
-- changes.
pub record HandsMetadataEvent {S : Type 0} (contents : S → Option (List ℕ)) (old new : Subscriber S) : Type 0 where
  pub count : ℕ
  pub then : Subscriber S
  pub waits : then.metadata_event.text.items ≡ drop count old.metadata_event.text.items
  pub wrote : Wrote contents old.program.stream then.program.stream (take count old.metadata_event.text.items)
  pub metadata_event : then.metadata_event ≡ record old.metadata_event { text = then.metadata_event.text }
  pub others : then ≡ record old { program = then.program; metadata_event = then.metadata_event }
  pub goes : GoesOn contents then new

-- the subscriber got new metadata if it could, and queued bytes were written
pub record TellsMetadata {S : Type 0} (contents : S → Option (List ℕ)) (now : MetadataList) (panes : List Pane)
    (old new : Subscriber S) : Type 0 where
  pub mid : Subscriber S
  pub renews : RenewsMetadata now panes old mid
  pub hands : HandsMetadataEvent contents mid new

-- one that is still there was
abbrev pub IsTold : {S : Type 0} → (S → Option (List ℕ)) → PaneList → Subscriber S → Subscriber S → Type 0
IsTold contents now old new = IfSome new.program.stream (λ _. WasTold contents now old new)

-- new subscribers are added behind the others
pub record HaveCome {S : Type 0} (olds all : List (Subscriber S)) : Type 0 where
  pub came : List (Subscriber S)
  pub fresh : All IsFresh came
  pub behind : all ≡ olds ++ came

-- it is there
abbrev pub is_there : {S : Type 0} → Subscriber S → Bool
is_there f = is_some f.program.stream

-- one of these subscribers asked for metadata
abbrev pub any_asked : {S : Type 0} → List (Subscriber S) → Bool
any_asked [] = false
any_asked (f ∷ fs) = f.metadata_event.is_asked || any_asked fs

-- the first element is moved to the end
abbrev pub turned : {X : Type 0} → List X → List X
turned xs = drop 1 xs ++ take 1 xs

-- Each subscriber got the news, in order. The connected ones stay, and the first of them then moves to the end.
pub record AreTold {S : Type 0} (contents : S → Option (List ℕ)) (now : PaneList) (all news : List (Subscriber S)) : Type 0 where
  pub told : List (Subscriber S)
  pub each : AllZip (IsTold contents now) all told
  pub stay : news ≡ turned (filter is_there told)

-- so were those that followed before and those that came
pub record AreAllTold {S : Type 0} (contents : S → Option (List ℕ)) (now : PaneList) (olds news : List (Subscriber S)) : Type 0 where
  pub all : List (Subscriber S)
  pub come : HaveCome olds all
  pub are_told : AreTold contents now all news
