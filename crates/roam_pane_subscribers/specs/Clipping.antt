-- The clips that each subscriber gets.
use Rattle.std.specs.Prelude.{ℕ, ◌≡◌, ◌||◌, ◌&&◌, Bool, true, false, List, [], ◌∷◌, length, nat_lt, Option, Some, None}
use Rattle.roam_pane_protocol.specs.declared.clip_list.ClipList.{ClipList}
use Rattle.roam_pane_subscribers.specs.Clips.{clip_news}
use Rattle.roam_pane_subscribers.specs.Subscribing.{HandsMetadataEvent}
use Rattle.roam_pane_subscribers.specs.Seats.{is_other_role}
use Rattle.roam_pane_subscribers.specs.declared.subscribing.Subscriber.{Subscriber}
use Rattle.roam_pane_sockets.specs.declared.panes.Pane.{Pane}

-- it asked for them, and isn't the pty host
abbrev pub wants_clips : {S : Type 0} → Subscriber S → Bool
wants_clips f = f.clips.is_asked && is_other_role f.role

-- nothing waits for it
pub record IsFree {S : Type 0} (f : Subscriber S) : Type 0 where
  pub metadata_event : f.metadata_event.text.items ≡ []
  pub none : f.waiting.items ≡ []

-- so many are known to it
abbrev pub notes_clips : {S : Type 0} → ClipList → Subscriber S → Subscriber S
notes_clips now f = record f { clips = record f.clips { told = Some now } }

-- New clips are queued for a subscriber, or none are: it asked just now, and gets no earlier clip; it isn't time; other bytes are queued
-- for it; or memory was refused.
pub data GivesClips {S : Type 0} (may : Bool) (now : ClipList) (panes : List Pane) (gave : Bool) (old new : Subscriber S) : Type 0 where
  comes : old.clips.told ≡ None → gave ≡ false → new ≡ notes_clips now old → GivesClips may now panes gave old new
  paced : (told : ClipList) → old.clips.told ≡ Some told → may ≡ false → gave ≡ false → new ≡ old → GivesClips may now panes gave old new
  waits : (told : ClipList) → old.clips.told ≡ Some told → (IsFree old → ⊥) → gave ≡ false → new ≡ old
      → GivesClips may now panes gave old new
  no_memory : (told : ClipList) → old.clips.told ≡ Some told → may ≡ true → IsFree old → gave ≡ false → new ≡ old
      → GivesClips may now panes gave old new
  gives : (told : ClipList) → old.clips.told ≡ Some told → may ≡ true → IsFree old
      → new.metadata_event.text.items ≡ clip_news 9 told now panes → gave ≡ nat_lt 0 (length new.metadata_event.text.items)
      → new ≡ record (notes_clips now old) { metadata_event = record old.metadata_event { text = new.metadata_event.text } } → GivesClips may now panes gave old new

-- A subscriber that asked for clips gets the new ones, and its first queued bytes are written. Any other is unchanged.
pub data TellsClips {S : Type 0} (contents : S → Option (List ℕ)) (may : Bool) (now : ClipList) (panes : List Pane) (gave : Bool)
    (old new : Subscriber S) : Type 0 where
  others : wants_clips old ≡ false → gave ≡ false → new ≡ old → TellsClips contents may now panes gave old new
  tells : wants_clips old ≡ true → (mid : Subscriber S) → GivesClips may now panes gave old mid → HandsMetadataEvent contents mid new
      → TellsClips contents may now panes gave old new

-- So it was with one after another; a new text was there for one of them, or for none.
abbrev pub TellsEachClips : {S : Type 0} → (S → Option (List ℕ)) → Bool → ClipList → List Pane → Bool → List (Subscriber S)
    → List (Subscriber S) → Type 0
TellsEachClips contents may now panes any [] [] = any ≡ false
TellsEachClips contents may now panes any [] (new ∷ news) = ⊥
TellsEachClips contents may now panes any (old ∷ olds) [] = ⊥
TellsEachClips contents may now panes any (old ∷ olds) (new ∷ news) =
    (gave others : Bool) × TellsClips contents may now panes gave old new × TellsEachClips contents may now panes others olds news
    × (any ≡ (others || gave))

-- one of these wants them
abbrev pub any_wants : {S : Type 0} → List (Subscriber S) → Bool
any_wants [] = false
any_wants (f ∷ fs) = wants_clips f || any_wants fs
