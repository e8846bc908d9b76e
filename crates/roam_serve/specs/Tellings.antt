-- The times at which metadata, clips and questions are sent.
use Rattle.std.specs.Prelude.{ℕ, zero, suc, ◌≡◌, ◌||◌, ◌&&◌, ◌==◌, Bool, true, false, not, List, Option, Some, None, if◌then◌else◌}
use Rattle.std.specs.List.{AllZip}
use Rattle.roam_pane_protocol.specs.MetadataLists.{metadata_at, in_generation}
use Rattle.roam_pane_protocol.specs.declared.metadata_list.MetadataList.{MetadataList}
use Rattle.roam_pane_protocol.specs.declared.metadata_list.MetadataPane.{MetadataPane}
use Rattle.roam_pane_protocol.specs.declared.query_list.QueryList.{QueryList}
use Rattle.roam_pane_protocol.specs.declared.query_list.QueryPane.{QueryPane}
use Rattle.roam_pane_protocol.specs.declared.clip_list.ClipList.{ClipList}
use Rattle.roam_pane_sockets.specs.MetadataLists.{AreMetadata}
use Rattle.roam_pane_subscribers.specs.Subscribing.{TellsMetadata, any_asked}
use Rattle.roam_pane_sockets.specs.Moments.{after, is_time}
use Rattle.roam_pane_subscribers.specs.declared.subscribing.Subscriber.{Subscriber}
use Rattle.roam_pane_sockets.specs.declared.panes.Pane.{Pane}
use Rattle.roam_serve.specs.declared.tellings.MetadataEventTimes.{MetadataEventTimes}
use Rattle.roam_pane_sockets.specs.Clips.{AreClips}
use Rattle.roam_serve.specs.declared.tellings.ClipTimes.{ClipTimes}
use Rattle.roam_pane_sockets.specs.Queries.{AreQueries}
use Rattle.roam_pane_subscribers.specs.Clipping.{TellsEachClips, any_wants}
use Rattle.roam_pane_subscribers.specs.Querying.{TellsQueries}

-- the next look: if news could be sent now, only after a change
abbrev pub again_at : Bool → Option ℕ → ℕ → Option ℕ
again_at true last pace = None
again_at false last pace = after last pace

-- a bell rang in a pane that is there
abbrev pub rang_in : Option MetadataPane → Option MetadataPane → Bool
rang_in shown None = false
rang_in shown (Some b) = not ((in_generation b.generation shown).settings.bells == b.settings.bells)

-- one rang in the first n panes
unfoldable pub has_rung : ℕ → MetadataList → MetadataList → Bool
has_rung zero shown now = false
has_rung (suc n) shown now = has_rung n shown now || rang_in (metadata_at shown (suc n)) (metadata_at now (suc n))

-- the last time at which a bell was reported, once one may be, or not yet
abbrev pub rang_at : Bool → Bool → ℕ → Option ℕ → Option ℕ
rang_at may rung moment rang = if (may && rung) then Some moment else rang

-- the times after this was sent at a moment
abbrev pub times_told : MetadataList → ℕ → MetadataEventTimes → MetadataEventTimes
times_told now moment t = record {
  shown = now;
  told = Some moment;
  rang = rang_at (is_time t.rang moment 1000) (has_rung 9 t.shown now) moment t.rang;
  due = again_at (is_time t.rang moment 1000) t.rang 1000;
}

-- Each subscriber got new metadata, if that was due. None did if none asked, or if some was sent shortly before: then the next look is once
-- it is due.
pub record AreToldMetadata {S : Type 0} (contents : S → Option (List ℕ)) (times times' : MetadataEventTimes) (moment : ℕ) (panes : List Pane)
    (olds news : List (Subscriber S)) : Type 0 where
  pub unasked : any_asked olds ≡ false → (news ≡ olds) × (times' ≡ record times { due = None })
  pub early : any_asked olds ≡ true → is_time times.told moment 20 ≡ false
      → (news ≡ olds) × (times' ≡ record times { due = after times.told 20 })
  pub told : any_asked olds ≡ true → is_time times.told moment 20 ≡ true → (now : MetadataList)
      × AreMetadata (is_time times.rang moment 1000) times.shown panes now × AllZip (TellsMetadata contents now panes) olds news
      × (times' ≡ times_told now moment times)

-- the times after clips were sent at a moment, or none were
abbrev pub times_clipped : Bool → ℕ → ClipTimes → ClipTimes
times_clipped any moment t = record {
  told = if any then Some moment else t.told;
  due = again_at (is_time t.told moment 1000) t.told 1000;
}

-- Each subscriber got new clips, at most once a second. None did if none wants them.
pub record AreToldClips {S : Type 0} (contents : S → Option (List ℕ)) (times times' : ClipTimes) (moment : ℕ) (panes : List Pane)
    (olds news : List (Subscriber S)) : Type 0 where
  pub unwanted : any_wants olds ≡ false → (news ≡ olds) × (times' ≡ record times { due = None })
  pub told : any_wants olds ≡ true → (now : ClipList) × (any : Bool) × AreClips panes now
      × TellsEachClips contents (is_time times.told moment 1000) now panes any olds news × (times' ≡ times_clipped any moment times)

-- how many a pane's program has asked, as far as is known
abbrev pub count_asked : Option QueryPane → ℕ
count_asked None = 0
count_asked (Some a) = a.asked

-- Each subscriber that asked for questions got the new ones, in order.
pub record AreToldQueries {S : Type 0} (contents : S → Option (List ℕ)) (panes : List Pane) (olds news : List (Subscriber S)) : Type 0 where
  pub now : QueryList
  pub are : AreQueries panes now
  pub told : AllZip (TellsQueries contents now panes) olds news
