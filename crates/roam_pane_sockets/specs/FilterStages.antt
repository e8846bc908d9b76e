-- A filter between a pane's program and its terminal.
use Rattle.std.specs.Prelude.{ℕ, ◌≡◌, ◌⊎◌, ◌<◌, ◌≤◌, ◌++◌, Bool, false, List, [], drop, take, Option, Some, None}
use Rattle.roam_normalize.specs.Normalized.{held_part, normalized_part}
use Rattle.roam_pane_sockets.specs.Frames.{FramesView, Takes, frame_at, frame_left, free, free_before, held_until, no_frames}
use Rattle.roam_pane_sockets.specs.Pieces.{goes_on}

-- the state of a filter: the bytes that it keeps back, the bytes queued before it for want of memory, and its output that hasn't gone on
-- yet
pub record FilterStageView : Type 0 where
  pub held : List ℕ
  pub unread : List ℕ
  pub frames : FramesView

-- nothing came to it
abbrev pub empty_filter_stage : FilterStageView
empty_filter_stage = record { held = []; unread = []; frames = no_frames }

-- the bytes queued before the filter passed it at a moment
pub record IsSifted (s t : FilterStageView) (now : ℕ) : Type 0 where
  pub held : t.held ≡ held_part (s.held ++ s.unread)
  pub unread : t.unread ≡ []
  pub takes : Takes s.frames t.frames (normalized_part (s.held ++ s.unread)) now

-- an update that is over at a moment isn't kept back any more
abbrev pub passed : ℕ → FilterStageView → FilterStageView
passed now s = record s { frames = record s.frames { frame = frame_at now s.frames } }

-- This many bytes go on at a moment, no more than allowed. An update that is over isn't kept back any more. Bytes queued before the filter
-- pass it first, or not at all. An open update stays from its beginning on.
pub record FilterStagePassesOn (now : ℕ) (s t : FilterStageView) (count : ℕ) : Type 0 where
  pub mid : FilterStageView
  pub sifted : (mid ≡ passed now s) ⊎ IsSifted (passed now s) mid now
  pub may : count ≤ free mid.frames
  pub ready : t.frames.ready ≡ drop count mid.frames.ready
  pub frame : t.frames.frame ≡ frame_left mid.frames.frame count
  pub since : t.frames.since ≡ mid.frames.since
  pub others : t ≡ record mid { frames = t.frames }

-- the same with a filter; without one no update is kept back
abbrev pub PassesOn : ℕ → Option FilterStageView → Option FilterStageView → ℕ → Type 0
PassesOn now None None count = Unit {0}
PassesOn now None (Some t) count = ⊥
PassesOn now (Some s) None count = ⊥
PassesOn now (Some s) (Some t) count = FilterStagePassesOn now s t count

-- a piece waits before it
abbrev pub taken_in : List ℕ → Option FilterStageView → Option FilterStageView
taken_in piece None = None
taken_in piece (Some s) = Some (record s { unread = piece })

-- the filter read some of the bytes, and the rest is queued; the output went on, or is ready
pub record Sifts (s : FilterStageView) (came given : List ℕ) : Type 0 where
  pub read : List ℕ
  pub waits : came ≡ read ++ s.unread
  pub keeps : s.held ≡ held_part read
  pub normalized : given ++ s.frames.ready ≡ normalized_part read

-- bytes go on unchanged, or through the filter if there is one
abbrev pub Goes : Option FilterStageView → List ℕ → List ℕ → Type 0
Goes None came given = given ≡ came
Goes (Some s) came given = Sifts s came given

-- nothing waits
abbrev pub IsFree : Option FilterStageView → Type 0
IsFree None = Unit {0}
IsFree (Some s) = (s.unread ≡ []) × (s.frames.ready ≡ [])

-- some queued bytes may go on at a moment; an update that is over isn't kept back any more
abbrev pub HasFree : ℕ → Option FilterStageView → Type 0
HasFree now None = ⊥
HasFree now (Some s) = 0 < free_before (frame_at now s.frames) s.frames.ready

-- nothing waits before it: more may be read
abbrev pub TakesMore : Option FilterStageView → Type 0
TakesMore None = Unit {0}
TakesMore (Some s) = s.unread ≡ []

-- the last moment until which an update is kept back
abbrev pub waits_until : Option FilterStageView → Option ℕ
waits_until None = None
waits_until (Some s) = held_until s.frames.frame s.frames.since

-- the rest of a frame is to go on there
abbrev pub frame_goes_on : Option FilterStageView → Bool
frame_goes_on None = false
frame_goes_on (Some s) = goes_on s.frames

-- an answer counts some bytes
abbrev pub CountsSome : Option ℕ → Type 0
CountsSome None = ⊥
CountsSome (Some n) = 0 < n

-- the bytes at the front of a buffer that an answer counts
abbrev pub bytes_given : Option ℕ → List ℕ → List ℕ
bytes_given None buf = []
bytes_given (Some n) buf = take n buf
