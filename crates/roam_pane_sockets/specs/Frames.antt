-- Synchronized updates, which reach a pane's terminal as a whole (the private mode 2026).
use Rattle.std.specs.Prelude.{ℕ, ◌≡◌, ◌+◌, ◌-◌, ◌++◌, ◌==◌, ◌&&◌, ◌||◌, Bool, true, false, List, [], ◌∷◌, length, nat_le, Option, None, Some, if◌then◌else◌}
use Rattle.roam_pane_sockets.specs.Moments.{after, is_time}

-- an update is kept back for at most this many milliseconds
abbrev pub longest_hold : ℕ
longest_hold = 150

-- an update is kept back up to this many bytes
abbrev pub most_held : ℕ
most_held = 262144

-- the bytes begin with CSI ? 2026, as programs write it, and this final byte
abbrev pub sets_frame : ℕ → List ℕ → Bool
sets_frame last (a ∷ b ∷ c ∷ d ∷ e ∷ f ∷ g ∷ h ∷ rest) =
    a == 0x1B && (b == 0x5B && (c == 0x3F && (d == 0x32 && (e == 0x30 && (f == 0x32 && (g == 0x36 && h == last))))))
sets_frame last bytes = false

-- a frame begins here, by h, and one ends, by l
abbrev pub opens : List ℕ → Bool
opens bytes = sets_frame 0x68 bytes

abbrev pub closes : List ℕ → Bool
closes bytes = sets_frame 0x6C bytes

-- the beginning of the open update after these bytes at a place; an update inside another is no new one
abbrev pub opened_at : Option ℕ → ℕ → Option ℕ
opened_at None at = Some at
opened_at (Some begin) at = Some begin

abbrev pub frame_with : Option ℕ → ℕ → List ℕ → Option ℕ
frame_with frame at bytes = if closes bytes then None else if opens bytes then opened_at frame at else frame

-- no ESC, with which both begin
abbrev pub HasNoEscape : List ℕ → Type 0
HasNoEscape [] = Unit {0}
HasNoEscape (b ∷ bytes) = ((b == 0x1B) ≡ false) × HasNoEscape bytes

-- no question mark, which both have
abbrev pub HasNoMark : List ℕ → Type 0
HasNoMark [] = Unit {0}
HasNoMark (b ∷ bytes) = ((b == 0x3F) ≡ false) × HasNoMark bytes

-- and behind them all
abbrev pub frame_after : Option ℕ → ℕ → List ℕ → Option ℕ
frame_after frame at [] = frame
frame_after frame at (b ∷ bytes) = frame_after (frame_with frame at (b ∷ bytes)) (at + 1) bytes

-- The output that hasn't gone on yet; the beginning of an open update at its end, and since when it is kept back; an update open behind the
-- bytes that went on; and the bytes for which memory was refused.
pub record FramesView : Type 0 where
  pub ready : List ℕ
  pub frame : Option ℕ
  pub since : ℕ
  pub within : Bool
  pub short : Bool

abbrev pub no_frames : FramesView
no_frames = record { ready = []; frame = None; since = 0; within = false; short = false }

-- how many bytes may be handed on
abbrev pub free_before : Option ℕ → List ℕ → ℕ
free_before None ready = length ready
free_before (Some begin) ready = begin

abbrev pub free : FramesView → ℕ
free f = free_before f.frame f.ready

-- a frame began behind a place at a moment, or one that was open goes on
abbrev pub since_after : Option ℕ → ℕ → ℕ → ℕ → ℕ
since_after None from since now = since
since_after (Some begin) from since now = if nat_le from begin then now else since

-- the update has been kept back for long enough, or is large enough
abbrev pub is_over : Option ℕ → List ℕ → ℕ → ℕ → Bool
is_over None ready since now = false
is_over (Some begin) ready since now = is_time (Some since) now longest_hold || nat_le most_held (length ready - begin)

-- the open update at a moment, unless it is over
abbrev pub frame_at : ℕ → FramesView → Option ℕ
frame_at now f = if is_over f.frame f.ready f.since now then None else f.frame

-- the moment until which an update is kept back
abbrev pub held_until : Option ℕ → ℕ → Option ℕ
held_until None since = None
held_until (Some begin) since = after (Some since) longest_hold

-- the first so many were handed on
abbrev pub frame_left : Option ℕ → ℕ → Option ℕ
frame_left None count = None
frame_left (Some begin) count = Some (begin - count)

-- New output follows the rest. An open update is kept back from its beginning; none is if memory was refused.
pub record Takes (old new : FramesView) (chunk : List ℕ) (now : ℕ) : Type 0 where
  pub ready : new.ready ≡ old.ready ++ chunk
  pub frame : new.short ≡ false → new.frame ≡ frame_after old.frame (length old.ready) chunk
  pub none : new.short ≡ true → new.frame ≡ None
  pub since : new.since ≡ since_after new.frame (length old.ready) old.since now
  pub within : new.within ≡ old.within
