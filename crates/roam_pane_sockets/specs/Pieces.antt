-- The cuts between the pieces that go on to a pane's terminal, so that no screen has to be made within an update (synchronized output,
-- private mode 2026).
use Rattle.std.specs.Prelude.{ℕ, zero, suc, ◌+◌, ◌==◌, ◌&&◌, Bool, true, false, List, [], ◌∷◌, min, nat_lt, Option, None, Some, if◌then◌else◌}
use Rattle.roam_pane_sockets.specs.Frames.{FramesView, frame_with, free}

-- the beginning of the update that is open after some bytes; each sequence is read as a whole
abbrev pub frame_upto : ℕ → Option ℕ → ℕ → List ℕ → Option ℕ
frame_upto zero frame at bytes = frame
frame_upto (suc n) frame at [] = frame
frame_upto (suc n) frame at (b ∷ bytes) = frame_upto n (frame_with frame at (b ∷ bytes)) (at + 1) bytes

-- an update that was open before begins in front of all bytes
abbrev pub begun : Bool → Option ℕ
begun true = Some 0
begun false = None

-- the number of bytes in the text that begins an update
abbrev pub length_of_beginning : ℕ
length_of_beginning = 8

-- The length of the next piece of these bytes, given the update that is open after them. It is all of them if none is, or if it was open
-- before. Otherwise the piece ends behind the text that begins the update.
abbrev pub piece_before : Bool → Option ℕ → ℕ → ℕ
piece_before was_open None most = most
piece_before was_open (Some begin) most = if was_open && begin == 0 then most else min most (begin + length_of_beginning)

-- how many bytes may go on at once
abbrev pub most_of : FramesView → ℕ → ℕ
most_of f room = min (free f) room

-- the beginning of the update that these leave open
abbrev pub left_open : FramesView → ℕ → Option ℕ
left_open f room = frame_upto (most_of f room) (begun f.within) 0 f.ready

-- how many of them are a piece
abbrev pub piece_of : FramesView → ℕ → ℕ
piece_of f room = piece_before f.within (left_open f room) (most_of f room)

-- the rest of a frame is to go on: one is open behind what did, and more may
abbrev pub goes_on : FramesView → Bool
goes_on f = f.within && nat_lt 0 (free f)
