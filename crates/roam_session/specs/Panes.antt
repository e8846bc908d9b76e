-- A pane of a session: the input of its terminal, and the bytes queued for the pane's program (this project's profile).
use Rattle.std.specs.Prelude.{ℕ, ◌==◌, ◌&&◌, Bool, List, [], ◌∷◌, ◌++◌, map, drop, length, Option, Some, None, if◌then◌else◌}
use Rattle.std.specs.Option.{option_map}
use Rattle.roam_term.specs.Limits.{pane_lines}
use Rattle.roam_text.specs.Log.{Item, Byte, Resized}
use Rattle.roam_keys.specs.declared.keys.Key.{Key}
use Rattle.roam_keys.specs.Sent.{bytes_of_key}
use Rattle.roam_term.specs.Keys.{key_modes}
use Rattle.roam_term.specs.Terminal.{Live, term, reports}
use Rattle.roam_layout.specs.declared.rects.Rect.{Rect}

-- a pane: the size that it began with, what its terminal was given since, and the bytes that wait; its history keeps 500 lines
pub record Pane : Type 0 where
  pub rows : ℕ
  pub cols : ℕ
  pub log : List Item
  pub waiting : List ℕ

-- ---- the input of a pane

-- a pane that begins in a rectangle
abbrev pub new_pane : Rect → Pane
new_pane r = record { rows = r.rows; cols = r.cols; log = []; waiting = [] }

-- the answers of a pane's terminal to bytes, after all of its earlier input
abbrev pub answers : Pane → List ℕ → List ℕ
answers p bytes = drop (length (reports p.rows p.cols pane_lines p.log)) (reports p.rows p.cols pane_lines (p.log ++ map Byte bytes))

-- bytes of the pane's program go to its terminal, and what this answers waits
abbrev pub after_feed : List ℕ → Pane → Pane
after_feed bytes p = record { rows = p.rows; cols = p.cols; log = p.log ++ map Byte bytes; waiting = p.waiting ++ answers p bytes }

-- the live state of the pane's terminal
abbrev pub live_of : Pane → Live
live_of p = (term p.rows p.cols pane_lines p.log).live

-- the bytes of a key under the modes of the pane's terminal
abbrev pub key_bytes : Key → Pane → List ℕ
key_bytes key p = bytes_of_key (key_modes (live_of p).modes) key

-- they are queued behind the earlier ones
abbrev pub after_key : Key → Pane → Pane
after_key key p = record { rows = p.rows; cols = p.cols; log = p.log; waiting = p.waiting ++ key_bytes key p }

-- the pane's program takes the first n bytes that wait
abbrev pub after_drain : ℕ → Pane → Pane
after_drain n p = record { rows = p.rows; cols = p.cols; log = p.log; waiting = drop n p.waiting }

-- ---- rectangles

-- two rectangles have one size
abbrev pub is_same_size : Rect → Rect → Bool
is_same_size old new = (old.rows == new.rows) && (old.cols == new.cols)

-- a pane goes from a rectangle to another: if that has another size, the terminal gets the size
abbrev pub after_move : Rect → Rect → Pane → Pane
after_move old new p =
    if is_same_size old new then p
    else record { rows = p.rows; cols = p.cols; log = p.log ++ Resized new.rows new.cols ∷ []; waiting = p.waiting }

-- the pane at a number that has one rectangle before an act and another after it: a pane whose rectangle goes ends, and one begins if there
-- was none
abbrev pub pane_after_act : Option Rect → Option Rect → Option Pane → Option Pane
pane_after_act old None pane = None
pane_after_act None (Some new) pane = Some (new_pane new)
pane_after_act (Some old) (Some new) pane = option_map (after_move old new) pane
