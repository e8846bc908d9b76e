-- The status text, which the last row of a session shows (this project's profile).
use Rattle.std.specs.Prelude.{ℕ, ◌≤◌, ◌<◌, ◌==◌, ◌++◌, List, [], take, replicate, slice_index, if◌then◌else◌, codes, decimal}
use Rattle.std.specs.List.{flat_map}
use Rattle.roam_layout.specs.Trees.{leaves}
use Rattle.roam_layout.specs.Layouts.{Plan}

-- a pane's number, in brackets if it has the focus and else between spaces
abbrev pub label : ℕ → ℕ → List ℕ
label focus p = if (p == focus) then codes "[" ++ decimal p ++ codes "]" else codes " " ++ decimal p ++ codes " "

-- a view above 0
abbrev pub view_text : ℕ → List ℕ
view_text v = if (v == 0) then [] else codes " ^" ++ decimal v

-- the panes in tree order, and the view of the one in focus
abbrev pub status : Plan → List ℕ
status s = flat_map (label s.focus) (leaves s.tree) ++ view_text (slice_index s.views s.focus)

-- the same, cut or padded with spaces to the session's columns
abbrev pub status_row : Plan → List ℕ
status_row s = take s.cols (status s ++ replicate s.cols 32)

-- printable ASCII, which takes one column
abbrev pub IsPrintable : ℕ → Type 0
IsPrintable b = (0x20 ≤ b) × (b < 0x7F)
