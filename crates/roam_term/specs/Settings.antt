-- Settings: their effect on the screen at once.
use Rattle.std.specs.Prelude.{ℕ, ◌-◌, ◌==◌, ◌||◌, nat_lt, Bool, if◌then◌else◌}
use Rattle.roam_grid.specs.Screen.{Screen}
use Rattle.roam_grid.specs.Scrolling.{with_margins}
use Rattle.roam_grid.specs.Cursor.{wrap_cleared}
use Rattle.roam_term.specs.Motions.{after_home}

-- the bottom margin from 0: none, or one beyond the screen, is the last row
abbrev pub bottom_of : ℕ → Screen → ℕ
bottom_of bottom s = if (bottom == 0 || nat_lt s.rows bottom) then s.rows - 1 else bottom - 1

-- margins of rows from 1 are taken if the top one is above the bottom one, and then the cursor goes home (DECSTBM, VT220)
abbrev pub margins_set : ℕ → ℕ → Bool → Screen → Screen
margins_set top bottom origin s =
    if nat_lt (top - 1) (bottom_of bottom s) then after_home origin (with_margins (top - 1) (bottom_of bottom s) s)
    else s

-- a change of DECOM sends the cursor home, and resetting DECAWM clears a pending wrap (VT220; this project's profile)
abbrev pub after_private_mode : Bool → ℕ → Screen → Screen
after_private_mode on p s =
    if p == 6 then after_home on s
    else if p == 7 then (if on then s else wrap_cleared s)
    else s
