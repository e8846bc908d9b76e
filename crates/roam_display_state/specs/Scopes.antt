-- Which part of a screen a terminal shows (this project's profile).
use Rattle.std.specs.Prelude.{ℕ, Option, Some, None}
use Rattle.roam_viewport.specs.Parts.{followed}
use Rattle.roam_viewport.specs.declared.parts.Part.{Part}
use Rattle.roam_screens.specs.Screenshot.{Screenshot}
use Rattle.roam_display_state.specs.declared.scopes.Scope.{Scope}
use Rattle.roam_display_state.specs.declared.scopes.Scope.TheVariants.{Whole, Exactly, Following}

-- all of a screen
abbrev pub whole_of : Screenshot → Part
whole_of s = record { row = 0; col = 0; rows = s.rows; cols = s.cols }

-- the part of a screen that is shown
abbrev pub part_for : Scope → Screenshot → Part
part_for Whole s = whole_of s
part_for (Exactly part) s = part
part_for (Following part) s = followed part s

-- the scope after a part was shown: a part that follows the cursor goes on from its place
abbrev pub scope_after : Scope → Part → Scope
scope_after Whole part = Whole
scope_after (Exactly exact) part = Exactly exact
scope_after (Following before) part = Following part

-- the place of a part is sent, unless it is the whole screen
abbrev pub place_told : Scope → Part → Option (ℕ × ℕ)
place_told Whole part = None
place_told (Exactly exact) part = Some (part.row, part.col)
place_told (Following before) part = Some (part.row, part.col)
