-- The screens and texts that a client instance of each version gets.
use Rattle.std.specs.Prelude.{ℕ, List, Option, Bool, true, false}
use Rattle.roam_screens.specs.Screenshot.{Screenshot, IsScreenshot}
use Rattle.roam_screens.specs.Narrow.{IsOldScreenshot, narrow}
use Rattle.roam_update.specs.Shots.{difference_one, applied_one, difference_two, applied_two}
use Rattle.roam_wire.specs.declared.versions.Version.{Version}
use Rattle.roam_wire.specs.declared.versions.Version.TheVariants.{One, Two}

abbrev pub is_same_version : Version → Version → Bool
is_same_version One One = true
is_same_version Two Two = true
is_same_version One Two = false
is_same_version Two One = false

-- the screen that an instance of a version is shown if the session shows this one
abbrev pub seen_by : Version → Screenshot → Screenshot
seen_by One s = narrow s
seen_by Two s = s

-- a screen that an instance of a version may be shown
abbrev pub IsSeenBy : Version → Screenshot → Type 0
IsSeenBy One s = IsOldScreenshot s
IsSeenBy Two s = IsScreenshot s

-- the diff in the text of a version, and its result on a base
abbrev pub difference_by : Version → Screenshot → Screenshot → List ℕ
difference_by One base s = difference_one base s
difference_by Two base s = difference_two base s

abbrev pub applied_by : Version → Screenshot → List ℕ → Option Screenshot
applied_by One base change = applied_one base change
applied_by Two base change = applied_two base change
