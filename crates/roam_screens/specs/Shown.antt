-- A screen of either version.
use Rattle.roam_screens.specs.Screenshot.{Screenshot}
use Rattle.roam_screens.specs.declared.shown.Shown.{Shown}
use Rattle.roam_screens.specs.declared.shown.Shown.TheVariants.{New, Old}

-- the screen that is lent
abbrev pub shown_by : Shown → Screenshot
shown_by (New shot) = shot.now
shown_by (Old shot) = shot.now
