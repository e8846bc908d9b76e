-- A screen of either version.
use Rattle.roam_screens.specs.Screenshot.{Screenshot}
use Rattle.roam_turns.specs.declared.screens.Either.{Either}
use Rattle.roam_turns.specs.declared.screens.Either.TheVariants.{New, Old}

-- the screen, whatever its version
abbrev pub screen_of : Either → Screenshot
screen_of (New shot) = shot
screen_of (Old shot) = shot
