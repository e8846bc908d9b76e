-- The screens and texts of each version.
use Rattle.std.proofs.Common.{◌≡◌, ◌+◌, ◌≤◌, length, Some, true, refl, arith}
use Rattle.roam_screens.specs.Screenshot.{Screenshot, IsScreenshot}
use Rattle.roam_model.specs.Versions.{is_same_version, seen_by, IsSeenBy, difference_by, applied_by}
use Rattle.roam_model.specs.Numbers.{first_screen}
use Rattle.roam_screens.proofs.Screens.{blank_is_screenshot}
use Rattle.roam_wire.specs.declared.versions.Version.{Version}
use Rattle.roam_wire.specs.declared.versions.Version.TheVariants.{One, Two}
use Rattle.roam_wire.specs.Versions.{most_bytes}
use Rattle.roam_screens.proofs.Narrowed.{narrow_is, old_blank}
use Rattle.roam_update.proofs.OldMakes.{leads_one}
use Rattle.roam_update.proofs.TableAgain.{leads_two}
use Rattle.roam_update.proofs.OldBounds.{most_one}
use Rattle.roam_update.proofs.Bounds.{most_two}

pub is_same-refl : (v : Version) → is_same_version v v ≡ true
is_same-refl One = refl
is_same-refl Two = refl

pub is_same-same : (v w : Version) → is_same_version v w ≡ true → v ≡ w
is_same-same One One e = refl
is_same-same Two Two e = refl
is_same-same One Two e = absurd (cc)
is_same-same Two One e = absurd (cc)

-- the screen that the session shows is one that an instance of each version may be shown
pub seen_is : (v : Version) (s : Screenshot) → IsScreenshot s → IsSeenBy v (seen_by v s)
seen_is One s is = narrow_is s is
seen_is Two s is = is

-- so is the screen that both ends begin with
pub first_seen : (v : Version) → IsSeenBy v first_screen
unfolding first_screen
first_seen One = old_blank
first_seen Two = blank_is_screenshot 24 80 (record
    { least_rows = omega arith; most_rows = omega arith; least_columns = omega arith; most_columns = omega arith })

-- the diff to a screen leads there
pub difference_leads : (v : Version) (base s : Screenshot) → IsSeenBy v s → applied_by v base (difference_by v base s) ≡ Some s
difference_leads One base s is = leads_one base s is
difference_leads Two base s is = leads_two base s is

-- and an instruction with it can be cut
pub change_short : (v : Version) (base s : Screenshot) → IsSeenBy v s → 32 + length (difference_by v base s) ≤ most_bytes v
change_short One base s is = let few = most_one base s is in omega (arith, few)
change_short Two base s is = let few = most_two base s is in omega (arith, few)
