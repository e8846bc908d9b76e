use Rattle.std.proofs.Common.{◌≡◌, rules}
use Rattle.roam_screens.specs.Screenshot.{Screenshot}
use Rattle.roam_screens.specs.Shown.{shown_by}
use Rattle.roam_overlay.specs.Overlays.{screen_or}
use Rattle.roam_overlay.proofs.Seeing.{sees_by}
use Rattle.roam_overlay.proofs.overlay.judge.Goals as goal

pub returns-in-Some : goal.returns-in-Some
returns-in-Some c =
    let before : Screenshot = c.judged.inside.screen in
    let same : before ≡ screen_or c.args.seen.now (shown_by c.args.screen.now) = search rules in
    record {
      sees = sees_by before _ (shown_by c.args.screen.now) c.args.moment c.args.predictions.now c.seen.new.self same c.seen.ensures.either
          c.seen.ensures.goes_on c.seen.ensures.ends;
    }

pub returns-in-None : goal.returns-in-None
returns-in-None c =
    let same : (shown_by c.args.screen.now) ≡ screen_or c.args.seen.now (shown_by c.args.screen.now) = search rules in
    record {
      sees = sees_by (shown_by c.args.screen.now) _ (shown_by c.args.screen.now) c.args.moment c.args.predictions.now c.seen-in-None.new.self same
          c.seen-in-None.ensures.either c.seen-in-None.ensures.goes_on c.seen-in-None.ensures.ends;
    }
