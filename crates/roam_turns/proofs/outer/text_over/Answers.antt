use Rattle.std.proofs.Common.{rules}
use Rattle.roam_scroll_paint.specs.Leads.{Leads}
use Rattle.roam_screens.specs.Shown.{shown_by}
use Rattle.roam_turns.proofs.Moving.{moving_shows}
use Rattle.roam_turns.proofs.outer.text_over.Goals as goal

pub returns : goal.returns
returns c =
    let leads : Leads c.args.noted.now.screen (shown_by c.args.screen.now) c.paint_moved.new.out.items = search rules in
    record { leads = moving_shows c.args.noted.now (shown_by c.args.screen.now) c.paint_moved.new.out.items leads }
