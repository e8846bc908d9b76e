use Rattle.roam_scroll_paint.proofs.Plainly as plainly
use Rattle.roam_scroll_paint.proofs.laws.paint_leads.Goals as goal

pub returns : goal.returns
returns c = record { leads = plainly.paint_leads }
