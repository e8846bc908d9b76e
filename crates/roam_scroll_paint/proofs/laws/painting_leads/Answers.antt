use Rattle.roam_scroll_paint.proofs.Leading as leading
use Rattle.roam_scroll_paint.proofs.laws.painting_leads.Goals as goal

pub returns : goal.returns
returns c = record { leads = leading.painting_leads }
