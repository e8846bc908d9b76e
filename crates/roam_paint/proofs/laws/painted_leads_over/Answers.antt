use Rattle.roam_paint.proofs.Text as text
use Rattle.roam_paint.proofs.laws.painted_leads_over.Goals as goal

pub returns : goal.returns
returns c = record { leads = text.painted_leads_over }
