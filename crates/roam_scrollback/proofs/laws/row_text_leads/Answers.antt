use Rattle.roam_scrollback.proofs.Leading.{row-text-leads}
use Rattle.roam_scrollback.proofs.laws.row_text_leads.Goals as goal

pub returns : goal.returns
returns c = record { leads = row-text-leads }
