use Rattle.roam_display_state.proofs.Masking.{masked_cells_stay}
use Rattle.roam_display_state.proofs.laws.masked_cells_stay.Goals as goal

pub returns : goal.returns
returns c = record { stay = masked_cells_stay c.paint_leads.ensures.leads }
