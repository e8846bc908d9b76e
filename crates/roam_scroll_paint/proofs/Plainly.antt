-- The text of a painter that leaves nothing out leads.
use Rattle.roam_paint.proofs.Text.{painted_leads_over}
use Rattle.roam_scroll_paint.specs.Leads.{PaintLeads}

pub paint_leads : PaintLeads
paint_leads old new is_new rows cols lines log h rows_in cols_in =
    let over = painted_leads_over rows cols lines log old new is_new h rows_in cols_in in
    record { displays = over.displays; size = over.size }
