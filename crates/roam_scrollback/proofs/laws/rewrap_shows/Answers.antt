use Rattle.roam_scrollback.proofs.Bringing.{rewrap_keeps_lines, rewrap_shows, text_leads}
use Rattle.roam_scrollback.proofs.Filling.{rewrap_fills}
use Rattle.roam_scrollback.proofs.Pending.{rewrap_pends}
use Rattle.roam_scrollback.proofs.laws.rewrap_shows.Goals as goal

pub returns : goal.returns
returns c = record { shows = rewrap_shows; lines = rewrap_keeps_lines; leads = text_leads; pends = rewrap_pends; fills = rewrap_fills }
