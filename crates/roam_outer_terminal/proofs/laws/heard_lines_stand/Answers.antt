use Rattle.roam_outer_terminal.proofs.Heard.{heard_lines_stand}
use Rattle.roam_outer_terminal.proofs.laws.heard_lines_stand.Goals as goal

pub returns : goal.returns
returns g c = record { stands = heard_lines_stand g.S.Read.remaining g.S.Write.contents }
