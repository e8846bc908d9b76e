use Rattle.roam_pane_protocol.proofs.Titles.{both_told}
use Rattle.roam_pane_protocol.proofs.metadata_lines.push_metadata.Goals as goal

pub returns-clause-lines : goal.returns-clause-lines
returns-clause-lines c =
    both_told c.args.pane c.args.told c.args.now c.in_generation-told.result c.in-Some.now c.args.title.now _ _ _ c.in-Some.is
    c.in_generation-told.ensures.known (c.in_ok-push_settings.ensures.lines c.args.title.now) c.in_ok-push_said.ensures.lines
