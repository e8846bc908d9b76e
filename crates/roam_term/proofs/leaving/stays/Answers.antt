use Rattle.roam_term.proofs.Scrollback.{with_none}
use Rattle.roam_term.proofs.leaving.stays.Goals as goal

pub returns : goal.returns
returns c = record { stays = with_none c.args.history.now c.facts.ensures.scrollback.few }
