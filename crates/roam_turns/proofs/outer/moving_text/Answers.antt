use Rattle.roam_screens.specs.Shown.{shown_by}
use Rattle.roam_turns.proofs.Moving.{text_shows}
use Rattle.roam_turns.proofs.outer.moving_text.Goals as goal

pub returns-in-None : goal.returns-in-None
returns-in-None c = record {
  leads = text_shows c.opened_begins_blank.ensures.begins c.paint_leads.ensures.leads c.args.noted.now (shown_by c.args.screen.now)
      c.text_of.result c.facts.ensures.screenshot c.in-None.is c.text_of.ensures.text;
}
