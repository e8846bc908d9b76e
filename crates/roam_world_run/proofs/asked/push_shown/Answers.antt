use Rattle.std.proofs.Common.{◌≡◌, ◌∙◌, ap, Some, rules, string_bytes}
use Rattle.roam_screens.specs.Shown.{shown_by}
use Rattle.roam_hub.specs.Clients.{ClientView}
use Rattle.roam_simulation.specs.Worlds.{start_in}
use Rattle.roam_world_run.proofs.Asking.{client_text, filled, ok_then}
use Rattle.roam_world_run.proofs.asked.push_shown.Goals as goal

pub returns-clause-text : goal.returns-clause-text
returns-clause-text c = ok_then c.push_screen.result c.push_screen.ensures.text (λ e w s.
    let here : start_in c.args.world.now.slots c.args.slot ≡ Some c.in-Some.client.now = search rules in
    let start = filled w.server.session w.clients (start_in c.args.world.now.slots c.args.slot) (w.slots c.args.slot)
    c.in-Some.client.now here (s.starts.filled c.args.slot) in
    let shown = c.shown-number.ensures.shown in
    client_text w.clients (w.slots c.args.slot) start.id c.shown-number.result.0 (shown_by c.shown-number.result.1) (string_bytes
    c.args.text.now) (string_bytes c.push_numbered.new.text) (string_bytes c.push_screen.new.text) start.is
    (shown.0 ∙ ap (λ (v : ClientView). v.kept.receiver.newest.number) start.stands)
    (shown.1 ∙ ap (λ (v : ClientView). v.kept.receiver.newest.state) start.stands)
    c.in_ok-push_numbered.ensures.text e)
