use Rattle.roam_model.specs.Numbers.{first_screen}
use Rattle.roam_model.specs.Clients.{nobody, new_kept}
use Rattle.roam_hub.proofs.clients.Client.begun.Goals as goal

pub returns-clause-stands : goal.returns-clause-stands
unfolding first_screen nobody
returns-clause-stands c =
    λ i. record {
      session = c.args.session;
      id = c.args.id;
      kept = record (new_kept c.args.version c.args.watches) {
        version = c.in_ok-receiver.ensures.version i;
        acts = c.new-2.ensures.start i;
        gathering = (c.new-3.ensures.new i).current;
        receiver = c.in_ok-receiver.ensures.first i;
      };
    }
