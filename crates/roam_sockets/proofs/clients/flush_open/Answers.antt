use Rattle.std.proofs.Common.{◌∙◌, ap, rules}
use Rattle.std.proofs.lemmas.Fn.{filter_same}
use Rattle.std.specs.List.{filter}
use Rattle.roam_sockets.specs.Clients.{is_open}
use Rattle.roam_sockets.proofs.Sending.{whole_back}
use Rattle.roam_sockets.proofs.clients.flush_open.Goals as goal

pub returns : goal.returns
returns g c =
    let back = whole_back c.args.all.now.len c.flush_all-is_all.new.all c.args.all.now.items (search rules) (search rules) in
    record {
      keeps = record {
        mids = c.flush_all-is_all.new.all;
        each = search rules;
        done = λ all. let went = c.flush_all-is_all.ensures.done all in search rules;
        open_ones = filter_same _ is_open _ (λ x b f' k. search rules) _ _ c.retain.ensures.filtered
            ∙ ap (λ l. filter is_open l) back;
      };
    }
