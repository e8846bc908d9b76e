use Rattle.std.proofs.Common.{◌≡◌, ◌∙◌, ap, sym, not, rules}
use Rattle.std.proofs.lemmas.Fn.{filter_same}
use Rattle.std.specs.List.{filter}
use Rattle.roam_sockets.specs.Lanes.{SendsEach, is_any_waiting, is_kept}
use Rattle.roam_sockets.proofs.Sending.{none_waits, whole_back}
use Rattle.roam_sockets.proofs.lanes.Paced.flush.Goals as goal

pub returns : goal.returns
returns g c =
    let back = whole_back c.args.self.now.lanes.len c.send_each-are_all.new.lanes c.args.self.now.lanes.items (search rules) (search rules) in
    let each : SendsEach c.args.now c.args.self.now.lanes.items c.send_each-are_all.new.lanes
    (g.D.DatagramSocket.handed c.args.self.now.socket) (g.D.DatagramSocket.handed c.send_each-are_all.new.socket) c.send_each-are_all.result =
    search rules in
    let kept : c.retain.new.self.items ≡ filter (is_kept c.args.now) c.send_each-are_all.new.lanes =
    filter_same _ (is_kept c.args.now) _ (λ x b f' k. search rules) _ _ c.retain.ensures.filtered
    ∙ ap (λ l. filter (is_kept c.args.now) l) back in
    record {
      flushes = record { mids = c.send_each-are_all.new.lanes; each = each; kept = kept };
      all = none_waits _ _ _ _ _ _ each ∙ ap (λ l. not (is_any_waiting l)) (sym kept);
    }
