use Rattle.std.proofs.Common.{string_bytes}
use Rattle.roam_world_run.proofs.Asking.{ok_then}
use Rattle.roam_world_run.proofs.Replying.{some_sent}
use Rattle.roam_world_run.proofs.replies.push_sent.Goals as goal

pub returns : goal.returns
returns c = record {
  text = ok_then c.push_numbered.result c.push_numbered.ensures.text (λ e.
      some_sent c.args.first c.args.count (string_bytes c.args.text.now) (string_bytes c.push_number.new.text)
      (string_bytes c.push_numbered.new.text) c.if-count-eq0.false c.in_ok-push_number.ensures.text e);
}
