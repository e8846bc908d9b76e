use Rattle.std.proofs.Common.{◌∙◌, false, length, ap, sym}
use Rattle.roam_hub.specs.Servers.{ServerView}
use Rattle.roam_hub.specs.Records.{alike_entries}
use Rattle.roam_hub.proofs.Entries.{many}
use Rattle.roam_hub.proofs.servers.Server.starts.Goals as goal

pub returns : goal.returns
returns c =
    record {
      count =
          (λ s st. c.alike.ensures.count ∙ ap (λ (v : ServerView). length (alike_entries false v.records)) c.self.view_is
          ∙ sym (many c.args.self.now s false st));
    }
