use Rattle.std.proofs.Common.{◌∙◌, true, length, ap, sym}
use Rattle.roam_hub.specs.Servers.{ServerView}
use Rattle.roam_hub.specs.Records.{alike_entries}
use Rattle.roam_hub.proofs.Entries.{many}
use Rattle.roam_hub.proofs.servers.Server.watchers.Goals as goal

pub returns : goal.returns
returns c =
    record {
      count =
          (λ s st. c.alike.ensures.count ∙ ap (λ (v : ServerView). length (alike_entries true v.records)) c.self.view_is
          ∙ sym (many c.args.self.now s true st));
    }
