use Rattle.std.proofs.Common.{arith}
use Rattle.std.proofs.lemmas.List.Elements.{All-push}
use Rattle.roam_hub.specs.Ends.{version_of, sending_of}
use Rattle.roam_hub.specs.Shared.{IsBetween}
use Rattle.roam_hub.proofs.Lending.{found_leads, made_between}
use Rattle.roam_hub.proofs.shared.made_at.Goals as goal

pub returns-in-Some-clause-at : goal.returns-in-Some-clause-at
returns-in-Some-clause-at c =
    found_leads c.args.changes.now.items c.as_slice.result.now c.in-Some.at c.version-version.result (version_of c.args.sender.now)
    (sending_of c.args.sender.now) c.args.base c.newest_number-newest.result c.in-Some.ensures.has c.as_slice.ensures.value
    c.version-version.ensures.version c.requires.base c.newest_number-newest.ensures.number c.requires.agree

pub returns-clause-stay : goal.returns-clause-stay
returns-clause-stay c screens most m b =
    let t = c.in_ok-made.ensures in
    let from = t.old in
    let to = t.new in
    let rises = t.rises in
    rw c.in_ok-push.ensures.items (All-push (IsBetween screens) c.args.changes.now.items _ b
    (made_between screens most (version_of c.args.sender.now) (sending_of c.args.sender.now) _ m
    (record {
      same = c.version-version.ensures.version;
      old = from;
      new = to;
      floor = t.floor;
      rises = omega (arith, rises, from, to);
      change = t.change;
      leads = t.leads;
    })))
