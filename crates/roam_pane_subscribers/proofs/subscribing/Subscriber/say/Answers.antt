use Rattle.std.proofs.Common.{◌≡◌, false, refl, rules}
use Rattle.std.specs.Prelude.{is_err}
use Rattle.roam_pane_subscribers.proofs.Telling.{grown, one_said}
use Rattle.roam_pane_subscribers.proofs.subscribing.Subscriber.say.Goals as goal

pub returns-else-is_err-clause-replies : goal.returns-else-is_err-clause-replies
returns-else-is_err-clause-replies g c =
    let went : is_err c.extend_from_slice.result ≡ false = search rules in
    one_said c.args.self.now _ c.args.text.now c.requires.reply refl refl
    (grown c.extend_from_slice.result c.extend_from_slice.new.self.items _ _ c.extend_from_slice.ensures.items went)
