use Rattle.std.proofs.Common.{rules}
use Rattle.std.proofs.lemmas.Fn.{filter_same}
use Rattle.roam_shared_client.proofs.Behind.{each_filtered}
use Rattle.roam_shared_client.proofs.sharing.retain.Goals as goal

pub returns-clause-stay : goal.returns-clause-stay
returns-clause-stay g c = filter_same _ _ _ (λ x b f' k. search rules) _ _ c.retain.ensures.filtered

pub returns-clause-behind : goal.returns-clause-behind
returns-clause-behind g c = λ n s h. each_filtered _ _ c.args.all.now.items c.retain.new.self.items n s c.retain.ensures.filtered h
