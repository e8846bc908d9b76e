use Rattle.std.proofs.Common.{◌≡◌, ◌++◌, Some, refl, rules}
use Rattle.roam_outer_terminal.specs.Overlaid.{IsForth}
use Rattle.roam_outer_terminal.specs.Overlaid.Lays.{laid}
use Rattle.roam_outer_terminal.proofs.laying.put_forth.Goals as goal

pub returns : goal.returns
returns c =
    let text = c.in_ok-text.text.items in
    let joined : c.push.new.self ≡ c.args.waiting.now ++ text = search rules in
    let asked : c.args.wanted ≡ Some c.in_ok-over.over = search rules in
    let forth : IsForth c.args.outer.now c.in_ok-over.over text = search rules in
    record { lays = laid c.in_ok-over.over text asked refl joined forth }
