use Rattle.std.proofs.Common.{◌≡◌, [], length, ap, ◌∙◌, rules}
use Rattle.std.specs.Vec.{vec_len}
use Rattle.std.specs.Prelude.{◌==◌}
use Rattle.roam_pane_sockets.proofs.Framing.{first-none}
use Rattle.roam_pane_sockets.proofs.frames.Frames.is_held.Goals as goal

pub returns-else-is_empty-clause-none : goal.returns-else-is_empty-clause-none
returns-else-is_empty-clause-none c = λ none.
    let empty : c.self.inside.ready.items ≡ [] =
    first-none c.self.inside.ready.items c.self.inside.later.items (ap (λ f. f.ready) c.self.view_is ∙ none) in
    let size : vec_len c.self.inside.ready ≡ length c.self.inside.ready.items = search rules in
    let ok = c.self.inside.ready.ok in
    c.is_empty.ensures ∙ ap (λ n. n == 0) size ∙ ap (λ l. length l == 0) empty
