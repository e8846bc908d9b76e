use Rattle.std.proofs.Common.{true, false, sym, ap, ◌∙◌, ◌++◌}
use Rattle.std.specs.List.{flat_map}
use Rattle.std.proofs.lemmas.Bool.{false≢true}
use Rattle.std.proofs.lemmas.List.{append-nil}
use Rattle.roam_scroll_paint.specs.Painting.{hiding, revealing}
use Rattle.roam_scroll_paint.specs.Sequences.{text_of}
use Rattle.roam_scroll_paint.proofs.Settled.{painting_is}
use Rattle.roam_scroll_paint.proofs.painting.moving_text.Goals as goal

pub returns-then-is_as_visible : goal.returns-then-is_as_visible
returns-then-is_as_visible g c =
    let body = c.in_ok-body.body.items in
    record {
      painting = painting_is (g.O.Seen.screen c.args.old.now) (g.N.Seen.screen c.args.new.now) body body false c.in_ok-body.ensures.body
          (λ _. c.is_as_visible.ensures.same c.if-is_as_visible.true) (sym (append-nil body));
    }

pub returns : goal.returns
returns g c =
    let new = g.N.Seen.screen c.args.new.now in
    let first = flat_map text_of (hiding true) in
    record {
      painting = painting_is (g.O.Seen.screen c.args.old.now) new c.in_ok-body.body.items c.in_ok-text.text.items true c.in_ok-body.ensures.body
          (λ e. absurd (false≢true (sym e)))
          (c.in_ok-text.ensures.text ∙ ap (λ l. first ++ (l ++ flat_map text_of (revealing true c.visible.result))) c.deref.ensures.value
          ∙ ap (λ b. first ++ (c.in_ok-body.body.items ++ flat_map text_of (revealing true b))) c.visible.ensures.visible);
    }
