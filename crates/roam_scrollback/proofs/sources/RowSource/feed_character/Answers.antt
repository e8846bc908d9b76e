use Rattle.std.proofs.Common.{false, [], ◌∷◌, map, take, refl, sym, subst, ◌∙◌}
use Rattle.std.proofs.lemmas.List.{append-nil}
use Rattle.roam_text.specs.Log.{Byte}
use Rattle.roam_text.specs.declared.functions.Function.TheVariants.{Print}
use Rattle.roam_term.proofs.Prints.{changed-print}
use Rattle.roam_scrollback.specs.Lines.{Writes}
use Rattle.roam_scrollback.proofs.Shedding.{sheds-out}
use Rattle.roam_scrollback.proofs.Through.{rows-print, wraps-print}
use Rattle.roam_scrollback.proofs.sources.RowSource.feed_character.Goals as goal

pub returns-in-Some-clause-sheds : goal.returns-in-Some-clause-sheds
returns-in-Some-clause-sheds c =
    let ch = c.in-Some.c in
    let surface = c.self.inside.surface in
    let bs = take c.in-Some.size c.args.piece.now in
    rw (← c.self.view_is)
    (sheds-out _ _ c.args.lines.now c.perform.new.lines false (map Byte bs) (Print ch ∷ [])
    c.in-Some.ensures.stands
    c.in-Some.ensures.gained
    (c.perform.ensures.live ∙ sym (changed-print ch surface.live))
    (c.perform.ensures.wraps ∙ sym (wraps-print ch surface.live surface.wraps))
    (subst (λ rows. Writes c.args.lines.now c.perform.new.lines rows)
    (sym (rows-print ch surface.live surface.wraps) ∙ sym (append-nil _)) c.perform.ensures.written)
    refl)
