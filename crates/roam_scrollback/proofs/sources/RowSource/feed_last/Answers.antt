use Rattle.std.proofs.Common.{[], ◌∷◌, false, None, refl, sym, subst, ◌∙◌}
use Rattle.roam_text.specs.Log.{Byte}
use Rattle.roam_text.specs.Dispatched.{function_of}
use Rattle.roam_text.specs.declared.functions.Dispatch.TheVariants.{Csi}
use Rattle.roam_scrollback.specs.Lines.{Writes}
use Rattle.roam_scrollback.specs.Sources.{Sheds}
use Rattle.roam_scrollback.proofs.Shedding.{sheds-out}
use Rattle.roam_scrollback.proofs.Through.{styled, unmoved, unwrapped}
use Rattle.roam_scrollback.proofs.Writing.{writes-none}
use Rattle.roam_scrollback.proofs.sources.RowSource.feed_last.Goals as goal

pub returns-then-end_rendition : goal.returns-then-end_rendition
returns-then-end_rendition c =
    let surface = c.self.inside.surface in
    let lines = c.args.lines.now in
    let params = c.end_rendition.new.self.parameters in
    let last = sym c.if-byte-eq109.true in
    record {
      sheds =
          subst
          (λ b. Sheds c.args.self.now (record { reader = c.end_rendition.new.self; live = c.restyle.new.self.live; wraps = c.restyle.new.self.wraps })
          lines lines false (Byte b ∷ []))
          last
          (rw (← c.self.view_is)
          (sheds-out _ _ lines lines false (Byte 0x6D ∷ []) (function_of (Csi None 0x6D) params [] ∷ [])
          (c.if-end_rendition.ensures.stands refl)
          (c.if-end_rendition.ensures.gained refl)
          (c.restyle.ensures.performed ∙ styled params _ surface.live c.parameters.ensures.lent)
          (c.restyle.ensures.wraps ∙ sym (unwrapped params surface.live surface.wraps))
          (subst (λ rows. Writes lines lines rows) (sym (unmoved params surface.live surface.wraps)) (writes-none lines c.facts.ensures.lost))
          refl));
    }
