use Rattle.std.proofs.Common.{[], ◌∷◌, refl, sym, ap, ◌∙◌}
use Rattle.std.specs.Prelude.{None}
use Rattle.roam_controls.specs.declared.commands.Command.TheVariants.{Sets}
use Rattle.roam_controls.specs.declared.settings.Setting.TheVariants.{Rendition}
use Rattle.roam_text.specs.Dispatched.{function_of}
use Rattle.roam_text.specs.Log.{Byte}
use Rattle.roam_text.specs.declared.functions.Dispatch.TheVariants.{Csi}
use Rattle.roam_term.specs.Terminal.{answer, commanded_by}
use Rattle.roam_term.proofs.Dispatches.{changed-dispatch, kept-dispatch, marked-dispatch}
use Rattle.roam_term.proofs.Lists.{append-nil}
use Rattle.roam_term.proofs.Runs.{follows-out}
use Rattle.roam_term.proofs.Scrollback.{main_stays}
use Rattle.roam_term.proofs.terms.Term.feed_rendition.Goals as goal

pub returns-then-end_rendition-clause-fed : goal.returns-then-end_rendition-clause-fed
unfolding answer
returns-then-end_rendition-clause-fed c =
    let live = c.self.inside.canvas.live in
    let marks = c.self.inside.canvas.marks in
    let history = c.self.inside.history in
    let waiting = c.self.inside.output in
    let reader = c.end_rendition.new.self in
    rw (← c.self.view_is)
    (follows-out _ _ (Byte 0x6D ∷ []) (function_of (Csi None 0x6D) reader.parameters [] ∷ [])
    (c.if-end_rendition.ensures.stands refl) (c.if-end_rendition.ensures.gained refl)
    (c.restyle.ensures.performed ∙ ap (λ p. commanded_by (Sets Rendition) p live) c.parameters.ensures.lent
    ∙ sym (changed-dispatch (Csi None 0x6D) reader.parameters [] live))
    (sym (main_stays live.alternate history c.stays.ensures.stays) ∙ sym (kept-dispatch (Csi None 0x6D) reader.parameters [] live history))
    (sym (append-nil waiting))
    (c.restyle.ensures.marks ∙ sym (marked-dispatch (Csi None 0x6D) reader.parameters [] live marks)))
