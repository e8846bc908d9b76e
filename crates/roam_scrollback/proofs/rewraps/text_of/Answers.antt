use Rattle.std.proofs.Common.{◌++◌, sym, ap, subst, ◌∙◌, append_assoc}
use Rattle.roam_cells.specs.Glyph.{IsStyle}
use Rattle.roam_controls.specs.declared.modes.Modes.{Modes}
use Rattle.roam_repaint.specs.Repainted.{MayPend}
use Rattle.roam_repaint.specs.Repainting.{Repaint, repaint_text}
use Rattle.roam_screens.specs.Screenshot.{IsScreenshot, Screenshot}
use Rattle.roam_scrollback.specs.Rewraps.{closing, opening}
use Rattle.roam_scrollback.proofs.rewraps.text_of.Goals as goal

pub returns-clause-text : goal.returns-clause-text
returns-clause-text c =
    let live = c.args.canvas.now.live in
    let plain = c.in-Some.ensures.plain in
    let ending = c.ending_of-ending in
    let modes = c.modes-modes.ensures.modes in
    let shot : Screenshot = c.shot-2.result.now in
    let repaint : Repaint = record { shot = shot; pending = ending.result.pending; style = ending.result.style; wraps = ending.result.wraps } in
    record {
      unguarded = plain.1;
      origin = ap (λ (m : Modes). m.origin) (sym modes) ∙ c.if-modes.false;
      repaint = repaint;
      painted = subst IsScreenshot (c.shot.ensures.shot ∙ sym c.shot-2.ensures.shot) c.facts.ensures.screenshot;
      styled = subst IsStyle (sym ending.ensures.style) plain.2;
      shot = c.shot-2.ensures.shot;
      style = ending.ensures.style ∙ plain.0;
      wraps = ending.ensures.wraps ∙ ap (λ (m : Modes). m.autowrap) modes;
      asked = ending.ensures.asked;
      pends = λ pending.
          subst
          (λ (s : Screenshot). MayPend (record { shot = s; pending = ending.result.pending; style = ending.result.style; wraps = ending.result.wraps }))
          (sym c.shot-2.ensures.shot) (ending.ensures.pends pending);
      due = λ asked may.
          ending.ensures.due asked
          (subst
          (λ (s : Screenshot). MayPend (record { shot = s; pending = ending.result.pending; style = ending.result.style; wraps = ending.result.wraps }))
          c.shot-2.ensures.shot may);
      is =
          c.in_ok-push_closing.ensures.text
          ∙ ap (λ l. l ++ closing c.modes-modes.result)
          (c.in_ok-push_repaint.ensures.text
          ∙ ap (λ l. l ++ repaint_text repaint) (c.in_ok-extend_from_slice.ensures.items ∙ ap (λ l. l ++ opening) c.new-text.ensures.items))
          ∙ append_assoc opening (repaint_text repaint) (closing c.modes-modes.result)
          ∙ ap (λ m. opening ++ (repaint_text repaint ++ closing m)) modes;
    }
