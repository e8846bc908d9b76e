use Rattle.std.proofs.Common.{[], ◌∷◌, ◌++◌, sym, subst}
use Rattle.roam_text.specs.Dispatched.{functions_by}
use Rattle.roam_text.specs.Log.{Byte}
use Rattle.roam_text.specs.Stands.{Stands}
use Rattle.roam_scrollback.specs.Sources.{Sheds}
use Rattle.roam_scrollback.proofs.Shedding.{sheds-out}
use Rattle.roam_scrollback.proofs.sources.RowSource.feed_byte.Goals as goal

pub returns : goal.returns
returns c =
    let b = c.args.byte in
    let reader = c.dispatch-step.new.self in
    let done = c.take_in in
    record {
      sheds =
          subst (λ old. Sheds old done.new.self c.args.lines.now done.new.lines done.result (Byte b ∷ [])) c.self.view_is
          (sheds-out _ done.new.self c.args.lines.now done.new.lines done.result (Byte b ∷ [])
          (functions_by c.dispatch-step.result reader.parameters reader.intermediates)
          (λ log stands. subst (λ r. Stands r (log ++ Byte b ∷ [])) (sym done.ensures.reader) (c.dispatch-step.ensures.stands log stands))
          c.dispatch-step.ensures.gained done.ensures.live done.ensures.wraps done.ensures.written done.ensures.cleared);
    }
