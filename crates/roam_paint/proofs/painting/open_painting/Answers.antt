use Rattle.std.proofs.Common.{[], ◌∷◌, ◌++◌, sym, ap, ◌∙◌, append_assoc}
use Rattle.std.specs.Prelude.{if◌then◌else◌}
use Rattle.roam_paint.proofs.Loops.{opening_is}
use Rattle.roam_paint.proofs.painting.open_painting.Goals as goal

pub returns : goal.returns
returns c =
    let start = c.args.text.now.items in
    let more = if c.args.same then [] else 0x1B ∷ 0x5B ∷ 0x32 ∷ 0x4A ∷ [] in
    record {
      text = c.in_ok-push_erase_all.ensures.text ∙ ap (λ l. l ++ more) c.in_ok-push_hide_cursor.ensures.text
          ∙ append_assoc start (0x1B ∷ 0x5B ∷ 0x3F ∷ 0x32 ∷ 0x35 ∷ 0x6C ∷ []) more ∙ ap (λ l. start ++ l) (sym (opening_is c.args.same));
    }
