use Rattle.std.proofs.Common.{[], ◌∷◌, ◌++◌, sym, ap, ◌∙◌, append_assoc}
use Rattle.std.specs.Prelude.{if◌then◌else◌}
use Rattle.roam_cells.specs.Glyph.{default_style}
use Rattle.roam_paint.specs.Sequences.{spelling_of}
use Rattle.roam_term.specs.ControlFunctions.{place_cursor, set_style}
use Rattle.roam_paint.proofs.Loops.{closing_is}
use Rattle.roam_paint.proofs.painting.close_painting.Goals as goal

pub returns : goal.returns
returns c =
    let start = c.args.text.now.items in
    let x = spelling_of (set_style default_style) in
    let y = spelling_of (place_cursor c.args.cursor.0 c.args.cursor.1) in
    let z = if c.args.visible then 0x1B ∷ 0x5B ∷ 0x3F ∷ 0x32 ∷ 0x35 ∷ 0x68 ∷ [] else [] in
    record {
      text = c.in_ok-push_show_cursor.ensures.text
          ∙ ap (λ l. l ++ z) (c.in_ok-push_place_cursor.ensures.text
          ∙ ap (λ l. l ++ y) (c.in_ok-push_set_style.ensures.text ∙ ap (λ s. start ++ spelling_of (set_style s)) c.default.ensures))
          ∙ append_assoc (start ++ x) y z ∙ append_assoc start x (y ++ z)
          ∙ ap (λ l. start ++ l) (sym (closing_is c.args.cursor.0 c.args.cursor.1 c.args.visible));
    }
