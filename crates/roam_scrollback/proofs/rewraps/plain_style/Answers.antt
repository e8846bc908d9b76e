use Rattle.std.proofs.Common.{◌≡◌, ◌==◌, ℕ, None, Some, if◌then◌else◌, sym, ap, ◌∙◌, arith}
use Rattle.std.proofs.lemmas.Option.{none-some}
use Rattle.roam_cells.specs.Width.{width_of}
use Rattle.roam_cells.proofs.Ascii.{ascii_width}
use Rattle.roam_scrollback.proofs.rewraps.plain_style.Goals as goal
use Rattle.roam_term.specs.Terminal.{glyph_in}

pub returns-in_err-ink-clause-none : goal.returns-in_err-ink-clause-none
returns-in_err-ink-clause-none c =
    let pen = c.args.canvas.now.live.pen in
    let one : width_of 0x61 ≡ 1 = ascii_width 0x61 (omega arith) (omega arith) in
    absurd (none-some (glyph_in 0x61 pen)
    (sym c.in_err-ink.was ∙ c.inked.ensures.inked ∙ ap (λ (w : ℕ). if w == 0 then None else Some (glyph_in 0x61 pen)) one))
