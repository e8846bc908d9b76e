use Rattle.std.proofs.Common.{◌≡◌, if◌then◌else◌, [], ◌++◌, sym, ap, ◌∙◌}
use Rattle.std.specs.List.{flat_map}
use Rattle.std.proofs.lemmas.List.{append-nil}
use Rattle.roam_cells.specs.Inks.{style_numbered}
use Rattle.roam_cells.specs.Same.{same_style}
use Rattle.roam_cells.proofs.SameCells.{style_again}
use Rattle.roam_paint.specs.Sequences.{spelling_of}
use Rattle.roam_term.specs.ControlFunctions.{restyle}
use Rattle.roam_scrollback.proofs.row_texts.wear.Goals as goal

pub returns-then-number-worn-clause-text : goal.returns-then-number-worn-clause-text
returns-then-number-worn-clause-text c =
    let style = c.args.cell.now.style in
    let worn = c.args.worn.style in
    let text = c.args.text.now.items in
    let is : style ≡ worn =
    sym c.style_number-number.ensures.style ∙ ap style_numbered c.if-number-worn.true ∙ c.requires.worn in
    sym
    (ap (λ s. text ++ flat_map spelling_of (if (same_style style s) then [] else restyle style)) (sym is)
    ∙ ap (λ b. text ++ flat_map spelling_of (if b then [] else restyle style)) (style_again style) ∙ append-nil text)
