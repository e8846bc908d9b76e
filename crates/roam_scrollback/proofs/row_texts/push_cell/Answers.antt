use Rattle.std.proofs.Common.{rules}
use Rattle.roam_scrollback.proofs.RowTexts.{cell_text}
use Rattle.roam_scrollback.proofs.row_texts.push_cell.Goals as goal

pub returns-clause-text : goal.returns-clause-text
returns-clause-text c =
    cell_text c.args.worn.style c.args.cell.now c.args.text.now.items c.wear.new.text.items c.push_text.new.text.items (search rules) (search rules)
    (search rules)
