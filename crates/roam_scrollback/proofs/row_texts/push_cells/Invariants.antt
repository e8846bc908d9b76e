use Rattle.std.proofs.Common.{◌≡◌, ◌++◌, drop}
use Rattle.std.specs.List.{flat_map}
use Rattle.roam_cells.specs.Glyph.{default_style}
use Rattle.roam_cells.specs.Inks.{style_numbered}
use Rattle.roam_paint.specs.Sequences.{spelling_of}
use Rattle.roam_scrollback.specs.RowText.{row_words}
use Rattle.roam_scrollback.proofs.row_texts.push_cells.Given as goal

abbrev pub invariant-loop-cell : goal.invariant-loop-cell
invariant-loop-cell l = record {
  text : l.text.items ++ flat_map spelling_of (row_words l.worn.style (drop l.cell-index l.row))
      ≡ l.initial.text.items ++ flat_map spelling_of (row_words default_style l.row);
  worn : style_numbered l.worn.number ≡ l.worn.style;
}
