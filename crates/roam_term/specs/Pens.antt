-- The style of printed characters, and the state that DECSC saves.
use Rattle.std.specs.Prelude.{false}
use Rattle.roam_cells.specs.Glyph.{default_style}
use Rattle.roam_charset.specs.Sets.{started_sets}
use Rattle.roam_cells.specs.Inks.{InkValue}
use Rattle.roam_term.specs.declared.pens.Saved.{Saved}

-- the default rendition, unguarded
abbrev pub plain_pen : InkValue
plain_pen = record { style = default_style; guarded = false }

-- the state that DECRC restores if nothing is saved: the start's values (this project's profile)
abbrev pub nothing_saved : Saved
nothing_saved = record { row = 0; col = 0; pending = false; pen = plain_pen; sets = started_sets; origin = false }
