-- Erasures: their effect on a screen.
use Rattle.std.specs.Prelude.{max}
use Rattle.roam_grid.specs.Screen.{Screen}
use Rattle.roam_grid.specs.Erasing.{erased_in_page, erased_in_line, erased_selectively_in_page, erased_selectively_in_line}
use Rattle.roam_grid.specs.Editing.{cells_erased}
use Rattle.roam_controls.specs.declared.erasures.Erasure.{Erasure}
use Rattle.roam_controls.specs.declared.erasures.Erasure.TheVariants.{InPage, InLine, SelectivelyInPage, SelectivelyInLine, Cells}

abbrev pub erased_by : Erasure → Screen → Screen
erased_by (InPage extent) s = erased_in_page extent s
erased_by (InLine extent) s = erased_in_line extent s
erased_by (SelectivelyInPage extent) s = erased_selectively_in_page extent s
erased_by (SelectivelyInLine extent) s = erased_selectively_in_line extent s
erased_by (Cells n) s = cells_erased (max n 1) s
