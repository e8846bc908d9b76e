-- How a screen is kept row by row.
use Rattle.roam_screens.specs.Screenshot.{Screenshot, IsScreenshot}
use Rattle.roam_screens.specs.Lines.{cells_in_order, AreLines}
use Rattle.roam_screens.specs.declared.row_shots.RowShot.TheInside.{Inside}

-- the screen that the fields keep
abbrev pub shown_by : Inside → Screenshot
shown_by a =
    record {
      rows = a.rows;
      cols = a.cols;
      cells = cells_in_order a.lines.items;
      cursor_row = a.cursor.0;
      cursor_col = a.cursor.1;
      visible = a.visible;
    }

-- its rows are as many and as long as the screen says, and it is one that is shown
pub record IsRowed (a : Inside) : Type 0 where
  pub lines : AreLines a.rows a.cols a.lines.items
  pub screen : IsScreenshot (shown_by a)
