-- The values of a grid's fields, and the facts about them.
use Rattle.roam_grid.specs.Screen.{Screen, GridView, IsFrame}
use Rattle.roam_grid.specs.declared.grids.Grid.TheInside.{Inside}

-- the screen of the fields: its size and cells are those of the rows
abbrev pub screen_of : Inside → Screen
screen_of a =
    record {
      rows = a.ring.rows;
      cols = a.ring.cols;
      cells = a.ring.cells;
      row = a.row;
      col = a.col;
      pending = a.pending;
      top = a.top;
      bottom = a.bottom;
      stops = a.stops;
    }

-- the value of the fields for contracts
abbrev pub view_of : Inside → GridView
view_of a = record { screen = screen_of a; first = a.ring.first; marks = a.marks }

-- the facts about the fields of every grid
abbrev pub IsKept : Inside → Type 0
IsKept a = IsFrame (screen_of a)
