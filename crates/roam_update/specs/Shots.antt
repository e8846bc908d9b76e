-- The result of a diff on a screen, and the diff that leads from one screen to another.
use Rattle.std.specs.Prelude.{◌≡◌, ℕ, List, Option, Some, None, option_and_then, if◌then◌else◌}
use Rattle.roam_screens.specs.Screenshot.{Screenshot, IsScreenshot}
use Rattle.roam_update.specs.Runs.{runs_between, patched_cells}
use Rattle.roam_update.specs.Sizes.{sized_cells}
use Rattle.roam_update.specs.ChangeText.{Change, Spells, change_text, change_read}
use Rattle.roam_update.specs.TableText.{SpellsTabled, tabled_text, tabled_read}
use Rattle.roam_update.specs.Tested.{is_screenshot, is_old_screenshot}
use Rattle.roam_cells.specs.Glyph.{Glyph}
use Rattle.roam_screens.specs.Narrow.{IsOldScreenshot}
use Rattle.roam_update.specs.declared.change_text.Head.{Head}

-- a base brought to a diff's size, with the cells of its runs and its cursor
abbrev pub screen_by : Screenshot → Change → Screenshot
screen_by base x =
    record {
      rows = x.rows;
      cols = x.cols;
      cells = patched_cells (sized_cells x.rows x.cols base) x.runs;
      cursor_row = x.cursor_row;
      cursor_col = x.cursor_col;
      visible = x.visible;
    }

-- a value if it is a screen that can be shown, else none
abbrev pub if_screenshot : Screenshot → Option Screenshot
if_screenshot s = if is_screenshot s then Some s else None

-- the result of a text of version 2 on a base: none if it spells no diff, or the result is no screen that can be shown
abbrev pub applied_two : Screenshot → List ℕ → Option Screenshot
applied_two base text = option_and_then (λ x. if_screenshot (screen_by base x)) (tabled_read text)

-- a value if it is a screen of version 1, else none
abbrev pub if_old_screenshot : Screenshot → Option Screenshot
if_old_screenshot s = if is_old_screenshot s then Some s else None

-- the result of a text of version 1 on a base
abbrev pub applied_one : Screenshot → List ℕ → Option Screenshot
applied_one base text = option_and_then (λ x. if_old_screenshot (screen_by base x)) (change_read text)

-- a text spells a diff that makes of a base a screen that is shown, and this is the screen
pub record Makes (base : Screenshot) (text : List ℕ) (s : Screenshot) : Type 0 where
  pub change : Change
  pub spells : SpellsTabled change text
  pub screen : screen_by base change ≡ s
  pub shown : IsScreenshot s

-- the diff that names, in maximal runs, exactly the places at which a screen differs from the base brought to its size
abbrev pub change_to : Screenshot → Screenshot → Change
change_to base s =
    record {
      rows = s.rows;
      cols = s.cols;
      cursor_row = s.cursor_row;
      cursor_col = s.cursor_col;
      visible = s.visible;
      runs = runs_between (sized_cells s.rows s.cols base) s.cells;
    }

-- the text of version 2 of the diff that leads from a base, the first, to a screen
abbrev pub difference_two : Screenshot → Screenshot → List ℕ
difference_two base s = tabled_text (change_to base s)

-- a text of version 1 spells a diff that makes of a base a screen of version 1, and this is the screen
pub record MakesOld (base : Screenshot) (text : List ℕ) (s : Screenshot) : Type 0 where
  pub change : Change
  pub spells : Spells change text
  pub screen : screen_by base change ≡ s
  pub shown : IsOldScreenshot s

-- the text of version 1 of the diff that leads from a base, the first, to a screen
abbrev pub difference_one : Screenshot → Screenshot → List ℕ
difference_one base s = change_text (change_to base s)

-- the screen of a diff's head and cells
abbrev pub shown_by : Head → List Glyph → Screenshot
shown_by h cells =
    record { rows = h.rows; cols = h.cols; cells = cells; cursor_row = h.cursor_row; cursor_col = h.cursor_col; visible = h.visible }
