-- The result of a text on a base, by the results of the tests.
use Rattle.std.proofs.Common.{◌≡◌, ℕ, ◌*◌, ◌<◌, ◌≤◌, Bool, true, false, cond, leb, List, length, drop, Option, Some, None, refl, sym, ap, subst, ◌∙◌}
use Rattle.std.specs.Prelude.{All, option_and_then, slice_index}
use Rattle.std.proofs.lemmas.Bool.{le-leb, lt-leb, leb-true, and_parts}
use Rattle.std.proofs.lemmas.Option.{cond_some}
use Rattle.std.proofs.lemmas.List.Elements.{All-get_or}
use Rattle.byteorder.specs.Endian.{big_number}
use Rattle.roam_cells.specs.Glyph.{Glyph, blank}
use Rattle.roam_cells.specs.Limits.{IsSize}
use Rattle.roam_cells.specs.Place.{AreWhole}
use Rattle.roam_screens.specs.Screenshot.{Screenshot, IsScreenshot, IsPlace}
use Rattle.roam_update.specs.CellText.{IsPlain}
use Rattle.roam_update.specs.ChangeText.{change_of, runs_read}
use Rattle.roam_update.specs.Styles.{Numbered}
use Rattle.roam_update.specs.TableText.{Table, has_front, front_at, numbered_read, table_in}
use Rattle.roam_update.specs.Tabled.{head_of_text, HasHead, HasTable, HasStart, cells_behind, cells_in}
use Rattle.roam_update.specs.Put.{cells_by}
use Rattle.roam_update.specs.Runs.{Run, patched_cells}
use Rattle.roam_update.specs.Shots.{applied_two, if_screenshot, screen_by, shown_by}
use Rattle.roam_update.specs.Sizes.{sized_cells}
use Rattle.roam_update.specs.Tested.{is_size}
use Rattle.roam_update.specs.declared.change_text.Head.{Head}
use Rattle.roam_update.proofs.Plain.{if_some, put_length, put_plain, sized_plain}
use Rattle.roam_update.proofs.Sizing.{length_sized}
use Rattle.roam_update.proofs.Testing.{size_is, is_screenshot_of, no_screenshot}

abbrev finished : Head → Option (List Glyph) → Option Screenshot
finished h None = None
finished h (Some cells) = if_screenshot (shown_by h cells)

over : (base : Screenshot) (h : Head) (o : Option (List Run))
    → option_and_then (λ x. if_screenshot (screen_by base x)) (option_and_then (λ runs. Some (change_of h runs)) o)
    ≡ finished h (option_and_then (λ runs. Some (patched_cells (sized_cells h.rows h.cols base) runs)) o)
over base h None = refl
over base h (Some runs) = refl

-- the same over the runs behind a table
over_runs : (base : Screenshot) (h : Head) (table : Table) (b : Bool) → leb 4 (length table.rest) ≡ b
    → option_and_then (λ x. if_screenshot (screen_by base x)) (option_and_then (λ runs. Some (change_of h runs)) (numbered_read (h.rows * h.cols) table))
    ≡ finished h (cells_behind base h table)
over_runs base h table false e = rw e refl
over_runs base h table true e =
    let start = sized_cells h.rows h.cols base in
    let n = big_number 4 table.rest in
    rw e (over base h (runs_read (Numbered table.styles 0) n 0 (h.rows * h.cols) (drop 4 table.rest))
    ∙ ap (λ (k : ℕ). finished h (option_and_then (λ runs. Some (patched_cells start runs)) (runs_read (Numbered table.styles 0) n 0 k (drop 4 table.rest)))) (sym (length_sized h.rows h.cols base)))

over_table : (base : Screenshot) (h : Head) (o : Option Table)
    → option_and_then (λ x. if_screenshot (screen_by base x))
    (option_and_then (λ table. option_and_then (λ runs. Some (change_of h runs)) (numbered_read (h.rows * h.cols) table)) o)
    ≡ finished h (option_and_then (cells_behind base h) o)
over_table base h None = refl
over_table base h (Some table) = over_runs base h table (leb 4 (length table.rest)) refl

applied_is : (base : Screenshot) (text : List ℕ) → has_front text ≡ true → applied_two base text ≡ finished (front_at text) (cells_in base (front_at text) text)
applied_is base text e = rw e (over_table base (front_at text) (table_in text))

-- the cells that the runs behind a table make
pub cells_in_is : (base : Screenshot) (h : Head) (text : List ℕ) (table : Table) → table_in text ≡ Some table → 4 ≤ length table.rest
    → cells_in base h text ≡ cells_by (Numbered table.styles 0) (big_number 4 table.rest) base h (drop 4 table.rest)
cells_in_is base h text table e long = ap (λ (o : Option Table). option_and_then (cells_behind base h) o) e ∙ rw (le-leb 4 (length table.rest) long) refl

-- there are none if no number of runs follows the table
pub no_cells_in : (base : Screenshot) (h : Head) (text : List ℕ) (table : Table) → table_in text ≡ Some table → length table.rest < 4 → cells_in base h text ≡ None
no_cells_in base h text table e short = ap (λ (o : Option Table). option_and_then (cells_behind base h) o) e ∙ rw (lt-leb 4 (length table.rest) short) refl

module _ (base : Screenshot) (text : List ℕ) (h : Head) (read : head_of_text text ≡ Some h) where
  parts : (has_front text ≡ true) × (front_at text ≡ h)
  parts = cond_some (has_front text) (front_at text) h read

  by_head : applied_two base text ≡ finished h (cells_in base h text)
  by_head = applied_is base text parts.0 ∙ ap (λ (x : Head). finished x (cells_in base x text)) parts.1

  pub head_size : IsSize h.rows h.cols
  head_size =
      let a = and_parts (leb 12 (length text)) _ parts.0 in
      let b = and_parts (leb (slice_index text 8) 1) (is_size (big_number 2 text) (big_number 2 (drop 2 text))) a.1 in
      subst (λ (x : Head). IsSize x.rows x.cols) parts.1 (size_is (big_number 2 text) (big_number 2 (drop 2 text)) b.1)

  pub head_long : 12 ≤ length text
  head_long = leb-true 12 (length text) (and_parts (leb 12 (length text)) _ parts.0).0

  pub has_start : IsPlace h.rows h.cols h.cursor_row h.cursor_col → HasTable h text → HasStart text
  has_start place table = (subst HasHead (sym read) place, subst (λ (x : Head). HasTable x text) (sym parts.1) table)

  off_screen : ¬ IsPlace h.rows h.cols h.cursor_row h.cursor_col → (o : Option (List Glyph)) → finished h o ≡ None
  off_screen n None = refl
  off_screen n (Some cells) = ap (λ (b : Bool). cond b (Some (shown_by h cells)) None) (no_screenshot (shown_by h cells) (λ s. n s.cursor))

  not_whole_by : (o : Option (List Glyph)) → ((cells : List Glyph) → o ≡ Some cells → ¬ AreWhole h.rows h.cols cells) → finished h o ≡ None
  not_whole_by None n = refl
  not_whole_by (Some cells) n = ap (λ (b : Bool). cond b (Some (shown_by h cells)) None) (no_screenshot (shown_by h cells) (λ s. n cells refl s.whole))

  -- there are no cells of whole rows
  pub not_whole : ((cells : List Glyph) → cells_in base h text ≡ Some cells → ¬ AreWhole h.rows h.cols cells) → applied_two base text ≡ None
  not_whole n = by_head ∙ not_whole_by (cells_in base h text) n

  pub no_place : ¬ IsPlace h.rows h.cols h.cursor_row h.cursor_col → applied_two base text ≡ None
  no_place n = by_head ∙ off_screen n (cells_in base h text)

  -- the table and the rest of the text that gave cells
  behind : (o : Option Table) (cells : List Glyph) → option_and_then (cells_behind base h) o ≡ Some cells
      → (table : Table) × (cells_by (Numbered table.styles 0) (big_number 4 table.rest) base h (drop 4 table.rest) ≡ Some cells)
  behind None cells e = absurd cc
  behind (Some table) cells e = (table, (if_some (leb 4 (length table.rest)) _ cells e).1)

  module _ (cells : List Glyph) (put : cells_in base h text ≡ Some cells) where
    pub shown : IsScreenshot (shown_by h cells) → applied_two base text ≡ Some (shown_by h cells)
    shown s = by_head ∙ ap (finished h) put ∙ ap (λ (b : Bool). cond b (Some (shown_by h cells)) None) (is_screenshot_of (shown_by h cells) s)

    pub count : length cells ≡ h.rows * h.cols
    count =
        let by = behind (table_in text) cells put in
        put_length (Numbered by.0.styles 0) (big_number 4 by.0.rest) 0 (sized_cells h.rows h.cols base) (drop 4 by.0.rest) cells by.1 ∙ length_sized h.rows h.cols base

    pub plain : IsScreenshot base → All IsPlain cells
    plain s =
        let by = behind (table_in text) cells put in
        put_plain (Numbered by.0.styles 0) (big_number 4 by.0.rest) 0 (sized_cells h.rows h.cols base) (drop 4 by.0.rest) cells (sized_plain h.rows h.cols base s) by.1

    pub is_screen : IsScreenshot base → IsPlace h.rows h.cols h.cursor_row h.cursor_col → AreWhole h.rows h.cols cells → IsScreenshot (shown_by h cells)
    is_screen s place whole =
        let all = plain s in
        record {
          size = head_size;
          count = count;
          cursor = place;
          whole = whole;
          unguarded = λ k p. (All-get_or IsPlain cells k blank p all).unguarded;
          shown = λ k p. (All-get_or IsPlain cells k blank p all).shown;
        }
