-- The result of a text on a base, by the results of the tests.
use Rattle.std.proofs.Common.{◌≡◌, ℕ, ◌*◌, ◌≤◌, Bool, true, cond, leb, List, length, drop, Option, Some, None, refl, sym, ap, subst, ◌∙◌}
use Rattle.std.specs.Prelude.{All, option_and_then, slice_index}
use Rattle.std.proofs.lemmas.Bool.{leb-true, and_parts}
use Rattle.std.proofs.lemmas.Option.{cond_some}
use Rattle.std.proofs.lemmas.List.Elements.{All-get_or}
use Rattle.byteorder.specs.Endian.{big_number}
use Rattle.roam_cells.specs.Glyph.{Glyph, blank}
use Rattle.roam_cells.specs.Limits.{IsSize}
use Rattle.roam_screens.specs.Narrow.{IsOldScreenshot}
use Rattle.roam_cells.specs.Place.{AreWhole}
use Rattle.roam_screens.specs.Screenshot.{Screenshot, IsScreenshot, IsPlace}
use Rattle.roam_update.specs.CellText.{IsPlain}
use Rattle.roam_update.specs.ChangeText.{change_of, has_head, head_at, body_read, runs_read}
use Rattle.roam_update.specs.Styles.{Whole}
use Rattle.roam_update.specs.Tabled.{old_head_of_text, old_cells_in}
use Rattle.roam_update.specs.Runs.{Run, patched_cells}
use Rattle.roam_update.specs.Shots.{applied_one, if_old_screenshot, screen_by, shown_by}
use Rattle.roam_update.specs.Sizes.{sized_cells}
use Rattle.roam_update.specs.Tested.{is_size}
use Rattle.roam_update.specs.declared.change_text.Head.{Head}
use Rattle.roam_update.proofs.Plain.{put_length, put_plain, sized_plain}
use Rattle.roam_update.proofs.Short.{IsShort, put_short, sized_short}
use Rattle.roam_update.proofs.Sizing.{length_sized}
use Rattle.roam_update.proofs.Testing.{size_is, is_old_screenshot_of, no_old_screenshot}

abbrev finished : Head → Option (List Glyph) → Option Screenshot
finished h None = None
finished h (Some cells) = if_old_screenshot (shown_by h cells)

over : (base : Screenshot) (h : Head) (o : Option (List Run))
    → option_and_then (λ x. if_old_screenshot (screen_by base x)) (option_and_then (λ runs. Some (change_of h runs)) o)
    ≡ finished h (option_and_then (λ runs. Some (patched_cells (sized_cells h.rows h.cols base) runs)) o)
over base h None = refl
over base h (Some runs) = refl

applied_is : (base : Screenshot) (text : List ℕ) → has_head text ≡ true → applied_one base text ≡ finished (head_at text) (old_cells_in base (head_at text) text)
applied_is base text e =
    let h = head_at text in
    let start = sized_cells h.rows h.cols base in
    rw e (over base h (body_read h text)
    ∙ ap (λ (n : ℕ). finished h (option_and_then (λ runs. Some (patched_cells start runs)) (runs_read Whole h.runs 0 n (drop 13 text)))) (sym (length_sized h.rows h.cols base)))

module _ (base : Screenshot) (text : List ℕ) (h : Head) (read : old_head_of_text text ≡ Some h) where
  parts : (has_head text ≡ true) × (head_at text ≡ h)
  parts = cond_some (has_head text) (head_at text) h read

  by_head : applied_one base text ≡ finished h (old_cells_in base h text)
  by_head = applied_is base text parts.0 ∙ ap (λ (x : Head). finished x (old_cells_in base x text)) parts.1

  pub head_size : IsSize h.rows h.cols
  head_size =
      let a = and_parts (leb 13 (length text)) _ parts.0 in
      let b = and_parts (leb (slice_index text 8) 1) (is_size (big_number 2 text) (big_number 2 (drop 2 text))) a.1 in
      subst (λ (x : Head). IsSize x.rows x.cols) parts.1 (size_is (big_number 2 text) (big_number 2 (drop 2 text)) b.1)

  pub head_long : 13 ≤ length text
  head_long = leb-true 13 (length text) (and_parts (leb 13 (length text)) _ parts.0).0

  off_screen : ¬ IsPlace h.rows h.cols h.cursor_row h.cursor_col → (o : Option (List Glyph)) → finished h o ≡ None
  off_screen n None = refl
  off_screen n (Some cells) = ap (λ (b : Bool). cond b (Some (shown_by h cells)) None) (no_old_screenshot (shown_by h cells) (λ s. n s.screenshot.cursor))

  not_whole_by : (o : Option (List Glyph)) → ((cells : List Glyph) → o ≡ Some cells → ¬ AreWhole h.rows h.cols cells) → finished h o ≡ None
  not_whole_by None n = refl
  not_whole_by (Some cells) n = ap (λ (b : Bool). cond b (Some (shown_by h cells)) None) (no_old_screenshot (shown_by h cells) (λ s. n cells refl s.screenshot.whole))

  -- there are no cells of whole rows
  pub not_whole : ((cells : List Glyph) → old_cells_in base h text ≡ Some cells → ¬ AreWhole h.rows h.cols cells) → applied_one base text ≡ None
  not_whole n = by_head ∙ not_whole_by (old_cells_in base h text) n

  pub no_place : ¬ IsPlace h.rows h.cols h.cursor_row h.cursor_col → applied_one base text ≡ None
  no_place n = by_head ∙ off_screen n (old_cells_in base h text)

  -- a size that is none of version 1
  too_large : ¬ ((h.rows ≤ 100) × (h.cols ≤ 250)) → (o : Option (List Glyph)) → finished h o ≡ None
  too_large n None = refl
  too_large n (Some cells) = ap (λ (b : Bool). cond b (Some (shown_by h cells)) None) (no_old_screenshot (shown_by h cells) (λ s. n (s.rows, s.cols)))

  pub no_size : ¬ ((h.rows ≤ 100) × (h.cols ≤ 250)) → applied_one base text ≡ None
  no_size n = by_head ∙ too_large n (old_cells_in base h text)

  module _ (cells : List Glyph) (put : old_cells_in base h text ≡ Some cells) where
    pub shown : IsOldScreenshot (shown_by h cells) → applied_one base text ≡ Some (shown_by h cells)
    shown s = by_head ∙ ap (finished h) put ∙ ap (λ (b : Bool). cond b (Some (shown_by h cells)) None) (is_old_screenshot_of (shown_by h cells) s)

    pub count : length cells ≡ h.rows * h.cols
    count = put_length Whole h.runs 0 (sized_cells h.rows h.cols base) (drop 13 text) cells put ∙ length_sized h.rows h.cols base

    pub plain : IsScreenshot base → All IsPlain cells
    plain s = put_plain Whole h.runs 0 (sized_cells h.rows h.cols base) (drop 13 text) cells (sized_plain h.rows h.cols base s) put

    pub is_screen : IsOldScreenshot base → (h.rows ≤ 100) × (h.cols ≤ 250) → IsPlace h.rows h.cols h.cursor_row h.cursor_col → AreWhole h.rows h.cols cells
        → IsOldScreenshot (shown_by h cells)
    is_screen s small place whole =
        let all = plain s.screenshot in
        let short = put_short h.runs 0 (sized_cells h.rows h.cols base) (drop 13 text) cells (sized_short h.rows h.cols base s) put in
        record {
          screenshot = record {
            size = head_size;
            count = count;
            cursor = place;
            whole = whole;
            unguarded = λ k p. (All-get_or IsPlain cells k blank p all).unguarded;
            shown = λ k p. (All-get_or IsPlain cells k blank p all).shown;
          };
          rows = small.0;
          cols = small.1;
          plain = λ k p. All-get_or IsShort cells k blank p short;
        }
