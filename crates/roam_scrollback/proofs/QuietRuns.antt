-- Printable ASCII that fits the rest of its row makes no row leave, and none go on.
use Rattle.std.proofs.Common.{◌≡◌, ℕ, ◌+◌, ◌-◌, ◌<◌, ◌≤◌, ◌&&◌, Bool, true, false, cond, eqb, ltb, List, [], ◌∷◌, ◌++◌, map, length, Some, None, refl, ap, ◌∙◌, arith}
use Rattle.std.proofs.lemmas.Grind.{common_steps}
use Rattle.roam_cells.specs.Glyph.{Glyph, is_wide}
use Rattle.roam_cells.proofs.Ascii.{ascii_width}
use Rattle.roam_charset.specs.Charsets.{mapped_by}
use Rattle.roam_charset.specs.Sets.{in_use, set_in}
use Rattle.roam_charset.specs.declared.charsets.Charset.TheVariants.{Ascii}
use Rattle.roam_grid.specs.Screen.{Screen}
use Rattle.roam_grid.specs.Writing.{columns, leaves_row, with_room, made_way, after_ink, after_advance, put_on}
use Rattle.roam_grid.specs.declared.writing.Writing.{Writing}
use Rattle.roam_grid.proofs.Puts.{settled_same}
use Rattle.roam_term.specs.Leaving.{top_rows, left_by_put}
use Rattle.roam_term.specs.Terminal.{Live, glyph_in, writing_under, on_main, left_by_character, changed_by}
use Rattle.roam_term.proofs.Prints.{changed-print, printed-plain, mapped-ascii}
use Rattle.roam_text.specs.Functions.{ArePlain}
use Rattle.roam_text.specs.declared.functions.Function.TheVariants.{Print}
use Rattle.roam_scrollback.specs.Lines.{rows_with}
use Rattle.roam_scrollback.specs.Sources.{rows_leaving, rows_through, wraps_after, wraps_through}
use Rattle.roam_scrollback.specs.Wraps.{wraps_put, wraps_next, wraps_by_character, wraps_on_main}
use Rattle.roam_scrollback.specs.declared.wraps.Wrap.{Wrap}
use Rattle.roam_scrollback.specs.declared.wraps.Wrap.TheVariants.{Full, Early}

and_none : (a : Bool) → (a && false) ≡ false
and_none true = refl
and_none false = refl

-- ---- a cell of one column before the last one, with no wrap pending

record Stepped (s t : Screen) : Type 0 where
  col : t.col ≡ s.col + 1
  cols : t.cols ≡ s.cols
  pending : t.pending ≡ false

record Stayed (s t : Screen) : Type 0 where
  col : t.col ≡ s.col
  cols : t.cols ≡ s.cols
  pending : t.pending ≡ s.pending

way_stays : (w : Writing) (s : Screen) (b : Bool) → w.inserts ≡ b → Stayed s (made_way 1 w s)
unfolding made_way
way_stays w s true e = record {
  col = ap (λ b. (cond b (made_way 1 (record w { inserts = true }) s) s).col) e;
  cols = ap (λ b. (cond b (made_way 1 (record w { inserts = true }) s) s).cols) e;
  pending = ap (λ b. (cond b (made_way 1 (record w { inserts = true }) s) s).pending) e;
}
way_stays w s false e = record {
  col = ap (λ b. (cond b (made_way 1 (record w { inserts = true }) s) s).col) e;
  cols = ap (λ b. (cond b (made_way 1 (record w { inserts = true }) s) s).cols) e;
  pending = ap (λ b. (cond b (made_way 1 (record w { inserts = true }) s) s).pending) e;
}

stepped : (g : Glyph) (w : Writing) (s : Screen) → is_wide g ≡ false → s.pending ≡ false → s.col + 1 < s.cols → Stepped s (put_on g w s)
unfolding put_on with_room after_ink after_advance
stepped g w s narrow none room =
    let way = made_way 1 w s in
    let stays = way_stays w s w.inserts refl in
    let low : ltb (way.col + 1) way.cols ≡ true = grind (arith, common_steps, stays.col, stays.cols, room) in
    let is : put_on g w s ≡ after_advance 1 w (after_ink g way) =
    ap (λ x. after_advance (columns g) w (after_ink g (made_way (columns g) w (with_room (columns g) w x)))) (settled_same s none)
    ∙ ap (λ v. after_advance (cond v 2 1) w (after_ink g (made_way (cond v 2 1) w (with_room (cond v 2 1) w s)))) narrow in
    let on = record (after_ink g way) { col = way.col + 1 } in
    let off = record (after_ink g way) { col = way.cols - 1; pending = w.wraps } in
    record {
      col = ap (λ (x : Screen). x.col) is ∙ ap (λ b. (cond b on off).col) low ∙ ap (λ k. k + 1) stays.col;
      cols = ap (λ (x : Screen). x.cols) is ∙ ap (λ b. (cond b on off).cols) low ∙ stays.cols;
      pending = ap (λ (x : Screen). x.pending) is ∙ ap (λ b. (cond b on off).pending) low ∙ stays.pending ∙ none;
    }

none_by_put : (g : Glyph) (w : Writing) (s : Screen) → is_wide g ≡ false → s.pending ≡ false → left_by_put g w s ≡ []
unfolding leaves_row
none_by_put g w s narrow none =
    ap (λ v. cond (eqb s.top 0 && (eqb s.row s.bottom && cond s.pending true (eqb (cond v 2 1) 2 && eqb (s.col + 1) s.cols && w.wraps))) (top_rows 1 s) []) narrow
    ∙ ap (λ v. cond (eqb s.top 0 && (eqb s.row s.bottom && cond v true false)) (top_rows 1 s) []) none
    ∙ ap (λ v. cond (eqb s.top 0 && v) (top_rows 1 s) []) (and_none (eqb s.row s.bottom))
    ∙ ap (λ v. cond v (top_rows 1 s) []) (and_none (eqb s.top 0))

same_by_put : (g : Glyph) (w : Writing) (s : Screen) (wraps : List Wrap) → is_wide g ≡ false → s.pending ≡ false → wraps_put g w s wraps ≡ wraps
unfolding wraps_put
same_by_put g w s wraps narrow none =
    ap (λ v. cond (cond s.pending true (eqb (cond v 2 1) 2 && eqb (s.col + 1) s.cols && w.wraps)) (wraps_next (cond s.pending Full Early) s wraps) wraps) narrow
    ∙ ap (λ v. cond (cond v true false) (wraps_next (cond s.pending Full Early) s wraps) wraps) none

-- ---- a run

-- no row leaves by a run, and none goes on
pub record IsQuiet (s : Live) (bs : List ℕ) (wraps : List Wrap) : Type 0 where
  pub rows : rows_through s (map Print bs) wraps ≡ []
  pub wraps_stay : wraps_through s (map Print bs) wraps ≡ wraps

nothing_on_main : (alternate : Bool) (rows : List (List Glyph)) (wraps : List Wrap) → rows ≡ [] → rows_with (on_main alternate rows) wraps ≡ []
nothing_on_main true rows wraps e = refl
nothing_on_main false rows wraps e = ap (λ r. rows_with r wraps) e

same_on_main : (alternate : Bool) (later wraps : List Wrap) → later ≡ wraps → wraps_on_main alternate later wraps ≡ wraps
same_on_main true later wraps e = refl
same_on_main false later wraps e = e

left-plain : (b : ℕ) (s : Live) → 0x20 ≤ b → b < 0x7F → set_in s.sets.locked s.sets ≡ Ascii → s.sets.single ≡ None
    → left_by_character (mapped_by (in_use s.sets) b) s ≡ left_by_put (glyph_in b s.pen) (writing_under s.modes) s.screen
left-plain b s low high locked single =
    ap (λ c. left_by_character c s) (mapped-ascii s.sets b locked single)
    ∙ ap (λ n. cond (eqb n 0) [] (left_by_put (glyph_in b s.pen) (writing_under s.modes) s.screen)) (ascii_width b low high)

module _ (b : ℕ) (s : Live) (wraps : List Wrap) (low : 0x20 ≤ b) (high : b < 0x7F) (locked : set_in s.sets.locked s.sets ≡ Ascii)
    (single : s.sets.single ≡ None) (none : s.screen.pending ≡ false) where
  narrow : is_wide (glyph_in b s.pen) ≡ false
  narrow = ap (λ n. eqb n 2) (ascii_width b low high)

  row_stays : rows_leaving (Print b) s wraps ≡ []
  unfolding rows_leaving
  row_stays =
      nothing_on_main s.alternate (left_by_character (mapped_by (in_use s.sets) b) s) wraps
      (left-plain b s low high locked single ∙ none_by_put (glyph_in b s.pen) (writing_under s.modes) s.screen narrow none)

  flags_stay : wraps_after (Print b) s wraps ≡ wraps
  unfolding wraps_after
  flags_stay =
      same_on_main s.alternate (wraps_by_character (mapped_by (in_use s.sets) b) s wraps) wraps
      (ap (λ c. wraps_by_character c s wraps) (mapped-ascii s.sets b locked single)
      ∙ ap (λ n. cond (eqb n 0) wraps (wraps_put (glyph_in b s.pen) (writing_under s.modes) s.screen wraps)) (ascii_width b low high)
      ∙ same_by_put (glyph_in b s.pen) (writing_under s.modes) s.screen wraps narrow none)

pub quiet : (s : Live) (bs : List ℕ) (wraps : List Wrap) → ArePlain bs → set_in s.sets.locked s.sets ≡ Ascii → s.sets.single ≡ None
    → s.screen.pending ≡ false → s.screen.col + length bs ≤ s.screen.cols → IsQuiet s bs wraps
quiet s [] wraps plain locked single none room = record { rows = refl; wraps_stay = refl }
quiet s (b ∷ []) wraps plain locked single none room = record {
  rows = ap (λ l. l ++ []) (row_stays b s wraps plain.0 plain.1 locked single none);
  wraps_stay = flags_stay b s wraps plain.0 plain.1 locked single none;
}
quiet s (b ∷ c ∷ bs) wraps plain locked single none room =
    let g = glyph_in b s.pen in
    let w = writing_under s.modes in
    let next : Live = record s { screen = put_on g w s.screen; printed = Some b } in
    let step = stepped g w s.screen (narrow b s wraps plain.0 plain.1 locked single none) none (omega (arith, room)) in
    let is : changed_by (Print b) s ≡ next = changed-print b s ∙ printed-plain b s plain.0 plain.1 locked single in
    let rest = quiet next (c ∷ bs) wraps plain.2 locked single step.pending (omega (arith, step.col, step.cols, room)) in
    record {
      rows =
          ap (λ l. l ++ rows_through (changed_by (Print b) s) (map Print (c ∷ bs)) (wraps_after (Print b) s wraps))
          (row_stays b s wraps plain.0 plain.1 locked single none)
          ∙ ap (λ (t : Live). rows_through t (map Print (c ∷ bs)) (wraps_after (Print b) s wraps)) is
          ∙ ap (rows_through next (map Print (c ∷ bs))) (flags_stay b s wraps plain.0 plain.1 locked single none) ∙ rest.rows;
      wraps_stay =
          ap (λ (t : Live). wraps_through t (map Print (c ∷ bs)) (wraps_after (Print b) s wraps)) is
          ∙ ap (wraps_through next (map Print (c ∷ bs))) (flags_stay b s wraps plain.0 plain.1 locked single none) ∙ rest.wraps_stay;
    }
