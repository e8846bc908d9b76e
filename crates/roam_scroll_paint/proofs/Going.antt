-- A band goes up or down row by row.
use Rattle.std.proofs.Common.{◌≡◌, ◌≤◌, ◌<◌, ◌⊎◌, ℕ, zero, suc, ◌+◌, ◌-◌, Bool, true, false, inl, inr, List, [], ◌∷◌, ◌++◌, Option, Some, None, refl, sym, ap, ◌∙◌, arith, replicate}
use Rattle.std.proofs.lemmas.Bool.{cases_lt}
use Rattle.std.proofs.lemmas.Grind.{common_steps}
use Rattle.roam_cells.specs.Glyph.{Glyph, blank}
use Rattle.roam_cells.specs.Place.{cell_at, AreWhole}
use Rattle.roam_cells.specs.declared.styles.Style.{Style}
use Rattle.roam_cells.proofs.Places.{get_or-table}
use Rattle.roam_rows.specs.Places.{From, Fresh, mapped_cells, moved_at}
use Rattle.roam_rows.specs.Scrolling.{up, down}
use Rattle.roam_rows.proofs.Vertical.{row_stays, row_blank}
use Rattle.roam_text.specs.declared.functions.Function.{Function}
use Rattle.roam_term.specs.Terminal.{Live, changed_by}
use Rattle.roam_term.proofs.Steps.{acted, acted-append, Constants, at_work}
use Rattle.roam_paint.specs.Painting.{Places}
use Rattle.roam_scroll_paint.specs.declared.bands.Band.{Band}
use Rattle.roam_scroll_paint.specs.Bands.{taken, moved_source, set_margins, to_row, line_feed, reverse_index, reset_margins, moves_band}
use Rattle.roam_scroll_paint.proofs.Wholes.{IsWhole, whole_taken, cells_whole}
use Rattle.roam_scroll_paint.proofs.Moves.{within, sets_margins, goes_to_row, feeds, indexes_back, resets_margins}

-- ---- the sources of the rows of a band

abbrev upward : ℕ → ℕ → ℕ → Band
upward top bottom n = record { top = top; bottom = bottom; count = n; up = true }

abbrev downward : ℕ → ℕ → ℕ → Band
downward top bottom n = record { top = top; bottom = bottom; count = n; up = false }

module _ (top bottom n r : ℕ) where
  up_out : (r < top) ⊎ (bottom ≤ r) → moved_source (upward top bottom n) r ≡ Some r
  up_out h = grind (arith, common_steps)

  up_from : top ≤ r → r + n < bottom → moved_source (upward top bottom n) r ≡ Some (r + n)
  up_from h k = grind (arith, common_steps)

  up_none : top ≤ r → r < bottom → bottom ≤ r + n → moved_source (upward top bottom n) r ≡ None
  up_none h k l = grind (arith, common_steps)

  down_out : (r < top) ⊎ (bottom ≤ r) → moved_source (downward top bottom n) r ≡ Some r
  down_out h = grind (arith, common_steps)

  down_from : top + n ≤ r → r < bottom → moved_source (downward top bottom n) r ≡ Some (r - n)
  down_from h k = grind (arith, common_steps)

  down_none : top ≤ r → r < bottom → r < top + n → moved_source (downward top bottom n) r ≡ None
  down_none h k l = grind (arith, common_steps)

-- ---- the sources of the rows of a scroll

module _ (top bottom r d : ℕ) where
  scrolls_out : (r < top) ⊎ (bottom < r) → up top bottom 1 r d ≡ From r d
  scrolls_out h = grind (arith, common_steps)

  scrolls_from : top ≤ r → r + 1 ≤ bottom → up top bottom 1 r d ≡ From (r + 1) d
  scrolls_from h k = grind (arith, common_steps)

  scrolls_none : top ≤ r → r ≡ bottom → up top bottom 1 r d ≡ Fresh blank
  scrolls_none h k = grind (arith, common_steps)

  back_out : (r < top) ⊎ (bottom < r) → down top bottom 1 r d ≡ From r d
  back_out h = grind (arith, common_steps)

  back_from : top + 1 ≤ r → r ≤ bottom → down top bottom 1 r d ≡ From (r - 1) d
  back_from h k = grind (arith, common_steps)

  back_none : r ≡ top → top ≤ bottom → down top bottom 1 r d ≡ Fresh blank
  back_none h k = grind (arith, common_steps)

-- ---- one row further

module _ (rows cols wide : ℕ) (over : Places) (whole : IsWhole wide over) (fits : wide ≤ cols) (top bottom : ℕ) (two : top + 1 < bottom) (inside : bottom ≤ rows) where
  -- the cells after the band went so many rows
  abbrev pub gone : Bool → ℕ → Places
  gone b n r c = taken over (moved_source (record { top = top; bottom = bottom; count = n; up = b }) r) c

  abbrev pub Show : List Glyph → Places → Type 0
  Show cells p = (r c : ℕ) → r < rows → c < cols → cell_at cols cells r c ≡ p r c

  are_whole : (cells : List Glyph) (b : Bool) (n : ℕ) → Show cells (gone b n) → AreWhole rows cols cells
  are_whole cells b n shows = cells_whole rows cols wide cells (gone b n) fits (whole_taken wide over (moved_source (record { top = top; bottom = bottom; count = n; up = b })) whole) shows

  abbrev last : ℕ
  last = bottom - 1

  module _ (cells : List Glyph) (n : ℕ) where
    one_up : Show cells (gone true n) → Show (mapped_cells rows cols cells (up top last 1)) (gone true (n + 1))
    one_up shows r c p q =
        let from = up top last 1 in
        let w = are_whole cells true n shows in
        let next : moved_at cols cells from r c ≡ gone true (n + 1) r c =
        elim (cases_lt r top) [
          | inl a ↦
              row_stays rows cols cells w from r c r p q (λ d. scrolls_out top last r d (inl a)) ∙ shows r c p q
              ∙ ap (λ o. taken over o c) (up_out top bottom n r (inl a) ∙ sym (up_out top bottom (n + 1) r (inl a)))
          | inr a ↦ elim (cases_lt r bottom) [
            | inr b ↦
                row_stays rows cols cells w from r c r p q (λ d. scrolls_out top last r d (inr (omega (arith, b, two)))) ∙ shows r c p q
                ∙ ap (λ o. taken over o c) (up_out top bottom n r (inr b) ∙ sym (up_out top bottom (n + 1) r (inr b)))
            | inl b ↦ elim (cases_lt (r + 1) bottom) [
              | inr e ↦
                  row_blank cols cells from r c (λ d. scrolls_none top last r d a (omega (arith, b, e)))
                  ∙ sym (ap (λ o. taken over o c) (up_none top bottom (n + 1) r a b (omega (arith, e))))
              | inl e ↦
                  row_stays rows cols cells w from r c (r + 1) (omega (arith, e, inside)) q (λ d. scrolls_from top last r d a (omega (arith, e)))
                  ∙ shows (r + 1) c (omega (arith, e, inside)) q
                  ∙ elim (cases_lt (r + 1 + n) bottom) [
                    | inl f ↦
                        ap (λ o. taken over o c) (up_from top bottom n (r + 1) (omega (arith, a)) f)
                        ∙ ap (λ s. over s c) (omega arith)
                        ∙ sym (ap (λ o. taken over o c) (up_from top bottom (n + 1) r a (omega (arith, f))))
                    | inr f ↦
                        ap (λ o. taken over o c) (up_none top bottom n (r + 1) (omega (arith, a)) e f)
                        ∙ sym (ap (λ o. taken over o c) (up_none top bottom (n + 1) r a b (omega (arith, f))))
                  ]
            ]
          ]
        ] in
        get_or-table rows cols (moved_at cols cells from) r c blank p q ∙ next

    one_down : Show cells (gone false n) → Show (mapped_cells rows cols cells (down top last 1)) (gone false (n + 1))
    one_down shows r c p q =
        let from = down top last 1 in
        let w = are_whole cells false n shows in
        let next : moved_at cols cells from r c ≡ gone false (n + 1) r c =
        elim (cases_lt r top) [
          | inl a ↦
              row_stays rows cols cells w from r c r p q (λ d. back_out top last r d (inl a)) ∙ shows r c p q
              ∙ ap (λ o. taken over o c) (down_out top bottom n r (inl a) ∙ sym (down_out top bottom (n + 1) r (inl a)))
          | inr a ↦ elim (cases_lt r bottom) [
            | inr b ↦
                row_stays rows cols cells w from r c r p q (λ d. back_out top last r d (inr (omega (arith, b, two)))) ∙ shows r c p q
                ∙ ap (λ o. taken over o c) (down_out top bottom n r (inr b) ∙ sym (down_out top bottom (n + 1) r (inr b)))
            | inl b ↦ elim (cases_lt top r) [
              | inr e ↦
                  row_blank cols cells from r c (λ d. back_none top last r d (omega (arith, a, e)) (omega (arith, two)))
                  ∙ sym (ap (λ o. taken over o c) (down_none top bottom (n + 1) r a b (omega (arith, e))))
              | inl e ↦
                  row_stays rows cols cells w from r c (r - 1) (omega (arith, p)) q (λ d. back_from top last r d (omega (arith, e)) (omega (arith, b)))
                  ∙ shows (r - 1) c (omega (arith, p)) q
                  ∙ elim (cases_lt (r - 1) (top + n)) [
                    | inr f ↦
                        ap (λ o. taken over o c) (down_from top bottom n (r - 1) f (omega (arith, b)))
                        ∙ ap (λ s. over s c) (omega arith)
                        ∙ sym (ap (λ o. taken over o c) (down_from top bottom (n + 1) r (omega (arith, f, e)) b))
                    | inl f ↦
                        ap (λ o. taken over o c) (down_none top bottom n (r - 1) (omega (arith, e)) (omega (arith, b)) f)
                        ∙ sym (ap (λ o. taken over o c) (down_none top bottom (n + 1) r a b (omega (arith, f, e))))
                  ]
            ]
          ]
        ] in
        get_or-table rows cols (moved_at cols cells from) r c blank p q ∙ next

  -- ---- so many rows further

  module _ (k : Constants) (rows_are : k.rows ≡ rows) (cols_are : k.cols ≡ cols) (g : Style) (visible : Bool) where
    -- the cells after so many functions at the edge of a band
    pub record Went (f : Function) (row : ℕ) (b : Bool) (cells : List Glyph) (count n : ℕ) : Type 0 where
      pub cells' : List Glyph
      pub is : acted (replicate count f) (within k top last cells row 0 g visible) ≡ within k top last cells' row 0 g visible
      pub shows : Show cells' (gone b (n + count))

    fed : (cells : List Glyph) → changed_by line_feed (within k top last cells last 0 g visible) ≡ within k top last (mapped_cells rows cols cells (up top last 1)) last 0 g visible
    fed cells =
        feeds k top last cells g visible
        ∙ ap (λ r. within k top last (mapped_cells r k.cols cells (up top last 1)) last 0 g visible) rows_are
        ∙ ap (λ c. within k top last (mapped_cells rows c cells (up top last 1)) last 0 g visible) cols_are

    indexed : (cells : List Glyph) → changed_by reverse_index (within k top last cells top 0 g visible) ≡ within k top last (mapped_cells rows cols cells (down top last 1)) top 0 g visible
    indexed cells =
        indexes_back k top last cells g visible
        ∙ ap (λ r. within k top last (mapped_cells r k.cols cells (down top last 1)) top 0 g visible) rows_are
        ∙ ap (λ c. within k top last (mapped_cells rows c cells (down top last 1)) top 0 g visible) cols_are

    pub goes_up : (count n : ℕ) (cells : List Glyph) → Show cells (gone true n) → Went line_feed last true cells count n
    goes_up zero n cells shows = record {
      cells' = cells;
      is = refl;
      shows = λ r c p q. shows r c p q ∙ ap (λ m. gone true m r c) (omega arith);
    }
    goes_up (suc count) n cells shows =
        let then_ = mapped_cells rows cols cells (up top last 1) in
        let more = goes_up count (n + 1) then_ (one_up cells n shows) in
        record {
          cells' = more.cells';
          is = ap (acted (replicate count line_feed)) (fed cells) ∙ more.is;
          shows = λ r c p q. more.shows r c p q ∙ ap (λ m. gone true m r c) (omega arith);
        }

    pub goes_down : (count n : ℕ) (cells : List Glyph) → Show cells (gone false n) → Went reverse_index top false cells count n
    goes_down zero n cells shows = record {
      cells' = cells;
      is = refl;
      shows = λ r c p q. shows r c p q ∙ ap (λ m. gone false m r c) (omega arith);
    }
    goes_down (suc count) n cells shows =
        let then_ = mapped_cells rows cols cells (down top last 1) in
        let more = goes_down count (n + 1) then_ (one_down cells n shows) in
        record {
          cells' = more.cells';
          is = ap (acted (replicate count reverse_index)) (indexed cells) ∙ more.is;
          shows = λ r c p q. more.shows r c p q ∙ ap (λ m. gone false m r c) (omega arith);
        }

    at_first : (b : Bool) (r c : ℕ) → over r c ≡ gone b 0 r c
    at_first true r c =
        elim (cases_lt r top) [
          | inl a ↦ sym (ap (λ o. taken over o c) (up_out top bottom 0 r (inl a)))
          | inr a ↦ elim (cases_lt r bottom) [
            | inr e ↦ sym (ap (λ o. taken over o c) (up_out top bottom 0 r (inr e)))
            | inl e ↦ ap (λ s. over s c) (omega arith) ∙ sym (ap (λ o. taken over o c) (up_from top bottom 0 r a (omega (arith, e))))
          ]
        ]
    at_first false r c =
        elim (cases_lt r top) [
          | inl a ↦ sym (ap (λ o. taken over o c) (down_out top bottom 0 r (inl a)))
          | inr a ↦ elim (cases_lt r bottom) [
            | inr e ↦ sym (ap (λ o. taken over o c) (down_out top bottom 0 r (inr e)))
            | inl e ↦ ap (λ s. over s c) (omega arith) ∙ sym (ap (λ o. taken over o c) (down_from top bottom 0 r (omega (arith, a)) e))
          ]
        ]

    -- a whole band goes
    pub record Moved (b : Bool) (count : ℕ) (before : Live) : Type 0 where
      pub cells' : List Glyph
      pub is : acted (moves_band (record { top = top; bottom = bottom; count = count; up = b })) before ≡ at_work k cells' 0 0 false g visible None
      pub shows : Show cells' (gone b count)

    module _ (cells : List Glyph) (row col : ℕ) (pending : Bool) (printed : Option ℕ) (some : 1 ≤ k.cols) (shows : Show cells over) (count : ℕ) where
      abbrev before : Live
      before = at_work k cells row col pending g visible printed

      set_so : changed_by (set_margins (top + 1) bottom) before ≡ within k top last cells 0 0 g visible
      set_so = sets_margins k cells row col pending g visible printed top bottom two (omega (arith, inside, rows_are)) some

      moves_up : Moved true count before
      unfolding moves_band
      moves_up =
          let went = goes_up count 0 cells (λ r c p q. shows r c p q ∙ at_first true r c) in
          let steps = replicate count line_feed in
          let end = reset_margins ∷ [] in
          let edge : last + 1 ≡ bottom = omega (arith, two) in
          record {
            cells' = went.cells';
            is =
                ap (λ u. acted (steps ++ end) (changed_by (to_row bottom) u)) set_so
                ∙ ap (λ r. acted (steps ++ end) (changed_by (to_row r) (within k top last cells 0 0 g visible))) (sym edge)
                ∙ ap (acted (steps ++ end)) (goes_to_row k top last last cells 0 0 g visible (omega (arith, two, inside, rows_are)) some)
                ∙ acted-append steps end (within k top last cells last 0 g visible)
                ∙ ap (changed_by reset_margins) went.is
                ∙ resets_margins k top last went.cells' last 0 g visible (omega (arith, two, inside, rows_are)) some;
            shows = λ r c p q. went.shows r c p q ∙ ap (λ m. gone true m r c) (omega arith);
          }

      moves_down : Moved false count before
      unfolding moves_band
      moves_down =
          let went = goes_down count 0 cells (λ r c p q. shows r c p q ∙ at_first false r c) in
          let steps = replicate count reverse_index in
          let end = reset_margins ∷ [] in
          record {
            cells' = went.cells';
            is =
                ap (λ u. acted (steps ++ end) (changed_by (to_row (top + 1)) u)) set_so
                ∙ ap (acted (steps ++ end)) (goes_to_row k top last top cells 0 0 g visible (omega (arith, two, inside, rows_are)) some)
                ∙ acted-append steps end (within k top last cells top 0 g visible)
                ∙ ap (changed_by reset_margins) went.is
                ∙ resets_margins k top last went.cells' top 0 g visible (omega (arith, two, inside, rows_are)) some;
            shows = λ r c p q. went.shows r c p q ∙ ap (λ m. gone false m r c) (omega arith);
          }

      pub moves : (b : Bool) → Moved b count before
      moves true = moves_up
      moves false = moves_down
