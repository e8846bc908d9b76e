use Rattle.std.proofs.Common.{◌≡◌, ◌==◌, ℕ, Bool, List, Option, Some, None, [], replicate, true, false, refl, sym, ap, ◌∙◌}
use Rattle.roam_cells.specs.Glyph.{Glyph}
use Rattle.roam_cells.specs.Width.{width_of}
use Rattle.roam_grid.specs.Marks.{marks_put_all}
use Rattle.roam_grid.specs.Writing.{put_all}
use Rattle.roam_term.specs.Leaving.{left_by_puts}
use Rattle.roam_term.specs.Marks.{CanvasView, marks_repeated}
use Rattle.roam_term.specs.Terminal.{Live, glyph_in, writing_under, written_again, repeated_on, on_main, left_by_repeat, with_rows}
use Rattle.roam_term.proofs.Prints.{inked, inkless}
use Rattle.roam_term.proofs.Scrollback.{main_stays}
use Rattle.roam_term.proofs.canvases.Canvas.repeat.Goals as goal

again_wide : (n c : ℕ) (s : Live) → (width_of c == 0) ≡ false
    → written_again n c s ≡ record s { screen = put_all (replicate n (glyph_in c s.pen)) (writing_under s.modes) s.screen }
again_wide n c s e = rw e

left_wide : (n c : ℕ) (s : Live) → (width_of c == 0) ≡ false
    → left_by_repeat n (Some c) s ≡ left_by_puts (replicate n (glyph_in c s.pen)) (writing_under s.modes) s.screen
left_wide n c s e = rw e

marks_wide : (n c : ℕ) (s : Live) (marks : List Bool) → (width_of c == 0) ≡ false
    → marks_repeated n (Some c) s marks ≡ marks_put_all (replicate n (glyph_in c s.pen)) (writing_under s.modes) s.screen marks
marks_wide n c s marks e = rw e

marks_narrow : (n c : ℕ) (s : Live) (marks : List Bool) → (width_of c == 0) ≡ true → marks_repeated n (Some c) s marks ≡ marks
marks_narrow n c s marks e = rw e

marks_none : (n : ℕ) (kept : Option ℕ) (s : Live) (marks : List Bool) → ((c : ℕ) → ¬ (kept ≡ Some c)) → marks_repeated n kept s marks ≡ marks
marks_none n None s marks none = refl
marks_none n (Some c) s marks none = absurd (none c refl)

again_narrow : (n c : ℕ) (s : Live) → (width_of c == 0) ≡ true → written_again n c s ≡ s
again_narrow n c s e = rw e

left_narrow : (n c : ℕ) (s : Live) → (width_of c == 0) ≡ true → left_by_repeat n (Some c) s ≡ []
left_narrow n c s e = rw e

again_none : (n : ℕ) (kept : Option ℕ) (s : Live) → ((c : ℕ) → ¬ (kept ≡ Some c)) → repeated_on n kept s ≡ s
again_none n None s none = refl
again_none n (Some c) s none = absurd (none c refl)

left_none : (n : ℕ) (kept : Option ℕ) (s : Live) → ((c : ℕ) → ¬ (kept ≡ Some c)) → left_by_repeat n kept s ≡ []
left_none n None s none = refl
left_none n (Some c) s none = absurd (none c refl)

no_cell : (made : Option Glyph) → ((cell : Glyph) → ¬ (made ≡ Some cell)) → made ≡ None
no_cell None none = refl
no_cell (Some cell) none = absurd (none cell refl)

pub returns-in-Some-of_ink : goal.returns-in-Some-of_ink
returns-in-Some-of_ink c =
    let f = c.self.inside in
    let n = c.args.n in
    let m = c.in-Some.c in
    let h = c.args.history.now in
    let live : Live = record {
      screen = f.grid.screen;
      other = f.other.screen.cells;
      alternate = f.alternate;
      pen = f.pen;
      modes = f.modes;
      sets = f.sets;
      saved = f.saved;
      saved_alternate = f.saved_alternate;
      printed = f.printed;
    } in
    let ink = inked m f.pen c.in-Some-of_ink.cell (sym c.of_ink.ensures.cell ∙ c.in-Some-of_ink.is) in
    let w = c.writing_under-writing.ensures.writing in
    let screen : c.put_times.new.grid.screen ≡ put_all (replicate n (glyph_in m f.pen)) (writing_under f.modes) f.grid.screen =
    c.put_times.ensures.screen
    ∙ ap (λ g. put_all (replicate n g) c.writing_under-writing.result f.grid.screen) ink.1
    ∙ ap (λ writing. put_all (replicate n (glyph_in m f.pen)) writing f.grid.screen) w in
    record {
      repeated =
          rw (← c.self.view_is)
          ((λ i. record live { screen = screen i })
          ∙ sym (again_wide n m live ink.0)
          ∙ sym (ap (λ kept. repeated_on n kept live) c.in-Some.is));
      marks =
          rw (← c.self.view_is)
          (c.put_times.ensures.marks
          ∙ ap (λ g. marks_put_all (replicate n g) c.writing_under-writing.result f.grid.screen f.grid.marks) ink.1
          ∙ ap (λ writing. marks_put_all (replicate n (glyph_in m f.pen)) writing f.grid.screen f.grid.marks) w
          ∙ sym (marks_wide n m live f.grid.marks ink.0)
          ∙ sym (ap (λ kept. marks_repeated n kept live f.grid.marks) c.in-Some.is));
      history =
          rw (← c.self.view_is)
          (c.put_times.ensures.history
          ∙ ap (λ g. with_rows (on_main f.alternate (left_by_puts (replicate n g) c.writing_under-writing.result f.grid.screen)) h) ink.1
          ∙ ap (λ writing. with_rows (on_main f.alternate (left_by_puts (replicate n (glyph_in m f.pen)) writing f.grid.screen)) h) w
          ∙ sym (ap (λ rows. with_rows (on_main f.alternate rows) h) (left_wide n m live ink.0))
          ∙ sym (ap (λ kept. with_rows (on_main f.alternate (left_by_repeat n kept live)) h) c.in-Some.is));
      size = rw (← c.self.view_is) (record { rows = c.put_times.ensures.size.rows; cols = c.put_times.ensures.size.cols });
    }

pub returns-in_default-of_ink : goal.returns-in_default-of_ink
returns-in_default-of_ink c =
    let n = c.args.n in
    let old = c.args.self.now.live in
    let on = c.args.self.now.marks in
    let m = c.in-Some.c in
    let h = c.args.history.now in
    let kept = sym (ap (λ (v : CanvasView). v.live.printed) c.self.view_is) ∙ c.in-Some.is in
    let none = no_cell c.of_ink.result c.in_default-of_ink.not-Some in
    let narrow = inkless m c.self.inside.pen (sym c.of_ink.ensures.cell ∙ none) in
    let left = ap (λ k. left_by_repeat n k old) kept ∙ left_narrow n m old narrow in
    record {
      repeated = sym (ap (λ k. repeated_on n k old) kept ∙ again_narrow n m old narrow);
      marks = sym (ap (λ k. marks_repeated n k old on) kept ∙ marks_narrow n m old on narrow);
      history = sym (ap (λ rows. with_rows (on_main old.alternate rows) h) left ∙ main_stays old.alternate h c.stays.ensures.stays);
      size = record { rows = refl; cols = refl };
    }

pub returns-in_default : goal.returns-in_default
returns-in_default c =
    let n = c.args.n in
    let old = c.args.self.now.live in
    let on = c.args.self.now.marks in
    let h = c.args.history.now in
    let none : (m : ℕ) → ¬ (old.printed ≡ Some m) =
    λ m e. c.in_default.not-Some m (ap (λ (v : CanvasView). v.live.printed) c.self.view_is ∙ e) in
    let left = left_none n old.printed old none in
    record {
      repeated = sym (again_none n old.printed old none);
      marks = sym (marks_none n old.printed old on none);
      history = sym (ap (λ rows. with_rows (on_main old.alternate rows) h) left ∙ main_stays old.alternate h c.stays.ensures.stays);
      size = record { rows = refl; cols = refl };
    }
