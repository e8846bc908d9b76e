use Rattle.std.proofs.Common.{◌≡◌, ◌==◌, ℕ, Some, [], true, false, sym, ap, ◌∙◌}
use Rattle.std.specs.Prelude.{Bool, List}
use Rattle.roam_cells.specs.Width.{width_of}
use Rattle.roam_charset.specs.Sets.{spent}
use Rattle.roam_grid.specs.Marks.{marks_put, marks_joined}
use Rattle.roam_grid.specs.Writing.{put_on, joined_on}
use Rattle.roam_term.specs.Leaving.{left_by_put}
use Rattle.roam_term.specs.Marks.{marks_written}
use Rattle.roam_term.specs.Terminal.{Live, glyph_in, writing_under, written_on, printed_on, on_main, left_by_character, with_rows}
use Rattle.roam_term.proofs.Prints.{inked, inkless}
use Rattle.roam_term.proofs.Scrollback.{main_stays}
use Rattle.roam_term.proofs.canvases.Canvas.print.Goals as goal

written_wide : (c : ℕ) (s : Live) → (width_of c == 0) ≡ false
    → written_on c s ≡ record s { screen = put_on (glyph_in c s.pen) (writing_under s.modes) s.screen; printed = Some c }
written_wide c s e = rw e

left_wide : (c : ℕ) (s : Live) → (width_of c == 0) ≡ false
    → left_by_character c s ≡ left_by_put (glyph_in c s.pen) (writing_under s.modes) s.screen
left_wide c s e = rw e

marks_wide : (c : ℕ) (s : Live) (marks : List Bool) → (width_of c == 0) ≡ false
    → marks_written c s marks ≡ marks_put (glyph_in c s.pen) (writing_under s.modes) s.screen marks
marks_wide c s marks e = rw e

marks_narrow : (c : ℕ) (s : Live) (marks : List Bool) → (width_of c == 0) ≡ true → marks_written c s marks ≡ marks_joined c s.screen marks
marks_narrow c s marks e = rw e

written_narrow : (c : ℕ) (s : Live) → (width_of c == 0) ≡ true → written_on c s ≡ record s { screen = joined_on c s.screen }
written_narrow c s e = rw e

left_narrow : (c : ℕ) (s : Live) → (width_of c == 0) ≡ true → left_by_character c s ≡ []
left_narrow c s e = rw e

pub returns-in-Some : goal.returns-in-Some
unfolding printed_on
returns-in-Some c =
    let f = c.self.inside in
    let m = c.map-c.result in
    let h = c.args.history.now in
    let live : Live = record {
      screen = f.grid.screen;
      other = f.other.screen.cells;
      alternate = f.alternate;
      pen = f.pen;
      modes = f.modes;
      sets = f.sets;
      saved = f.saved;
      saved_alternate = f.saved_alternate;
      printed = f.printed;
    } in
    let after : Live = record live { sets = spent f.sets } in
    let ink = inked m f.pen c.in-Some.cell (sym c.of_char.ensures.cell ∙ c.in-Some.is) in
    let w = c.writing_under-writing.ensures.writing in
    let screen : c.put.new.grid.screen ≡ put_on (glyph_in m f.pen) (writing_under f.modes) f.grid.screen =
    c.put.ensures.screen
    ∙ ap (λ g. put_on g c.writing_under-writing.result f.grid.screen) ink.1
    ∙ ap (λ writing. put_on (glyph_in m f.pen) writing f.grid.screen) w in
    record {
      printed =
          rw (← c.self.view_is)
          ((λ i. record after { screen = screen i; sets = c.map-c.ensures.spent i; printed = Some m })
          ∙ sym (written_wide m after ink.0)
          ∙ ap (λ n. written_on n after) c.map-c.ensures.mapped);
      marks =
          rw (← c.self.view_is)
          (c.put.ensures.marks
          ∙ ap (λ g. marks_put g c.writing_under-writing.result f.grid.screen f.grid.marks) ink.1
          ∙ ap (λ writing. marks_put (glyph_in m f.pen) writing f.grid.screen f.grid.marks) w
          ∙ sym (marks_wide m live f.grid.marks ink.0)
          ∙ ap (λ n. marks_written n live f.grid.marks) c.map-c.ensures.mapped);
      history =
          rw (← c.self.view_is)
          (c.put.ensures.history
          ∙ ap (λ g. with_rows (on_main f.alternate (left_by_put g c.writing_under-writing.result f.grid.screen)) h) ink.1
          ∙ ap (λ writing. with_rows (on_main f.alternate (left_by_put (glyph_in m f.pen) writing f.grid.screen)) h) w
          ∙ sym (ap (λ rows. with_rows (on_main f.alternate rows) h) (left_wide m live ink.0))
          ∙ ap (λ n. with_rows (on_main f.alternate (left_by_character n live)) h) c.map-c.ensures.mapped);
      size = rw (← c.self.view_is) (record { rows = c.put.ensures.size.rows; cols = c.put.ensures.size.cols });
    }

pub returns-in-None : goal.returns-in-None
unfolding printed_on
returns-in-None c =
    let f = c.self.inside in
    let m = c.map-c.result in
    let h = c.args.history.now in
    let live : Live = record {
      screen = f.grid.screen;
      other = f.other.screen.cells;
      alternate = f.alternate;
      pen = f.pen;
      modes = f.modes;
      sets = f.sets;
      saved = f.saved;
      saved_alternate = f.saved_alternate;
      printed = f.printed;
    } in
    let after : Live = record live { sets = spent f.sets } in
    let narrow = inkless m f.pen (sym c.of_char.ensures.cell ∙ c.in-None.is) in
    record {
      printed =
          rw (← c.self.view_is)
          ((λ i. record after { screen = c.join.ensures.screen i; sets = c.map-c.ensures.spent i })
          ∙ sym (written_narrow m after narrow)
          ∙ ap (λ n. written_on n after) c.map-c.ensures.mapped);
      marks =
          rw (← c.self.view_is)
          (c.join.ensures.marks ∙ sym (marks_narrow m live f.grid.marks narrow) ∙ ap (λ n. marks_written n live f.grid.marks) c.map-c.ensures.mapped);
      history =
          rw (← c.self.view_is)
          (sym (main_stays f.alternate h c.stays.ensures.stays)
          ∙ sym (ap (λ rows. with_rows (on_main f.alternate rows) h) (left_narrow m live narrow))
          ∙ ap (λ n. with_rows (on_main f.alternate (left_by_character n live)) h) c.map-c.ensures.mapped);
      size = rw (← c.self.view_is) (record { rows = c.join.ensures.size.rows; cols = c.join.ensures.size.cols });
    }
