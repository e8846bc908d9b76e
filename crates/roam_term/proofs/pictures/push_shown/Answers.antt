use Rattle.std.proofs.Common.{◌≡◌, ◌+◌, ◌-◌, ◌++◌, List, [], map, get_or, ap, ◌∙◌, subst}
use Rattle.std.specs.Prelude.{All, IfOk}
use Rattle.roam_cells.specs.Glyph.{Glyph}
use Rattle.roam_cells.specs.Place.{row_of}
use Rattle.roam_grid.specs.Screen.{Screen}
use Rattle.roam_history.specs.Histories.{IsRow}
use Rattle.roam_controls.specs.declared.modes.Modes.{Modes}
use Rattle.roam_term.specs.Picture.{shown_glyph, picture_with}
use Rattle.roam_term.proofs.Showing.{history_row, screen_row}
use Rattle.roam_term.proofs.pictures.push_shown.Goals as goal

pub returns-then-row-v : goal.returns-then-row-v
returns-then-row-v c =
    let l = c.args.canvas.now.live in
    let h = c.args.history.now in
    let v = c.args.v in
    let r = c.args.row in
    let each : All (IsRow l.screen.cols) h.rows = subst (λ n. All (IsRow n) h.rows) c.requires.cols c.facts-2.ensures.scrollback.each in
    let row : map (shown_glyph c.modes-reversed.result.reverse_screen) c.kept_row.result.now ≡ row_of l.screen.cols (picture_with v l h).cells r =
    ap (λ (m : Modes). map (shown_glyph m.reverse_screen) c.kept_row.result.now) c.modes-reversed.ensures.modes
    ∙ ap (map (shown_glyph l.modes.reverse_screen)) (c.kept_row.ensures.row ∙ ap (λ n. get_or h.rows (n - v + r) []) c.len.ensures.len)
    ∙ history_row l.modes.reverse_screen l.screen.cols l.screen.rows v r h.rows l.screen.cells each c.requires.within c.requires.row c.if-row-v.true in
    record {
      row = subst (λ (cells : List Glyph). IfOk c.show_row.result (λ _. c.show_row.new.cells.items ≡ c.args.cells.now.items ++ cells)) row
          c.show_row.ensures.cells;
    }

pub returns : goal.returns
returns c =
    let l = c.args.canvas.now.live in
    let h = c.args.history.now in
    let v = c.args.v in
    let r = c.args.row in
    let each : All (IsRow l.screen.cols) h.rows = subst (λ n. All (IsRow n) h.rows) c.requires.cols c.facts-2.ensures.scrollback.each in
    let row : map (shown_glyph c.modes-reversed.result.reverse_screen) c.row.result.now ≡ row_of l.screen.cols (picture_with v l h).cells r =
    ap (λ (m : Modes). map (shown_glyph m.reverse_screen) c.row.result.now) c.modes-reversed.ensures.modes
    ∙ ap (map (shown_glyph l.modes.reverse_screen)) (c.row.ensures.row ∙ ap (λ (s : Screen). row_of s.cols s.cells (r - v)) c.grid.ensures.screen)
    ∙ screen_row l.modes.reverse_screen l.screen.cols l.screen.rows v r h.rows l.screen.cells each c.requires.within c.requires.row c.if-row-v.false in
    record {
      row = subst (λ (cells : List Glyph). IfOk c.show_row-2.result (λ _. c.show_row-2.new.cells.items ≡ c.args.cells.now.items ++ cells)) row
          c.show_row-2.ensures.cells;
    }
