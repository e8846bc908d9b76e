use Rattle.std.proofs.Common.{◌≡◌, [], ◌∷◌, ◌++◌, refl, subst, ◌∙◌}
use Rattle.std.proofs.lemmas.List.{append-nil}
use Rattle.roam_cells.specs.Place.{row_of}
use Rattle.roam_scrollback.specs.Lines.{LeftRow, Writes}
use Rattle.roam_scrollback.specs.Wraps.{wrap_at}
use Rattle.roam_scrollback.proofs.surfaces.push_row.Goals as goal

pub returns-then-is_on : goal.returns-then-is_on
returns-then-is_on c =
    let s = c.args.grid.now.screen in
    let row = c.row.result.now in
    let cells : row ++ [] ≡ row_of s.cols s.cells c.args.row = append-nil row ∙ c.row.ensures.row in
    let same : record { wrap = c.at-wrap.result; cells = row ++ [] }
    ≡ record { wrap = wrap_at c.args.wraps.now c.args.row; cells = row_of s.cols s.cells c.args.row } =
    λ i. record { wrap = c.at-wrap.ensures.wrap i; cells = cells i } in
    record {
      written =
          subst (λ (x : LeftRow). Writes c.args.lines.now c.push.new.self (x ∷ [])) same (c.push.ensures.written 0 (λ e. refl));
    }
