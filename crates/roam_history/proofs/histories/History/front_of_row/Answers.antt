use Rattle.std.proofs.Common.{◌≡◌, ◌∙◌, [], ap, arith, get_or, length, sym}
use Rattle.std.proofs.lemmas.List.Elements.{All-get_or}
use Rattle.roam_history.specs.Histories.{IsRow}
use Rattle.roam_history.specs.Lines.{with_blanks}
use Rattle.roam_history.proofs.histories.History.front_of_row.Goals as goal

pub returns : goal.returns
returns c =
    let v = c.args.self.now in
    let is_row : IsRow v.cols (get_or v.rows c.args.i []) = All-get_or (IsRow v.cols) v.rows c.args.i [] c.requires.row_in c.facts.ensures.scrollback.each in
    let size : length c.line.result.now ≡ v.cols = ap length c.line.ensures.line ∙ is_row.count in
    record {
      row = sym c.line.ensures.line ∙ c.front.ensures.row ∙ ap (λ n. with_blanks n c.front.result.now) size;
      few = omega (arith, size, c.front.ensures.few);
    }
