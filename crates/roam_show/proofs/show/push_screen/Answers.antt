use Rattle.std.proofs.Common.{◌≡◌, ◌++◌, append-nil, append_assoc, ◌∙◌, ap, sym, string_bytes}
use Rattle.roam_screens.specs.Screenshot.{row_text}
use Rattle.roam_show.specs.ShowText.{first_rows, row_line}
use Rattle.roam_show.proofs.ShowLaws.{first_rows-none, first_rows-more}
use Rattle.roam_show.proofs.show.push_screen.Goals as goal

pub loop-row-init : goal.loop-row-init
loop-row-init g c = sym (ap (λ t. string_bytes c.args.text.now ++ t) (first_rows-none _ _) ∙ append-nil _)

pub loop-row-preserved : goal.loop-row-preserved
loop-row-preserved g c =
    let cells = (g.S.Seen.screen c.args.shot.now).cells in
    let cols = (g.S.Seen.screen c.args.shot.now).cols in
    let row = c.loop-row.row in
    let before = string_bytes c.args.text.now in
    let chars : c.deref.result.now ≡ row_text cols cells row = c.deref.ensures.value ∙ c.in_ok-chars.ensures.text in
    c.in_ok-push_row.ensures.text
    ∙ ap (λ t. t ++ row_line c.deref.result.now) c.loop-row.invariant
    ∙ ap (λ cs. (before ++ first_rows row cols cells) ++ row_line cs) chars
    ∙ append_assoc before (first_rows row cols cells) (row_line (row_text cols cells row))
    ∙ ap (λ t. before ++ t) (sym (first_rows-more row cols cells))
