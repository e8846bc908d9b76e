use Rattle.std.proofs.Common.{◌≡◌, ◌++◌, ◌∙◌, ℕ, List, ap, subst}
use Rattle.std.proofs.lemmas.Result.{IfOk-weaker}
use Rattle.roam_text.specs.Log.{Item}
use Rattle.roam_cells.specs.Place.{row_of}
use Rattle.roam_screens.specs.Screenshot.{Screenshot}
use Rattle.roam_term.specs.Picture.{picture, picture_of}
use Rattle.roam_term.specs.Stands.{TermView, Stands}
use Rattle.roam_term.proofs.Showing.{picture_is}
use Rattle.roam_term.proofs.terms.Term.push_row.Goals as goal

pub returns-clause-picture : goal.returns-clause-picture
returns-clause-picture c =
    let l = c.self.inside.canvas.live in
    let h = c.self.inside.history in
    let old = c.args.cells.now.items in
    let new = c.push_row.new.cells.items in
    IfOk-weaker c.push_row.result (λ _. new ≡ old ++ row_of l.screen.cols (picture_of l h c.args.view).cells c.args.row)
    (λ _. (rows cols lines : ℕ) (log : List Item) → Stands c.args.self.now rows cols lines log
    → new ≡ old ++ row_of (picture rows cols lines log c.args.view).cols (picture rows cols lines log c.args.view).cells c.args.row)
    (λ _ is rows cols lines log shows.
    subst (λ (shot : Screenshot). new ≡ old ++ row_of shot.cols shot.cells c.args.row)
    (picture_is rows cols lines log c.args.view l h (ap (λ (t : TermView). t.live) c.self.view_is ∙ shows.live)
    (ap (λ (t : TermView). t.history) c.self.view_is ∙ shows.history))
    is)
    c.push_row.ensures.row
