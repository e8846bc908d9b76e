use Rattle.std.proofs.Common.{◌∙◌, List, ap, subst, sym}
use Rattle.roam_cells.specs.Glyph.{Glyph}
use Rattle.roam_cells.specs.Place.{IsWholeRow}
use Rattle.roam_history.specs.Histories.{after_push}
use Rattle.roam_history.proofs.Refitting.{padded_front}
use Rattle.roam_history.proofs.histories.History.push_front.Goals as goal

pub take-requires : goal.take-requires
take-requires c =
    let padded = padded_front c.args.self.now.cols c.args.front.now c.requires.few c.requires.whole in
    record { whole = subst (λ (row : List Glyph). IsWholeRow row) (sym padded) c.requires.whole }

pub returns : goal.returns
returns c =
    let padded = padded_front c.args.self.now.cols c.args.front.now c.requires.few c.requires.whole in
    record { pushed = c.take.ensures.pushed ∙ ap (λ row. after_push row c.args.self.now) padded }
