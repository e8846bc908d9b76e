use Rattle.std.proofs.Common.{◌<◌, false, [], ◌∷◌, length, map, take, refl, sym, subst, ◌∙◌, arith}
use Rattle.std.specs.Prelude.{slice_index}
use Rattle.std.proofs.lemmas.List.{append-nil, take_more}
use Rattle.roam_text.specs.Functions.{functions_of}
use Rattle.roam_text.specs.Log.{Byte}
use Rattle.roam_scrollback.specs.Sources.{Sheds, SourceView}
use Rattle.roam_scrollback.proofs.Shedding.{sheds-out, sheds-then}
use Rattle.roam_scrollback.proofs.Writing.{writes-none}
use Rattle.roam_scrollback.proofs.sources.RowSource.feed_sequence.Goals as goal

pub returns-then-count-piece-clause-sheds : goal.returns-then-count-piece-clause-sheds
returns-then-count-piece-clause-sheds c =
    let run = c.parameter_run-count in
    let lines = c.args.lines.now in
    rw (← c.self.view_is)
    (sheds-out _ _ lines lines false (map Byte (take run.result c.args.piece.now)) [] run.ensures.stands
    (λ log shows. run.ensures.gained log shows ∙ sym (append-nil (functions_of log))) refl refl (writes-none lines c.facts.ensures.lost) refl)

pub returns-clause-sheds : goal.returns-clause-sheds
returns-clause-sheds c =
    let run = c.parameter_run-count in
    let last = c.feed_last-cleared in
    let lines = c.args.lines.now in
    let piece = c.args.piece.now in
    let at = run.result in
    let within = run.ensures.within in
    let other = c.if-count-piece.false in
    let less : at < length piece = omega (arith, within, other) in
    let inside = c.self.inside in
    let old : SourceView = record { reader = inside.reader; live = inside.surface.live; wraps = inside.surface.wraps } in
    rw (← c.self.view_is)
    (subst (λ bytes. Sheds old last.new.self lines last.new.lines last.result (map Byte bytes)) (sym (take_more piece at 0 less))
    (sheds-then old _ last.new.self lines lines last.new.lines last.result (take at piece) (slice_index piece at ∷ [])
    (sheds-out old _ lines lines false (map Byte (take at piece)) [] run.ensures.stands
    (λ log shows. run.ensures.gained log shows ∙ sym (append-nil (functions_of log))) refl refl (writes-none lines c.facts.ensures.lost) refl)
    last.ensures.sheds))
