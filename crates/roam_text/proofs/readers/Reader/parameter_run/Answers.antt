use Rattle.std.proofs.Common.{take, map, sym, ap, ◌∙◌, ◌++◌}
use Rattle.roam_text.specs.Log.{character}
use Rattle.roam_text.specs.Residual.{outcome}
use Rattle.roam_text.specs.Stands.{View}
use Rattle.roam_text.proofs.Asciis.{run-stands, run-gained}
use Rattle.roam_text.proofs.Empty.{empty-is}
use Rattle.roam_text.proofs.readers.Reader.parameter_run.Goals as goal

pub returns-clause-stands : goal.returns-clause-stands
returns-clause-stands c log stands =
    let bytes = take c.read_parameters.result c.args.piece.now in
    let whole = empty-is c.self.inside.decoder.pending.items c.if-not-is_empty.ensures in
    run-stands c.args.self.now _ bytes c.read_parameters.ensures.ascii (sym (ap (λ (v : View). v.pending) c.self.view_is) ∙ whole) whole
    (λ rest. sym (ap (λ (v : View). outcome v.parser (map character bytes ++ rest)) c.self.view_is) ∙ c.read_parameters.ensures.read rest)
    log stands

pub returns-clause-gained : goal.returns-clause-gained
returns-clause-gained c log stands =
    let bytes = take c.read_parameters.result c.args.piece.now in
    let whole = empty-is c.self.inside.decoder.pending.items c.if-not-is_empty.ensures in
    run-gained c.args.self.now (record {
      pending = c.self.inside.decoder.pending.items;
      parser = c.read_parameters.new.self;
      parameters = c.read_parameters.new.self.sequence.params.items;
      intermediates = c.read_parameters.new.self.sequence.inter.items;
    })
    bytes c.read_parameters.ensures.ascii (sym (ap (λ (v : View). v.pending) c.self.view_is) ∙ whole) whole
    (λ rest. sym (ap (λ (v : View). outcome v.parser (map character bytes ++ rest)) c.self.view_is) ∙ c.read_parameters.ensures.read rest)
    log stands
