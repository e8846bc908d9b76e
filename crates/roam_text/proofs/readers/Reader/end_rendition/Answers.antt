use Rattle.std.proofs.Common.{[], ◌∷◌, sym, ap, ◌∙◌, arith}
use Rattle.std.specs.Prelude.{None}
use Rattle.roam_text.specs.declared.functions.Dispatch.TheVariants.{Csi}
use Rattle.roam_text.specs.Dispatched.{function_of}
use Rattle.roam_text.specs.Log.{character}
use Rattle.roam_text.specs.Residual.{outcome}
use Rattle.roam_text.specs.Stands.{View}
use Rattle.roam_text.proofs.Logs.{ascii-given, ascii-pending, bytes-stand, bytes-gained}
use Rattle.roam_text.proofs.Empty.{empty-is}
use Rattle.roam_text.proofs.readers.Reader.end_rendition.Goals as goal

pub returns-clause-stands : goal.returns-clause-stands
returns-clause-stands c done log stands =
    let view = ap (λ (v : View). v.pending) c.self.view_is in
    let inside = empty-is c.self.inside.decoder.pending.items c.if-not-is_empty.ensures in
    let empty = sym view ∙ inside in
    let new : View = record {
      pending = c.self.inside.decoder.pending.items;
      parser = c.end_rendition.new.self;
      parameters = c.end_rendition.new.self.sequence.params.items;
      intermediates = c.end_rendition.new.self.sequence.inter.items;
    } in
    bytes-stand c.args.self.now new (0x6D ∷ []) (function_of (Csi None 0x6D) new.parameters [] ∷ [])
    (view ∙ ascii-pending c.args.self.now.pending 0x6D empty (omega arith))
    (λ rest. ascii-given c.args.self.now.parser c.args.self.now.pending 0x6D rest empty (omega arith)
    ∙ sym (ap (λ (v : View). outcome v.parser (character 0x6D ∷ rest)) c.self.view_is) ∙ c.end_rendition.ensures.given rest)
    log stands

pub returns-clause-gained : goal.returns-clause-gained
returns-clause-gained c done log stands =
    let view = ap (λ (v : View). v.pending) c.self.view_is in
    let inside = empty-is c.self.inside.decoder.pending.items c.if-not-is_empty.ensures in
    let empty = sym view ∙ inside in
    let new : View = record {
      pending = c.self.inside.decoder.pending.items;
      parser = c.end_rendition.new.self;
      parameters = c.end_rendition.new.self.sequence.params.items;
      intermediates = c.end_rendition.new.self.sequence.inter.items;
    } in
    bytes-gained c.args.self.now new (0x6D ∷ []) (function_of (Csi None 0x6D) new.parameters [] ∷ [])
    (view ∙ ascii-pending c.args.self.now.pending 0x6D empty (omega arith))
    (λ rest. ascii-given c.args.self.now.parser c.args.self.now.pending 0x6D rest empty (omega arith)
    ∙ sym (ap (λ (v : View). outcome v.parser (character 0x6D ∷ rest)) c.self.view_is) ∙ c.end_rendition.ensures.given rest)
    log stands
