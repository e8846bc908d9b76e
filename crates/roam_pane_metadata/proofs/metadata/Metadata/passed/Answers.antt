use Rattle.std.proofs.Common.{take, map, refl, sym, ap, subst}
use Rattle.roam_text.specs.Log.{Byte}
use Rattle.roam_text.specs.Stands.{Stands as ReaderStands}
use Rattle.roam_text.specs.StringPhases.{Follows}
use Rattle.roam_pane_metadata.specs.Metadata.{MetadataView}
use Rattle.roam_pane_metadata.proofs.Standing.{passed-stands}
use Rattle.roam_pane_metadata.proofs.metadata.Metadata.passed.Goals as goal

pub returns-then-is_at_rest-2-clause-stands : goal.returns-then-is_at_rest-2-clause-stands
returns-then-is_at_rest-2-clause-stands c bytes stands =
    passed-stands c.args.self.now bytes (take c.silent_run.result c.args.piece.now) c.silent_run.ensures.silent stands
    (c.if-is_at_rest.ensures.rests refl (map Byte stands.read) (subst (λ v. ReaderStands v (map Byte stands.read)) (sym (ap (λ (v : MetadataView). v.reader) c.self.view_is)) stands.reader))
    (c.if-is_at_rest-2.ensures.rests refl (map Byte stands.read) (subst (λ v. Follows v (map Byte stands.read)) (sym (ap (λ (v : MetadataView). v.strings) c.self.view_is)) stands.strings))
