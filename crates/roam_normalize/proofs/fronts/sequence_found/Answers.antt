use Rattle.std.proofs.Common.{◌-◌, inr, length, take, drop, sym, ◌∙◌, arith}
use Rattle.std.specs.Prelude.{slice_index}
use Rattle.roam_normalize.proofs.Glances.{final-no-body, kind-of-front}
use Rattle.roam_normalize.proofs.Scanning.{scan-sequence}
use Rattle.roam_normalize.proofs.Going.{front-as-it-stands, front-changed, sequence-within}
use Rattle.roam_normalize.proofs.fronts.sequence_found.Goals as goal

pub returns-in-AsItStands : goal.returns-in-AsItStands
returns-in-AsItStands c =
    let bytes = c.args.bytes.now in
    let s = c.in-Sequence.ensures.scanned in
    let within = sequence-within bytes c.requires.some c.requires.escape c.requires.bracket c.in-Sequence.count s.0 s.1 in
    record {
      found = (
        front-as-it-stands bytes c.requires.some c.requires.escape c.requires.bracket c.in-Sequence.count s.0 s.1 (sym c.in-AsItStands.is ∙ c.kind_of.ensures.kind),
        omega arith,
        within,
      );
    }

pub returns-in_default : goal.returns-in_default
returns-in_default c =
    let bytes = c.args.bytes.now in
    let s = c.in-Sequence.ensures.scanned in
    record {
      found = (
        front-changed bytes c.requires.some c.requires.escape c.requires.bracket c.in-Sequence.count s.0 s.1 c.kind_of.result c.kind_of.ensures.kind,
        sequence-within bytes c.requires.some c.requires.escape c.requires.bracket c.in-Sequence.count s.0 s.1,
      );
    }

pub returns-then-is_final : goal.returns-then-is_final
returns-then-is_final c =
    let bytes = c.args.bytes.now in
    let rest = take (length bytes - 2) (drop 2 bytes) in
    let n = c.plain_body-plain.result in
    let less = c.if-plain-rest.true in
    let some = c.if-plain-gt0.true in
    let final = sym c.is_final.ensures.last ∙ c.if-is_final.true in
    let is = scan-sequence rest n c.plain_body-plain.ensures.scan less (inr (final-no-body (slice_index rest n) final)) final in
    record {
      found = (
        front-as-it-stands bytes c.requires.some c.requires.escape c.requires.bracket n is less
            (kind-of-front n rest some less (c.plain_body-plain.ensures.first some) (c.plain_body-plain.ensures.glance some)),
        omega arith,
        sequence-within bytes c.requires.some c.requires.escape c.requires.bracket n is less,
      );
    }
