use Rattle.std.proofs.Common.{◌<◌, length, sym, ◌∙◌, arith}
use Rattle.roam_normalize.proofs.Scanning.{scan-unfinished, scan-neither, scan-sequence}
use Rattle.roam_normalize.proofs.fronts.scan.Goals as goal

pub returns-then-at-bytes : goal.returns-then-at-bytes
returns-then-at-bytes c =
    let e = c.if-at-bytes.true in
    record { scanned = scan-unfinished c.args.bytes.now c.body_run-at.result c.body_run-at.ensures.scan (omega (arith, e)) }

pub returns-then-is_final : goal.returns-then-is_final
returns-then-is_final c =
    let within = c.body_run-at.ensures.within in
    let other = c.if-at-bytes.false in
    let less : c.body_run-at.result < length c.args.bytes.now = omega (arith, within, other) in
    record {
      scanned = (
        scan-sequence c.args.bytes.now c.body_run-at.result c.body_run-at.ensures.scan less (c.body_run-at.ensures.stops less)
            (sym c.is_final.ensures.last ∙ c.if-is_final.true),
        less,
      );
    }

pub returns-else-is_final : goal.returns-else-is_final
returns-else-is_final c =
    let within = c.body_run-at.ensures.within in
    let other = c.if-at-bytes.false in
    let less : c.body_run-at.result < length c.args.bytes.now = omega (arith, within, other) in
    record {
      scanned = scan-neither c.args.bytes.now c.body_run-at.result c.body_run-at.ensures.scan less (c.body_run-at.ensures.stops less)
          (sym c.is_final.ensures.last ∙ c.if-is_final.false);
    }
