use Rattle.std.proofs.Common.{◌≡◌, true, false, ap, sym, ◌∙◌, arith}
use Rattle.byteorder.specs.Endian.{big_number}
use Rattle.roam_wire.proofs.Texts.{no_acts, up_read}
use Rattle.roam_wire.proofs.instructions.read_up.Goals.{else-watches-via-then-watches+else-count-ne0, else-watches-via-else-watches}
use Rattle.roam_wire.proofs.instructions.read_up.Goals as goal

pub returns-clause-found : goal.returns-clause-found
returns-clause-found c =
    let count = c.in_ok-acts.ensures.found.0 in (
      record {
        is = record { acked = omega arith; first = (omega arith, omega arith); count = omega (arith, count); acts = c.in_ok-acts.ensures.found.1 };
        none = λ watching. no_acts c.in_ok-acts.acts.items (elim c.else-watches.branch [
          | else-watches-via-then-watches+else-count-ne0 w ↦ omega (arith, count, w.if-count-ne0.false)
          | else-watches-via-else-watches w ↦ absurd (let no : true ≡ false = sym watching ∙ w.if-watches.false in cc)
        ]);
      },
      up_read c.args.bytes.now _ _ _ (omega arith) (λ i. omega (arith, c.type_inv.bytes i)) c.read_u64-acked.ensures
          (c.read_u64-first.ensures ∙ ap (big_number 8) c.split_at.ensures.back)
          (count ∙ c.read_u16-count.ensures ∙ ap (big_number 2) c.split_at-2.ensures.back)
          (sym c.split_at-3.ensures.back ∙ c.in_ok-acts.ensures.found.2),
    )
