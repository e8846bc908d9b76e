use Rattle.std.proofs.Common.{ap, drop, refl, ◌∙◌, arith}
use Rattle.byteorder.specs.Endian.{big_number}
use Rattle.roam_wire.proofs.Texts.{down_read}
use Rattle.roam_wire.proofs.instructions.read_down.Goals as goal

pub returns-clause-found : goal.returns-clause-found
returns-clause-found c = (
  record { floor = omega arith; old = omega arith; new = omega arith; acked = omega arith },
  down_read c.args.bytes.now _ _ _ _ _ (omega arith) (λ i. omega (arith, c.type_inv.bytes i)) c.read_u64-old.ensures
      (c.read_u64-new.ensures ∙ ap (big_number 8) c.split_at.ensures.back)
      (c.read_u64-floor.ensures ∙ ap (big_number 8) c.split_at-2.ensures.back)
      (c.read_u64-acked.ensures ∙ ap (big_number 8) c.split_at-3.ensures.back)
      (c.in_ok-change.ensures.items ∙ c.split_at-4.ensures.back),
)

pub returns-in_err-change-clause-memory : goal.returns-in_err-change-clause-memory
returns-in_err-change-clause-memory c refused = (
  _,
  record { floor = omega arith; old = omega arith; new = omega arith; acked = omega arith },
  down_read c.args.bytes.now (drop 32 c.args.bytes.now) c.read_u64-old.result c.read_u64-new.result c.read_u64-floor.result c.read_u64-acked.result (omega arith)
      (λ i. omega (arith, c.type_inv.bytes i)) c.read_u64-old.ensures
      (c.read_u64-new.ensures ∙ ap (big_number 8) c.split_at.ensures.back)
      (c.read_u64-floor.ensures ∙ ap (big_number 8) c.split_at-2.ensures.back)
      (c.read_u64-acked.ensures ∙ ap (big_number 8) c.split_at-3.ensures.back)
      refl,
)
