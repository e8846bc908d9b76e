use Rattle.std.proofs.Common.{◌≡◌, ◌∷◌, [], ◌≤◌, ◌<◌, length, ℕ, arith, refl, sym, subst}
use Rattle.roam_terminal_input.specs.declared.typing.Stream.TheVariants.{Open}
use Rattle.roam_terminal_input.specs.Typing.{ReadsOn}
use Rattle.roam_terminal_input.proofs.Standing.{ended_line, ok_then, one_byte, too_long}
use Rattle.roam_terminal_input.proofs.typing.ActLines.take_byte.Goals as goal

pub returns-then-byte-eq10-clause-reads : goal.returns-then-byte-eq10-clause-reads
returns-then-byte-eq10-clause-reads c = ok_then c.end_line.result c.end_line.ensures.ends (λ ends.
    let is_open : c.args.self.now.stream ≡ Open = c.if-not-is_open.ensures.open.0 refl in
    subst (λ (b : ℕ). ReadsOn c.args.self.now (b ∷ []) c.end_line.new.self) (sym c.if-byte-eq10.true)
    (ended_line c.args.self.now c.end_line.new.self is_open ends))

pub returns-then-len-ge-MOST_GATHERED-clause-reads : goal.returns-then-len-ge-MOST_GATHERED-clause-reads
returns-then-len-ge-MOST_GATHERED-clause-reads c =
    let is_open : c.args.self.now.stream ≡ Open = c.if-not-is_open.ensures.open.0 refl in
    let long : 64 ≤ length c.args.self.now.begun.items = omega (arith, c.if-len-ge-MOST_GATHERED.true, c.len.ensures) in
    too_long c.args.self.now c.args.byte c.saturating_add.result is_open c.if-byte-eq10.false long (omega (arith, c.saturating_add.ensures))

pub returns-clause-reads : goal.returns-clause-reads
returns-clause-reads c = ok_then c.push.result c.push.ensures.pushed (λ pushed.
    let is_open : c.args.self.now.stream ≡ Open = c.if-not-is_open.ensures.open.0 refl in
    let room : length c.args.self.now.begun.items < 64 = omega (arith, c.if-len-ge-MOST_GATHERED.false, c.len.ensures) in
    one_byte c.args.self.now _ c.args.byte is_open c.if-byte-eq10.false room pushed refl refl refl)
