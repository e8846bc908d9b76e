use Rattle.std.proofs.Common.{◌≡◌, ℕ, List, true, false, ◌&&◌, eqb, drop, ap, sym, ◌∙◌, rules}
use Rattle.byteorder.specs.Endian.{big_number}
use Rattle.roam_wire.specs.declared.headers.Header.{Header}
use Rattle.roam_wire.specs.Datagrams.{DatagramValue, IsDatagram, datagram_text}
use Rattle.roam_wire.specs.Headers.{header_at}
use Rattle.roam_wire.specs.Instructions.{down_text}
use Rattle.roam_wire.proofs.Heads.{header_there}
use Rattle.roam_wire.proofs.Texts.{new_there, old_there}
use Rattle.roam_wire.proofs.unchanging.is_unchanging.Goals as goal

-- the header that was read is that of the datagram
count_of : (bytes : List ℕ) (h : Header) (d : DatagramValue) → IsDatagram d → h ≡ header_at bytes → bytes ≡ datagram_text d → h.count ≡ d.count
count_of bytes h d is read text = ap (λ (x : Header). x.count) (read ∙ ap header_at text ∙ header_there d is)

-- the bytes behind the header are the payload
payload_of : (bytes rest : List ℕ) (d : DatagramValue) → rest ≡ drop 42 bytes → bytes ≡ datagram_text d → rest ≡ d.payload
payload_of bytes rest d behind text = behind ∙ ap (drop 42) text

pub returns-then-header-eq1-clause-unchanging : goal.returns-then-header-eq1-clause-unchanging
returns-then-header-eq1-clause-unchanging c = λ d u is_d is_u text payload.
    let bytes = c.args.bytes.now in
    let count = count_of bytes c.read-header.result d is_d c.read-header.ensures.header text in
    let one : eqb d.count 1 ≡ true = ap (λ n. eqb n 1) (sym count) ∙ search rules in
    let rest : c.split_at.result.1.now ≡ down_text u = payload_of bytes c.split_at.result.1.now d c.split_at.ensures.back text ∙ payload in
    let old : big_number 8 c.split_at.result.1.now ≡ u.old = ap (big_number 8) rest ∙ old_there u is_u in
    let new : big_number 8 (drop 8 c.split_at.result.1.now) ≡ u.new = ap (λ (t : List ℕ). big_number 8 (drop 8 t)) rest ∙ new_there u is_u in
    c.is_twice_one_number.ensures.twice ∙ (λ i. eqb (old i) (new i)) ∙ (λ i. sym one i && eqb u.old u.new)

pub returns-else-header-eq1-clause-unchanging : goal.returns-else-header-eq1-clause-unchanging
returns-else-header-eq1-clause-unchanging c = λ d u is_d is_u text payload.
    let count = count_of c.args.bytes.now c.read-header.result d is_d c.read-header.ensures.header text in
    let other : eqb c.read-header.result.count 1 ≡ false = search rules in
    let so : eqb d.count 1 ≡ false = ap (λ n. eqb n 1) (sym count) ∙ other in
    other ∙ (λ i. sym so i && eqb u.old u.new)
