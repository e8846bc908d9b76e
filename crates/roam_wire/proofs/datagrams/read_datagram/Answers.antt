use Rattle.std.proofs.Common.{◌≡◌, Ok, Err, length, drop, sym, subst, ◌∙◌, arith}
use Rattle.std.proofs.lemmas.Result.{err_from_is_err_and}
use Rattle.roam_wire.specs.Datagrams.{DatagramValue, IsDatagram, datagram_text}
use Rattle.roam_wire.specs.Headers.{checked_header, datagram_with, header_at}
use Rattle.roam_wire.proofs.Heads.{found, is_read, read_as, refused}
use Rattle.roam_wire.proofs.datagrams.read_datagram.Goals as goal

pub returns-in-Err-clause-only : goal.returns-in-Err-clause-only
returns-in-Err-clause-only c =
    let bytes = c.args.bytes.now in
    let head = c.read-header.ensures.header in
    let back = c.split_at.ensures.back in
    let tests : checked_header (header_at bytes) (length (drop 42 bytes)) ≡ Err c.in-Err.reason =
    (λ i. checked_header (sym head i) (length (sym back i))) ∙ sym c.check.ensures.checked ∙ c.in-Err.is in
    λ d is text. absurd (refused bytes c.in-Err.reason (omega arith) tests d is text)

pub returns-in_ok-from_slice-in-Ok-clause-found : goal.returns-in_ok-from_slice-in-Ok-clause-found
returns-in_ok-from_slice-in-Ok-clause-found c =
    let bytes = c.args.bytes.now in
    let v = c.in-Ok.version in
    let kind = c.in-Ok.kind in
    let head = c.read-header.ensures.header in
    let back = c.split_at.ensures.back in
    let payload = c.in_ok-from_slice-in-Ok.ensures.items ∙ back in
    let tests : checked_header (header_at bytes) (length (drop 42 bytes)) ≡ Ok (v, kind) =
    (λ i. checked_header (sym head i) (length (sym back i))) ∙ sym c.check.ensures.checked ∙ c.in-Ok.is in
    let Is : DatagramValue → Type 0 = λ d. IsDatagram d × (bytes ≡ datagram_text d) in
    subst Is (λ i. datagram_with (sym head i) (sym payload i) v kind) (found bytes v kind (omega arith) (λ i. omega (arith, c.type_inv.bytes i)) tests)

pub returns-in_ok-from_slice-in-Ok-clause-only : goal.returns-in_ok-from_slice-in-Ok-clause-only
returns-in_ok-from_slice-in-Ok-clause-only c =
    let bytes = c.args.bytes.now in
    let v = c.in-Ok.version in
    let kind = c.in-Ok.kind in
    let head = c.read-header.ensures.header in
    let back = c.split_at.ensures.back in
    let payload = c.in_ok-from_slice-in-Ok.ensures.items ∙ back in
    let tests : checked_header (header_at bytes) (length (drop 42 bytes)) ≡ Ok (v, kind) =
    (λ i. checked_header (sym head i) (length (sym back i))) ∙ sym c.check.ensures.checked ∙ c.in-Ok.is in
    λ d is text. (λ i. datagram_with (head i) (payload i) v kind) ∙ read_as bytes v kind (omega arith) tests d is text

pub returns-in_err-from_slice-in-Ok-clause-fault : goal.returns-in_err-from_slice-in-Ok-clause-fault
returns-in_err-from_slice-in-Ok-clause-fault c =
    let bytes = c.args.bytes.now in
    let v = c.in-Ok.version in
    let kind = c.in-Ok.kind in
    let head = c.read-header.ensures.header in
    let back = c.split_at.ensures.back in
    let tests : checked_header (header_at bytes) (length (drop 42 bytes)) ≡ Ok (v, kind) =
    (λ i. checked_header (sym head i) (length (sym back i))) ∙ sym c.check.ensures.checked ∙ c.in-Ok.is in
    let p = err_from_is_err_and c.from_residual.result c.from_residual.ensures.1 in
    rw (p.1, p.2) (is_read bytes v kind (omega arith) tests)
