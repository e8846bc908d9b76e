use Rattle.std.proofs.Common.{◌≡◌, ◌⊎◌, ℕ, ◌+◌, ◌≤◌, List, length, map, false, true, sym, ap, ◌∙◌, subst, arith, inl, inr}
use Rattle.std.specs.Prelude.{IfOk, OnOk, IfErr, ◌||◌}
use Rattle.std.proofs.lemmas.Bool.Decides.{nat_tests}
use Rattle.std.proofs.lemmas.Result.{IfOk-weaker, MatchResult-weaker}
use Rattle.roam_cells.specs.declared.faults.Fault.TheVariants.{OutOfMemory, Spent}
use Rattle.roam_wire.specs.declared.datagrams.Kind.{Kind}
use Rattle.roam_wire.specs.declared.versions.Version.{Version}
use Rattle.roam_wire.specs.Cutting.{fragments_of, texts_of}
use Rattle.roam_wire.specs.Datagrams.{datagram_text}
use Rattle.roam_wire.specs.Versions.{most_bytes}
use Rattle.roam_wire.specs.Instructions.{UpValue, up_text}
use Rattle.roam_model.specs.Moments.{is_spent}
use Rattle.roam_model.specs.Texts.{kind_from, datagrams_of}
use Rattle.roam_model.proofs.Sendable.{up_length, acts_length}
use Rattle.roam_hub.specs.Ends.{version_in, receiving_in}
use Rattle.roam_model.specs.Sendings.{is_client_spent, datagrams_from}
use Rattle.roam_hub.specs.Clients.{ClientView}
use Rattle.roam_hub.proofs.StartSending.{text_sent, first_fits, short_in, from_watcher}
use Rattle.roam_hub.proofs.clients.Client.instruction.Goals as goal

pub packed-requires-clause-short : goal.packed-requires-clause-short
packed-requires-clause-short c =
    let u : UpValue = record { acked = c.newest_number.result; first = c.waiting-first.result.0; acts = c.in_ok-from_slice.field-0.items } in
    let text : c.as_slice.result.now ≡ up_text u = c.as_slice.ensures.value ∙ c.in_ok-text.ensures.written in
    let acts = ap (λ xs. length xs) c.in_ok-from_slice.ensures.items in
    let few = acts_length c.in_ok-from_slice.field-0.items in
    let most = c.waiting-first.ensures.most in
    subst (λ (t : List ℕ). length t ≤ most_bytes c.version.result) (sym text)
    (let many = up_length u in short_in c.version.result (length (up_text u)) (omega (arith, many, few, acts, most)))

pub packed-requires-clause-kind : goal.packed-requires-clause-kind
packed-requires-clause-kind c w =
    c.version.ensures.version ∙ c.self.invariant.6 (from_watcher c.self.inside.watches (sym c.kind_of.ensures.kind ∙ w))

pub returns-clause-written : goal.returns-clause-written
returns-clause-written c =
    let u : UpValue = record { acked = c.newest_number.result; first = c.waiting-first.result.0; acts = c.in_ok-from_slice.field-0.items } in
    let text = text_sent (receiving_in c.self.inside.receiver).newest.number c.self.inside.acts u c.as_slice.result.now
    c.newest_number.ensures.number
    c.waiting-first.ensures.first
    (c.in_ok-from_slice.ensures.items ∙ c.waiting-first.ensures.acts) (c.as_slice.ensures.value ∙ c.in_ok-text.ensures.written) in
    subst (λ (v : ClientView). IfOk c.packed.result (λ all. texts_of all.items
    ≡ map datagram_text (datagrams_from v.session v.id v.kept))) c.self.view_is
    (subst (λ (t : List ℕ). IfOk c.packed.result (λ all. texts_of all.items ≡ map datagram_text
    (datagrams_of (version_in c.self.inside.receiver) (kind_from c.self.inside.watches) c.self.inside.session c.self.inside.id
    c.self.inside.datagrams (c.self.inside.instructions + 1) (fragments_of t))))
    text (subst (λ (p : Version × Kind). IfOk c.packed.result (λ all. texts_of all.items ≡ map datagram_text
    (datagrams_of p.0 p.1 c.self.inside.session c.self.inside.id c.self.inside.datagrams (c.self.inside.instructions + 1)
    (fragments_of c.as_slice.result.now)))) (λ i. (c.version.ensures.version i, c.kind_of.ensures.kind i)) c.packed.ensures.written))

pub returns-clause-fit : goal.returns-clause-fit
returns-clause-fit c =
    let u : UpValue = record { acked = c.newest_number.result; first = c.waiting-first.result.0; acts = c.in_ok-from_slice.field-0.items } in
    let text = text_sent (receiving_in c.self.inside.receiver).newest.number c.self.inside.acts u c.as_slice.result.now
    c.newest_number.ensures.number
    c.waiting-first.ensures.first
    (c.in_ok-from_slice.ensures.items ∙ c.waiting-first.ensures.acts) (c.as_slice.ensures.value ∙ c.in_ok-text.ensures.written) in
    let low : is_spent (c.self.inside.acts.acked + 1) ≡ false =
    ap is_spent (sym c.waiting-first.ensures.first) ∙ (let f = c.if-first-ge-NUMBER_LIMIT.false in grind (arith, nat_tests, f)) in
    subst (λ (v : ClientView). OnOk c.packed.result (is_client_spent v.kept ≡ false)) c.self.view_is
    (subst (λ (t : List ℕ). OnOk c.packed.result ((is_spent (c.self.inside.acts.acked + 1) || is_spent (c.self.inside.instructions + 1)
    || is_spent (c.self.inside.datagrams + length (fragments_of t))) ≡ false)) text
    (IfOk-weaker c.packed.result _ _ (λ _ e. first_fits _ _ _ low ∙ e) c.packed.ensures.fit))

pub returns-clause-fault : goal.returns-clause-fault
returns-clause-fault c =
    let u : UpValue = record { acked = c.newest_number.result; first = c.waiting-first.result.0; acts = c.in_ok-from_slice.field-0.items } in
    let text = text_sent (receiving_in c.self.inside.receiver).newest.number c.self.inside.acts u c.as_slice.result.now
    c.newest_number.ensures.number
    c.waiting-first.ensures.first
    (c.in_ok-from_slice.ensures.items ∙ c.waiting-first.ensures.acts) (c.as_slice.ensures.value ∙ c.in_ok-text.ensures.written) in
    let low : is_spent (c.self.inside.acts.acked + 1) ≡ false =
    ap is_spent (sym c.waiting-first.ensures.first) ∙ (let f = c.if-first-ge-NUMBER_LIMIT.false in grind (arith, nat_tests, f)) in
    subst (λ (v : ClientView). IfErr c.packed.result (λ fault. (fault ≡ OutOfMemory) ⊎ ((fault ≡ Spent) × (is_client_spent v.kept ≡ true))))
    c.self.view_is
    (subst (λ (t : List ℕ). IfErr c.packed.result (λ fault. (fault ≡ OutOfMemory) ⊎ ((fault ≡ Spent)
    × ((is_spent (c.self.inside.acts.acked + 1) || is_spent (c.self.inside.instructions + 1)
    || is_spent (c.self.inside.datagrams + length (fragments_of t))) ≡ true)))) text
    (MatchResult-weaker c.packed.result c.packed.ensures.fault (λ _ x. x)
    (λ _ x. elim x [ inl m ↦ inl m | inr s ↦ inr (s.0, first_fits _ _ _ low ∙ s.1) ])))
