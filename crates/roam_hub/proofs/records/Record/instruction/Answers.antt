use Rattle.std.proofs.Common.{◌≡◌, ◌⊎◌, ℕ, ◌+◌, ◌≤◌, List, length, map, false, true, sym, ap, ◌∙◌, subst, arith, inl, inr}
use Rattle.std.specs.Prelude.{IfOk, OnOk, IfErr, ◌||◌}
use Rattle.std.proofs.lemmas.Bool.Decides.{nat_tests}
use Rattle.std.proofs.lemmas.Result.{IfOk-weaker, MatchResult-weaker}
use Rattle.roam_cells.specs.declared.faults.Fault.TheVariants.{OutOfMemory, Spent}
use Rattle.roam_wire.specs.declared.datagrams.Kind.TheVariants.{ToClient}
use Rattle.roam_wire.specs.declared.versions.Version.{Version}
use Rattle.roam_wire.specs.Versions.{most_bytes}
use Rattle.roam_wire.specs.Cutting.{fragments_of, texts_of}
use Rattle.roam_wire.specs.Datagrams.{datagram_text}
use Rattle.roam_wire.specs.Instructions.{down_text}
use Rattle.roam_model.specs.Moments.{is_spent}
use Rattle.roam_model.specs.Texts.{datagrams_of}
use Rattle.roam_model.specs.Ticks.{down_from}
use Rattle.roam_hub.specs.Ends.{version_of, sending_of}
use Rattle.roam_hub.specs.Servers.{RecordView}
use Rattle.roam_hub.specs.Records.{datagrams_for, is_instruction_spent}
use Rattle.roam_hub.specs.Shared.{Agree, StayBetween}
use Rattle.roam_hub.proofs.Addressing.{last_fits}
use Rattle.roam_hub.proofs.records.Record.instruction.Goals as goal

pub text_of-requires-clause-agree : goal.text_of-requires-clause-agree
text_of-requires-clause-agree c =
    subst (λ (v : RecordView). Agree v.version v.sender c.args.changes.now.items) (sym c.self.view_is) c.requires.agree

pub packed-requires-clause-short : goal.packed-requires-clause-short
packed-requires-clause-short c =
    subst (λ (v : Version). length c.as_slice.result.now ≤ most_bytes v) (sym c.version.ensures.version)
    (subst (λ (text : List ℕ). length text ≤ most_bytes (version_of c.self.inside.sender)) (sym c.as_slice.ensures.value)
    c.in_ok-text.ensures.short)

pub returns-clause-written : goal.returns-clause-written
returns-clause-written c =
    let text = c.as_slice.ensures.value ∙ c.in_ok-text.ensures.written
    ∙ ap (λ (n : ℕ). down_text (down_from (version_of c.self.inside.sender) (sending_of c.self.inside.sender) n))
    c.taken-acked.ensures.count in
    subst (λ (v : RecordView). IfOk c.packed.result (λ all. texts_of all.items
    ≡ map datagram_text (datagrams_for c.args.session (c.args.client, v)))) c.self.view_is
    (subst (λ (x : List ℕ). IfOk c.packed.result (λ all. texts_of all.items ≡ map datagram_text
    (datagrams_of (version_of c.self.inside.sender) ToClient c.args.session c.args.client c.self.inside.datagrams
    (c.self.inside.instructions + 1) (fragments_of x))))
    text (subst (λ (v : Version). IfOk c.packed.result (λ all. texts_of all.items ≡ map datagram_text
    (datagrams_of v ToClient c.args.session c.args.client c.self.inside.datagrams (c.self.inside.instructions + 1)
    (fragments_of c.as_slice.result.now)))) c.version.ensures.version c.packed.ensures.written))

pub returns-clause-fit : goal.returns-clause-fit
returns-clause-fit c =
    let text = c.as_slice.ensures.value ∙ c.in_ok-text.ensures.written
    ∙ ap (λ (n : ℕ). down_text (down_from (version_of c.self.inside.sender) (sending_of c.self.inside.sender) n))
    c.taken-acked.ensures.count in
    let low : is_spent c.self.inside.taker ≡ false =
    ap is_spent (sym c.taken-acked.ensures.count) ∙ (let f = c.if-acked-ge-NUMBER_LIMIT.false in grind (arith, nat_tests, f)) in
    subst (λ (v : RecordView). OnOk c.packed.result (is_instruction_spent v ≡ false)) c.self.view_is
    (subst (λ (x : List ℕ). OnOk c.packed.result ((is_spent (c.self.inside.instructions + 1)
    || is_spent (c.self.inside.datagrams + length (fragments_of x)) || is_spent c.self.inside.taker) ≡ false)) text
    (IfOk-weaker c.packed.result _ _ (λ _ e. last_fits (is_spent (c.self.inside.instructions + 1) || is_spent
    (c.self.inside.datagrams + length (fragments_of c.as_slice.result.now)))
    (is_spent c.self.inside.taker) low ∙ e) c.packed.ensures.fit))

pub returns-clause-fault : goal.returns-clause-fault
returns-clause-fault c =
    let text = c.as_slice.ensures.value ∙ c.in_ok-text.ensures.written
    ∙ ap (λ (n : ℕ). down_text (down_from (version_of c.self.inside.sender) (sending_of c.self.inside.sender) n))
    c.taken-acked.ensures.count in
    let low : is_spent c.self.inside.taker ≡ false =
    ap is_spent (sym c.taken-acked.ensures.count) ∙ (let f = c.if-acked-ge-NUMBER_LIMIT.false in grind (arith, nat_tests, f)) in
    subst (λ (v : RecordView). IfErr c.packed.result (λ fault. (fault ≡ OutOfMemory) ⊎ ((fault ≡ Spent) × (is_instruction_spent v ≡ true))))
    c.self.view_is
    (subst (λ (x : List ℕ). IfErr c.packed.result (λ fault. (fault ≡ OutOfMemory) ⊎ ((fault ≡ Spent)
    × ((is_spent (c.self.inside.instructions + 1) || is_spent (c.self.inside.datagrams + length (fragments_of x))
    || is_spent c.self.inside.taker) ≡ true)))) text
    (MatchResult-weaker c.packed.result c.packed.ensures.fault (λ _ x. x)
    (λ _ x. elim x [
      | inl m ↦ inl m
      | inr s ↦ inr (
        s.0,
        last_fits (is_spent (c.self.inside.instructions + 1) || is_spent (c.self.inside.datagrams + length
            (fragments_of c.as_slice.result.now)))
            (is_spent c.self.inside.taker) low ∙ s.1,
      )
    ])))

pub returns-clause-stay : goal.returns-clause-stay
returns-clause-stay c =
    subst (λ (v : RecordView). OnOk c.packed.result (StayBetween v.version v.sender c.args.changes.now.items c.text_of.new.changes.items))
    c.self.view_is (IfOk-weaker c.packed.result _ _ (λ _ _. c.in_ok-text.ensures.stay) c.packed.ensures.written)
