use Rattle.std.proofs.Common.{◌≡◌, ◌∙◌, ◌≤◌, ◌<◌, ◌^◌, ap, sym, subst, inl, inr, false, arith}
use Rattle.std.specs.Prelude.{IsTrue, ◌&&◌}
use Rattle.std.proofs.lemmas.Result.{err_from_is_err_and}
use Rattle.indexmap.specs.Layout.{length-set_value_at}
use Rattle.roam_sync.specs.Senders.{newest, count}
use Rattle.roam_hub.specs.Servers.{RecordView, parcels_of}
use Rattle.roam_hub.specs.Records.{is_sent_to, is_instruction_spent, HasNumbersFor, back_from}
use Rattle.roam_hub.proofs.Settling.{IsAt, here_still, all_settled, all_sent, spent_is, first_spent, first_due, later_due, set_nothing, has_numbers, undone, still_there, is_within, value_is, together_first, together_rest}
use Rattle.roam_hub.proofs.sending.+send_from.Goals as goal

pub returns-in_err-prepared-clause-fault : goal.returns-in_err-prepared-clause-fault
returns-in_err-prepared-clause-fault t c =
    let p = err_from_is_err_and c.from_residual.result c.from_residual.ensures.1 in
    rw (p.1, p.2) (elim c.in_err-prepared.ensures.fault [
      | inl m ↦ inl m
      | inr s ↦
          inr (
            s.0,
            first_spent c.args.records.now.entries c.args.at (c.pair_mut-record.result.0.now, c.pair_mut-record.result.1.now)
                c.args.news.number c.args.screen.now c.args.news.now c.pair_mut-record.ensures.value s.1,
          )
    ])

pub returns-in_err-prepared-clause-err : goal.returns-in_err-prepared-clause-err
returns-in_err-prepared-clause-err t c =
    let p = err_from_is_err_and c.from_residual.result c.from_residual.ensures.1 in
    rw p.1 (set_nothing c.args.records.now.entries c.args.at c.pair_mut-record.result.0.now c.pair_mut-record.result.1.now
    c.prepare.new.self
    c.pair_mut-record.ensures.value c.in_err-prepared.ensures.err)

pub prepare-requires-clause-together : goal.prepare-requires-clause-together
prepare-requires-clause-together t c =
    together_first c.args.records.now.entries c.args.at (c.pair_mut-record.result.0.now, c.pair_mut-record.result.1.now) c.args.news.number
    c.args.screen.now c.args.shared.now.changes.items c.pair_mut-record.ensures.value c.requires.together

pub send_from-requires : goal.send_from-requires
send_from-requires t c =
    let len = length-set_value_at c.args.records.now.entries c.args.at c.prepare.new.self in
    let low = is_within c.args.records.now.entries c.args.at c.pair_mut-record.result.0.now c.pair_mut-record.result.1.now
    c.pair_mut-record.ensures.value in
    let rest = together_rest c.args.records.now.entries c.args.at (c.pair_mut-record.result.0.now, c.pair_mut-record.result.1.now)
    c.prepare.new.self c.args.news.number c.args.screen.now c.args.shared.now.changes.items c.prepare.new.shared.changes.items
    c.pair_mut-record.ensures.value c.requires.together c.in_ok-prepared.ensures.stay in (
      omega (arith, len, low, c.decreases),
      (omega (arith, len, low), (c.requires.number, (c.requires.session, (c.prepare.ensures.narrow, rest)))),
    )

pub pair_mut-record-requires-in-Ok : goal.pair_mut-record-requires-in-Ok
pair_mut-record-requires-in-Ok t c =
    is_within c.send_from.new.records.entries c.args.at c.pair_mut-record.result.0.now c.prepare.new.self
    (here_still c.args.records.now.entries c.args.at c.pair_mut-record.result.0.now c.pair_mut-record.result.1.now c.prepare.new.self
    c.args.news.number c.args.screen.now c.args.news.now
    (record { here = c.pair_mut-record.ensures.value; held = c.in_ok-prepared.ensures.held }) c.send_from.new.records.entries
    c.in-Ok.ensures.settled)

pub settle-requires : goal.settle-requires
settle-requires t c =
    let same = value_is c.send_from.new.records.entries c.args.at _ _ c.prepare.new.self c.pair_mut-record-in-Ok.result.1.now
    (here_still c.args.records.now.entries c.args.at c.pair_mut-record.result.0.now c.pair_mut-record.result.1.now c.prepare.new.self
    c.args.news.number c.args.screen.now c.args.news.now
    (record { here = c.pair_mut-record.ensures.value; held = c.in_ok-prepared.ensures.held }) c.send_from.new.records.entries
    c.in-Ok.ensures.settled) c.pair_mut-record-in-Ok.ensures.value in
    let free : (is_sent_to c.prepare.new.self c.args.news.now && is_instruction_spent c.prepare.new.self) ≡ false =
    ap (λ (v : RecordView). is_sent_to v c.args.news.now && is_instruction_spent v) c.in_ok-prepared.ensures.held ∙ c.in_ok-prepared.ensures.fit in
    record {
      numbers =
          subst (λ (v : RecordView). HasNumbersFor v c.in_ok-prepared.prepared.fragments) (sym same)
          (rw c.in_ok-prepared.ensures.fragments (has_numbers c.prepare.new.self c.args.news.now free));
    }

pub pair_mut-record-requires-in-Err : goal.pair_mut-record-requires-in-Err
pair_mut-record-requires-in-Err t c =
    is_within c.send_from.new.records.entries c.args.at c.pair_mut-record.result.0.now c.prepare.new.self
    (still_there c.args.records.now.entries c.send_from.new.records.entries c.args.at c.pair_mut-record.result.0.now
    c.pair_mut-record.result.1.now c.prepare.new.self c.pair_mut-record.ensures.value c.in-Err.ensures.err)

pub undo-requires-clause-several : goal.undo-requires-clause-several
undo-requires-clause-several t c =
    let same = value_is c.send_from.new.records.entries c.args.at _ _ c.prepare.new.self c.pair_mut-record-in-Err.result.1.now
    (still_there c.args.records.now.entries c.send_from.new.records.entries c.args.at c.pair_mut-record.result.0.now
    c.pair_mut-record.result.1.now c.prepare.new.self c.pair_mut-record.ensures.value c.in-Err.ensures.err)
    c.pair_mut-record-in-Err.ensures.value in
    subst (λ (v : RecordView). IsTrue c.in_ok-prepared.prepared.offered → 2 ≤ count v.sender) (sym same) c.in_ok-prepared.ensures.several

pub undo-requires-clause-low : goal.undo-requires-clause-low
undo-requires-clause-low t c =
    let same = value_is c.send_from.new.records.entries c.args.at _ _ c.prepare.new.self c.pair_mut-record-in-Err.result.1.now
    (still_there c.args.records.now.entries c.send_from.new.records.entries c.args.at c.pair_mut-record.result.0.now
    c.pair_mut-record.result.1.now c.prepare.new.self c.pair_mut-record.ensures.value c.in-Err.ensures.err)
    c.pair_mut-record-in-Err.ensures.value in
    subst (λ (v : RecordView). (newest v.sender).number < 2 ^ 62)
    (sym (ap (λ (v : RecordView). back_from v c.in_ok-prepared.prepared.offered) same ∙ c.in_ok-prepared.ensures.back))
    c.prepare.ensures.low

pub returns-in-Ok-clause-settled : goal.returns-in-Ok-clause-settled
returns-in-Ok-clause-settled t c =
    let at : IsAt c.args.records.now.entries c.args.at c.pair_mut-record.result.0.now c.pair_mut-record.result.1.now c.prepare.new.self
    c.args.news.number c.args.screen.now c.args.news.now =
    record { here = c.pair_mut-record.ensures.value; held = c.in_ok-prepared.ensures.held } in
    let same = value_is c.send_from.new.records.entries c.args.at _ _ c.prepare.new.self c.pair_mut-record-in-Ok.result.1.now
    (here_still c.args.records.now.entries c.args.at c.pair_mut-record.result.0.now c.pair_mut-record.result.1.now c.prepare.new.self
    c.args.news.number c.args.screen.now c.args.news.now at c.send_from.new.records.entries
    c.in-Ok.ensures.settled) c.pair_mut-record-in-Ok.ensures.value in
    all_settled c.args.records.now.entries c.args.at c.pair_mut-record.result.0.now c.pair_mut-record.result.1.now c.prepare.new.self
    c.args.news.number c.args.screen.now c.args.news.now at c.send_from.new.records.entries c.settle.new.self
    c.in_ok-prepared.prepared.fragments c.in-Ok.ensures.settled c.in_ok-prepared.ensures.fragments
    (c.settle.ensures.settled
    ∙ ap (λ (v : RecordView). Rattle.roam_hub.specs.Records.settled_with v c.in_ok-prepared.prepared.fragments c.args.news.now) same)

pub returns-in-Ok-clause-parcels : goal.returns-in-Ok-clause-parcels
returns-in-Ok-clause-parcels t c =
    all_sent c.args.records.now.entries c.args.at c.pair_mut-record.result.0.now c.pair_mut-record.result.1.now c.prepare.new.self
    c.args.news.number c.args.screen.now c.args.news.now
    (record { here = c.pair_mut-record.ensures.value; held = c.in_ok-prepared.ensures.held })
    c.args.news.session (parcels_of c.args.parcels.now.items) (parcels_of c.prepare.new.parcels.items)
    (parcels_of c.send_from.new.parcels.items) c.in_ok-prepared.ensures.parcels c.in-Ok.ensures.parcels

pub returns-in-Ok-clause-fit : goal.returns-in-Ok-clause-fit
returns-in-Ok-clause-fit t c =
    spent_is c.args.records.now.entries c.args.at c.pair_mut-record.result.0.now c.pair_mut-record.result.1.now c.prepare.new.self
    c.args.news.number c.args.screen.now c.args.news.now
    (record { here = c.pair_mut-record.ensures.value; held = c.in_ok-prepared.ensures.held }) false c.in_ok-prepared.ensures.fit
    ∙ c.in-Ok.ensures.fit

pub returns-in-Err-clause-fault : goal.returns-in-Err-clause-fault
returns-in-Err-clause-fault t c =
    elim c.in-Err.ensures.fault [
      | inl m ↦ inl m
      | inr s ↦
          inr (
            s.0,
            spent_is c.args.records.now.entries c.args.at c.pair_mut-record.result.0.now c.pair_mut-record.result.1.now
                c.prepare.new.self c.args.news.number c.args.screen.now c.args.news.now
                (record { here = c.pair_mut-record.ensures.value; held = c.in_ok-prepared.ensures.held }) false
                c.in_ok-prepared.ensures.fit ∙ s.1,
          )
    ]

pub returns-in-Err-clause-err : goal.returns-in-Err-clause-err
returns-in-Err-clause-err t c =
    let same = value_is c.send_from.new.records.entries c.args.at _ _ c.prepare.new.self c.pair_mut-record-in-Err.result.1.now
    (still_there c.args.records.now.entries c.send_from.new.records.entries c.args.at c.pair_mut-record.result.0.now
    c.pair_mut-record.result.1.now c.prepare.new.self c.pair_mut-record.ensures.value c.in-Err.ensures.err)
    c.pair_mut-record-in-Err.ensures.value in
    undone c.args.records.now.entries c.send_from.new.records.entries c.args.at c.pair_mut-record.result.0.now
    c.pair_mut-record.result.1.now
    c.prepare.new.self c.undo.new.self c.pair_mut-record.ensures.value c.in-Err.ensures.err
    (c.undo.ensures.back ∙ ap (λ (v : RecordView). back_from v c.in_ok-prepared.prepared.offered) same ∙ c.in_ok-prepared.ensures.back)

pub returns-in_err-prepared-clause-memory : goal.returns-in_err-prepared-clause-memory
returns-in_err-prepared-clause-memory t c =
    let p = err_from_is_err_and c.from_residual.result c.from_residual.ensures.1 in
    rw p.1 (first_due c.args.records.now.entries c.args.at (c.pair_mut-record.result.0.now, c.pair_mut-record.result.1.now)
    c.args.news.number c.args.news.now c.pair_mut-record.ensures.value c.in_err-prepared.ensures.memory)

pub returns-in-Err-clause-memory : goal.returns-in-Err-clause-memory
returns-in-Err-clause-memory t c =
    later_due c.args.records.now.entries c.args.at (c.pair_mut-record.result.0.now, c.pair_mut-record.result.1.now)
    c.prepare.new.self c.args.news.number c.args.news.now c.pair_mut-record.ensures.value c.in-Err.ensures.memory
