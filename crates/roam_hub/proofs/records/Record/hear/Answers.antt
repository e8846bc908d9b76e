use Rattle.std.proofs.Common.{◌≡◌, ℕ, Bool, ◌<◌, ◌^◌, List, length, ap, ◌∙◌, sym, subst, arith}
use Rattle.std.specs.List.{All}
use Rattle.std.specs.Prelude.{Err, Some, nat_eq, if◌then◌else◌}
use Rattle.std.proofs.lemmas.Result.{err_from_is_err_and}
use Rattle.roam_screens.specs.Screenshot.{Screenshot}
use Rattle.roam_cells.specs.declared.faults.Fault.TheVariants.{OutOfMemory}
use Rattle.roam_acts.specs.Takers.{fresh_of}
use Rattle.roam_sync.specs.declared.senders.Held.{Held}
use Rattle.roam_sync.specs.Senders.{Sending, newest}
use Rattle.roam_model.specs.Moments.{owed_from}
use Rattle.roam_acts.specs.declared.acts.Act.{Act}
use Rattle.roam_acts.specs.Acts.{IsInRange}
use Rattle.roam_wire.specs.Datagrams.{datagram_value}
use Rattle.roam_wire.specs.Gatherers.{Whole}
use Rattle.roam_wire.specs.Instructions.{UpValue, IsUpOf, up_value, up_text}
use Rattle.roam_model.specs.Texts.{is_watching}
use Rattle.roam_hub.specs.Servers.{RecordView, address_of}
use Rattle.roam_hub.specs.Ends.{version_of, sending_of}
use Rattle.roam_hub.specs.Records.{Notes, NotHeard, fitting, other, Fits, IsOther, TakesActs}
use Rattle.roam_hub.proofs.Recording.{same_kind, fragment_noted, not_gathered, up_unread, fresh_in_range, fresh_few, taken_low, newest_acked, acts_noted, kept_as, informed_as}
use Rattle.roam_hub.specs.contracts.records.Record.{the_view}
use Rattle.roam_hub.proofs.records.Record.hear.Goals as goal

pub returns-in_default-clause-noted : goal.returns-in_default-clause-noted
returns-in_default-clause-noted c =
    subst (λ (v : RecordView). Notes v c.args.session.now (datagram_value c.args.datagram.now) (address_of c.args.from) c.args.now _
    c.note.new.self c.args.session.now) c.self.view_is
    (fragment_noted _ c.args.session.now (datagram_value c.args.datagram.now) (address_of c.args.from) c.args.now c.in_ok-text.field-0
    c.take.new.self.current c.note.new.self c.in_ok-text.ensures.answer c.in_default.not-Whole c.note.ensures.noted)

pub returns-in_err-admit-clause-fault : goal.returns-in_err-admit-clause-fault
returns-in_err-admit-clause-fault c =
    let p = err_from_is_err_and c.from_residual.result c.from_residual.ensures.1 in
    rw (p.1, p.2) (subst (λ (v : RecordView). NotHeard v (datagram_value c.args.datagram.now) c.in_err-admit.field-0.0) c.self.view_is
    (other (subst (λ v. IsOther v c.self.inside.watches (datagram_value c.args.datagram.now) c.in_err-admit.field-0.0)
    c.version.ensures.version c.in_err-admit.ensures.fault)))

pub returns-in_err-text-clause-fault : goal.returns-in_err-text-clause-fault
returns-in_err-text-clause-fault c =
    let p = err_from_is_err_and c.from_residual-in_err-text.result c.from_residual-in_err-text.ensures.1 in
    rw (p.1, p.2) (subst (λ (v : RecordView). NotHeard v (datagram_value c.args.datagram.now) c.in_err-text.field-0.0) c.self.view_is
    (fitting (subst (λ v. Fits v c.self.inside.watches (datagram_value c.args.datagram.now)) c.version.ensures.version
    c.in_ok-admit.ensures.fits)
    (not_gathered _ (datagram_value c.args.datagram.now) _ c.in_err-text.ensures.fault
    (λ e. c.in_err-text.ensures.bad.0 (ap (λ f. Err f) e)))))

pub returns-in_default-clause-fits : goal.returns-in_default-clause-fits
returns-in_default-clause-fits c =
    subst (λ (v : RecordView). Fits v.version v.watches (datagram_value c.args.datagram.now)) c.self.view_is
    (subst (λ v. Fits v c.self.inside.watches (datagram_value c.args.datagram.now)) c.version.ensures.version c.in_ok-admit.ensures.fits)

pub returns-clause-fits : goal.returns-clause-fits
returns-clause-fits c =
    subst (λ (v : RecordView). Fits v.version v.watches (datagram_value c.args.datagram.now)) c.self.view_is
    (subst (λ v. Fits v c.self.inside.watches (datagram_value c.args.datagram.now)) c.version.ensures.version c.in_ok-admit.ensures.fits)

pub returns-in-Err-clause-fault : goal.returns-in-Err-clause-fault
returns-in-Err-clause-fault c =
    let at = rw c.in-Whole.is at c.in_ok-text.ensures.answer in
    let watches = same_kind c.self.inside.watches (is_watching c.args.datagram.now.kind) c.in_ok-admit.ensures.fits.watches_is in
    subst (λ (v : RecordView). NotHeard v (datagram_value c.args.datagram.now) c.in-Err.fault) c.self.view_is
    (fitting (subst (λ v. Fits v c.self.inside.watches (datagram_value c.args.datagram.now)) c.version.ensures.version
    c.in_ok-admit.ensures.fits)
    (up_unread _ (datagram_value c.args.datagram.now) c.as_slice.result.now c.take.new.self.current c.in-Err.fault
    (at ∙ ap (λ (t : List ℕ). Some (Whole t, c.take.new.self.current)) (sym c.as_slice.ensures.value))
    c.in-Err.ensures.fault
    (subst (λ (b : Bool). (u : UpValue) → IsUpOf b u → c.as_slice.result.now ≡ up_text u → c.in-Err.fault ≡ OutOfMemory) watches
    c.in-Err.ensures.only)))

pub take_acts-taking-requires : goal.take_acts-taking-requires
take_acts-taking-requires c =
    let acts = c.as_slice-2.ensures.value in
    record {
      in_range =
          subst (λ (xs : List Act). All IsInRange xs) (sym c.fresh-fresh.ensures.fresh)
          (fresh_in_range c.self.inside.taker c.in-Ok.up.first c.as_slice-2.result.now
          (subst (λ (xs : List Act). All IsInRange xs) (sym acts) c.in-Ok.ensures.in_range));
      room =
          (let few = fresh_few c.self.inside.taker (up_value c.in-Ok.up) c.in-Ok.ensures.found.0.is c.self.invariant.0 in
          let len = ap (λ (xs : List Act). length xs) (c.fresh-fresh.ensures.fresh
          ∙ ap (λ (xs : List Act). fresh_of c.self.inside.taker c.in-Ok.up.first xs) acts) in
          omega (arith, few, len));
    }

pub invariant_of-self-2 : goal.invariant_of-self-2
invariant_of-self-2 c =
    let acts = c.as_slice-2.ensures.value in
    let len = ap (λ (xs : List Act). length xs) (c.fresh-fresh.ensures.fresh
    ∙ ap (λ (xs : List Act). fresh_of c.self.inside.taker c.in-Ok.up.first xs) acts) in
    let within = c.take_acts-taking.ensures.within in
    let low = taken_low c.self.inside.taker c.take_acts-taking.result.taken (up_value c.in-Ok.up) c.in-Ok.ensures.found.0.is c.self.invariant.0
    (omega (arith, within, len)) in (
      omega (arith, low, c.take_acts-taking.ensures.count),
      subst (λ (n : ℕ). n < 2 ^ 62)
          (sym (ap (λ (s : Sending Screenshot). (newest s).number) c.acknowledge.ensures.acked
          ∙ ap (λ (h : Held Screenshot). h.number) (newest_acked (sending_of c.self.inside.sender) c.in-Ok.up.acked)))
          c.self.invariant.1,
      c.self.invariant.2,
      c.self.invariant.3,
      c.self.invariant.4 ∙ sym (ap (λ (s : Sending Screenshot). s.last) c.acknowledge.ensures.acked),
      c.acknowledge.ensures.base,
    )

pub returns-clause-noted : goal.returns-clause-noted
returns-clause-noted c =
    let at = rw c.in-Whole.is at c.in_ok-text.ensures.answer in
    let found = c.in-Ok.ensures.found in
    let watches = same_kind c.self.inside.watches (is_watching c.args.datagram.now.kind) c.in_ok-admit.ensures.fits.watches_is in
    let acts = c.as_slice-2.ensures.value in
    let fresh = c.fresh-fresh.ensures.fresh ∙ ap (λ (xs : List Act). fresh_of c.self.inside.taker c.in-Ok.up.first xs) acts in
    subst (λ (v : RecordView). Notes v c.args.session.now (datagram_value c.args.datagram.now) (address_of c.args.from) c.args.now
    c.take_acts-taking.result c.note-2.new.self c.take_acts-taking.new.session) c.self.view_is
    (acts_noted _ c.args.session.now c.take_acts-taking.new.session (datagram_value c.args.datagram.now) (address_of c.args.from)
    c.args.now c.as_slice.result.now (up_value c.in-Ok.up) c.take.new.self.current c.keep_unless.new.gatherer.current
    c.take_acts-taking.result c.note-2.new.self
    (at ∙ ap (λ (t : List ℕ). Some (Whole t, c.take.new.self.current)) (sym c.as_slice.ensures.value))
    (record { is = subst (λ (b : Bool). IsUpOf b (up_value c.in-Ok.up)) watches found.0; spelled = found.1 })
    (kept_as _ _ c.keep_unless.new.gatherer.current c.is_some.result _ c.keep_unless.ensures.kept c.is_some.ensures
    c.in_ok-text.ensures.before)
    (c.note-2.ensures.noted
    ∙ informed_as (the_view c.self.inside) (datagram_value c.args.datagram.now)
    (address_of c.args.from) c.args.now c.keep_unless.new.gatherer.current
    (up_value c.in-Ok.up) c.take_acts-taking.result.taken (version_of c.acknowledge.new.sender) c.take_acts-taking.new.taker
    (sending_of c.acknowledge.new.sender) c.owed_for-self-inside.result c.acknowledge.ensures.version
    c.take_acts-taking.ensures.count c.acknowledge.ensures.acked
    (c.owed_for-self-inside.ensures.owed
    ∙ ap (λ (xs : List Act). if nat_eq (length xs) 0 then c.self.inside.owed else owed_from c.self.inside.owed c.args.now)
    c.as_slice-3.ensures.value))
    (λ size log st. subst (λ (xs : List Act). TakesActs size log c.args.datagram.now.client xs c.take_acts-taking.result
    c.take_acts-taking.new.session) fresh (c.take_acts-taking.ensures.acts size log st)))
