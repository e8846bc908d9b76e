use Rattle.std.proofs.Common.{◌≡◌, ◌+◌, ◌⊎◌, ℕ, None, Option, inr, refl, sym, ◌∙◌}
use Rattle.roam_cells.specs.declared.faults.Fault.TheVariants.{OutOfMemory}
use Rattle.roam_faults.specs.declared.faults.RunFault.TheVariants as run
use Rattle.roam_turns.specs.declared.outer.Noted.{Noted}
use Rattle.roam_attach.specs.Runs.{RunsOn, home_of, painted_by}
use Rattle.roam_attach.proofs.Running.{broken_off, ends_badly, ends_well, ends_with_server, more_runs, passed, runs_nothing}
use Rattle.roam_attach.proofs.attaching.follow.Goals as goal

pub loop-init : goal.loop-init
loop-init g c = record {
  behind = rw c.new-shown.ensures.none tt;
  in_range = c.requires.in_range;
  runs = rw c.new-shown.ensures.none (runs_nothing c.home_of-to.result (g.T.Read.remaining c.args.typist.now.reader) c.args.typist.now.lines
      (painted_by g.W.Write.contents None c.args.ports.now) c.args.client.now);
}

pub returns-in_err-type_turn-clause-broken_off : goal.returns-in_err-type_turn-clause-broken_off
returns-in_err-type_turn-clause-broken_off g c =
    let remaining = g.T.Read.remaining in
    let paints = g.W.Write.contents in
    let before = painted_by paints None c.args.ports.now in
    let fault = c.in_err-type_turn.field-0.0 in
    passed c.from_residual.result fault
    (λ e. (e ≡ run.Core OutOfMemory) ⊎ ((turns : ℕ) × (noted : Option Noted) × RunsOn (home_of c.args.attach.now.home)
    (remaining c.args.typist.now.reader) (remaining c.type_turn.new.typist.reader) c.args.typist.now.lines c.type_turn.new.typist.lines
    before (painted_by paints noted c.type_turn.new.ports) c.args.client.now c.type_turn.new.client turns))
    c.from_residual.ensures.1
    (broken_off c.home_of-to.result (home_of c.args.attach.now.home) _ (remaining c.loop.typist.reader) _ _ c.loop.typist.lines _
    before (painted_by paints c.loop.shown c.loop.ports) (λ noted. painted_by paints noted c.type_turn.new.ports) _ c.loop.client _
    c.loop.counter c.home_of-to.ensures.home c.loop.invariant.runs fault c.type_turn.new.shown c.in_err-type_turn.ensures.refused)

pub returns-then-is_unread-clause-broken_off : goal.returns-then-is_unread-clause-broken_off
returns-then-is_unread-clause-broken_off g c =
    let remaining = g.T.Read.remaining in
    let paints = g.W.Write.contents in
    inr (
      c.loop.counter + 1,
      c.type_turn.new.shown,
      more_runs c.home_of-to.result (home_of c.args.attach.now.home) _ (remaining c.loop.typist.reader) _ _ c.loop.typist.lines _
          (painted_by paints None c.args.ports.now) (painted_by paints c.loop.shown c.loop.ports)
          (λ noted. painted_by paints noted c.type_turn.new.ports) _
          c.loop.client _ c.loop.counter c.home_of-to.ensures.home c.loop.invariant.runs _ c.in_ok-type_turn.ensures.typed,
    )

pub returns-then-has_ended-clause-typed : goal.returns-then-has_ended-clause-typed
returns-then-has_ended-clause-typed g c =
    let paints = g.W.Write.contents in
    ends_with_server c.home_of-to.result (home_of c.args.attach.now.home) (g.T.Read.remaining c.args.typist.now.reader)
    (g.T.Read.remaining c.loop.typist.reader) (g.T.Read.remaining c.type_turn.new.typist.reader) c.args.typist.now.lines
    c.loop.typist.lines c.type_turn.new.typist.lines (painted_by paints None c.args.ports.now)
    (painted_by paints c.loop.shown c.loop.ports) (λ noted. painted_by paints noted c.type_turn.new.ports)
    c.args.client.now c.loop.client c.type_turn.new.client c.loop.counter
    c.home_of-to.ensures.home c.loop.invariant.runs c.ended.result _ _ _ c.type_turn.new.shown c.in_ok-type_turn.ensures.typed
    (sym c.has_ended.ensures.ended ∙ c.if-has_ended.true)

pub returns-then-has_ended-clause-broken_off : goal.returns-then-has_ended-clause-broken_off
returns-then-has_ended-clause-broken_off g c =
    let paints = g.W.Write.contents in
    ends_badly c.home_of-to.result (home_of c.args.attach.now.home) (g.T.Read.remaining c.args.typist.now.reader)
    (g.T.Read.remaining c.loop.typist.reader) (g.T.Read.remaining c.type_turn.new.typist.reader) c.args.typist.now.lines
    c.loop.typist.lines c.type_turn.new.typist.lines (painted_by paints None c.args.ports.now)
    (painted_by paints c.loop.shown c.loop.ports) (λ noted. painted_by paints noted c.type_turn.new.ports)
    c.args.client.now c.loop.client c.type_turn.new.client c.loop.counter
    c.home_of-to.ensures.home c.loop.invariant.runs c.ended.result c.type_turn.new.shown c.in_ok-type_turn.ensures.typed

pub returns-then-is_over-clause-typed : goal.returns-then-is_over-clause-typed
returns-then-is_over-clause-typed g c =
    let paints = g.W.Write.contents in
    ends_well c.home_of-to.result (home_of c.args.attach.now.home) (g.T.Read.remaining c.args.typist.now.reader)
    (g.T.Read.remaining c.loop.typist.reader) (g.T.Read.remaining c.type_turn.new.typist.reader) c.args.typist.now.lines
    c.loop.typist.lines c.type_turn.new.typist.lines (painted_by paints None c.args.ports.now)
    (painted_by paints c.loop.shown c.loop.ports) (λ noted. painted_by paints noted c.type_turn.new.ports)
    c.args.client.now c.loop.client c.type_turn.new.client c.loop.counter
    c.home_of-to.ensures.home c.loop.invariant.runs c.ended-then-is_over.result _ _ _ _ c.type_turn.new.shown c.in_ok-type_turn.ensures.typed
    (c.is_over.ensures.over c.if-is_over.true).2

pub returns-then-is_over-clause-broken_off : goal.returns-then-is_over-clause-broken_off
returns-then-is_over-clause-broken_off g c =
    let paints = g.W.Write.contents in
    ends_badly c.home_of-to.result (home_of c.args.attach.now.home) (g.T.Read.remaining c.args.typist.now.reader)
    (g.T.Read.remaining c.loop.typist.reader) (g.T.Read.remaining c.type_turn.new.typist.reader) c.args.typist.now.lines
    c.loop.typist.lines c.type_turn.new.typist.lines (painted_by paints None c.args.ports.now)
    (painted_by paints c.loop.shown c.loop.ports) (λ noted. painted_by paints noted c.type_turn.new.ports)
    c.args.client.now c.loop.client c.type_turn.new.client c.loop.counter
    c.home_of-to.ensures.home c.loop.invariant.runs c.ended-then-is_over.result c.type_turn.new.shown c.in_ok-type_turn.ensures.typed

pub loop-preserved : goal.loop-preserved
loop-preserved g c =
    let remaining = g.T.Read.remaining in
    let paints = g.W.Write.contents in
    record {
      behind = c.in_ok-type_turn.ensures.behind;
      in_range = c.in_ok-type_turn.ensures.in_range;
      runs = more_runs c.home_of-to.result c.home_of-to.result _ (remaining c.loop.typist.reader) _ _ c.loop.typist.lines _
          (painted_by paints None c.args.ports.now) (painted_by paints c.loop.shown c.loop.ports)
          (λ noted. painted_by paints noted c.type_turn.new.ports) _ c.loop.client _ c.loop.counter refl c.loop.invariant.runs _
          c.in_ok-type_turn.ensures.typed;
    }
