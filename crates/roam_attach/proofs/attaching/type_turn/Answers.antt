use Rattle.std.proofs.Common.{ap, inr, refl, sym, subst, ◌∙◌, All, false, true}
use Rattle.std.proofs.lemmas.List.Elements.{All-drop}
use Rattle.roam_acts.specs.Acts.{IsInRange}
use Rattle.roam_attach.specs.Runs.{Tells, painted_by}
use Rattle.roam_attach.proofs.Running.{handed_still, handed_taken, turn_of, turn_taken, runs_both, runs_reading, takes_first, takes_nothing}
use Rattle.roam_attach.proofs.attaching.type_turn.Goals as goal

pub returns-in-Some-clause-refused : goal.returns-in-Some-clause-refused
returns-in-Some-clause-refused g c = inr (
  c.in-Some.number,
  refl,
  sym c.refused.ensures.refused ∙ c.in-Some.is,
  runs_reading c.args.to _ _ c.args.typist.now.lines c.read_more.new.self.lines
      (painted_by g.W.Write.contents c.args.shown.now c.args.ports.now) c.args.client.now c.in_ok-read_more.ensures.reads,
)

pub returns-then-attach_turn-clause-in_range : goal.returns-then-attach_turn-clause-in_range
returns-then-attach_turn-clause-in_range g c =
    subst (All IsInRange) (sym c.took.ensures.first)
    (All-drop IsInRange 1 c.read_more.new.self.lines.waiting.items (c.in_ok-read_more.ensures.in_range c.requires.in_range))

pub returns-then-attach_turn-clause-typed : goal.returns-then-attach_turn-clause-typed
returns-then-attach_turn-clause-typed g c =
    let remaining = g.T.Read.remaining in
    let paints = g.W.Write.contents in
    let first = painted_by paints c.args.shown.now c.args.ports.now in
    let painted = painted_by paints c.attach_turn.new.outer c.attach_turn.new.ports in
    let last = painted_by paints c.tell.new.shown c.tell.new.ports in
    let before = c.args.typist.now in
    let mid = c.read_more.new.self in
    let after = c.took.new.self in
    let read = runs_reading c.args.to (remaining before.reader) (remaining mid.reader) before.lines mid.lines first c.args.client.now
    c.in_ok-read_more.ensures.reads in
    let taken = turn_taken c.args.to _ true first painted c.args.client.now c.attach_turn.new.client c.if-attach_turn.ensures.turn
    c.if-attach_turn.ensures.led c.if-attach_turn.ensures.notice in
    let tells : Tells painted last = subst (λ p. Tells p last)
    (ap (λ ports. painted_by paints c.attach_turn.new.outer ports) c.flush.ensures.others) c.tell.ensures.tells in
    let turn = takes_first c.args.to (remaining mid.reader) mid.lines after.lines first painted last c.args.client.now
    c.attach_turn.new.client _ taken tells c.next.ensures.next c.took.ensures.lines c.took.ensures.first in
    rw c.took.ensures.reader
    (runs_both c.args.to _ _ _ before.lines mid.lines after.lines first first last c.args.client.now _ c.attach_turn.new.client 0 1 read turn)

pub returns-clause-typed : goal.returns-clause-typed
returns-clause-typed g c =
    let remaining = g.T.Read.remaining in
    let paints = g.W.Write.contents in
    let first = painted_by paints c.args.shown.now c.args.ports.now in
    let painted = painted_by paints c.attach_turn.new.outer c.attach_turn.new.ports in
    let last = painted_by paints c.tell-2.new.shown c.tell-2.new.ports in
    let before = c.args.typist.now in
    let mid = c.read_more.new.self in
    let read = runs_reading c.args.to (remaining before.reader) (remaining mid.reader) before.lines mid.lines first c.args.client.now
    c.in_ok-read_more.ensures.reads in
    let taken = turn_taken c.args.to _ false first painted c.args.client.now c.attach_turn.new.client c.if-attach_turn.ensures.turn
    c.if-attach_turn.ensures.led c.if-attach_turn.ensures.notice in
    let tells : Tells painted last = subst (λ p. Tells p last)
    (ap (λ ports. painted_by paints c.attach_turn.new.outer ports) c.rest.ensures.others) c.tell-2.ensures.tells in
    let turn = takes_nothing c.args.to (remaining mid.reader) mid.lines first painted last c.args.client.now c.attach_turn.new.client _
    taken tells in
    runs_both c.args.to _ _ _ before.lines mid.lines mid.lines first first last c.args.client.now _ c.attach_turn.new.client 0 1 read turn

pub returns-then-attach_turn-clause-handed : goal.returns-then-attach_turn-clause-handed
returns-then-attach_turn-clause-handed g c =
    let paints = g.W.Write.contents in
    let first = painted_by paints c.args.shown.now c.args.ports.now in
    let painted = painted_by paints c.attach_turn.new.outer c.attach_turn.new.ports in
    let taken = turn_taken c.args.to _ true first painted c.args.client.now c.attach_turn.new.client c.if-attach_turn.ensures.turn
    c.if-attach_turn.ensures.led c.if-attach_turn.ensures.notice in (
      _,
      painted,
      taken,
      handed_taken c.args.to first painted c.args.client.now c.attach_turn.new.client _ c.took.new.self.lines.waiting.items taken,
    )

pub returns-clause-handed : goal.returns-clause-handed
returns-clause-handed g c =
    let paints = g.W.Write.contents in
    let first = painted_by paints c.args.shown.now c.args.ports.now in
    let painted = painted_by paints c.attach_turn.new.outer c.attach_turn.new.ports in (
      turn_of _ _,
      painted,
      turn_taken c.args.to _ false first painted c.args.client.now c.attach_turn.new.client c.if-attach_turn.ensures.turn
          c.if-attach_turn.ensures.led c.if-attach_turn.ensures.notice,
      handed_still _ c.read_more.new.self.lines.waiting.items c.next.ensures.next c.next.ensures.none,
    )
