use Rattle.std.proofs.Common.{rules, ◌≡◌, ◌≤◌, ◌++◌, [], map, take, length, length-take, arith, ◌∙◌, ap, sym, subst}
use Rattle.std.proofs.KnownBytes.{Consumes-nil, Consumes-trans}
use Rattle.roam_text.specs.Log.{Byte}
use Rattle.roam_term.specs.Terminal.{reports}
use Rattle.roam_term.specs.Stands.{Stands, IsAccepted}
use Rattle.roam_show.proofs.ShowLaws.{map-append}
use Rattle.roam_show.proofs.show.feed_all.Goals as goal

pub loop-init : goal.loop-init
loop-init g c = ([], Consumes-nil _, λ rows cols lines h. (h, c.requires.report rows cols lines), c.requires.waiting)

pub loop-preserved : goal.loop-preserved
loop-preserved g c =
    let log = c.loop.invariant.0 in
    let piece = take c.in-Ok.count c.read.new.buf in
    let term = c.loop.term in (
      log ++ piece,
      Consumes-trans _ _ _ _ _ c.loop.invariant.1 c.in-Ok.ensures.bytes.0,
      λ rows cols lines h.
          let was = c.loop.invariant.2 rows cols lines h in
          let fed = c.in_ok-feed.ensures.fed in
          let together = sym (map-append log piece) in
          let gained = fed.gains rows cols lines (map Byte log) was.0 in
          let waiting : c.feed.new.self.waiting ≡ gained.more = gained.queue ∙ ap (λ w. w ++ gained.more) c.loop.invariant.3 in (
            c.take_report.ensures.stands rows cols lines (map Byte (log ++ piece))
                (subst (λ l. Stands c.feed.new.self rows cols lines l) together (fed.stands rows cols lines (map Byte log) was.0)),
            c.in_ok-take_report.ensures.report ∙ ap (λ r. r ++ c.feed.new.self.waiting) was.1 ∙ ap (λ w. reports rows cols lines (map Byte log) ++ w) waiting
                ∙ sym gained.answers ∙ ap (reports rows cols lines) together,
          ),
      c.in_ok-take_report.ensures.waiting,
    )

-- a piece that was read, with an empty queue, isn't refused
pub returns-in_err-feed-clause-err : goal.returns-in_err-feed-clause-err
returns-in_err-feed-clause-err g c =
    let piece = take c.in-Ok.count c.read.new.buf in
    let long = length-take c.in-Ok.count c.read.new.buf in
    let none : length c.loop.term.waiting ≡ 0 = ap length c.loop.invariant.3 in
    let short : length piece ≤ 1024 = omega (arith, long, c.read.auto.buf, c.in-Ok.ensures.bound) in
    let accepted : IsAccepted c.loop.term.waiting piece = record { short = short; room = omega (arith, none, short) } in
    let bad = c.in_err-feed.ensures.ok.1 accepted in
    absurd (search rules)
