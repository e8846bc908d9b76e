use Rattle.roam_normalize.proofs.TitleScans.{rest-open, rest-whole, whole-within}
use Rattle.roam_normalize.proofs.titles.title_at.Goals as goal

pub returns-in-None : goal.returns-in-None
returns-in-None c =
    let run = c.title_run-letters in
    record { title = rest-open c.args.rest.now run.result run.ensures.within run.ensures.few run.ensures.scan run.ensures.stops c.in-None.ensures.end }

pub returns-in-Some : goal.returns-in-Some
returns-in-Some c =
    let run = c.title_run-letters in
    let rest = c.args.rest.now in
    let end = c.in-Some.ensures.end in
    record {
      title = (
        rest-whole rest run.result run.ensures.within run.ensures.few run.ensures.scan run.ensures.stops c.in-Some.end end.0,
        whole-within rest run.result run.ensures.within run.ensures.few run.ensures.scan run.ensures.stops c.in-Some.end end.1,
        run.ensures.within,
      );
    }
