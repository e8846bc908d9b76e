use Rattle.roam_history.proofs.Pushing.{kept_next, pushed_next}
use Rattle.roam_history.proofs.histories.History.take.Goals as goal

pub invariant_of-self : goal.invariant_of-self
invariant_of-self c =
    let f = c.self.inside in
    let whole = rw (← c.self.view_is) at c.requires.whole in
    kept_next f.ring c.pop_front.new.self c.push_back.new.self f.cols f.len c.min-self-inside.result c.len.result c.pop_front.result c.in-Some.line c.take.new.self c.args.row.now c.self.invariant
    c.pop_front.ensures.value c.in-Some.is c.pop_front.ensures.items c.take.ensures.line c.push_back.ensures.items c.min-self-inside.ensures c.len.ensures.len whole

pub returns-in-Some : goal.returns-in-Some
returns-in-Some c =
    let f = c.self.inside in
    let whole = rw (← c.self.view_is) at c.requires.whole in
    record {
      pushed = rw (← c.self.view_is)
          (pushed_next f.ring c.pop_front.new.self c.push_back.new.self f.cols f.len c.min-self-inside.result c.len.result c.pop_front.result c.in-Some.line c.take.new.self c.args.row.now
          c.self.invariant c.pop_front.ensures.value c.in-Some.is c.pop_front.ensures.items c.take.ensures.line c.push_back.ensures.items c.min-self-inside.ensures c.len.ensures.len whole);
    }
