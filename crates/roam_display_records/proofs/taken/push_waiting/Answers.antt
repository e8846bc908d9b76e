use Rattle.std.proofs.Common.{arith}
use Rattle.roam_display_records.proofs.Early.{joined_is}
use Rattle.roam_display_records.proofs.taken.push_waiting.Goals as goal

pub returns-in-Some : goal.returns-in-Some
returns-in-Some c =
    record {
      waits = joined_is c.args.line c.args.act c.args.waiting.now.items c.pop.new.self.items _ c.in-Some.last c.in-Some.before c.max.result
          (omega (arith, c.if-len-lt-MOST_WAITING.false, c.len.ensures.value)) c.in-Some.ensures.items c.push-in-Some.ensures.items c.max.ensures;
    }
