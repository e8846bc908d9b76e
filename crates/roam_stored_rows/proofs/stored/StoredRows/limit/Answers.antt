use Rattle.std.proofs.Common.{sym}
use Rattle.roam_stored_rows.proofs.Ends.{limits}
use Rattle.roam_stored_rows.proofs.stored.StoredRows.limit.Goals as goal

pub returns : goal.returns
returns c =
    let a = c.self.inside in
    record {
      oldest = limits c.args.most_rows c.args.most_bytes c.args.self.now a.first a.rows c.above-count.result.0 c.drop_first.new.self (sym c.self.view_is)
          c.drop_first.ensures.rest c.above-count.ensures.count c.above-count.ensures.within c.above-count.ensures.fewest;
    }
