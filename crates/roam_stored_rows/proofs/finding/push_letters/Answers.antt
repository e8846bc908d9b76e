use Rattle.std.proofs.Common.{◌≡◌, ◌++◌, OnOk, subst, List, ℕ}
use Rattle.roam_stored_rows.proofs.Ascii.{ascii-letters}
use Rattle.roam_stored_rows.proofs.finding.push_letters.Goals as goal

pub returns-then-is_ascii : goal.returns-then-is_ascii
returns-then-is_ascii c =
    record {
      line = subst (λ (l : List ℕ). OnOk c.push_ascii.result (c.push_ascii.new.line.items ≡ c.args.line.now.items ++ l))
          (ascii-letters c.args.folded c.args.plain.now c.if-is_ascii.ensures.cases) c.push_ascii.ensures.line;
    }
