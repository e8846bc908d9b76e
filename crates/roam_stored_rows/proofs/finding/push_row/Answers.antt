use Rattle.std.proofs.Common.{◌≡◌, ◌++◌, OnOk, sym, subst, List, ℕ, encode_utf8_all, map}
use Rattle.roam_stored_rows.specs.Finding.{compared, letters_in}
use Rattle.roam_stored_rows.proofs.Ascii.{no-styles}
use Rattle.roam_stored_rows.proofs.finding.push_row.Goals as goal

pub returns-in_default : goal.returns-in_default
returns-in_default c =
    record {
      line = subst (λ (l : List ℕ). OnOk c.push_letters.result (c.push_letters.new.line.items
          ≡ c.args.buffers.now.line.items ++ encode_utf8_all (map (compared c.args.folded) (letters_in l))))
          (sym (no-styles c.args.text.now c.in_default.ensures)) c.push_letters.ensures.line;
    }
