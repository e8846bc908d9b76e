use Rattle.std.proofs.Common.{◌≡◌, ◌<◌, ◌≤◌, ◌-◌, ◌*◌, ◌/◌, ◌%◌, ◌++◌, List, length, take, arith, ap, sym, subst, ◌∙◌}
use Rattle.roam_stored_rows.specs.Chunks.{AllWhole, joined, whole}
use Rattle.roam_stored_rows.specs.Rows.{StoredRow}
use Rattle.roam_stored_rows.proofs.Placing.{all-take}
use Rattle.roam_stored_rows.proofs.Joining.{take-behind, take-in, popped-back}
use Rattle.roam_stored_rows.proofs.row_chunks.keep_first.Goals as goal

pub returns-then-len-count-clause-rows : goal.returns-then-len-count-clause-rows
returns-then-len-count-clause-rows c =
    let chunks = c.args.chunks.now.items in
    let n : c.len-then-len-count.result ≡ length chunks = c.len-then-len-count.ensures ∙ c.args.chunks.now.ok.0 in
    let past : length chunks ≤ c.args.count / 256 = omega (arith, c.if-len-count.true, c.len.ensures, c.args.chunks.now.ok.0) in
    ap (λ (l : List StoredRow). joined chunks ++ l) (c.truncate.ensures.first ∙ ap (λ k. take (c.args.count - k * 256) c.args.last.now) n)
    ∙ take-behind chunks c.args.last.now c.args.count c.requires.chunks past

pub returns-in-Some-clause-rows : goal.returns-in-Some-clause-rows
returns-in-Some-clause-rows c =
    let chunks = c.args.chunks.now.items in
    let i = c.args.count / 256 in
    let within : i < length chunks = omega (arith, c.if-len-count.false, c.len.ensures, c.args.chunks.now.ok.0) in
    let chunk = c.in-Some.chunk in
    let popped = popped-back chunks c.pop_back.new.self.items chunk i within (sym c.truncate-2.ensures.items ∙ c.in-Some.ensures.items) in
    ap (λ (l : List (List StoredRow)). joined l ++ c.truncate-in-Some.new.self) popped.0
    ∙ ap (λ (l : List StoredRow). joined (take i chunks) ++ l) (c.truncate-in-Some.ensures.first ∙ ap (λ (l : List StoredRow). take (c.args.count % 256) l) popped.1)
    ∙ take-in chunks c.args.last.now c.args.count chunk c.requires.chunks within

pub returns-in-Some-clause-chunks : goal.returns-in-Some-clause-chunks
returns-in-Some-clause-chunks c =
    let chunks = c.args.chunks.now.items in
    let i = c.args.count / 256 in
    let within : i < length chunks = omega (arith, c.if-len-count.false, c.len.ensures, c.args.chunks.now.ok.0) in
    let popped = popped-back chunks c.pop_back.new.self.items c.in-Some.chunk i within (sym c.truncate-2.ensures.items ∙ c.in-Some.ensures.items) in
    subst AllWhole (sym popped.0) (all-take (λ (rows : List StoredRow). length rows ≡ whole) i chunks c.requires.chunks)
