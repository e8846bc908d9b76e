use Rattle.std.proofs.Common.{◌≡◌, ◌<◌, ◌≤◌, ◌+◌, ◌-◌, ◌*◌, ◌/◌, ◌%◌, ◌++◌, List, length, drop, get_or, arith, ap, sym, ◌∙◌}
use Rattle.std.proofs.lemmas.List.{get_or-drop}
use Rattle.roam_stored_rows.specs.Chunks.{joined}
use Rattle.roam_stored_rows.specs.Rows.{StoredRow, no_row, row_of}
use Rattle.roam_stored_rows.proofs.Joining.{behind-fits, row-behind, row-in, size_of-view}
use Rattle.roam_stored_rows.proofs.row_chunks.RowChunks.chunk_of.Goals as goal

pub returns-then-place-len-clause-row : goal.returns-then-place-len-clause-row
returns-then-place-len-clause-row c =
    let a = c.self.inside in
    let chunks = a.whole.items in
    let place = a.dropped + c.args.at in
    let within : place / 256 < length chunks = omega (arith, c.if-place-len.true, c.len.ensures, a.whole.ok.0) in
    ap (λ (l : List StoredRow). get_or l (place % 256) no_row) c.index.ensures
    ∙ sym (row-in chunks a.last place c.index.result.now no_row c.self.invariant.each within)
    ∙ sym (get_or-drop a.dropped (joined chunks ++ a.last) c.args.at no_row)
    ∙ ap (λ (l : List StoredRow). row_of l c.args.at) c.self.view_is

pub returns-else-place-len-clause-within : goal.returns-else-place-len-clause-within
returns-else-place-len-clause-within c =
    let a = c.self.inside in
    let chunks = a.whole.items in
    let place = a.dropped + c.args.at in
    let past : length chunks ≤ place / 256 = omega (arith, c.if-place-len.false, c.len.ensures, a.whole.ok.0) in
    let size : length (drop a.dropped (joined chunks ++ a.last)) ≡ length c.args.self.now = ap length c.self.view_is in
    let sizes = size_of-view chunks a.last a.dropped in
    let fits : place < length (joined chunks) + length a.last = omega (arith, c.requires, size, sizes) in
    let n : c.len-else-place-len.result ≡ length chunks = c.len-else-place-len.ensures ∙ a.whole.ok.0 in
    omega (arith, n, behind-fits chunks a.last place c.self.invariant.each past fits)

pub returns-else-place-len-clause-row : goal.returns-else-place-len-clause-row
returns-else-place-len-clause-row c =
    let a = c.self.inside in
    let chunks = a.whole.items in
    let place = a.dropped + c.args.at in
    let past : length chunks ≤ place / 256 = omega (arith, c.if-place-len.false, c.len.ensures, a.whole.ok.0) in
    let n : c.len-else-place-len.result ≡ length chunks = c.len-else-place-len.ensures ∙ a.whole.ok.0 in
    ap (λ k. get_or a.last (place - k * 256) no_row) n
    ∙ sym (row-behind chunks a.last place no_row c.self.invariant.each past)
    ∙ sym (get_or-drop a.dropped (joined chunks ++ a.last) c.args.at no_row)
    ∙ ap (λ (l : List StoredRow). row_of l c.args.at) c.self.view_is
