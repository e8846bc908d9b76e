use Rattle.std.proofs.Common.{◌≡◌, ℕ, ◌+◌, ◌-◌, ◌*◌, List, length, drop, Some, None, true, false, subst, sym, ap, ◌∙◌, arith, rules}
use Rattle.std.proofs.lemmas.List.{take_rest}
use Rattle.byteorder.specs.Endian.{big_number}
use Rattle.roam_cells.specs.Glyph.{Glyph}
use Rattle.roam_screens.specs.Lines.{cells_in_order, AreLines}
use Rattle.roam_screens.proofs.Lined.{joined_count}
use Rattle.roam_update.specs.ChangeText.{may_begin}
use Rattle.roam_update.specs.Put.{cells_put}
use Rattle.roam_update.proofs.Putting.{runs_put_go, runs_put_fails, runs_put_refused, begin_facts}
use Rattle.roam_update.proofs.change_text.put_runs.Goals as goal

-- the places of rows are their cells
places : (rows cols n : ℕ) (lines : List (List Glyph)) → AreLines rows cols lines → n ≡ rows → n * cols ≡ length (cells_in_order lines)
places rows cols n lines are e = ap (λ (k : ℕ). k * cols) e ∙ sym (joined_count cols rows lines are)

pub returns-then-not-may_begin-clause-bad : goal.returns-then-not-may_begin-clause-bad
returns-then-not-may_begin-clause-bad c = λ _.
    let text = c.loop-k.rest.now in
    let cells = cells_in_order c.loop-k.rows.items in
    let end = places (length c.args.rows.now.items) c.args.cols c.len.result c.loop-k.rows.items c.loop-k.invariant.lines (omega (arith, c.len.ensures)) in
    let no : may_begin c.loop-k.least (c.len.result * c.args.cols) text ≡ false = search rules in
    sym c.loop-k.invariant.same
    ∙ runs_put_refused c.loop-k.form (c.args.n - c.loop-k._k) c.loop-k.least cells text (omega arith) (subst (λ (k : ℕ). may_begin c.loop-k.least k text ≡ false) end no)

pub returns-in_err-rest-clause-bad : goal.returns-in_err-rest-clause-bad
returns-in_err-rest-clause-bad c = λ e.
    let text = c.loop-k.rest.now in
    let cells = cells_in_order c.loop-k.rows.items in
    let end = places (length c.args.rows.now.items) c.args.cols c.len.result c.loop-k.rows.items c.loop-k.invariant.lines (omega (arith, c.len.ensures)) in
    let first : c.read_u32-first.result ≡ big_number 4 text = c.read_u32-first.ensures in
    let len : c.read_u32-len.result ≡ big_number 4 (drop 4 text) = c.read_u32-len.ensures ∙ ap (big_number 4) (take_rest text 4) in
    let yes : may_begin c.loop-k.least (c.len.result * c.args.cols) text ≡ true = search rules in
    let none = c.in_err-rest.ensures.bad (search rules) in
    let f : cells_put c.loop-k.form (big_number 4 (drop 4 text)) (big_number 4 text) cells (drop 8 text) ≡ None
    = rw (← len, ← first, ← take_rest text 8) none in
    sym c.loop-k.invariant.same
    ∙ runs_put_fails c.loop-k.form (c.args.n - c.loop-k._k) c.loop-k.least cells text (omega arith) (subst (λ (k : ℕ). may_begin c.loop-k.least k text ≡ true) end yes) f

pub loop-k-preserved : goal.loop-k-preserved
loop-k-preserved c =
    let text = c.loop-k.rest.now in
    let rows = length c.args.rows.now.items in
    let cells = cells_in_order c.loop-k.rows.items in
    let new = c.put_run.new.rows.items in
    let end = places rows c.args.cols c.len.result c.loop-k.rows.items c.loop-k.invariant.lines (omega (arith, c.len.ensures)) in
    let first : c.read_u32-first.result ≡ big_number 4 text = c.read_u32-first.ensures in
    let len : c.read_u32-len.result ≡ big_number 4 (drop 4 text) = c.read_u32-len.ensures ∙ ap (big_number 4) (take_rest text 4) in
    let yes : may_begin c.loop-k.least (c.len.result * c.args.cols) text ≡ true = search rules in
    let begins = subst (λ (k : ℕ). may_begin c.loop-k.least k text ≡ true) end yes in
    let f : cells_put c.loop-k.form (big_number 4 (drop 4 text)) (big_number 4 text) cells (drop 8 text)
    ≡ Some (record { value = cells_in_order new; rest = c.in_ok-rest.rest.now; form = c.put_run.new.form })
    = rw (← len, ← first, ← take_rest text 8) c.in_ok-rest.ensures.ok in
    let fits = begin_facts c.loop-k.least (length cells) text begins in
    let lines : AreLines rows c.args.cols new = subst (λ (n : ℕ). AreLines n c.args.cols new) c.loop-k.invariant.lines.count c.in_ok-rest.ensures.lines in
    let as_many : length (cells_in_order new) ≡ length cells =
    joined_count c.args.cols rows new lines ∙ sym (joined_count c.args.cols rows c.loop-k.rows.items c.loop-k.invariant.lines) in
    record {
      lines = lines;
      few = omega (arith, fits.to, first, len, end);
      same = runs_put_go c.loop-k.form c.put_run.new.form c.args.n c.loop-k._k c.loop-k.least (c.read_u32-first.result + c.read_u32-len.result + 1) cells text
          (cells_in_order new) c.in_ok-rest.rest.now (omega arith) begins f as_many (omega (arith, first, len))
          ∙ c.loop-k.invariant.same;
    }
