use Rattle.std.proofs.Common.{◌≡◌, ◌+◌, ◌*◌, ◌-◌, ℕ, List, map, Some, true, false, length, drop, eqb, sym, ap, ◌∙◌, inr, arith}
use Rattle.std.specs.List.{list_any}
use Rattle.std.proofs.lemmas.List.{drop-drop, length-drop}
use Rattle.roam_cells.specs.Inks.{style_numbered}
use Rattle.roam_update.specs.Styles.{has_style}
use Rattle.roam_update.specs.TableText.{entry_read}
use Rattle.roam_update.proofs.Entries.{first_read, table_twice, table_go, key_tells, keys_last}
use Rattle.roam_update.proofs.Lookup.{not_added, was_added}
use Rattle.roam_update.proofs.tables.add_entries.Goals as goal

pub returns-then-not-branch-clause-bad : goal.returns-then-not-branch-clause-bad
returns-then-not-branch-clause-bad c = λ _.
    let s = c.in-Some.style in
    let k = c.number.result in
    let ks = c.loop-k.keys.keys in
    let table = c.loop-k.table.items in
    let entry : entry_read c.loop-k.rest.now ≡ Some s = sym c.read_entry.ensures.style ∙ c.in-Some.is in
    let there : list_any (λ j. eqb k j) ks ≡ true = not_added (list_any (λ j. eqb k j) ks) (sym c.if-not-branch.true ∙ c.in_ok-insert.ensures.added) in
    let has : has_style table s ≡ true = sym (key_tells k ks s table c.number.ensures.style c.loop-k.invariant.keys) ∙ there in
    sym c.loop-k.invariant.same ∙ table_twice (c.args.n - c.loop-k._k) table c.loop-k.rest.now s (omega arith) (omega arith) entry has

pub loop-k-preserved : goal.loop-k-preserved
loop-k-preserved c =
    let s = c.in-Some.style in
    let k = c.number.result in
    let ks = c.loop-k.keys.keys in
    let table = c.loop-k.table.items in
    let rest = c.loop-k.rest.now in
    let entry : entry_read rest ≡ Some s = sym c.read_entry.ensures.style ∙ c.in-Some.is in
    let fresh : list_any (λ j. eqb k j) ks ≡ false = was_added (list_any (λ j. eqb k j) ks) (sym c.if-not-branch.false ∙ c.in_ok-insert.ensures.added) in
    let none : has_style table s ≡ false = sym (key_tells k ks s table c.number.ensures.style c.loop-k.invariant.keys) ∙ fresh in
    let at : 9 * c.loop-k._k + 9 ≡ 9 * (c.loop-k._k + 1) = omega arith in
    let moved : drop 9 rest ≡ drop (9 * (c.loop-k._k + 1)) c.args.text.now =
    ap (drop 9) c.loop-k.invariant.rest ∙ drop-drop 9 (9 * c.loop-k._k) c.args.text.now ∙ ap (λ n. drop n c.args.text.now) at in
    record {
      keys = ap (λ (x : List ℕ). map style_numbered x) c.in_ok-insert.ensures.keys ∙ keys_last k ks s table c.number.ensures.style c.loop-k.invariant.keys fresh ∙ sym c.in_ok-push.ensures.items;
      rest = c.split_at.ensures.back ∙ moved;
      long = omega (arith, ap length c.loop-k.invariant.rest, length-drop (9 * c.loop-k._k) c.args.text.now);
      first = inr (first_read c.loop-k._k c.args.text.now rest s c.loop-k.invariant.rest entry c.loop-k.invariant.first);
      same =
          rw (c.in_ok-push.ensures.items, c.split_at.ensures.back)
          (table_go c.args.n c.loop-k._k table rest s (omega arith) (omega arith) entry none ∙ c.loop-k.invariant.same);
    }

pub returns-in_err-insert-clause-memory : goal.returns-in_err-insert-clause-memory
returns-in_err-insert-clause-memory c = λ _.
    first_read c.loop-k._k c.args.text.now c.loop-k.rest.now c.in-Some.style c.loop-k.invariant.rest (sym c.read_entry.ensures.style ∙ c.in-Some.is) c.loop-k.invariant.first

pub returns-in_err-push-clause-memory : goal.returns-in_err-push-clause-memory
returns-in_err-push-clause-memory c = λ _.
    first_read c.loop-k._k c.args.text.now c.loop-k.rest.now c.in-Some.style c.loop-k.invariant.rest (sym c.read_entry.ensures.style ∙ c.in-Some.is) c.loop-k.invariant.first
