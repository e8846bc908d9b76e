use Rattle.std.proofs.Common.{◌≡◌, ◌<◌, ◌≤◌, ◌+◌, ◌*◌, ◌-◌, ◌⊎◌, ℕ, List, [], length, take, drop, length-drop, Some, sym, ap, subst, ◌∙◌, arith, rules, inl, inr}
use Rattle.std.specs.Prelude.{IsTrue, IsSome}
use Rattle.std.proofs.lemmas.Bool.{cases_lt}
use Rattle.std.proofs.lemmas.List.{take_all}
use Rattle.byteorder.specs.Endian.{big_number}
use Rattle.roam_cells.specs.declared.styles.Style.{Style}
use Rattle.roam_update.specs.Put.{cells_by}
use Rattle.roam_update.specs.Styles.{Numbered}
use Rattle.roam_update.specs.TableText.{entry_read, table_read, table_in}
use Rattle.roam_update.specs.Tabled.{HasTable}
use Rattle.roam_update.specs.declared.change_text.Head.{Head}
use Rattle.roam_update.proofs.Entries.{first_entry}
use Rattle.roam_update.proofs.Applying.{cells_in_is, head_long}
use Rattle.roam_update.proofs.Few.{too_many, too_short}
use Rattle.roam_update.proofs.shots.changed_rows.Goals as goal

-- the number that is read behind the nine bytes of a front
number_behind : (text : List ℕ) (count : ℕ) → count ≡ big_number 3 (take (length text - 9) (drop 9 text)) → count ≡ big_number 3 (drop 9 text)
number_behind text count e =
    let all : take (length text - 9) (drop 9 text) ≡ drop 9 text = take_all (length text - 9) (drop 9 text) (omega (arith, length-drop 9 text)) in
    e ∙ ap (big_number 3) all

-- the table by the parts that were read
by_parts : (text entries rest : List ℕ) (count : ℕ) (styles : List Style) → count ≡ big_number 3 (drop 9 text) → entries ≡ drop 12 text
    → table_read count [] entries ≡ Some (record { styles = styles; rest = drop (9 * count) entries }) → rest ≡ drop (9 * count) entries
    → table_in text ≡ Some (record { styles = styles; rest = rest })
by_parts text entries rest count styles c e t r = (λ i. table_read (sym c i) [] (sym e i)) ∙ t ∙ (λ i. Some (record { styles = styles; rest = sym r i }))

pub returns-then-not-are_few-clause-bad : goal.returns-then-not-are_few-clause-bad
returns-then-not-are_few-clause-bad c =
    λ e cells is whole.
    let h = c.args.head in
    let text = c.args.text.now in
    let count = number_behind text c.read_u24-count.result c.read_u24-count.ensures in
    let many : h.rows * h.cols < c.read_u24-count.result =
    elim (cases_lt (h.rows * h.cols) c.read_u24-count.result) [
      | inl lt ↦ lt
      | inr le ↦ let yes : IsTrue c.are_few.result = c.are_few.ensures.few.1 le in absurd (search rules)
    ] in
    too_many c.args.base.now h text cells (λ i. omega (arith, c.type_inv.text i)) (omega (arith, many, count)) is

-- a table may be read behind a head, by the tests
has_table : (h : Head) (text entries : List ℕ) (count : ℕ) → count ≡ big_number 3 (drop 9 text) → entries ≡ drop 12 text → count ≤ h.rows * h.cols
    → 12 ≤ length text → 9 * count + 4 ≤ length entries → (count ≡ 0) ⊎ IsSome (entry_read entries) → HasTable h text
has_table h text entries count c e few head long first =
    record {
      few = omega (arith, few, c);
      long = omega (arith, long, c, head, ap length e, length-drop 12 text);
      first =
          elim first [
            | inl none ↦ inl (sym c ∙ none)
            | inr some ↦ inr (subst (λ (t : List ℕ). IsSome (entry_read t)) e some)
          ];
    }

pub returns-then-entries-count-clause-bad : goal.returns-then-entries-count-clause-bad
returns-then-entries-count-clause-bad c =
    λ e cells is whole.
    let text = c.args.text.now in
    let count = number_behind text c.read_u24-count.result c.read_u24-count.ensures in
    too_short c.args.base.now c.args.head text cells (omega (arith, count, ap length c.split_at.ensures.back)) is

pub returns-in_err-table-clause-memory : goal.returns-in_err-table-clause-memory
returns-in_err-table-clause-memory c =
    λ e.
    let text = c.args.text.now in
    let count = number_behind text c.read_u24-count.result c.read_u24-count.ensures in
    let yes : IsTrue c.are_few.result = search rules in
    has_table c.args.head text c.split_at.result.1.now c.read_u24-count.result count c.split_at.ensures.back (c.are_few.ensures.few.0 yes)
    (head_long c.args.base.now text c.args.head c.requires.head) (omega arith) (inr (c.in_err-table.ensures.memory (search rules)))

pub returns-clause-memory : goal.returns-clause-memory
returns-clause-memory c =
    λ e.
    let text = c.args.text.now in
    let entries = c.split_at.result.1.now in
    let count = number_behind text c.read_u24-count.result c.read_u24-count.ensures in
    let yes : IsTrue c.are_few.result = search rules in
    has_table c.args.head text entries c.read_u24-count.result count c.split_at.ensures.back (c.are_few.ensures.few.0 yes)
    (head_long c.args.base.now text c.args.head c.requires.head) (omega arith)
    (first_entry c.read_u24-count.result entries (record { styles = c.in_ok-table.table.items; rest = drop (9 * c.read_u24-count.result) entries }) c.in_ok-table.ensures.ok)

pub returns-clause-bad : goal.returns-clause-bad
returns-clause-bad c =
    λ e cells is.
    let base = c.args.base.now in
    let h = c.args.head in
    let text = c.args.text.now in
    let rest = c.split_at-2.result.1.now in
    let count = number_behind text c.read_u24-count.result c.read_u24-count.ensures in
    let table = by_parts text c.split_at.result.1.now rest c.read_u24-count.result c.in_ok-table.table.items count c.split_at.ensures.back c.in_ok-table.ensures.ok c.split_at-2.ensures.back in
    let all = cells_in_is base h text (record { styles = c.in_ok-table.table.items; rest = rest }) table (omega arith) in
    let same : cells_by (Numbered c.in_ok-table.table.items 0) (big_number 4 rest) base h (drop 4 rest) ≡ cells_by c.by_table-form.result c.read_u32-n.result base h c.split_at-3.result.1.now =
    λ i. cells_by (sym c.by_table-form.ensures.numbered i) (sym c.read_u32-n.ensures i) base h (sym c.split_at-3.ensures.back i) in
    c.patched.ensures.bad e cells (sym same ∙ sym all ∙ is)
