use Rattle.std.proofs.Common.{◌≡◌, ◌++◌, ℕ, List, eqb, true, false, map, sym, ap, ◌∙◌}
use Rattle.std.specs.List.{list_any, position_or_len}
use Rattle.roam_cells.specs.Inks.{style_numbered}
use Rattle.roam_update.specs.Styles.{number_in}
use Rattle.roam_update.specs.TableText.{table_text, entry_text}
use Rattle.roam_update.proofs.Lookup.{inserted, styles_inserted, place_inserted, there_inserted, place_again, styles_kept, place_kept, text_inserted, text_kept, not_added, was_added}
use Rattle.roam_update.proofs.numbers.take_number.Goals as goal
use Rattle.roam_update.proofs.numbers.take_number.Goals.{After-numbers-3-1, then-added+in_ok-add_entry, else-added}

pub returns-then-numbers-key-clause-styles : goal.returns-then-numbers-key-clause-styles
returns-then-numbers-key-clause-styles c =
    let n = c.args.numbers.now in
    let there = c.requires.are.there c.if-numbers.true in
    styles_kept n.keys.keys n.last c.args.cell.now.style (ap style_numbered c.if-numbers-key.true ∙ c.style_number-key.ensures.style) there

pub returns-then-numbers-key-clause-number : goal.returns-then-numbers-key-clause-number
returns-then-numbers-key-clause-number c =
    let n = c.args.numbers.now in
    c.requires.are.place c.if-numbers.true
    ∙ place_kept n.keys.keys n.last c.args.cell.now.style (ap style_numbered c.if-numbers-key.true ∙ c.style_number-key.ensures.style)

keys_are : (c : After-numbers-3-1) → c.if-added.numbers.keys.keys ≡ inserted c.args.numbers.now.keys.keys c.style_number-key.result
keys_are c =
    elim c.if-added.branch [
      | then-added+in_ok-add_entry w ↦ ap (λ n. n.keys.keys) w.numbers-is ∙ c.in_ok-number.ensures.keys
      | else-added w ↦ ap (λ n. n.keys.keys) w.numbers-is ∙ c.in_ok-number.ensures.keys
    ]

pub returns-clause-styles : goal.returns-clause-styles
returns-clause-styles c =
    ap (λ (ks : List ℕ). map style_numbered ks) (keys_are c)
    ∙ styles_inserted c.args.numbers.now.keys.keys c.style_number-key.result c.args.cell.now.style c.style_number-key.ensures.style

pub returns-clause-number : goal.returns-clause-number
returns-clause-number c =
    let ks = c.args.numbers.now.keys.keys in
    let k = c.style_number-key.result in
    let s = c.args.cell.now.style in
    c.in_ok-number.ensures.index ∙ place_inserted ks k s c.style_number-key.ensures.style
    ∙ ap (λ (x : List ℕ). number_in (map style_numbered x) s) (sym (keys_are c))

text_is : (c : After-numbers-3-1) → c.if-added.numbers.table.items ≡ table_text (map style_numbered (inserted c.args.numbers.now.keys.keys c.style_number-key.result))
text_is c =
    let n = c.args.numbers.now in
    let k = c.style_number-key.result in
    elim c.if-added.branch [
      | then-added+in_ok-add_entry w ↦
          let fresh : list_any (λ j. eqb k j) n.keys.keys ≡ false = was_added (list_any (λ j. eqb k j) n.keys.keys) (sym w.if-added.true ∙ c.in_ok-number.ensures.added) in
          ap (λ m. m.table.items) w.numbers-is ∙ w.in_ok-add_entry.ensures.entry
          ∙ ap (λ s. n.table.items ++ entry_text s) w.style.ensures.style
          ∙ text_inserted n.keys.keys k c.args.cell.now.style n.table.items c.style_number-key.ensures.style c.requires.are.text fresh
      | else-added w ↦
          let there : list_any (λ j. eqb k j) n.keys.keys ≡ true = not_added (list_any (λ j. eqb k j) n.keys.keys) (sym w.if-added.false ∙ c.in_ok-number.ensures.added) in
          ap (λ m. m.table.items) w.numbers-is ∙ text_kept n.keys.keys k n.table.items c.requires.are.text there
    ]

pub returns-clause-are : goal.returns-clause-are
returns-clause-are c =
    let ks = c.args.numbers.now.keys.keys in
    let k = c.style_number-key.result in
    record {
      text = text_is c ∙ ap (λ (x : List ℕ). table_text (map style_numbered x)) (sym (keys_are c));
      there = λ _. ap (λ (x : List ℕ). list_any (λ j. eqb k j) x) (keys_are c) ∙ there_inserted ks k;
      place = λ _. c.in_ok-number.ensures.index ∙ place_again ks k ∙ ap (λ (x : List ℕ). position_or_len (λ j. eqb k j) x) (sym (keys_are c));
    }

pub returns-clause-kept : goal.returns-clause-kept
returns-clause-kept c =
    elim c.if-added.branch [
      | then-added+in_ok-add_entry w ↦ ap (λ n. n.whole) w.numbers-is
      | else-added w ↦ ap (λ n. n.whole) w.numbers-is
    ]
