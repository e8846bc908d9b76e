-- A table with more styles than a screen has places makes nothing of a base, nor does one that is cut short.
use Rattle.std.proofs.Common.{◌≡◌, ℕ, ◌+◌, ◌*◌, ◌<◌, leb, List, [], length, drop, Some, arith}
use Rattle.std.proofs.lemmas.Bool.{leb-true}
use Rattle.std.proofs.lemmas.Option.{option_and_then_some}
use Rattle.byteorder.specs.Endian.{big_number}
use Rattle.byteorder.specs.Numbers.{big_from-lt}
use Rattle.roam_cells.specs.Glyph.{Glyph}
use Rattle.roam_screens.specs.Screenshot.{Screenshot}
use Rattle.roam_update.specs.ChangeText.{runs_read}
use Rattle.roam_update.specs.Put.{cells_by}
use Rattle.roam_update.specs.Runs.{Run, patched_cells}
use Rattle.roam_update.specs.Sizes.{sized_cells}
use Rattle.roam_update.specs.Styles.{Numbered}
use Rattle.roam_update.specs.TableText.{Table, table_in}
use Rattle.roam_update.specs.Tabled.{cells_behind, cells_in}
use Rattle.roam_update.specs.declared.change_text.Head.{Head}
use Rattle.roam_update.proofs.Bytes.{AreBytes, bytes-drop}
use Rattle.roam_update.proofs.Entries.{table_length}
use Rattle.roam_update.proofs.Plain.{if_some}
use Rattle.roam_update.proofs.Sizing.{length_sized}
use Rattle.roam_update.proofs.TableSpelled.{few_entries}

pub too_many : (base : Screenshot) (h : Head) (text : List ℕ) (cells : List Glyph) → AreBytes text → h.rows * h.cols < big_number 3 (drop 9 text)
    → cells_in base h text ≡ Some cells → ⊥
too_many base h text cells fits many e =
    let start = sized_cells h.rows h.cols base in
    option_and_then_some (λ (table : Table). cells_behind base h table) (table_in text) cells e (λ table f g.
    let n = big_number 4 table.rest in
    let a = if_some (leb 4 (length table.rest)) (cells_by (Numbered table.styles 0) n base h (drop 4 table.rest)) cells g in
    option_and_then_some (λ (runs : List Run). Some (patched_cells start runs)) (runs_read (Numbered table.styles 0) n 0 (length start) (drop 4 table.rest)) cells a.1 (λ runs j k.
    let few = few_entries (big_number 3 (drop 9 text)) (length start) n (drop 12 text) table runs (bytes-drop 12 text fits)
    (big_from-lt 0 3 (drop 9 text) (bytes-drop 9 text fits)) f j in
    let all = length_sized h.rows h.cols base in
    absurd (omega (arith, few, all, many))))

pub too_short : (base : Screenshot) (h : Head) (text : List ℕ) (cells : List Glyph) → length (drop 12 text) < 9 * big_number 3 (drop 9 text) + 4
    → cells_in base h text ≡ Some cells → ⊥
too_short base h text cells short e =
    option_and_then_some (λ (table : Table). cells_behind base h table) (table_in text) cells e (λ table f g.
    let a = if_some (leb 4 (length table.rest)) (cells_by (Numbered table.styles 0) (big_number 4 table.rest) base h (drop 4 table.rest)) cells g in
    let four = leb-true 4 (length table.rest) a.0 in
    let long = table_length (big_number 3 (drop 9 text)) [] (drop 12 text) table f in
    absurd (omega (arith, four, long, short)))
