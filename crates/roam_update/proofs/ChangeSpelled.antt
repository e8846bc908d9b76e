-- A diff that is read is spelled so, and the result of a text on a base is that of the diff that it spells.
use Rattle.std.proofs.Common.{◌≡◌, ℕ, zero, suc, ◌+◌, ◌*◌, ◌<◌, ◌≤◌, eqb, leb, ◌&&◌, List, [], ◌∷◌, ◌++◌, length, drop, Some, refl, sym, ap, subst, ◌∙◌, arith}
use Rattle.std.specs.Prelude.{All, option_and_then, slice_index}
use Rattle.std.proofs.lemmas.Bool.{and_parts, eqb-true, leb-true}
use Rattle.std.proofs.lemmas.List.{drop_more, drop_all}
use Rattle.std.proofs.lemmas.Option.{option_and_then_some}
use Rattle.byteorder.specs.Endian.{big_bytes, big_number}
use Rattle.byteorder.specs.Numbers.{big_from-lt}
use Rattle.roam_cells.specs.Glyph.{Glyph}
use Rattle.roam_update.specs.CellText.{Front, bit, cells_text, cells_read}
use Rattle.roam_update.specs.ChangeText.{Change, Spells, runs_text, head_text, may_begin, runs_read, head_at, has_head, change_of, body_read, change_read}
use Rattle.roam_update.specs.Runs.{Run, AreApart}
use Rattle.roam_update.specs.Styles.{Form, Whole, is_used_up}
use Rattle.roam_update.specs.Tested.{is_size}
use Rattle.roam_update.proofs.Bytes.{AreBytes, are_bytes, bytes-drop, number_2, number_4}
use Rattle.roam_update.proofs.CellSpelled.{cells_spelled, bit_of}
use Rattle.roam_update.proofs.ChangeAgain.{change_again}
use Rattle.roam_update.proofs.Forms.{past_all, TakesRuns, IsForm, form_past_all, runs_past_all, runs_short}
use Rattle.roam_update.proofs.Parting.{no_runs}
use Rattle.roam_update.proofs.Plain.{if_some, runs_plain}
use Rattle.roam_update.proofs.Testing.{size_is}

-- ---- runs

pub record AreRuns (f : Form) (n least end : ℕ) (text : List ℕ) (runs : List Run) : Type 0 where
  pub count : length runs ≡ n
  pub spelled : text ≡ runs_text f runs
  pub apart : AreApart least end runs
  pub takes : TakesRuns f runs

one_more : (least end first len : ℕ) (cells : List Glyph) (runs : List Run) → len ≡ length cells → least ≤ first → 1 ≤ len → first + len ≤ end → AreApart (first + len + 1) end runs
    → AreApart least end (record { first = first; cells = cells } ∷ runs)
unfolding AreApart
one_more least end first len cells runs e a b c d =
    (record { from = a; some = omega (arith, b, e); to = omega (arith, c, e) }, subst (λ (n : ℕ). AreApart (first + n + 1) end runs) e d)

pub runs_spelled : (f : Form) (n least end : ℕ) (text : List ℕ) (runs : List Run) → AreBytes text → IsForm f → runs_read f n least end text ≡ Some runs → AreRuns f n least end text runs
unfolding runs_read
runs_spelled f zero least end text runs fits is e =
    let a = if_some (eqb (length text) 0 && is_used_up f) (Some []) runs e in
    let b = and_parts (eqb (length text) 0) (is_used_up f) a.0 in
    let none : [] ≡ runs = cc a.1 in
    let empty : text ≡ [] = drop_all 0 text (omega (arith, eqb-true (length text) 0 b.0)) in
    subst (AreRuns f zero least end text) none (record { count = refl; spelled = empty; apart = no_runs least end; takes = b.1 })
runs_spelled f (suc n) least end text runs fits is e =
    let a = if_some (may_begin least end text) _ runs e in
    let first = big_number 4 text in
    let len = big_number 4 (drop 4 text) in
    let p = and_parts (leb 8 (length text)) _ a.0 in
    let q = and_parts (leb least first) _ p.1 in
    let r = and_parts (leb 1 len) (leb (first + len) end) q.1 in
    let long = leb-true 8 (length text) p.0 in
    option_and_then_some
    (λ (cs : Front (List Glyph)). option_and_then (λ (more : List Run). Some (record { first = first; cells = cs.value } ∷ more)) (runs_read cs.form n (first + len + 1) end cs.rest))
    (cells_read f len (drop 8 text)) runs a.1 (λ cs h g.
    option_and_then_some (λ (more : List Run). Some (record { first = first; cells = cs.value } ∷ more)) (runs_read cs.form n (first + len + 1) end cs.rest) runs g (λ more j k.
    let here = cells_spelled f len (drop 8 text) cs (bytes-drop 8 text fits) is h in
    let next = past_all f cs.value in
    let after : AreRuns next n (first + len + 1) end cs.rest more =
    runs_spelled next n (first + len + 1) end cs.rest more here.bytes (form_past_all f cs.value is)
    (subst (λ (x : Form). runs_read x n (first + len + 1) end cs.rest ≡ Some more) here.form j) in
    let same : record { first = first; cells = cs.value } ∷ more ≡ runs = cc in
    subst (AreRuns f (suc n) least end text) same (record {
      count = ap suc after.count;
      spelled =
          number_4 0 text (omega (arith, long)) fits
          ∙ ap (λ (t : List ℕ). big_bytes 4 first ++ t)
          (number_4 4 text (omega (arith, long)) fits
          ∙ ap (λ (x : ℕ). big_bytes 4 x ++ drop 8 text) (sym here.count)
          ∙ ap (λ (t : List ℕ). big_bytes 4 (length cs.value) ++ t)
          (here.spelled ∙ ap (λ (t : List ℕ). cells_text f cs.value ++ t) (after.spelled ∙ runs_past_all f cs.value more)));
      apart = one_more least end first len cs.value more (sym here.count) (leb-true _ _ q.0) (leb-true _ _ r.0) (leb-true _ _ r.1) after.apart;
      takes = (here.takes, after.takes);
    })))

-- ---- the whole text

head_spelled : (text : List ℕ) → AreBytes text → 13 ≤ length text → slice_index text 8 ≤ 1 → text ≡ head_text (head_at text) ++ drop 13 text
head_spelled text fits long few =
    number_2 0 text (omega (arith, long)) fits
    ∙ ap (λ (t : List ℕ). big_bytes 2 (big_number 2 text) ++ t) (number_2 2 text (omega (arith, long)) fits
    ∙ ap (λ (t : List ℕ). big_bytes 2 (big_number 2 (drop 2 text)) ++ t) (number_2 4 text (omega (arith, long)) fits
    ∙ ap (λ (t : List ℕ). big_bytes 2 (big_number 2 (drop 4 text)) ++ t) (number_2 6 text (omega (arith, long)) fits
    ∙ ap (λ (t : List ℕ). big_bytes 2 (big_number 2 (drop 6 text)) ++ t) (drop_more text 8 0 (omega (arith, long))
    ∙ ap (λ (x : ℕ). x ∷ drop 9 text) (sym (bit_of (slice_index text 8) (omega (arith, few))))
    ∙ ap (λ (t : List ℕ). bit (eqb (slice_index text 8) 1) ∷ t) (number_4 9 text (omega (arith, long)) fits)))))

-- a diff that is read is spelled so
pub change_spelled : (text : List ℕ) (x : Change) → All (λ (b : ℕ). b < 256) text → change_read text ≡ Some x → Spells x text
change_spelled text x all e =
    let fits = are_bytes text all in
    let h = head_at text in
    let a = if_some (has_head text) _ x e in
    let p = and_parts (leb 13 (length text)) _ a.0 in
    let q = and_parts (leb (slice_index text 8) 1) (is_size (big_number 2 text) (big_number 2 (drop 2 text))) p.1 in
    let long = leb-true 13 (length text) p.0 in
    let few = leb-true (slice_index text 8) 1 q.0 in
    option_and_then_some (λ (runs : List Run). Some (change_of h runs)) (body_read h text) x a.1 (λ runs f g.
    let are = runs_spelled Whole h.runs 0 (h.rows * h.cols) (drop 13 text) runs (bytes-drop 13 text fits) tt f in
    let same : change_of h runs ≡ x = cc in
    subst (λ (y : Change). Spells y text) same (record {
      change = record {
        size = size_is h.rows h.cols q.1;
        row = big_from-lt 0 2 (drop 4 text) (bytes-drop 4 text fits);
        col = big_from-lt 0 2 (drop 6 text) (bytes-drop 6 text fits);
        apart = are.apart;
        plain = runs_plain Whole h.runs 0 (h.rows * h.cols) (drop 13 text) runs f;
      };
      short = runs_short runs are.takes;
      spelled =
          head_spelled text fits long few
          ∙ ap (λ (t : List ℕ). head_text h ++ t) are.spelled ∙ ap (λ (n : ℕ). head_text (record h { runs = n }) ++ runs_text Whole runs) (sym are.count);
    }))

-- two diffs with one text are one
pub one_change : (x y : Change) (text : List ℕ) → Spells x text → Spells y text → x ≡ y
one_change x y text h k =
    let both : Some x ≡ Some y =
    sym (change_again x h.change h.short) ∙ ap change_read (sym h.spelled ∙ k.spelled) ∙ change_again y k.change k.short in
    cc
