use Rattle.std.proofs.Common.{◌≡◌, ◌<◌, ◌≤◌, ℕ, suc, ◌+◌, ◌-◌, List, [], ◌∷◌, ◌++◌, get_or, length, map, replicate, set, take, take_all, sym, ap, ◌∙◌, arith, append_assoc}
use Rattle.std.proofs.Math.Seq.{set-append_seam}
use Rattle.std.proofs.lemmas.List.{length-map, length-take-le, map-append, take_more}
use Rattle.roam_cells.specs.Limits.{most_rows}
use Rattle.roam_rewrap.specs.Lines.{TextRow}
use Rattle.roam_scrollback.specs.Wraps.{no_wraps, wrap_of, wraps_of}
use Rattle.roam_scrollback.specs.declared.wraps.Wrap.{Wrap}
use Rattle.roam_scrollback.specs.declared.wraps.Wrap.TheVariants.{Ends}
use Rattle.roam_scrollback.proofs.wraps.Wraps.of.Goals as goal

one-more : (f : TextRow → Wrap) (rows : List TextRow) (wraps later : List Wrap) (i : ℕ) (row : TextRow) → i < length rows → length rows ≤ most_rows
    → row ≡ get_or rows i row → wraps ≡ map f (take i rows) ++ replicate (most_rows - i) Ends → later ≡ set wraps i (f row)
    → later ≡ map f (take (i + 1) rows) ++ replicate (most_rows - (i + 1)) Ends
one-more f rows wraps later i row within few here before is =
    let front = map f (take i rows) in
    let rest = replicate (most_rows - (i + 1)) Ends in
    let long : length front ≡ i = length-map (take i rows) f ∙ length-take-le i rows (omega (arith, within)) in
    let less : most_rows - i ≡ suc (most_rows - (i + 1)) = omega (arith, within, few) in
    let more : take (i + 1) rows ≡ take i rows ++ row ∷ [] = take_more rows i row within ∙ ap (λ x. take i rows ++ x ∷ []) (sym here) in
    is ∙ ap (λ l. set l i (f row)) (before ∙ ap (λ n. front ++ replicate n Ends) less)
    ∙ ap (λ n. set (front ++ Ends ∷ rest) n (f row)) (sym long)
    ∙ set-append_seam front Ends rest (f row)
    ∙ sym (append_assoc front (f row ∷ []) rest)
    ∙ ap (λ l. l ++ rest) (sym (ap (map f) more ∙ map-append f (take i rows) (row ∷ [])))

pub loop-i-init : goal.loop-i-init
unfolding no_wraps
loop-i-init c = c.new-wraps.ensures.none

pub loop-i-preserved : goal.loop-i-preserved
loop-i-preserved c =
    one-more (wrap_of c.args.cols) c.args.rows.now c.loop-i.wraps c.set.new.self c.loop-i.i c.index-rows-i.result c.loop-i-test.true
    c.requires.few c.index-rows-i.is c.loop-i.invariant
    (c.set.ensures.set ∙ ap (λ wrap. set c.loop-i.wraps c.loop-i.i wrap) c.wrap_of.ensures.wrap)

pub returns : goal.returns
unfolding wraps_of
returns c =
    let rows = c.args.rows.now in
    let all : c.loop-i.i ≡ length rows = omega (arith, c.loop-i.auto.i-end, c.loop-i-test.false) in
    record {
      wraps =
          c.loop-i.invariant ∙ ap (λ n. map (wrap_of c.args.cols) (take n rows) ++ replicate (most_rows - n) Ends) all
          ∙ ap (λ l. map (wrap_of c.args.cols) l ++ replicate (most_rows - length rows) Ends) (take_all (length rows) rows (omega arith));
    }
