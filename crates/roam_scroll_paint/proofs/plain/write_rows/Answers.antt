use Rattle.std.proofs.Common.{◌≡◌, ℕ, None, refl, sym, ap, ◌∙◌, subst, arith}
use Rattle.roam_cells.specs.Place.{glyph_at}
use Rattle.roam_term.specs.Ground.{shown_at}
use Rattle.roam_paint.specs.Painting.{same_size}
use Rattle.roam_scroll_paint.specs.Bands.{taken, source_of, drawn_over}
use Rattle.roam_scroll_paint.specs.Rows.{AddsRows}
use Rattle.roam_scroll_paint.specs.Short.{AddsShortRows}
use Rattle.roam_scroll_paint.proofs.Adding.{adds_first, adds_more}
use Rattle.roam_scroll_paint.proofs.Shortly.{over_is, short_first, short_more}
use Rattle.roam_scroll_paint.proofs.plain.write_rows.Goals as goal

pub loop-row-init : goal.loop-row-init
loop-row-init g c =
    let old = g.O.Seen.screen c.args.old.now in
    let new = g.N.Seen.screen c.args.new.now in
    let over = drawn_over old new None in
    let start = c.args.text.now.items in (
      subst (λ s. AddsRows over (shown_at new) new.cols 0 s start start) (sym c.default-style.ensures) (adds_first over (shown_at new) new.cols start),
      subst (λ s. AddsShortRows old new 0 s start start) (sym c.default-style.ensures) (short_first old new start),
    )

pub loop-row-preserved : goal.loop-row-preserved
loop-row-preserved g c =
    let old = g.O.Seen.screen c.args.old.now in
    let new = g.N.Seen.screen c.args.new.now in
    let over = drawn_over old new None in
    let r = c.loop-row.row in
    let start = c.args.text.now.items in
    let now = c.loop-row.text.items in
    let later = c.write_changed_row.new.text.items in
    let shows : (k : ℕ) → taken (shown_at old) (source_of (same_size old new) None r) k ≡ glyph_at c.row_over-over.result.now k =
    λ k.
    ap (λ b. taken (shown_at old) (source_of b None r) k) (sym c.is_same_size-same.ensures.same)
    ∙ ap (λ o. taken (shown_at old) o k) (sym c.source_of.ensures.source)
    ∙ c.row_over-over.ensures.cells k in (
      adds_more over (shown_at new) new.cols r c.loop-row.style c.in_ok-style.style start now later c.loop-row.invariant.0 (c.in_ok-style.ensures.row over shows),
      short_more old new r c.loop-row.style c.in_ok-style.style start now later c.loop-row.invariant.1
          (c.in_ok-style.ensures.few old (λ k. over_is old new (same_size old new) r k refl ∙ shows k)),
    )

pub returns-clause-few : goal.returns-clause-few
returns-clause-few g c =
    let old = g.O.Seen.screen c.args.old.now in
    let new = g.N.Seen.screen c.args.new.now in
    let all : c.loop-row.row ≡ new.rows = omega (arith, c.rows-row-end.ensures.rows) in
    subst (λ n. AddsShortRows old new n c.loop-row.style c.args.text.now.items c.loop-row.text.items) all c.loop-row.invariant.1
