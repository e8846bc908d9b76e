use Rattle.std.proofs.Common.{◌≡◌, ◌≤◌, List, [], ◌∷◌, ◌++◌, length, ap, subst, ◌∙◌}
use Rattle.roam_rewrap.specs.Lines.{TextRow}
use Rattle.roam_scrollback.specs.Lines.{most_kept, newest}
use Rattle.roam_scrollback.specs.RowText.{text_cells}
use Rattle.roam_scrollback.specs.Wraps.{is_on}
use Rattle.roam_scrollback.proofs.Keeping.{lent-row, room-made}
use Rattle.roam_scrollback.proofs.kept.RecentRows.push.Goals as goal

pub returns : goal.returns
returns c = record {
  kept = λ n full.
      let wrap = c.args.wrap in
      let front = c.args.front.now in
      let old = c.args.self.now in
      let row : TextRow = record { goes_on = is_on wrap; cells = text_cells wrap front } in
      let row_is : c.in_ok-row.row ≡ row =
      c.in_ok-row.ensures.row ∙ (λ i. record { goes_on = c.is_on.ensures.on i; cells = c.text_cells.ensures.cells i }) in
      let few : length old ≤ most_kept = subst (λ (l : List TextRow). length l ≤ most_kept) c.self.view_is c.self.invariant in
      c.in_ok-push_back.ensures.items
      ∙ ap (λ (x : TextRow). c.self-2.inside.rows.items ++ x ∷ []) row_is
      ∙ ap (λ (l : List TextRow). l ++ row ∷ []) c.self-2.view_is
      ∙ ap (λ (l : List TextRow). l ++ row ∷ []) c.make_room.ensures.newest
      ∙ room-made old row few
      ∙ ap (λ (x : TextRow). newest most_kept (old ++ x ∷ [])) (lent-row wrap front n full);
}
