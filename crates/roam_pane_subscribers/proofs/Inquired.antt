-- The text of the questions that are new, a pane more after the others.
use Rattle.std.proofs.Common.{◌≡◌, ℕ, zero, suc, ◌+◌, ◌-◌, ◌≤◌, List, ◌++◌, Option, sym, ap, ◌∙◌, arith}
use Rattle.roam_pane_metadata.specs.declared.queries.Query.{Query}
use Rattle.roam_pane_protocol.specs.declared.query_list.QueryList.{QueryList}
use Rattle.roam_pane_protocol.specs.declared.query_list.QueryPane.{QueryPane}
use Rattle.roam_pane_protocol.specs.Queries.{query_lines, queries_at}
use Rattle.roam_pane_subscribers.specs.Queries.{query_news}
use Rattle.roam_pane_sockets.specs.Queries.{last_of}
use Rattle.roam_pane_sockets.specs.declared.panes.Pane.{Pane}

asks_more : (p : ℕ) (told now : QueryList) (panes : List Pane) → 1 ≤ p
    → query_news p told now panes ≡ query_news (p - 1) told now panes ++ query_lines p (queries_at told p) (queries_at now p) (last_of panes p)
unfolding query_news
asks_more zero told now panes one = absurd (omega (arith, one))
asks_more (suc n) told now panes one =
    let back : suc n - 1 ≡ n = omega arith in
    ap (λ m. query_news m told now panes ++ query_lines (suc n) (queries_at told (suc n)) (queries_at now (suc n)) (last_of panes (suc n))) (sym back)

pub asks_on : (p : ℕ) (told now : QueryList) (panes : List Pane) (text old : List ℕ) (last : List Query) (was is : Option QueryPane) → 1 ≤ p
    → text ≡ old ++ query_lines p was is last → old ≡ query_news (p - 1) told now panes
    → last ≡ last_of panes p → was ≡ queries_at told p → is ≡ queries_at now p → text ≡ query_news (p + 1 - 1) told now panes
asks_on p told now panes text old last was is one line before own known at =
    let next : p ≡ p + 1 - 1 = omega arith in
    line ∙ ap (λ t. t ++ query_lines p was is last) before
    ∙ ap (λ t. query_news (p - 1) told now panes ++ query_lines p was is t) own
    ∙ ap (λ w. query_news (p - 1) told now panes ++ query_lines p w is (last_of panes p)) known
    ∙ ap (λ o. query_news (p - 1) told now panes ++ query_lines p (queries_at told p) o (last_of panes p)) at
    ∙ sym (asks_more p told now panes one) ∙ ap (λ m. query_news m told now panes) next
