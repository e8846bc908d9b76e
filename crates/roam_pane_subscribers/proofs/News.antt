-- The text of new metadata, extended pane by pane.
use Rattle.std.proofs.Common.{◌≡◌, ℕ, zero, suc, ◌+◌, ◌-◌, ◌≤◌, List, ◌++◌, Option, sym, ap, ◌∙◌, arith}
use Rattle.roam_pane_protocol.specs.declared.metadata_list.MetadataList.{MetadataList}
use Rattle.roam_pane_protocol.specs.declared.metadata_list.MetadataPane.{MetadataPane}
use Rattle.roam_pane_protocol.specs.MetadataLists.{metadata_at}
use Rattle.roam_pane_protocol.specs.MetadataLines.{metadata_lines, metadata_texts}
use Rattle.roam_pane_subscribers.specs.MetadataEvents.{metadata_news, told_at}
use Rattle.roam_pane_sockets.specs.MetadataLists.{title_of}
use Rattle.roam_pane_sockets.specs.declared.panes.Pane.{Pane}

news_more : (p : ℕ) (told : Option MetadataList) (now : MetadataList) (panes : List Pane) → 1 ≤ p
    → metadata_news p told now panes ≡ metadata_news (p - 1) told now panes
    ++ metadata_texts (title_of panes p) (metadata_lines p (told_at told (metadata_at now p) p) (metadata_at now p))
unfolding metadata_news
news_more zero told now panes one = absurd (omega (arith, one))
news_more (suc n) told now panes one =
    let back : suc n - 1 ≡ n = omega arith in
    ap (λ m. metadata_news m told now panes
    ++ metadata_texts (title_of panes (suc n)) (metadata_lines (suc n) (told_at told (metadata_at now (suc n)) (suc n)) (metadata_at now (suc n))))
    (sym back)

pub news_on : (p : ℕ) (told : Option MetadataList) (now : MetadataList) (panes : List Pane) (text old title : List ℕ)
    (was is : Option MetadataPane) → 1 ≤ p → text ≡ old ++ metadata_texts title (metadata_lines p was is) → old ≡ metadata_news (p - 1) told now panes
    → title ≡ title_of panes p → was ≡ told_at told is p → is ≡ metadata_at now p → text ≡ metadata_news (p + 1 - 1) told now panes
news_on p told now panes text old title was is one line before own known at =
    let next : p ≡ p + 1 - 1 = omega arith in
    line ∙ ap (λ t. t ++ metadata_texts title (metadata_lines p was is)) before
    ∙ ap (λ t. metadata_news (p - 1) told now panes ++ metadata_texts t (metadata_lines p was is)) own
    ∙ ap (λ w. metadata_news (p - 1) told now panes ++ metadata_texts (title_of panes p) (metadata_lines p w is)) known
    ∙ ap (λ o. metadata_news (p - 1) told now panes ++ metadata_texts (title_of panes p) (metadata_lines p (told_at told o p) o)) at
    ∙ sym (news_more p told now panes one) ∙ ap (λ m. metadata_news m told now panes) next
