-- The text of the texts for the clipboard that are new, a pane more after the others.
use Rattle.std.proofs.Common.{◌≡◌, ℕ, zero, suc, ◌+◌, ◌-◌, ◌≤◌, List, ◌++◌, Option, sym, ap, ◌∙◌, arith}
use Rattle.roam_pane_protocol.specs.declared.clip_list.ClipList.{ClipList}
use Rattle.roam_pane_protocol.specs.declared.clip_list.ClipPane.{ClipPane}
use Rattle.roam_pane_protocol.specs.Clips.{clip_lines, clip_texts, clips_at}
use Rattle.roam_pane_subscribers.specs.Clips.{clip_news}
use Rattle.roam_pane_sockets.specs.Clips.{clip_of}
use Rattle.roam_pane_sockets.specs.declared.panes.Pane.{Pane}

clips_more : (p : ℕ) (told now : ClipList) (panes : List Pane) → 1 ≤ p
    → clip_news p told now panes ≡ clip_news (p - 1) told now panes
    ++ clip_texts (clip_of panes p) (clip_lines p (clips_at told p) (clips_at now p))
unfolding clip_news
clips_more zero told now panes one = absurd (omega (arith, one))
clips_more (suc n) told now panes one =
    let back : suc n - 1 ≡ n = omega arith in
    ap (λ m. clip_news m told now panes
    ++ clip_texts (clip_of panes (suc n)) (clip_lines (suc n) (clips_at told (suc n)) (clips_at now (suc n)))) (sym back)

pub clips_on : (p : ℕ) (told now : ClipList) (panes : List Pane) (text old clip : List ℕ) (was is : Option ClipPane) → 1 ≤ p
    → text ≡ old ++ clip_texts clip (clip_lines p was is) → old ≡ clip_news (p - 1) told now panes
    → clip ≡ clip_of panes p → was ≡ clips_at told p → is ≡ clips_at now p → text ≡ clip_news (p + 1 - 1) told now panes
clips_on p told now panes text old clip was is one line before own known at =
    let next : p ≡ p + 1 - 1 = omega arith in
    line ∙ ap (λ t. t ++ clip_texts clip (clip_lines p was is)) before
    ∙ ap (λ t. clip_news (p - 1) told now panes ++ clip_texts t (clip_lines p was is)) own
    ∙ ap (λ w. clip_news (p - 1) told now panes ++ clip_texts (clip_of panes p) (clip_lines p w is)) known
    ∙ ap (λ o. clip_news (p - 1) told now panes ++ clip_texts (clip_of panes p) (clip_lines p (clips_at told p) o)) at
    ∙ sym (clips_more p told now panes one) ∙ ap (λ m. clip_news m told now panes) next
