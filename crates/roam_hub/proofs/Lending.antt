-- A diff that is lent is that between a sender's base and its newest.
use Rattle.std.proofs.Common.{◌≡◌, ℕ, ◌<◌, ◌≤◌, ◌^◌, List, length, Some, sym, ◌∙◌, subst, arith}
use Rattle.std.specs.Prelude.{slice_index_or}
use Rattle.roam_screens.specs.Screenshot.{Screenshot}
use Rattle.roam_sync.specs.Senders.{Sending, newest}
use Rattle.roam_wire.specs.declared.versions.Version.{Version}
use Rattle.roam_wire.specs.Instructions.{IsDown, down_value, down_text}
use Rattle.roam_wire.specs.Versions.{most_bytes}
use Rattle.roam_model.specs.Versions.{seen_by, difference_by, applied_by}
use Rattle.roam_model.specs.Ticks.{down_from}
use Rattle.roam_hub.specs.declared.shared.SharedChange.{SharedChange}
use Rattle.roam_hub.specs.Shared.{HoldsMade, IsBetween, Agree, IsFromTo, HasChange, LeadsOver, IsChangeFor, with_acked}
use Rattle.roam_hub.proofs.Addressing.{down_short}
use Rattle.roam_hub.proofs.Sharing.{newest_made}

module _ (screens : ℕ → Screenshot) (most : ℕ) (v : Version) (s : Sending Screenshot) (c : SharedChange)
    (m : HoldsMade screens most v s) where
  top : (newest s).state ≡ seen_by v (screens (newest s).number)
  top = (newest_made screens most v s m).state

  pub leads_over : IsBetween screens c → c.version ≡ v → c.down.old ≡ s.base.number → c.down.new ≡ (newest s).number → LeadsOver v s c
  leads_over b same from to =
      let rises = b.rises in
      record {
        same = same;
        old = from;
        new = to;
        floor = b.floor ∙ from;
        rises = omega (arith, rises, from, to);
        change =
            b.change ∙ (λ i. difference_by (same i) (seen_by (same i) (screens (from i))) (seen_by (same i) (screens (to i))))
            ∙ sym (λ i. difference_by v (m.base.state i) (top i));
        leads =
            (λ i. applied_by v (m.base.state i) c.down.change.items)
            ∙ sym (λ i. applied_by (same i) (seen_by (same i) (screens (from i))) c.down.change.items) ∙ b.leads
            ∙ (λ i. Some (seen_by (same i) (screens (to i)))) ∙ sym (λ i. Some (top i));
      }

  pub made_between : LeadsOver v s c → IsBetween screens c
  made_between l =
      let rises = l.rises in
      let from = l.old in
      let to = l.new in
      record {
        floor = l.floor ∙ sym from;
        rises = omega (arith, rises, from, to);
        change =
            l.change ∙ (λ i. difference_by v (m.base.state i) (top i))
            ∙ sym (λ i. difference_by (l.same i) (seen_by (l.same i) (screens (from i))) (seen_by (l.same i) (screens (to i))));
        leads =
            (λ i. applied_by (l.same i) (seen_by (l.same i) (screens (from i))) c.down.change.items)
            ∙ sym (λ i. applied_by v (m.base.state i) c.down.change.items) ∙ l.leads ∙ (λ i. Some (top i))
            ∙ sym (λ i. Some (seen_by (l.same i) (screens (to i))));
      }

-- a diff that was found
pub found_leads : (cs xs : List SharedChange) (at : ℕ) (version v : Version) (s : Sending Screenshot) (base new : ℕ)
    → HasChange xs at version base new → xs ≡ cs → version ≡ v → base ≡ s.base.number → new ≡ (newest s).number → Agree v s cs
    → IsChangeFor cs at v s
found_leads cs xs at version v s base new has same is b n agree =
    let low = subst (λ (ys : List SharedChange). at < length ys) same has.0 in (
      low,
      λ d. let f = subst (λ (ys : List SharedChange). IsFromTo version base new (slice_index_or ys at d)) same (has.1 d) in
          leads_over agree.screens agree.most v s (slice_index_or cs at d) agree.holds (agree.between at d low) (f.same ∙ is) (f.from ∙ b)
          (f.to ∙ n),
    )

-- ---- the text of an instruction with it

module _ (v : Version) (s : Sending Screenshot) (c : SharedChange) (acked : ℕ) (l : LeadsOver v s c) where
  pub down_is : down_value (with_acked c acked).down ≡ down_from v s acked
  down_is i = record { old = l.old i; new = l.new i; floor = l.floor i; acked = acked; change = l.change i }

  pub down_limits : (newest s).number < 2 ^ 62 → acked < 2 ^ 62 → IsDown (down_value (with_acked c acked).down)
  down_limits low few =
      let floor = l.floor in
      let old = l.old in
      let new = l.new in
      let rises = l.rises in
      record {
        floor = omega (arith, floor, old);
        old = omega (arith, old, new, rises);
        new = omega (arith, new, low);
        acked = few;
      }

  pub text_short : (text : List ℕ) → text ≡ down_text (down_value (with_acked c acked).down) → length text ≤ most_bytes v
  text_short text e =
      subst (λ (t : List ℕ). length t ≤ most_bytes v) (sym e)
      (down_short v (down_value (with_acked c acked).down) s.base.state (newest s).state l.change l.leads)

-- how many acts it acknowledges is no part of that
pub acked_between : (screens : ℕ → Screenshot) (c : SharedChange) (acked : ℕ) → IsBetween screens c → IsBetween screens (with_acked c acked)
acked_between screens c acked b = record { floor = b.floor; rises = b.rises; change = b.change; leads = b.leads }
