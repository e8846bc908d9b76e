-- The datagrams to addresses, one datagram and one lane after another.
use Rattle.std.proofs.Common.{◌≡◌, ◌≢◌, ℕ, get_or, take, drop, ◌+◌, ◌≤◌, ◌<◌, Bool, true, false, List, [], ◌∷◌, ◌++◌, length, Option, Some, None, refl, sym, ap, subst, ◌∙◌, append_assoc, append-nil, length-append, inl, inr, arith}
use Rattle.std.specs.Prelude.{◌↔◌, ◌==◌, ◌&&◌, ◌||◌, IsTrue, cond, nat_lt, not}
use Rattle.std.specs.List.{All, filter, list_any}
use Rattle.std.proofs.lemmas.List.{map-append}
use Rattle.std.proofs.lemmas.List.Concat.{flat_map-append}
use Rattle.std.proofs.lemmas.List.Elements.{All-push, All-nil}
use Rattle.std.proofs.lemmas.Bool.{cases_lt}
use Rattle.std.proofs.lemmas.Bool.Decides.{nat_tests}
use Rattle.std.proofs.Math.Bool.{and-false, and-true}
use Rattle.std.proofs.Math.Seq.{drop-length, take-length}
use Rattle.roam_cells.specs.declared.addresses.Addr.{Addr}
use Rattle.roam_stream_framing.specs.Frames.{IsCarried, framed, framed_all}
use Rattle.roam_sockets.specs.Lanes.{Goes, GoesOne, Handed, Hands, SendsEach, all_to, is_any_waiting, is_kept, is_waiting}
use Rattle.roam_sockets.specs.Pace.{gone_at, may_go, most_a_moment}
use Rattle.roam_sockets.specs.declared.lanes.Lane.{Lane}
use Rattle.roam_sockets.specs.declared.pace.Pace.{Pace}

hands_none : (known : Option (List Handed)) → Hands known known []
hands_none None = tt
hands_none (Some handed) = sym (append-nil handed)

hands_more : (before mid after : Option (List Handed)) (first later : List Handed) → Hands before mid first → Hands mid after later
    → Hands before after (first ++ later)
hands_more None mid after first later p q = tt
hands_more (Some before) None after first later p q = absurd p
hands_more (Some before) (Some mid) None first later p q = absurd q
hands_more (Some before) (Some mid) (Some after) first later p q =
    q ∙ ap (λ t. t ++ later) p ∙ append_assoc before first later

pub goes_none : (now : ℕ) (lane : Lane) (known : Option (List Handed)) → Goes now lane lane known known
goes_none now lane known = record {
  datagrams = [];
  carried = All-nil IsCarried;
  left = refl;
  handed = hands_none known;
  gone = omega arith;
  pace = λ h. h;
  to = refl;
  takes = refl;
}

one_gone : (pace : Pace) (now n : ℕ) → may_go pace now ≡ true → n ≡ gone_at pace now + 1 → n ≤ most_a_moment
one_gone pace now n may is = grind (arith, nat_tests)

pub goes_more : (now : ℕ) (old mid new : Lane) (before handed after : Option (List Handed)) → Goes now old mid before handed
    → GoesOne now mid new handed after → Goes now old new before after
goes_more now old mid new before handed after p q = record {
  datagrams = p.datagrams ++ q.datagram ∷ [];
  carried = All-push IsCarried p.datagrams q.datagram p.carried q.carried;
  left =
      p.left ∙ ap (λ t. framed_all p.datagrams ++ t) q.left
      ∙ sym (append_assoc (framed_all p.datagrams) (framed q.datagram) new.queue.waiting)
      ∙ ap (λ t. (framed_all p.datagrams ++ t) ++ new.queue.waiting) (sym (append-nil (framed q.datagram)))
      ∙ ap (λ t. t ++ new.queue.waiting) (sym (flat_map-append framed p.datagrams (q.datagram ∷ [])));
  handed = subst (Hands before after)
      (ap (λ to. all_to old.to p.datagrams ++ record { to = to; datagram = q.datagram } ∷ []) p.to
      ∙ sym (map-append (λ (d : List ℕ). record { to = old.to; datagram = d }) p.datagrams (q.datagram ∷ [])))
      (hands_more before handed after (all_to old.to p.datagrams) (record { to = mid.to; datagram = q.datagram } ∷ []) p.handed q.handed);
  gone = let g = p.gone in let h = q.gone in omega (arith, length-append p.datagrams (q.datagram ∷ []));
  pace = λ h. one_gone mid.pace now (gone_at new.pace now) q.may q.gone;
  to = q.to ∙ p.to;
  takes = q.takes ∙ p.takes;
}

-- ---- the lane of an address

-- none of the first lanes is that of an address
abbrev pub AreOthers : List Lane → Addr → ℕ → Type 0
AreOthers lanes to count = (k : ℕ) (d : Lane) → k < length lanes → k < count → (get_or lanes k d).to ≢ to

pub one_other : (lanes : List Lane) (to : Addr) (at : ℕ) → AreOthers lanes to at → ((d : Lane) → (get_or lanes at d).to ≢ to) → AreOthers lanes to (at + 1)
one_other lanes to at others one k d lt less = elim (cases_lt k at) [
  | inl before ↦ others k d lt before
  | inr here ↦ let is : at ≡ k = omega arith in subst (λ n. (get_or lanes n d).to ≢ to) is (one d)
]

pub all_other : (lanes : List Lane) (to : Addr) → AreOthers lanes to (length lanes) → All (λ (lane : Lane). lane.to ≢ to) lanes
all_other lanes to others k d lt = others k d lt lt

-- a part put back into a list of its length is the whole list
pub whole_back : {X : Type 0} (n : ℕ) (new old : List X) → length new ≡ length old → n ≡ length old
    → take n (new ++ drop (length new) old) ≡ new
whole_back n new old len is =
    let rest : drop (length new) old ≡ [] = ap (λ k. drop k old) len ∙ drop-length old in
    ap (λ l. take n (new ++ l)) rest ∙ (ap (λ l. take n l) (append-nil new) ∙ (ap (λ k. take k new) (is ∙ sym len) ∙ take-length new))

-- ---- a lane without queued datagrams

all_by : (waiting : List ℕ) (is_all : Bool) → (IsTrue is_all ↔ (waiting ≡ [])) → is_all ≡ not (nat_lt 0 (length waiting))
all_by [] true h = refl
all_by [] false h = let e = h.1 refl in cc
all_by (x ∷ xs) true h = let e = h.0 refl in cc
all_by (x ∷ xs) false h = let some : nat_lt 0 (length (x ∷ xs)) ≡ true = grind (arith, nat_tests) in rw some refl

picked : (waits went : Bool) (lane : Lane) (others : List Lane) → is_waiting lane ≡ waits
    → list_any is_waiting (cond (waits || went) (lane ∷ others) others) ≡ (waits || list_any is_waiting others)
picked true went lane others is = rw is refl
picked false true lane others is = rw is refl
picked false false lane others is = refl

both : (others is_all waits any : Bool) → others ≡ not any → is_all ≡ not waits → (others && is_all) ≡ not (waits || any)
both others is_all true any p q = rw q (and-false others)
both others is_all false any p q = rw (p, q) (and-true (not any))

-- all was sent exactly if the lanes that stay have no queued datagrams
pub none_waits : (now : ℕ) (olds mids : List Lane) (before after : Option (List Handed)) (are_all : Bool) → SendsEach now olds mids before after are_all
    → are_all ≡ not (is_any_waiting (filter (is_kept now) mids))
none_waits now [] [] before after are_all h = h.1
none_waits now [] (n ∷ ns) before after are_all h = absurd h
none_waits now (o ∷ os) [] before after are_all h = absurd h
none_waits now (o ∷ os) (n ∷ ns) before after are_all (mid, is_all, others, sends, later, is) =
    is ∙ both others is_all (is_waiting n) (is_any_waiting (filter (is_kept now) ns)) (none_waits now os ns mid after others later)
    (all_by n.queue.waiting is_all sends.all)
    ∙ ap not (sym (picked (is_waiting n) (n.pace.moment == now) n (filter (is_kept now) ns) refl))
