-- The datagrams that a client instance sends.
use Rattle.std.proofs.Common.{◌≡◌, ◌⊎◌, ℕ, ◌+◌, ◌<◌, ◌≤◌, ◌^◌, arith, max, List, [], ◌∷◌, length, take, map, Option, Some, None, Bool, true, false, inl, inr, refl, sym, ap, ◌∙◌, subst, Vec}
use Rattle.std.specs.Prelude.{Result, Ok, Err, ◌||◌}
use Rattle.std.specs.List.{enumerate_from}
use Rattle.std.specs.declared.alloc.Global.{Global}
use Rattle.std.proofs.lemmas.List.{length-map}
use Rattle.std.proofs.lemmas.List.FromFn.{length-enumerate_from}
use Rattle.roam_cells.specs.declared.faults.Fault.{Fault}
use Rattle.roam_cells.specs.declared.faults.Fault.TheVariants.{OutOfMemory, Spent}
use Rattle.roam_acts.specs.Senders.{Typing}
use Rattle.roam_model.specs.Moments.{is_spent}
use Rattle.roam_model.proofs.Keeps.{not_past, or_left, or_right}
use Rattle.roam_wire.specs.declared.datagrams.Kind.TheVariants.{FromWatcher}
use Rattle.roam_wire.specs.declared.versions.Version.{Version}
use Rattle.roam_wire.specs.declared.versions.Version.TheVariants.{One, Two}
use Rattle.roam_wire.specs.Versions.{most_bytes}
use Rattle.roam_wire.specs.Cutting.{texts_of}
use Rattle.roam_wire.specs.Datagrams.{datagram_text}
use Rattle.roam_wire.specs.Instructions.{UpValue, up_text}
use Rattle.roam_model.specs.Texts.{kind_from, datagram_with}
use Rattle.roam_model.specs.Clients.{Kept, moment_of}
use Rattle.roam_model.specs.Sendings.{is_client_due, is_client_spent, last_waiting, fragments_from, datagrams_from, after_sending, after_quiet}
use Rattle.roam_hub.specs.Clients.{ClientView, keeping, Sends, quiet, spent, sent, no_memory}

pub text_sent : (number : ℕ) (t : Typing) (u : UpValue) (text : List ℕ) → u.acked ≡ number → u.first ≡ t.acked + 1
    → u.acts ≡ take 64 t.acts → text ≡ up_text u
    → text ≡ up_text (record { acked = number; first = t.acked + 1; acts = take 64 t.acts })
text_sent number t u text a f s e = e ∙ (λ i. up_text (record { acked = a i; first = f i; acts = s i }))

-- a text that is short enough for version 1 is for each
pub short_in : (v : Version) (n : ℕ) → n ≤ 1228800 → n ≤ most_bytes v
short_in One n few = few
short_in Two n few = omega (arith, few)

-- a datagram of a read-only instance names it
pub from_watcher : (watches : Bool) → kind_from watches ≡ FromWatcher → watches ≡ true
from_watcher true e = refl
from_watcher false e = absurd (cc)

pub first_fits : (a b c : Bool) → a ≡ false → ((a || b) || c) ≡ (b || c)
first_fits false b c e = refl
first_fits true b c e = absurd (cc)

-- the clauses about an instance are those about an equal one
pub sent_alike : {v v' new : ClientView} {now : ℕ} {result : Result (Vec (Vec ℕ Global) Global) Fault} → v ≡ v'
    → Sends v now result new → Sends v' now result new
sent_alike {v} {v'} {new} {now} {result} same = subst (λ (x : ClientView). Sends x now result new) same

pub not_due : (v : ClientView) (now moment : ℕ) (due : Bool) (none : Vec (Vec ℕ Global) Global) → moment ≡ moment_of v.kept now
    → due ≡ is_client_due v.kept moment → due ≡ false → none.items ≡ [] → Sends v now (Ok none) (keeping v (after_quiet v.kept moment))
not_due v now moment due none m e f items =
    quiet none (sym (e ∙ ap (is_client_due v.kept) m) ∙ f) refl (ap texts_of items) (λ i. keeping v (after_quiet v.kept (m i)))

pub not_sent : (v : ClientView) (now moment : ℕ) (due : Bool) (fault : Fault) → moment ≡ moment_of v.kept now
    → due ≡ is_client_due v.kept moment → due ≡ true → (fault ≡ OutOfMemory) ⊎ ((fault ≡ Spent) × (is_client_spent v.kept ≡ true))
    → (fault ≡ OutOfMemory → is_spent (v.kept.acts.acked + 1) ≡ false) → Sends v now (Err fault) v
not_sent v now moment due fault m e f (inl memory) first =
    no_memory (sym (e ∙ ap (is_client_due v.kept) m) ∙ f) (first memory) (ap (λ x. Err x) memory) refl
not_sent v now moment due fault m e f (inr s) first =
    spent (sym (e ∙ ap (is_client_due v.kept) m) ∙ f) s.1 (ap (λ x. Err x) s.0) refl

-- as many datagrams as fragments
pub as_many : (session id : ℕ) (k : Kept) (all : Vec (Vec ℕ Global) Global)
    → texts_of all.items ≡ map datagram_text (datagrams_from session id k) → length all.items ≡ length (fragments_from k)
as_many session id k all e =
    sym (length-map all.items (λ (x : Vec ℕ Global). x.items)) ∙ ap (λ (xs : List (List ℕ)). length xs) e
    ∙ length-map (datagrams_from session id k) datagram_text
    ∙ length-map (enumerate_from 0 (fragments_from k))
    (datagram_with k.version (kind_from k.watches) session id k.datagrams (k.instructions + 1) (length (fragments_from k)))
    ∙ length-enumerate_from 0 (fragments_from k)

pub all_sent : (v : ClientView) (now moment : ℕ) (due : Bool) (all : Vec (Vec ℕ Global) Global) (act n : ℕ) → moment ≡ moment_of v.kept now
    → due ≡ is_client_due v.kept moment → due ≡ true → is_client_spent v.kept ≡ false
    → texts_of all.items ≡ map datagram_text (datagrams_from v.session v.id v.kept) → act ≡ max v.kept.sent_act (last_waiting v.kept)
    → n ≡ length all.items
    → Sends v now (Ok all) (keeping v (record v.kept {
      sent_at = Some moment;
      sent_act = act;
      owed = None;
      clock = moment;
      datagrams = v.kept.datagrams + n;
      instructions = v.kept.instructions + 1;
    }))
all_sent v now moment due all act n m e f fit texts a len =
    sent all (sym (e ∙ ap (is_client_due v.kept) m) ∙ f) fit refl texts
    (λ i. keeping v (record (after_sending v.kept (m i)) {
      sent_act = a i;
      datagrams = v.kept.datagrams + (len ∙ as_many v.session v.id v.kept all texts) i;
    }))

-- the case that no number would be past the last
pub fits_on : (k : Kept) → is_client_spent k ≡ false → (k.instructions + 1 < 2 ^ 62) × (k.datagrams + length (fragments_from k) < 2 ^ 62)
fits_on k e =
    let left = or_left (is_spent (k.acts.acked + 1) || is_spent (k.instructions + 1))
    (is_spent (k.datagrams + length (fragments_from k))) e in (
      not_past (k.instructions + 1) (or_right (is_spent (k.acts.acked + 1)) (is_spent (k.instructions + 1)) left),
      not_past (k.datagrams + length (fragments_from k))
          (or_right (is_spent (k.acts.acked + 1) || is_spent (k.instructions + 1)) (is_spent (k.datagrams + length (fragments_from k))) e),
    )
