-- The numbers of client instances, one more after another.
use Rattle.std.proofs.Common.{◌≡◌, ℕ, suc, zero, ◌+◌, ◌-◌, ◌≤◌, ◌<◌, List, [], ◌∷◌, ◌++◌, length, sym, ap, ◌∙◌, append_assoc, append-nil, get_or, inl, inr, arith}
use Rattle.std.specs.List.{Contains, range_with_len}
use Rattle.std.proofs.lemmas.List.{length-map, map-append}
use Rattle.std.proofs.lemmas.List.Elements.{All-nil, All-push}
use Rattle.std.proofs.Math.ListN.{get_or-map}
use Rattle.roam_sockets.specs.Clients.{Accepts, AcceptsOne, HaveCome, IsFresh, NoneCame, OneCame, numbers_of}
use Rattle.mio.specs.declared.net.uds.stream.UnixStream.{UnixStream}
use Rattle.roam_sockets.specs.declared.clients.ClientPeer.{ClientPeer}
use Rattle.roam_sockets.specs.declared.clients.Clients.{Clients}

range_more : (a n : ℕ) → range_with_len a (suc n) ≡ range_with_len a n ++ (a + n) ∷ []
range_more a zero = ap (λ x. x ∷ []) (omega arith)
range_more a (suc n) =
    let later : a + 1 + n ≡ a + suc n = omega arith in
    ap (λ t. a ∷ t) (range_more (a + 1) n ∙ ap (λ x. range_with_len (a + 1) n ++ x ∷ []) later)

none_more : (a : ℕ) → range_with_len (a + 1) (a - a) ≡ []
none_more a = let none : a - a ≡ 0 = omega arith in ap (λ n. range_with_len (a + 1) n) none

pub accepts_none : (old : Clients) → Accepts old old
accepts_none old = record {
  rises = omega arith;
  numbers = sym (ap (λ t. numbers_of old.all.items ++ t) (none_more old.last) ∙ append-nil (numbers_of old.all.items));
}

pub come_none : (old : Clients) → HaveCome old old
come_none old = record { came = []; fresh = All-nil IsFresh; behind = sym (append-nil old.all.items) }

one_more : (a b : ℕ) → a ≤ b → range_with_len (a + 1) (b + 1 - a) ≡ range_with_len (a + 1) (b - a) ++ (b + 1) ∷ []
one_more a b le =
    let count : b + 1 - a ≡ suc (b - a) = omega arith in
    let last : a + 1 + (b - a) ≡ b + 1 = omega arith in
    ap (λ n. range_with_len (a + 1) n) count ∙ range_more (a + 1) (b - a) ∙ ap (λ x. range_with_len (a + 1) (b - a) ++ x ∷ []) last

number_more : (mid new : Clients) (came : OneCame mid new) → numbers_of new.all.items ≡ numbers_of mid.all.items ++ (mid.last + 1) ∷ []
number_more mid new came =
    ap (λ (peers : List (ClientPeer UnixStream)). numbers_of peers) came.behind
    ∙ map-append (λ (peer : ClientPeer UnixStream). peer.number) mid.all.items (came.peer ∷ [])
    ∙ ap (λ n. numbers_of mid.all.items ++ n ∷ []) came.number

accepts_more : (old mid new : Clients) → Accepts old mid → OneCame mid new → Accepts old new
accepts_more old mid new so_far one = record {
  rises = let le = so_far.rises in omega (arith, one.last);
  numbers = number_more mid new one ∙ ap (λ t. t ++ (mid.last + 1) ∷ []) so_far.numbers
      ∙ append_assoc (numbers_of old.all.items) (range_with_len (old.last + 1) (mid.last - old.last)) ((mid.last + 1) ∷ [])
      ∙ ap (λ t. numbers_of old.all.items ++ t) (sym (one_more old.last mid.last so_far.rises))
      ∙ ap (λ n. numbers_of old.all.items ++ range_with_len (old.last + 1) (n - old.last)) (sym one.last);
}

come_more : (old mid new : Clients) → HaveCome old mid → OneCame mid new → HaveCome old new
come_more old mid new so_far one = record {
  came = so_far.came ++ one.peer ∷ [];
  fresh = All-push IsFresh so_far.came one.peer so_far.fresh one.fresh;
  behind = one.behind ∙ ap (λ peers. peers ++ one.peer ∷ []) so_far.behind ∙ append_assoc old.all.items so_far.came (one.peer ∷ []);
}

accepts_same : (old mid new : Clients) → Accepts old mid → NoneCame mid new → Accepts old new
accepts_same old mid new so_far none = record {
  rises = let le = so_far.rises in omega (arith, none.0);
  numbers = ap (λ (peers : List (ClientPeer UnixStream)). numbers_of peers) none.1 ∙ so_far.numbers
      ∙ ap (λ n. numbers_of old.all.items ++ range_with_len (old.last + 1) (n - old.last)) (sym none.0);
}

come_same : (old mid new : Clients) → HaveCome old mid → NoneCame mid new → HaveCome old new
come_same old mid new so_far none = record { came = so_far.came; fresh = so_far.fresh; behind = none.1 ∙ so_far.behind }

pub accepts_one : (old mid new : Clients) → Accepts old mid → AcceptsOne mid new → Accepts old new
accepts_one old mid new so_far one =
    elim one [ inl none ↦ accepts_same old mid new so_far none | inr came ↦ accepts_more old mid new so_far came ]

pub come_one : (old mid new : Clients) → HaveCome old mid → AcceptsOne mid new → HaveCome old new
come_one old mid new so_far one =
    elim one [ inl none ↦ come_same old mid new so_far none | inr came ↦ come_more old mid new so_far came ]

-- the number of the one at a place is among them
pub contained : (all : List (ClientPeer UnixStream)) (at : ℕ) (d : ClientPeer UnixStream) → at < length all → d ≡ get_or all at d → Contains (numbers_of all) (get_or all at d).number
contained all at d lt is =
    let long : length (numbers_of all) ≡ length all = length-map all (λ (peer : ClientPeer UnixStream). peer.number) in
    (at, omega (arith, long), ap (λ (p : ClientPeer UnixStream). get_or (numbers_of all) at p.number) (sym is) ∙ get_or-map (λ (p : ClientPeer UnixStream). p.number) all at d)
