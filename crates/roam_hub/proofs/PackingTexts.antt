-- Datagrams are written one after another.
use Rattle.std.proofs.Common.{◌≡◌, ℕ, zero, suc, ◌+◌, ◌<◌, ◌≤◌, ◌^◌, List, [], ◌∷◌, ◌++◌, length, map, drop, get_or, refl, sym, ap, ◌∙◌, subst, arith, length-append}
use Rattle.std.specs.List.{enumerate_from}
use Rattle.std.proofs.lemmas.List.{append_assoc}
use Rattle.roam_wire.specs.declared.datagrams.Kind.{Kind}
use Rattle.roam_wire.specs.declared.datagrams.Kind.TheVariants.{FromWatcher}
use Rattle.roam_wire.specs.declared.versions.Version.{Version}
use Rattle.roam_wire.specs.declared.versions.Version.TheVariants.{One, Two}
use Rattle.roam_wire.specs.Versions.{most_fragments}
use Rattle.roam_wire.specs.Cutting.{AreSendable}
use Rattle.roam_wire.specs.Datagrams.{DatagramValue, IsDatagram, datagram_text}
use Rattle.roam_model.specs.Texts.{datagram_with}

-- some fragments are written, the others are left
pub record IsPacking (g : ℕ × List ℕ → DatagramValue) (ps done rest : List (List ℕ)) : Type 0 where
  pub left : rest ≡ drop (length done) ps
  pub low : length done ≤ length ps
  pub written : done ++ map datagram_text (map g (enumerate_from (length done) rest)) ≡ map datagram_text (map g (enumerate_from 0 ps))

pub pack_start : (g : ℕ × List ℕ → DatagramValue) (ps done rest : List (List ℕ)) → done ≡ [] → rest ≡ ps → IsPacking g ps done rest
pack_start g ps done rest none all =
    subst (λ (d : List (List ℕ)). IsPacking g ps d rest) (sym none)
    (subst (λ (r : List (List ℕ)). IsPacking g ps [] r) (sym all) (record { left = refl; low = omega arith; written = refl }))

pub pack_end : (g : ℕ × List ℕ → DatagramValue) (ps done rest : List (List ℕ)) → IsPacking g ps done rest → rest ≡ []
    → done ≡ map datagram_text (map g (enumerate_from 0 ps))
pack_end g ps done rest p none =
    sym (append-nil done) ∙ sym (ap (λ (r : List (List ℕ)). done ++ map datagram_text (map g (enumerate_from (length done) r))) none)
    ∙ p.written
  where
    append-nil : (xs : List (List ℕ)) → xs ++ [] ≡ xs
    append-nil [] = refl
    append-nil (x ∷ xs) = ap (λ (ys : List (List ℕ)). x ∷ ys) (append-nil xs)

-- the first fragment that is left
pub record IsNext (ps : List (List ℕ)) (k : ℕ) (x : List ℕ) : Type 0 where
  pub within : k < length ps
  pub here : get_or ps k [] ≡ x

next_at : (ps : List (List ℕ)) (k : ℕ) (x : List ℕ) (rest : List (List ℕ)) → drop k ps ≡ x ∷ rest → IsNext ps k x
next_at [] zero x rest e = absurd (cc)
next_at [] (suc k) x rest e = absurd (cc)
next_at (p ∷ ps) zero x rest e = record { within = omega arith; here = cc }
next_at (p ∷ ps) (suc k) x rest e =
    let n = next_at ps k x rest e in
    let w = n.within in
    record { within = omega (arith, w); here = n.here }

tail_at : (ps : List (List ℕ)) (k : ℕ) (x : List ℕ) (rest : List (List ℕ)) → drop k ps ≡ x ∷ rest → drop (suc k) ps ≡ rest
tail_at [] zero x rest e = absurd (cc)
tail_at [] (suc k) x rest e = absurd (cc)
tail_at (p ∷ ps) zero x rest e = cc
tail_at (p ∷ ps) (suc k) x rest e = tail_at ps k x rest e

pub pack_next : (g : ℕ × List ℕ → DatagramValue) (ps done rest : List (List ℕ)) (x : List ℕ) (more : List (List ℕ))
    → IsPacking g ps done rest → rest ≡ x ∷ more → IsNext ps (length done) x
pack_next g ps done rest x more p e = next_at ps (length done) x more (sym p.left ∙ e)

pub pack_more : (g : ℕ × List ℕ → DatagramValue) (ps done rest : List (List ℕ)) (x y : List ℕ) (more : List (List ℕ))
    → IsPacking g ps done rest → rest ≡ x ∷ more → y ≡ datagram_text (g (length done, x)) → IsPacking g ps (done ++ y ∷ []) more
pack_more g ps done rest x y more p e is =
    record {
      left = sym (ap (λ (n : ℕ). drop n ps) up ∙ tail_at ps (length done) x more (sym p.left ∙ e));
      low = (let w = n.within in omega (arith, grows, w));
      written =
          ap (λ (n : ℕ). (done ++ y ∷ []) ++ map datagram_text (map g (enumerate_from n more))) grows
          ∙ append_assoc done (y ∷ []) (map datagram_text (map g (enumerate_from (length done + 1) more)))
          ∙ ap (λ (z : List ℕ). done ++ z ∷ map datagram_text (map g (enumerate_from (length done + 1) more))) is
          ∙ sym (ap (λ (r : List (List ℕ)). done ++ map datagram_text (map g (enumerate_from (length done) r))) e) ∙ p.written;
    }
  where
    grows : length (done ++ y ∷ []) ≡ length done + 1
    grows = length-append done (y ∷ [])

    up : length (done ++ y ∷ []) ≡ suc (length done)
    up = grows ∙ (let z : length done + 1 ≡ suc (length done) = omega arith in z)

    n : IsNext ps (length done) x
    n = pack_next g ps done rest x more p e

-- a datagram with one of the fragments of a text has a text
pub fragment_sendable : (v : Version) (kind : Kind) (session client before id count index : ℕ) (ps : List (List ℕ)) (payload : List ℕ)
    → (kind ≡ FromWatcher → v ≡ Two) → session < 2 ^ 64
    → client < 2 ^ 64 → 1 ≤ id → id < 2 ^ 62 → before + length ps < 2 ^ 62 → AreSendable v ps → count ≡ length ps → IsNext ps index payload
    → IsDatagram (datagram_with v kind session client before id count (index, payload))
fragment_sendable v kind session client before id count index ps payload fit s c low high numbers can all n =
    let w = n.within in
    let len = can.lengths index n.within in
    let few = can.few in
    record {
      kind = fit;
      session = s;
      client = c;
      number = (omega (arith), omega (arith, w, numbers));
      id = (low, high);
      count = (omega (arith, all, w), omega (arith, all, few));
      index = omega (arith, all, w);
      len = (subst (λ (xs : List ℕ). 1 ≤ length xs) n.here len.low, subst (λ (xs : List ℕ). length xs ≤ 1200) n.here len.high);
      whole = (λ more. subst (λ (xs : List ℕ). length xs ≡ 1200) n.here (len.whole (omega (arith, all, more))));
    }

-- no version allows more fragments than two bytes can count
pub at_most : (v : Version) → most_fragments v ≤ 4096
at_most One = omega arith
at_most Two = omega arith

pub nothing_left : {X : Type 0} → (xs : List X) → length xs ≡ 0 → xs ≡ []
nothing_left [] e = refl
nothing_left (x ∷ xs) e = absurd (cc)
