-- The text behind a line's head is read as the line that it means, and as no other.
use Rattle.std.proofs.Common.{◌≡◌, ℕ, Bool, true, false, cond, eqb, inl, inr, ◌⊎◌, ◌<◌, ◌≤◌, ◌^◌, List, [], ◌∷◌, ◌++◌, Option, Some, None, refl, sym, ap, subst, ◌∙◌, arith, lit≤}
use Rattle.std.specs.Fmt.{decimal}
use Rattle.std.specs.Option.{option_map}
use Rattle.std.specs.Prelude.{Ok, Err, Result, option_and_then}
use Rattle.std.proofs.lemmas.Bool.{eqb-true}
use Rattle.std.specs.Result.{result_ok}
use Rattle.std.proofs.lemmas.Fmt.{decimal_is_IsNumeral}
use Rattle.hex.specs.Hex.{decode_of}
use Rattle.hex.specs.declared.error.FromHexError.{FromHexError}
use Rattle.roam_acts.specs.declared.acts.Act.{Act}
use Rattle.roam_acts.specs.Acts.{IsAct}
use Rattle.roam_acts.specs.Lines.{Spells as SpellsAct}
use Rattle.roam_world_script.specs.declared.kinds.Kind.{Kind}
use Rattle.roam_world_script.specs.declared.kinds.Kind.TheVariants as kind
use Rattle.roam_wire.specs.declared.versions.Version.{Version}
use Rattle.roam_wire.specs.declared.versions.Version.TheVariants.{One, Two}
use Rattle.roam_wire.specs.Versions.{number_of_version, version_numbered}
use Rattle.roam_world_script.specs.Values.{LineValue, IsLine, Session, Start, Watch, PaneBytes, Typed, ServerTick, ClientTick, ToServer, ToClient, Drained, Show, Face, Output}
use Rattle.roam_world_script.specs.Kinds.{kind_of}
use Rattle.roam_tokens.specs.Numbers.{IsId, id_in, number_in}
use Rattle.roam_world_script.specs.Lines.{AreBytes, IsArgument, IsStart}
use Rattle.roam_tokens.specs.Words.{first_word}
use Rattle.roam_world_script.specs.Reading.{byte_in, bytes_in, face_in, long_in, pair_of, plain_in, short_in, slot_in, start_at, start_in, two_in, version_in}
use Rattle.roam_world_script.specs.Arguments.{IsLineWith, IsNoLineWith}
use Rattle.roam_tokens.proofs.Spelled.{id_again, id_found, number_again, number_found}
use Rattle.roam_tokens.proofs.Wording.{digits_are_word, word_again, word_alone, word_found, IsWord}
use Rattle.roam_world_script.proofs.Wording.{pair_found, two_again, two_found}

-- ---- words

decimal_word : (n : ℕ) → n < 2 ^ 64 → IsWord (decimal n)
decimal_word n small = digits_are_word 10 (decimal n) (lit≤ tt) (decimal_is_IsNumeral n small).0.1

id_word : (w : List ℕ) (id : ℕ) → IsId w id → IsWord w
id_word w id h = digits_are_word 16 w (lit≤ tt) h.digits.1

slot_again : (n : ℕ) → n < 8 → slot_in (decimal n) ≡ Some n
slot_again n lt = number_again 7 n (omega (arith, lt)) (omega (arith, lt))

byte_again : (n : ℕ) → n < 2 ^ 8 → byte_in (decimal n) ≡ Some n
byte_again n lt = number_again 255 n (omega (arith, lt)) (omega (arith, lt))

short_again : (n : ℕ) → n < 2 ^ 16 → short_in (decimal n) ≡ Some n
short_again n lt = number_again 65535 n (omega (arith, lt)) (omega (arith, lt))

long_again : (n : ℕ) → n < 2 ^ 64 → long_in (decimal n) ≡ Some n
long_again n lt = number_again 18446744073709551615 n (omega (arith, lt)) lt

-- ---- a line with a meaning is read

-- kinds that take neither bytes nor an act
abbrev pub IsPlain : Kind → Type 0
IsPlain k = ((k ≡ kind.PaneBytes) → ⊥) × ((k ≡ kind.Typed) → ⊥)

two_more : (first middle last : ℕ) → first < 2 ^ 64 → middle < 2 ^ 64 → (f g h : List ℕ → Option ℕ) → f (decimal first) ≡ Some first
    → g (decimal middle) ≡ Some middle → h (decimal last) ≡ Some last
    → two_in f (two_in g h) (decimal first ++ 0x20 ∷ (decimal middle ++ 0x20 ∷ decimal last)) ≡ Some (first, (middle, last))
two_more first middle last small medium f g h p q r =
    let rest = two_again g h (decimal middle) (decimal last) middle last (decimal_word middle medium) q r in
    two_again f (two_in g h) (decimal first) (decimal middle ++ 0x20 ∷ decimal last) first (middle, last) (decimal_word first small) p rest

version_again : (version : Version) → version_in (decimal (number_of_version version)) ≡ Some version
version_again One = ap (λ (o : Option ℕ). option_and_then version_numbered o) (byte_again 1 (omega arith))
version_again Two = ap (λ (o : Option ℕ). option_and_then version_numbered o) (byte_again 2 (omega arith))

start_again : (id : ℕ) (version : Version) (text : List ℕ) → IsStart id version text → start_in text ≡ Some (id, version)
start_again id version text h = elim h.2 [
  | inl none ↦
      ap (start_at text) (ap first_word none.1 ∙ word_alone h.0 (id_word h.0 id h.1))
      ∙ ap (option_map (λ (n : ℕ). (n, One))) (ap id_in none.1 ∙ id_again h.0 id h.1)
      ∙ ap (λ (v : Version). Some (id, v)) (sym none.0)
  | inr told ↦
      ap (start_at text) (ap first_word told ∙ word_again h.0 (decimal (number_of_version version)) (id_word h.0 id h.1))
      ∙ (λ i. pair_of (id_again h.0 id h.1 i) (version_again version i))
]

pub plain_again : (l : LineValue) (text : List ℕ) → IsPlain (kind_of l) → IsLine l → IsArgument l text → plain_in (kind_of l) text ≡ Some l
plain_again (Session id rows cols) text plain is h =
    let rest = two_again short_in short_in (decimal rows) (decimal cols) rows cols (decimal_word rows (omega (arith, is.1))) (short_again
    rows is.1) (short_again cols is.2) in
    let all = two_again id_in (two_in short_in short_in) h.0 (decimal rows ++ 0x20 ∷ decimal cols) id (rows, cols) (id_word h.0 id h.1)
    (id_again h.0 id h.1) rest in
    ap (plain_in kind.Session) h.2 ∙ ap (option_map (λ (p : ℕ × (ℕ × ℕ)). Session p.0 p.1.0 p.1.1)) all
plain_again (Start slot id version) text plain is h =
    let all = two_again slot_in start_in (decimal slot) h.0 slot (id, version) (decimal_word slot (omega (arith, is.0))) (slot_again slot
    is.0) (start_again id version h.0 h.1) in
    ap (plain_in kind.Start) h.2 ∙ ap (option_map (λ (p : ℕ × (ℕ × Version)). Start p.0 p.1.0 p.1.1)) all
plain_again (Watch slot id) text plain is h =
    let all = two_again slot_in id_in (decimal slot) h.0 slot id (decimal_word slot (omega (arith, is.0))) (slot_again slot is.0)
    (id_again h.0 id h.1) in
    ap (plain_in kind.Watch) h.2 ∙ ap (option_map (λ (p : ℕ × ℕ). Watch p.0 p.1)) all
plain_again (PaneBytes pane bytes) text plain is h = absurd (plain.0 refl)
plain_again (Typed slot act) text plain is h = absurd (plain.1 refl)
plain_again (ServerTick now) text plain is h = ap (plain_in kind.ServerTick) h ∙ ap (option_map ServerTick) (long_again now is)
plain_again (ClientTick slot now) text plain is h =
    let all = two_again slot_in long_in (decimal slot) (decimal now) slot now (decimal_word slot (omega (arith, is.0))) (slot_again slot
    is.0) (long_again now is.1) in
    ap (plain_in kind.ClientTick) h ∙ ap (option_map (λ (p : ℕ × ℕ). ClientTick p.0 p.1)) all
plain_again (ToServer number port now) text plain is h =
    let all = two_more number port now is.0 (omega (arith, is.1)) long_in short_in long_in (long_again number is.0) (short_again port
    is.1) (long_again now is.2) in
    ap (plain_in kind.ToServer) h ∙ ap (option_map (λ (p : ℕ × (ℕ × ℕ)). ToServer p.0 p.1.0 p.1.1)) all
plain_again (ToClient slot number now) text plain is h =
    let all = two_more slot number now (omega (arith, is.0)) is.1 slot_in long_in long_in (slot_again slot is.0) (long_again number is.1)
    (long_again now is.2) in
    ap (plain_in kind.ToClient) h ∙ ap (option_map (λ (p : ℕ × (ℕ × ℕ)). ToClient p.0 p.1.0 p.1.1)) all
plain_again (Drained pane count) text plain is h =
    let all = two_again byte_in long_in (decimal pane) (decimal count) pane count (decimal_word pane (omega (arith, is.0))) (byte_again
    pane is.0) (long_again count is.1) in
    ap (plain_in kind.Drained) h ∙ ap (option_map (λ (p : ℕ × ℕ). Drained p.0 p.1)) all
plain_again (Show slot) text plain is h = ap (plain_in kind.Show) h ∙ ap (option_map Show) (slot_again slot is)
plain_again Face text plain is h = ap (plain_in kind.Face) h
plain_again (Output pane) text plain is h = ap (plain_in kind.Output) h ∙ ap (option_map Output) (byte_again pane is)

-- ---- a line that is read has the meaning

moved : (k : Kind) (text : List ℕ) (a b : LineValue) → a ≡ b → IsLineWith k text a → IsLineWith k text b
moved k text a b e t = subst (IsLineWith k text) e t

mapped : {X : Type 0} (f : X → LineValue) (r : Option X) (l : LineValue) → option_map f r ≡ Some l → (x : X) × (r ≡ Some x) × (f x ≡ l)
mapped f None l e = absurd cc
mapped f (Some x) l e = (x, refl, cc)

-- a number and its decimal
pub record IsNumber (most : ℕ) (text : List ℕ) (n : ℕ) : Type 0 where
  pub most_of : n ≤ most
  pub text_is : text ≡ decimal n

number_is : (most : ℕ) (text : List ℕ) (n : ℕ) → number_in most text ≡ Some n → IsNumber most text n
number_is most text n e = let f = number_found most text n e in record { most_of = f.0; text_is = f.1 }

session_found : (text : List ℕ) (p : ℕ × (ℕ × ℕ)) → two_in id_in (two_in short_in short_in) text ≡ Some p
    → IsLineWith kind.Session text (Session p.0 p.1.0 p.1.1)
session_found text p e =
    let t = two_found id_in (two_in short_in short_in) text p e in
    let u = two_found short_in short_in t.rest p.1 t.second in
    let id = id_found t.word p.0 t.first in
    let rows = number_is 65535 u.word p.1.0 u.first in
    let cols = number_is 65535 u.rest p.1.1 u.second in
    record {
      same_kind = refl;
      in_range = (id.0, omega (arith, rows.most_of), omega (arith, cols.most_of));
      argument = (t.word, id.1, t.is ∙ ap (λ (r : List ℕ). t.word ++ 0x20 ∷ r) (u.is ∙ (λ i. rows.text_is i ++ 0x20 ∷ cols.text_is i)));
    }

version_found : (n : ℕ) (version : Version) → version_numbered n ≡ Some version → n ≡ number_of_version version
version_found n version e = go (eqb n 1) refl (eqb n 2) refl e
  where
    go : (a : Bool) → eqb n 1 ≡ a → (b : Bool) → eqb n 2 ≡ b → cond a (Some One) (cond b (Some Two) None) ≡ Some version
        → n ≡ number_of_version version
    go true f b g h = let same : One ≡ version = cc in eqb-true n 1 f ∙ ap number_of_version same
    go false f true g h = let same : Two ≡ version = cc in eqb-true n 2 g ∙ ap number_of_version same
    go false f false g h = absurd cc

started_found : (text : List ℕ) (p : ℕ × Version) → start_in text ≡ Some p → (p.0 < 2 ^ 64) × IsStart p.0 p.1 text
started_found text p e = by (first_word text) refl e
  where
    alone : (o : Option ℕ) → id_in text ≡ o → option_map (λ (n : ℕ). (n, One)) o ≡ Some p → (p.0 < 2 ^ 64) × IsStart p.0 p.1 text
    alone None f g = absurd cc
    alone (Some n) f g =
        let same : (n, One) ≡ p = cc in
        let id = id_found text p.0 (f ∙ ap (λ (q : ℕ × Version). Some q.0) same) in
        (id.0, (text, id.1, inl (sym (ap (λ (q : ℕ × Version). q.1) same), refl)))

    told : (words : List ℕ × List ℕ) (o : Option ℕ) → byte_in words.1 ≡ o → first_word text ≡ Some words → id_in words.0 ≡ Some p.0
        → option_and_then version_numbered o ≡ Some p.1 → (p.0 < 2 ^ 64) × IsStart p.0 p.1 text
    told words None f is first second = absurd cc
    told words (Some n) f is first second =
        let id = id_found words.0 p.0 first in
        let number = number_is 255 words.1 n f in (
          id.0,
          (
            words.0,
            id.1,
            inr (word_found text words is
                ∙ ap (λ (w : List ℕ). words.0 ++ 0x20 ∷ w) (number.text_is ∙ ap decimal (version_found n p.1 second))),
          ),
        )

    by : (r : Option (List ℕ × List ℕ)) → first_word text ≡ r → start_at text r ≡ Some p → (p.0 < 2 ^ 64) × IsStart p.0 p.1 text
    by None is f = alone (id_in text) refl f
    by (Some words) is f =
        let both = pair_found id_in version_in (id_in words.0) (version_in words.1) p f in
        told words (byte_in words.1) refl is both.0 both.1

start_found : (text : List ℕ) (p : ℕ × (ℕ × Version)) → two_in slot_in start_in text ≡ Some p
    → IsLineWith kind.Start text (Start p.0 p.1.0 p.1.1)
start_found text p e =
    let t = two_found slot_in start_in text p e in
    let slot = number_is 7 t.word p.0 t.first in
    let start = started_found t.rest p.1 t.second in
    record {
      same_kind = refl;
      in_range = (omega (arith, slot.most_of), start.0);
      argument = (t.rest, start.1, t.is ∙ ap (λ (w : List ℕ). w ++ 0x20 ∷ t.rest) slot.text_is);
    }

watch_found : (text : List ℕ) (p : ℕ × ℕ) → two_in slot_in id_in text ≡ Some p → IsLineWith kind.Watch text (Watch p.0 p.1)
watch_found text p e =
    let t = two_found slot_in id_in text p e in
    let slot = number_is 7 t.word p.0 t.first in
    let id = id_found t.rest p.1 t.second in
    record {
      same_kind = refl;
      in_range = (omega (arith, slot.most_of), id.0);
      argument = (t.rest, id.1, t.is ∙ ap (λ (w : List ℕ). w ++ 0x20 ∷ t.rest) slot.text_is);
    }

-- two numbers, a space apart
pub record AreNumbers (most_first most_last : ℕ) (text : List ℕ) (first last : ℕ) : Type 0 where
  pub first_of : first ≤ most_first
  pub last_of : last ≤ most_last
  pub text_is : text ≡ decimal first ++ 0x20 ∷ decimal last

numbers_are : (m n : ℕ) (text : List ℕ) (p : ℕ × ℕ) → two_in (number_in m) (number_in n) text ≡ Some p → AreNumbers m n text p.0 p.1
numbers_are m n text p e =
    let t = two_found (number_in m) (number_in n) text p e in
    let first = number_is m t.word p.0 t.first in
    let last = number_is n t.rest p.1 t.second in
    record { first_of = first.most_of; last_of = last.most_of; text_is = t.is ∙ (λ i. first.text_is i ++ 0x20 ∷ last.text_is i) }

pub record AreThree (most_first most_middle most_last : ℕ) (text : List ℕ) (first middle last : ℕ) : Type 0 where
  pub first_of : first ≤ most_first
  pub middle_of : middle ≤ most_middle
  pub last_of : last ≤ most_last
  pub text_is : text ≡ decimal first ++ 0x20 ∷ (decimal middle ++ 0x20 ∷ decimal last)

three_are : (l m n : ℕ) (text : List ℕ) (p : ℕ × (ℕ × ℕ)) → two_in (number_in l) (two_in (number_in m) (number_in n)) text ≡ Some p
    → AreThree l m n text p.0 p.1.0 p.1.1
three_are l m n text p e =
    let t = two_found (number_in l) (two_in (number_in m) (number_in n)) text p e in
    let first = number_is l t.word p.0 t.first in
    let rest = numbers_are m n t.rest p.1 t.second in
    record {
      first_of = first.most_of;
      middle_of = rest.first_of;
      last_of = rest.last_of;
      text_is = t.is ∙ (λ i. first.text_is i ++ 0x20 ∷ rest.text_is i);
    }

face_found : (text : List ℕ) (l : LineValue) → face_in text ≡ Some l → IsLineWith kind.Face text l
face_found [] l e = moved kind.Face [] Face l (cc) (record { same_kind = refl; in_range = tt; argument = refl })
face_found (b ∷ text) l e = absurd cc

pub plain_found : (k : Kind) (text : List ℕ) (l : LineValue) → plain_in k text ≡ Some l → IsLineWith k text l
plain_found kind.Session text l e =
    let m = mapped (λ (p : ℕ × (ℕ × ℕ)). Session p.0 p.1.0 p.1.1) (two_in id_in (two_in short_in short_in) text) l e in
    moved kind.Session text (Session m.0.0 m.0.1.0 m.0.1.1) l m.2 (session_found text m.0 m.1)
plain_found kind.Start text l e =
    let m = mapped (λ (p : ℕ × (ℕ × Version)). Start p.0 p.1.0 p.1.1) (two_in slot_in start_in text) l e in
    moved kind.Start text (Start m.0.0 m.0.1.0 m.0.1.1) l m.2 (start_found text m.0 m.1)
plain_found kind.Watch text l e =
    let m = mapped (λ (p : ℕ × ℕ). Watch p.0 p.1) (two_in slot_in id_in text) l e in
    moved kind.Watch text (Watch m.0.0 m.0.1) l m.2 (watch_found text m.0 m.1)
plain_found kind.PaneBytes text l e = absurd cc
plain_found kind.Typed text l e = absurd cc
plain_found kind.ServerTick text l e =
    let m = mapped ServerTick (long_in text) l e in
    let n = number_is 18446744073709551615 text m.0 m.1 in
    moved kind.ServerTick text (ServerTick m.0) l m.2 (record {
      same_kind = refl;
      in_range = omega (arith, n.most_of);
      argument =
          n.text_is;
    })
plain_found kind.ClientTick text l e =
    let m = mapped (λ (p : ℕ × ℕ). ClientTick p.0 p.1) (two_in slot_in long_in text) l e in
    let n = numbers_are 7 18446744073709551615 text m.0 m.1 in
    moved kind.ClientTick text (ClientTick m.0.0 m.0.1) l m.2 (record {
      same_kind = refl;
      in_range = (
        omega (arith, n.first_of),
        omega
            (arith, n.last_of),
      );
      argument = n.text_is;
    })
plain_found kind.ToServer text l e =
    let m = mapped (λ (p : ℕ × (ℕ × ℕ)). ToServer p.0 p.1.0 p.1.1) (two_in long_in (two_in short_in long_in) text) l e in
    let n = three_are 18446744073709551615 65535 18446744073709551615 text m.0 m.1 in
    moved kind.ToServer text (ToServer m.0.0 m.0.1.0 m.0.1.1) l m.2 (record {
      same_kind = refl;
      in_range = (omega (arith, n.first_of), omega (arith, n.middle_of), omega (arith, n.last_of));
      argument = n.text_is;
    })
plain_found kind.ToClient text l e =
    let m = mapped (λ (p : ℕ × (ℕ × ℕ)). ToClient p.0 p.1.0 p.1.1) (two_in slot_in (two_in long_in long_in) text) l e in
    let n = three_are 7 18446744073709551615 18446744073709551615 text m.0 m.1 in
    moved kind.ToClient text (ToClient m.0.0 m.0.1.0 m.0.1.1) l m.2 (record {
      same_kind = refl;
      in_range = (omega (arith, n.first_of), omega (arith, n.middle_of), omega (arith, n.last_of));
      argument = n.text_is;
    })
plain_found kind.Drained text l e =
    let m = mapped (λ (p : ℕ × ℕ). Drained p.0 p.1) (two_in byte_in long_in text) l e in
    let n = numbers_are 255 18446744073709551615 text m.0 m.1 in
    moved kind.Drained text (Drained m.0.0 m.0.1) l m.2 (record {
      same_kind = refl;
      in_range = (
        omega (arith, n.first_of),
        omega (
          arith,
          n.last_of,
        ),
      );
      argument = n.text_is;
    })
plain_found kind.Show text l e =
    let m = mapped Show (slot_in text) l e in
    let n = number_is 7 text m.0 m.1 in
    moved kind.Show text (Show m.0) l m.2 (record { same_kind = refl; in_range = omega (arith, n.most_of); argument = n.text_is })
plain_found kind.Face text l e = face_found text l e
plain_found kind.Output text l e =
    let m = mapped Output (byte_in text) l e in
    let n = number_is 255 text m.0 m.1 in
    moved kind.Output text (Output m.0) l m.2 (record { same_kind = refl; in_range = omega (arith, n.most_of); argument = n.text_is })

-- ---- bytes

ok_bytes : (r : Result (List ℕ) FromHexError) (bytes : List ℕ) → result_ok r ≡ Some bytes → r ≡ Ok bytes
ok_bytes (Ok xs) bytes e = let same : xs ≡ bytes = cc in ap (λ (ys : List ℕ). Ok ys) same
ok_bytes (Err x) bytes e = absurd cc

bytes_found : (text bytes : List ℕ) → bytes_in text ≡ Some bytes → AreBytes text bytes
bytes_found [] bytes e = absurd cc
bytes_found (d ∷ ds) bytes e = record { some = omega arith; pairs = ok_bytes (decode_of (d ∷ ds)) bytes e }

bytes_again : (text bytes : List ℕ) → AreBytes text bytes → bytes_in text ≡ Some bytes
bytes_again [] bytes h = absurd (omega (arith, h.some))
bytes_again (d ∷ ds) bytes h = ap (λ (r : Result (List ℕ) FromHexError). result_ok r) h.pairs

pub pane_bytes_found : (text : List ℕ) (p : ℕ × List ℕ) → two_in byte_in bytes_in text ≡ Some p
    → IsLineWith kind.PaneBytes text (PaneBytes p.0 p.1)
pane_bytes_found text p e =
    let t = two_found byte_in bytes_in text p e in
    let pane = number_is 255 t.word p.0 t.first in
    let bytes = bytes_found t.rest p.1 t.second in
    record {
      same_kind = refl;
      in_range = omega (arith, pane.most_of);
      argument = (t.rest, bytes, t.is ∙ ap (λ (w : List ℕ). w ++ 0x20 ∷ t.rest) pane.text_is);
    }

-- ---- acts

-- the beginning of an act's line
pub record IsTyped (text : List ℕ) (slot : ℕ) (act : Act) : Type 0 where
  pub words : List ℕ
  pub is : first_word text ≡ Some (decimal slot, words)
  pub slot_is : slot_in (decimal slot) ≡ Some slot
  pub act_is : IsAct act
  pub spells : SpellsAct words act

typed_is : (text : List ℕ) (l : LineValue) → kind_of l ≡ kind.Typed → IsLine l → IsArgument l text
    → (slot : ℕ) × (act : Act) × IsTyped text slot act × (l ≡ Typed slot act)
typed_is text (Typed slot act) k is h = (
  slot,
  act,
  record {
    words = h.0;
    is = ap first_word h.2 ∙ word_again (decimal slot) h.0 (decimal_word slot (omega (arith, is.0)));
    slot_is = slot_again slot is.0;
    act_is = is.1;
    spells = h.1;
  },
  refl,
)
typed_is text (Session id rows cols) k is h = absurd cc
typed_is text (Start slot id version) k is h = absurd cc
typed_is text (Watch slot id) k is h = absurd cc
typed_is text (PaneBytes pane bytes) k is h = absurd cc
typed_is text (ServerTick now) k is h = absurd cc
typed_is text (ClientTick slot now) k is h = absurd cc
typed_is text (ToServer number port now) k is h = absurd cc
typed_is text (ToClient slot number now) k is h = absurd cc
typed_is text (Drained pane count) k is h = absurd cc
typed_is text (Show slot) k is h = absurd cc
typed_is text Face k is h = absurd cc
typed_is text (Output pane) k is h = absurd cc

-- no word, no slot in it, or no act behind it
pub typed_no_word : (text : List ℕ) → first_word text ≡ None → IsNoLineWith kind.Typed text
typed_no_word text e l t = let p = typed_is text l t.same_kind t.in_range t.argument in let is = p.2.is in absurd cc

pub typed_no_slot : (text : List ℕ) (p : List ℕ × List ℕ) → first_word text ≡ Some p → slot_in p.0 ≡ None → IsNoLineWith kind.Typed text
typed_no_slot text p e none l t =
    let q = typed_is text l t.same_kind t.in_range t.argument in
    let words : List ℕ × List ℕ = (decimal q.0, q.2.words) in
    let both : Some p ≡ Some words = sym e ∙ q.2.is in
    let same : p ≡ words = cc in
    let is : slot_in p.0 ≡ Some q.0 = ap (λ (w : List ℕ × List ℕ). slot_in w.0) same ∙ q.2.slot_is in
    absurd cc

pub typed_no_act : (text : List ℕ) (p : List ℕ × List ℕ) → first_word text ≡ Some p → ((act : Act) → IsAct act → SpellsAct p.1 act → ⊥)
    → IsNoLineWith kind.Typed text
typed_no_act text p e none l t =
    let q = typed_is text l t.same_kind t.in_range t.argument in
    let words : List ℕ × List ℕ = (decimal q.0, q.2.words) in
    let both : Some p ≡ Some words = sym e ∙ q.2.is in
    let same : p ≡ words = cc in
    none q.1 q.2.act_is (subst (λ (w : List ℕ × List ℕ). SpellsAct w.1 q.1) (sym same) q.2.spells)

pub typed_found : (text : List ℕ) (p : List ℕ × List ℕ) (slot : ℕ) (act : Act) → first_word text ≡ Some p → slot_in p.0 ≡ Some slot
    → IsAct act → SpellsAct p.1 act → IsLineWith kind.Typed text (Typed slot act)
typed_found text p slot act e s is spells =
    let n = number_is 7 p.0 slot s in
    record {
      same_kind = refl;
      in_range = (omega (arith, n.most_of), is);
      argument = (p.1, spells, word_found text p e ∙ ap (λ (w : List ℕ). w ++ 0x20 ∷ p.1) n.text_is);
    }

-- ---- a text means one line

-- an act's line spells one act
abbrev pub OneAct : Type 0
OneAct = (line : List ℕ) (a b : Act) → IsAct a → IsAct b → SpellsAct line a → SpellsAct line b → a ≡ b

both_plain : (k : Kind) (text : List ℕ) (a b : LineValue) → IsPlain k → IsLineWith k text a → IsLineWith k text b → a ≡ b
both_plain k text a b plain s t =
    let first : IsPlain (kind_of a) = (λ p. plain.0 (sym s.same_kind ∙ p), λ p. plain.1 (sym s.same_kind ∙ p)) in
    let second : IsPlain (kind_of b) = (λ p. plain.0 (sym t.same_kind ∙ p), λ p. plain.1 (sym t.same_kind ∙ p)) in
    let read : plain_in k text ≡ Some a = sym (ap (λ (x : Kind). plain_in x text) s.same_kind)
    ∙ plain_again a text first s.in_range s.argument in
    let again : plain_in k text ≡ Some b = sym (ap (λ (x : Kind). plain_in x text) t.same_kind)
    ∙ plain_again b text second t.in_range t.argument in
    cc

-- bytes from a pane's program, as they were read
pub record AreGiven (text : List ℕ) (l : LineValue) : Type 0 where
  pub pane : ℕ
  pub bytes : List ℕ
  pub is : l ≡ PaneBytes pane bytes
  pub read : two_in byte_in bytes_in text ≡ Some (pane, bytes)

are_given : (text : List ℕ) (l : LineValue) → kind_of l ≡ kind.PaneBytes → IsLine l → IsArgument l text → AreGiven text l
are_given text (PaneBytes pane bytes) k is h = record {
  pane = pane;
  bytes = bytes;
  is = refl;
  read = ap (two_in byte_in bytes_in) h.2 ∙ two_again byte_in bytes_in (decimal pane) h.0 pane bytes (decimal_word pane (omega (
    arith,
    is,
  ))) (byte_again pane is) (bytes_again h.0 bytes h.1);
}
are_given text (Session id rows cols) k is h = absurd cc
are_given text (Start slot id version) k is h = absurd cc
are_given text (Watch slot id) k is h = absurd cc
are_given text (Typed slot act) k is h = absurd cc
are_given text (ServerTick now) k is h = absurd cc
are_given text (ClientTick slot now) k is h = absurd cc
are_given text (ToServer number port now) k is h = absurd cc
are_given text (ToClient slot number now) k is h = absurd cc
are_given text (Drained pane count) k is h = absurd cc
are_given text (Show slot) k is h = absurd cc
are_given text Face k is h = absurd cc
are_given text (Output pane) k is h = absurd cc

both_given : (text : List ℕ) (a b : LineValue) → AreGiven text a → AreGiven text b → a ≡ b
both_given text a b s t =
    let first : ℕ × List ℕ = (s.pane, s.bytes) in
    let second : ℕ × List ℕ = (t.pane, t.bytes) in
    let whole : Some first ≡ Some second = sym s.read ∙ t.read in
    let same : first ≡ second = cc in
    s.is ∙ ap (λ (p : ℕ × List ℕ). PaneBytes p.0 p.1) same ∙ sym t.is

both_typed : OneAct → (text : List ℕ) (s : ℕ) (a : Act) (t : ℕ) (b : Act) → IsTyped text s a → IsTyped text t b → Typed s a ≡ Typed t b
both_typed one text s a t b p q =
    let first : List ℕ × List ℕ = (decimal s, p.words) in
    let second : List ℕ × List ℕ = (decimal t, q.words) in
    let whole : Some first ≡ Some second = sym p.is ∙ q.is in
    let same : first ≡ second = cc in
    let slots : Some s ≡ Some t = sym p.slot_is ∙ ap (λ (w : List ℕ × List ℕ). slot_in w.0) same ∙ q.slot_is in
    let slot : s ≡ t = cc in
    let words : p.words ≡ q.words = ap (λ (w : List ℕ × List ℕ). w.1) same in
    let act : a ≡ b = one q.words a b p.act_is q.act_is (subst (λ (w : List ℕ). SpellsAct w a) words p.spells) q.spells in
    (λ i. Typed (slot i) (act i))

pub one_line : OneAct → (k : Kind) (text : List ℕ) (a b : LineValue) → IsLineWith k text a → IsLineWith k text b → a ≡ b
one_line one kind.PaneBytes text a b s t = both_given text a b (are_given text a s.same_kind s.in_range s.argument) (are_given text b
    t.same_kind t.in_range t.argument)
one_line one kind.Typed text a b s t =
    let p = typed_is text a s.same_kind s.in_range s.argument in
    let q = typed_is text b t.same_kind t.in_range t.argument in
    p.3 ∙ both_typed one text p.0 p.1 q.0 q.1 p.2 q.2 ∙ sym q.3
one_line one kind.Session text a b s t = both_plain kind.Session text a b (λ e. absurd cc, λ e. absurd cc) s t
one_line one kind.Start text a b s t = both_plain kind.Start text a b (λ e. absurd cc, λ e. absurd cc) s t
one_line one kind.Watch text a b s t = both_plain kind.Watch text a b (λ e. absurd cc, λ e. absurd cc) s t
one_line one kind.ServerTick text a b s t = both_plain kind.ServerTick text a b (λ e. absurd cc, λ e. absurd cc) s t
one_line one kind.ClientTick text a b s t = both_plain kind.ClientTick text a b (λ e. absurd cc, λ e. absurd cc) s t
one_line one kind.ToServer text a b s t = both_plain kind.ToServer text a b (λ e. absurd cc, λ e. absurd cc) s t
one_line one kind.ToClient text a b s t = both_plain kind.ToClient text a b (λ e. absurd cc, λ e. absurd cc) s t
one_line one kind.Drained text a b s t = both_plain kind.Drained text a b (λ e. absurd cc, λ e. absurd cc) s t
one_line one kind.Show text a b s t = both_plain kind.Show text a b (λ e. absurd cc, λ e. absurd cc) s t
one_line one kind.Face text a b s t = both_plain kind.Face text a b (λ e. absurd cc, λ e. absurd cc) s t
one_line one kind.Output text a b s t = both_plain kind.Output text a b (λ e. absurd cc, λ e. absurd cc) s t

pub pane_bytes_none : (text : List ℕ) → two_in byte_in bytes_in text ≡ None → IsNoLineWith kind.PaneBytes text
pane_bytes_none text e l t = let given = (are_given text l t.same_kind t.in_range t.argument).read in absurd cc
