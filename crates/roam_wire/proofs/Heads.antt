-- Datagrams: bytes that are read have this text, bytes with this text are read, and two datagrams with one text are equal.
use Rattle.std.proofs.Common.{◌≡◌, ℕ, ◌+◌, ◌^◌, ◌<◌, ◌≤◌, Bool, true, false, not, ◌||◌, cond, eqb, ltb, List, ◌∷◌, ◌++◌, length, get_or, drop, Option, Some, None, Result, Ok, Err, refl, sym, ap, subst, ◌∙◌, arith, lit<}
use Rattle.std.specs.Prelude.{is_ok, IsOk}
use Rattle.std.proofs.lemmas.Bool.{le-ltb, or_parts, not-false, eqb-true, eqb-false, ltb-false}
use Rattle.std.proofs.lemmas.Bool.Decides.{nat_tests}
use Rattle.std.proofs.lemmas.List.{length-append}
use Rattle.byteorder.specs.Endian.{big_bytes, big_number}
use Rattle.byteorder.specs.Numbers.{big_number-reads_back, big_from-lt}
use Rattle.roam_cells.specs.declared.faults.Reason.{Reason}
use Rattle.roam_cells.specs.declared.faults.Reason.TheVariants.{Magic, Length, Fragment}
use Rattle.roam_acts.proofs.Fields.{IsBytes, IsBytes-drop}
use Rattle.roam_wire.specs.declared.datagrams.Kind.{Kind}
use Rattle.roam_wire.specs.declared.datagrams.Kind.TheVariants.{ToClient, ToServer, FromWatcher}
use Rattle.roam_wire.specs.declared.headers.Header.{Header}
use Rattle.roam_wire.specs.declared.versions.Version.{Version}
use Rattle.roam_wire.specs.declared.versions.Version.TheVariants.{One, Two}
use Rattle.roam_wire.specs.Versions.{most_fragments, number_of_version, version_numbered}
use Rattle.roam_wire.specs.Datagrams.{DatagramValue, IsDatagram, datagram_text, header_of, header_text, tag_of}
use Rattle.roam_wire.specs.Headers.{header_at, watcher_in, kind_tagged, is_bad_length, is_bad_fragment, fragment_fault, kind_unless, version_unless, checked_header, datagram_with, datagram_if, datagram_at}
use Rattle.roam_wire.proofs.Numbers.{number, byte, back_8, back_2}

-- ---- the header's text

-- the first 42 bytes are the header's text
pub header_takes : (bytes : List ℕ) → 42 ≤ length bytes → IsBytes bytes → bytes ≡ header_text (header_at bytes) ++ drop 42 bytes
header_takes bytes long fits =
    number 2 0 bytes back_2 (omega arith) fits
    ∙ ap (λ (t : List ℕ). big_bytes 2 (big_number 2 bytes) ++ t) (byte 2 bytes (omega arith)
    ∙ ap (λ (t : List ℕ). get_or bytes 2 0 ∷ t) (byte 3 bytes (omega arith)
    ∙ ap (λ (t : List ℕ). get_or bytes 3 0 ∷ t) (number 8 4 bytes back_8 (omega arith) fits
    ∙ ap (λ (t : List ℕ). big_bytes 8 (big_number 8 (drop 4 bytes)) ++ t) (number 8 12 bytes back_8 (omega arith) fits
    ∙ ap (λ (t : List ℕ). big_bytes 8 (big_number 8 (drop 12 bytes)) ++ t) (number 8 20 bytes back_8 (omega arith) fits
    ∙ ap (λ (t : List ℕ). big_bytes 8 (big_number 8 (drop 20 bytes)) ++ t) (number 8 28 bytes back_8 (omega arith) fits
    ∙ ap (λ (t : List ℕ). big_bytes 8 (big_number 8 (drop 28 bytes)) ++ t) (number 2 36 bytes back_2 (omega arith) fits
    ∙ ap (λ (t : List ℕ). big_bytes 2 (big_number 2 (drop 36 bytes)) ++ t) (number 2 38 bytes back_2 (omega arith) fits
    ∙ ap (λ (t : List ℕ). big_bytes 2 (big_number 2 (drop 38 bytes)) ++ t) (number 2 40 bytes back_2 (omega arith) fits)))))))))

-- a header that has a text
record FitsHeader (h : Header) : Type 0 where
  magic : h.magic < 2 ^ 16
  session : h.session < 2 ^ 64
  client : h.client < 2 ^ 64
  number : h.number < 2 ^ 64
  id : h.id < 2 ^ 64
  index : h.index < 2 ^ 16
  count : h.count < 2 ^ 16
  len : h.len < 2 ^ 16

-- the header's text is read again, whatever follows
header_again : (h : Header) (rest : List ℕ) → FitsHeader h → header_at (header_text h ++ rest) ≡ h
header_again h rest fits =
    let all = header_text h ++ rest in
    let magic : big_number 2 all ≡ h.magic = big_number-reads_back 2 h.magic (drop 2 all) fits.magic in
    let session : big_number 8 (drop 4 all) ≡ h.session = big_number-reads_back 8 h.session (drop 12 all) fits.session in
    let client : big_number 8 (drop 12 all) ≡ h.client = big_number-reads_back 8 h.client (drop 20 all) fits.client in
    let number : big_number 8 (drop 20 all) ≡ h.number = big_number-reads_back 8 h.number (drop 28 all) fits.number in
    let id : big_number 8 (drop 28 all) ≡ h.id = big_number-reads_back 8 h.id (drop 36 all) fits.id in
    let index : big_number 2 (drop 36 all) ≡ h.index = big_number-reads_back 2 h.index (drop 38 all) fits.index in
    let count : big_number 2 (drop 38 all) ≡ h.count = big_number-reads_back 2 h.count (drop 40 all) fits.count in
    let len : big_number 2 (drop 40 all) ≡ h.len = big_number-reads_back 2 h.len rest fits.len in
    λ i. record { magic = magic i; version = h.version; kind = h.kind; session = session i; client = client i; number = number i; id = id i; index = index i; count = count i; len = len i }

-- ---- the tests on a header

-- the facts about a header without a fault
record Passes (h : Header) (rest : ℕ) (v : Version) (kind : Kind) : Type 0 where
  magic : h.magic ≡ 0x524D
  version : number_of_version v ≡ h.version
  tag : tag_of kind ≡ h.kind
  watches : kind ≡ FromWatcher → v ≡ Two
  len : h.len ≡ rest
  fragment : (1 ≤ h.len) × (h.len ≤ 1200)
  number : (1 ≤ h.number) × (h.number < 2 ^ 62)
  id : (1 ≤ h.id) × (h.id < 2 ^ 62)
  count : (1 ≤ h.count) × (h.count ≤ most_fragments v)
  index : h.index < h.count
  whole : h.index + 1 < h.count → h.len ≡ 1200

abbrev Ends : Type 0
Ends = Version × Kind

abbrev both_ends : Version → Kind → Result Ends Reason
both_ends v kind = Ok (v, kind)

err_or : (b : Bool) (r : Reason) (x : Result Ends Reason) (v : Version) (kind : Kind) → cond b (Err r) x ≡ both_ends v kind → (b ≡ false) × (x ≡ both_ends v kind)
err_or true r x v kind e = absurd cc
err_or false r x v kind e = (refl, e)

some_or : (b : Bool) (r : Reason) (x : Option Reason) → cond b (Some r) x ≡ None → (b ≡ false) × (x ≡ None)
some_or true r x e = absurd cc
some_or false r x e = (refl, e)

-- the facts about a version and a direction that were read
record Reads (h : Header) (rest : ℕ) (v : Version) (kind : Kind) : Type 0 where
  version : version_numbered h.version ≡ Some v
  fault : fragment_fault v h rest ≡ None
  tag : kind_tagged v h.kind ≡ Some kind

unless : (w : Version) (fault : Option Reason) (o : Option Kind) (v : Version) (kind : Kind) → kind_unless w fault o ≡ both_ends v kind → (fault ≡ None) × (o ≡ Some kind) × (w ≡ v)
unless w None None v kind e = absurd cc
unless w (Some r) None v kind e = absurd cc
unless w (Some r) (Some k) v kind e = absurd cc
unless w None (Some k) v kind e =
    let same : (w, k) ≡ (v, kind) = cc in
    (refl, ap (λ (p : Ends). Some (p.1)) same, ap (λ (p : Ends). p.0) same)

reads : (h : Header) (rest : ℕ) (o : Option Version) (v : Version) (kind : Kind) → version_numbered h.version ≡ o → version_unless h rest o ≡ both_ends v kind → Reads h rest v kind
reads h rest None v kind is e = absurd cc
reads h rest (Some w) v kind is e =
    let all = unless w (fragment_fault w h rest) (kind_tagged w h.kind) v kind e in
    subst (λ (x : Version). (version_numbered h.version ≡ Some x) → fragment_fault x h rest ≡ None → kind_tagged x h.kind ≡ Some kind → Reads h rest v kind) (sym all.2)
    (λ a b c. record { version = a; fault = b; tag = c }) is all.0 all.1

numbered : (n : ℕ) (v : Version) → version_numbered n ≡ Some v → number_of_version v ≡ n
numbered n v e = by (eqb n 1) refl (eqb n 2) refl e
  where
    by : (a : Bool) → eqb n 1 ≡ a → (b : Bool) → eqb n 2 ≡ b → cond a (Some One) (cond b (Some Two) None) ≡ Some v → number_of_version v ≡ n
    by true is b at e = let same : One ≡ v = cc in ap number_of_version (sym same) ∙ sym (eqb-true n 1 is)
    by false is true at e = let same : Two ≡ v = cc in ap number_of_version (sym same) ∙ sym (eqb-true n 2 at)
    by false is false at e = absurd cc

numbered_again : (v : Version) → version_numbered (number_of_version v) ≡ Some v
numbered_again One = refl
numbered_again Two = refl

-- the byte of a direction, which is a watcher's in version 2 alone
abbrev IsTag : Version → ℕ → Kind → Type 0
IsTag v tag kind = (tag_of kind ≡ tag) × (kind ≡ FromWatcher → v ≡ Two)

tagged : (v : Version) (tag : ℕ) (kind : Kind) → kind_tagged v tag ≡ Some kind → IsTag v tag kind
tagged v tag kind e = by (eqb tag 1) refl (eqb tag 2) refl (eqb tag 3) refl e
  where
    watcher : (v : Version) → eqb tag 3 ≡ true → watcher_in v ≡ Some kind → IsTag v tag kind
    watcher One on e = absurd cc
    watcher Two on e = let same : FromWatcher ≡ kind = cc in (ap tag_of (sym same) ∙ sym (eqb-true tag 3 on), λ is. refl)

    by : (a : Bool) → eqb tag 1 ≡ a → (b : Bool) → eqb tag 2 ≡ b → (d : Bool) → eqb tag 3 ≡ d → cond a (Some ToClient) (cond b (Some ToServer) (cond d (watcher_in v) None)) ≡ Some kind → IsTag v tag kind
    by true is b at d on e = let same : ToClient ≡ kind = cc in (ap tag_of (sym same) ∙ sym (eqb-true tag 1 is), λ other. absurd cc)
    by false is true at d on e = let same : ToServer ≡ kind = cc in (ap tag_of (sym same) ∙ sym (eqb-true tag 2 at), λ other. absurd cc)
    by false is false at true on e = watcher v on e
    by false is false at false on e = absurd cc

tagged_again : (v : Version) (kind : Kind) → (kind ≡ FromWatcher → v ≡ Two) → kind_tagged v (tag_of kind) ≡ Some kind
tagged_again v ToClient is = refl
tagged_again v ToServer is = refl
tagged_again v FromWatcher is = ap watcher_in (is refl)

passes : (h : Header) (rest : ℕ) (v : Version) (kind : Kind) → checked_header h rest ≡ both_ends v kind → Passes h rest v kind
passes h rest v kind e =
    let magic = err_or (not (eqb h.magic 0x524D)) Magic _ v kind e in
    let both = reads h rest (version_numbered h.version) v kind refl magic.1 in
    let length = some_or (is_bad_length h rest) Length _ both.fault in
    let fragment = some_or (is_bad_fragment v h) Fragment _ length.1 in
    let parts = or_parts (eqb h.len 0 || ltb 1200 h.len) (not (eqb h.len rest)) length.0 in
    let within = or_parts (eqb h.len 0) (ltb 1200 h.len) parts.0 in
    let nonzero : h.len ≡ 0 → ⊥ = eqb-false h.len 0 within.0 in
    let high : h.len ≤ 1200 = ltb-false 1200 h.len within.1 in
    let tag = tagged v h.kind kind both.tag in
    record {
      magic = eqb-true _ _ (not-false _ magic.0);
      version = numbered h.version v both.version;
      tag = tag.0;
      watches = tag.1;
      len = eqb-true h.len rest (not-false _ parts.1);
      fragment = (omega arith, high);
      number = grind (arith, nat_tests, fragment.0);
      id = grind (arith, nat_tests, fragment.0);
      count = grind (arith, nat_tests, fragment.0);
      index = grind (arith, nat_tests, fragment.0);
      whole = grind (arith, nat_tests, fragment.0);
    }

no_fault : (h : Header) (rest : ℕ) (v : Version) (kind : Kind) → Passes h rest v kind → fragment_fault v h rest ≡ None
no_fault h rest v kind p = grind (arith, nat_tests)

pass_again : (h : Header) (rest : ℕ) (v : Version) (kind : Kind) → Passes h rest v kind → checked_header h rest ≡ both_ends v kind
pass_again h rest v kind p =
    let is_version : version_numbered h.version ≡ Some v = ap version_numbered (sym p.version) ∙ numbered_again v in
    let is_kind : kind_tagged v h.kind ≡ Some kind = ap (kind_tagged v) (sym p.tag) ∙ tagged_again v kind p.watches in
    rw (p.magic, is_version, is_kind, no_fault h rest v kind p) refl

-- ---- the grammar

-- the bytes read are this text
pub found : (bytes : List ℕ) (v : Version) (kind : Kind) → 42 ≤ length bytes → IsBytes bytes → checked_header (header_at bytes) (length (drop 42 bytes)) ≡ Ok (v, kind)
    → IsDatagram (datagram_with (header_at bytes) (drop 42 bytes) v kind) × (bytes ≡ datagram_text (datagram_with (header_at bytes) (drop 42 bytes) v kind))
found bytes v kind long fits e =
    let h = header_at bytes in
    let p = passes h (length (drop 42 bytes)) v kind e in
    let len = p.len in
    let same : h ≡ header_of (datagram_with h (drop 42 bytes) v kind) = λ i. record h { magic = p.magic i; version = sym p.version i; kind = sym p.tag i; len = p.len i } in (
      record {
        kind = p.watches;
        session = big_from-lt 0 8 (drop 4 bytes) (IsBytes-drop 4 bytes fits);
        client = big_from-lt 0 8 (drop 12 bytes) (IsBytes-drop 12 bytes fits);
        number = p.number;
        id = p.id;
        count = p.count;
        index = p.index;
        len = (omega (arith, p.fragment, len), omega (arith, p.fragment, len));
        whole = λ lt. sym p.len ∙ p.whole lt;
      },
      header_takes bytes long fits ∙ ap (λ (x : Header). header_text x ++ drop 42 bytes) same,
    )

abbrev pub a_datagram : DatagramValue → Result DatagramValue Reason
a_datagram d = Ok d

at_most : (v : Version) → most_fragments v ≤ 4096
at_most One = omega arith
at_most Two = omega arith

-- the numbers of a datagram's text are those of its header
pub header_there : (d : DatagramValue) → IsDatagram d → header_at (datagram_text d) ≡ header_of d
header_there d is =
    let most = at_most d.version in
    header_again (header_of d) d.payload (record {
      magic = lit< tt;
      session = is.session;
      client = is.client;
      number = omega (arith, is.number.1);
      id = omega (arith, is.id.1);
      index = omega (arith, is.index, is.count.1, most);
      count = omega (arith, is.count.1, most);
      len = omega (arith, is.len.1);
    })

-- this text is read
pub again : (d : DatagramValue) → IsDatagram d → datagram_at (datagram_text d) ≡ a_datagram d
again d is =
    let h = header_of d in
    let bytes = datagram_text d in
    let there : header_at bytes ≡ h = header_there d is in
    let p : Passes h (length d.payload) d.version d.kind = record {
      magic = refl;
      version = refl;
      tag = refl;
      watches = is.kind;
      len = refl;
      fragment = is.len;
      number = is.number;
      id = is.id;
      count = is.count;
      index = is.index;
      whole = is.whole;
    } in
    let clean : checked_header (header_at bytes) (length d.payload) ≡ both_ends d.version d.kind =
    ap (λ (x : Header). checked_header x (length d.payload)) there ∙ pass_again h (length d.payload) d.version d.kind p in
    let whole : ltb (length bytes) 42 ≡ false = le-ltb _ _ (omega (arith, length-append (header_text h) d.payload)) in
    rw whole (ap (datagram_if (header_at bytes) d.payload) clean ∙ ap (λ (x : Header). a_datagram (datagram_with x d.payload d.version d.kind)) there)

-- two datagrams with one text are one
pub one_datagram : (d e : DatagramValue) → IsDatagram d → IsDatagram e → datagram_text d ≡ datagram_text e → d ≡ e
one_datagram d e is_d is_e same =
    let both : a_datagram d ≡ a_datagram e = sym (again d is_d) ∙ ap datagram_at same ∙ again e is_e in
    cc

-- ---- the findings of a call

long_at : (bytes : List ℕ) (r : Result Ends Reason) → 42 ≤ length bytes → checked_header (header_at bytes) (length (drop 42 bytes)) ≡ r
    → datagram_at bytes ≡ datagram_if (header_at bytes) (drop 42 bytes) r
long_at bytes r long e =
    let whole : ltb (length bytes) 42 ≡ false = le-ltb _ _ long in
    rw whole (ap (datagram_if (header_at bytes) (drop 42 bytes)) e)

-- bytes without a fault are read
pub is_read : (bytes : List ℕ) (v : Version) (kind : Kind) → 42 ≤ length bytes → checked_header (header_at bytes) (length (drop 42 bytes)) ≡ Ok (v, kind) → IsOk (datagram_at bytes)
is_read bytes v kind long e = ap is_ok (long_at bytes (both_ends v kind) long e)

abbrev a_reason : Reason → Result Ends Reason
a_reason r = Err r

-- bytes with a fault are the text of no datagram
pub refused : (bytes : List ℕ) (r : Reason) → 42 ≤ length bytes → checked_header (header_at bytes) (length (drop 42 bytes)) ≡ Err r
    → (d : DatagramValue) → IsDatagram d → bytes ≡ datagram_text d → ⊥
refused bytes r long e d is text =
    let both : datagram_if (header_at bytes) (drop 42 bytes) (a_reason r) ≡ a_datagram d = sym (long_at bytes (a_reason r) long e) ∙ ap datagram_at text ∙ again d is in
    absurd cc

-- bytes without a fault are the text of one datagram alone
pub read_as : (bytes : List ℕ) (v : Version) (kind : Kind) → 42 ≤ length bytes → checked_header (header_at bytes) (length (drop 42 bytes)) ≡ Ok (v, kind)
    → (d : DatagramValue) → IsDatagram d → bytes ≡ datagram_text d → datagram_with (header_at bytes) (drop 42 bytes) v kind ≡ d
read_as bytes v kind long e d is text =
    let both : datagram_if (header_at bytes) (drop 42 bytes) (both_ends v kind) ≡ a_datagram d = sym (long_at bytes (both_ends v kind) long e) ∙ ap datagram_at text ∙ again d is in
    cc
