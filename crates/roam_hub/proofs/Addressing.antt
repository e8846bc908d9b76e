-- The datagrams to the client instance of a record, and the kept part of it then.
use Rattle.std.proofs.Common.{◌≡◌, ℕ, ◌+◌, ◌≤◌, List, [], ◌∷◌, ◌++◌, length, map, Option, Some, None, Bool, true, false, refl, sym, ap, ◌∙◌, subst, cond, arith, Vec}
use Rattle.std.specs.Prelude.{nat_lt, ◌&&◌, ◌||◌, option_and_then}
use Rattle.std.specs.List.{enumerate_from}
use Rattle.std.specs.declared.alloc.Global.{Global}
use Rattle.std.proofs.lemmas.List.FromFn.{length-enumerate_from}
use Rattle.roam_wire.specs.declared.datagrams.Kind.TheVariants.{ToClient}
use Rattle.roam_wire.specs.Datagrams.{DatagramValue, datagram_text}
use Rattle.std.proofs.lemmas.List.{append_assoc, append-nil, map-append, length-map}
use Rattle.roam_screens.specs.Screenshot.{Screenshot, IsScreenshot}
use Rattle.roam_sync.specs.declared.senders.Held.{Held}
use Rattle.roam_sync.specs.Senders.{Sending, newest, count, offered, sent_at, mark_base}
use Rattle.roam_sync.proofs.Ends.{marked_newest}
use Rattle.roam_update.specs.ChangeText.{Change, change_read}
use Rattle.roam_screens.specs.Narrow.{IsOldScreenshot}
use Rattle.roam_update.specs.Shots.{applied_one, applied_two, if_screenshot, if_old_screenshot, screen_by}
use Rattle.roam_update.specs.Tested.{is_screenshot, is_old_screenshot}
use Rattle.roam_update.specs.TableText.{tabled_read}
use Rattle.roam_update.proofs.Testing.{screenshot_is, old_screenshot_is}
use Rattle.roam_wire.specs.declared.versions.Version.{Version}
use Rattle.roam_wire.specs.declared.versions.Version.TheVariants.{One, Two}
use Rattle.roam_wire.specs.Versions.{most_bytes}
use Rattle.roam_model.specs.Versions.{seen_by, IsSeenBy, difference_by, applied_by}
use Rattle.roam_model.proofs.Versions.{change_short}
use Rattle.roam_wire.specs.Cutting.{texts_of}
use Rattle.roam_wire.specs.Instructions.{DownValue, down_text}
use Rattle.roam_model.specs.Texts.{Address, datagram_with}
use Rattle.roam_model.specs.Ticks.{holds_after}
use Rattle.roam_cells.specs.declared.addresses.Addr.{Addr}
use Rattle.roam_hub.specs.Servers.{RecordView, address_of, parcels_of}
use Rattle.roam_hub.specs.Records.{held_record, fragments_due, is_sent_to, fragments_sent, datagrams_for, parcels_for}

-- ---- texts with an address

abbrev pub addressed : Address → List ℕ → Address × List ℕ
addressed to text = (to, text)

pub push_parcel : (ps ps' : List (Addr × Vec ℕ Global)) (to : Addr) (text : Vec ℕ Global) (rest more : List (Vec ℕ Global))
    (all : List (Address × List ℕ)) → rest ≡ text ∷ more → ps' ≡ ps ++ (to, text) ∷ []
    → parcels_of ps ++ map (addressed (address_of to)) (texts_of rest) ≡ all
    → parcels_of ps' ++ map (addressed (address_of to)) (texts_of more) ≡ all
push_parcel ps ps' to text rest more all e f h =
    ap (λ (xs : List (Addr × Vec ℕ Global)). parcels_of xs ++ map (addressed (address_of to)) (texts_of more)) f
    ∙ ap (λ (xs : List (Address × List ℕ)). xs ++ map (addressed (address_of to)) (texts_of more))
    (map-append (λ (p : Addr × Vec ℕ Global). (address_of p.0, p.1.items)) ps ((to, text) ∷ []))
    ∙ append_assoc (parcels_of ps) ((address_of to, text.items) ∷ []) (map (addressed (address_of to)) (texts_of more))
    ∙ sym (ap (λ (r : List (Vec ℕ Global)). parcels_of ps ++ map (addressed (address_of to)) (texts_of r)) e) ∙ h

pub all_parcels : (ps : List (Addr × Vec ℕ Global)) (to : Address) (rest : List (Vec ℕ Global)) (all : List (Address × List ℕ)) → rest ≡ []
    → parcels_of ps ++ map (addressed to) (texts_of rest) ≡ all → parcels_of ps ≡ all
all_parcels ps to rest all e h =
    sym (append-nil (parcels_of ps))
    ∙ sym (ap (λ (r : List (Vec ℕ Global)). parcels_of ps ++ map (addressed to) (texts_of r)) e) ∙ h

-- ---- an instruction

applied_two_is : (base s : Screenshot) (text : List ℕ) → applied_two base text ≡ Some s → IsScreenshot s
applied_two_is base s text e = go (tabled_read text) e
  where
    shown : (t : Screenshot) (b : Bool) → is_screenshot t ≡ b → cond b (Some t) None ≡ Some s → IsScreenshot s
    shown t true f g = let z : t ≡ s = cc in subst IsScreenshot z (screenshot_is t f)
    shown t false f g = absurd (cc)

    go : (o : Option Change) → option_and_then (λ x. if_screenshot (screen_by base x)) o ≡ Some s → IsScreenshot s
    go None f = absurd (cc)
    go (Some x) f = shown (screen_by base x) (is_screenshot (screen_by base x)) refl f

applied_one_is : (base s : Screenshot) (text : List ℕ) → applied_one base text ≡ Some s → IsOldScreenshot s
applied_one_is base s text e = go (change_read text) e
  where
    shown : (t : Screenshot) (b : Bool) → is_old_screenshot t ≡ b → cond b (Some t) None ≡ Some s → IsOldScreenshot s
    shown t true f g = let z : t ≡ s = cc in subst IsOldScreenshot z (old_screenshot_is t f)
    shown t false f g = absurd (cc)

    go : (o : Option Change) → option_and_then (λ x. if_old_screenshot (screen_by base x)) o ≡ Some s → IsOldScreenshot s
    go None f = absurd (cc)
    go (Some x) f = shown (screen_by base x) (is_old_screenshot (screen_by base x)) refl f

-- a diff leads to a screen of its version
applied_screen : (v : Version) (base s : Screenshot) (text : List ℕ) → applied_by v base text ≡ Some s → IsSeenBy v s
applied_screen One base s text e = applied_one_is base s text e
applied_screen Two base s text e = applied_two_is base s text e

down_length : (d : DownValue) → length (down_text d) ≡ 32 + length d.change
down_length d = omega arith

-- an instruction that leads to a screen is short enough to be cut
pub down_short : (v : Version) (d : DownValue) (base s : Screenshot) → d.change ≡ difference_by v base s
    → applied_by v base d.change ≡ Some s → length (down_text d) ≤ most_bytes v
down_short v d base s e leads =
    let long = down_length d in
    let few = change_short v base s (applied_screen v base s d.change leads) in
    let same = ap (λ (xs : List ℕ). length xs) e in
    omega (arith, long, few, same)

pub last_fits : (a b : Bool) → b ≡ false → (a || b) ≡ a
last_fits true b e = refl
last_fits false b e = e

-- ---- a sender

pub newest_sent : (s : Sending Screenshot) (now : ℕ) → (newest (sent_at s now)).number ≡ (newest s).number
newest_sent s now = marked_newest s.base s.later

base_marked : (base : Held Screenshot) (hs : List (Held Screenshot)) → (mark_base base hs).number ≡ base.number
base_marked base [] = refl
base_marked base (h ∷ hs) = refl

pub base_sent : (s : Sending Screenshot) (now : ℕ) → (sent_at s now).base.number ≡ s.base.number
base_sent s now = base_marked s.base s.later

pub not_held : (v : RecordView) (n : ℕ) (s : Screenshot) (now : ℕ) (b : Bool)
    → b ≡ (nat_lt now (v.heard_at + 60000) && nat_lt (newest v.sender).number n && nat_lt (count v.sender) 8) → b ≡ false
    → v ≡ held_record v n s now
unfolding holds_after
not_held v n s now b e f = sym (λ i. record v { sender = cond ((sym e ∙ f) i) (offered v.sender n (seen_by v.version s)) v.sender })

pub held_now : (v : RecordView) (n : ℕ) (s : Screenshot) (now : ℕ) (b : Bool) (version : Version) (sender : Sending Screenshot)
    → version ≡ v.version
    → b ≡ (nat_lt now (v.heard_at + 60000) && nat_lt (newest v.sender).number n && nat_lt (count v.sender) 8) → b ≡ true
    → sender ≡ offered v.sender n (seen_by v.version s) → record v { version = version; sender = sender } ≡ held_record v n s now
unfolding holds_after
held_now v n s now b version sender same e f g =
    (λ i. record v { version = same i; sender = g i })
    ∙ sym (λ i. record v { sender = cond ((sym e ∙ f) i) (offered v.sender n (seen_by v.version s)) v.sender })

-- ---- the datagrams to an instance

as_many : (session client : ℕ) (v : RecordView) (texts : List (Vec ℕ Global))
    → texts_of texts ≡ map datagram_text (datagrams_for session (client, v)) → length texts ≡ length (fragments_due v)
as_many session client v texts e =
    sym (length-map texts (λ (x : Vec ℕ Global). x.items)) ∙ ap (λ (xs : List (List ℕ)). length xs) e
    ∙ length-map (datagrams_for session (client, v)) datagram_text
    ∙ length-map (enumerate_from 0 (fragments_due v))
    (datagram_with v.version ToClient session client v.datagrams (v.instructions + 1) (length (fragments_due v)))
    ∙ length-enumerate_from 0 (fragments_due v)

pub sent_fragments : (session client : ℕ) (v : RecordView) (now k : ℕ) (texts : List (Vec ℕ Global))
    → texts_of texts ≡ map datagram_text (datagrams_for session (client, v)) → k ≡ length texts → is_sent_to v now ≡ true
    → Some k ≡ fragments_sent v now
sent_fragments session client v now k texts e len told =
    ap Some (len ∙ as_many session client v texts e) ∙ sym (ap (λ b. cond b (Some (length (fragments_due v))) None) told)

map_text : (to : Address) (ds : List DatagramValue) → map (addressed to) (map datagram_text ds) ≡ map (λ d. (to, datagram_text d)) ds
map_text to [] = refl
map_text to (d ∷ ds) = ap (λ (xs : List (Address × List ℕ)). (to, datagram_text d) ∷ xs) (map_text to ds)

pub sent_parcels : (session client : ℕ) (v : RecordView) (now : ℕ) (texts : List (Vec ℕ Global)) (before after : List (Address × List ℕ))
    → texts_of texts ≡ map datagram_text (datagrams_for session (client, v)) → is_sent_to v now ≡ true
    → after ≡ before ++ map (addressed v.address) (texts_of texts) → after ≡ before ++ parcels_for session now (client, v)
sent_parcels session client v now texts before after e told more =
    more ∙ ap (λ (xs : List (List ℕ)). before ++ map (addressed v.address) xs) e
    ∙ ap (λ (xs : List (Address × List ℕ)). before ++ xs) (map_text v.address (datagrams_for session (client, v)))
    ∙ sym (ap (λ b. before ++ cond b (map (λ d. (v.address, datagram_text d)) (datagrams_for session (client, v))) []) told)
