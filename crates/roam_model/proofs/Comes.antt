-- The kind of a sent datagram at either end.
use Rattle.std.proofs.Common.{◌≡◌, ℕ, max, List, length, Option, Some, None, Bool, true, false, refl, sym, ◌∙◌, subst, arith, cond}
use Rattle.std.specs.Prelude.{nat_eq, nat_le, not, ◌&&◌}
use Rattle.std.proofs.lemmas.Bool.Decides.{nat_tests}
use Rattle.roam_cells.specs.declared.faults.Fault.TheVariants.{BadChange, BadDatagram, OtherSession, OtherClient, ClientsFull}
use Rattle.roam_cells.specs.declared.faults.Reason.TheVariants as reason
use Rattle.roam_wire.specs.Gatherers.{FragmentValue, Gathering, Answer, Part, Old, Whole, gather, fragment_of}
use Rattle.roam_wire.specs.AnyOrder.{IsFragmentOf, GathersOf, GathersWell}
use Rattle.roam_wire.specs.Instructions.{DownValue, IsDown, down_text, UpValue, IsUp, up_text}
use Rattle.roam_wire.proofs.Arrive.{well}
use Rattle.roam_wire.proofs.Texts.{one_down, one_up}
use Rattle.roam_model.specs.Lists.{IsIn}
use Rattle.roam_model.specs.Texts.{SaysDown, SaysUp, is_to_server, is_watching}
use Rattle.roam_model.specs.Versions.{is_same_version}
use Rattle.roam_model.specs.Servers.{Record, Server}
use Rattle.roam_model.specs.ServerArrivals.{coming, coming_gathered, most_of, alike, is_same, is_full_for, is_of_other, is_else}
use Rattle.roam_model.specs.Arrival.{Arrival, turned_away, noted, completed}
use Rattle.roam_model.specs.Clients.{Client}
use Rattle.roam_model.specs.ClientArrivals.{Hearing, IsGap, arriving, arriving_gathered}
use Rattle.roam_model.specs.Holds.{cuts_of, Gathers, IsFragment}
use Rattle.roam_model.proofs.Fragments.{IsTextOf, fragment_low, whole_is}
use Rattle.roam_wire.specs.Datagrams.{DatagramValue}

-- ---- a text says one instruction

-- a text that one of these has is the text of that one
pub says_down : (vs : List DownValue) (text : List ℕ) (d v : DownValue) → ((v : DownValue) → IsIn v vs → IsDown v)
    → IsIn v vs → text ≡ down_text v → SaysDown text d → v ≡ d
says_down vs text d v are i e says = one_down v d (are v i) says.is (sym e ∙ says.spelled)

pub says_up : (us : List UpValue) (text : List ℕ) (u v : UpValue) (watches : Bool) → ((v : UpValue) → IsIn v us → IsUp v)
    → IsIn v us → text ≡ up_text v → SaysUp watches text u → v ≡ u
says_up us text u v watches are i e says = one_up v u (are v i) says.is.is (sym e ∙ says.spelled)

-- ---- at the server: the gathered fragments are of the client's instructions, and a whole text is that of one

abbrev pub ComesWell : List UpValue → Arrival (Unit {0}) → Type 0
ComesWell us (turned_away fault) = Unit {0}
ComesWell us (noted tt g) = Gathers up_text us g
ComesWell us (completed g text) = Gathers up_text us g × IsTextOf up_text us text

gathers_then : {V : Type 0} (text_of : V → List ℕ) (vs : List V) (g h : Gathering) (p : FragmentValue) → IsFragmentOf (cuts_of text_of vs) p
    → Gathers text_of vs g
    → GathersOf (cuts_of text_of vs) h → h.id ≡ max g.id p.id → Gathers text_of vs h
gathers_then text_of vs g h p is old of at = record
    { of = of; low = let low = old.low in let le = fragment_low text_of vs p is in omega (arith, low, le, at) }

came_well : (us : List UpValue) (g : Gathering) (p : FragmentValue) (x : Option (Answer × Gathering)) → IsFragmentOf (cuts_of up_text us) p
    → Gathers up_text us g
    → GathersWell (cuts_of up_text us) g p x → ComesWell us (coming_gathered x)
came_well us g p None is of w = absurd w
came_well us g p (Some (Part, h)) is of w = gathers_then up_text us g h p is of w.0 w.1
came_well us g p (Some (Old, h)) is of w = gathers_then up_text us g h p is of w.0 w.1
came_well us g p (Some (Whole text, h)) is of w = (gathers_then up_text us g h p is of w.0 w.1, whole_is up_text us p text is w.2)

pub coming_well : (s : Server) (r : Record) (c : Client) (d : DatagramValue) → s.records d.client ≡ r → IsFragment (is_to_server d.kind) d r c
    → Gathers up_text c.instructions r.gathering → ComesWell c.instructions (coming s d)
coming_well s r c d same is of =
    subst (λ (q : Record). ComesWell c.instructions
    (cond (not (is_to_server d.kind)) (turned_away (BadDatagram reason.Kind))
    (cond (not (nat_eq d.session s.session)) (turned_away OtherSession)
    (cond (not q.known && nat_le (most_of (is_watching d.kind)) (length (alike s (is_watching d.kind)))) (turned_away ClientsFull)
    (cond (q.known && not (is_same_version q.version d.version)) (turned_away (BadDatagram reason.Version))
    (cond (q.known && not (is_same q.watches (is_watching d.kind))) (turned_away (BadDatagram reason.Kind))
    (coming_gathered (gather q.gathering (fragment_of d)))))))))
    (sym same) (one (is_to_server d.kind) is (not (nat_eq d.session s.session)) (not r.known && nat_le (most_of (is_watching d.kind)) (length (alike s (is_watching d.kind))))
    (r.known && not (is_same_version r.version d.version)) (r.known && not (is_same r.watches (is_watching d.kind))))
  where
    one : (to : Bool) → IsFragment to d r c → (a b e f : Bool)
        → ComesWell c.instructions (cond (not to) (turned_away (BadDatagram reason.Kind))
        (cond a (turned_away OtherSession) (cond b (turned_away ClientsFull) (cond e (turned_away (BadDatagram reason.Version))
        (cond f (turned_away (BadDatagram reason.Kind)) (coming_gathered (gather r.gathering (fragment_of d))))))))
    one false i a b e f = tt
    one true i true b e f = tt
    one true i false true e f = tt
    one true i false false true f = tt
    one true i false false false true = tt
    one true i false false false false = came_well c.instructions r.gathering (fragment_of d) (gather r.gathering (fragment_of d)) i of
        (well (cuts_of up_text c.instructions) r.gathering (fragment_of d) of.of i)

-- a datagram that isn't turned away goes to the server
abbrev pub IsTo : Bool → Arrival (Unit {0}) → Type 0
IsTo to (turned_away fault) = Unit {0}
IsTo to (noted tt g) = to ≡ true
IsTo to (completed g text) = to ≡ true

pub to_server : (s : Server) (d : DatagramValue) → IsTo (is_to_server d.kind) (coming s d)
to_server s d = go (is_to_server d.kind) (not (nat_eq d.session s.session)) (is_full_for s d) (is_of_other s d) (is_else s d)
    (coming_gathered (gather (s.records d.client).gathering (fragment_of d)))
  where
    there : (x : Arrival (Unit {0})) → IsTo true x
    there (turned_away fault) = tt
    there (noted tt g) = refl
    there (completed g text) = refl

    go : (to a b e f : Bool) (x : Arrival (Unit {0})) → IsTo to (cond (not to) (turned_away (BadDatagram reason.Kind))
        (cond a (turned_away OtherSession) (cond b (turned_away ClientsFull) (cond e (turned_away (BadDatagram reason.Version))
        (cond f (turned_away (BadDatagram reason.Kind)) x)))))
    go false a b e f x = tt
    go true true b e f x = tt
    go true false true e f x = tt
    go true false false true f x = tt
    go true false false false true x = tt
    go true false false false false x = there x

-- ---- at a client instance: the gathered fragments are of the record's instructions, and a whole text is that of one

abbrev pub ArrivesWell : List DownValue → Arrival Hearing → Type 0
ArrivesWell vs (turned_away fault) = fault ≡ BadChange → ⊥
ArrivesWell vs (noted h g) = (h ≡ IsGap → ⊥) × Gathers down_text vs g
ArrivesWell vs (completed g text) = Gathers down_text vs g × IsTextOf down_text vs text

arrived_well : (vs : List DownValue) (g : Gathering) (p : FragmentValue) (x : Option (Answer × Gathering)) → IsFragmentOf (cuts_of down_text vs) p
    → Gathers down_text vs g
    → GathersWell (cuts_of down_text vs) g p x → ArrivesWell vs (arriving_gathered x)
arrived_well vs g p None is of w = absurd w
arrived_well vs g p (Some (Part, h)) is of w = ((λ z. cc), gathers_then down_text vs g h p is of w.0 w.1)
arrived_well vs g p (Some (Old, h)) is of w = ((λ z. cc), gathers_then down_text vs g h p is of w.0 w.1)
arrived_well vs g p (Some (Whole text, h)) is of w = (gathers_then down_text vs g h p is of w.0 w.1, whole_is down_text vs p text is w.2)

pub arriving_well : (session id : ℕ) (r : Record) (c : Client) (d : DatagramValue) → (d.client ≡ id → IsFragment (is_to_server d.kind) d r c)
    → Gathers down_text r.instructions c.kept.gathering → ArrivesWell r.instructions (arriving session id c.kept d)
arriving_well session id r c d is of = one (is_to_server d.kind) is (not (nat_eq d.session session)) (nat_eq d.client id) refl
    (not (is_same_version c.kept.version d.version))
  where
    two : IsFragmentOf (cuts_of down_text r.instructions) (fragment_of d)
        → ArrivesWell r.instructions (arriving_gathered (gather c.kept.gathering (fragment_of d)))
    two i = arrived_well r.instructions c.kept.gathering (fragment_of d) (gather c.kept.gathering (fragment_of d)) i of
        (well (cuts_of down_text r.instructions) c.kept.gathering (fragment_of d) of.of i)

    one : (to : Bool) → (d.client ≡ id → IsFragment to d r c) → (a b : Bool) → nat_eq d.client id ≡ b → (o : Bool)
        → ArrivesWell r.instructions (cond to (turned_away (BadDatagram reason.Kind))
        (cond a (turned_away OtherSession) (cond (not b) (turned_away OtherClient) (cond o (turned_away (BadDatagram reason.Version))
        (arriving_gathered (gather c.kept.gathering (fragment_of d)))))))
    one true i a b e o = λ z. cc
    one false i true b e o = λ z. cc
    one false i false false e o = λ z. cc
    one false i false true e true = λ z. cc
    one false i false true e false = two (i (same e))
      where
        same : nat_eq d.client id ≡ true → d.client ≡ id
        same f = grind (arith, nat_tests)
