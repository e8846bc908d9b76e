-- Each event has a reply that doesn't report want of memory.
use Rattle.std.proofs.Common.{◌≡◌, ◌⊎◌, ℕ, zero, suc, ◌+◌, ◌-◌, ◌<◌, ◌≤◌, ◌^◌, List, [], length, take, drop, Option, Some, None, Bool, true, false, refl, sym, ap, ◌∙◌, subst, inl, inr, arith, cond}
use Rattle.std.specs.Prelude.{nat_lt, nat_le, nat_eq, is_none, not, ◌&&◌}
use Rattle.roam_cells.specs.declared.faults.Fault.{Fault}
use Rattle.roam_cells.specs.declared.faults.Fault.TheVariants.{OutOfMemory, NoPane, Busy, TooLong, BadDatagram, OtherSession, OtherClient, ClientsFull, Spent, Watching}
use Rattle.roam_cells.specs.declared.faults.Reason.TheVariants as reason
use Rattle.roam_screens.specs.Screenshot.{Screenshot}
use Rattle.roam_acts.specs.declared.acts.Act.{Act}
use Rattle.roam_acts.specs.Senders.{last_number, IsStretch}
use Rattle.roam_sync.specs.declared.receivers.Step.{Step}
use Rattle.roam_sync.specs.declared.receivers.Step.TheVariants as step
use Rattle.roam_sync.specs.Receivers.{Receiving, pairs, state_at, from_floor}
use Rattle.roam_sync.specs.Links.{Delivers}
use Rattle.roam_sync.specs.TrueLinks.{LeadsTruly}
use Rattle.roam_sync.proofs.TrueStates.{found_true}
use Rattle.roam_wire.specs.Gatherers.{Gathering, Answer, Part, Old, Whole, gather, fragment_of}
use Rattle.roam_wire.specs.Instructions.{DownValue, UpValue}
use Rattle.roam_session.specs.Sessions.{Given, Drained}
use Rattle.roam_session.specs.Refusals.{refuses_bytes, output_at, bytes_refused}
use Rattle.roam_model.specs.Versions.{is_same_version, applied_by}
use Rattle.roam_model.specs.Lists.{IsIn}
use Rattle.roam_model.specs.Numbers.{IsScreenOf}
use Rattle.roam_model.specs.Texts.{Address, SaysUp, update_in, is_to_server, is_watching}
use Rattle.roam_model.specs.Servers.{Server, moment, after_input}
use Rattle.roam_model.specs.ServerArrivals.{coming, coming_gathered, after_note, new_acts, after_acts, room_for, is_full_for, is_of_other, is_else}
use Rattle.roam_model.specs.Arrival.{Arrival, turned_away, noted, completed}
use Rattle.roam_model.specs.Ticks.{sent_by, is_tick_spent}
use Rattle.roam_model.specs.Clients.{Kept, moment_of, after_act}
use Rattle.roam_model.specs.ClientArrivals.{Hearing, arriving, arriving_gathered, after_fragment, step_of, hearing_of, after_whole}
use Rattle.roam_model.specs.Sendings.{is_client_due, is_client_spent, datagrams_from, after_quiet}
use Rattle.roam_model.specs.Worlds.{World, PaneBytes, Typed, ServerTick, ClientTick, ToServer, ToClient, Start, Drain, Done, Sent, Taken, Heard, Refused, Failed, Stopped, datagram_at, with_server, with_client, with_kept, after_server_tick, after_client_sent, after_start}
use Rattle.roam_model.specs.Steps.{refused, taken, no_pane, too_many, gone, empty_slot, full, spent, typed, ticked, quiet, sent, not_sent, fragment, all_taken, no_room, whole, used, started, watching, unfit, is_unfit}
use Rattle.roam_model.specs.Laws.{IsAmple, IsAnswered, HasReply}
use Rattle.roam_model.specs.Holds.{Holds}
use Rattle.roam_model.proofs.Screens.{one_screen}
use Rattle.roam_model.proofs.Comes.{ComesWell, ArrivesWell, IsTo, to_server}
use Rattle.roam_model.proofs.Runs.{comes, arrives, reach_low, was_sent}
use Rattle.roam_wire.specs.declared.versions.Version.{Version}
use Rattle.roam_wire.specs.Datagrams.{DatagramValue}

-- ---- replies that don't report want of memory

done_ample : IsAmple Done
done_ample = record { whole = (λ e. cc); part = (λ n e. cc) }

refused_ample : IsAmple Refused
refused_ample = record { whole = (λ e. cc); part = (λ n e. cc) }

sent_ample : (first count : ℕ) → IsAmple (Sent first count)
sent_ample first count = record { whole = (λ e. cc); part = (λ n e. cc) }

taken_ample : (count : ℕ) → IsAmple (Taken count)
taken_ample count = record { whole = (λ e. cc); part = (λ n e. cc) }

heard_ample : (h : Hearing) → IsAmple (Heard h)
heard_ample h = record { whole = (λ e. cc); part = (λ n e. cc) }

failed_ample : (f : Fault) → (f ≡ OutOfMemory → ⊥) → IsAmple (Failed f)
failed_ample f other = record { whole = (λ e. other (cc)); part = (λ n e. cc) }

stopped_ample : (f : Fault) (n : ℕ) → (f ≡ OutOfMemory → ⊥) → IsAmple (Stopped f n)
stopped_ample f n other = record { whole = (λ e. cc); part = (λ m e. other (cc)) }

-- ---- refusals that aren't for want of memory

pane_other : (bytes : List ℕ) (o : Option (List ℕ)) (f : Fault) → bytes_refused bytes o ≡ Some f → f ≡ OutOfMemory → ⊥
pane_other bytes None f e g = let z : Some NoPane ≡ Some OutOfMemory = e ∙ ap Some g in cc
pane_other bytes (Some waiting) f e g = go (nat_lt 1024 (length bytes))
    (nat_lt 65536 (length waiting + Rattle.std.specs.Prelude.◌*◌ 12 (length bytes))) e
  where
    go : (a b : Bool) → cond a (Some TooLong) (cond b (Some Busy) None) ≡ Some f → ⊥
    go true b e = let z : Some TooLong ≡ Some OutOfMemory = e ∙ ap Some g in cc
    go false true e = let z : Some Busy ≡ Some OutOfMemory = e ∙ ap Some g in cc
    go false false e = cc

-- a datagram that is turned away isn't so for want of memory
IsOther : Arrival (Unit {0}) → Type 0
IsOther (turned_away f) = f ≡ OutOfMemory → ⊥
IsOther (noted tt g) = Unit {0}
IsOther (completed g text) = Unit {0}

gathered_other : (x : Option (Answer × Gathering)) → IsOther (coming_gathered x)
unfolding IsOther
gathered_other None = λ e. cc
gathered_other (Some (Part, g)) = tt
gathered_other (Some (Old, g)) = tt
gathered_other (Some (Whole text, g)) = tt

coming_other : (s : Server) (d : DatagramValue) → IsOther (coming s d)
unfolding IsOther
coming_other s d =
    go (coming_gathered (gather (s.records d.client).gathering (fragment_of d))) (not (is_to_server d.kind))
    (not (nat_eq d.session s.session)) (is_full_for s d) (is_of_other s d) (is_else s d)
    (gathered_other (gather (s.records d.client).gathering (fragment_of d)))
  where
    go : (x : Arrival (Unit {0})) (a b c o q : Bool) → IsOther x → IsOther
        (cond a (turned_away (BadDatagram reason.Kind)) (cond b (turned_away OtherSession) (cond c (turned_away ClientsFull)
        (cond o (turned_away (BadDatagram reason.Version)) (cond q (turned_away (BadDatagram reason.Kind)) x)))))
    go x true b c o q i = λ e. cc
    go x false true c o q i = λ e. cc
    go x false false true o q i = λ e. cc
    go x false false false true q i = λ e. cc
    go x false false false false true i = λ e. cc
    go x false false false false false i = i

away_other : (s : Server) (d : DatagramValue) (f : Fault) → coming s d ≡ turned_away f → f ≡ OutOfMemory → ⊥
unfolding IsOther
away_other s d f e = subst IsOther e (coming_other s d)

IsElse : Arrival Hearing → Type 0
IsElse (turned_away f) = f ≡ OutOfMemory → ⊥
IsElse (noted h g) = Unit {0}
IsElse (completed g text) = Unit {0}

gathered_else : (x : Option (Answer × Gathering)) → IsElse (arriving_gathered x)
unfolding IsElse
gathered_else None = λ e. cc
gathered_else (Some (Part, g)) = tt
gathered_else (Some (Old, g)) = tt
gathered_else (Some (Whole text, g)) = tt

arriving_else : (session id : ℕ) (c : Kept) (d : DatagramValue) → IsElse (arriving session id c d)
unfolding IsElse
arriving_else session id c d =
    go (arriving_gathered (gather c.gathering (fragment_of d))) (is_to_server d.kind) (not (nat_eq d.session session))
    (not (nat_eq d.client id)) (not (is_same_version c.version d.version)) (gathered_else (gather c.gathering (fragment_of d)))
  where
    go : (x : Arrival Hearing) (a b c o : Bool) → IsElse x
        → IsElse (cond a (turned_away (BadDatagram reason.Kind)) (cond b (turned_away OtherSession) (cond c (turned_away OtherClient)
        (cond o (turned_away (BadDatagram reason.Version)) x))))
    go x true b c o i = λ e. cc
    go x false true c o i = λ e. cc
    go x false false true o i = λ e. cc
    go x false false false true i = λ e. cc
    go x false false false false i = i

back_other : (session id : ℕ) (c : Kept) (d : DatagramValue) (f : Fault) → arriving session id c d ≡ turned_away f → f ≡ OutOfMemory → ⊥
unfolding IsElse
back_other session id c d f e = subst IsElse e (arriving_else session id c d)

-- ---- inputs, typing, ticks, instances

pane_reply : (w : World) (pane : ℕ) (bytes : List ℕ) (o : Option Fault) → refuses_bytes w.server.size w.server.log pane bytes ≡ o
    → IsAnswered w (PaneBytes pane bytes)
pane_reply w pane bytes (Some f) e =
    record {
      reply = Failed f;
      left = w;
      step = refused f e refl refl;
      ample =
          failed_ample f (pane_other bytes (output_at w.server.size w.server.log pane) f e);
    }
pane_reply w pane bytes None e =
    record { reply = Done; left = with_server w (after_input w.server (Given pane bytes)); step = taken e refl refl; ample = done_ample }

drain_reply : (w : World) (pane n : ℕ) (o : Option (List ℕ)) → output_at w.server.size w.server.log pane ≡ o → IsAnswered w (Drain pane n)
drain_reply w pane n None e = record { reply = Failed NoPane; left = w; step = no_pane e refl refl; ample = failed_ample NoPane (λ f. cc) }
drain_reply w pane n (Some output) e =
    elim (cases (length output) n) [
      | inl lt ↦ record { reply = Refused; left = w; step = too_many output e lt refl refl; ample = refused_ample }
      | inr le ↦ record {
        reply = Done;
        left = with_server w (after_input w.server (Drained pane n));
        step =
            gone output e le refl refl;
        ample = done_ample;
      }
    ]
  where
    cases : (a b : ℕ) → (a < b) ⊎ (b ≤ a)
    cases a b = grind arith

equal_or : (a b : ℕ) → (a ≡ b) ⊎ (a ≡ b → ⊥)
equal_or a b = grind arith

edited_reply : (w : World) (slot : ℕ) (act : Act) (id : ℕ) → w.slots slot ≡ Some id → (w.clients id).kept.watches ≡ false
    → IsAnswered w (Typed slot act)
edited_reply w slot act id e q =
    elim (equal_or (length (w.clients id).kept.acts.acts) 1024) [
      | inl f ↦ record { reply = Failed Busy; left = w; step = full id e q f refl refl; ample = failed_ample Busy (λ g. cc) }
      | inr f ↦ elim (spent_or (length (w.clients id).kept.acts.acts) (last_number (w.clients id).kept.acts)) [
        | inl g ↦ record { reply = Failed Spent; left = w; step = spent id e q g refl refl; ample = failed_ample Spent (λ z. cc) }
        | inr g ↦ record {
          reply = Done;
          left = with_client w id (after_act (w.clients id) act);
          step =
              typed id e q f g refl refl;
          ample = done_ample;
        }
      ]
    ]
  where
    spent_or : (a b : ℕ) → ((a < 1024) × (b + 1 ≡ 2 ^ 62)) ⊎ (((a < 1024) × (b + 1 ≡ 2 ^ 62)) → ⊥)
    spent_or a b =
        elim (equal_or (b + 1) (2 ^ 62)) [
          | inl e ↦ elim (below a) [ inl lt ↦ inl (lt, e) | inr ge ↦ inr (λ p. ge p.0) ]
          | inr e ↦ inr (λ p. e p.1)
        ]
      where
        below : (a : ℕ) → (a < 1024) ⊎ (a < 1024 → ⊥)
        below a = grind arith

typed_reply : (w : World) (slot : ℕ) (act : Act) (o : Option ℕ) → w.slots slot ≡ o → IsAnswered w (Typed slot act)
typed_reply w slot act None e = record { reply = Refused; left = w; step = empty_slot e refl refl; ample = refused_ample }
typed_reply w slot act (Some id) e = go (w.clients id).kept.watches refl
  where
    go : (b : Bool) → (w.clients id).kept.watches ≡ b → IsAnswered w (Typed slot act)
    go true q = record { reply = Failed Watching; left = w; step = watching id e q refl refl; ample = failed_ample Watching (λ z. cc) }
    go false q = edited_reply w slot act id e q

server_tick_reply : (w : World) (now : ℕ) (b : Bool) → is_tick_spent w.server (moment w.server now) ≡ b → IsAnswered w (ServerTick now)
server_tick_reply w now true e = record
    { reply = Failed Spent; left = w; step = spent e refl refl; ample = failed_ample Spent (λ z. cc) }
server_tick_reply w now false e =
    record {
      reply = Sent (length w.sent + 1) (length (sent_by w.server (moment w.server now)));
      left = after_server_tick w (moment w.server now);
      step = ticked e refl refl;
      ample = sent_ample (length w.sent + 1) (length (sent_by w.server (moment w.server now)));
    }

client_tick_reply : (w : World) (slot now : ℕ) (o : Option ℕ) → w.slots slot ≡ o → IsAnswered w (ClientTick slot now)
client_tick_reply w slot now None e = record { reply = Refused; left = w; step = empty_slot e refl refl; ample = refused_ample }
client_tick_reply w slot now (Some id) e = go (is_client_due (w.clients id).kept (moment_of (w.clients id).kept now)) refl
    (is_client_spent (w.clients id).kept) refl
  where
    go : (a : Bool) → is_client_due (w.clients id).kept (moment_of (w.clients id).kept now) ≡ a
        → (b : Bool) → is_client_spent (w.clients id).kept ≡ b
        → IsAnswered w (ClientTick slot now)
    go false x b y = record {
      reply = Sent (length w.sent + 1) 0;
      left = with_kept w id (after_quiet (w.clients id).kept (moment_of (w.clients id).kept now));
      step = quiet id e x refl refl;
      ample = sent_ample (length w.sent + 1) 0;
    }
    go true x true y = record { reply = Failed Spent; left = w; step = spent id e x y refl refl; ample = failed_ample Spent (λ z. cc) }
    go true x false y = record {
      reply = Sent (length w.sent + 1) (length (datagrams_from w.server.session id (w.clients id).kept));
      left = after_client_sent w id (moment_of (w.clients id).kept now);
      step = sent id e x y refl refl;
      ample = sent_ample (length w.sent + 1) (length (datagrams_from w.server.session id (w.clients id).kept));
    }

start_reply : (w : World) (slot id : ℕ) (v : Version) (watches b c : Bool) → (w.clients id).made ≡ b → is_unfit v watches ≡ c
    → IsAnswered w (Start slot id v watches)
start_reply w slot id v watches true c e f = record { reply = Refused; left = w; step = used e refl refl; ample = refused_ample }
start_reply w slot id v watches false true e f = record { reply = Refused; left = w; step = unfit f refl refl; ample = refused_ample }
start_reply w slot id v watches false false e f =
    record { reply = Done; left = after_start w slot id v watches; step = started e f refl refl; ample = done_ample }

-- nothing is a stretch of nothing but nothing
no_acts : (all acts : List Act) (first : ℕ) → all ≡ [] → IsStretch all first acts → acts ≡ []
no_acts all acts first none s = s.is ∙ ap (λ (xs : List Act). take s.count (drop (first - 1) xs)) none
    ∙ ap (take s.count) (drop_none (first - 1)) ∙ take_none s.count
  where
    drop_none : (n : ℕ) → drop {A = Act} n [] ≡ []
    drop_none zero = refl
    drop_none (suc n) = refl

    take_none : (n : ℕ) → take {A = Act} n [] ≡ []
    take_none zero = refl
    take_none (suc n) = refl

-- ---- a datagram to the server

server_reply : (w : World) (k : ℕ) (from : Address) (now : ℕ) → Holds w → (o : Option DatagramValue) → datagram_at w.sent k ≡ o
    → IsAnswered w (ToServer k from now)
server_reply w k from now h None e = record { reply = Refused; left = w; step = not_sent e refl refl; ample = refused_ample }
server_reply w k from now h (Some d) e = go (coming w.server d) refl (comes w k d e h)
  where
    room : (g : Gathering) (text : List ℕ) (u : UpValue) → coming w.server d ≡ completed g text → SaysUp (is_watching d.kind) text u
        → IsAnswered w (ToServer k from now)
    room g text u f says =
        elim (cases (room_for w.server d u) (length (new_acts w.server d u))
        (reach_low w.server.size w.server.log d.client (new_acts w.server d u))) [
          | inl lt ↦ record {
            reply = Stopped Busy (room_for w.server d u);
            left = with_server w (after_acts w.server d from (moment w.server now) (w.server.records d.client).gathering u
                (room_for w.server d u));
            step = no_room d g text u e f says lt refl refl;
            ample = stopped_ample Busy (room_for w.server d u) (λ z. cc);
          }
          | inr all ↦ record {
            reply = Taken (length (new_acts w.server d u));
            left = with_server w (after_acts w.server d from (moment w.server now) g u (length (new_acts w.server d u)));
            step = all_taken d g text u e f says all refl refl;
            ample = taken_ample (length (new_acts w.server d u));
          }
        ]
      where
        cases : (a b : ℕ) → a ≤ b → (a < b) ⊎ (a ≡ b)
        cases a b le = grind arith

    go : (c : Arrival (Unit {0})) → coming w.server d ≡ c → ComesWell (w.clients d.client).instructions (coming w.server d)
        → IsAnswered w (ToServer k from now)
    go (turned_away f) x well = record {
      reply = Stopped f 0;
      left = w;
      step = refused d f e x refl refl;
      ample =
          stopped_ample f 0 (away_other w.server d f x);
    }
    go (noted tt g) x well = record {
      reply = Taken 0;
      left = with_server w (after_note w.server d from (moment w.server now) g);
      step =
          fragment d g e x refl refl;
      ample = taken_ample 0;
    }
    go (completed g text) x well =
        let of = (subst (ComesWell (w.clients d.client).instructions) x well).1 in
        let goes = subst (IsTo (is_to_server d.kind)) x (to_server w.server d) in
        let b = h.bears d (was_sent w k d e) in
        room g text of.value x (record {
          is = record {
            is = (h.links d.client).ups of.value of.there;
            none = (λ z. no_acts (w.clients d.client).typed of.value.acts of.value.first
                (h.watchers d.client (sym (b.watches goes) ∙ z)).0 ((h.links d.client).acts.told of.value of.there));
          };
          spelled = of.is;
        })

-- ---- a datagram to a client instance

-- an update that was sent is heard
heard_by : (w : World) (id : ℕ) (v : DownValue) → IsIn v (w.server.records id).instructions → Holds w
    → (r : Receiving Screenshot) × Delivers (applied_by (w.clients id).kept.version) (w.clients id).kept.receiver (update_in v) r
heard_by w id v was h = go (step_of (w.clients id).kept v) refl (state_at v.old (pairs (w.clients id).kept.receiver)) refl
  where
    c : Receiving Screenshot
    c = (w.clients id).kept.receiver

    leads : LeadsTruly (applied_by (w.clients id).kept.version)
        (IsScreenOf (w.clients id).kept.version w.server.size w.server.log w.server.cuts) (update_in v)
    leads = (h.links id).truth.updates (update_in v) (v, was, refl)

    there : (o : Option Screenshot) → state_at v.old (pairs (w.clients id).kept.receiver) ≡ o → step_of (w.clients id).kept v ≡ step.New
        → is_none o ≡ true → ⊥
    there o e f n = by (nat_le v.new (w.clients id).kept.receiver.newest.number)
        (subst (λ (p : Option Screenshot). cond (nat_le v.new (w.clients id).kept.receiver.newest.number) step.Old
        (cond (is_none p) step.Gap (cond (nat_le 8 (length (from_floor v.floor (pairs (w.clients id).kept.receiver)))) step.Gap step.New)) ≡
        step.New) e f)
      where
        by : (b : Bool) → cond b step.Old (cond (is_none o) step.Gap
            (cond (nat_le 8 (length (from_floor v.floor (pairs (w.clients id).kept.receiver)))) step.Gap step.New)) ≡ step.New → ⊥
        by true g = cc
        by false g = let z : step.Gap ≡ step.New = subst
            (λ (b : Bool). cond b step.Gap (cond (nat_le 8 (length (from_floor v.floor (pairs (w.clients id).kept.receiver)))) step.Gap
            step.New) ≡ step.New) n g in cc

    other : (x : Step) → step_of (w.clients id).kept v ≡ x → (x ≡ step.New → ⊥)
        → (r : Receiving Screenshot) × Delivers (applied_by (w.clients id).kept.version) (w.clients id).kept.receiver (update_in v) r
    other x e differs = (c, record { fresh = (λ f. absurd (differs (sym e ∙ f))); other = (λ f. refl) })

    go : (x : Step) → step_of (w.clients id).kept v ≡ x → (o : Option Screenshot) → state_at v.old (pairs (w.clients id).kept.receiver) ≡ o
        → (r : Receiving Screenshot) × Delivers (applied_by (w.clients id).kept.version) (w.clients id).kept.receiver (update_in v) r
    go step.Old e o f = other step.Old e (λ z. cc)
    go step.Gap e o f = other step.Gap e (λ z. cc)
    go step.New e None f = absurd (there None f e refl)
    go step.New e (Some base) f =
        let mine : IsScreenOf (w.clients id).kept.version w.server.size w.server.log w.server.cuts v.old base =
        found_true (IsScreenOf (w.clients id).kept.version w.server.size w.server.log w.server.cuts) v.old
        (pairs (w.clients id).kept.receiver) base
        (h.links id).truth.receiver f in
        let same : base ≡ leads.base =
        one_screen (w.clients id).kept.version w.server.size w.server.log w.server.cuts v.old base leads.base mine leads.from_true in
        let r' : Receiving Screenshot = record {
          earlier = from_floor v.floor (pairs c);
          newest =
              record { number = v.new; state = leads.state };
        } in (
          record { earlier = from_floor v.floor (pairs c); newest = record { number = v.new; state = leads.state } },
          record {
            fresh = (λ n. record {
              base = base;
              held = f;
              leads = ap (λ (s : Screenshot). applied_by (w.clients id).kept.version s v.change) same ∙ leads.leads;
              number =
                  refl;
              earlier = refl;
            });
            other = (λ n. absurd (n e));
          },
        )

client_reply : (w : World) (slot k now : ℕ) → Holds w → (o : Option ℕ) → w.slots slot ≡ o → (p : Option DatagramValue)
    → datagram_at w.sent k ≡ p → IsAnswered w (ToClient slot k now)
client_reply w slot k now h None e p f = record { reply = Refused; left = w; step = empty_slot e refl refl; ample = refused_ample }
client_reply w slot k now h (Some id) e None f = record { reply = Refused; left = w; step = not_sent f refl refl; ample = refused_ample }
client_reply w slot k now h (Some id) e (Some d) f = go (arriving w.server.session id (w.clients id).kept d) refl (arrives w id k d f h)
  where
    go : (c : Arrival Hearing) → arriving w.server.session id (w.clients id).kept d ≡ c
        → ArrivesWell (w.server.records id).instructions (arriving w.server.session id (w.clients id).kept d)
        → IsAnswered w (ToClient slot k now)
    go (turned_away g) x well =
        record {
          reply = Failed g;
          left = w;
          step = refused id d g e f x refl refl;
          ample =
              failed_ample g (back_other w.server.session id (w.clients id).kept d g x);
        }
    go (noted how g) x well =
        record {
          reply = Heard how;
          left = with_kept w id (after_fragment (w.clients id).kept (moment_of (w.clients id).kept now) g);
          step =
              fragment id d how g e f x refl refl;
          ample = heard_ample how;
        }
    go (completed g text) x well =
        let of = (subst (ArrivesWell (w.server.records id).instructions) x well).1 in
        let r = heard_by w id of.value of.there h in
        record {
          reply = Heard (hearing_of (step_of (w.clients id).kept of.value));
          left = with_kept w id (after_whole (w.clients id).kept (moment_of (w.clients id).kept now) g r.0 of.value);
          step = whole id d g text of.value r.0 e f x (record { is = (h.links id).downs of.value of.there; spelled = of.is }) r.1 refl refl;
          ample = heard_ample (hearing_of (step_of (w.clients id).kept of.value));
        }

pub has_reply : (w : World) → Holds w → HasReply w
has_reply w h (PaneBytes pane bytes) = pane_reply w pane bytes (refuses_bytes w.server.size w.server.log pane bytes) refl
has_reply w h (Typed slot act) = typed_reply w slot act (w.slots slot) refl
has_reply w h (ServerTick now) = server_tick_reply w now (is_tick_spent w.server (moment w.server now)) refl
has_reply w h (ClientTick slot now) = client_tick_reply w slot now (w.slots slot) refl
has_reply w h (ToServer k from now) = server_reply w k from now h (datagram_at w.sent k) refl
has_reply w h (ToClient slot k now) = client_reply w slot k now h (w.slots slot) refl (datagram_at w.sent k) refl
has_reply w h (Start slot id v watches) = start_reply w slot id v watches (w.clients id).made (is_unfit v watches) refl refl
has_reply w h (Drain pane n) = drain_reply w pane n (output_at w.server.size w.server.log pane) refl
