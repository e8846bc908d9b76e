-- The steps after a turn of a server: subscribers get the news, and the server waits.
use Rattle.std.specs.Prelude.{◌≡◌, ◌<◌, ◌==◌, ◌^◌, ◌-◌, ℕ, Bool, true, false, List, Option, Some, None, IfSome, MatchBool}
use Rattle.mio.specs.declared.net.uds.stream.UnixStream.{UnixStream}
use Rattle.roam_model.specs.Servers.{Server, moment}
use Rattle.roam_hub.specs.Servers.{ServerView, Stands, is_server_due}
use Rattle.roam_hub.specs.Waits.{IsQuiet, has_come}
use Rattle.roam_pane_protocol.specs.declared.pane_list.PaneList.{PaneList}
use Rattle.roam_cells.specs.declared.addresses.Addr.{Addr}
use Rattle.roam_sockets.specs.Clients.{Accepts, AnswersOf, KeepsOpen}
use Rattle.roam_sockets.specs.Lanes.{Flushes as SendsAll, SendsTo, is_any_waiting}
use Rattle.roam_sockets.specs.Waits.{wait_for}
use Rattle.roam_sockets.specs.declared.clients.Clients.{Clients}
use Rattle.roam_sockets.specs.declared.udp.Udp.{Udp}
use Rattle.roam_serve.specs.Tellings.{AreToldClips, AreToldQueries, AreToldMetadata}
use Rattle.roam_pane_subscribers.specs.Subscribing.{AreAllTold}
use Rattle.roam_serve.specs.Echoes.{before_by, most_ahead}
use Rattle.roam_serve.specs.Listed.{ArePanesOf}
use Rattle.roam_pane_sockets.specs.Moments.{sooner}
use Rattle.roam_serve.specs.declared.tellings.ClipTimes.{ClipTimes}
use Rattle.roam_pane_subscribers.specs.declared.subscribing.Subscriber.{Subscriber}
use Rattle.roam_pane_sockets.specs.declared.panes.Pane.{Pane}
use Rattle.roam_serve.specs.declared.tellings.MetadataEventTimes.{MetadataEventTimes}

-- Datagrams queued for UDP were sent, as many as the pace of each address allows at this moment, and the port is otherwise unchanged. The
-- result is true if that was all.
abbrev pub GoesBy : ℕ → Option Udp → Option Udp → Bool → Type 0
GoesBy now None None all = all ≡ true
GoesBy now None (Some new) all = ⊥
GoesBy now (Some old) None all = ⊥
GoesBy now (Some old) (Some new) all =
    (new.port ≡ old.port) × SendsAll now old.paced.lanes.items new.paced.lanes.items None None all

-- datagrams are kept back so that they go at a pace
abbrev pub is_paced : Option Udp → Bool
is_paced None = false
is_paced (Some udp) = is_any_waiting udp.paced.lanes.items

-- a datagram was sent over UDP at a pace, if there is a port for it
abbrev pub SendsBy : ℕ → Addr → Option Udp → Option Udp → List ℕ → Bool → Type 0
SendsBy now to None new datagram result = (new ≡ None) × (result ≡ false)
SendsBy now to (Some old) None datagram result = ⊥
SendsBy now to (Some old) (Some new) datagram result = SendsTo now to old.paced.lanes.items new.paced.lanes.items datagram result None None

-- The queued bytes of client instances were written, in part or as far as possible, as is noted. Then new instances may have connected.
pub record Flushes (answers : AnswersOf UnixStream) (old new : Clients) : Type 0 where
  pub mid : Clients
  pub keeps : KeepsOpen answers old.all.items mid.all.items mid.is_flushed
  pub accepts : Accepts mid new
  pub noted : new.is_flushed ≡ mid.is_flushed

-- the subscribers of before and those that came were sent the panes of a server
pub record HasTold (contents : UnixStream → Option (List ℕ)) (server : ServerView) (before subscribers : List (Subscriber UnixStream)) : Type 0 where
  pub panes : PaneList
  pub are : (s : Server) → Stands server s → ArePanesOf s panes
  pub told : AreAllTold contents panes before subscribers

-- Subscribers got the panes, and then new metadata as far as due, clips and questions.
pub record HasToldAll (contents : UnixStream → Option (List ℕ)) (server : ServerView) (moment : ℕ) (panes : List Pane)
    (telling telling' : MetadataEventTimes) (clipping clipping' : ClipTimes) (before subscribers : List (Subscriber UnixStream)) : Type 0 where
  pub mid : List (Subscriber UnixStream)
  pub told : HasTold contents server before mid
  pub later : List (Subscriber UnixStream)
  pub metadata : AreToldMetadata contents telling telling' moment panes mid later
  pub last : List (Subscriber UnixStream)
  pub clips : AreToldClips contents clipping clipping' moment panes later last
  pub asks : AreToldQueries contents panes last subscribers

-- a server next has something due at a moment, or never: before it a tick does nothing, and at it one does something
pub record IsNextDue (server : ServerView) (due : Option ℕ) : Type 0 where
  pub before : (s : Server) → Stands server s → (now : ℕ) → now < 2 ^ 64 → has_come due now ≡ false → IsQuiet s (moment s now)
  pub at : (s : Server) → Stands server s → IfSome due (λ d. is_server_due s (moment s d) ≡ true)

-- so many turns go on for good
abbrev pub is_for_good : ℕ → Bool
is_for_good turns = turns == 2 ^ 64 - 1

-- Before a wait, all bytes that could go to client instances at this clock were written, and no line was left to be done. The wait lasts
-- until work is due, metadata is due, or the moment may run ahead to the wanted number. It lasts a millisecond if datagrams are kept back,
-- and the shortest time if the turns are counted.
pub record HasRested (turns : ℕ) (server : ServerView) (clock : ℕ) (clients : Clients) (may_ask : Bool) (udp : Option Udp)
    (telling wish : Option ℕ) (longest : Option ℕ) : Type 0 where
  pub due : Option ℕ
  pub is_due : MatchBool (is_for_good turns) (IsNextDue server due) (due ≡ Some 0)
  pub flushed : IfSome longest (λ _. clients.is_flushed ≡ true)
  pub asked : IfSome longest (λ _. may_ask ≡ false)
  pub waited : IfSome longest (λ long. long ≡ wait_for (sooner (before_by most_ahead wish) (sooner due telling)) clock (is_paced udp))
