-- The way of a client instance to its server.
use Rattle.std.specs.Prelude.{◌≡◌, ◌⊎◌, ℕ, ◌∷◌, List, [], drop, Bool, true, false, None, IsOk}
use Rattle.mio.specs.declared.net.uds.stream.UnixStream.{UnixStream}
use Rattle.roam_stream_framing.specs.Queues.{IsLost, IsQueued, nothing_queued}
use Rattle.roam_stream_framing.specs.Streams.{HasAnswered, HasStopped}
use Rattle.roam_cells.specs.declared.addresses.Addr.{Addr}
use Rattle.roam_sockets.specs.Addresses.{number_of}
use Rattle.roam_sockets.specs.Clients.{AnswersOf}
use Rattle.roam_sockets.specs.Lanes.{Flushes, SendsTo, is_any_waiting}
use Rattle.roam_attach.specs.declared.attaching.Home.{Home}
use Rattle.roam_attach.specs.declared.attaching.Home.TheVariants.{Port, Folder}
use Rattle.roam_attach.specs.declared.connecting.Way.{Way}
use Rattle.roam_attach.specs.declared.connecting.Way.TheVariants.{Udp, Stream}

-- the server is seen to have ended: a stream to it is closed
abbrev pub has_ended : Way → Bool
has_ended (Udp udp) = false
has_ended (Stream carrier) = carrier.over

-- the allowed senders: over UDP any address but a stream's, over a stream its other end
abbrev pub IsFrom : Way → Addr → Type 0
IsFrom (Udp udp) from = number_of from ≡ None
IsFrom (Stream carrier) from = from ≡ record { host = 0 ∷ 0 ∷ 0 ∷ 0 ∷ []; port = 0 }

-- all that waited went, or, over a stream, all that goes at this moment
abbrev pub AllWent : AnswersOf UnixStream → Way → Way → Type 0
AllWent answers (Udp old) (Udp new) = is_any_waiting new.paced.lanes.items ≡ false
AllWent answers (Udp old) (Stream new) = ⊥
AllWent answers (Stream old) (Udp new) = ⊥
AllWent answers (Stream old) (Stream new) =
    HasStopped new.over new.queue.waiting (answers old.stream) (answers new.stream)

-- something still waits, or, over a stream, some went, and more may go at this moment
abbrev pub MoreGoes : AnswersOf UnixStream → Way → Way → Type 0
MoreGoes answers (Udp old) (Udp new) = is_any_waiting new.paced.lanes.items ≡ true
MoreGoes answers (Udp old) (Stream new) = ⊥
MoreGoes answers (Stream old) (Udp new) = ⊥
MoreGoes answers (Stream old) (Stream new) = HasAnswered IsOk (answers old.stream) (answers new.stream)

-- a way by UDP, or over a stream, on which nothing came yet and nothing waits
abbrev pub IsFreshUdp : Way → Type 0
IsFreshUdp (Udp udp) = udp.paced.lanes.items ≡ []
IsFreshUdp (Stream carrier) = ⊥

abbrev pub IsFreshStream : Way → Type 0
IsFreshStream (Udp udp) = ⊥
IsFreshStream (Stream carrier) = (carrier.frames ≡ []) × (carrier.queue ≡ nothing_queued) × (carrier.over ≡ false)

-- a port is reached by UDP, and a folder over a stream
abbrev pub IsWayTo : Home → Way → Type 0
IsWayTo (Port port) way = IsFreshUdp way
IsWayTo (Folder folder) way = IsFreshStream way

-- the queued bytes are unchanged
abbrev pub StillWaits : Way → Way → Type 0
StillWaits (Udp old) (Udp new) = new.paced.lanes ≡ old.paced.lanes
StillWaits (Udp old) (Stream new) = ⊥
StillWaits (Stream old) (Udp new) = ⊥
StillWaits (Stream old) (Stream new) = new.queue ≡ old.queue

-- A datagram was given to a way at a moment. Over UDP its lane took it. Over a stream it was queued, or lost with its instruction, or the
-- stream is closed.
abbrev pub Sends : ℕ → Addr → Way → Way → List ℕ → Bool → Type 0
Sends now to (Udp old) (Udp new) datagram went = SendsTo now to old.paced.lanes.items new.paced.lanes.items datagram went None None
Sends now to (Udp old) (Stream new) datagram went = ⊥
Sends now to (Stream old) (Udp new) datagram went = ⊥
Sends now to (Stream old) (Stream new) datagram went =
    (went ≡ true → IsQueued old.queue datagram new.queue)
    × (went ≡ false → IsLost old.queue new.queue ⊎ ((old.over ≡ true) × (new ≡ old)))

-- the queued bytes went at a moment, as many as may: over UDP of each lane, over a stream from the front, as many as go or some of them
abbrev pub Goes : AnswersOf UnixStream → ℕ → Way → Way → Type 0
Goes answers now (Udp old) (Udp new) = (are_all : Bool) × Flushes now old.paced.lanes.items new.paced.lanes.items None None are_all
Goes answers now (Udp old) (Stream new) = ⊥
Goes answers now (Stream old) (Udp new) = ⊥
Goes answers now (Stream old) (Stream new) =
    ((count : ℕ) × (new.queue.waiting ≡ drop count old.queue.waiting))
    × (HasStopped new.over new.queue.waiting (answers old.stream) (answers new.stream)
    ⊎ HasAnswered IsOk (answers old.stream) (answers new.stream))
