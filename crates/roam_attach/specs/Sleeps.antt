-- The sleep of a client instance without outer terminals, and what ends it.
use Rattle.std.specs.Prelude.{◌≡◌, ◌≢◌, ◌-◌, ◌<◌, ℕ, Bool, true, false, not, ◌&&◌, nat_le, nat_lt, List, Option, None, Some, is_some, if◌then◌else◌}
use Rattle.roam_sockets.specs.Waits.{wait_until}
use Rattle.roam_wire.specs.Datagrams.{DatagramValue, IsDatagram, datagram_text}
use Rattle.roam_wire.specs.Instructions.{DownValue, IsDown, down_text}
use Rattle.roam_wire.specs.Unchanging.{is_unchanging}
use Rattle.roam_attach.specs.Ways.{has_ended}
use Rattle.roam_attach.specs.declared.hosting.Doorway.{Doorway}
use Rattle.roam_attach.specs.declared.hosting.Woken.{Woken}
use Rattle.roam_attach.specs.declared.hosting.Woken.TheVariants.{Terminal, News, Ended, Input, Time}

-- after so many milliseconds of silence the server has forgotten the instance
abbrev pub forgotten : ℕ
forgotten = 4000

-- for so many rounds a terminal waits for the newest screen after a silence
abbrev pub waking_after : ℕ → ℕ
waking_after silent = if nat_le forgotten silent then 2 else 0

-- a moment is before another one, if there is one
abbrev pub is_before : ℕ → Option ℕ → Bool
is_before now None = false
is_before now (Some due) = nat_lt now due

-- the milliseconds until a moment; an hour if there is none or it is past
abbrev pub until : Option ℕ → ℕ → ℕ
until None now = wait_until None now
until (Some due) now = if nat_lt now due then due - now else wait_until None now

-- the bytes of a datagram have news, unless it is whole and its diff leads from a screen to that same screen
pub record HasNews (datagram : List ℕ) (news : Bool) : Type 0 where
  pub whole : (d : DatagramValue) (u : DownValue) → IsDatagram d → IsDown u → datagram ≡ datagram_text d → d.payload ≡ down_text u
      → news ≡ not (is_unchanging d u)
  pub part : (d : DatagramValue) → IsDatagram d → datagram ≡ datagram_text d → d.count ≢ 1 → news ≡ true

-- why a sleep ends before it waits again: a terminal is there; nothing is due for the server any more, and news came or the server has
-- ended; or its time is over
abbrev pub woken_by : Bool → Bool → Bool → Bool → Bool → Option Woken
woken_by has_come is_light has_news has_ended is_over =
    if has_come then Some Terminal
    else if not is_light && has_news then Some News
    else if not is_light && has_ended then Some Ended
    else if is_over then Some Time
    else None

-- that of an instance at its door, for a sleep that began at a moment and lasts so long at most
abbrev pub woken_at : {R : Type 0} → Doorway R → Bool → ℕ → ℕ → Option ℕ → Option Woken
woken_at door has_news begun longest due =
    woken_by (is_some door.came) (is_before door.connection.moment due) has_news (has_ended door.connection.way)
    (nat_le longest (door.connection.moment - begun))

-- why it ends after a wait that was to last until a moment: input came before
abbrev pub woken_after : ℕ → ℕ → Option ℕ → Option Woken
woken_after before now due = if (is_before before due && is_before now due) then Some Input else None
