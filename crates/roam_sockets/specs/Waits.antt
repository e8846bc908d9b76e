-- The result of a wait, and its longest time.
use Rattle.std.specs.Prelude.{ℕ, ◌-◌, ◌==◌, ◌&&◌, nat_le, min, Bool, List, Option, Some, None, if◌then◌else◌}
use Rattle.std.specs.List.{list_any}
use Rattle.mio.specs.declared.event.event.Event.{Event}
use Rattle.mio.specs.Event.{event_token, is_write_closed}

-- nobody reads the descriptor any more that is watched
abbrev pub is_unread : Event → Bool
is_unread event = ((event_token event).0 == 1) && is_write_closed event

-- one of these events reports that nobody reads the descriptor
abbrev pub tell_of_no_reader : List Event → Bool
tell_of_no_reader events = list_any is_unread events

-- the milliseconds until the due moment, if any: ten if it is past, an hour at most
abbrev pub wait_until : Option ℕ → ℕ → ℕ
wait_until None now = 3600000
wait_until (Some due) now = if nat_le due now then 10 else min 3600000 (due - now)

-- the milliseconds to wait: one if datagrams are kept back by their pace, else until the due moment
abbrev pub wait_for : Option ℕ → ℕ → Bool → ℕ
wait_for due now is_paced = if is_paced then 1 else wait_until due now
