-- The sockets of a server's ports are bound anew if their files are gone.
use Rattle.std.specs.Prelude.{◌≡◌, ◌⊎◌, ℕ, Bool, true, false, Some, if◌then◌else◌}
use Rattle.std.specs.List.{AllZip}
use Rattle.roam_pane_sockets.specs.Moments.{is_time}
use Rattle.roam_pane_sockets.specs.Peers.{IsMended}
use Rattle.roam_serve.specs.declared.server_ports.ServerPorts.{ServerPorts}

-- the milliseconds between two looks whether the files are still there
abbrev pub mend_pace : ℕ
mend_pace = 60000

-- The ports looked whether the files of their sockets are still there, if it is time for that. Then other listeners may be at the sockets.
-- The peers, the clock, the echoes, the waits and all else are as they were.
pub record AreMended {R : Type 0} (old new : ServerPorts R) : Type 0 where
  pub panes : AllZip IsMended old.panes.all.items new.panes.all.items ⊎ (new.panes ≡ old.panes)
  pub looked : new.mended ≡ (if is_time (Some old.mended) old.clock mend_pace then old.clock else old.mended)
  pub rests : is_time (Some old.mended) old.clock mend_pace ≡ false → new ≡ old
  pub others : new ≡ record old {
    panes = new.panes;
    subscribers = record old.subscribers { listener = new.subscribers.listener };
    clients = record old.clients { listener = new.clients.listener };
    mended = new.mended;
  }
