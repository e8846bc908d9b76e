-- Datagrams to a client that lead to no new screen (this project's profile).
use Rattle.std.specs.Prelude.{Bool, ◌==◌, ◌&&◌}
use Rattle.roam_wire.specs.Datagrams.{DatagramValue}
use Rattle.roam_wire.specs.Instructions.{DownValue}

-- a datagram with a whole instruction, whose diff leads from a screen to the same one
abbrev pub is_unchanging : DatagramValue → DownValue → Bool
is_unchanging d u = d.count == 1 && u.old == u.new
