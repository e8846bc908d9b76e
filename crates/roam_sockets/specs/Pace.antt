-- How fast datagrams go to one address.
use Rattle.std.specs.Prelude.{ℕ, ◌==◌, Bool, nat_lt, if◌then◌else◌}
use Rattle.roam_sockets.specs.declared.pace.Pace.{Pace}

-- the most datagrams to one address in a millisecond; a loopback socket has room for some 90 unread ones
abbrev pub most_a_moment : ℕ
most_a_moment = 48

-- how many went at this moment
abbrev pub gone_at : Pace → ℕ → ℕ
gone_at pace now = if pace.moment == now then pace.gone else 0

-- one more may go
abbrev pub may_go : Pace → ℕ → Bool
may_go pace now = nat_lt (gone_at pace now) most_a_moment
