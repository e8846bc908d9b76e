-- When an instance heard something last.
use Rattle.std.specs.Prelude.{Bool, ◌&&◌, Some, is_some, if◌then◌else◌}
use Rattle.roam_outer_terminal.specs.declared.silence.Silence.{Silence}

-- something was heard at its moment, or nothing was
abbrev pub heard_by : Bool → Silence → Silence
heard_by heard s = if heard then record s { heard = Some s.moment } else s

-- at the moment after a sleep, an instance that heard something before counts as one that just did
abbrev pub heard_after : Bool → Silence → Silence
heard_after slept s = heard_by (slept && is_some s.heard) s
