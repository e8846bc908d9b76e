-- How a run ends, and when its outer terminal is given up.
use Rattle.std.specs.Prelude.{ℕ, ◌-◌, nat_le, Bool, true, false, Option, Some, None, if◌then◌else◌}
use Rattle.roam_outer_terminal.specs.Silence.{end_of}
use Rattle.roam_outer_terminal.specs.declared.silence.Silence.{Silence}
use Rattle.roam_outer_terminal.specs.declared.silence.End.{End}
use Rattle.roam_outer_terminal.specs.declared.silence.End.TheVariants.{Gone}

-- the end as an instance sees it: the server has ended, or was last heard so long ago
abbrev pub end_by : Bool → Silence → End
end_by ended s = if ended then Gone else end_of s

-- since when writing fails: since the first of the failures in a row
abbrev pub failing_after : Option ℕ → Bool → ℕ → Option ℕ
failing_after failing true now = None
failing_after None false now = Some now
failing_after (Some since) false now = Some since

-- it has failed for half a second
abbrev pub has_given_up : Silence → Option ℕ → Bool
has_given_up s None = false
has_given_up s (Some since) = nat_le 500 (s.moment - since)
