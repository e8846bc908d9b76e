-- An act taker: how many acts of a sender were taken (this project's profile).
use Rattle.std.specs.Prelude.{ℕ, ◌+◌, ◌-◌, List, [], drop, nat_lt, if◌then◌else◌}
use Rattle.roam_acts.specs.declared.acts.Act.{Act}

-- of acts numbered one after the other from a first number, those that follow the ones taken; none over a gap
abbrev pub fresh_of : ℕ → ℕ → List Act → List Act
fresh_of taken first acts = if nat_lt (taken + 1) first then [] else drop (taken + 1 - first) acts
