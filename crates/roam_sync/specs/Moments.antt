-- When a sender is due, in milliseconds (this project's profile of Mosh's State Synchronization Protocol).
use Rattle.std.specs.Prelude.{ℕ}

-- a newest state that the other end isn't known to have is sent again after so long
abbrev pub resend_after : ℕ
resend_after = 250

-- something is sent after so long in any case
abbrev pub heartbeat : ℕ
heartbeat = 3000
