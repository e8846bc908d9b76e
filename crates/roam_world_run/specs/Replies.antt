-- The replies of a world, as lines of text (this project's profile).
use Rattle.std.specs.Prelude.{ℕ, zero, suc, ◌+◌, List, ◌++◌, codes, decimal}
use Rattle.roam_cells.specs.declared.faults.Fault.{Fault}
use Rattle.roam_cells.specs.declared.faults.Fault.TheVariants.{OutOfMemory, BadSize, TooSmall, NoPane, PanesFull, LastPane, Busy, TooLong, BadDatagram, OtherSession, OtherClient, ClientsFull, BadChange, SendFull, Spent, BadAct, Watching}
use Rattle.roam_model.specs.ClientArrivals.{Hearing, IsPart, IsOld, IsGap, IsNew}
use Rattle.roam_model.specs.Worlds.{Reply, Done, Sent, Taken, Heard, Refused, Failed, Stopped}

-- the numbers of the refusals
abbrev pub number_of : Fault → ℕ
number_of OutOfMemory = 1
number_of BadSize = 2
number_of TooSmall = 3
number_of NoPane = 4
number_of PanesFull = 5
number_of LastPane = 6
number_of Busy = 7
number_of TooLong = 8
number_of (BadDatagram _) = 9
number_of OtherSession = 10
number_of OtherClient = 11
number_of ClientsFull = 12
number_of BadChange = 13
number_of SendFull = 14
number_of Spent = 15
number_of BadAct = 16
number_of Watching = 17

-- the kind of a datagram to a client instance
abbrev pub heard_line : Hearing → List ℕ
heard_line IsPart = codes "part\n"
heard_line IsOld = codes "old\n"
heard_line IsGap = codes "gap\n"
heard_line IsNew = codes "new\n"

-- the numbers of the first and of the last datagram that was sent
abbrev pub sent_line : ℕ → ℕ → List ℕ
sent_line first zero = codes "sent none\n"
sent_line first (suc more) = codes "sent " ++ decimal first ++ codes "-" ++ decimal (first + more) ++ codes "\n"

-- a refusal's number
abbrev pub fault_line : Fault → List ℕ
fault_line fault = codes "E" ++ decimal (number_of fault) ++ codes "\n"

-- a refusal's number, and how many acts were taken before
abbrev pub counted_line : Fault → ℕ → List ℕ
counted_line fault taken = codes "E" ++ decimal (number_of fault) ++ codes " " ++ decimal taken ++ codes "\n"

-- the reason for which a datagram to the server was refused; if it may have stopped at an act, with how many were taken before
abbrev pub stop_line : Fault → ℕ → List ℕ
stop_line OutOfMemory taken = counted_line OutOfMemory taken
stop_line Busy taken = counted_line Busy taken
stop_line fault taken = fault_line fault

-- the line of a reply
abbrev pub reply_line : Reply → List ℕ
reply_line Done = codes "ok\n"
reply_line (Sent first count) = sent_line first count
reply_line (Taken count) = codes "ok " ++ decimal count ++ codes "\n"
reply_line (Heard hearing) = heard_line hearing
reply_line Refused = codes "refused\n"
reply_line (Failed fault) = fault_line fault
reply_line (Stopped fault taken) = stop_line fault taken
