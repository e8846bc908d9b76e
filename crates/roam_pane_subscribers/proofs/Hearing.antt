-- The bytes that were read of a program, piece after piece.
use Rattle.std.proofs.Common.{ℕ, List, [], ◌++◌, Option, Some, None}
use Rattle.std.proofs.KnownBytes.{Consumes-nil, Consumes-trans}
use Rattle.roam_pane_subscribers.specs.Programs.{Heard}

-- nothing was read
pub none_heard : {S : Type 0} (remaining : S → Option (List ℕ)) (stream : Option S) → Heard remaining stream stream []
none_heard remaining None = tt
none_heard remaining (Some stream) = Consumes-nil (remaining stream)

-- one piece after the other
pub more_heard : {S : Type 0} (remaining : S → Option (List ℕ)) (old mid new : Option S) (bs cs : List ℕ)
    → Heard remaining old mid bs → Heard remaining mid new cs → Heard remaining old new (bs ++ cs)
more_heard remaining old mid None bs cs p q = tt
more_heard remaining old None (Some new) bs cs p q = absurd q
more_heard remaining None (Some mid) (Some new) bs cs p q = absurd p
more_heard remaining (Some old) (Some mid) (Some new) bs cs p q =
    Consumes-trans (remaining old) (remaining mid) (remaining new) bs cs p q
