-- Which of the programs that follow the panes keeps their shells (this project's profile).
use Rattle.std.specs.Prelude.{ℕ, ◌-◌, ◌==◌, Bool, true, false, ◌&&◌, ◌||◌, List, [], ◌∷◌, None, if◌then◌else◌, codes}
use Rattle.std.specs.Str.{bytes_eq}
use Rattle.roam_pane_subscribers.specs.Subscribing.{is_there, most_subscribers}
use Rattle.roam_pane_subscribers.specs.declared.subscribing.Subscriber.{Subscriber}
use Rattle.roam_pane_subscribers.specs.declared.seats.Role.{Role}
use Rattle.roam_pane_subscribers.specs.declared.seats.Role.TheVariants.{Other, New, Host}

-- a line says that its program is the pty host
abbrev pub is_host_line : List ℕ → Bool
is_host_line line = bytes_eq line (codes "host")

-- the role of a program after a line
abbrev pub role_after : List ℕ → Role → Role
role_after line role = if is_host_line line then New else role

abbrev pub is_other_role : Role → Bool
is_other_role Other = true
is_other_role New = false
is_other_role Host = false

abbrev pub is_new_role : Role → Bool
is_new_role Other = false
is_new_role New = true
is_new_role Host = false

abbrev pub is_host_role : Role → Bool
is_host_role Other = false
is_host_role New = false
is_host_role Host = true

-- it is there and said that it is the pty host
abbrev pub is_new : {S : Type 0} → Subscriber S → Bool
is_new f = is_there f && is_new_role f.role

-- it is there and is the pty host
abbrev pub is_seated : {S : Type 0} → Subscriber S → Bool
is_seated f = is_there f && is_host_role f.role

abbrev pub any_new : {S : Type 0} → List (Subscriber S) → Bool
any_new [] = false
any_new (f ∷ fs) = is_new f || any_new fs

abbrev pub has_host : {S : Type 0} → List (Subscriber S) → Bool
has_host [] = false
has_host (f ∷ fs) = is_seated f || has_host fs

-- it is let go
abbrev pub let_go : {S : Type 0} → Subscriber S → Subscriber S
let_go f = record f { program = record { stream = None } }

-- the subscriber after the pty host is chosen, given whether any declared itself, and whether a later one did
abbrev pub seated_by : {S : Type 0} → Role → Bool → Bool → Subscriber S → Subscriber S
seated_by Other any later f = f
seated_by New any later f = if later then let_go f else record f { role = Host }
seated_by Host any later f = if any then let_go f else f

abbrev pub seated_one : {S : Type 0} → Bool → Bool → Subscriber S → Subscriber S
seated_one any later f = seated_by f.role any later f

-- the last subscriber that declared itself is the pty host; an earlier host, or one that declared itself earlier, is disconnected
abbrev pub seated : {S : Type 0} → Bool → List (Subscriber S) → List (Subscriber S)
seated any [] = []
seated any (f ∷ fs) = seated_one any (any_new fs) f ∷ seated any fs

-- of those that are there the first so many stay
abbrev pub first_stay : {S : Type 0} → ℕ → List (Subscriber S) → List (Subscriber S)
first_stay n [] = []
first_stay n (f ∷ fs) =
    if is_there f then (if n == 0 then let_go f else f) ∷ first_stay (n - 1) fs else f ∷ first_stay n fs

-- the places for subscribers: one is reserved for the pty host while there is none
abbrev pub places_for : Bool → ℕ
places_for true = most_subscribers
places_for false = most_subscribers - 1

-- the newest subscribers are disconnected if there are too many
abbrev pub kept_place : {S : Type 0} → List (Subscriber S) → List (Subscriber S)
kept_place all = first_stay (places_for (has_host all)) all
