-- One link worked by hand, over numbers as states: an update is lost and another comes, and an acknowledgement moves the base. So the laws
-- speak of runs that there are.
use Rattle.std.proofs.Common.{◌≡◌, ℕ, List, [], ◌∷◌, ◌++◌, Option, Some, None, refl, arith}
use Rattle.roam_sync.specs.Senders.{offered, acked, sent_at}
use Rattle.roam_sync.specs.Receivers.{Receiving}
use Rattle.roam_sync.specs.Links.{Update, update_of, Hears, numbers_held, numbers_had}
use Rattle.roam_sync.specs.Laws.{Link, begun, Event, Offer, Send, Deliver, Answer, Acknowledge, Runs}

-- a diff is the new number
abbrev applied : ℕ → List ℕ → Option ℕ
applied base [] = None
applied base (n ∷ rest) = Some n

-- an update from one number to another
abbrev update : ℕ → ℕ → Update
update old new = record { old = old; new = new; floor = old; change = new ∷ [] }

abbrev events : List Event
events =
    Offer 1 ∷ Send 20 (1 ∷ []) ∷ Offer 2 ∷ Send 40 (2 ∷ []) ∷ Deliver (update 0 2) ∷ Answer ∷ Offer 5 ∷ Acknowledge 2 ∷ Send 60 (5 ∷ [])
    ∷ Deliver (update 2 5) ∷ []

-- a state is offered, and the newest is sent
abbrev with_offer : Link ℕ → ℕ → Link ℕ
with_offer link n = record link { sender = offered link.sender n n }

abbrev with_sending : Link ℕ → ℕ → List ℕ → Link ℕ
with_sending link now change = record link { sender = sent_at link.sender now; updates = link.updates ++ update_of link.sender change ∷ [] }

-- the receiver after each of the two updates that come
abbrev first_taken : Receiving ℕ
first_taken = record { earlier = record { number = 0; state = 0 } ∷ []; newest = record { number = 2; state = 2 } }

abbrev second_taken : Receiving ℕ
second_taken = record { earlier = record { number = 2; state = 2 } ∷ []; newest = record { number = 5; state = 5 } }

-- the link after the first four events, after the next four, and at the end
abbrev sent_twice : Link ℕ
sent_twice = with_sending (with_offer (with_sending (with_offer (begun 0) 1) 20 (1 ∷ [])) 2) 40 (2 ∷ [])

abbrev answered : Link ℕ
answered = record sent_twice { receiver = first_taken; answers = 2 ∷ [] }

abbrev base_moved : Link ℕ
base_moved = record answered { sender = acked (offered answered.sender 5 5) 2 }

abbrev at_last : Link ℕ
at_last = record (with_sending base_moved 60 (5 ∷ [])) { receiver = second_taken }

-- the numbers at both ends after these events
worked : Runs applied (λ n. n) events at_last × (numbers_held at_last.sender ≡ 2 ∷ 5 ∷ []) × (numbers_had at_last.receiver ≡ 2 ∷ 5 ∷ [])
worked = (
  (
    with_offer (begun 0) 1,
    (omega arith, omega arith, refl),
    (
      with_sending (with_offer (begun 0) 1) 20 (1 ∷ []),
      (refl, refl),
      (
        with_offer (with_sending (with_offer (begun 0) 1) 20 (1 ∷ [])) 2,
        (omega arith, omega arith, refl),
        (
          sent_twice,
          (refl, refl),
          (
            record sent_twice { receiver = first_taken },
            ((1, omega arith, refl), (first_taken, first_hears, refl)),
            (
              answered,
              refl,
              (
                with_offer answered 5,
                (omega arith, omega arith, refl),
                (
                  base_moved,
                  ((0, omega arith, refl), refl),
                  (
                    with_sending base_moved 60 (5 ∷ []),
                    (refl, refl),
                    (
                      at_last,
                      ((2, omega arith, refl), (second_taken, second_hears, refl)),
                      refl,
                    ),
                  ),
                ),
              ),
            ),
          ),
        ),
      ),
    ),
  ),
  refl,
  refl,
)
  where
    first_hears : Hears applied sent_twice.receiver (update 0 2) first_taken
    first_hears = record { fresh = refl; takes = record { base = 0; held = refl; leads = refl; number = refl; earlier = refl } }

    second_hears : Hears applied first_taken (update 2 5) second_taken
    second_hears = record { fresh = refl; takes = record { base = 2; held = refl; leads = refl; number = refl; earlier = refl } }
