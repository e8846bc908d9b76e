-- Parcels are sent one after another.
use Rattle.std.proofs.Common.{◌≡◌, List, [], ◌∷◌, ◌++◌, length, Bool, ap, refl, sym, ◌∙◌, append-nil}
use Rattle.roam_turns.specs.Calls.{Parcel, PortCall}
use Rattle.roam_turns.specs.Calls.PortCall.{Sent}
use Rattle.roam_turns.specs.Turns.{Sends}

pub sends_more : (parcels : List Parcel) (calls : List PortCall) (parcel : Parcel) (went : Bool) → Sends parcels calls
    → Sends (parcels ++ parcel ∷ []) (calls ++ Sent parcel.0 parcel.1 went ∷ [])
sends_more [] calls parcel went h = (went, [], ap (λ l. l ++ Sent parcel.0 parcel.1 went ∷ []) h, refl)
sends_more (l ∷ parcels) calls parcel went h = (
  h.0,
  h.1 ++ Sent parcel.0 parcel.1 went ∷ [],
  ap (λ k. k ++ Sent parcel.0 parcel.1 went ∷ []) h.2,
  sends_more parcels h.1 parcel went h.3,
)

-- if none are left, all were sent
pub all_sent : {X : Type 0} → (sent rest all : List X) → length rest ≡ 0 → sent ++ rest ≡ all → sent ≡ all
all_sent sent [] all none e = sym (append-nil sent) ∙ e
all_sent sent (_ ∷ _) all none e = absurd (cc)
