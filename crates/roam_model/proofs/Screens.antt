-- The screen of a number stays, and each is a screen.
use Rattle.std.proofs.Common.{◌≡◌, ℕ, ◌-◌, ◌<◌, ◌≤◌, ◌⊎◌, List, [], ◌∷◌, ◌++◌, length, false, refl, sym, subst, ◌∙◌, inl, inr, arith, length-append}
use Rattle.std.specs.Prelude.{nat_eq, slice_index, map}
use Rattle.std.proofs.lemmas.Bool.Decides.{nat_tests}
use Rattle.std.proofs.lemmas.Grind.{common_steps}
use Rattle.std.proofs.lemmas.List.{take-append-le}
use Rattle.std.proofs.Math.ListN.{get_or-append}
use Rattle.std.proofs.Math.Seq.{get_or-append_seam}
use Rattle.roam_screens.specs.Screenshot.{Screenshot, IsScreenshot}
use Rattle.roam_acts.specs.declared.acts.Act.{Act}
use Rattle.roam_session.specs.Sessions.{SessionSize, Entry, Given, Did, Drained}
use Rattle.roam_session.specs.Faces.{face}
use Rattle.roam_model.specs.Versions.{seen_by, IsSeenBy}
use Rattle.roam_model.specs.Numbers.{first_screen, screen, IsScreenOf, acts_of}
use Rattle.roam_model.specs.Holds.{AreCuts, AreScreens}
use Rattle.roam_model.proofs.Versions.{seen_is}
use Rattle.roam_wire.specs.declared.versions.Version.{Version}

pub one_screen : (v : Version) (size : SessionSize) (log : List Entry) (cuts : List ℕ) (n : ℕ) (s t : Screenshot)
    → IsScreenOf v size log cuts n s → IsScreenOf v size log cuts n t → s ≡ t
one_screen v size log cuts n s t a b = a.same ∙ sym b.same

pub first_is : (v : Version) (size : SessionSize) (log : List Entry) (cuts : List ℕ) → IsScreenOf v size log cuts 0 first_screen
first_is v size log cuts = record { made = omega arith; same = refl }

zero_or : (n : ℕ) → (n ≡ 0) ⊎ (0 < n)
zero_or n = grind arith

-- ---- the log grows

screen_more : (v : Version) (size : SessionSize) (log more : List Entry) (cuts : List ℕ) (n : ℕ) → AreCuts log cuts → n ≤ length cuts
    → screen v size (log ++ more) cuts n ≡ screen v size log cuts n
screen_more v size log more cuts n low le =
    elim (zero_or n) [
      | inl e ↦ grind (arith, nat_tests)
      | inr g ↦ (
          let k = low (n - 1) (omega arith) in
          let same = take-append-le (slice_index cuts (n - 1)) log more k in
          grind (arith, nat_tests)
          )
    ]

pub is_more : (v : Version) (size : SessionSize) (log more : List Entry) (cuts : List ℕ) → AreCuts log cuts → (n : ℕ) (s : Screenshot)
    → IsScreenOf v size log cuts n s → IsScreenOf v size (log ++ more) cuts n s
is_more v size log more cuts low n s i = record { made = i.made; same = i.same ∙ sym (screen_more v size log more cuts n low i.made) }

pub cuts_more : (log more : List Entry) (cuts : List ℕ) → AreCuts log cuts → AreCuts (log ++ more) cuts
cuts_more log more cuts low k lt = let le = low k lt in omega (arith, length-append log more)

pub screens_more : (size : SessionSize) (log more : List Entry) (cuts : List ℕ) → AreCuts log cuts → AreScreens size log cuts
    → AreScreens size (log ++ more) cuts
screens_more size log more cuts low are v n le = subst (IsSeenBy v) (sym (screen_more v size log more cuts n low le)) (are v n le)

-- ---- a number is made

screen_cut : (v : Version) (size : SessionSize) (log : List Entry) (cuts : List ℕ) (c n : ℕ) → n ≤ length cuts
    → screen v size log (cuts ++ c ∷ []) n ≡ screen v size log cuts n
screen_cut v size log cuts c n le =
    elim (zero_or n) [
      | inl e ↦ grind (arith, nat_tests)
      | inr g ↦ (
          let lt : n - 1 < length cuts = omega arith in
          let same = get_or-append cuts (c ∷ []) 0 (n - 1) lt in
          grind (arith, nat_tests)
          )
    ]

pub is_cut : (v : Version) (size : SessionSize) (log : List Entry) (cuts : List ℕ) (c n : ℕ) (s : Screenshot)
    → IsScreenOf v size log cuts n s → IsScreenOf v size log (cuts ++ c ∷ []) n s
is_cut v size log cuts c n s i =
    record {
      made = let m = i.made in omega (arith, length-append cuts (c ∷ []));
      same = i.same ∙ sym (screen_cut v size log cuts c n i.made);
    }

pub cuts_cut : (log : List Entry) (cuts : List ℕ) → AreCuts log cuts → AreCuts log (cuts ++ length log ∷ [])
cuts_cut log cuts low k lt =
    grind (arith, common_steps, low, get_or-append cuts (length log ∷ []) 0 k, get_or-append_seam cuts (length log) [] 0)

-- the screen of the number that is made is the face now
screen_last : (v : Version) (size : SessionSize) (log : List Entry) (cuts : List ℕ)
    → screen v size log (cuts ++ length log ∷ []) (length (cuts ++ length log ∷ [])) ≡ seen_by v (face size log)
screen_last v size log cuts = grind (
  arith,
  nat_tests,
  common_steps,
  length-append cuts (length log ∷ []),
  get_or-append_seam cuts
      (length log) [] 0,
)

pub screens_cut : (size : SessionSize) (log : List Entry) (cuts : List ℕ) → AreScreens size log cuts → IsScreenshot (face size log)
    → AreScreens size log (cuts ++ length log ∷ [])
screens_cut size log cuts are is v n le =
    elim (le_or n le) [
      | inl low ↦ subst (IsSeenBy v) (sym (screen_cut v size log cuts (length log) n low)) (are v n low)
      | inr top ↦ (let e : length (cuts ++ length log ∷ []) ≡ n = sym top in
          subst (λ (m : ℕ). IsSeenBy v (screen v size log (cuts ++ length log ∷ []) m)) e
          (subst (IsSeenBy v) (sym (screen_last v size log cuts)) (seen_is v (face size log) is)))
    ]
  where
    le_or : (n : ℕ) → n ≤ length (cuts ++ length log ∷ []) → (n ≤ length cuts) ⊎ (n ≡ length (cuts ++ length log ∷ []))
    le_or n le = grind (arith, length-append cuts (length log ∷ []))

-- ---- the acts in the log

pub acts_of-append : (id : ℕ) (log more : List Entry) → acts_of id (log ++ more) ≡ acts_of id log ++ acts_of id more
acts_of-append id [] more = refl
acts_of-append id (Given p b ∷ log) more = acts_of-append id log more
acts_of-append id (Drained p n ∷ log) more = acts_of-append id log more
acts_of-append id (Did c a ∷ log) more = grind (arith, nat_tests, acts_of-append id log more)

pub acts_of-own : (id : ℕ) (acts : List Act) → acts_of id (map (Did id) acts) ≡ acts
acts_of-own id [] = refl
acts_of-own id (a ∷ acts) = grind (arith, nat_tests, acts_of-own id acts)

pub acts_of-other : (id c : ℕ) (acts : List Act) → nat_eq c id ≡ false → acts_of id (map (Did c) acts) ≡ []
acts_of-other id c [] e = refl
acts_of-other id c (a ∷ acts) e = grind (arith, nat_tests, acts_of-other id c acts e)
