-- Two or three bytes decode without further bytes if the first begins a character of that length.
use Rattle.std.proofs.Common.{◌≡◌, ℕ, ◌<◌, ◌≤◌, false, List, ◌++◌, length, take, drop, slice_index, sym, ap, ◌∙◌, arith, ⊎_elim}
use Rattle.std.proofs.lemmas.Bool.{cases_Bool}
use Rattle.std.proofs.lemmas.Bool.Decides.{nat_tests}
use Rattle.std.proofs.lemmas.List.{get_or_append_left, take-append-drop, length-take-le}
use Rattle.bstr.specs.Utf8.{decoded, lead_len}
use Rattle.roam_text.specs.Log.{is_unfinished}
use Rattle.roam_text.proofs.Bytes.{is_unfinished-true, decoded-extend}

lead-two : (b : ℕ) → 0xC2 ≤ b → b < 0xE0 → lead_len b ≡ 2
lead-two b low high = grind (arith, nat_tests)

lead-three : (b : ℕ) → 0xE1 ≤ b → b < 0xED → lead_len b ≡ 3
lead-three b low high = grind (arith, nat_tests)

module _ (bs : List ℕ) (n : ℕ) (some : 0 < n) (long : n ≤ length bs) (leads : lead_len (slice_index bs 0) ≡ n) where
  long-is : length (take n bs) ≡ n
  long-is = length-take-le n bs long

  joined : take n bs ++ drop n bs ≡ bs
  joined = take-append-drop n bs

  first : slice_index (take n bs) 0 ≡ slice_index bs 0
  first = sym (get_or_append_left (take n bs) (drop n bs) 0 0 (omega (arith, long-is, some))) ∙ ap (λ l. slice_index l 0) joined

  lead : lead_len (slice_index (take n bs) 0) ≡ n
  lead = ap lead_len first ∙ leads

  finished : is_unfinished (take n bs) ≡ false
  finished = ⊎_elim (λ h. let short = (is_unfinished-true (take n bs) h).short in absurd (omega (arith, long-is, lead, short))) (λ h. h)
      (cases_Bool (is_unfinished (take n bs)))

  so-many-alone : decoded (take n bs) ≡ decoded bs
  so-many-alone = sym (decoded-extend (take n bs) (drop n bs) finished) ∙ ap decoded joined

pub two-alone : (bs : List ℕ) → 2 ≤ length bs → 0xC2 ≤ slice_index bs 0 → slice_index bs 0 < 0xE0 → decoded (take 2 bs) ≡ decoded bs
two-alone bs long low high = so-many-alone bs 2 (omega arith) long (lead-two (slice_index bs 0) low high)

pub three-alone : (bs : List ℕ) → 3 ≤ length bs → 0xE1 ≤ slice_index bs 0 → slice_index bs 0 < 0xED → decoded (take 3 bs) ≡ decoded bs
three-alone bs long low high = so-many-alone bs 3 (omega arith) long (lead-three (slice_index bs 0) low high)
