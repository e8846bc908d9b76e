-- How long was waited.
use Rattle.std.proofs.Common.{◌≡◌, ℕ, Bool, true, false, Option, None, Some}
use Rattle.std.specs.Prelude.{◌≢◌, IfSome}

-- a wait lasted as long as was asked for, and a wait was asked for
pub waits_no_longer : (longest asked : ℕ) (quiet : Bool) (waited : Option ℕ) (Went : Type 0)
    → IfSome waited (λ long. (quiet ≡ true) × (long ≡ asked) × Went) → (longest ≡ 0 → quiet ≡ false)
    → IfSome waited (λ long. (longest ≢ 0) × (long ≡ asked))
waits_no_longer longest asked quiet None Went h stirred = tt
waits_no_longer longest asked quiet (Some long) Went h stirred =
    (λ none. let no = stirred none in let yes = h.0 in absurd cc, h.1)
