-- Calls that can't be recorded for want of memory.
use Rattle.std.proofs.Common.{◌≡◌, true, List, Result, Ok, Err}
use Rattle.std.specs.Prelude.{OnErr, is_err, is_ok, if◌then◌else◌}

pub lost : {A B X : Type 0} (r : Result A B) (items more old : List X) (P : Type 0) → items ≡ (if is_ok r then more else old) → OnErr r P
    → is_err r ≡ true → (items ≡ old) × P
lost (Ok a) items more old P e full is = absurd cc
lost (Err b) items more old P e full is = (e, full)
