-- Numbers of at most three digits.
use Rattle.std.specs.Prelude.{ℕ, ◌≡◌, ◌≤◌, ◌<◌, ◌+◌, ◌-◌, ◌*◌}

-- that so many of three bytes are digits, from the first on, and spell this number
pub record IsShortNumber (digits number a b c : ℕ) : Type 0 where
  pub few : digits ≤ 3
  pub first : 0 < digits → (0x30 ≤ a) × (a < 0x3A)
  pub second : 1 < digits → (0x30 ≤ b) × (b < 0x3A)
  pub third : 2 < digits → (0x30 ≤ c) × (c < 0x3A)
  pub one : digits ≡ 1 → number ≡ a - 48
  pub two : digits ≡ 2 → number ≡ 10 * (a - 48) + (b - 48)
  pub three : digits ≡ 3 → number ≡ 10 * (10 * (a - 48) + (b - 48)) + (c - 48)
