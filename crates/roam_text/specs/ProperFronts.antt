-- The proper beginnings of characters: each unfinished end of some bytes is one.
use Rattle.std.specs.Prelude.{◌≡◌, ℕ, ◌<◌, List, ◌++◌, length}
use Rattle.bstr.specs.Utf8.{decoded, good}

-- some bytes that one or more further bytes make one whole character of, or no bytes (Unicode Table 3-7)
pub record IsProperFront (bs : List ℕ) : Type 0 where
  pub more : List ℕ
  pub some : 0 < length more
  pub char : ℕ
  pub whole : decoded (bs ++ more) ≡ good char (length (bs ++ more))
