-- The records that are asked with (this project's profile), a line each, without its LF.
use Rattle.std.specs.Prelude.{ℕ, ◌^◌, ◌<◌, List, ◌∷◌, ◌++◌, codes, decimal}
use Rattle.roam_scrollback_stream.specs.declared.requests.Request.{Request}
use Rattle.roam_scrollback_stream.specs.declared.requests.Request.TheVariants.{Pane, Size, Rewrap, Bytes, Screen, Gone}

-- so many terminals, numbered from 0
abbrev pub most_terminals : ℕ
most_terminals = 1024

-- a terminal, and so many rows and columns
abbrev pub sized_text : ℕ → ℕ → ℕ → List ℕ
sized_text n rows cols = decimal n ++ 0x20 ∷ (decimal rows ++ 0x20 ∷ decimal cols)

-- a terminal, and how many bytes follow
abbrev pub counted_text : ℕ → ℕ → List ℕ
counted_text n count = decimal n ++ 0x20 ∷ decimal count

-- how it is written
abbrev pub request_text : Request → List ℕ
request_text (Pane n rows cols) = codes "pane " ++ sized_text n rows cols
request_text (Size n rows cols) = codes "size " ++ sized_text n rows cols
request_text (Rewrap n rows cols) = codes "rewrap " ++ sized_text n rows cols
request_text (Bytes n count) = codes "bytes " ++ counted_text n count
request_text (Screen n) = codes "screen " ++ decimal n
request_text (Gone n) = codes "gone " ++ decimal n

-- a terminal, and numbers of 16 bits
pub record IsSized (n rows cols : ℕ) : Type 0 where
  pub terminal : n < most_terminals
  pub few_rows : rows < 2 ^ 16
  pub few_columns : cols < 2 ^ 16

-- it is of a terminal, and its numbers have 16 bits, how many bytes follow 64
abbrev pub IsRequest : Request → Type 0
IsRequest (Pane n rows cols) = IsSized n rows cols
IsRequest (Size n rows cols) = IsSized n rows cols
IsRequest (Rewrap n rows cols) = IsSized n rows cols
IsRequest (Bytes n count) = (n < most_terminals) × (count < 2 ^ 64)
IsRequest (Screen n) = n < most_terminals
IsRequest (Gone n) = n < most_terminals
