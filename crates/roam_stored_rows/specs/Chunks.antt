-- Rows whose bytes lie one behind the other, and chunks of such rows.
use Rattle.std.specs.Prelude.{◌≡◌, ℕ, ◌+◌, ◌^◌, ◌<◌, ◌≤◌, List, length, slice_range}
use Rattle.std.specs.List.{All, flat_map}
use Rattle.roam_stored_rows.specs.Rows.{StoredRow}
use Rattle.roam_stored_rows.specs.declared.chunks.Place.{Place}

-- the row whose bytes have this place in a text
abbrev pub row_at : List ℕ → Place → StoredRow
row_at text place = record { wrap = place.wrap; text = slice_range text place.start place.end }

-- the place is one of a text
abbrev pub IsPlaceOf : List ℕ → Place → Type 0
IsPlaceOf text place = (place.start ≤ place.end) × (place.end ≤ length text)

-- the rows of chunks
abbrev pub joined : List (List StoredRow) → List StoredRow
joined chunks = flat_map (λ rows. rows) chunks

-- so many rows make a chunk whole
abbrev pub whole : ℕ
whole = 256

-- each chunk is whole
abbrev pub AllWhole : List (List StoredRow) → Type 0
AllWhole chunks = All (λ rows. length rows ≡ whole) chunks

-- rows in whole chunks and a last one, some of the first of which are dropped: their count is right, and fits
pub record AreChunks (chunks : List (List StoredRow)) (last : List StoredRow) (dropped count : ℕ) : Type 0 where
  pub each : AllWhole chunks
  pub last_most : length last ≤ whole
  pub total : dropped + count ≡ length (joined chunks) + length last
  pub fits : dropped + count < 2 ^ 64
