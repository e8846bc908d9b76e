-- The reading of a subscriber's line by the code, step by step. No public clause cites it: the text of Closes defines reading.
use Rattle.std.specs.Prelude.{ℕ, ◌==◌, List, Option, Some, None, if◌then◌else◌}
use Rattle.roam_tokens.specs.Numbers.{number_in}
use Rattle.roam_tokens.specs.Words.{first_word}
use Rattle.roam_pane_protocol.specs.declared.closes.Close.{Close}

-- a number that isn't 0
abbrev pub above_zero : Option ℕ → Option ℕ
above_zero None = None
above_zero (Some n) = if n == 0 then None else Some n

abbrev pub pane_in : List ℕ → Option ℕ
pane_in text = above_zero (number_in 9 text)

abbrev pub generation_in : List ℕ → Option ℕ
generation_in text = number_in 18446744073709551615 text

-- a generation, and the pane that is named behind it
abbrev pub generation_alone : Option ℕ → Option (ℕ × Option ℕ)
generation_alone None = None
generation_alone (Some generation) = Some (generation, None)

abbrev pub generation_with : Option ℕ → Option ℕ → Option (ℕ × Option ℕ)
generation_with None focus = None
generation_with (Some generation) None = None
generation_with (Some generation) (Some focus) = Some (generation, Some focus)

abbrev pub generation_and_focus_at : List ℕ → Option (List ℕ × List ℕ) → Option (ℕ × Option ℕ)
generation_and_focus_at text None = generation_alone (generation_in text)
generation_and_focus_at text (Some words) = generation_with (generation_in words.0) (pane_in words.1)

abbrev pub generation_and_focus_in : List ℕ → Option (ℕ × Option ℕ)
generation_and_focus_in text = generation_and_focus_at text (first_word text)

-- a pane, and the words behind it
abbrev pub close_of : Option ℕ → Option (ℕ × Option ℕ) → Option Close
close_of None rest = None
close_of (Some pane) None = None
close_of (Some pane) (Some rest) = Some (record { pane = pane; generation = rest.0; focus = rest.1 })

abbrev pub close_at : Option (List ℕ × List ℕ) → Option Close
close_at None = None
close_at (Some words) = close_of (pane_in words.0) (generation_and_focus_in words.1)

-- the close behind its first word
abbrev pub close_in : List ℕ → Option Close
close_in text = close_at (first_word text)
