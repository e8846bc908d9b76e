-- How long the line of an act is at most.
use Rattle.std.proofs.Common.{ℕ, ◌+◌, ◌≤◌, List, ◌∷◌, length, ap, arith, length-append}
use Rattle.std.proofs.lemmas.Fmt.{length-decimal-le, length_signed_le}
use Rattle.std.proofs.lemmas.Int.{ints}
use Rattle.std.specs.Prelude.{decimal, ◌≤ℤ◌, ℤ, pos, negsuc}
use Rattle.std.specs.Int.Signed.{mag}
use Rattle.roam_acts.specs.declared.acts.Act.{Act}
use Rattle.roam_acts.specs.declared.acts.Act.TheVariants as act
use Rattle.roam_acts.specs.declared.Key.{Key}
use Rattle.roam_acts.specs.declared.Key.TheVariants as key
use Rattle.roam_acts.specs.Acts.{IsAct}
use Rattle.roam_acts.specs.Kinds.{head_of, kind_of, kind_of_key}
use Rattle.roam_acts.specs.Lines.{IsArgument, IsKeyArgument}
use Rattle.roam_terminal_input.specs.Keys.{IsLineOf}

grows_little : (by : ℤ) → negsuc 98 ≤ℤ by → by ≤ℤ pos 99 → mag by ≤ 500
grows_little by low high = grind (arith, ints)

moves_little : (by : ℤ) → negsuc 499 ≤ℤ by → by ≤ℤ pos 500 → mag by ≤ 500
moves_little by low high = grind (arith, ints)

-- a code point, or a key's name
key_is_short : (k : Key) (text : List ℕ) → IsKeyArgument k text → length (head_of (kind_of_key k)) + length text ≤ 20
key_is_short (key.Char c) text is = omega (arith, is.1)
key_is_short key.Up text is = omega (arith, ap (λ (t : List ℕ). length t) is)
key_is_short key.Down text is = omega (arith, ap (λ (t : List ℕ). length t) is)
key_is_short key.Right text is = omega (arith, ap (λ (t : List ℕ). length t) is)
key_is_short key.Left text is = omega (arith, ap (λ (t : List ℕ). length t) is)
key_is_short key.Pf1 text is = omega (arith, ap (λ (t : List ℕ). length t) is)
key_is_short key.Pf2 text is = omega (arith, ap (λ (t : List ℕ). length t) is)
key_is_short key.Pf3 text is = omega (arith, ap (λ (t : List ℕ). length t) is)
key_is_short key.Pf4 text is = omega (arith, ap (λ (t : List ℕ). length t) is)
key_is_short key.Find text is = omega (arith, ap (λ (t : List ℕ). length t) is)
key_is_short key.Insert text is = omega (arith, ap (λ (t : List ℕ). length t) is)
key_is_short key.Remove text is = omega (arith, ap (λ (t : List ℕ). length t) is)
key_is_short key.Select text is = omega (arith, ap (λ (t : List ℕ). length t) is)
key_is_short key.Prev text is = omega (arith, ap (λ (t : List ℕ). length t) is)
key_is_short key.Next text is = omega (arith, ap (λ (t : List ℕ). length t) is)
key_is_short key.F6 text is = omega (arith, ap (λ (t : List ℕ). length t) is)
key_is_short key.F7 text is = omega (arith, ap (λ (t : List ℕ). length t) is)
key_is_short key.F8 text is = omega (arith, ap (λ (t : List ℕ). length t) is)
key_is_short key.F9 text is = omega (arith, ap (λ (t : List ℕ). length t) is)
key_is_short key.F10 text is = omega (arith, ap (λ (t : List ℕ). length t) is)
key_is_short key.F11 text is = omega (arith, ap (λ (t : List ℕ). length t) is)
key_is_short key.F12 text is = omega (arith, ap (λ (t : List ℕ). length t) is)
key_is_short key.F13 text is = omega (arith, ap (λ (t : List ℕ). length t) is)
key_is_short key.F14 text is = omega (arith, ap (λ (t : List ℕ). length t) is)
key_is_short key.F15 text is = omega (arith, ap (λ (t : List ℕ). length t) is)
key_is_short key.F16 text is = omega (arith, ap (λ (t : List ℕ). length t) is)
key_is_short key.F17 text is = omega (arith, ap (λ (t : List ℕ). length t) is)
key_is_short key.F18 text is = omega (arith, ap (λ (t : List ℕ). length t) is)
key_is_short key.F19 text is = omega (arith, ap (λ (t : List ℕ). length t) is)
key_is_short key.F20 text is = omega (arith, ap (λ (t : List ℕ). length t) is)
key_is_short key.Pad0 text is = omega (arith, ap (λ (t : List ℕ). length t) is)
key_is_short key.Pad1 text is = omega (arith, ap (λ (t : List ℕ). length t) is)
key_is_short key.Pad2 text is = omega (arith, ap (λ (t : List ℕ). length t) is)
key_is_short key.Pad3 text is = omega (arith, ap (λ (t : List ℕ). length t) is)
key_is_short key.Pad4 text is = omega (arith, ap (λ (t : List ℕ). length t) is)
key_is_short key.Pad5 text is = omega (arith, ap (λ (t : List ℕ). length t) is)
key_is_short key.Pad6 text is = omega (arith, ap (λ (t : List ℕ). length t) is)
key_is_short key.Pad7 text is = omega (arith, ap (λ (t : List ℕ). length t) is)
key_is_short key.Pad8 text is = omega (arith, ap (λ (t : List ℕ). length t) is)
key_is_short key.Pad9 text is = omega (arith, ap (λ (t : List ℕ). length t) is)
key_is_short key.PadMinus text is = omega (arith, ap (λ (t : List ℕ). length t) is)
key_is_short key.PadComma text is = omega (arith, ap (λ (t : List ℕ). length t) is)
key_is_short key.PadPeriod text is = omega (arith, ap (λ (t : List ℕ). length t) is)
key_is_short key.PadEnter text is = omega (arith, ap (λ (t : List ℕ). length t) is)
key_is_short key.Return text is = omega (arith, ap (λ (t : List ℕ). length t) is)
key_is_short key.Backspace text is = omega (arith, ap (λ (t : List ℕ). length t) is)

whole_is_short : (a : Act) (text : List ℕ) → IsAct a → IsArgument a text → length (head_of (kind_of a)) + length text ≤ 20
whole_is_short (act.Key k) text good is = key_is_short k text is
whole_is_short act.SplitRight text good is = omega (arith, ap (λ (t : List ℕ). length t) is)
whole_is_short act.SplitDown text good is = omega (arith, ap (λ (t : List ℕ). length t) is)
whole_is_short act.Close text good is = omega (arith, ap (λ (t : List ℕ). length t) is)
whole_is_short (act.Focus pane) text good is =
    let short = length-decimal-le 1 pane (omega arith) (omega (arith, good.0.1)) (omega (arith, good.0.1)) in
    omega (arith, short, ap (λ (t : List ℕ). length t) is)
whole_is_short act.Next text good is = omega (arith, ap (λ (t : List ℕ). length t) is)
whole_is_short (act.Grow by) text good is =
    let little = grows_little by good.0.0 good.0.1 in
    let short = length_signed_le 3 by (omega (arith, little)) (omega (arith, little)) in
    omega (arith, short, ap (λ (t : List ℕ). length t) is)
whole_is_short (act.Size rows cols) text good is =
    let one = length-decimal-le 4 rows (omega arith) (omega (arith, good.0.0)) (omega (arith, good.0.0)) in
    let other = length-decimal-le 4 cols (omega arith) (omega (arith, good.0.1)) (omega (arith, good.0.1)) in
    omega (arith, one, other, length-append (decimal rows) (32 ∷ decimal cols), ap (λ (t : List ℕ). length t) is)
whole_is_short (act.View by) text good is =
    let little = moves_little by good.0.0 good.0.1 in
    let short = length_signed_le 3 by (omega (arith, little)) (omega (arith, little)) in
    omega (arith, short, ap (λ (t : List ℕ). length t) is)

-- the line of an act has at most 20 bytes
pub act_is_short : (line : List ℕ) (a : Act) → IsLineOf line a → length line ≤ 20
act_is_short line a (good, (text, is, says)) =
    let short = whole_is_short a text good says in
    omega (arith, short, length-append (head_of (kind_of a)) text, ap (λ (t : List ℕ). length t) is)
