-- The first separator, searched place by place.
use Rattle.std.proofs.Common.{◌≡◌, ℕ, suc, ◌+◌, ◌<◌, true, false, List, [], ◌∷◌, length, get_or, drop, Option, Some, None, refl, sym, ap, ◌∙◌, arith}
use Rattle.std.proofs.Math.Seq.{drop-cons, drop-length}
use Rattle.std.specs.Option.{option_map}
use Rattle.roam_terminal_input.specs.Entries.{begins_separator, cut_of}

pub from_start : (o : Option ℕ) → o ≡ option_map (λ k. 0 + k) o
from_start None = refl
from_start (Some k) = ap Some (omega arith)

one_later : (at : ℕ) (o : Option ℕ) → option_map (λ k. at + k) (option_map suc o) ≡ option_map (λ k. at + 1 + k) o
one_later at None = refl
one_later at (Some k) = ap Some (omega arith)

here : (b : ℕ) (bs : List ℕ) → begins_separator (b ∷ bs) ≡ true → cut_of (b ∷ bs) ≡ Some 0
here b bs is = rw is refl

not_here : (b : ℕ) (bs : List ℕ) → begins_separator (b ∷ bs) ≡ false → cut_of (b ∷ bs) ≡ option_map suc (cut_of bs)
not_here b bs none = rw none refl

module _ (text : List ℕ) (at : ℕ) (lt : at < length text) where
  front : drop at text ≡ get_or text at 0 ∷ drop (suc at) text
  front = drop-cons text at 0 lt

  pub found_at : cut_of text ≡ option_map (λ k. at + k) (cut_of (drop at text)) → begins_separator (drop at text) ≡ true → Some at ≡ cut_of text
  found_at so_far is =
      let first : cut_of (drop at text) ≡ Some 0 = ap cut_of front ∙ here (get_or text at 0) (drop (suc at) text) (ap begins_separator (sym front) ∙ is) in
      let same : at ≡ at + 0 = omega arith in
      sym (so_far ∙ ap (option_map (λ k. at + k)) first ∙ ap Some (sym same))

  pub goes_on : cut_of text ≡ option_map (λ k. at + k) (cut_of (drop at text)) → begins_separator (drop at text) ≡ false
      → cut_of text ≡ option_map (λ k. at + 1 + k) (cut_of (drop (at + 1) text))
  goes_on so_far none =
      let next : suc at ≡ at + 1 = omega arith in
      let later : cut_of (drop at text) ≡ option_map suc (cut_of (drop (at + 1) text)) =
      ap cut_of front ∙ not_here (get_or text at 0) (drop (suc at) text) (ap begins_separator (sym front) ∙ none)
      ∙ ap (λ n. option_map suc (cut_of (drop n text))) next in
      so_far ∙ ap (option_map (λ k. at + k)) later ∙ one_later at (cut_of (drop (at + 1) text))

pub nowhere : (text : List ℕ) (at : ℕ) → at ≡ length text → cut_of text ≡ option_map (λ k. at + k) (cut_of (drop at text)) → None ≡ cut_of text
nowhere text at is so_far =
    let none : drop at text ≡ [] = ap (λ n. drop n text) is ∙ drop-length text in
    sym (so_far ∙ ap (λ t. option_map (λ k. at + k) (cut_of t)) none)
