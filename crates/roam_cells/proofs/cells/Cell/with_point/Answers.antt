use Rattle.std.proofs.Common.{◌≡◌, ◌∙◌, ◌+◌, ◌<◌, ◌≤◌, ◌++◌, ◌∷◌, [], ℕ, List, take, set, drop, length, refl, sym, ap, arith}
use Rattle.std.proofs.Common.{length-append, length-drop, length-set}
use Rattle.std.proofs.lemmas.List.{length-take-le}
use Rattle.roam_cells.specs.Glyph.{is_cell_text, is_text}
use Rattle.roam_cells.specs.Inks.{InkValue}
use Rattle.roam_cells.proofs.Joining.{at_end, from_some, from_none, joined_of, room_for_one, text_few}
use Rattle.roam_cells.proofs.cells.Cell.with_point.Goals as goal

-- a list with a point put before the rest has a place for one more
place_for_one : (new zs : List ℕ) (n c : ℕ) → n < length zs → length new ≡ length (take n zs) → n + 1 ≤ length (set (new ++ drop n zs) n c)
place_for_one new zs n c room len =
    let front = len ∙ length-take-le n zs (omega arith) in
    simp (length-set, length-append, length-drop) (omega (arith, room, front))

pub returns-in-Some : goal.returns-in-Some
returns-in-Some c =
    let x = c.args.self.now in
    let xs = c.as_slice-chars.result.now in
    let zs : List ℕ = drop (length xs) (0 ∷ 0 ∷ 0 ∷ 0 ∷ []) in
    let some : 0 < length zs = room_for_one xs (0 ∷ 0 ∷ 0 ∷ 0 ∷ []) (ap is_text (c.as_slice-chars.ensures.points ∙ c.chars-points_of.ensures.points) ∙ c.facts.ensures.text) refl in
    let points = ap (λ (l : List ℕ). take (length xs + 1) (set (l ++ zs) (length xs) c.args.c)) c.copy_from_slice.ensures.after ∙ at_end xs zs (length xs) c.args.c refl some ∙ ap (λ (l : List ℕ). l ++ c.args.c ∷ []) (c.as_slice-chars.ensures.points ∙ c.chars-points_of.ensures.points) in
    record {
      cell = from_some (is_cell_text (x.points ++ c.args.c ∷ [])) (record x { points = x.points ++ c.args.c ∷ [] }) c.in-Some.joined x
          (joined_of _ _ _ _ x points (ap (λ (v : InkValue). v.style) c.ink.ensures.ink) (ap (λ (v : InkValue). v.guarded) c.ink.ensures.ink) ∙ sym c.of_ink.ensures.cell ∙ c.in-Some.is);
    }

pub returns-in-None : goal.returns-in-None
returns-in-None c =
    let x = c.args.self.now in
    let xs = c.as_slice-chars.result.now in
    let zs : List ℕ = drop (length xs) (0 ∷ 0 ∷ 0 ∷ 0 ∷ []) in
    let some : 0 < length zs = room_for_one xs (0 ∷ 0 ∷ 0 ∷ 0 ∷ []) (ap is_text (c.as_slice-chars.ensures.points ∙ c.chars-points_of.ensures.points) ∙ c.facts.ensures.text) refl in
    let points = ap (λ (l : List ℕ). take (length xs + 1) (set (l ++ zs) (length xs) c.args.c)) c.copy_from_slice.ensures.after ∙ at_end xs zs (length xs) c.args.c refl some ∙ ap (λ (l : List ℕ). l ++ c.args.c ∷ []) (c.as_slice-chars.ensures.points ∙ c.chars-points_of.ensures.points) in
    record {
      cell = from_none (is_cell_text (x.points ++ c.args.c ∷ [])) (record x { points = x.points ++ c.args.c ∷ [] }) x
          (joined_of _ _ _ _ x points (ap (λ (v : InkValue). v.style) c.ink.ensures.ink) (ap (λ (v : InkValue). v.guarded) c.ink.ensures.ink) ∙ sym c.of_ink.ensures.cell ∙ c.in-None.is);
    }

pub copy_from_slice-requires : goal.copy_from_slice-requires
copy_from_slice-requires c =
    let xs = c.as_slice-chars.result.now in
    let few = text_few xs (ap is_text (c.as_slice-chars.ensures.points ∙ c.chars-points_of.ensures.points) ∙ c.facts.ensures.text) in
    length-take-le (length xs) (0 ∷ 0 ∷ 0 ∷ 0 ∷ []) (omega (arith, few))

pub slice_bounds-copy_from_slice-end : goal.slice_bounds-copy_from_slice-end
slice_bounds-copy_from_slice-end c =
    let xs = c.as_slice-chars.result.now in
    let few = text_few xs (ap is_text (c.as_slice-chars.ensures.points ∙ c.chars-points_of.ensures.points) ∙ c.facts.ensures.text) in
    sym (length-take-le (length xs) (0 ∷ 0 ∷ 0 ∷ 0 ∷ []) (omega (arith, few)))

pub slice_bounds-points-end-2 : goal.slice_bounds-points-end-2
slice_bounds-points-end-2 c =
    let xs = c.as_slice-chars.result.now in
    let few = text_few xs (ap is_text (c.as_slice-chars.ensures.points ∙ c.chars-points_of.ensures.points) ∙ c.facts.ensures.text) in
    place_for_one c.copy_from_slice.new.self (0 ∷ 0 ∷ 0 ∷ 0 ∷ []) (length xs) c.args.c (omega (arith, few)) c.copy_from_slice.ensures.len

pub slice_bounds-of_ink-end : goal.slice_bounds-of_ink-end
slice_bounds-of_ink-end c =
    let xs = c.as_slice-chars.result.now in
    let zs : List ℕ = 0 ∷ 0 ∷ 0 ∷ 0 ∷ [] in
    let few = text_few xs (ap is_text (c.as_slice-chars.ensures.points ∙ c.chars-points_of.ensures.points) ∙ c.facts.ensures.text) in
    let place = place_for_one c.copy_from_slice.new.self zs (length xs) c.args.c (omega (arith, few)) c.copy_from_slice.ensures.len in
    sym (length-take-le (length xs + 1) (set (c.copy_from_slice.new.self ++ drop (length xs) zs) (length xs) c.args.c) place)
