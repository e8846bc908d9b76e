-- The sockets of the first panes, one more after another.
use Rattle.std.proofs.Common.{arith, ◌≡◌, ◌+◌, ◌∷◌, ◌++◌, [], ℕ, suc, Bool, List, None, All, length, map, string_bytes, length-append, refl, sym, ap, ◌∙◌}
use Rattle.std.proofs.lemmas.List.{map-append}
use Rattle.std.proofs.lemmas.List.Elements.{All-append}
use Rattle.roam_pane_sockets.specs.declared.panes.Pane.{Pane}
use Rattle.roam_pane_sockets.specs.PaneInputs.{IsFreshPaneInput}
use Rattle.roam_pane_sockets.specs.Panes.{path_of, paths_of}

abbrev pub bytes_of : Pane → List ℕ
bytes_of pane = string_bytes pane.path

-- no making of a pane is there
abbrev pub IsNone : Pane → Type 0
IsNone pane = pane.making ≡ None

-- nothing came to it
abbrev pub IsFresh : Bool → Pane → Type 0
IsFresh normalize pane = IsFreshPaneInput pane.pane_input normalize

-- these are the sockets of the panes before this one, and none of those is there
pub record AreBound (folder : List ℕ) (normalize : Bool) (number : ℕ) (panes : List Pane) : Type 0 where
  pub before : length panes + 1 ≡ number
  pub paths : map bytes_of panes ≡ paths_of folder (length panes)
  pub none : All IsNone panes
  pub fresh : All (IsFresh normalize) panes

-- with that of this one they are those before the next
pub one_more : (folder : List ℕ) (normalize : Bool) (number : ℕ) (panes : List Pane) (pane : Pane) → AreBound folder normalize number panes
    → bytes_of pane ≡ path_of folder number → IsNone pane → IsFresh normalize pane → AreBound folder normalize (number + 1) (panes ++ pane ∷ [])
one_more folder normalize number panes pane bound path none fresh =
    let count : length (panes ++ pane ∷ []) ≡ number = omega (arith, length-append panes (pane ∷ []), bound.before) in
    let alone : All IsNone (pane ∷ []) = λ k d lt. let first : k ≡ 0 = omega (arith, lt) in rw first none in
    let new : All (IsFresh normalize) (pane ∷ []) = λ k d lt. let first : k ≡ 0 = omega (arith, lt) in rw first fresh in
    let next : length (panes ++ pane ∷ []) ≡ suc (length panes) = omega (arith, length-append panes (pane ∷ [])) in
    let at : number ≡ suc (length panes) = omega (arith, bound.before) in
    let mine : bytes_of pane ≡ path_of folder (suc (length panes)) = path ∙ ap (path_of folder) at in
    let paths : map bytes_of panes ++ bytes_of pane ∷ [] ≡ paths_of folder (suc (length panes)) = rw (bound.paths, mine) refl in
    record {
      before = ap (λ (n : ℕ). n + 1) count;
      paths = map-append bytes_of panes (pane ∷ []) ∙ paths ∙ ap (paths_of folder) (sym next);
      none = All-append IsNone panes (pane ∷ []) bound.none alone;
      fresh = All-append (IsFresh normalize) panes (pane ∷ []) bound.fresh new;
    }
