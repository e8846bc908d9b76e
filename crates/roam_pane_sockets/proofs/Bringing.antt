-- The bytes of a generation that go to a pane's terminal.
use Rattle.std.proofs.Common.{IfSome, Some, ◌∙◌, ◌≤◌, length, take, ◌≡◌, List, [], ◌++◌, ℕ, Option, None, is_some, refl, sym, subst, append-nil}
use Rattle.std.proofs.lemmas.List.{take-append-le}
use Rattle.roam_pane_sockets.specs.PaneInputs.{Brings, BringsPiece, Carries}
use Rattle.roam_pane_sockets.specs.FilterStages.{bytes_given}
use Rattle.roam_pane_sockets.specs.declared.pane_inputs.PaneInput.{PaneInput}
use Rattle.roam_pane_sockets.specs.declared.peers.Heard.{Heard}
use Rattle.roam_pane_sockets.specs.declared.peers.Heard.TheVariants.{Piece}

-- nothing came, and these bytes go on
pub goes-on : (old new : PaneInput) (bytes : List ℕ) → ((came given : List ℕ) → Carries old came given → Carries new came (given ++ bytes))
    → is_some new.filter_stage ≡ is_some old.filter_stage → Brings old new bytes
goes-on old new bytes on kind = record {
  piece = [];
  carries = λ came given h. subst (λ all. Carries new all (given ++ bytes)) (sym (append-nil came)) (on came given h);
  kind = kind;
}

-- nothing came, and nothing goes on
pub nothing-came : (old new : PaneInput) (result : Option ℕ) (buf : List ℕ) → new ≡ old → result ≡ None → Brings old new (bytes_given result buf)
nothing-came old new result buf same none =
    subst (λ r. Brings old new (bytes_given r buf)) (sym none) (subst (λ i. Brings old i []) (sym same) (goes-on old old []
    (λ came given h. subst (λ all. Carries old came all) (sym (append-nil given)) h) refl))

-- the bytes that were read go on, or none do
pub brought : (old mid new : PaneInput) (result : Option ℕ) (now : ℕ) (buf : List ℕ) → mid ≡ old
    → IfSome result (λ n. BringsPiece now mid new n (take n buf)) → (result ≡ None → new ≡ mid) → Brings old new (bytes_given result buf)
brought old mid new None now buf same brings none = nothing-came old new None buf (none refl ∙ same) refl
brought old mid new (Some n) now buf same brings none =
    subst (λ (i : PaneInput). Brings i new (take n buf)) same
    (record { piece = brings.0; carries = brings.1.carries; kind = brings.1.kind })

-- how many bytes a read brought
abbrev pub how-many : Heard → ℕ
how-many (Piece n) = n
how-many other = 0

-- a beginning stays the same if more bytes follow
pub front-kept : (n : ℕ) (xs ys : List ℕ) → n ≤ length xs → take n (xs ++ ys) ≡ take n xs
front-kept n xs ys within = take-append-le n xs ys within
