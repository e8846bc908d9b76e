-- A plan as a code of numbers and lists.
use Rattle.std.specs.Prelude.{◌≡◌, ℕ, ℤ, Bool, true, false, ◌⊎◌, List, [], ◌∷◌, refl}
use Rattle.std.proofs.Common.{ap, ◌∙◌, inl, inr}
use Rattle.std.specs.Coded.{Coded, code_by, coded_ℕ, coded_ℤ, coded_bool, coded_list, coded×, coded⊎}
use Rattle.roam_layout.specs.Trees.{Shape, One, Two}
use Rattle.roam_layout.specs.Layouts.{Plan}
use Rattle.roam_layout.specs.declared.rects.Way.{Way}
use Rattle.roam_layout.specs.declared.rects.Way.TheVariants.{Right, Down}

-- a node: a pane, or a split's way (true is right) and shift
abbrev pub Node : Type 0
Node = ℕ ⊎ (Bool × ℤ)

abbrev pub spell : Shape → List Node → List Node
spell (One p) rest = inl p ∷ rest
spell (Two Right g a b) rest = inr (true, g) ∷ spell a (spell b rest)
spell (Two Down g a b) rest = inr (false, g) ∷ spell a (spell b rest)

abbrev pub way_of : Bool → Way
way_of true = Right
way_of false = Down

abbrev pub join : Bool → ℤ → List Shape → List Shape
join w g [] = []
join w g (a ∷ []) = []
join w g (a ∷ b ∷ rest) = Two (way_of w) g a b ∷ rest

abbrev pub shapes_of : List Node → List Shape
shapes_of [] = []
shapes_of (inl p ∷ rest) = One p ∷ shapes_of rest
shapes_of (inr n ∷ rest) = join n.0 n.1 (shapes_of rest)

abbrev pub head_of : List Shape → Shape
head_of [] = One 0
head_of (t ∷ ts) = t

abbrev pub read_spell : (t : Shape) (rest : List Node) → shapes_of (spell t rest) ≡ t ∷ shapes_of rest
read_spell (One p) rest = refl
read_spell (Two Right g a b) rest = ap (join true g) (read_spell a (spell b rest) ∙ ap (λ ts. a ∷ ts) (read_spell b rest))
read_spell (Two Down g a b) rest = ap (join false g) (read_spell a (spell b rest) ∙ ap (λ ts. a ∷ ts) (read_spell b rest))

abbrev pub shape_code : Coded Shape
shape_code =
    code_by (List Node) (coded_list (coded⊎ coded_ℕ (coded× coded_bool coded_ℤ))) (λ t. spell t []) (λ ns. head_of (shapes_of ns))
    (λ t. ap head_of (read_spell t []))

abbrev pub plan_code : Coded Plan
plan_code =
    code_by (ℕ × (ℕ × (Shape × (ℕ × List ℕ)))) (coded× coded_ℕ (coded× coded_ℕ (coded× shape_code (coded× coded_ℕ (coded_list coded_ℕ)))))
    (λ s. (s.rows, (s.cols, (s.tree, (s.focus, s.views)))))
    (λ p. record { rows = p.0; cols = p.1.0; tree = p.1.1.0; focus = p.1.1.1.0; views = p.1.1.1.1 })
    (λ _. refl)
