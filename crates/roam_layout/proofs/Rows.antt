-- The definitions at worked rows.
use Rattle.std.proofs.Common.{◌≡◌, pos, negsuc, [], ◌∷◌, refl}
use Rattle.roam_acts.specs.declared.acts.Act.TheVariants.{SplitRight, Close, Focus, Next, Grow, Size}
use Rattle.roam_cells.specs.declared.faults.Fault.TheVariants.{BadSize, TooSmall, NoPane, LastPane}
use Rattle.roam_layout.specs.Trees.{One, Two}
use Rattle.roam_layout.specs.Layouts.{Plan, Laid, Refused, outcome_of, start, panes, edges}
use Rattle.roam_layout.specs.declared.rects.Way.TheVariants.{Right}

-- 24 by 80, split to the right: the second pane has the focus
abbrev halves : Plan
halves = record (start 24 80) { tree = Two Right (pos 0) (One 1) (One 2); focus = 2 }

first_split : outcome_of (start 24 80) SplitRight ≡ Laid halves
first_split = refl

halves_panes : panes halves
    ≡ (1, record { row = 1; col = 1; rows = 23; cols = 39 })
    ∷ (2, record { row = 1; col = 41; rows = 23; cols = 40 })
    ∷ []
halves_panes = refl

halves_edges : edges halves ≡ (Right, record { row = 1; col = 40; rows = 23; cols = 1 }) ∷ []
halves_edges = refl

-- the pane in focus is the second child: it grows as the first child shrinks
grown_by_three : outcome_of halves (Grow (pos 3)) ≡ Laid (record halves { tree = Two Right (negsuc 2) (One 1) (One 2) })
grown_by_three = refl

too_far : outcome_of halves (Grow (pos 36)) ≡ Refused TooSmall
too_far = refl

alone : outcome_of (start 24 80) (Grow (pos 0)) ≡ Refused LastPane
alone = refl

closed_again : outcome_of halves Close ≡ Laid (start 24 80)
closed_again = refl

last_pane : outcome_of (start 24 80) Close ≡ Refused LastPane
last_pane = refl

round : outcome_of halves Next ≡ Laid (record halves { focus = 1 })
round = refl

no_pane : outcome_of halves (Focus 3) ≡ Refused NoPane
no_pane = refl

-- a size outside the limits is reported before one that is too small for the tree
outside : outcome_of halves (Size 4 7) ≡ Refused BadSize
outside = refl

too_narrow : outcome_of halves (Size 4 8) ≡ Refused TooSmall
too_narrow = refl
