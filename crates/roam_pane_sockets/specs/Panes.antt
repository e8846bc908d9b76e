-- The files of the panes' sockets.
use Rattle.std.specs.Prelude.{ℕ, zero, suc, List, [], ◌∷◌, ◌++◌, codes, decimal}

-- the socket of a pane in a folder
abbrev pub path_of : List ℕ → ℕ → List ℕ
path_of folder number = folder ++ codes "/p" ++ decimal number

-- those of the first n panes
abbrev pub paths_of : List ℕ → ℕ → List (List ℕ)
paths_of folder zero = []
paths_of folder (suc n) = paths_of folder n ++ path_of folder (suc n) ∷ []
