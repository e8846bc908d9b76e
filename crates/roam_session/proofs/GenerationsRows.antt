-- Worked rows: the generations of panes in a session of 24 by 80 whose client gave these commands one after another.
use Rattle.std.proofs.Common.{◌≡◌, List, [], ◌∷◌, map, Some, None, refl}
use Rattle.roam_acts.specs.declared.acts.Act.{Act}
use Rattle.roam_acts.specs.declared.acts.Act.TheVariants.{Key, SplitRight, SplitDown, Close, Focus, Next, Size}
use Rattle.roam_keys.specs.declared.keys.Key.TheVariants.{Up}
use Rattle.roam_session.specs.Sessions.{Entry, Given, Did, Drained, SessionSize, session}
use Rattle.roam_session.specs.Generations.{made_through, generation_of}

abbrev size : SessionSize
size = record { rows = 24; cols = 80 }

abbrev by : List Act → List Entry
by acts = map (Did 7) acts

-- a new session has pane 1 alone
new_one : generation_of size [] 1 ≡ Some 1
unfolding session made_through generation_of
new_one = refl

new_two : generation_of size [] 2 ≡ None
unfolding session made_through generation_of
new_two = refl

-- a split makes the next pane
split : generation_of size (by (SplitRight ∷ [])) 2 ≡ Some 1
unfolding session made_through generation_of
split = refl

split_one : generation_of size (by (SplitRight ∷ [])) 1 ≡ Some 1
unfolding session made_through generation_of
split_one = refl

-- a closed pane has no generation, and the next of its number the next generation
closed : generation_of size (by (SplitRight ∷ Close ∷ [])) 2 ≡ None
unfolding session made_through generation_of
closed = refl

split_again : generation_of size (by (SplitRight ∷ Close ∷ SplitRight ∷ [])) 2 ≡ Some 2
unfolding session made_through generation_of
split_again = refl

in_a_row : generation_of size (by (SplitRight ∷ Close ∷ SplitDown ∷ Close ∷ SplitRight ∷ [])) 2 ≡ Some 3
unfolding session made_through generation_of
in_a_row = refl

-- the other pane keeps its generation
beside : generation_of size (by (SplitRight ∷ Close ∷ SplitDown ∷ Close ∷ SplitRight ∷ [])) 1 ≡ Some 1
unfolding session made_through generation_of
beside = refl

-- pane 1 too may be closed and made again
first_again : generation_of size (by (SplitRight ∷ Focus 1 ∷ Close ∷ SplitRight ∷ [])) 1 ≡ Some 2
unfolding session made_through generation_of
first_again = refl

-- a refused command, a key, another focus, bytes and a drain make none
others : generation_of size (Did 7 Close ∷ Did 7 (Key Up) ∷ Did 7 SplitRight ∷ Did 7 Next ∷ Given 2 (65 ∷ []) ∷ Drained 2 0 ∷ []) 2 ≡ Some 1
unfolding session made_through generation_of
others = refl

-- nor does another size
resized : generation_of size (by (SplitRight ∷ Size 30 90 ∷ Size 2 2 ∷ [])) 2 ≡ Some 1
unfolding session made_through generation_of
resized = refl
