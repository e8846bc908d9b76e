-- The face at worked rows: 4 by 17, split to the right, the panes showing ab and cd.
use Rattle.std.proofs.Common.{◌≡◌, ℕ, pos, List, ◌∷◌, ◌++◌, replicate, true, refl, lit<}
use Rattle.std.specs.Prelude.{◌==◌, if◌then◌else◌, slice_set, codes}
use Rattle.std.proofs.lemmas.Fmt.{decimal_digit}
use Rattle.std.specs.List.{flat_map}
use Rattle.roam_cells.specs.Glyph.{Glyph, blank, default_style}
use Rattle.roam_screens.specs.Screenshot.{Screenshot}
use Rattle.roam_layout.specs.Trees.{One, Two}
use Rattle.roam_layout.specs.Layouts.{Plan, start}
use Rattle.roam_layout.specs.Faces.{character, face, face_row}
use Rattle.roam_layout.specs.declared.rects.Way.TheVariants.{Right}

abbrev halves : Plan
halves = record (start 4 17) { tree = Two Right (pos 0) (One 1) (One 2); focus = 2 }

-- a picture of 3 by 8 with two characters at its instance and the cursor after them
abbrev written : ℕ → ℕ → Screenshot
written a b =
    record {
      rows = 3;
      cols = 8;
      cells = character a default_style ∷ character b default_style ∷ replicate 22 blank;
      cursor_row = 1;
      cursor_col = 3;
      visible = true;
    }

abbrev pictures : ℕ → Screenshot
pictures p = if p == 1 then written 97 98 else written 99 100

abbrev text : Plan → ℕ → List ℕ
text s r = flat_map (λ (x : Glyph). x.points) (face_row s pictures r)

first_row : text halves 1 ≡ codes "ab      " ++ 0x2502 ∷ codes "cd      "
first_row = refl

second_row : text halves 2 ≡ codes "        " ++ 0x2502 ∷ codes "        "
second_row = refl

last_row : text halves 4 ≡ codes " 1 [2]           "
last_row = rw (decimal_digit 1 (lit< tt), decimal_digit 2 (lit< tt)) refl

scrolled : text (record halves { views = slice_set halves.views 2 1 }) 4 ≡ codes " 1 [2] ^1        "
scrolled = rw (decimal_digit 1 (lit< tt), decimal_digit 2 (lit< tt)) refl

cursor : (face halves pictures).cursor_col ≡ 12
cursor = refl
