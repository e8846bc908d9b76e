-- Marks of functions one after another.
use Rattle.std.proofs.Common.{◌≡◌, ℕ, ◌≤◌, ◌<◌, Bool, List, [], ◌∷◌, ◌++◌, map, refl, ap, ◌∙◌, None, Some, if◌then◌else◌, ◌==◌}
use Rattle.std.specs.List.{fold}
use Rattle.roam_cells.proofs.Ascii.{ascii_width}
use Rattle.roam_charset.specs.Sets.{set_in}
use Rattle.roam_charset.specs.declared.charsets.Charset.TheVariants.{Ascii}
use Rattle.roam_grid.specs.Marks.{marks_joined, marks_put, marks_put_all}
use Rattle.roam_grid.specs.Writing.{put_on}
use Rattle.roam_text.specs.Functions.{ArePlain}
use Rattle.roam_text.specs.declared.functions.Function.{Function}
use Rattle.roam_text.specs.declared.functions.Function.TheVariants.{Print}
use Rattle.roam_term.specs.Marks.{marked_by, marked_through, marks_printed, marks_written, marks_private_mode, marks_private_modes}
use Rattle.roam_term.specs.Terminal.{Live, glyph_in, writing_under, changed_by, private_mode_set, live_after}
use Rattle.roam_term.proofs.Prints.{changed-print, mapped-ascii, printed-plain}

pub marked-print : (c : ℕ) (l : Live) (marks : List Bool) → marked_by (Print c) l marks ≡ marks_printed c l marks
unfolding marked_by
marked-print c l marks = refl

marks-plain : (b : ℕ) (s : Live) (marks : List Bool) → 0x20 ≤ b → b < 0x7F → set_in s.sets.locked s.sets ≡ Ascii → s.sets.single ≡ None
    → marks_printed b s marks ≡ marks_put (glyph_in b s.pen) (writing_under s.modes) s.screen marks
marks-plain b s marks low high locked single =
    ap (λ c. marks_written c s marks) (mapped-ascii s.sets b locked single)
    ∙ ap (λ w. if w == 0 then marks_joined b s.screen marks else marks_put (glyph_in b s.pen) (writing_under s.modes) s.screen marks)
    (ascii_width b low high)

-- a run of characters that show themselves
pub marked-run : (s : Live) (bs : List ℕ) (marks : List Bool) → ArePlain bs → set_in s.sets.locked s.sets ≡ Ascii → s.sets.single ≡ None
    → marked_through s (map Print bs) marks ≡ marks_put_all (map (λ b. glyph_in b s.pen) bs) (writing_under s.modes) s.screen marks
unfolding marks_put_all
marked-run s [] marks plain locked single = refl
marked-run s (b ∷ bs) marks plain locked single =
    let next : Live = record s { screen = put_on (glyph_in b s.pen) (writing_under s.modes) s.screen; printed = Some b } in
    ap (λ l. marked_through l (map Print bs) (marked_by (Print b) s marks)) (changed-print b s ∙ printed-plain b s plain.0 plain.1 locked single)
    ∙ ap (marked_through next (map Print bs)) (marked-print b s marks ∙ marks-plain b s marks plain.0 plain.1 locked single)
    ∙ marked-run next bs (marks_put (glyph_in b s.pen) (writing_under s.modes) s.screen marks) plain.2 locked single

-- functions after others
pub marked-append : (l : Live) (fs gs : List Function) (marks : List Bool)
    → marked_through l (fs ++ gs) marks ≡ marked_through (live_after l fs) gs (marked_through l fs marks)
marked-append l [] gs marks = refl
marked-append l (f ∷ fs) gs marks = marked-append (changed_by f l) fs gs (marked_by f l marks)

-- one private mode more
pub private-more : (on : Bool) (s : Live) (ps : List ℕ) (p : ℕ) (marks : List Bool)
    → marks_private_modes on s (ps ++ p ∷ []) marks
    ≡ marks_private_mode on (fold (private_mode_set on) s ps) p (marks_private_modes on s ps marks)
private-more on s [] p marks = refl
private-more on s (q ∷ qs) p marks = private-more on (private_mode_set on s q) qs p (marks_private_mode on s q marks)
