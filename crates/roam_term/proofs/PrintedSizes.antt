-- A printed character leaves a terminal its size.
use Rattle.std.proofs.Common.{ℕ, ◌+◌, Bool, true, false, refl, ◌∙◌}
use Rattle.std.specs.Prelude.{◌==◌, ◌&&◌, nat_lt, if◌then◌else◌}
use Rattle.roam_cells.specs.Glyph.{Glyph}
use Rattle.roam_cells.specs.Width.{width_of}
use Rattle.roam_charset.specs.Charsets.{mapped_by}
use Rattle.roam_charset.specs.Sets.{in_use, spent}
use Rattle.roam_grid.specs.Cursor.{after_carriage_return, after_index}
use Rattle.roam_grid.specs.Screen.{Screen, IsSameSize}
use Rattle.roam_grid.specs.Scrolling.{scrolled_up}
use Rattle.roam_grid.specs.Writing.{columns, after_wrap, wrap_done, with_room, made_way, after_ink, after_advance, put_on, joined_on}
use Rattle.roam_grid.specs.declared.writing.Writing.{Writing}
use Rattle.roam_text.specs.declared.functions.Function.TheVariants.{Print}
use Rattle.roam_term.specs.Terminal.{Live, glyph_in, writing_under, written_on, printed_on, changed_by}
use Rattle.roam_term.specs.Ground.{IsSized}

both : (s t u : Screen) → IsSameSize s t → IsSameSize t u → IsSameSize s u
both s t u h k = record { rows = k.rows ∙ h.rows; cols = k.cols ∙ h.cols }

either : (s t u : Screen) (b : Bool) → IsSameSize s t → IsSameSize s u → IsSameSize s (if b then t else u)
either s t u true h k = h
either s t u false h k = k

size-indexed : (s : Screen) → IsSameSize s (after_index s)
unfolding after_index scrolled_up
size-indexed s =
    either s (record (scrolled_up 1 s) { pending = false }) _ (s.row == s.bottom) (record { rows = refl; cols = refl })
    (either s (record s { pending = false }) (record s { row = s.row + 1; pending = false }) (s.row + 1 == s.rows)
    (record { rows = refl; cols = refl }) (record { rows = refl; cols = refl }))

size-wrapped : (s : Screen) → IsSameSize s (after_wrap s)
unfolding after_wrap after_carriage_return
size-wrapped s = let h = size-indexed (after_carriage_return s) in record { rows = h.rows; cols = h.cols }

size-settled : (s : Screen) → IsSameSize s (wrap_done s)
unfolding wrap_done
size-settled s = either s (after_wrap s) s s.pending (size-wrapped s) (record { rows = refl; cols = refl })

size-with_room : (n : ℕ) (w : Writing) (s : Screen) → IsSameSize s (with_room n w s)
unfolding with_room
size-with_room n w s =
    either s _ s ((n == 2) && (s.col + 1 == s.cols)) (either s (after_wrap s) _ w.wraps (size-wrapped s) (record { rows = refl; cols = refl }))
    (record { rows = refl; cols = refl })

size-made_way : (n : ℕ) (w : Writing) (s : Screen) → IsSameSize s (made_way n w s)
unfolding made_way
size-made_way n w s = either s _ s w.inserts (record { rows = refl; cols = refl }) (record { rows = refl; cols = refl })

size-inked : (x : Glyph) (s : Screen) → IsSameSize s (after_ink x s)
unfolding after_ink
size-inked x s = record { rows = refl; cols = refl }

size-advanced : (n : ℕ) (w : Writing) (s : Screen) → IsSameSize s (after_advance n w s)
unfolding after_advance
size-advanced n w s = either s _ _ (nat_lt (s.col + n) s.cols) (record { rows = refl; cols = refl }) (record { rows = refl; cols = refl })

size-put : (x : Glyph) (w : Writing) (s : Screen) → IsSameSize s (put_on x w s)
unfolding put_on
size-put x w s =
    let a = wrap_done s in
    let b = with_room (columns x) w a in
    let c = made_way (columns x) w b in
    both s a _ (size-settled s)
    (both a b _ (size-with_room (columns x) w a) (both b c _ (size-made_way (columns x) w b)
    (both c (after_ink x c) _ (size-inked x c) (size-advanced (columns x) w (after_ink x c)))))

size-joined : (c : ℕ) (s : Screen) → IsSameSize s (joined_on c s)
unfolding joined_on
size-joined c s =
    either s _ _ s.pending (record { rows = refl; cols = refl })
    (either s s _ (s.col == 0) (record { rows = refl; cols = refl }) (record { rows = refl; cols = refl }))

one_of : (l t u : Live) (b : Bool) → IsSized l t → IsSized l u → IsSized l (if b then t else u)
one_of l t u true h k = h
one_of l t u false h k = k

size-written : (c : ℕ) (l : Live) → IsSized l (written_on c l)
size-written c l =
    let joined = size-joined c l.screen in
    let put = size-put (glyph_in c l.pen) (writing_under l.modes) l.screen in
    one_of l _ _ (width_of c == 0) (record { rows = joined.rows; cols = joined.cols }) (record { rows = put.rows; cols = put.cols })

-- a printed character leaves the size
pub size-printed : (c : ℕ) (l : Live) → IsSized l (changed_by (Print c) l)
unfolding changed_by printed_on
size-printed c l =
    let h = size-written (mapped_by (in_use l.sets) c) (record l { sets = spent l.sets }) in
    record { rows = h.rows; cols = h.cols }
