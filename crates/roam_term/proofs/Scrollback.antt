-- The rows that leave a screen, and the history that takes them.
use Rattle.std.proofs.Common.{◌≡◌, ℕ, zero, suc, ◌+◌, ◌-◌, ◌<◌, ◌≤◌, Bool, true, false, ◌&&◌, cond, eqb, ltb, List, [], ◌∷◌, ◌++◌, take, drop, length, get_or, replicate, refl, sym, ap, ◌∙◌, append_assoc, length-drop, arith}
use Rattle.std.proofs.lemmas.Grind.{common_steps}
use Rattle.std.proofs.lemmas.List.{get_or-take, length-take-le}
use Rattle.roam_cells.specs.Glyph.{Glyph, is_wide, ascii_in, inked_bytes}
use Rattle.roam_rows.specs.Writing.{ArePrintable}
use Rattle.roam_rows.proofs.Inking.{bytes_narrow, length-bytes}
use Rattle.roam_history.specs.Histories.{Scrollback, last, after_push}
use Rattle.roam_history.proofs.Pushing.{last_more}
use Rattle.roam_grid.specs.Screen.{Screen}
use Rattle.roam_grid.specs.Writing.{columns, after_wrap, wrap_done, with_room, made_way, after_ink, after_advance, leaves_row, put_on, put_all}
use Rattle.roam_grid.specs.declared.writing.Writing.{Writing}
use Rattle.roam_grid.proofs.Puts.{wrapped_place, settled_same, settled_none, put_settled}
use Rattle.roam_grid.proofs.Runs.{AreNarrow}
use Rattle.roam_term.specs.Leaving.{left_by_put, left_by_puts, top_rows}
use Rattle.roam_term.specs.Terminal.{on_main, with_rows}
use Rattle.roam_term.proofs.Lists.{append-nil}

-- ---- rows that come into a history

-- histories of the same lines and columns are equal if their rows are
same_rows : (lines cols : ℕ) (xs ys : List (List Glyph)) → xs ≡ ys → let one : Scrollback = record { lines = lines; cols = cols; rows = xs } in one ≡ record { lines = lines; cols = cols; rows = ys }
same_rows lines cols xs ys e i = record { lines = lines; cols = cols; rows = e i }

-- if no row comes in, a history stays
pub with_none : (h : Scrollback) → length h.rows ≤ h.lines → with_rows [] h ≡ h
with_none h few =
    let all : length (h.rows ++ []) - h.lines ≡ 0 = omega (arith, ap length (append-nil h.rows)) in
    same_rows h.lines h.cols (last h.lines (h.rows ++ [])) h.rows (ap (λ n. drop n (h.rows ++ [])) all ∙ append-nil h.rows)

-- a row that is pushed after others
pub with_pushed : (rows : List (List Glyph)) (row : List Glyph) (h : Scrollback) → after_push row (with_rows rows h) ≡ with_rows (rows ++ row ∷ []) h
with_pushed rows row h =
    same_rows h.lines h.cols (last h.lines (last h.lines (h.rows ++ rows) ++ row ∷ [])) (last h.lines (h.rows ++ (rows ++ row ∷ [])))
    (last_more h.lines (h.rows ++ rows) row ∙ ap (last h.lines) (append_assoc h.rows rows (row ∷ [])))

-- the last of the last and more are the last of all
last_then : {X : Type 0} (n : ℕ) (xs ys : List X) → last n (last n xs ++ ys) ≡ last n (xs ++ ys)
last_then n xs [] =
    let few : length (last n xs) - n ≡ 0 = omega (arith, length-drop (length xs - n) xs) in
    ap (last n) (append-nil (last n xs)) ∙ ap (λ k. drop k (last n xs)) few ∙ sym (ap (last n) (append-nil xs))
last_then n xs (y ∷ ys) =
    sym (ap (last n) (append_assoc (last n xs) (y ∷ []) ys)) ∙ sym (last_then n (last n xs ++ y ∷ []) ys)
    ∙ ap (λ l. last n (l ++ ys)) (last_more n xs y) ∙ last_then n (xs ++ y ∷ []) ys ∙ ap (last n) (append_assoc xs (y ∷ []) ys)

-- rows that come in after others
with_then : (xs ys : List (List Glyph)) (h : Scrollback) → with_rows ys (with_rows xs h) ≡ with_rows (xs ++ ys) h
with_then xs ys h =
    same_rows h.lines h.cols (last h.lines (last h.lines (h.rows ++ xs) ++ ys)) (last h.lines (h.rows ++ (xs ++ ys)))
    (last_then h.lines (h.rows ++ xs) ys ∙ ap (last h.lines) (append_assoc h.rows xs ys))

-- and of the main screen alone
pub main_then : (alternate : Bool) (xs ys : List (List Glyph)) (h : Scrollback)
    → with_rows (on_main alternate ys) (with_rows (on_main alternate xs) h) ≡ with_rows (on_main alternate (xs ++ ys)) h
main_then true xs ys h = with_then [] [] h
main_then false xs ys h = with_then xs ys h

-- if none comes in, a history stays
none_on_main : (alternate : Bool) → on_main alternate [] ≡ []
none_on_main true = refl
none_on_main false = refl

pub main_stays : (alternate : Bool) (h : Scrollback) → with_rows [] h ≡ h → with_rows (on_main alternate []) h ≡ h
main_stays alternate h stays = ap (λ rows. with_rows rows h) (none_on_main alternate) ∙ stays

pub main_none : (alternate : Bool) (h : Scrollback) → length h.rows ≤ h.lines → with_rows (on_main alternate []) h ≡ h
main_none alternate h few = main_stays alternate h (with_none h few)

-- ---- cells that are written one after another

puts-append : (xs ys : List Glyph) (w : Writing) (s : Screen) → left_by_puts (xs ++ ys) w s ≡ left_by_puts xs w s ++ left_by_puts ys w (put_all xs w s)
unfolding put_all
puts-append [] ys w s = refl
puts-append (x ∷ xs) ys w s =
    ap (λ l. left_by_put x w s ++ l) (puts-append xs ys w (put_on x w s))
    ∙ sym (append_assoc (left_by_put x w s) (left_by_puts xs w (put_on x w s)) (left_by_puts ys w (put_all xs w (put_on x w s))))

pub left_step : (alternate : Bool) (g : Glyph) (w : Writing) (s : Screen) (h : Scrollback) (n m : ℕ) → n ≡ suc m
    → with_rows (on_main alternate (left_by_puts (replicate m g) w (put_on g w s))) (with_rows (on_main alternate (left_by_put g w s)) h)
    ≡ with_rows (on_main alternate (left_by_puts (replicate n g) w s)) h
left_step alternate g w s h n m e =
    main_then alternate (left_by_put g w s) (left_by_puts (replicate m g) w (put_on g w s)) h
    ∙ sym (ap (λ k. with_rows (on_main alternate (left_by_puts (replicate k g) w s)) h) e)

pub left_run : (alternate : Bool) (now rest : List Glyph) (w : Writing) (s : Screen) (h : Scrollback)
    → with_rows (on_main alternate (left_by_puts rest w (put_all now w s))) (with_rows (on_main alternate (left_by_puts now w s)) h)
    ≡ with_rows (on_main alternate (left_by_puts (now ++ rest) w s)) h
left_run alternate now rest w s h =
    main_then alternate (left_by_puts now w s) (left_by_puts rest w (put_all now w s)) h
    ∙ sym (ap (λ l. with_rows (on_main alternate l) h) (puts-append now rest w s))

-- ---- cells of one column in one row

and_none : (a : Bool) → (a && false) ≡ false
and_none true = refl
and_none false = refl

record Stepped (s t : Screen) : Type 0 where
  col : t.col ≡ s.col + 1
  cols : t.cols ≡ s.cols
  pending : t.pending ≡ false

record Stayed (s t : Screen) : Type 0 where
  col : t.col ≡ s.col
  cols : t.cols ≡ s.cols
  pending : t.pending ≡ s.pending

way_stays : (w : Writing) (s : Screen) (b : Bool) → w.inserts ≡ b → Stayed s (made_way 1 w s)
unfolding made_way
way_stays w s true e = record {
  col = ap (λ b. (cond b (made_way 1 (record w { inserts = true }) s) s).col) e;
  cols = ap (λ b. (cond b (made_way 1 (record w { inserts = true }) s) s).cols) e;
  pending = ap (λ b. (cond b (made_way 1 (record w { inserts = true }) s) s).pending) e;
}
way_stays w s false e = record {
  col = ap (λ b. (cond b (made_way 1 (record w { inserts = true }) s) s).col) e;
  cols = ap (λ b. (cond b (made_way 1 (record w { inserts = true }) s) s).cols) e;
  pending = ap (λ b. (cond b (made_way 1 (record w { inserts = true }) s) s).pending) e;
}

-- a cell of one column before the last one, with no wrap pending
stepped : (g : Glyph) (w : Writing) (s : Screen) → is_wide g ≡ false → s.pending ≡ false → s.col + 1 < s.cols → Stepped s (put_on g w s)
unfolding put_on with_room after_ink after_advance
stepped g w s narrow none room =
    let way = made_way 1 w s in
    let stays = way_stays w s w.inserts refl in
    let low : ltb (way.col + 1) way.cols ≡ true = grind (arith, common_steps, stays.col, stays.cols, room) in
    let is : put_on g w s ≡ after_advance 1 w (after_ink g way) =
    ap (λ x. after_advance (columns g) w (after_ink g (made_way (columns g) w (with_room (columns g) w x)))) (settled_same s none)
    ∙ ap (λ v. after_advance (cond v 2 1) w (after_ink g (made_way (cond v 2 1) w (with_room (cond v 2 1) w s)))) narrow in
    let on = record (after_ink g way) { col = way.col + 1 } in
    let off = record (after_ink g way) { col = way.cols - 1; pending = w.wraps } in
    record {
      col = ap (λ (x : Screen). x.col) is ∙ ap (λ b. (cond b on off).col) low ∙ ap (λ k. k + 1) stays.col;
      cols = ap (λ (x : Screen). x.cols) is ∙ ap (λ b. (cond b on off).cols) low ∙ stays.cols;
      pending = ap (λ (x : Screen). x.pending) is ∙ ap (λ b. (cond b on off).pending) low ∙ stays.pending ∙ none;
    }

none_by_put : (g : Glyph) (w : Writing) (s : Screen) → is_wide g ≡ false → s.pending ≡ false → left_by_put g w s ≡ []
unfolding leaves_row
none_by_put g w s narrow none =
    ap (λ v. cond (eqb s.top 0 && (eqb s.row s.bottom && cond s.pending true (eqb (cond v 2 1) 2 && eqb (s.col + 1) s.cols && w.wraps))) (top_rows 1 s) []) narrow
    ∙ ap (λ v. cond (eqb s.top 0 && (eqb s.row s.bottom && cond v true false)) (top_rows 1 s) []) none
    ∙ ap (λ v. cond (eqb s.top 0 && v) (top_rows 1 s) []) (and_none (eqb s.row s.bottom))
    ∙ ap (λ v. cond v (top_rows 1 s) []) (and_none (eqb s.top 0))

-- up to the end of the row nothing leaves
pub none_by_puts : (gs : List Glyph) (w : Writing) (s : Screen) → AreNarrow gs → s.pending ≡ false → s.col + length gs ≤ s.cols → left_by_puts gs w s ≡ []
none_by_puts [] w s narrow none room = refl
none_by_puts (g ∷ []) w s narrow none room = ap (λ l. l ++ []) (none_by_put g w s (narrow 0).0 none)
none_by_puts (g ∷ h ∷ gs) w s narrow none room =
    let next = stepped g w s (narrow 0).0 none (omega arith) in
    ap (λ l. l ++ left_by_puts (h ∷ gs) w (put_on g w s)) (none_by_put g w s (narrow 0).0 none)
    ∙ none_by_puts (h ∷ gs) w (put_on g w s) (λ k. narrow (suc k)) next.pending (omega (arith, next.col, next.cols))

-- of a run that fits the row that its first character is written in, this one alone makes a row leave
pub first_alone : (g : Glyph) (gs : List Glyph) (w : Writing) (s : Screen) → AreNarrow (g ∷ gs) → (wrap_done s).col + length (g ∷ gs) ≤ (wrap_done s).cols
    → left_by_puts (g ∷ gs) w s ≡ left_by_put g w s
first_alone g [] w s narrow room = append-nil (left_by_put g w s)
first_alone g (h ∷ gs) w s narrow room =
    let t = wrap_done s in
    let next = stepped g w t (narrow 0).0 (settled_none s) (omega arith) in
    let none : left_by_puts (h ∷ gs) w (put_on g w t) ≡ [] = none_by_puts (h ∷ gs) w (put_on g w t) (λ k. narrow (suc k)) next.pending (omega (arith, next.col, next.cols)) in
    ap (λ l. left_by_put g w s ++ l) (sym (ap (left_by_puts (h ∷ gs) w) (put_settled g w s)) ∙ none) ∙ append-nil (left_by_put g w s)

-- a pending wrap begins a row
settled_by : (s : Screen) (n : ℕ) (b : Bool) → s.pending ≡ b → (b ≡ true → n ≡ 0) → (b ≡ false → n ≡ s.col) → (wrap_done s).col ≡ n
unfolding wrap_done
settled_by s n true e wraps goes = ap (λ b. (cond b (after_wrap s) s).col) e ∙ (wrapped_place s).0 ∙ sym (wraps refl)
settled_by s n false e wraps goes = ap (λ b. (cond b (after_wrap s) s).col) e ∙ sym (goes refl)

pub settled_col : (s : Screen) (n : ℕ) → (s.pending ≡ true → n ≡ 0) → (s.pending ≡ false → n ≡ s.col) → (wrap_done s).col ≡ n
settled_col s n wraps goes = settled_by s n s.pending refl wraps goes

-- ---- functions that bytes give

-- a history keeps at most its lines
pub few_kept : (rows : List (List Glyph)) (h : Scrollback) → length (with_rows rows h).rows ≤ h.lines
few_kept rows h = omega (arith, length-drop (length (h.rows ++ rows) - h.lines) (h.rows ++ rows))

-- of a run of bytes that fits the row that its first character is written in, this one alone makes a row leave
pub bytes_alone : (pen : Glyph) (bytes : List ℕ) (n : ℕ) (w : Writing) (s : Screen) → ArePrintable bytes → 0 < n → n ≤ length bytes
    → (wrap_done s).col + n ≤ (wrap_done s).cols → left_by_puts (inked_bytes pen (take n bytes)) w s ≡ left_by_put (ascii_in (get_or bytes 0 0) pen) w s
bytes_alone pen [] n w s printable some within room = absurd (omega arith)
bytes_alone pen (b ∷ bs) zero w s printable some within room = absurd (omega arith)
bytes_alone pen (b ∷ bs) (suc n) w s printable some within room =
    let front = take (suc n) (b ∷ bs) in
    let len : length (inked_bytes pen front) ≡ suc n = length-bytes pen front ∙ length-take-le (suc n) (b ∷ bs) within in
    let is : ArePrintable front = λ k h.
    let low : k < suc n = omega (arith, h, length-take-le (suc n) (b ∷ bs) within) in
    let p = printable k (omega (arith, low, within)) in
    let same : get_or front k 0 ≡ get_or (b ∷ bs) k 0 = get_or-take (suc n) (b ∷ bs) k 0 low in
    (omega (arith, same, p.0), omega (arith, same, p.1)) in
    first_alone (ascii_in b pen) (inked_bytes pen (take n bs)) w s (bytes_narrow pen front is) (omega (arith, len, room))
