-- Functions one after another, with the rows that leave by them.
use Rattle.std.proofs.Common.{◌≡◌, ℕ, Bool, true, false, List, [], ◌∷◌, ◌++◌, None, refl, sym, ap, ◌∙◌, append_assoc}
use Rattle.roam_controls.specs.Commands.{command_of}
use Rattle.roam_controls.specs.declared.commands.Command.TheVariants.{Prints, Sets}
use Rattle.roam_controls.specs.declared.settings.Setting.TheVariants.{Rendition}
use Rattle.roam_term.specs.Terminal.{Live, changed_by, commanded_by, live_after, on_main, sized_to}
use Rattle.roam_grid.specs.Frames.{leaving}
use Rattle.roam_term.specs.Leaving.{top_rows}
use Rattle.roam_scrollback.specs.Wraps.{wraps_sized}
use Rattle.roam_scrollback.specs.declared.wraps.Wrap.{Wrap}
use Rattle.std.proofs.lemmas.List.{append-nil}
use Rattle.roam_text.specs.Dispatched.{function_of}
use Rattle.roam_text.specs.declared.functions.Dispatch.{Dispatch}
use Rattle.roam_text.specs.declared.functions.Dispatch.TheVariants.{Print as DispatchPrint, C0, C1, Esc, Csi}
use Rattle.roam_text.specs.declared.functions.Function.{Function}
use Rattle.roam_text.specs.declared.functions.Function.TheVariants.{Print, Size}
use Rattle.roam_scrollback.specs.Lines.{rows_with}
use Rattle.roam_scrollback.specs.Sources.{rows_leaving, rows_commanded, rows_through, wraps_after, wraps_commanded, wraps_through}

pub live-append : (l : Live) (fs gs : List Function) → live_after l (fs ++ gs) ≡ live_after (live_after l fs) gs
live-append l [] gs = refl
live-append l (f ∷ fs) gs = live-append (changed_by f l) fs gs

pub wraps-append : (l : Live) (fs gs : List Function) (wraps : List Wrap)
    → wraps_through l (fs ++ gs) wraps ≡ wraps_through (live_after l fs) gs (wraps_through l fs wraps)
wraps-append l [] gs wraps = refl
wraps-append l (f ∷ fs) gs wraps = wraps-append (changed_by f l) fs gs (wraps_after f l wraps)

pub rows-append : (l : Live) (fs gs : List Function) (wraps : List Wrap)
    → rows_through l (fs ++ gs) wraps ≡ rows_through l fs wraps ++ rows_through (live_after l fs) gs (wraps_through l fs wraps)
rows-append l [] gs wraps = refl
rows-append l (f ∷ fs) gs wraps =
    ap (λ r. rows_leaving f l wraps ++ r) (rows-append (changed_by f l) fs gs (wraps_after f l wraps))
    ∙ sym (append_assoc (rows_leaving f l wraps) (rows_through (changed_by f l) fs (wraps_after f l wraps))
    (rows_through (live_after (changed_by f l) fs) gs (wraps_through (changed_by f l) fs (wraps_after f l wraps))))

-- the effect of a dispatched function: it is never a size
pub rows-dispatch : (d : Dispatch) (params inter : List ℕ) (l : Live) (wraps : List Wrap)
    → rows_leaving (function_of d params inter) l wraps ≡ rows_commanded (command_of (function_of d params inter)) l wraps
unfolding rows_leaving
rows-dispatch (DispatchPrint c) params inter l wraps = refl
rows-dispatch (C0 b) params inter l wraps = refl
rows-dispatch (C1 b) params inter l wraps = refl
rows-dispatch (Esc last) params inter l wraps = refl
rows-dispatch (Csi mark last) params inter l wraps = refl

pub wraps-dispatch : (d : Dispatch) (params inter : List ℕ) (l : Live) (wraps : List Wrap)
    → wraps_after (function_of d params inter) l wraps ≡ wraps_commanded (command_of (function_of d params inter)) l wraps
unfolding wraps_after
wraps-dispatch (DispatchPrint c) params inter l wraps = refl
wraps-dispatch (C0 b) params inter l wraps = refl
wraps-dispatch (C1 b) params inter l wraps = refl
wraps-dispatch (Esc last) params inter l wraps = refl
wraps-dispatch (Csi mark last) params inter l wraps = refl

-- and a printed character
pub rows-print : (b : ℕ) (l : Live) (wraps : List Wrap) → rows_leaving (Print b) l wraps ≡ rows_commanded (Prints b) l wraps
unfolding rows_leaving
rows-print b l wraps = refl

pub wraps-print : (b : ℕ) (l : Live) (wraps : List Wrap) → wraps_after (Print b) l wraps ≡ wraps_commanded (Prints b) l wraps
unfolding wraps_after
wraps-print b l wraps = refl

-- ---- SGR

pub styled : (params lent : List ℕ) (l : Live) → lent ≡ params
    → commanded_by (Sets Rendition) lent l ≡ live_after l (function_of (Csi None 0x6D) params [] ∷ [])
unfolding changed_by
styled params lent l e = ap (λ p. commanded_by (Sets Rendition) p l) e

pub unwrapped : (params : List ℕ) (l : Live) (wraps : List Wrap) → wraps_through l (function_of (Csi None 0x6D) params [] ∷ []) wraps ≡ wraps
unfolding wraps_after
unwrapped params l wraps = refl

none_with : (alternate : Bool) (wraps : List Wrap) → rows_with (on_main alternate []) wraps ++ [] ≡ []
none_with true wraps = refl
none_with false wraps = refl

pub unmoved : (params : List ℕ) (l : Live) (wraps : List Wrap) → rows_through l (function_of (Csi None 0x6D) params [] ∷ []) wraps ≡ []
unfolding rows_leaving
unmoved params l wraps = none_with l.alternate wraps

-- ---- another size

pub sized : (rows cols : ℕ) (l : Live) → changed_by (Size rows cols) l ≡ sized_to rows cols l
unfolding changed_by
sized rows cols l = refl

pub sized_wraps : (rows cols : ℕ) (l : Live) (wraps : List Wrap) → wraps_after (Size rows cols) l wraps ≡ wraps_sized rows cols l wraps
unfolding wraps_after
sized_wraps rows cols l wraps = refl

pub sized_rows : (rows cols : ℕ) (l : Live) (wraps : List Wrap)
    → rows_leaving (Size rows cols) l wraps ++ []
    ≡ rows_with (on_main l.alternate (top_rows (leaving rows l.screen) l.screen)) wraps
unfolding rows_leaving
sized_rows rows cols l wraps = append-nil (rows_with (on_main l.alternate (top_rows (leaving rows l.screen) l.screen)) wraps)
