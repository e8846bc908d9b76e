-- The effect of RIS; bells are only counted up.
use Rattle.std.proofs.Common.{◌≡◌, ◌≤◌, ℕ, Bool, true, false, cond, List, [], ◌∷◌, ◌++◌, map, refl, ap, ◌∙◌, arith}
use Rattle.std.specs.Prelude.{◌==◌}
use Rattle.std.specs.List.{fold}
use Rattle.std.proofs.lemmas.List.{map-append}
use Rattle.roam_text.specs.declared.functions.Function.{Function}
use Rattle.roam_text.specs.declared.functions.Function.TheVariants.{C0, Esc, Csi}
use Rattle.roam_text.specs.Log.{Byte}
use Rattle.roam_text.specs.Functions.{functions_of}
use Rattle.roam_text.proofs.Cuts.{functions-reset, reset, reset_text}
use Rattle.roam_text.proofs.Graphics.{printed_if}
use Rattle.roam_text.proofs.Growth.{functions_of-front}
use Rattle.roam_pane_metadata.specs.declared.settings.Settings.{Settings}
use Rattle.roam_pane_metadata.specs.declared.settings.Wish.{Wish}
use Rattle.roam_pane_metadata.specs.declared.settings.Wish.TheVariants.{Nothing, SetModes, ResetModes, SetAnsiModes, ResetAnsiModes, Keys, PlainKeys, Shape, SoftReset}
use Rattle.roam_pane_metadata.specs.declared.settings.Tracking.{Tracking}
use Rattle.roam_pane_metadata.specs.declared.settings.Tracking.TheVariants.{Buttons, Drags, Motion}
use Rattle.roam_pane_metadata.specs.Settings.{counted, fresh_settings, granted, heard, mode_set, most_counted, reset_settings, resets, settings_of, wish_of, with_tracking}
use Rattle.roam_pane_metadata.specs.ScreenModes.{fresh_modes, modes_after, modes_of}
use Rattle.roam_pane_metadata.proofs.Folds.{modes-more}
use Rattle.roam_pane_metadata.proofs.Standing.{fold-after}

print-sets : (t : Bool) (s : Settings) → fold heard s (printed_if 0xFFFD t) ≡ s
print-sets true s = refl
print-sets false s = refl

pub reset-sets : (bytes : List ℕ) → settings_of (bytes ++ 0x1B ∷ 0x63 ∷ []) ≡ reset_settings (settings_of bytes)
reset-sets bytes =
    let log = map Byte bytes in
    let is = functions-reset log in
    ap (λ l. fold heard fresh_settings (functions_of l)) (map-append Byte bytes reset_text)
    ∙ ap (fold heard fresh_settings) is.1
    ∙ fold-after (functions_of log ++ printed_if 0xFFFD is.0) (reset ∷ []) fresh_settings
    ∙ ap reset_settings (fold-after (functions_of log) (printed_if 0xFFFD is.0) fresh_settings ∙ print-sets is.0 (settings_of bytes))

pub reset-modes : (bytes : List ℕ) → modes_of (bytes ++ 0x1B ∷ 0x63 ∷ []) ≡ fresh_modes
reset-modes bytes =
    let log = map Byte bytes in
    let is = functions-reset log in
    ap (λ l. fold modes_after fresh_modes (functions_of l)) (map-append Byte bytes reset_text)
    ∙ ap (fold modes_after fresh_modes) is.1
    ∙ modes-more (functions_of log ++ printed_if 0xFFFD is.0) (reset ∷ []) fresh_modes

-- ---- bells

abbrev Grows : Settings → Settings → Type 0
Grows s t = (s.bells ≤ most_counted) → (s.bells ≤ t.bells) × (t.bells ≤ most_counted)

same-grows : (s t : Settings) → t.bells ≡ s.bells → Grows s t
same-grows s t e few = (omega (arith, e), omega (arith, e, few))

tracking-bells : (on : Bool) (t : Tracking) (s : Settings) → (with_tracking on t s).bells ≡ s.bells
tracking-bells true t s = refl
tracking-bells false t s = refl

if-bells : (t : Bool) (x y s : Settings) → x.bells ≡ s.bells → y.bells ≡ s.bells → (cond t x y).bells ≡ s.bells
if-bells true x y s p q = p
if-bells false x y s p q = q

mode-bells : (on : Bool) (s : Settings) (n : ℕ) → (mode_set on s n).bells ≡ s.bells
mode-bells on s n =
    if-bells (n == 1000) _ _ s (tracking-bells on Buttons s)
    (if-bells (n == 1002) _ _ s (tracking-bells on Drags s)
    (if-bells (n == 1003) _ _ s (tracking-bells on Motion s)
    (if-bells (n == 1004) _ _ s refl
    (if-bells (n == 1006) _ _ s refl
    (if-bells (n == 2004) _ _ s refl
    (if-bells (n == 47) _ _ s refl
    (if-bells (n == 1047) _ _ s refl
    (if-bells (n == 1049) _ _ s refl refl))))))))

modes-bells : (on : Bool) (modes : List ℕ) (s : Settings) → (fold (mode_set on) s modes).bells ≡ s.bells
modes-bells on [] s = refl
modes-bells on (n ∷ modes) s = modes-bells on modes (mode_set on s n) ∙ mode-bells on s n

granted-bells : (w : Wish) (params : List ℕ) (s : Settings) → (granted w params s).bells ≡ s.bells
granted-bells Nothing params s = refl
granted-bells SetModes params s = modes-bells true params s
granted-bells ResetModes params s = modes-bells false params s
granted-bells SetAnsiModes params s = refl
granted-bells ResetAnsiModes params s = refl
granted-bells Keys params s = refl
granted-bells PlainKeys params s = refl
granted-bells Shape params s = refl
granted-bells SoftReset params s = refl

rung-grows : (t : Bool) (s : Settings) → Grows s (cond t (record s { bells = counted s.bells }) s)
rung-grows true s few = (omega (arith, few), omega (arith, few))
rung-grows false s few = (omega arith, few)

heard-grows : (s : Settings) (f : Function) → Grows s (heard s f)
heard-grows s (C0 b) = rung-grows (b == 7) s
heard-grows s (Esc inter last) = same-grows s (heard s (Esc inter last)) (if-bells (resets inter.items last) (reset_settings s) _ s refl refl)
heard-grows s (Csi mark params inter last) = same-grows s (heard s (Csi mark params inter last)) (granted-bells (wish_of mark inter.items last) params.items s)
heard-grows s f = same-grows s s refl

all-grow : (fs : List Function) (s : Settings) → Grows s (fold heard s fs)
all-grow [] s few = same-grows s s refl few
all-grow (f ∷ fs) s few =
    let one = heard-grows s f few in
    let more = all-grow fs (heard s f) one.1 in
    let a = one.0 in
    let b = more.0 in (omega (arith, a, b), more.1)

pub bells-grow : (bytes more : List ℕ) → (settings_of bytes).bells ≤ (settings_of (bytes ++ more)).bells
bells-grow bytes more =
    let front = functions_of-front (map Byte bytes) (map Byte more) in
    let is : settings_of (bytes ++ more) ≡ fold heard (settings_of bytes) front.0 =
    ap (λ l. fold heard fresh_settings (functions_of l)) (map-append Byte bytes more)
    ∙ ap (fold heard fresh_settings) front.1 ∙ fold-after (functions_of (map Byte bytes)) front.0 fresh_settings in
    let start = (all-grow (functions_of (map Byte bytes)) fresh_settings (omega arith)).1 in
    let grown = (all-grow front.0 (settings_of bytes) start).0 in
    let same : (settings_of (bytes ++ more)).bells ≡ (fold heard (settings_of bytes) front.0).bells = ap (λ (s : Settings). s.bells) is in
    omega (arith, grown, same)
