-- The effects of functions one after the other: an open update, and the questions.
use Rattle.std.proofs.Common.{◌≡◌, Bool, List, [], ◌∷◌, ◌++◌, refl, ap, sym, ◌∙◌, append_assoc}
use Rattle.std.specs.List.{flat_map, fold}
use Rattle.roam_text.specs.declared.functions.Function.{Function}
use Rattle.roam_pane_metadata.specs.declared.settings.Settings.{Settings}
use Rattle.roam_pane_metadata.specs.declared.screen_modes.ScreenModes.{ScreenModes}
use Rattle.roam_pane_metadata.specs.Settings.{heard}
use Rattle.roam_pane_metadata.specs.Emissions.{emitted_by}
use Rattle.roam_pane_metadata.specs.Queries.{asked_by, asked_in}
use Rattle.roam_pane_metadata.specs.ScreenModes.{modes_after}

pub modes-more : (fs more : List Function) (f : ScreenModes) → fold modes_after f (fs ++ more) ≡ fold modes_after (fold modes_after f fs) more
modes-more [] more f = refl
modes-more (x ∷ fs) more f = modes-more fs more (modes_after f x)

pub asked-more : (fs more : List Function) (s : Settings) (f : ScreenModes)
    → asked_in s f (fs ++ more) ≡ asked_in s f fs ++ asked_in (fold heard s fs) (fold modes_after f fs) more
asked-more [] more s f = refl
asked-more (x ∷ fs) more s f =
    ap (λ l. asked_by s f x ++ l) (asked-more fs more (heard s x) (modes_after f x))
    ∙ sym (append_assoc (asked_by s f x) (asked_in (heard s x) (modes_after f x) fs)
    (asked_in (fold heard (heard s x) fs) (fold modes_after (modes_after f x) fs) more))

-- functions that set, ask and utter nothing
pub record ArePlain (fs : List Function) : Type 0 where
  pub sets : (s : Settings) → fold heard s fs ≡ s
  pub modes : (f : ScreenModes) → fold modes_after f fs ≡ f
  pub asked : (s : Settings) (f : ScreenModes) → asked_in s f fs ≡ []
  pub emits : flat_map emitted_by fs ≡ []

pub plain-asked : (fs more : List Function) (s : Settings) (f : ScreenModes) → ArePlain fs → asked_in s f (fs ++ more) ≡ asked_in s f more
plain-asked fs more s f p =
    asked-more fs more s f
    ∙ ap (λ l. l ++ asked_in (fold heard s fs) (fold modes_after f fs) more) (p.asked s f)
    ∙ ap (λ t. asked_in t (fold modes_after f fs) more) (p.sets s)
    ∙ ap (λ g. asked_in s g more) (p.modes f)
