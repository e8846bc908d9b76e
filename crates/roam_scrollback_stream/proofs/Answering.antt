-- The answer to a new size, by what the terminal's source gave.
use Rattle.std.proofs.Common.{◌≡◌, ℕ, true, List, ◌++◌, refl, Result, Ok, Err, ◌⊎◌, inl, inr}
use Rattle.std.specs.Prelude.{IfErr, OnErr, IsErrOf}
use Rattle.roam_scrollback.specs.Rewraps.{IsLater}
use Rattle.roam_scrollback.specs.declared.rewraps.NotRewrapped.{NotRewrapped}
use Rattle.roam_scrollback.specs.declared.rewraps.NotRewrapped.TheVariants.{Later, NoMemory, OtherScreen, Refused}
use Rattle.roam_scrollback_stream.specs.Panes.{PaneView}
use Rattle.roam_scrollback_stream.specs.Records.{named_text, refusal_word}
use Rattle.roam_scrollback_stream.specs.Runs.{AnswersRewrap, IsBrought, is_brought, is_later, is_other, is_refused}

pub answered : {A : Type 0} (rows cols : ℕ) (old new : PaneView) (out out' : List ℕ) (done : Result A NotRewrapped)
    → ((d : A) → done ≡ Ok d → IsBrought rows cols old new out out') → OnErr done (new ≡ old)
    → (IsErrOf done OtherScreen → old.source.live.alternate ≡ true) → (IsErrOf done Later → IsLater old.source)
    → IfErr done (λ why. out' ≡ out ++ named_text (refusal_word why) old.number) → AnswersRewrap rows cols old new out out'
answered rows cols old new out out' (Ok d) brought same other later text = is_brought (brought d refl)
answered rows cols old new out out' (Err Later) brought same other later text = is_later (inr (later refl)) same text
answered rows cols old new out out' (Err OtherScreen) brought same other later text = is_other (other refl) same text
answered rows cols old new out out' (Err Refused) brought same other later text = is_refused same text
answered rows cols old new out out' (Err NoMemory) brought same other later text = is_refused same text
