-- Who reads which texts for the clipboard are new knows how many there are, and each line says what wasn't known before it.
use Rattle.std.proofs.Common.{◌≡◌, ℕ, Bool, true, false, cond, eqb, [], ◌∷◌, Some, None, refl, ap, ◌∙◌, sym}
use Rattle.std.specs.List.{fold}
use Rattle.std.proofs.lemmas.Bool.{ne_eqb, eqb-true, eq-eqb, false≢true}
use Rattle.roam_pane_protocol.specs.declared.clip_list.ClipPane.{ClipPane}
use Rattle.roam_pane_protocol.specs.Clips.{AreClipNews, ClipLine, ClipsArrive, ClipsAreNews, KnownClips, LearnsClips, after_clip, clips_in}

abbrev line_of : ℕ → ClipPane → ClipLine
line_of p now = record { pane = p; generation = now.generation; count = now.clips }

own_count : (c : ClipPane) → clips_in c.generation (Some c) ≡ c.clips
own_count c = ap (λ b. cond b c.clips 0) (eq-eqb c.generation c.generation refl)

learns : (p : ℕ) (known : KnownClips) (now : ClipPane) (same : Bool) → eqb (clips_in now.generation (known p)) now.clips ≡ same
    → LearnsClips p (Some now) known (fold after_clip known (cond same [] (line_of p now ∷ [])))
learns p known now true e = record { this = eqb-true _ _ e; others = λ q apart. refl }
learns p known now false e = record {
  this = ap (λ b. clips_in now.generation (cond b (Some now) (known p))) (eq-eqb p p refl) ∙ own_count now;
  others = λ q apart. ap (λ b. cond b (Some now) (known q)) (ne_eqb q p apart);
}

is_new : (p : ℕ) (known : KnownClips) (now : ClipPane) (same : Bool) → eqb (clips_in now.generation (known p)) now.clips ≡ same
    → AreClipNews known (cond same [] (line_of p now ∷ []))
is_new p known now true e = tt
is_new p known now false e = (λ h. false≢true (sym e ∙ eq-eqb _ _ h), tt)

pub arrive : ClipsArrive
arrive p known None = record { this = tt; others = λ q apart. refl }
arrive p known (Some now) = learns p known now (eqb (clips_in now.generation (known p)) now.clips) refl

pub are-news : ClipsAreNews
are-news p known None = tt
are-news p known (Some now) = is_new p known now (eqb (clips_in now.generation (known p)) now.clips) refl
