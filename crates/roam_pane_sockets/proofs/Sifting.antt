-- Bytes pass a filter and go on.
use Rattle.std.proofs.Common.{◌≡◌, ◌⊎◌, ◌≤◌, inl, inr, ℕ, List, [], ◌++◌, take, drop, refl, sym, ap, subst, ◌∙◌, append_assoc, append-nil, take-append-drop}
use Rattle.roam_normalize.specs.Normalized.{held_part, normalized, normalized_from, normalized_part}
use Rattle.roam_pane_sockets.specs.Frames.{FramesView, frame_at, frame_left, free}
use Rattle.roam_pane_sockets.specs.FilterStages.{FilterStagePassesOn, IsSifted, Sifts, FilterStageView, empty_filter_stage}

-- the cuts of the bytes change neither the filter's output nor the bytes that it keeps back
pub record CutsChangeNothing : Type 0 where
  pub out : (bytes more : List ℕ) → normalized_part (bytes ++ more) ≡ normalized_part bytes ++ normalized_part (held_part bytes ++ more)
  pub held : (bytes more : List ℕ) → held_part (bytes ++ more) ≡ held_part (held_part bytes ++ more)

nothing-held : held_part [] ≡ []
unfolding normalized normalized_from
nothing-held = refl

nothing-goes : normalized_part [] ≡ []
unfolding normalized normalized_from
nothing-goes = refl

pub none-sifted : Sifts empty_filter_stage [] []
none-sifted = record { read = []; waits = refl; keeps = sym nothing-held; normalized = sym nothing-goes }

-- a piece is queued before an empty filter
pub waits-in : (s : FilterStageView) (piece came given : List ℕ) → s.unread ≡ [] → Sifts s came given
    → Sifts (record s { unread = piece }) (came ++ piece) given
waits-in s piece came given none h = record {
  read = h.read;
  waits = ap (λ l. l ++ piece) (h.waits ∙ ap (λ l. h.read ++ l) none ∙ append-nil h.read);
  keeps = h.keeps;
  normalized = h.normalized;
}

-- queued bytes pass the filter
goes-through : (s t : FilterStageView) (now : ℕ) (came given : List ℕ) → CutsChangeNothing → IsSifted s t now → Sifts s came given → Sifts t came given
goes-through s t now came given cuts is h = record {
  read = h.read ++ s.unread;
  waits = h.waits ∙ sym (append-nil (h.read ++ s.unread)) ∙ ap (λ l. (h.read ++ s.unread) ++ l) (sym is.unread);
  keeps = is.held ∙ ap (λ l. held_part (l ++ s.unread)) h.keeps ∙ sym (cuts.held h.read s.unread);
  normalized = ap (λ l. given ++ l) is.takes.ready
      ∙ sym (append_assoc given s.frames.ready (normalized_part (s.held ++ s.unread)))
      ∙ (λ i. h.normalized i ++ normalized_part (h.keeps i ++ s.unread)) ∙ sym (cuts.out h.read s.unread);
}

pub gone-through : (s t : FilterStageView) (now : ℕ) (came given : List ℕ) → CutsChangeNothing → (t ≡ s) ⊎ IsSifted s t now
    → Sifts s came given → Sifts t came given
gone-through s t now came given cuts (inl same) h = subst (λ u. Sifts u came given) (sym same) h
gone-through s t now came given cuts (inr is) h = goes-through s t now came given cuts is h

-- the ready bytes may change their state without effect on the sum
pub ready-so : (s : FilterStageView) (f : FramesView) (came given : List ℕ) → f.ready ≡ s.frames.ready → Sifts s came given
    → Sifts (record s { frames = f }) came given
ready-so s f came given same h = record {
  read = h.read;
  waits = h.waits;
  keeps = h.keeps;
  normalized = ap (λ l. given ++ l) same ∙ h.normalized;
}

-- this many ready bytes go on
pub handed-on : (s : FilterStageView) (f : FramesView) (n : ℕ) (came given bytes : List ℕ) → f.ready ≡ drop n s.frames.ready
    → bytes ≡ take n s.frames.ready → Sifts s came given → Sifts (record s { frames = f }) came (given ++ bytes)
handed-on s f n came given bytes is same h = record {
  read = h.read;
  waits = h.waits;
  keeps = h.keeps;
  normalized = append_assoc given bytes f.ready
      ∙ (λ i. given ++ (same i ++ is i)) ∙ ap (λ l. given ++ l) (take-append-drop n s.frames.ready) ∙ h.normalized;
}

-- so much of what might be was
pub gone-on : (now n : ℕ) (s m : FilterStageView) (p f : FramesView) → p ≡ record s.frames { frame = frame_at now s.frames }
    → (m ≡ record s { frames = p }) ⊎ IsSifted (record s { frames = p }) m now → n ≤ free m.frames
    → f ≡ record m.frames {
      ready = drop n m.frames.ready;
      frame = frame_left m.frames.frame n;
      within = f.within;
      short = f.short;
    } → FilterStagePassesOn now s (record m { frames = f }) n
gone-on now n s m p f is sifted may rest = record {
  mid = m;
  sifted = subst (λ q. (m ≡ record s { frames = q }) ⊎ IsSifted (record s { frames = q }) m now) is sifted;
  may = may;
  ready = ap (λ g. g.ready) rest;
  frame = ap (λ g. g.frame) rest;
  since = ap (λ g. g.since) rest;
  others = refl;
}
