-- A reader of the metadata lines of a pane knows its metadata, and each line is news.
use Rattle.std.proofs.Common.{◌≡◌, ℕ, Bool, true, false, cond, eqb, List, [], ◌∷◌, ◌++◌, Option, Some, None, refl, sym, ap, ◌∙◌, subst}
use Rattle.std.specs.Prelude.{◌≢◌}
use Rattle.std.specs.List.{fold}
use Rattle.std.proofs.lemmas.Bool.{ne_eqb, eqb-true, eq-eqb, false≢true, and_parts}
use Rattle.std.proofs.lemmas.List.Sums.{fold-append}
use Rattle.roam_pane_metadata.specs.declared.settings.Settings.{Settings}
use Rattle.roam_pane_metadata.specs.declared.settings.Tracking.{Tracking}
use Rattle.roam_pane_metadata.specs.declared.settings.Tracking.TheVariants.{Off, Buttons, Drags, Motion}
use Rattle.roam_pane_protocol.specs.declared.metadata_list.MetadataPane.{MetadataPane}
use Rattle.roam_pane_protocol.specs.MetadataLists.{fresh_metadata, in_generation, same_flag, same_modes, same_tracking, with_bells, with_modes, with_shape, with_titles}
use Rattle.roam_pane_protocol.specs.MetadataLines.{MetadataLine, Modes, Shape, Title, Bell, modes_news, shape_news, title_news, bell_news, generation_news, KnownMetadata, learned, after_metadata, IsMetadataNews, AreMetadataNews, Learns, MetadataArrives, MetadataIsNews}

-- ---- one generation of a pane

generation_is : (generation : ℕ) (o : Option MetadataPane) → (in_generation generation o).generation ≡ generation
generation_is generation None = refl
generation_is generation (Some b) = by (eqb b.generation generation) refl
  where
    by : (c : Bool) → eqb b.generation generation ≡ c → (cond c b (fresh_metadata generation)).generation ≡ generation
    by true e = eqb-true b.generation generation e
    by false e = refl

in_own : (generation : ℕ) (b : MetadataPane) → b.generation ≡ generation → in_generation generation (Some b) ≡ b
in_own generation b e = ap (λ c. cond c b (fresh_metadata generation)) (eq-eqb b.generation generation e)

-- a subscriber knows this of a generation of a pane, and of each other pane what he knew
record Knows (p generation : ℕ) (b : MetadataPane) (old new : KnownMetadata) : Type 0 where
  this : in_generation generation (new p) ≡ b
  others : (q : ℕ) → q ≢ p → new q ≡ old q

knows_on : (p generation : ℕ) (b c : MetadataPane) (old mid new : KnownMetadata) → Knows p generation b old mid → Knows p generation c mid new
    → Knows p generation c old new
knows_on p generation b c old mid new one more = record { this = more.this; others = λ q apart. more.others q apart ∙ one.others q apart }

module _ (p generation : ℕ) (change : MetadataPane → MetadataPane) (keeps : (b : MetadataPane) → (change b).generation ≡ b.generation) where
  learns : (b : MetadataPane) (known : KnownMetadata) → in_generation generation (known p) ≡ b → Knows p generation (change b) known (learned p generation change known)
  learns b known is =
      let at : MetadataPane = change (in_generation generation (known p)) in
      let own : at.generation ≡ generation = keeps (in_generation generation (known p)) ∙ generation_is generation (known p) in
      record {
        this = ap (λ c. in_generation generation (cond c (Some at) (known p))) (eq-eqb p p refl) ∙ in_own generation at own ∙ ap change is;
        others = λ q apart. ap (λ c. cond c (Some at) (known q)) (ne_eqb q p apart);
      }

  -- a line that is sent unless this part is the same already
  step : (same : Bool) (b : MetadataPane) (line : MetadataLine) (known : KnownMetadata) → in_generation generation (known p) ≡ b
      → after_metadata known line ≡ learned p generation change known → (same ≡ true → change b ≡ b)
      → Knows p generation (change b) known (fold after_metadata known (cond same [] (line ∷ [])))
  step true b line known is reads stays = record { this = is ∙ sym (stays refl); others = λ q apart. refl }
  step false b line known is reads stays = subst (λ m. Knows p generation (change b) known m) (sym reads) (learns b known is)

-- ---- the parts

same_tracking_is : (one other : Tracking) → same_tracking one other ≡ true → one ≡ other
same_tracking_is Off Off e = refl
same_tracking_is Off Buttons e = absurd (false≢true e)
same_tracking_is Off Drags e = absurd (false≢true e)
same_tracking_is Off Motion e = absurd (false≢true e)
same_tracking_is Buttons Off e = absurd (false≢true e)
same_tracking_is Buttons Buttons e = refl
same_tracking_is Buttons Drags e = absurd (false≢true e)
same_tracking_is Buttons Motion e = absurd (false≢true e)
same_tracking_is Drags Off e = absurd (false≢true e)
same_tracking_is Drags Buttons e = absurd (false≢true e)
same_tracking_is Drags Drags e = refl
same_tracking_is Drags Motion e = absurd (false≢true e)
same_tracking_is Motion Off e = absurd (false≢true e)
same_tracking_is Motion Buttons e = absurd (false≢true e)
same_tracking_is Motion Drags e = absurd (false≢true e)
same_tracking_is Motion Motion e = refl

same_flag_is : (one other : Bool) → same_flag one other ≡ true → one ≡ other
same_flag_is true other e = sym e
same_flag_is false true e = absurd (false≢true e)
same_flag_is false false e = refl

modes_stay : (s : Settings) (b : MetadataPane) → same_modes b.settings s ≡ true → with_modes s b ≡ b
modes_stay s b e =
    let t = b.settings in
    let tracking = and_parts (same_tracking t.tracking s.tracking) _ e in
    let sgr = and_parts (same_flag t.sgr_reports s.sgr_reports) _ tracking.1 in
    let focus = and_parts (same_flag t.focus_reports s.focus_reports) _ sgr.1 in
    let paste = and_parts (same_flag t.bracketed_paste s.bracketed_paste) _ focus.1 in
    let other = and_parts (same_flag t.alternate_screen s.alternate_screen) _ paste.1 in
    let keypad = and_parts (same_flag t.application_keypad s.application_keypad) (eqb t.other_keys s.other_keys) other.1 in
    λ i. record b {
      settings = record t {
        tracking = sym (same_tracking_is t.tracking s.tracking tracking.0) i;
        sgr_reports = sym (same_flag_is t.sgr_reports s.sgr_reports sgr.0) i;
        focus_reports = sym (same_flag_is t.focus_reports s.focus_reports focus.0) i;
        bracketed_paste = sym (same_flag_is t.bracketed_paste s.bracketed_paste paste.0) i;
        alternate_screen = sym (same_flag_is t.alternate_screen s.alternate_screen other.0) i;
        application_keypad = sym (same_flag_is t.application_keypad s.application_keypad keypad.0) i;
        other_keys = sym (eqb-true t.other_keys s.other_keys keypad.1) i;
      };
    }

shape_stays : (n : ℕ) (b : MetadataPane) → eqb b.settings.shape n ≡ true → with_shape n b ≡ b
shape_stays n b e = λ i. with_shape (sym (eqb-true b.settings.shape n e) i) b

titles_stay : (n : ℕ) (b : MetadataPane) → eqb b.titles n ≡ true → with_titles n b ≡ b
titles_stay n b e = λ i. with_titles (sym (eqb-true b.titles n e) i) b

bells_stay : (n : ℕ) (b : MetadataPane) → eqb b.settings.bells n ≡ true → with_bells n b ≡ b
bells_stay n b e = λ i. with_bells (sym (eqb-true b.settings.bells n e) i) b

-- ---- one after the other

module _ (p : ℕ) (now told : MetadataPane) (known : KnownMetadata) (is : in_generation now.generation (known p) ≡ told) where
  abbrev generation : ℕ
  generation = now.generation

  -- the knowledge after each of them
  abbrev first : KnownMetadata
  first = fold after_metadata known (modes_news p told now)

  abbrev second : KnownMetadata
  second = fold after_metadata first (shape_news p told now)

  abbrev third : KnownMetadata
  third = fold after_metadata second (title_news p told now)

  abbrev last : KnownMetadata
  last = fold after_metadata third (bell_news p told now)

  abbrev with_one : MetadataPane
  with_one = with_modes now.settings told

  abbrev with_two : MetadataPane
  with_two = with_shape now.settings.shape with_one

  abbrev with_three : MetadataPane
  with_three = with_titles now.titles with_two

  abbrev with_all : MetadataPane
  with_all = with_bells now.settings.bells with_three

  knows_one : Knows p generation with_one known first
  knows_one = step p generation (with_modes now.settings) (λ b. refl) (same_modes told.settings now.settings) told (Modes p generation now.settings) known is
      refl (modes_stay now.settings told)

  knows_two : Knows p generation with_two first second
  knows_two = step p generation (with_shape now.settings.shape) (λ b. refl) (eqb told.settings.shape now.settings.shape) with_one
      (Shape p generation now.settings.shape) first knows_one.this refl (shape_stays now.settings.shape with_one)

  knows_three : Knows p generation with_three second third
  knows_three = step p generation (with_titles now.titles) (λ b. refl) (eqb told.titles now.titles) with_two (Title p generation now.titles) second
      knows_two.this refl (titles_stay now.titles with_two)

  knows_last : Knows p generation with_all third last
  knows_last = step p generation (with_bells now.settings.bells) (λ b. refl) (eqb told.settings.bells now.settings.bells) with_three
      (Bell p generation now.settings.bells) third knows_three.this refl (bells_stay now.settings.bells with_three)

  all_is : with_all ≡ now
  all_is =
      let own : told.generation ≡ now.generation = ap (λ b. b.generation) (sym is) ∙ generation_is now.generation (known p) in
      λ i. record now { generation = own i }

  knows_all : Knows p generation now known last
  knows_all = subst (λ b. Knows p generation b known last) all_is
      (knows_on p generation with_three with_all known third last
      (knows_on p generation with_two with_three known second third (knows_on p generation with_one with_two known first second knows_one knows_two)
      knows_three) knows_last)

  read_all : fold after_metadata known (generation_news p told now) ≡ last
  read_all =
      fold-append after_metadata known (modes_news p told now ++ shape_news p told now) (title_news p told now ++ bell_news p told now)
      ∙ ap (λ k. fold after_metadata k (title_news p told now ++ bell_news p told now))
      (fold-append after_metadata known (modes_news p told now) (shape_news p told now))
      ∙ fold-append after_metadata second (title_news p told now) (bell_news p told now)

  -- ---- each is news

  news_alone : (same : Bool) (line : MetadataLine) (k : KnownMetadata) → (same ≡ false → IsMetadataNews k line)
      → AreMetadataNews k (cond same [] (line ∷ []))
  news_alone true line k h = tt
  news_alone false line k h = (h refl, tt)

  news_both : (xs ys : List MetadataLine) (k : KnownMetadata) → AreMetadataNews k xs → AreMetadataNews (fold after_metadata k xs) ys
      → AreMetadataNews k (xs ++ ys)
  news_both [] ys k h more = more
  news_both (x ∷ xs) ys k h more = (h.0, news_both xs ys (after_metadata k x) h.1 more)

  apart : (f : MetadataPane → ℕ) (b : MetadataPane) (o : Option MetadataPane) (n : ℕ) → in_generation generation o ≡ b → eqb (f b) n ≡ false
      → f (in_generation generation o) ≢ n
  apart f b o n e differ same = false≢true (sym differ ∙ eq-eqb (f b) n (ap f (sym e) ∙ same))

  modes_are_news : AreMetadataNews known (modes_news p told now)
  modes_are_news = news_alone (same_modes told.settings now.settings) (Modes p generation now.settings) known
      (λ e. ap (λ b. same_modes b.settings now.settings) is ∙ e)

  shape_is_news : AreMetadataNews first (shape_news p told now)
  shape_is_news = news_alone (eqb told.settings.shape now.settings.shape) (Shape p generation now.settings.shape) first
      (apart (λ b. b.settings.shape) with_one (first p) now.settings.shape knows_one.this)

  title_is_news : AreMetadataNews second (title_news p told now)
  title_is_news = news_alone (eqb told.titles now.titles) (Title p generation now.titles) second
      (apart (λ b. b.titles) with_two (second p) now.titles knows_two.this)

  bell_is_news : AreMetadataNews third (bell_news p told now)
  bell_is_news = news_alone (eqb told.settings.bells now.settings.bells) (Bell p generation now.settings.bells) third
      (apart (λ b. b.settings.bells) with_three (third p) now.settings.bells knows_three.this)

  all_are_news : AreMetadataNews known (generation_news p told now)
  all_are_news =
      news_both (modes_news p told now ++ shape_news p told now) (title_news p told now ++ bell_news p told now) known
      (news_both (modes_news p told now) (shape_news p told now) known modes_are_news shape_is_news)
      (subst (λ k. AreMetadataNews k (title_news p told now ++ bell_news p told now))
      (sym (fold-append after_metadata known (modes_news p told now) (shape_news p told now)))
      (news_both (title_news p told now) (bell_news p told now) second title_is_news bell_is_news))

-- ---- the laws

pub arrives : MetadataArrives
arrives p known None = record { this = tt; others = λ q apart. refl }
arrives p known (Some now) =
    let told : MetadataPane = in_generation now.generation (known p) in
    let all = knows_all p now told known refl in
    subst (λ k. Learns p (Some now) known k) (sym (read_all p now told known refl)) (record { this = all.this; others = all.others })

pub is-news : MetadataIsNews
is-news p known None = tt
is-news p known (Some now) = all_are_news p now (in_generation now.generation (known p)) known refl
