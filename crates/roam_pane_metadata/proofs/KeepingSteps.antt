-- The kept texts stay those of the control strings for which there was memory, and of each reset.
use Rattle.std.proofs.Common.{◌≡◌, ◌≤◌, ℕ, true, cond, List, [], ◌∷◌, ◌++◌, map, length, Option, None, Some, refl, sym, ap, ◌∙◌, arith, subst}
use Rattle.std.specs.Prelude.{nat_le}
use Rattle.std.specs.List.{fold}
use Rattle.std.proofs.lemmas.Bool.Decides.{nat_tests}
use Rattle.std.proofs.lemmas.List.{append-nil}
use Rattle.roam_text.specs.declared.strings.StringKind.TheVariants.{SystemCommand}
use Rattle.roam_text.specs.declared.strings.StringEnd.{StringEnd}
use Rattle.roam_text.specs.Strings.{ControlString, OpenString, Strings, ended_so}
use Rattle.roam_pane_metadata.specs.declared.keeping.Collecting.{Collecting}
use Rattle.roam_pane_metadata.specs.declared.keeping.Collecting.TheVariants.{Nothing, Text, TooLong, NoMemory}
use Rattle.roam_pane_metadata.specs.declared.keeping.Told.{Told}
use Rattle.roam_pane_metadata.specs.declared.keeping.Told.TheVariants.{Nothing as NothingTold, Title, Clip, NoMemory as NoMemoryTold}
use Rattle.roam_pane_metadata.specs.Texts.{Said, clip_in, longest_text, nothing_said, title_in, with_clip, with_either, with_text, with_title}
use Rattle.roam_pane_metadata.specs.Emissions.{Emission, Says, TakesBack, IsPartOf, nothing_left, kept_one, left_out, after_emission, without_title}
use Rattle.roam_pane_metadata.specs.Keeping.{TextsView, Ends, IsCommand, Keeps, Tells, with_told}

part-and : (kept all : List Emission) (u : Emission) → IsPartOf kept all → IsPartOf (kept ++ u ∷ []) (all ++ u ∷ [])
part-and kept all u nothing_left = kept_one u [] [] nothing_left
part-and kept all u (kept_one t k a p) = kept_one t (k ++ u ∷ []) (a ++ u ∷ []) (part-and k a u p)
part-and kept all u (left_out t k a p) = left_out t (k ++ u ∷ []) (a ++ u ∷ []) (part-and k a u p)

all-left-out : (more : List ControlString) → IsPartOf [] (map Says more)
all-left-out [] = nothing_left
all-left-out (s ∷ more) = left_out s [] (map Says more) (all-left-out more)

part-more : (kept all : List Emission) (more : List ControlString) → IsPartOf kept all → IsPartOf kept (all ++ map Says more)
part-more kept all more nothing_left = all-left-out more
part-more kept all more (kept_one t k a p) = kept_one t k (a ++ map Says more) (part-more k a more p)
part-more kept all more (left_out t k a p) = left_out t k (a ++ map Says more) (part-more k a more p)

pub said-more : (kept : List Emission) (u : Emission) (from : Said)
    → fold after_emission from (kept ++ u ∷ []) ≡ after_emission (fold after_emission from kept) u
said-more [] u from = refl
said-more (t ∷ kept) u from = said-more kept u (after_emission from t)

-- nothing more is emitted if no string ended
pub keeps-same : (v : TextsView) (emitted : List Emission) (begun : Option OpenString) → Keeps v emitted begun
    → Keeps v (emitted ++ []) begun
keeps-same v emitted begun k = subst (λ l. Keeps v l begun) (sym (append-nil emitted)) k

-- a reset takes the title back
pub keeps-reset : (v : TextsView) (emitted : List Emission) (begun : Option OpenString) → Keeps v emitted begun
    → Keeps (record v { said = without_title v.said }) (emitted ++ TakesBack ∷ []) begun
keeps-reset v emitted begun k = record {
  kept = k.kept ++ TakesBack ∷ [];
  part = part-and k.kept emitted TakesBack k.part;
  said = ap without_title k.said ∙ sym (said-more k.kept TakesBack nothing_said);
  open_text = k.open_text;
}

le-yes : (a b : ℕ) → a ≤ b → nat_le a b ≡ true
le-yes a b h = grind (arith, nat_tests)

text-says : (text : List ℕ) (s : Said) → length text ≤ longest_text → with_text text s ≡ with_either (title_in text) (clip_in text) s
text-says text s few = ap (λ b. cond b (with_either (title_in text) (clip_in text) s) s) (le-yes (length text) longest_text few)

-- the reported text is that of the string, or it is left out
module _ (emitted : List Emission) (all : Strings) (text : List ℕ) (e : StringEnd) (begun : IsCommand all.begun text) where
  abbrev string : ControlString
  string = record { kind = SystemCommand; text = text; ending = e }

  abbrev later : List Emission
  later = emitted ++ map Says (ended_so e all.begun)

  later-is : later ≡ emitted ++ Says string ∷ []
  later-is = ap (λ o. emitted ++ map Says (ended_so e o)) begun

  keeps-out : (v : TextsView) → Keeps v emitted all.begun → Keeps (record { said = v.said; collecting = Nothing; text = [] }) later None
  keeps-out v k = record {
    kept = k.kept;
    part = part-more k.kept emitted (ended_so e all.begun) k.part;
    said = k.said;
    open_text = tt;
  }

  keeps-in : (v : TextsView) → Keeps v emitted all.begun → length text ≤ longest_text → (said : Said)
      → said ≡ with_either (title_in text) (clip_in text) v.said
      → Keeps (record { said = said; collecting = Nothing; text = [] }) later None
  keeps-in v k few said is = record {
    kept = k.kept ++ Says string ∷ [];
    part = subst (IsPartOf (k.kept ++ Says string ∷ [])) (sym later-is) (part-and k.kept emitted (Says string) k.part);
    said = is ∙ sym (text-says text v.said few) ∙ ap (with_text text) k.said ∙ sym (said-more k.kept (Says string) nothing_said);
    open_text = tt;
  }

  keeps-told : (v : TextsView) (told : Told) → Keeps v emitted all.begun → length text ≤ longest_text → Tells told Text text
      → Keeps (record { said = with_told told v.said; collecting = Nothing; text = [] }) later None
  keeps-told v NothingTold k few tells = keeps-out v k
  keeps-told v NoMemoryTold k few tells = keeps-out v k
  keeps-told v (Title title) k few tells = keeps-in v k few (with_title (Some title.items) v.said)
      (sym (ap (λ o. with_either o (clip_in text) v.said) tells.1))
  keeps-told v (Clip clip) k few tells = keeps-in v k few (with_clip (Some clip.items) v.said)
      (sym (ap (λ o. with_either o (clip_in text) v.said) tells.1 ∙ ap (λ o. with_clip o v.said) tells.2))

-- nothing is reported if nothing was collected
quiet-told : (told : Told) (collecting : Collecting) (text : List ℕ) (s : Said) → Tells told collecting text → (collecting ≡ Text → ⊥) → with_told told s ≡ s
quiet-told NothingTold collecting text s tells never = refl
quiet-told NoMemoryTold collecting text s tells never = refl
quiet-told (Title title) collecting text s tells never = absurd (never tells.0)
quiet-told (Clip clip) collecting text s tells never = absurd (never tells.0)

module _ (emitted : List Emission) (all : Strings) (e : StringEnd) where
  abbrev ended : List Emission
  ended = emitted ++ map Says (ended_so e all.begun)

  keeps-unsaid : (v : TextsView) → Keeps v emitted all.begun → Keeps (record { said = v.said; collecting = Nothing; text = [] }) ended None
  keeps-unsaid v k = record {
    kept = k.kept;
    part = part-more k.kept emitted (ended_so e all.begun) k.part;
    said = k.said;
    open_text = tt;
  }

  ends-in : (said : Said) (collecting : Collecting) (text : List ℕ) (told : Told) → Tells told collecting text
      → Keeps (record { said = said; collecting = collecting; text = text }) emitted all.begun
      → Keeps (record { said = with_told told said; collecting = Nothing; text = [] }) ended None
  ends-in said Text text told tells k =
      keeps-told emitted all text e k.open_text.0 (record { said = said; collecting = Text; text = text }) told k k.open_text.1 tells
  ends-in said Nothing text told tells k =
      subst (λ s. Keeps (record { said = s; collecting = Nothing; text = [] }) ended None)
      (sym (quiet-told told Nothing text said tells (λ h. cc))) (keeps-unsaid (record { said = said; collecting = Nothing; text = text }) k)
  ends-in said TooLong text told tells k =
      subst (λ s. Keeps (record { said = s; collecting = Nothing; text = [] }) ended None)
      (sym (quiet-told told TooLong text said tells (λ h. cc))) (keeps-unsaid (record { said = said; collecting = TooLong; text = text }) k)
  ends-in said NoMemory text told tells k =
      subst (λ s. Keeps (record { said = s; collecting = Nothing; text = [] }) ended None)
      (sym (quiet-told told NoMemory text said tells (λ h. cc))) (keeps-unsaid (record { said = said; collecting = NoMemory; text = text }) k)

  pub ends-keep : (old new : TextsView) → Ends old new → Keeps old emitted all.begun → Keeps new ended None
  ends-keep old new ends k =
      subst (λ v. Keeps v ended None) (sym ends.is) (ends-in old.said old.collecting old.text ends.told ends.tells k)

-- nothing was read
pub keeps-nothing : (text : List ℕ) → Keeps (record { said = nothing_said; collecting = Nothing; text = text }) [] None
keeps-nothing text = record { kept = []; part = nothing_left; said = refl; open_text = tt }
