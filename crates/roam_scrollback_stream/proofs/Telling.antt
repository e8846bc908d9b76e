-- The reported rows, part by part.
use Rattle.std.proofs.Common.{◌≡◌, ℕ, Bool, List, [], ◌∷◌, ◌++◌, map, refl, sym, ap, subst, ◌∙◌, append_assoc}
use Rattle.std.specs.List.{flat_map}
use Rattle.std.proofs.lemmas.List.{append-nil, map-append}
use Rattle.std.proofs.lemmas.List.Concat.{flat_map-append}
use Rattle.roam_rewrap.specs.Lines.{TextRow}
use Rattle.roam_scrollback.specs.Lines.{LeftRow, LinesView, Writes, lines_behind}
use Rattle.roam_scrollback.specs.Sources.{SourceView, IsSource, Sheds, left_through}
use Rattle.roam_scrollback.proofs.Standing.{continues}
use Rattle.roam_scrollback_stream.specs.Panes.{ArePartsOf, TellsAll}
use Rattle.roam_scrollback_stream.specs.Records.{Part, part_text, rows_of, rows_text, lost_text, cleared_text}
use Rattle.roam_text.specs.Log.{Item, Byte}

-- the parts up to one log, and the parts from there
pub parts-then : (rows cols : ℕ) (log mid later : List Item) (ps qs : List Part) → ArePartsOf rows cols log mid ps
    → ArePartsOf rows cols mid later qs → ArePartsOf rows cols log later (ps ++ qs)
parts-then rows cols log mid later [] qs p q = subst (λ l. ArePartsOf rows cols l later qs) p q
parts-then rows cols log mid later (part ∷ ps) qs p q = (p.0, parts-then rows cols (log ++ part.items) mid later ps qs p.1 q)

-- nothing came
pub tells-none : (s : SourceView) (n : ℕ) (out : List ℕ) → TellsAll s s n out out []
tells-none s n out = λ rows cols log is. record {
  source = subst (λ l. IsSource s rows cols l) (sym (append-nil log)) is;
  more = [];
  left = ap (left_through rows cols) (append-nil log) ∙ sym (append-nil (left_through rows cols log));
  tells = record { parts = []; text = sym (append-nil out); all_of = refl };
  parts = append-nil log;
}

-- the lines of a source are reported
pub tells-one : (old new : SourceView) (v w : LinesView) (kept : List TextRow) (cleared : Bool) (items : List Item) (n : ℕ)
    (out out' : List ℕ) → v ≡ lines_behind kept
    → Sheds old new v w cleared items → out' ≡ out ++ (rows_text n w ++ (lost_text n w ++ cleared_text n cleared))
    → TellsAll old new n out out' items
tells-one old new v w kept cleared items n out out' none sheds text = λ rows cols log is.
    let k = continues old new v w cleared items rows cols log sheds is in
    let gives = sheds.gives log is.reads in
    let part : Part = record { items = items; rows = k.more; before = kept; lines = w; written = subst (λ (u : LinesView). Writes u w k.more) none k.written; is_cleared = cleared } in
    record {
      source = k.source;
      more = k.more;
      left = k.left;
      tells = record {
        parts = part ∷ [];
        text = text ∙ ap (λ l. out ++ l) (sym (append-nil (part_text n part)));
        all_of = append-nil k.more;
      };
      parts = (record { came = gives.more; functions = gives.functions; left = k.left; cleared = gives.cleared }, refl);
    }

-- some came, and then more
pub tells-then : (a b c : SourceView) (n : ℕ) (one two three : List ℕ) (xs ys : List ℕ) → TellsAll a b n one two (map Byte xs)
    → TellsAll b c n two three (map Byte ys) → TellsAll a c n one three (map Byte (xs ++ ys))
tells-then a b c n one two three xs ys p q = λ rows cols log is.
    let first = p rows cols log is in
    let second = q rows cols (log ++ map Byte xs) first.source in
    let together : (log ++ map Byte xs) ++ map Byte ys ≡ log ++ map Byte (xs ++ ys) =
    append_assoc log (map Byte xs) (map Byte ys) ∙ sym (ap (λ l. log ++ l) (map-append Byte xs ys)) in
    record {
      source = subst (λ l. IsSource c rows cols l) together second.source;
      more = first.more ++ second.more;
      left =
          sym (ap (left_through rows cols) together) ∙ second.left ∙ ap (λ l. l ++ second.more) first.left
          ∙ append_assoc (left_through rows cols log) first.more second.more;
      tells = record {
        parts = first.tells.parts ++ second.tells.parts;
        text =
            second.tells.text ∙ ap (λ l. l ++ flat_map (part_text n) second.tells.parts) first.tells.text
            ∙ append_assoc one (flat_map (part_text n) first.tells.parts) (flat_map (part_text n) second.tells.parts)
            ∙ ap (λ l. one ++ l) (sym (flat_map-append (part_text n) first.tells.parts second.tells.parts));
        all_of =
            flat_map-append rows_of first.tells.parts second.tells.parts
            ∙ ap (λ l. l ++ flat_map rows_of second.tells.parts) first.tells.all_of ∙ ap (λ l. first.more ++ l) second.tells.all_of;
      };
      parts =
          subst (λ l. ArePartsOf rows cols log l (first.tells.parts ++ second.tells.parts)) together
          (parts-then rows cols log (log ++ map Byte xs) ((log ++ map Byte xs) ++ map Byte ys) first.tells.parts second.tells.parts
          first.parts second.parts);
    }
