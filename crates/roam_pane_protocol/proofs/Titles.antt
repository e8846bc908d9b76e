-- A title in UTF-8, one character after another; and the news of a pane, one part after the other.
use Rattle.std.proofs.Common.{◌≡◌, ℕ, List, [], ◌∷◌, ◌++◌, sym, ap, ◌∙◌, append_assoc, append-nil}
use Rattle.std.specs.Prelude.{encode_utf8, encode_utf8_all, Option, Some}
use Rattle.std.proofs.lemmas.Str.{encodes-append}
use Rattle.std.proofs.lemmas.Grind.{flat_map-append}
use Rattle.roam_pane_protocol.specs.declared.metadata_list.MetadataPane.{MetadataPane}
use Rattle.roam_pane_protocol.specs.MetadataLists.{in_generation}
use Rattle.roam_pane_protocol.specs.MetadataLines.{metadata_lines, metadata_text, metadata_texts, modes_news, shape_news, title_news, bell_news}

pub one_more : (front : List ℕ) (c : ℕ) → encode_utf8_all (front ++ c ∷ []) ≡ encode_utf8_all front ++ encode_utf8 c
one_more front c = encodes-append front (c ∷ []) ∙ ap (λ l. encode_utf8_all front ++ l) (append-nil (encode_utf8 c))

pub both_told : (p : ℕ) (told known : Option MetadataPane) (was now : MetadataPane) (title old mid new : List ℕ) → known ≡ Some now
    → was ≡ in_generation now.generation told → mid ≡ old ++ metadata_texts title (modes_news p was now ++ shape_news p was now)
    → new ≡ mid ++ metadata_texts title (title_news p was now ++ bell_news p was now) → new ≡ old ++ metadata_texts title (metadata_lines p told known)
both_told p told known was now title old mid new is in_it first then =
    let x = modes_news p was now ++ shape_news p was now in
    let y = title_news p was now ++ bell_news p was now in
    then ∙ ap (λ t. t ++ metadata_texts title y) first ∙ append_assoc old (metadata_texts title x) (metadata_texts title y)
    ∙ ap (λ t. old ++ t) (sym (flat_map-append (metadata_text title) x y))
    ∙ ap (λ w. old ++ metadata_texts title ((modes_news p w now ++ shape_news p w now) ++ (title_news p w now ++ bell_news p w now))) in_it
    ∙ ap (λ o. old ++ metadata_texts title (metadata_lines p told o)) (sym is)
