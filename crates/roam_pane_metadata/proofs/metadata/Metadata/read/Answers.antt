use Rattle.std.proofs.Common.{◌++◌, sym, subst, ap, ◌∙◌}
use Rattle.std.specs.Option.{option_to_list}
use Rattle.roam_text.specs.Dispatched.{functions_by}
use Rattle.roam_text.specs.Strings.{after_step}
use Rattle.roam_pane_metadata.specs.Metadata.{MetadataView, Stands}
use Rattle.roam_pane_metadata.proofs.Standing.{byte-stands}
use Rattle.roam_pane_metadata.proofs.metadata.Metadata.read.Goals as goal

pub returns-clause-stands : goal.returns-clause-stands
returns-clause-stands c bytes stands =
    let inside : MetadataView = record {
      reader = c.self.inside.reader;
      strings = c.self.inside.strings;
      settings = c.self.inside.settings;
      texts = c.self.inside.texts;
      modes = c.self.inside.modes;
      head = c.self.inside.head;
      asked = c.self.inside.asked;
    } in
    let after : MetadataView = record {
      reader = c.dispatch-dispatched.new.self;
      strings = c.next-steps.new.self;
      settings = c.heard_by-self-inside.result;
      texts = c.take-2.new.self;
      modes = c.modes_by-self-inside.result;
      head = c.take-later.new.self;
      asked = c.note-3.new.self;
    } in
    byte-stands inside after c.args.byte bytes (subst (λ v. Stands v bytes) (sym c.self.view_is) stands)
    (functions_by c.dispatch-dispatched.result after.reader.parameters after.reader.intermediates) c.next-steps.result
    c.query_by-query.result c.take-first.result c.take-later.result c.is_reset_by.result
    c.dispatch-dispatched.ensures.stands c.dispatch-dispatched.ensures.gained c.next-steps.ensures.follows c.next-steps.ensures.strings
    c.heard_by-self-inside.ensures.heard c.is_reset_by.ensures.reset
    (λ emitted all kept. c.take-2.ensures.keeps _ (after_step c.next-steps.result.first all)
    (c.take.ensures.keeps _ all (c.hear.ensures.keeps emitted all.begun kept)))
    c.modes_by-self-inside.ensures.modes c.query_by-query.ensures.asked
    (λ all heads. c.take-later.ensures.heads _ (c.take-first.ensures.heads all heads))
    (λ all heads. c.take-later.ensures.asked (after_step c.next-steps.result.first all) (c.take-first.ensures.heads all heads)
    ∙ ap (λ l. l ++ option_to_list c.take-later.result) (c.take-first.ensures.asked all heads))
    (λ all recalls. c.note-3.ensures.recalls _ (c.note-2.ensures.recalls _ (c.note.ensures.recalls all recalls)))
