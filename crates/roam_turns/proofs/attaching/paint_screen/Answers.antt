use Rattle.std.proofs.Common.{rules, [], ◌∷◌, ◌∙◌, true, false, Some, refl, ap, sym, subst}
use Rattle.std.specs.Io.KnownBytes.{Appends}
use Rattle.roam_screens.specs.Shown.{shown_by}
use Rattle.roam_turns.specs.Calls.PortCall.{Showed}
use Rattle.roam_turns.specs.Painting.{IsNoted, Led}
use Rattle.roam_turns.specs.Parts.Call.{Port}
use Rattle.roam_turns.specs.Turns.{Paints}
use Rattle.roam_turns.specs.declared.outer.Noted.{Noted}
use Rattle.roam_turns.proofs.Leading.{text_led}
use Rattle.roam_turns.proofs.Making.{Just, makes_none, makes_port, makes_as}
use Rattle.roam_turns.proofs.Painted.{paints_shown, paints_failed}
use Rattle.roam_turns.proofs.attaching.paint_screen.Goals as goal

pub returns-then-show-clause-paints : goal.returns-then-show-clause-paints
returns-then-show-clause-paints g c =
    let step = g.C.ClientCore.step in
    let n = g.C.ClientCore.number c.args.client.now in
    let s = g.C.ClientCore.screen c.args.client.now in
    let not : IsNoted c.shown-number.result.0 c.args.outer.now → ⊥ = λ h. search (rules, c.is_noted.ensures.noted.1 h) in
    makes_as step (Just (Port (Showed c.deref.result.now true) ∷ [])) (Paints n s c.args.outer.now c.note.new.self)
    (makes_port step [] (Showed c.deref.result.now true) (makes_none step) c.if-show.ensures.tells)
    (paints_shown n c.shown-number.result.0 s (shown_by c.shown-number.result.1) c.args.outer.now c.note.new.self c.in-Ok.painting.text.items
    c.deref.result.now c.shown-number.ensures.number c.shown-number.ensures.screen not c.in-Ok.ensures.text c.deref.ensures.value
    c.in-Ok.painting.noted c.in-Ok.ensures.noted c.note.ensures.noted)

pub returns-else-show-clause-paints : goal.returns-else-show-clause-paints
returns-else-show-clause-paints g c =
    let step = g.C.ClientCore.step in
    let n = g.C.ClientCore.number c.args.client.now in
    let s = g.C.ClientCore.screen c.args.client.now in
    let not : IsNoted c.shown-number.result.0 c.args.outer.now → ⊥ = λ h. search (rules, c.is_noted.ensures.noted.1 h) in
    makes_as step (Just (Port (Showed c.deref.result.now false) ∷ [])) (Paints n s c.args.outer.now c.note-else-show.new.self)
    (makes_port step [] (Showed c.deref.result.now false) (makes_none step) c.if-show.ensures.tells)
    (paints_failed n c.shown-number.result.0 s (shown_by c.shown-number.result.1) c.args.outer.now c.note-else-show.new.self
    c.in-Ok.painting.text.items c.deref.result.now c.shown-number.ensures.number c.shown-number.ensures.screen not c.in-Ok.ensures.text
    c.deref.ensures.value c.note-else-show.ensures.noted)

pub returns-then-show-clause-led : goal.returns-then-show-clause-led
returns-then-show-clause-led g c =
    let outer = c.args.outer.now in
    let before = g.P.Ports.written c.args.ports.now in
    let s = shown_by c.shown-number.result.1 in
    let noted : Noted = record { number = c.shown-number.result.0; screen = s } in
    let after = g.P.Ports.written c.show.new.self in
    let text = subst (λ l. Appends before after l) (c.deref.ensures.value ∙ c.in-Ok.ensures.text) (c.if-show.ensures.written refl) in
    subst (λ o. Led outer before o after) (sym (c.note.ensures.noted ∙ ap (λ x. Some x) c.in-Ok.ensures.noted))
    (text_led c.painted_leads_over.ensures.leads c.opened_begins_blank.ensures.begins outer noted before after c.facts.ensures.screenshot text)
