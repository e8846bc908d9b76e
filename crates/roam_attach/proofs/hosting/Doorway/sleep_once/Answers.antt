use Rattle.std.proofs.Common.{◌≡◌, None, rules, sym, ◌∙◌}
use Rattle.roam_attach.proofs.hosting.Doorway.sleep_once.Goals as goal

pub returns-clause-goes_on : goal.returns-clause-goes_on
returns-clause-goes_on g c = λ none.
    let goes : c.woken.result ≡ None = search rules in (
      c.if-not-is_woken_by_terminal.self,
      c.has_news.result,
      sym c.woken.ensures.woken ∙ goes,
      sym c.doze.ensures.input ∙ none,
      c.doze.ensures.came,
    )
