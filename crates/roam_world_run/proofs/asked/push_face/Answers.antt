use Rattle.std.proofs.Common.{◌++◌, ◌∙◌, sym, subst, ap, string_bytes}
use Rattle.roam_hub.specs.Servers.{Stands as ServerStands}
use Rattle.roam_world_run.specs.Asked.{face_text}
use Rattle.roam_show.specs.ShowText.{screen_text}
use Rattle.roam_world_run.proofs.Asking.{ok_then}
use Rattle.roam_world_run.proofs.asked.push_face.Goals as goal

pub returns-clause-text : goal.returns-clause-text
unfolding face_text
returns-clause-text c = ok_then c.push_screen.result c.push_screen.ensures.text (λ e w s.
    let server = subst (λ v. ServerStands v w.server) (sym c.server.ensures.server) s.server in
    e ∙ ap (λ t. string_bytes c.args.text.now ++ screen_text t) (c.in_ok-face.ensures.face w.server server))
