use Rattle.std.proofs.Common.{◌≡◌, false, true, rules}
use Rattle.roam_outer_terminal.specs.Terminals.{adaptive_of}
use Rattle.std.specs.Prelude.{Some}
use Rattle.roam_outer_terminal.proofs.TakenLines.{is_set}
use Rattle.roam_outer_terminal.proofs.hearing.overlay_for.Goals as goal

pub returns-in-Always : goal.returns-in-Always
returns-in-Always c =
    let wanted : adaptive_of c.args.predicting ≡ Some false = search rules in
    let heard : c.args.watches ≡ false = search rules in
    record { set = is_set c.args.predicting c.args.watches false c.new_overlay.result heard wanted c.new_overlay.ensures.fresh }

pub returns-in-Adaptive : goal.returns-in-Adaptive
returns-in-Adaptive c =
    let wanted : adaptive_of c.args.predicting ≡ Some true = search rules in
    let heard : c.args.watches ≡ false = search rules in
    record {
      set = is_set c.args.predicting c.args.watches true c.new_overlay-in-Adaptive.result heard wanted c.new_overlay-in-Adaptive.ensures.fresh;
    }
