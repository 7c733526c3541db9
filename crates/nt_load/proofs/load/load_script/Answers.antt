use Rattle.std.proofs.Common.{subst, sym}
use Rattle.nt_load.proofs.Soundness.{made_load}
use Rattle.nt_load.proofs.load.load_script.Goals as goal
use Rattle.nt_script.specs.Sound.{IsSound}

pub returns-clause-input : goal.returns-clause-input
returns-clause-input c =
    made_load c.args.seed _ _ c.in_ok-draw_script.ensures.script c.in_ok-load_names.ensures

pub returns-clause-sound : goal.returns-clause-sound
returns-clause-sound c = subst IsSound (sym (returns-clause-input c)) c.in_ok-draw_script.ensures.sound
