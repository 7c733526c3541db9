use Rattle.nt_load.proofs.Soundness.{load_is_sound, made_script}
use Rattle.nt_load.proofs.load.draw_script.Goals as goal

pub returns-clause-script : goal.returns-clause-script
returns-clause-script c =
    made_script c.args.seed _ _ _ _ _ _ c.in_ok-isrs.ensures c.in_ok-dpcs.ensures c.in_ok-timers.ensures c.in_ok-threads.ensures
    c.in_ok-apcs.ensures c.in_ok-draw_routines.ensures

pub returns-clause-sound : goal.returns-clause-sound
returns-clause-sound c = load_is_sound c.args.seed
