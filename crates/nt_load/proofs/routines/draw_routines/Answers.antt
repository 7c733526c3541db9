use Rattle.std.proofs.Common.{List, [], ap, ◌∙◌, ◌∷◌}
use Rattle.nt_event.specs.declared.commands.Command.{Command}
use Rattle.nt_load.proofs.Numbers.{begin_none, begin_routine, busy_routine_is}
use Rattle.nt_load.proofs.Tables.{behind_grown, one_and_none}
use Rattle.nt_load.proofs.routines.draw_routines.Goals as goal
use Rattle.nt_load.specs.Load.{idle_routine}

pub loop-r-init : goal.loop-r-init
loop-r-init c = (
  one_and_none _ _ _ _ _ c.in_ok-push.ensures.ok c.in_ok-routines.ensures
      (ap (λ (cs : List Command). record { commands = cs }) c.new.ensures),
  c.new-draws.ensures ∙ begin_none _,
)

pub loop-r-preserved : goal.loop-r-preserved
loop-r-preserved c = (
  behind_grown _ _ (idle_routine ∷ []) _ _ _ c.in_ok-push-2.ensures.ok c.loop-r.invariant.0
      (busy_routine_is _ _ _ _ c.loop-r.invariant.1 c.in_ok-draw_routine.ensures.commands),
  begin_routine _ _ _ _ c.loop-r.invariant.1 c.in_ok-draw_routine.ensures.moved,
)
