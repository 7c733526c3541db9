use Rattle.std.proofs.lemmas.List.{map-append}
use Rattle.std.specs.Prelude.{map, refl}
use Rattle.nt_event.specs.Lists.{table_from}
use Rattle.nt_event.specs.Locks.{LockState, free_lock}
use Rattle.nt_event.proofs.Tables.{table_grown}
use Rattle.nt_shade_dpcs.specs.Shades.{lock_said}
use Rattle.nt_shade_dpcs.proofs.making.locks.Goals as goal

pub loop-init : goal.loop-init
unfolding table_from
loop-init c = rw c.in_ok-locks.ensures.items refl

pub loop-preserved : goal.loop-preserved
loop-preserved c =
    rw c.in_ok-push.ensures.items
    (table_grown {A = LockState} c.loop.counter (λ k. free_lock c.args.script.now) (map lock_said c.loop.locks.items) _ (lock_said c.in_ok-new.field-0)
    (map-append lock_said c.loop.locks.items _) c.loop.invariant c.in_ok-new.ensures)
