use Rattle.std.proofs.lemmas.List.{map-append}
use Rattle.std.specs.Prelude.{map, refl}
use Rattle.nt_event.specs.Lists.{table_from}
use Rattle.nt_event.specs.Objects.{ObjectState, start_object}
use Rattle.nt_event.proofs.Tables.{table_grown}
use Rattle.nt_shade_dpcs.specs.Shades.{object_said}
use Rattle.nt_shade_dpcs.proofs.making.objects.Goals as goal

pub loop-init : goal.loop-init
unfolding table_from
loop-init c = rw c.in_ok-objects.ensures.items refl

pub loop-preserved : goal.loop-preserved
loop-preserved c =
    rw c.in_ok-push.ensures.items
    (table_grown {A = ObjectState} c.loop.counter (λ d. start_object) (map object_said c.loop.objects.items) _ (object_said c.new.result)
    (map-append object_said c.loop.objects.items _) c.loop.invariant c.new.ensures)
