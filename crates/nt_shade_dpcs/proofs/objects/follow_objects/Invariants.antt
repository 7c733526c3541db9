use Rattle.nt_event.specs.Numbers.{dpc}
use Rattle.nt_event.specs.Objects.{start_object}
use Rattle.nt_shade_dpcs.specs.Changed.{object_changed}
use Rattle.nt_shade_dpcs.specs.Shades.{object_said}
use Rattle.nt_shade_dpcs.proofs.Followed.{IsFollowedTo}
use Rattle.nt_shade_dpcs.proofs.objects.follow_objects.Given as goal

abbrev pub invariant-loop-d : goal.invariant-loop-d
invariant-loop-d l =
    IsFollowedTo object_said (λ d. object_changed (dpc d) l.by l.change) start_object l.d l.fn.objects.items l.objects.items
