use Rattle.std.specs.Prelude.{map, ◌≡◌}
use Rattle.nt_event.specs.Lists.{table}
use Rattle.nt_event.specs.Objects.{start_object}
use Rattle.nt_shade_dpcs.specs.Shades.{object_said}
use Rattle.nt_shade_dpcs.proofs.making.objects.Given as goal

abbrev pub invariant-loop : goal.invariant-loop
invariant-loop l = map object_said l.objects.items ≡ table l.counter (λ d. start_object)
