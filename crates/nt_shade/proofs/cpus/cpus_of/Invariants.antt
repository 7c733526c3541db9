use Rattle.std.proofs.Common.{map, take, ◌≡◌}
use Rattle.nt_shade.specs.Cpus.{cpu_said, kept_but_dues}
use Rattle.nt_shade.proofs.cpus.cpus_of.Given as goal

abbrev pub invariant-loop-cpu : goal.invariant-loop-cpu
invariant-loop-cpu l = map cpu_said l.shades.items ≡ map (λ c. kept_but_dues c.own) (take l.cpu-index l.cpus)
