use Rattle.std.proofs.Common.{map, take, ◌≡◌}
use Rattle.nt_alike.specs.Bare.{bare_pick}
use Rattle.nt_shade.specs.Threads.{pick_said}
use Rattle.nt_shade.proofs.threads.picks_of.Given as goal

abbrev pub invariant-loop-pick : goal.invariant-loop-pick
invariant-loop-pick l = map pick_said l.picks.items ≡ map bare_pick (take l.pick-index l.pending)
