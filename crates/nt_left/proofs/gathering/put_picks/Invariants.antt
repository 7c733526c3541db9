use Rattle.std.proofs.Common.{map, take, ◌≡◌, ◌++◌}
use Rattle.nt_left.specs.Items.{apc_item}
use Rattle.nt_left.proofs.gathering.put_picks.Given as goal

abbrev pub invariant-loop-pick : goal.invariant-loop-pick
invariant-loop-pick l =
    l.out.items ≡ l.fn.out.items ++ map (apc_item l.limit l.cpu.own l.thread l.state.doing) (take l.pick-index l.pending)
