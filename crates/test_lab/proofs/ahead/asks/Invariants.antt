use Rattle.std.proofs.Common.{All, ◌*◌, ◌+◌}
use Rattle.nt_shade_asks.specs.Follows.{HasRoom}
use Rattle.nt_shade_asks.proofs.Placed.{ArePlaced}
use Rattle.test_lab.proofs.ahead.asks.Given as goal

abbrev pub invariant-loop-class : goal.invariant-loop-class
invariant-loop-class l = ArePlaced (l.cpu * 16 + l.class) l.classes.items × All (HasRoom l.script) l.classes.items

abbrev pub invariant-loop-cpu : goal.invariant-loop-cpu
invariant-loop-cpu l = ArePlaced (l.cpu * 16) l.classes.items × All (HasRoom l.script) l.classes.items
