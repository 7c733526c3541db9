use Rattle.std.proofs.Common.{[], length}
use Rattle.nt_shrink.proofs.Greatest.{missed_first}
use Rattle.nt_shrink.proofs.Halves.{whole_search}
use Rattle.nt_shrink.proofs.Machines.{sound, taken_none}
use Rattle.nt_shrink.specs.Spare.{is_spare}
use Rattle.nt_shrink.proofs.searching.Places.search.Goals as goal

pub greatest_spare-place-requires-clause-machine : goal.greatest_spare-place-requires-clause-machine
greatest_spare-place-requires-clause-machine c =
    sound c.args.script.now c.args.turns c.args.self.now.goal [] c.in_ok-machine.machine (c.in_ok-machine.ensures c.args.self.now.goal)

pub returns : goal.returns
returns c =
    let list = c.args.self.now.turns.now in
    let g = c.args.self.now.goal in
    let test = is_spare c.args.script.now c.args.turns g list in
    let twins = c.args.self.now.twins.now.flags.items in
    whole_search test (length list) twins c.greatest_spare-place.result (c.greatest_spare-place.ensures c.args.script.now c.args.turns
    (taken_none c.args.script.now c.args.turns g [] c.in_ok-machine.machine (c.in_ok-machine.ensures g))
    (missed_first test (length list) twins c.requires.length))
