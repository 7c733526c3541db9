use Rattle.std.proofs.Common.{arith, subst, sym, ◌<◌}
use Rattle.nt_event.specs.Lanes.{lane_count}
use Rattle.nt_floor.specs.Views.{HasWord}
use Rattle.nt_plain.specs.States.{PlainState, view_of}
use Rattle.nt_plain.proofs.Apart.{below_values}
use Rattle.nt_plain.proofs.Within.{row_room, told_room}
use Rattle.nt_plain.proofs.plain.PlainFloor.told.Goals as goal

pub row_of-row-requires : goal.row_of-row-requires
row_of-row-requires c =
    let s = c.self.inside.states.script in
    let lane = subst (λ (f : PlainState). c.args.number < lane_count f.script) (sym c.self.view_is) c.requires.lane in
    let word = subst (λ (f : PlainState). HasWord (view_of f) c.args.p c.args.class) (sym c.self.view_is) c.requires.word in
    let room = row_room s.cpus c.args.number c.args.p.0 (lane_count s) lane word.0 in
    let few = told_room (lane_count s) s.cpus c.self.inside.told c.self.invariant.told_length c.self.invariant.lane_count c.self.invariant.cpus in
    let size = c.self.invariant.told_length in
    rw c.whole_script.ensures (omega (arith, room, few, size))

pub get-requires : goal.get-requires
get-requires c =
    let s = c.self.inside.states.script in
    let lane = subst (λ (f : PlainState). c.args.number < lane_count f.script) (sym c.self.view_is) c.requires.lane in
    let word = subst (λ (f : PlainState). HasWord (view_of f) c.args.p c.args.class) (sym c.self.view_is) c.requires.word in
    let below = below_values s.cpus (lane_count s) c.args.number c.args.p.0 c.args.class lane word.0 word.1 in
    rw (c.row_of-row.ensures, c.whole_script.ensures, c.self.invariant.told_length) below
