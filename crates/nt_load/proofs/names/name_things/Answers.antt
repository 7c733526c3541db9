use Rattle.std.proofs.Common.{None, arith, sym, ◌<◌, ◌^◌, ◌∙◌, ◌≡◌}
use Rattle.nt_line.specs.NameLists.{meaning}
use Rattle.nt_load.specs.Load.{spelled}
use Rattle.nt_load.proofs.Spelled.{more_spelled, none_spelled, still_free}
use Rattle.nt_load.proofs.names.name_things.Goals as goal

pub loop-i-init : goal.loop-i-init
loop-i-init c = sym (none_spelled c.args.kind c.args.letter.now c.args.names.now)

pub add-requires : goal.add-requires
add-requires c =
    let small : c.loop-i.i < 2 ^ 64 = omega arith in
    let free : meaning (spelled c.args.letter.now c.loop-i.i) c.args.names.now ≡ None = c.requires c.loop-i.i c.loop-i-test.true in
    rw (c.as_str.ensures.value, c.in_ok-spell.ensures, c.loop-i.invariant)
    (still_free c.args.kind c.args.letter.now c.loop-i.i c.loop-i.i c.args.names.now (omega arith) small free)

pub loop-i-preserved : goal.loop-i-preserved
loop-i-preserved c =
    c.in_ok-add.ensures
    ∙ rw (c.as_str.ensures.value, c.in_ok-spell.ensures, c.loop-i.invariant)
    (more_spelled c.args.kind c.args.letter.now c.loop-i.i c.args.names.now)
