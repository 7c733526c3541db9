use Rattle.std.proofs.Common.{ap, map, subst, sym, ◌∙◌}
use Rattle.std.specs.List.Sorted.{IsStrictlyIncreasing}
use Rattle.std.specs.Prelude.{All, List, ℕ}
use Rattle.nt_event.specs.declared.jobs.Lane.{Lane}
use Rattle.nt_event.specs.Lanes.{lane_number}
use Rattle.nt_states.specs.LaneLists.{LaneFits}
use Rattle.nt_lane_record.proofs.LaneNumbers.{lanes_few, lanes_rise, numbers_within}
use Rattle.nt_lane_record.proofs.numbers.touched_numbers.Goals as goal

pub numbers_of-requires-clause-few : goal.numbers_of-requires-clause-few
numbers_of-requires-clause-few c =
    let t = c.requires.touched in
    rw (c.as_slice.ensures, t.1) (lanes_few c.args.script.now c.args.stand.now c.args.what.now t.0)

pub returns-clause-rising : goal.returns-clause-rising
returns-clause-rising c =
    let t = c.requires.touched in
    let s = c.args.script.now in
    let named = subst (λ (xs : List Lane). All (LaneFits s) xs) t.1 c.requires.named in
    subst (λ (ns : List ℕ). IsStrictlyIncreasing ns)
    (sym (c.numbers_of.ensures ∙ ap (λ (xs : List Lane). map (lane_number s) xs) (c.as_slice.ensures ∙ t.1)))
    (lanes_rise s c.args.stand.now c.args.what.now t.0 named)

pub returns-clause-within : goal.returns-clause-within
returns-clause-within c =
    let s = c.args.script.now in
    rw (c.numbers_of.ensures, c.as_slice.ensures) (numbers_within s c.args.lanes.now c.requires.named)
