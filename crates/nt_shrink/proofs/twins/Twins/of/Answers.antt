use Rattle.nt_shrink.proofs.Pairs.{all_paired, more_paired}
use Rattle.nt_shrink.proofs.twins.Twins.of.Goals as goal

pub loop-walk-preserved : goal.loop-walk-preserved
loop-walk-preserved c =
    let p = c.loop-walk in
    more_paired c.args.list.now p.walk c.next.new.self p.twins.flags.items c.part_noticed.new.self.flags.items c.push.new.self.items c.next.new.turn p.last
    c.next_of-next.result c.are_same.result p.invariant (c.next.ensures.some c.loop-walk-test.true) c.part_noticed.ensures.length
    c.part_noticed.ensures.twins c.next_of-next.ensures c.are_same.ensures c.in_ok-push.ensures.items

pub returns-clause-twins : goal.returns-clause-twins
returns-clause-twins c =
    let p = c.loop-walk in
    (all_paired c.args.list.now p.walk p.twins.flags.items p.last p.invariant (c.next.ensures.none c.loop-walk-test.false).0).1
