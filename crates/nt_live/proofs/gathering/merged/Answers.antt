use Rattle.std.proofs.Common.{ap, arith, length, sym, ◌∙◌}
use Rattle.nt_mark.specs.Names.{lanes_of, table_of}
use Rattle.nt_live.proofs.Merged.{keepers_at, merged_alone, once_alone}
use Rattle.nt_live.specs.OwnLists.{all_pairs}
use Rattle.nt_live.proofs.gathering.merged.Goals as goal

pub close-drawn-requires-clause-table : goal.close-drawn-requires-clause-table
close-drawn-requires-clause-table g c =
    let t = c.requires.table in (
      t.1 ∙ sym t.0,
      (λ k d l. absurd (let e = ap length c.new.ensures.items in omega (arith, l, e))),
      keepers_at g.N.Shared.table (table_of c.args.marks) c.close-pieces.result.lists.items c.close-pieces.result.keepers.items (sym t.0)
          c.close-pieces.ensures.each,
    )

pub by_number-requires : goal.by_number-requires
by_number-requires g c =
    let e = c.close-drawn.ensures in
    let all = once_alone g.N.Plan.script c.args.pass (all_pairs c.args.lists.now) c.close-pieces.result.keepers.items c.close-drawn.result.count
    (lanes_of c.args.marks) c.new.result.items (e.count, (e.each_once, (e.lanes, (e.rise, (e.notes, (e.prefixes, (e.looks, e.known)))))))
    c.new.ensures.items c.requires.list c.requires.lanes in
    record { count = all.0; once = all.1 }

pub returns : goal.returns
returns g c =
    let e = c.close-drawn.ensures in
    merged_alone g.N.Plan.script c.args.pass (all_pairs c.args.lists.now) c.close-pieces.result.keepers.items c.close-drawn.result.count (lanes_of c.args.marks)
    c.new.result.items (e.count, (e.each_once, (e.lanes, (e.rise, (e.notes, (e.prefixes, (e.looks, e.known))))))) c.new.ensures.items c.requires.list
    c.requires.lanes g.N.Shared.table c.close-pieces.result.lists.items c.in_ok-events.events c.close-pieces.ensures.each c.in_ok-events.ensures
