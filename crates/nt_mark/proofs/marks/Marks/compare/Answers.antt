use Rattle.std.proofs.Common.{rules, arith, ap}
use Rattle.nt_mark.specs.Names.{pass_view, keeper_view}
use Rattle.nt_mark.proofs.Comparing.{comparing, longest_told}
use Rattle.nt_mark.proofs.Noting.{kept_of}
use Rattle.nt_mark.proofs.Dealing.{telling_all, joining}
use Rattle.nt_mark.proofs.marks.Marks.compare.Goals as goal

pub split_seat-told-requires : goal.split_seat-told-requires
split_seat-told-requires c = (c.requires.1, (let s = c.args.self.now.wide in omega arith), telling_all _ _ _)

pub join_seat-requires : goal.join_seat-requires
join_seat-requires c = (search rules, search rules, ap (λ m. m.1) c.split_seat-told.ensures.4, (let s = c.args.self.now.wide in omega arith), joining _ _ _ _ _)

pub load-requires : goal.load-requires
load-requires c = (search rules, search rules, comparing _ _ _ _ _)

pub returns-clause-longest : goal.returns-clause-longest
returns-clause-longest c =
    let s = c.args.keeper.now in
    let k = kept_of s.seat.me.0.kept s.lane s.word s.one_lane s.its_word in
    longest_told k.0 (keeper_view s) (pass_view c.args.pass.now) c.join_seat.new.seat.me.0 k.1 (search rules) c.load.ensures.2.1 s.lane
    c.load.new.seat.me.0 c.split_seat-told.new.seat.me.0 k.2 (ap (λ m. m.0) c.load.ensures.2.0) (search rules)
