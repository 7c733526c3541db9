use Rattle.std.proofs.Common.{rules, arith, ap}
use Rattle.nt_mark.specs.Names.{pass_view, keeper_view}
use Rattle.nt_mark.proofs.Sharing.{shared_words, shared_entries, shared_lists}
use Rattle.nt_mark.proofs.Dealing.{telling_all, joining}
use Rattle.nt_mark.proofs.marks.Marks.share.Goals as goal

pub split_seat-mine-requires : goal.split_seat-mine-requires
split_seat-mine-requires c = (c.requires.0, (let s = c.args.self.now.wide in omega arith), telling_all _ _ _)

pub split_seat-theirs-requires : goal.split_seat-theirs-requires
split_seat-theirs-requires c = (c.requires.1, (let s = c.args.self.now.wide in omega arith), telling_all _ _ _)

pub join_seat-requires : goal.join_seat-requires
join_seat-requires c = (search rules, search rules, ap (λ m. m.1) c.split_seat-mine.ensures.4, (let s = c.args.self.now.wide in omega arith), joining _ _ _ _ _)

pub join_seat-requires-2 : goal.join_seat-requires-2
join_seat-requires-2 c = (
  search rules,
  search rules,
  ap (λ m. m.1) c.split_seat-theirs.ensures.4,
  (let s = c.args.self.now.wide in omega arith),
  joining _ _ _ _ _,
)

pub returns-clause-words : goal.returns-clause-words
returns-clause-words c = shared_words (pass_view c.args.pass.now) (keeper_view c.args.keeper.now) c.join_seat.new.seat.me.0 c.join_seat-2.new.seat.me.0
    (search rules) (search rules)

pub returns-clause-entries : goal.returns-clause-entries
returns-clause-entries c = shared_entries (pass_view c.args.pass.now) (keeper_view c.args.keeper.now) c.join_seat.new.seat.me.0 c.join_seat-2.new.seat.me.0
    (search rules) (search rules)

pub returns-clause-lists : goal.returns-clause-lists
returns-clause-lists c = shared_lists (pass_view c.args.pass.now) (keeper_view c.args.keeper.now) c.join_seat.new.seat.me.0 c.join_seat-2.new.seat.me.0
    (search rules) (search rules)
