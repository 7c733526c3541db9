use Rattle.std.proofs.Common.{arith, ap, ◌∙◌}
use Rattle.nt_mark.specs.Views.{reach}
use Rattle.nt_mark.specs.Names.{pass_view}
use Rattle.nt_mark.proofs.Reach.{reach_both}
use Rattle.nt_mark.proofs.Dealing.{joining}
use Rattle.nt_mark.proofs.marks.Marks.meet.Goals as goal

pub join_seat-requires : goal.join_seat-requires
join_seat-requires c = (c.requires.table.0, c.requires.table.1, c.args.other.no_slot, (let s = c.args.self.now.wide in omega arith), joining _ _ _ _ _)

pub returns-clause-words : goal.returns-clause-words
returns-clause-words c = λ w. ap (λ m. reach w m.0) c.join_seat.ensures.2 ∙ reach_both w (pass_view c.args.pass.now) (pass_view c.args.other)
