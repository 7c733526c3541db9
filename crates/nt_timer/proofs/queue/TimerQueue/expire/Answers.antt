use Rattle.std.proofs.Common.{◌≡◌, rules, sym, ◌∙◌}
use Rattle.nt_timer.specs.Settings.{expired}
use Rattle.nt_timer.proofs.Among.{due_entry_is, due_is_set}
use Rattle.nt_timer.proofs.Fewer.{fewer_due}
use Rattle.nt_timer.proofs.queue.TimerQueue.expire.Goals as goal

pub unreachable-requires : goal.unreachable-requires
unreachable-requires c =
    due_is_set c.args.self.now c.args.key c.requires (sym c.setting.ensures ∙ c.in_default.is)

pub returns-in-Some-again-clause-from : goal.returns-in-Some-again-clause-from
returns-in-Some-again-clause-from c =
    due_entry_is c.args.self.now c.args.key c.in-Some.old c.requires (sym c.setting.ensures ∙ c.in-Some.is)

pub returns-in-None-clause-from : goal.returns-in-None-clause-from
returns-in-None-clause-from c =
    due_entry_is c.args.self.now c.args.key c.in-Some.old c.requires (sym c.setting.ensures ∙ c.in-Some.is)

pub returns-in-Some-again-clause-fewer : goal.returns-in-Some-again-clause-fewer
returns-in-Some-again-clause-fewer c =
    let e : c.put.new.self ≡ expired c.args.key c.args.n c.args.self.now = search rules in
    rw e (fewer_due c.args.key c.args.n c.args.self.now c.requires)

pub returns-in-None-clause-fewer : goal.returns-in-None-clause-fewer
returns-in-None-clause-fewer c =
    let e : c.put.new.self ≡ expired c.args.key c.args.n c.args.self.now = search rules in
    rw e (fewer_due c.args.key c.args.n c.args.self.now c.requires)
