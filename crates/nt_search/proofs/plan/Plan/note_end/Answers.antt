use Rattle.std.proofs.Common.{[], List, ap, false, get_or, length, refl, subst, sym, true, ◌∙◌}
use Rattle.nt_expect.specs.declared.expectations.Watched.{Watched}
use Rattle.nt_search.specs.Machines.{Stands}
use Rattle.nt_search.proofs.Expanded.{at_end, not_quiet}
use Rattle.nt_search.proofs.Machines.{came_length, settled_is}
use Rattle.nt_search.proofs.plan.Plan.note_end.Goals as goal

pub judge_end-requires-clause-flags : goal.judge_end-requires-clause-flags
judge_end-requires-clause-flags c =
    let x = c.args.self.now in
    came_length x.watched.items _ c.args.machine.now.came.items c.requires.at.2.stands.came
    ∙ ap (λ (ws : List Watched). length ws) c.requires.plan.watched

pub returns-then-settled : goal.returns-then-settled
returns-then-settled c all h at =
    let x = c.args.self.now in
    let s = x.script.now in
    let past = get_or all c.args.from [] in
    let m = c.args.machine.now in
    let settled = settled_is s x.limit x.watched.items past m true at.stands (sym (c.settled.ensures past at.stands.after) ∙ c.if-settled.true) in
    let stands = subst (λ (w : List Watched). Stands s x.limit w past m) c.requires.plan.watched at.stands in
    at_end x all c.args.found.now h c.args.from m at _ _ settled refl refl at.stands.took (c.judge_end.ensures.judged s x.limit past stands) refl refl

pub returns-else-settled : goal.returns-else-settled
returns-else-settled c all h at =
    let x = c.args.self.now in
    let past = get_or all c.args.from [] in
    let m = c.args.machine.now in
    let settled = settled_is x.script.now x.limit x.watched.items past m false at.stands
    (sym (c.settled.ensures past at.stands.after) ∙ c.if-settled.false) in
    not_quiet x all c.args.found.now h c.args.from m at settled
