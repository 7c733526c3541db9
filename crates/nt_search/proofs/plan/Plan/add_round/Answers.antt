use Rattle.std.proofs.Common.{[], arith, get_or}
use Rattle.nt_search.proofs.Leading.{lead_length}
use Rattle.nt_search.proofs.Beginning.{none_kept}
use Rattle.nt_search.proofs.plan.Plan.add_round.Goals as goal

pub machine_at-requires-clause-number : goal.machine_at-requires-clause-number
machine_at-requires-clause-number c =
    let at = c.requires.at in
    let count = at.1.ways.count in
    let low = at.2 in
    omega (arith, count, low)

pub machine_at-requires-clause-ways : goal.machine_at-requires-clause-ways
machine_at-requires-clause-ways c =
    let at = c.requires.at in
    (at.0, at.1.ways, none_kept c.args.self.now at.0 c.new.result c.new.ensures.kept c.new.ensures.next)

pub go_round-is_round-requires-clause-at : goal.go_round-is_round-requires-clause-at
go_round-is_round-requires-clause-at c =
    let x = c.args.self.now in
    let at = c.requires.at in
    let past = get_or at.0 (get_or c.args.round.now 0 0) [] in
    let m = c.in_ok-machine.ensures.at at.0 at.1.ways (none_kept x at.0 c.new.result c.new.ensures.kept c.new.ensures.next) in
    let size = lead_length x.script.now c.args.turns.now.items [] past at.3 in
    let short = m.short in
    (at.0, at.1, record { lead = at.3; stands = m.stands; within = omega (arith, size, short) })
