use Rattle.std.proofs.Common.{arith, ◌++◌, ◌∷◌, [], ◌≤◌, ◌≡◌}
use Rattle.std.specs.List.{All}
use Rattle.nt_event.specs.declared.events.ScheduleKind.TheVariants.{NoSuchCpu}
use Rattle.nt_why.specs.declared.reasons.Reason.TheVariants.{NotTaken}
use Rattle.nt_why.specs.declared.things.Thing.TheVariants as thing
use Rattle.nt_why.specs.Courses.{AreWholeOf, IsTrueOf, past_on}
use Rattle.nt_why.proofs.InterruptLines.{head_one}
use Rattle.nt_why.proofs.ThreadLines.{no_switch, unplaced_whole}
use Rattle.nt_why.proofs.Told.{on_ok, one_told}
use Rattle.nt_why.proofs.threads.put_where.Goals as goal

pub returns-clause-told : goal.returns-clause-told
returns-clause-told c =
    let q = c.args.course.now in
    let rs = c.args.reasons.now.items in
    let p = c.args.p in
    let t = c.args.t in
    let P = IsTrueOf q (thing.Thread t) in
    let few : q.script.now.cpus ≤ p.0 = omega arith in
    on_ok (c.add.new.items.items ≡ rs ++ NotTaken p NoSuchCpu ∷ []) (All P c.add.new.items.items) c.add.result
    (λ h. one_told P (NotTaken p NoSuchCpu) rs _ c.requires.none h (c.requires.place, no_switch q.script.now q.turns p t (past_on q) few)) c.add.ensures

pub returns-clause-whole : goal.returns-clause-whole
returns-clause-whole c =
    let q = c.args.course.now in
    let rs = c.args.reasons.now.items in
    let p = c.args.p in
    let t = c.args.t in
    let few : q.script.now.cpus ≤ p.0 = omega arith in
    on_ok (c.add.new.items.items ≡ rs ++ NotTaken p NoSuchCpu ∷ []) (AreWholeOf q (thing.Thread t) c.add.new.items.items) c.add.result
    (λ h. unplaced_whole q p t _ c.requires.place few (head_one (NotTaken p NoSuchCpu) rs _ c.requires.none h)) c.add.ensures
