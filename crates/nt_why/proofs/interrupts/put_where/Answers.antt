use Rattle.std.proofs.Common.{arith, ◌++◌, ◌∷◌, [], ◌≤◌, ◌≡◌}
use Rattle.std.specs.List.{All}
use Rattle.nt_event.specs.declared.events.ScheduleKind.TheVariants.{NoSuchCpu}
use Rattle.nt_why.specs.declared.reasons.Reason.TheVariants.{NoNext}
use Rattle.nt_why.specs.declared.things.Thing.TheVariants as thing
use Rattle.nt_why.specs.Courses.{AreWholeOf, IsTrueOf}
use Rattle.nt_why.proofs.InterruptLines.{head_one, lacking_told, lacking_whole}
use Rattle.nt_why.proofs.Told.{on_ok, one_told}
use Rattle.nt_why.proofs.interrupts.put_where.Goals as goal

pub returns-clause-told : goal.returns-clause-told
returns-clause-told c =
    let q = c.args.course.now in
    let rs = c.args.reasons.now.items in
    let p = c.args.p in
    let P = IsTrueOf q (thing.Interrupt p c.args.level) in
    let few : q.script.now.cpus ≤ p.0 = omega arith in
    on_ok (c.add.new.items.items ≡ rs ++ NoNext p NoSuchCpu ∷ []) (All P c.add.new.items.items) c.add.result
    (λ h. one_told P (NoNext p NoSuchCpu) rs _ c.requires.none h (lacking_told q p c.args.level few)) c.add.ensures

pub returns-clause-whole : goal.returns-clause-whole
returns-clause-whole c =
    let q = c.args.course.now in
    let rs = c.args.reasons.now.items in
    let p = c.args.p in
    let l = c.args.level in
    let few : q.script.now.cpus ≤ p.0 = omega arith in
    on_ok (c.add.new.items.items ≡ rs ++ NoNext p NoSuchCpu ∷ []) (AreWholeOf q (thing.Interrupt p l) c.add.new.items.items) c.add.result
    (λ h. lacking_whole q p l _ few (head_one (NoNext p NoSuchCpu) rs _ c.requires.none h)) c.add.ensures
