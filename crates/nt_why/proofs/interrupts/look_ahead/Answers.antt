use Rattle.std.proofs.Common.{subst, ◌∙◌, ℕ}
use Rattle.nt_event.specs.declared.events.Turn.TheVariants.{Next}
use Rattle.nt_event.specs.declared.scripts.Script.{Script}
use Rattle.nt_event.specs.Step.{step}
use Rattle.nt_why.specs.Courses.{past_on}
use Rattle.nt_why.specs.Lined.{IsWhat}
use Rattle.nt_why.proofs.interrupts.look_ahead.Goals as goal

pub returns-clause-next : goal.returns-clause-next
returns-clause-next c =
    let q = c.args.course.now in
    let p = c.args.p in
    let n = c.follow-noticed.new.processors in
    let t = c.follow-noticed.ensures in
    let past = past_on q in
    subst (λ (m : ℕ). IsWhat (step q.script.now m (Next p) past) c.next_of.result) (t.limit ∙ c.requires.limit)
    (subst (λ (s : Script). IsWhat (step s n.limit (Next p) past) c.next_of.result) (t.script ∙ c.requires.script) (c.next_of.ensures past t.after))
