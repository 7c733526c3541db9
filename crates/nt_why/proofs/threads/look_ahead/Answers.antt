use Rattle.std.proofs.Common.{subst, ◌∙◌, ◌≡◌, ℕ}
use Rattle.nt_event.specs.declared.events.Turn.TheVariants.{Switch}
use Rattle.nt_event.specs.declared.scripts.Script.{Script}
use Rattle.nt_event.specs.Step.{step}
use Rattle.nt_why.specs.Courses.{past_on}
use Rattle.nt_why.specs.Threads.{refusal_of}
use Rattle.nt_why.proofs.threads.look_ahead.Goals as goal

pub returns-clause-refused : goal.returns-clause-refused
returns-clause-refused c =
    let q = c.args.course.now in
    let p = c.args.p in
    let t = c.args.t in
    let n = c.follow-since.new.processors in
    let f = c.follow-since.ensures in
    let past = past_on q in
    subst (λ (m : ℕ). c.refused_of.result ≡ refusal_of (step q.script.now m (Switch p t) past)) (f.limit ∙ c.requires.limit)
    (subst (λ (s : Script). c.refused_of.result ≡ refusal_of (step s n.limit (Switch p t) past)) (f.script ∙ c.requires.script)
    (c.refused_of.ensures past f.after))
