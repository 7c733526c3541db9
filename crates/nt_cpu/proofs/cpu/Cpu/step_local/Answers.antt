use Rattle.std.proofs.Common.{ap, subst, sym, ◌∙◌}
use Rattle.std.specs.Prelude.{None, Some, false, ◌≡◌}
use Rattle.nt_event.specs.declared.jobs.Task.TheVariants.{Alone}
use Rattle.nt_event.specs.declared.numbers.CpuNo.{CpuNo}
use Rattle.nt_event.specs.Step.{is_cut}
use Rattle.nt_event.proofs.Options.{holds_at}
use Rattle.nt_cpu.specs.GoodTasks.{GoodTask}
use Rattle.nt_cpu.specs.Plans.{planned}
use Rattle.nt_cpu.specs.States.{CpuState}
use Rattle.nt_cpu.specs.Steps.{AllLooked, local_task}
use Rattle.nt_cpu.proofs.Knowing.{has_words, knows_alone, knows_looked, knows_of, serves_looked}
use Rattle.nt_cpu.proofs.Planned.{local_is, planned_alone, planned_none, written_alone}
use Rattle.nt_cpu.proofs.StepsMade.{look_known, step_alone, step_good, step_none}
use Rattle.nt_cpu.proofs.cpu.Cpu.step_local.Goals as goal

pub make_alone-requires-clause-may : goal.make_alone-requires-clause-may
make_alone-requires-clause-may g c =
    let s : CpuState = c.args.self.now in
    let xs = c.look_all-answers.result in
    let w = c.local_task.new.event.what in
    holds_at (GoodTask s) (local_task s xs) (Alone w) (step_good s xs c.sound.ensures)
    (sym (local_is s xs c.rises-rises.result (planned c.local_task.new.event c.local_task.result) c.rises-rises.ensures c.local_task.ensures.task)
    ∙ planned_alone c.local_task.new.event c.local_task.result (c.in-Some-Alone.is ∙ ap Some c.in-Some-Alone.field-0-is))

pub returns-in-None-clause-knows : goal.returns-in-None-clause-knows
returns-in-None-clause-knows g c =
    let s : CpuState = c.args.self.now in
    let v = g.W.Words.view c.args.words.now in
    let here = has_words s v c.sound.ensures c.requires.serves.cpus in
    let xs = c.look_all-answers.result in
    let u = g.W.Words.view c.look_all-answers.new.words in
    let looks = subst (λ (p : CpuNo). AllLooked p xs v u) (ap (λ (x : CpuState). x.cpu) c.self.view_is) c.look_all-answers.ensures.looks in
    knows_looked s xs v u here (knows_of s v c.requires.serves) looks

pub returns-in-Some-Alone-clause-step : goal.returns-in-Some-Alone-clause-step
returns-in-Some-Alone-clause-step g c =
    let s : CpuState = c.args.self.now in
    let xs = c.look_all-answers.result in
    let v = g.W.Words.view c.args.words.now in
    let u = g.W.Words.view c.look_all-answers.new.words in
    let w = c.local_task.new.event.what in
    let cut : is_cut s.limit s.own ≡ false = sym c.is_cut.ensures ∙ c.if-is_cut.false in
    let task : local_task s xs ≡ Some (Alone w) =
    sym (local_is s xs c.rises-rises.result (planned c.local_task.new.event c.local_task.result) c.rises-rises.ensures c.local_task.ensures.task)
    ∙ planned_alone c.local_task.new.event c.local_task.result (c.in-Some-Alone.is ∙ ap Some c.in-Some-Alone.field-0-is) in
    let looks = subst (λ (p : CpuNo). AllLooked p xs v u) (ap (λ (x : CpuState). x.cpu) c.self.view_is) c.look_all-answers.ensures.looks in
    let event = written_alone s _ c.local_task.new.event c.local_task.result c.local_task.ensures.written
    (c.in-Some-Alone.is ∙ ap Some c.in-Some-Alone.field-0-is) in
    let m = c.make_alone.ensures.made in (
      xs,
      u,
      step_alone s c.make_alone.new.self xs w c.local_task.new.event m.0 v u m.1 (g.W.Words.view c.make_alone.new.words) c.sound.ensures
          (serves_looked s xs v u (has_words s v c.sound.ensures c.requires.serves.cpus) c.requires.serves looks) cut task looks event m.2,
    )

pub returns-in-Some-Alone-clause-knows : goal.returns-in-Some-Alone-clause-knows
returns-in-Some-Alone-clause-knows g c =
    let s : CpuState = c.args.self.now in
    let xs = c.look_all-answers.result in
    let v = g.W.Words.view c.args.words.now in
    let u = g.W.Words.view c.look_all-answers.new.words in
    let w = c.local_task.new.event.what in
    let task : local_task s xs ≡ Some (Alone w) =
    sym (local_is s xs c.rises-rises.result (planned c.local_task.new.event c.local_task.result) c.rises-rises.ensures c.local_task.ensures.task)
    ∙ planned_alone c.local_task.new.event c.local_task.result (c.in-Some-Alone.is ∙ ap Some c.in-Some-Alone.field-0-is) in
    let looks = subst (λ (p : CpuNo). AllLooked p xs v u) (ap (λ (x : CpuState). x.cpu) c.self.view_is) c.look_all-answers.ensures.looks in
    let here = has_words s v c.sound.ensures c.requires.serves.cpus in
    let there = has_words s u c.sound.ensures (looks.same.cpus ∙ c.requires.serves.cpus) in
    let m = c.make_alone.ensures.made in
    knows_alone s c.make_alone.new.self w m.0 u m.1 (g.W.Words.view c.make_alone.new.words) c.sound.ensures there
    (knows_looked s xs v u here (knows_of s v c.requires.serves) looks) m.2 (look_known s xs v u w here looks task)

pub returns-in-Some-Alone-clause-grows : goal.returns-in-Some-Alone-clause-grows
returns-in-Some-Alone-clause-grows g c =
    g.met.W.Words.grows_through c.args.words.now c.look_all-answers.new.words c.make_alone.new.words c.look_all-answers.ensures.grows c.make_alone.ensures.grows

pub returns-in-Some-Shared-clause-lane : goal.returns-in-Some-Shared-clause-lane
returns-in-Some-Shared-clause-lane g c =
    let s : CpuState = c.args.self.now in
    let v = g.W.Words.view c.args.words.now in
    let here = has_words s v c.sound.ensures c.requires.serves.cpus in
    let xs = c.look_all-answers.result in
    let u = g.W.Words.view c.look_all-answers.new.words in
    let looks = subst (λ (p : CpuNo). AllLooked p xs v u) (ap (λ (x : CpuState). x.cpu) c.self.view_is) c.look_all-answers.ensures.looks in
    λ job e. serves_looked s xs v u here c.requires.serves looks

pub returns-in-Some-Shared-clause-knows : goal.returns-in-Some-Shared-clause-knows
returns-in-Some-Shared-clause-knows g c =
    let s : CpuState = c.args.self.now in
    let v = g.W.Words.view c.args.words.now in
    let here = has_words s v c.sound.ensures c.requires.serves.cpus in
    let xs = c.look_all-answers.result in
    let u = g.W.Words.view c.look_all-answers.new.words in
    let looks = subst (λ (p : CpuNo). AllLooked p xs v u) (ap (λ (x : CpuState). x.cpu) c.self.view_is) c.look_all-answers.ensures.looks in
    knows_looked s xs v u here (knows_of s v c.requires.serves) looks

pub returns-in-None-clause-step : goal.returns-in-None-clause-step
returns-in-None-clause-step g c =
    let s : CpuState = c.args.self.now in
    let xs = c.look_all-answers.result in
    let v = g.W.Words.view c.args.words.now in
    let u = g.W.Words.view c.look_all-answers.new.words in
    let looks = subst (λ (p : CpuNo). AllLooked p xs v u) (ap (λ (x : CpuState). x.cpu) c.self.view_is) c.look_all-answers.ensures.looks in
    let cut : is_cut s.limit s.own ≡ false = sym c.is_cut.ensures ∙ c.if-is_cut.false in
    let task : local_task s xs ≡ None =
    sym (local_is s xs c.rises-rises.result (planned c.local_task.new.event c.local_task.result) c.rises-rises.ensures c.local_task.ensures.task)
    ∙ planned_none c.local_task.new.event c.local_task.result c.in-None.is in
    (xs, u, step_none s xs v u c.sound.ensures cut task looks)
