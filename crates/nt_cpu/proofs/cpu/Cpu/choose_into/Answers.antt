use Rattle.std.proofs.Common.{ap, sym, ◌∙◌}
use Rattle.std.specs.Prelude.{None, Some, false, refl, true, ◌≡◌}
use Rattle.nt_event.specs.declared.jobs.Task.TheVariants.{Alone, Shared}
use Rattle.nt_event.specs.Step.{is_cut}
use Rattle.nt_event.proofs.Options.{holds_at}
use Rattle.nt_cpu.specs.Choices.{turn_by}
use Rattle.nt_cpu.specs.GoodTasks.{GoodTask}
use Rattle.nt_cpu.specs.States.{CpuState}
use Rattle.nt_cpu.specs.Turns.{turn_task}
use Rattle.nt_cpu.proofs.AloneMoves.{found_by}
use Rattle.nt_cpu.proofs.Planned.{planned_alone, planned_none, planned_shared, written_alone}
use Rattle.nt_cpu.proofs.TurnsTaken.{alone_acts, alone_turned, cut_acts, cut_refused, none_refused, turn_due, turn_good}
use Rattle.nt_cpu.proofs.cpu.Cpu.choose_into.Goals as goal

pub returns-then-is_cut-clause-err : goal.returns-then-is_cut-clause-err
returns-then-is_cut-clause-err g c =
    let s : CpuState = c.args.self.now in
    let v = g.F.Words.view c.args.floor.now in
    let cut : is_cut s.limit s.own ≡ true = sym c.is_cut.ensures ∙ c.if-is_cut.true in
    let t = turn_by s.cpu c.args.choice.now in
    (found_by s v, (cut_refused s t v cut, λ a. absurd (cut_acts s t cut a)))

pub make_alone-requires-clause-may : goal.make_alone-requires-clause-may
make_alone-requires-clause-may g c =
    let s : CpuState = c.args.self.now in
    let w = c.turn_task.new.event.what in
    let t = turn_by s.cpu c.args.choice.now in
    holds_at (GoodTask s) (turn_task s.script s.cpu s.own t) (Alone w) (turn_good s t c.sound.ensures)
    (sym c.turn_task.ensures.task ∙ planned_alone c.turn_task.new.event c.turn_task.result (c.in-Some-Alone.is ∙ ap Some c.in-Some-Alone.field-0-is))

pub make_shared-requires-clause-due : goal.make_shared-requires-clause-due
make_shared-requires-clause-due g c =
    turn_due c.args.self.now (turn_by c.args.self.now.cpu c.args.choice.now) c.in-Some-Shared.job
    (sym c.turn_task.ensures.task
    ∙ planned_shared c.turn_task.new.event c.turn_task.result c.in-Some-Shared.job (c.in-Some-Shared.is ∙ ap Some c.in-Some-Shared.field-0-is))

pub make_shared-requires-clause-good : goal.make_shared-requires-clause-good
make_shared-requires-clause-good g c =
    let s : CpuState = c.args.self.now in
    let j = c.in-Some-Shared.job in
    let t = turn_by s.cpu c.args.choice.now in
    holds_at (GoodTask s) (turn_task s.script s.cpu s.own t) (Shared j) (turn_good s t c.sound.ensures)
    (sym c.turn_task.ensures.task
    ∙ planned_shared c.turn_task.new.event c.turn_task.result c.in-Some-Shared.job (c.in-Some-Shared.is ∙ ap Some c.in-Some-Shared.field-0-is))

pub returns-in-Some-Alone-clause-ok : goal.returns-in-Some-Alone-clause-ok
returns-in-Some-Alone-clause-ok g c =
    let s : CpuState = c.args.self.now in
    let v = g.F.Words.view c.args.floor.now in
    let t = turn_by s.cpu c.args.choice.now in
    let w = c.turn_task.new.event.what in
    let task : turn_task s.script s.cpu s.own t ≡ Some (Alone w) = sym c.turn_task.ensures.task
    ∙ planned_alone c.turn_task.new.event c.turn_task.result (c.in-Some-Alone.is ∙ ap Some c.in-Some-Alone.field-0-is) in
    let cut : is_cut s.limit s.own ≡ false = sym c.is_cut.ensures ∙ c.if-is_cut.false in
    let event = written_alone s c.args.event.now c.turn_task.new.event c.turn_task.result c.turn_task.ensures.written
    (c.in-Some-Alone.is ∙ ap Some c.in-Some-Alone.field-0-is) in
    let m = c.make_alone.ensures.made in (
      found_by s v,
      m.0,
      (
        alone_turned s c.make_alone.new.self t w c.turn_task.new.event m.0 v m.1
            (g.F.Words.view c.make_alone.new.words) c.sound.ensures c.requires.serves cut task event m.2,
        λ a. absurd (alone_acts s t (Some (Alone w)) task refl a),
      ),
    )

pub returns-in-None-clause-err : goal.returns-in-None-clause-err
returns-in-None-clause-err g c =
    let s : CpuState = c.args.self.now in
    let v = g.F.Words.view c.args.floor.now in
    let t = turn_by s.cpu c.args.choice.now in
    let task : turn_task s.script s.cpu s.own t ≡ None = sym c.turn_task.ensures.task ∙ planned_none c.turn_task.new.event c.turn_task.result c.in-None.is in
    let cut : is_cut s.limit s.own ≡ false = sym c.is_cut.ensures ∙ c.if-is_cut.false in (
      found_by s v,
      (
        none_refused s t c.turn_refusal-in-None.result v cut task (c.turn_refusal-in-None.ensures s.cpu),
        λ a. absurd (alone_acts s t None task refl a),
      ),
    )
