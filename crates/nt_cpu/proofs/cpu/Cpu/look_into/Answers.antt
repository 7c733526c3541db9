use Rattle.std.proofs.Common.{ap, subst, ◌∙◌}
use Rattle.std.specs.Prelude.{List, ℕ, ◌<◌, ◌≡◌}
use Rattle.nt_event.specs.declared.events.Event.{Event}
use Rattle.nt_event.specs.declared.events.What.{What}
use Rattle.nt_event.specs.declared.events.What.TheVariants.{Look}
use Rattle.nt_event.specs.declared.events.Turn.TheVariants.{Look as LookTurn}
use Rattle.nt_event.specs.Lists.{value_at}
use Rattle.nt_event.specs.Robin.{look_values}
use Rattle.nt_cpu.specs.Alone.{IsAlone, alone_event}
use Rattle.nt_cpu.specs.States.{CpuState}
use Rattle.nt_cpu.proofs.AloneMoves.{found_by}
use Rattle.nt_cpu.proofs.TurnsTaken.{alone_turned, look_same, look_task}
use Rattle.nt_cpu.proofs.cpu.Cpu.look_into.Goals as goal

pub returns-clause-ok : goal.returns-clause-ok
returns-clause-ok g c =
    let s : CpuState = c.args.self.now in
    let v = g.F.Words.view c.args.floor.now in
    let values = look_values s.own (v.value s.cpu) in
    let w = Look (record { value = values }) in
    let given = subst (λ (x : CpuState). (k : ℕ) → k < 16 → value_at c.asked.result.now k ≡ v.value x.cpu k) c.self.view_is c.asked.ensures.values in
    let event = c.write_asked.ensures
    ∙ ap (λ (l : List ℕ). alone_event s.cpu (Look (record { value = l })) s.own.frames)
    (look_same s.own (value_at c.asked.result.now) (v.value s.cpu) given) in
    let m = c.make_alone.ensures.made in
    let z = g.F.Words.view c.make_alone.new.words in
    let alone = subst (λ (x : What). IsAlone s c.make_alone.new.self x m.0 v m.1 z) (ap (λ (e : Event). e.what) event) m.2 in (
      found_by s v,
      m.0,
      alone_turned s c.make_alone.new.self (LookTurn s.cpu (record { value = values })) w c.write_asked.new.event m.0 v m.1 z
          c.sound.ensures c.requires.serves c.requires.uncut (look_task s v c.requires.behind) event alone,
    )
