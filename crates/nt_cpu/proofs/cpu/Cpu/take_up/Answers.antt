use Rattle.std.proofs.Common.{ap, arith, subst, sym, ◌∙◌}
use Rattle.std.specs.Prelude.{refl, ◌<◌, ◌≡◌}
use Rattle.nt_event.specs.Frames.{Frames}
use Rattle.nt_event.specs.Step.{thread_field}
use Rattle.nt_event.specs.Lists.{value_at}
use Rattle.nt_event.proofs.Options.{not_true}
use Rattle.nt_frame.specs.Nesting.{AreNested}
use Rattle.nt_cpu.specs.Fits.{Allow}
use Rattle.nt_cpu.specs.Insides.{state_in}
use Rattle.nt_cpu.specs.Leaves.{own_with}
use Rattle.nt_cpu.specs.Sound.{IsSound}
use Rattle.nt_cpu.specs.States.{CpuState}
use Rattle.nt_cpu.proofs.Dues.{due_same}
use Rattle.nt_cpu.proofs.Taken.{innermost_small, left_is, locks_most, sound_after}
use Rattle.nt_cpu.proofs.cpu.Cpu.take_up.Goals as goal

pub apply-requires-clause-place : goal.apply-requires-clause-place
apply-requires-clause-place c =
    let i = c.self.invariant.sound in
    λ f k. let s = innermost_small c.self.inside.script.now.locks c.self.inside.made c.self.inside.frames f i.small k in
    let p = s.place in
    let l = i.limit in
    let m = i.made in
    omega arith

pub invariant_of-self : goal.invariant_of-self
invariant_of-self c =
    let i : CpuState = state_in c.self.inside in
    let v = sym c.self.view_is in
    let k = c.take_up-serves.new.self in
    let e = c.take_up-serves.ensures in
    let left = left_is i c.args.n c.args.due c.args.event.now c.apply.new.frames k.served k.rested k.took k.fire k.sweep c.self.invariant.sound.seen
    c.apply.ensures e.served e.rested e.took e.fire e.sweep in
    let room = subst (λ (x : CpuState). x.own.made < x.limit) v c.requires.room in
    let allow = subst (λ (x : CpuState). Allow x.script c.args.event.now.what x.own.frames) v c.requires.allow in
    let thread = subst (λ (x : CpuState). c.args.event.now.thread ≡ thread_field c.args.event.now.what x.own.frames.running) v c.requires.thread in
    let nested = subst (λ (x : Frames). AreNested x) c.apply.ensures c.nested.ensures in
    record {
      sound = subst (λ (x : CpuState). IsSound x) (sym left) (sound_after i c.args.n c.args.due c.args.event.now
          (λ k. value_at i.own.seen k) c.self.invariant.sound room c.requires.due thread allow nested);
      due = c.renew_due.ensures;
    }

pub returns : goal.returns
returns c =
    let i : CpuState = state_in c.self.inside in
    let k = c.take_up-serves.new.self in
    let e = c.take_up-serves.ensures in
    left_is i c.args.n c.args.due c.args.event.now c.apply.new.frames k.served k.rested k.took k.fire k.sweep c.self.invariant.sound.seen
    c.apply.ensures e.served e.rested e.took e.fire e.sweep
    ∙ ap (λ (x : CpuState). record x { own = own_with x.script c.args.n c.args.due c.args.event.now (λ k. value_at x.own.seen k) x.own }) c.self.view_is

pub renew_due-requires : goal.renew_due-requires
renew_due-requires c h =
    c.self.invariant.due
    ∙ due_same c.self.inside.seen c.self.inside.kept.served c.self.inside.seen c.take_up-serves.new.self.served (λ k a b. refl)
    (c.take_up-serves.ensures.interrupts (not_true c.take_up-serves.result h))

pub apply-requires-clause-locks : goal.apply-requires-clause-locks
apply-requires-clause-locks c = locks_most c.self.inside.script.now c.self.invariant.sound.script
