use Rattle.std.proofs.Common.{ap, refl, subst, sym, ◌∙◌, ◌==◌, ◌≡◌}
use Rattle.nt_event.specs.declared.commands.Command.{Command}
use Rattle.nt_event.specs.declared.commands.Command.TheVariants.{LeaveCrit, LeaveGuard}
use Rattle.nt_event.specs.declared.commands.Regions.{Regions}
use Rattle.nt_event.specs.declared.commands.Reply.{Reply}
use Rattle.nt_event.specs.declared.jobs.Stand.{Stand}
use Rattle.nt_event.specs.Own.{stand_in}
use Rattle.nt_event.specs.Replies.{is_done}
use Rattle.std.specs.Prelude.{true}
use Rattle.nt_cpu.specs.Alone.{ask_when, call_asks}
use Rattle.nt_cpu.specs.Insides.{state_in}
use Rattle.nt_cpu.specs.States.{CpuState}
use Rattle.nt_cpu.proofs.cpu.Cpu.call_asks.Goals as goal

-- leaving the critical region asks where it was entered once, if it is done
crit_asks : (st : Stand) (y : Reply) → is_done y ≡ true →
    ask_when (st.regions.crit == 1) st.cpu 1 ≡ call_asks st LeaveCrit y
crit_asks st y done = rw (done) refl

-- so does leaving the guarded region
guard_asks : (st : Stand) (y : Reply) → is_done y ≡ true →
    ask_when (st.regions.guard == 1) st.cpu 1 ≡ call_asks st LeaveGuard y
guard_asks st y done = rw (done) refl

pub returns-in-LeaveCrit-clause-asks : goal.returns-in-LeaveCrit-clause-asks
returns-in-LeaveCrit-clause-asks c =
    let inside = state_in c.self.inside in
    let st : Stand = stand_in inside.cpu inside.own in
    subst (λ (x : CpuState). c.ask_when.result ≡ call_asks (stand_in x.cpu x.own) c.args.command.now c.args.reply.now) c.self.view_is
    (c.ask_when.ensures.asks
    ∙ ap (λ (r : Regions). ask_when (r.crit == 1) c.self.inside.cpu 1) c.regions.ensures
    ∙ crit_asks st c.args.reply.now (sym c.is_done.ensures ∙ c.if-not-is_done.false)
    ∙ ap (λ (k : Command). call_asks st k c.args.reply.now) (sym c.in-LeaveCrit.is))

pub returns-in-LeaveGuard-clause-asks : goal.returns-in-LeaveGuard-clause-asks
returns-in-LeaveGuard-clause-asks c =
    let inside = state_in c.self.inside in
    let st : Stand = stand_in inside.cpu inside.own in
    subst (λ (x : CpuState). c.ask_when-in-LeaveGuard.result ≡ call_asks (stand_in x.cpu x.own) c.args.command.now c.args.reply.now)
    c.self.view_is
    (c.ask_when-in-LeaveGuard.ensures.asks
    ∙ ap (λ (r : Regions). ask_when (r.guard == 1) c.self.inside.cpu 1) c.regions-in-LeaveGuard.ensures
    ∙ guard_asks st c.args.reply.now (sym c.is_done.ensures ∙ c.if-not-is_done.false)
    ∙ ap (λ (k : Command). call_asks st k c.args.reply.now) (sym c.in-LeaveGuard.is))
