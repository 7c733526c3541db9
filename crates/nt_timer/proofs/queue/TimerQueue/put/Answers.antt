use Rattle.std.proofs.Common.{ap, arith, length, length-take, length-set, rules, ◌<◌, ◌+◌}
use Rattle.nt_event.specs.Timers.{Timers}
use Rattle.nt_timer.specs.Wheel.{WheelFacts}
use Rattle.nt_timer.proofs.KeyTables.{delay_numbered, delay_put, timer_put}
use Rattle.nt_timer.proofs.queue.TimerQueue.put.Goals as goal

pub invariant_of-self-in-Delay : goal.invariant_of-self-in-Delay
invariant_of-self-in-Delay c =
    let i = c.self.invariant in
    let e = ap (λ (w : WheelFacts). w.settings) c.put-in-Delay.ensures in
    let less : c.in-Delay.t.0 < 65536 = search rules in
    let n = delay_numbered c.self.inside.timers c.self.inside.wheel.settings c.put-in-Delay.new.self.settings c.in-Delay.t.0 c.args.setting e less i.2 i.3 in
    let l = ap length e in
    let s = length-set c.self.inside.wheel.settings (c.self.inside.timers + c.in-Delay.t.0) c.args.setting in
    (i.0, (let b = i.1 in omega arith), n.0, n.1)

pub returns-in-Timer : goal.returns-in-Timer
returns-in-Timer c =
    let key : c.in-Timer.t.0 < length c.args.self.now.timers = rw c.in-Timer.is at c.requires in
    let v = ap (λ (x : Timers). length x.timers) c.self.view_is in
    let less : c.in-Timer.t.0 < c.self.inside.timers = omega (arith, length-take c.self.inside.timers c.self.inside.wheel.settings) in
    timer_put c.self.inside.wheel.now c.self.inside.timers c.self.inside.wheel.settings c.in-Timer.t c.args.setting c.args.key c.args.self.now c.put.new.self
    c.self.view_is c.in-Timer.is less c.put.ensures

pub returns-in-Delay : goal.returns-in-Delay
returns-in-Delay c =
    delay_put c.self.inside.wheel.now c.self.inside.timers c.self.inside.wheel.settings c.in-Delay.t c.args.setting c.args.key c.args.self.now
    c.put-in-Delay.new.self c.self.view_is c.in-Delay.is c.put-in-Delay.ensures
