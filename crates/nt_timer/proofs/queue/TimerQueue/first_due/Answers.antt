use Rattle.std.proofs.Common.{None, Some, ap, sym, ◌≡◌, ◌∙◌}
use Rattle.std.specs.Option.{is_some}
use Rattle.nt_timer.specs.Keys.{key_of}
use Rattle.nt_timer.specs.Settings.{due_entry}
use Rattle.nt_timer.proofs.Best.{is_some-due_entry}
use Rattle.nt_timer.proofs.Firsts.{delay_number, first_due_is, none_due_is}
use Rattle.nt_timer.proofs.queue.TimerQueue.first_due.Goals as goal

pub key_of-requires-clause-delay : goal.key_of-requires-clause-delay
key_of-requires-clause-delay c = let e = c.in-Some.ensures in
    λ most. delay_number c.self.inside.timers c.in-Some.first.key e.setting c.self.inside.wheel.settings c.self.invariant.3 e.set most

pub returns-in-Some-clause-value : goal.returns-in-Some-clause-value
returns-in-Some-clause-value c =
    rw (c.key_of.ensures, ← c.self.view_is)
    (sym (first_due_is c.self.inside.wheel.now c.self.inside.timers c.self.inside.wheel.settings c.in-Some.first c.in-Some.ensures))

pub returns-in-Some-clause-found : goal.returns-in-Some-clause-found
returns-in-Some-clause-found c =
    let e : due_entry c.args.self.now ≡ Some (key_of c.self.inside.timers c.in-Some.first.key, c.in-Some.first.number) =
    rw (← c.self.view_is) (first_due_is c.self.inside.wheel.now c.self.inside.timers c.self.inside.wheel.settings c.in-Some.first c.in-Some.ensures) in
    ap is_some (sym e) ∙ is_some-due_entry c.args.self.now

pub returns-in-None-clause-value : goal.returns-in-None-clause-value
returns-in-None-clause-value c =
    rw (← c.self.view_is) (sym (none_due_is c.self.inside.wheel.now c.self.inside.timers c.self.inside.wheel.settings c.in-None.ensures))

pub returns-in-None-clause-found : goal.returns-in-None-clause-found
returns-in-None-clause-found c =
    let e : due_entry c.args.self.now ≡ None =
    rw (← c.self.view_is) (none_due_is c.self.inside.wheel.now c.self.inside.timers c.self.inside.wheel.settings c.in-None.ensures) in
    ap is_some (sym e) ∙ is_some-due_entry c.args.self.now
