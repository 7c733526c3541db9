use Rattle.std.proofs.Common.{◌≡◌, Option, arith, ap, false, sym, true, ◌∙◌}
use Rattle.std.specs.Prelude.{is_some}
use Rattle.nt_event.specs.declared.commands.Refusal.{Refusal}
use Rattle.nt_event.specs.Frame.{Frame}
use Rattle.nt_verify.proofs.Walking.{advanced, call_done, call_refused, free_when}
use Rattle.nt_verify.specs.Steps.{done_in, is_lock_free}
use Rattle.nt_verify.specs.Walks.{refused_in}
use Rattle.nt_verify.proofs.walk.Walk.call.Goals as goal

pub overflow_add-self : goal.overflow_add-self
overflow_add-self c = let h = ap (λ (f : Frame). f.place) c.self.view_is in let r = c.requires.place in omega (arith, h, r)

pub invariant_of-self : goal.invariant_of-self
invariant_of-self c =
    let i = c.self.invariant.crits in
    let j = c.self.invariant.guards in
    record { crits = omega (arith, i); guards = omega (arith, j); arrays = c.self.invariant.arrays }

pub invariant_of-self-2 : goal.invariant_of-self-2
invariant_of-self-2 c =
    let i = c.self.invariant.crits in
    let j = c.self.invariant.guards in
    record { crits = omega (arith, i); guards = omega (arith, j); arrays = c.self.invariant.arrays }

pub take-requires-clause-room : goal.take-requires-clause-room
take-requires-clause-room c = let i = c.self.invariant.crits in omega (arith, i)

pub take-requires-clause-space : goal.take-requires-clause-space
take-requires-clause-space c = let i = c.self.invariant.guards in omega (arith, i)

pub take-requires-clause-lock : goal.take-requires-clause-lock
take-requires-clause-lock c = c.requires.lock

pub take-requires-clause-accepted : goal.take-requires-clause-accepted
take-requires-clause-accepted c =
    let h : is_some (refused_in c.args.self.now c.args.command.now) ≡ false = ap (λ (o : Option Refusal). is_some o) (sym c.refusal.ensures)
    ∙ (sym c.is_some-refused.ensures ∙ c.if-refused.false) in
    ap (λ (f : Frame). is_lock_free (advanced f) c.args.command.now) c.self.view_is ∙ free_when c.args.self.now c.args.command.now h

pub returns-then-refused : goal.returns-then-refused
returns-then-refused c =
    let h : is_some (refused_in c.args.self.now c.args.command.now) ≡ true = ap (λ (o : Option Refusal). is_some o) (sym c.refusal.ensures)
    ∙ (sym c.is_some-refused.ensures ∙ c.if-refused.true) in
    ap advanced c.self.view_is ∙ call_refused c.args.self.now c.args.command.now (sym (ap (λ (f : Frame). f.spin) c.self.view_is)) h

pub returns : goal.returns
returns c =
    let h : is_some (refused_in c.args.self.now c.args.command.now) ≡ false = ap (λ (o : Option Refusal). is_some o) (sym c.refusal.ensures)
    ∙ (sym c.is_some-refused.ensures ∙ c.if-refused.false) in
    c.take.ensures
    ∙ (ap (λ (f : Frame). done_in (advanced f) c.args.command.now) c.self.view_is
    ∙ call_done c.args.self.now c.args.command.now (sym (ap (λ (f : Frame). f.spin) c.self.view_is)) h)
