-- The event may be made, and its lanes are held.
use Rattle.std.proofs.Common.{ap, max, subst, sym, ◌≡◌}
use Rattle.nt_event.specs.declared.events.Event.{Event}
use Rattle.nt_event.specs.declared.events.What.{What}
use Rattle.nt_event.specs.Lists.{table, value_at}
use Rattle.nt_states.specs.Allowed.{MayMake}
use Rattle.nt_plain.specs.Insides.{state_in}
use Rattle.nt_plain.specs.Made.{states_of, told_values}
use Rattle.nt_plain.specs.States.{PlainState}
use Rattle.nt_states.proofs.Decidable.{all_held, is_given}
use Rattle.nt_plain.proofs.plain.PlainFloor.make.Goals as goal

pub complete-requires-clause-given : goal.complete-requires-clause-given
complete-requires-clause-given c =
    let may : MayMake (states_of (state_in c.self.inside)) c.args.stand.now c.args.event.now.what = subst
    (λ (f : PlainState). MayMake (states_of f) c.args.stand.now c.args.event.now.what) (sym c.self.view_is) c.requires.given in
    is_given (states_of (state_in c.self.inside)) c.args.stand.now c.args.event.now.what may

pub complete-requires-clause-held : goal.complete-requires-clause-held
complete-requires-clause-held c = all_held _

pub returns-clause-seen : goal.returns-clause-seen
returns-clause-seen c =
    let same : c.complete.new.event.what ≡ c.args.event.now.what = ap (λ (e : Event). e.what) c.complete.ensures in
    subst (λ (w : What). c.tell_by-interrupts.new.seen
    ≡ table 16 (λ k. max (value_at c.args.seen.now k) (value_at (told_values c.args.self.now c.args.stand.now w) k))) same c.tell_by-interrupts.ensures.values
