use Rattle.std.proofs.Common.{◌≡◌, List, ap, reverse, sym, ◌∙◌, Some, None}
use Rattle.std.specs.List.{position}
use Rattle.nt_event.specs.declared.inserts.Insert.{Insert}
use Rattle.nt_event.specs.Queues.{is_of_dpc, without_dpc}
use Rattle.nt_dpc.specs.Queues.{QueueFacts}
use Rattle.nt_dpc.proofs.Once.{each_once-without, reverse-remove, without_entry_none}
use Rattle.nt_event.proofs.Reversed.{list_any-reverse}
use Rattle.nt_dpc.proofs.Removed.{list_any-position}
use Rattle.nt_dpc.proofs.queues.DpcQueue.take_out.Goals as goal

removed : (c : goal.After-remove) → reverse c.remove.new.self.items ≡ without_dpc c.args.d (reverse c.self.inside.items.items)
removed c =
    let items = c.self.inside.items.items in
    let at : position (is_of_dpc c.args.d) items ≡ Some c.in-Some.place = rw c.as_slice.ensures.value at (sym c.place_of.ensures ∙ c.in-Some.is) in
    ap reverse c.remove.ensures.items ∙ reverse-remove c.args.d c.self.inside.count items c.in-Some.place c.remove.result c.self.invariant.2 at

pub invariant_of-self : goal.invariant_of-self
invariant_of-self c = (
  c.self.invariant.0,
  rw c.remove.ensures.capacity c.self.invariant.1,
  rw (removed c) (each_once-without c.args.d c.self.inside.count (reverse c.self.inside.items.items) c.self.invariant.2),
)

pub returns-in-Some : goal.returns-in-Some
returns-in-Some c =
    rw (← c.self.view_is) (ap (λ (xs : List Insert). let q : QueueFacts = record {
      cpu = c.self.inside.cpu;
      count = c.self.inside.count;
      limit = c.self.inside.limit;
      state = record { pending = xs; idle = c.self.inside.idle };
    } in q) (removed c))

pub returns-in_default : goal.returns-in_default
returns-in_default c =
    let items = c.self.inside.items.items in
    let at : position (is_of_dpc c.args.d) items ≡ None = rw c.as_slice.ensures.value at (sym c.place_of.ensures ∙ c.in_default.is) in
    rw (← c.self.view_is) (sym (without_entry_none c.args.d (record {
      cpu = c.self.inside.cpu;
      count = c.self.inside.count;
      limit = c.self.inside.limit;
      state = record { pending = reverse items; idle = c.self.inside.idle };
    })
    (list_any-reverse (is_of_dpc c.args.d) items ∙ list_any-position (is_of_dpc c.args.d) items at)))
