-- The events that are lent, and the number of the event that queued a DPC.
use Rattle.std.specs.Prelude.{List, None, Option, Some, if◌then◌else◌, option_map, reverse, take, ℕ}
use Rattle.nt_event.specs.declared.commands.Command.{Command}
use Rattle.nt_event.specs.declared.commands.Reply.{Reply}
use Rattle.nt_event.specs.declared.events.Begun.{Begun}
use Rattle.nt_event.specs.declared.events.Event.{Event}
use Rattle.nt_event.specs.declared.events.What.{What}
use Rattle.nt_event.specs.declared.numbers.DpcNo.{DpcNo}
use Rattle.nt_event.specs.Families.{by_dpc_call}
use Rattle.nt_event.specs.Objects.{dpc_begun, dpc_inserted, dpc_removed, inserted_dpc, is_dpc, standing, used_up_dpc}
use Rattle.nt_history.specs.declared.events.Briefs.{Briefs}
use Rattle.nt_history.specs.Briefs.{events_in}

-- the events that are lent, the oldest first
abbrev pub lent : Briefs → List Event
lent b = events_in b.briefs.now b.rises.now

-- and the newest first
abbrev pub past_of : Briefs → List Event
past_of b = reverse (lent b)

-- the number of the event that made the pending insert of the object
abbrev pub number_of : DpcNo → List Event → Option ℕ
number_of d past = option_map (λ x. x.number) (standing d past)

-- what the event of this number leaves of it: the number, where it inserts the object; none, where it uses it up
abbrev pub number_by : DpcNo → ℕ → Option DpcNo → Option DpcNo → Option ℕ → Option ℕ
number_by d n inserted used old = if is_dpc inserted d then Some n else (if is_dpc used d then None else old)

abbrev pub number_after : DpcNo → ℕ → What → Option ℕ → Option ℕ
number_after d n w old = number_by d n (inserted_dpc w) (used_up_dpc w) old

abbrev pub number_called : DpcNo → ℕ → Command → Reply → Option ℕ → Option ℕ
number_called d n c y old =
    number_by d n (by_dpc_call (λ k. dpc_inserted k y) None c) (by_dpc_call (λ k. dpc_removed k y) None c) old

abbrev pub number_begun : DpcNo → Begun → Option ℕ → Option ℕ
number_begun d b old = number_by d 0 None (dpc_begun b) old

-- the first n of the events, the newest first
abbrev pub past_at : ℕ → List Event → List Event
past_at n events = reverse (take n events)
