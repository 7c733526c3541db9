-- What an event leaves of the marks that say which APC objects are inserted.
use Rattle.std.specs.Prelude.{Bool, List, None, Option, Some, false, if◌then◌else◌, set, true, ◌==◌, option_map}
use Rattle.nt_event.specs.declared.events.What.{What}
use Rattle.nt_event.specs.declared.numbers.ApcNo.{ApcNo}
use Rattle.nt_event.specs.Families.{AddApc, ApcCall, TakeApc, by_apc_call, in_begin, in_call, in_flush}
use Rattle.nt_event.specs.Fate.{apc_begun}
use Rattle.nt_event.specs.Replies.{some_if_yes}
use Rattle.nt_event.specs.declared.commands.Reply.{Reply}

abbrev pub apc_changed : ApcCall → Reply → Option (ApcNo × Bool)
apc_changed (AddApc a) y = some_if_yes (a, true) y
apc_changed (TakeApc a) y = some_if_yes (a, false) y

-- the APC object that the event inserts or takes out, and whether it is inserted afterwards
abbrev pub changed_apc : What → Option (ApcNo × Bool)
changed_apc w =
    in_call (λ f c y. by_apc_call (λ k. apc_changed k y) None c)
    (in_begin (λ b from. option_map (λ a. (a, false)) (apc_begun b)) (in_flush (λ a from. Some (a, false)) None w) w) w

abbrev pub with_mark : Option (ApcNo × Bool) → List Bool → List Bool
with_mark None marks = marks
with_mark (Some c) marks = set marks c.0.0 c.1

abbrev pub marks_after : What → List Bool → List Bool
marks_after w marks = with_mark (changed_apc w) marks

-- whether an object is inserted, by whether it was
abbrev pub mark_after : Option (ApcNo × Bool) → ApcNo → Bool → Bool
mark_after None b old = old
mark_after (Some c) b old = if c.0.0 == b.0 then c.1 else old
