-- DPC objects as contracts see them.
use Rattle.std.specs.Prelude.{Bool, List, None, Some, false, get_or, if◌then◌else◌, length, option_map, Option, ℕ, ◌<◌}
use Rattle.std.specs.Prelude.{◌≡◌}
use Rattle.nt_event.specs.declared.commands.Importance.{Importance}
use Rattle.nt_event.specs.declared.inserts.Insert.{Insert}
use Rattle.nt_event.specs.declared.inserts.Part.{Part}
use Rattle.nt_event.specs.declared.inserts.Part.TheVariants.{Ordinary as OrdinaryPart, Threaded as ThreadedPart}
use Rattle.nt_event.specs.declared.inserts.Standing.{Standing}
use Rattle.nt_event.specs.declared.numbers.CpuNo.{CpuNo}
use Rattle.nt_event.specs.declared.numbers.DpcNo.{DpcNo}
use Rattle.nt_event.specs.Numbers.{dpc}
use Rattle.nt_event.specs.Objects.{ObjectState, start_object}
use Rattle.nt_event.specs.Queues.{is_high}

-- a DPC object: its number, the part of a queue in which it stands, and its state
pub record ObjectFacts : Type 0 where
  pub dpc : DpcNo
  pub part : Part
  pub state : ObjectState

abbrev pub part_if : Bool → Part
part_if threaded = if threaded then ThreadedPart else OrdinaryPart

-- Medium, no target, not queued
abbrev pub new_object : DpcNo → Bool → ObjectFacts
new_object d threaded = record { dpc = d; part = part_if threaded; state = start_object }

-- the object of this number in a list of objects by their numbers
abbrev pub object_of : List ObjectFacts → DpcNo → ObjectFacts
object_of objects d = get_or objects d.0 (new_object d false)

-- each object of the list has the number of its place
abbrev pub AreNumbered : List ObjectFacts → Type 0
AreNumbered objects = (i : ℕ) (other : ObjectFacts) → i < length objects → (get_or objects i other).dpc ≡ dpc i

-- the processor in whose queue the object stands
abbrev pub standing_cpu : ObjectFacts → Option CpuNo
standing_cpu o = option_map (λ x. x.queue) o.state.standing

-- ---- what a change leaves of an object's state

-- its insert stands there
abbrev pub standing_at : Standing → ObjectState → ObjectState
standing_at x o = record o { standing = Some x }

-- its insert stands nowhere
abbrev pub standing_nowhere : ObjectState → ObjectState
standing_nowhere o = record o { standing = None }

abbrev pub with_importance : Importance → ObjectState → ObjectState
with_importance i o = record o { importance = i }

abbrev pub with_target : Option CpuNo → ObjectState → ObjectState
with_target t o = record o { target = t }

-- the same of the object that contracts see
abbrev pub queued_at : Standing → ObjectFacts → ObjectFacts
queued_at x o = record o { state = standing_at x o.state }

abbrev pub unqueued : ObjectFacts → ObjectFacts
unqueued o = record o { state = standing_nowhere o.state }

-- the entry that an insert of the object by the event of this number makes
abbrev pub entry_of : ℕ → ObjectFacts → Insert
entry_of n o = record { dpc = o.dpc; number = n; part = o.part; high = is_high o.state.importance }
