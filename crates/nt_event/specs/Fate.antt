-- The fate of inserts: each is begun, removed, flushed, or waits at the end.
use Rattle.std.specs.Prelude.{Bool, List, None, Option, Some, [], false, filter, if◌then◌else◌, length, nat_lt, true, ℕ}
use Rattle.std.specs.Prelude.{◌&&◌, ◌++◌, ◌==◌, ◌∷◌, option_map}
use Rattle.nt_event.specs.declared.events.Begun.TheVariants as begun
use Rattle.nt_event.specs.declared.events.Event.{Event}
use Rattle.nt_event.specs.declared.events.What.{What}
use Rattle.nt_event.specs.declared.numbers.ApcNo.{ApcNo}
use Rattle.nt_event.specs.declared.numbers.DpcNo.{DpcNo}
use Rattle.nt_event.specs.Families.{AddApc, ApcCall, TakeApc, by_apc_call, by_dpc_call, in_begin, in_call, in_fire}
use Rattle.nt_event.specs.Families.{in_flush}
use Rattle.nt_event.specs.declared.events.Begun.{Begun}
use Rattle.nt_event.specs.declared.commands.Command.{Command}
use Rattle.nt_event.specs.declared.commands.Reply.{Reply}
use Rattle.nt_event.specs.Objects.{dpc_begun, dpc_inserted, dpc_removed, is_dpc}
use Rattle.nt_event.specs.Replies.{some_if_yes}

-- what is inserted
pub data Thing : Type 0 where
  DpcThing : DpcNo → Thing
  ApcThing : ApcNo → Thing

abbrev pub apc_inserted : ApcCall → Reply → Option ApcNo
apc_inserted (AddApc a) y = some_if_yes a y
apc_inserted (TakeApc a) y = None

abbrev pub apc_removed : ApcCall → Reply → Option ApcNo
apc_removed (TakeApc a) y = some_if_yes a y
apc_removed (AddApc a) y = None

abbrev pub apc_begun : Begun → Option ApcNo
apc_begun (begun.Apc a) = Some a
apc_begun (begun.Int level) = None
apc_begun (begun.Dpc d) = None
apc_begun (begun.Threaded d) = None

abbrev pub is_apc : Option ApcNo → ApcNo → Bool
is_apc None a = false
is_apc (Some x) a = x.0 == a.0

abbrev pub thing_removed : Command → Reply → Option Thing
thing_removed c y =
    by_dpc_call (λ k. option_map DpcThing (dpc_removed k y))
    (by_apc_call (λ k. option_map ApcThing (apc_removed k y)) None c) c

abbrev pub thing_inserted : Command → Reply → Option Thing
thing_inserted c y =
    by_dpc_call (λ k. option_map DpcThing (dpc_inserted k y))
    (by_apc_call (λ k. option_map ApcThing (apc_inserted k y)) None c) c

-- an insert is a call of `queue` or `apc`, or a Fire, with reply yes
abbrev pub inserted_thing : What → Option Thing
inserted_thing w =
    in_call (λ f c y. thing_inserted c y) (in_fire (λ d y. some_if_yes (DpcThing d) y) None w) w

-- the event uses up the insert of this number: a Begin or Flush of the same object that names it, or a removal of the
-- object with reply yes
abbrev pub uses_up : Thing → ℕ → What → Bool
uses_up (DpcThing d) n w =
    in_call (λ f c y. is_dpc (by_dpc_call (λ k. dpc_removed k y) None c) d)
    (in_begin (λ b from. is_dpc (dpc_begun b) d && (from == n)) false w) w
uses_up (ApcThing a) n w =
    in_call (λ f c y. is_apc (by_apc_call (λ k. apc_removed k y) None c) a)
    (in_begin (λ b from. is_apc (apc_begun b) a && (from == n))
    (in_flush (λ x from. (x.0 == a.0) && (from == n)) false w) w) w

-- with the number of the event that used it up
pub data Fate : Type 0 where
  BegunBy : ℕ → Fate
  RemovedBy : ℕ → Fate
  FlushedBy : ℕ → Fate
  StillWaits : Fate

abbrev pub fate_by : What → ℕ → Fate
fate_by w n = in_begin (λ b from. BegunBy n) (in_flush (λ a from. FlushedBy n) (RemovedBy n) w) w

-- the earlier fate, where there is one
abbrev pub first_fate : Fate → Fate → Fate
first_fate StillWaits y = y
first_fate x y = x

-- the fate of the insert of this number: the first later event that uses it up decides
abbrev pub fate_of : Thing → ℕ → List Event → Fate
fate_of thing n [] = StillWaits
fate_of thing n (e ∷ past) =
    first_fate (fate_of thing n past) (if nat_lt n (length past) && uses_up thing n e.what
    then fate_by e.what (length past) else StillWaits)

-- the inserts of a history with their numbers, ascending
pub record Inserted : Type 0 where
  pub number : ℕ
  pub thing : Thing

abbrev pub inserted_by : ℕ → Option Thing → List Inserted
inserted_by n None = []
inserted_by n (Some thing) = record { number = n; thing = thing } ∷ []

abbrev pub inserts : List Event → List Inserted
inserts [] = []
inserts (e ∷ past) = inserts past ++ inserted_by (length past) (inserted_thing e.what)

abbrev pub still_waits : Fate → Bool
still_waits StillWaits = true
still_waits _ = false

-- the inserts that wait at the end, by ascending number
abbrev pub waiting_inserts : List Event → List Inserted
waiting_inserts past = filter (λ x. still_waits (fate_of x.thing x.number past)) (inserts past)
