-- The looks of a robin run, and of a replay of plain turns, have a value for each class.
use Rattle.std.proofs.Common.{subst, sym}
use Rattle.std.specs.List.{AllByRecursion}
use Rattle.std.specs.Prelude.{Bool, List, None, Option, Some, [], false, if◌then◌else◌, length, map, not, reverse, suc, true, zero, ℕ, ◌==◌, ◌∷◌, ◌≡◌}
use Rattle.nt_event.specs.declared.events.Event.{Event}
use Rattle.nt_event.specs.declared.events.Turn.{Turn}
use Rattle.nt_event.specs.declared.events.Turn.TheVariants.{Look as LookTurn, Next, Switch as SwitchTurn}
use Rattle.nt_event.specs.declared.events.What.{What}
use Rattle.nt_event.specs.declared.events.What.TheVariants.{Look}
use Rattle.nt_event.specs.declared.numbers.CpuNo.{CpuNo}
use Rattle.nt_event.specs.declared.numbers.ThreadNo.{ThreadNo}
use Rattle.nt_event.specs.declared.scripts.Script.{Script}
use Rattle.nt_event.specs.Classes.{class_count}
use Rattle.nt_event.specs.Jobs.{is_still, may_switch, next_ready}
use Rattle.nt_event.specs.Lanes.{Lanes, lanes_at}
use Rattle.nt_event.specs.Numbers.{cpu}
use Rattle.nt_event.specs.Own.{Own, own_of}
use Rattle.nt_event.specs.Requests.{asked}
use Rattle.nt_event.specs.Robin.{IsRobin, first_cpu, go_on_turn, is_behind, look_value, look_values, robin, robin_at, robin_from, robin_of, switch_or_next}
use Rattle.nt_event.specs.Step.{is_cut, turn_at, turn_of, turns}
use Rattle.nt_event.proofs.Options.{Holds, holds_at, holds_or, holds_when}
use Rattle.nt_event.proofs.Tables.{length-table_from}
use Rattle.nt_script.specs.declared.walk.Input.{Input}
use Rattle.nt_log.specs.Schedules.{TurnIsPlain}
use Rattle.nt_ranges.specs.Looks.{LookIsWhole, LooksAreWhole}
use Rattle.nt_ranges.proofs.Lists.{all_reversed}

abbrev TurnIsWhole : Turn → Type 0
TurnIsWhole (LookTurn p rises) = length rises.value ≡ class_count
TurnIsWhole (Next p) = Unit {0}
TurnIsWhole (SwitchTurn p t) = Unit {0}

-- an action whose turn has a value for each class has one too
look_whole : (p : CpuNo) (w : What) → TurnIsWhole (turn_at p w) → LookIsWhole w
look_whole p (Look rises) h = h
look_whole p w h = tt

-- ---- the robin rule

-- the turn by which a processor goes on is whole
go_on_whole : (s : Script) (p : CpuNo) (x : Own) (l : Lanes) → TurnIsWhole (go_on_turn s p x l)
go_on_whole s p x l = go (may_switch x) (next_ready s p x.took l)
  where
    go : (b : Bool) (o : Option ThreadNo) → TurnIsWhole (if b then switch_or_next p o else Next p)
    go true (Some t) = tt
    go true None = tt
    go false o = tt

-- the turn that the robin rule finds at a processor is whole, for every number of asks
robin_at_whole : (s : Script) (p : CpuNo) (x : Own) (l : Lanes) (asked : ℕ → ℕ) → Holds TurnIsWhole (robin_at s p x l asked)
robin_at_whole s p x l asked = go (is_behind x asked) (is_still x)
  where
    go : (b r : Bool) → Holds TurnIsWhole (if b then Some (LookTurn p (record { value = look_values x asked }))
        else (if r then None else Some (go_on_turn s p x l)))
    go true r = length-table_from 0 16 (look_value x asked)
    go false true = tt
    go false false = go_on_whole s p x l

-- the turn that the robin rule gives a processor in a history is whole
robin_of_whole : (s : Script) (limit : ℕ) (p : CpuNo) (past : List Event) → Holds TurnIsWhole (robin_of s limit p past)
robin_of_whole s limit p past =
    holds_when TurnIsWhole (not (is_cut limit (own_of s p past))) (robin_at s p (own_of s p past) (lanes_at s past) (λ c. asked s p c past))
    (λ h. robin_at_whole s p (own_of s p past) (lanes_at s past) (λ c. asked s p c past))

-- the turn that the robin rule finds from a processor on is whole
robin_from_whole : (s : Script) (limit n p : ℕ) (past : List Event) → Holds TurnIsWhole (robin_from s limit n p past)
robin_from_whole s limit zero p past = tt
robin_from_whole s limit (suc n) p past =
    holds_or TurnIsWhole (robin_of s limit (cpu p) past) (robin_from s limit n (if suc p == s.cpus then 0 else suc p) past)
    (robin_of_whole s limit (cpu p) past) (λ e. robin_from_whole s limit n (if suc p == s.cpus then 0 else suc p) past)

-- the looks of a history made by the robin rule have a value for each class
past_whole : (s : Script) (limit : ℕ) (past : List Event) → IsRobin s limit past → LooksAreWhole past
past_whole s limit [] h = tt
past_whole s limit (e ∷ past) h = (
  look_whole e.cpu e.what
      (holds_at TurnIsWhole (robin s limit past) (turn_of e) (robin_from_whole s limit s.cpus (first_cpu s past) past) h.0),
  past_whole s limit past h.1,
)

-- the looks of a robin run have a value for each class
pub a_robin_run_looks_whole : (s : Script) (limit : ℕ) (past : List Event) → IsRobin s limit past → LooksAreWhole (reverse past)
a_robin_run_looks_whole s limit past h =
    all_reversed (λ (e : Event). LookIsWhole e.what) past (past_whole s limit past h)

-- ---- plain turns

-- a plain turn is whole
plain_whole : (input : Input) (t : Turn) → TurnIsPlain input t → TurnIsWhole t
plain_whole input (LookTurn p rises) h = h.1.classes
plain_whole input (Next p) h = tt
plain_whole input (SwitchTurn p t) h = tt

-- events whose turns a text may have have looks with a value for each class
pub turns_whole : (input : Input) (events : List Event) → AllByRecursion (TurnIsPlain input) (map turn_of events) → LooksAreWhole events
turns_whole input [] h = tt
turns_whole input (e ∷ es) h = (look_whole e.cpu e.what (plain_whole input (turn_of e) h.0), turns_whole input es h.1)

-- the looks of a run have a value for each class, if its turns are ones that a text may have
pub a_replay_looks_whole : (input : Input) (past : List Event) (list : List Turn) → turns past ≡ list → AllByRecursion (TurnIsPlain input) list →
    LooksAreWhole (reverse past)
a_replay_looks_whole input past list e h = turns_whole input (reverse past) (subst (AllByRecursion (TurnIsPlain input)) (sym e) h)
