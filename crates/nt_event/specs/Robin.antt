-- Settled histories, and the robin rule (profile).
use Rattle.std.specs.List.{list_all, list_any}
use Rattle.std.specs.Option.{option_or}
use Rattle.std.specs.Prelude.{Bool, Err, List, None, Ok, Option, Result, Some, [], if◌then◌else◌, nat_lt, not, suc}
use Rattle.std.specs.Prelude.{zero, ℕ, ◌&&◌, ◌==◌, ◌||◌, ◌∷◌, ◌≡◌}
use Rattle.nt_event.specs.declared.events.Event.{Event}
use Rattle.nt_event.specs.declared.events.ScheduleKind.{ScheduleKind}
use Rattle.nt_event.specs.declared.events.Turn.{Turn}
use Rattle.nt_event.specs.declared.events.Turn.TheVariants.{Look as LookTurn, Next, Switch as SwitchTurn}
use Rattle.nt_event.specs.declared.numbers.CpuNo.{CpuNo}
use Rattle.nt_event.specs.declared.numbers.ThreadNo.{ThreadNo}
use Rattle.nt_event.specs.declared.scripts.Script.{Script}
use Rattle.nt_event.specs.Jobs.{is_still, may_switch, next_ready}
use Rattle.nt_event.specs.Lanes.{Lanes, lanes_at}
use Rattle.nt_event.specs.Own.{Own, own_of}
use Rattle.nt_event.specs.Requests.{asked}
use Rattle.nt_event.specs.Step.{is_cut, step, turn_of}
use Rattle.nt_event.specs.Numbers.{cpu}
use Rattle.nt_event.specs.Lists.{table, value_at, when}

-- the value of a look in a class: the greatest asked one where it isn't seen yet, else 0
abbrev pub look_value : Own → (ℕ → ℕ) → ℕ → ℕ
look_value x asked c = if nat_lt (value_at x.seen c) (asked c) then asked c else 0

abbrev pub look_values : Own → (ℕ → ℕ) → List ℕ
look_values x asked = table 16 (look_value x asked)

-- some class has an asked value above what is seen
abbrev pub is_behind : Own → (ℕ → ℕ) → Bool
is_behind x asked = list_any (λ v. nat_lt 0 v) (look_values x asked)

-- every class is seen as far as it was asked for
abbrev pub has_seen : Own → (ℕ → ℕ) → Bool
has_seen x asked = list_all (λ same. same) (table 16 (λ c. value_at x.seen c == asked c))

-- a processor has no more to do: it is cut, or it rests or spins still and has seen what was asked
abbrev pub is_done_with : Script → ℕ → CpuNo → List Event → Bool
is_done_with s limit p past =
    is_cut limit (own_of s p past) || (is_still (own_of s p past) && has_seen (own_of s p past) (λ c. asked s p c past))

-- the history is settled where each processor is done
abbrev pub is_settled : Script → ℕ → List Event → Bool
is_settled s limit past = list_all (λ done. done) (table s.cpus (λ p. is_done_with s limit (cpu p) past))

abbrev pub switch_or_next : CpuNo → Option ThreadNo → Turn
switch_or_next p (Some t) = SwitchTurn p t
switch_or_next p None = Next p

-- 3 and 4: where a Switch may be made and a thread is ready, the next ready one is taken; else the next event is made
abbrev pub go_on_turn : Script → CpuNo → Own → Lanes → Turn
go_on_turn s p x l = if may_switch x then switch_or_next p (next_ready s p x.took l) else Next p

-- the turn of a processor that isn't cut: 1, a look at what was asked; 2, none where it rests or spins still; 3 and 4
abbrev pub robin_at : Script → CpuNo → Own → Lanes → (ℕ → ℕ) → Option Turn
robin_at s p x l asked =
    if is_behind x asked then Some (LookTurn p (record { value = look_values x asked }))
    else (if is_still x then None else Some (go_on_turn s p x l))

abbrev pub robin_of : Script → ℕ → CpuNo → List Event → Option Turn
robin_of s limit p past =
    when (not (is_cut limit (own_of s p past)))
    (robin_at s p (own_of s p past) (lanes_at s past) (λ c. asked s p c past))

-- the first processor to be tried: the one after that of the last event
abbrev pub first_cpu : Script → List Event → ℕ
first_cpu s [] = 0
first_cpu s (e ∷ past) = if suc e.cpu.0 == s.cpus then 0 else suc e.cpu.0

-- tries n processors in a cycle, from p on
abbrev pub robin_from : Script → ℕ → ℕ → ℕ → List Event → Option Turn
robin_from s limit zero p past = None
robin_from s limit (suc n) p past =
    let next : ℕ = (if suc p == s.cpus then 0 else suc p) in
    let more : Option Turn = robin_from s limit n next past in
    option_or (robin_of s limit (cpu p) past) more

-- the turn of the robin rule; none where the history is settled
abbrev pub robin : Script → ℕ → List Event → Option Turn
robin s limit past = robin_from s limit s.cpus (first_cpu s past) past

-- the history is a beginning of the robin run: each event's turn is that of the rule
abbrev pub IsRobin : Script → ℕ → List Event → Type 0
IsRobin s limit [] = Unit {0}
IsRobin s limit (e ∷ past) = (robin s limit past ≡ Some (turn_of e)) × IsRobin s limit past

abbrev pub grown : List Event → Result Event ScheduleKind → List Event
grown past (Ok e) = e ∷ past
grown past (Err k) = past

abbrev pub robin_grown : Script → ℕ → List Event → Option Turn → List Event
robin_grown s limit past None = past
robin_grown s limit past (Some t) = grown past (step s limit t past)

-- the robin run, at most n events from this past on
abbrev pub run_fuel : Script → ℕ → ℕ → List Event → List Event
run_fuel s limit zero past = past
run_fuel s limit (suc n) past = run_fuel s limit n (robin_grown s limit past (robin s limit past))
