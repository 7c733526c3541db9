-- A run at any limit is a free run, and a free run is a run at each limit that is at least its length.
use Rattle.std.proofs.Common.{arith}
use Rattle.std.proofs.lemmas.Bool.{lt-leb}
use Rattle.std.specs.Prelude.{Bool, List, Ok, Result, [], false, if◌then◌else◌, length, nat_lt, not, suc, true, ℕ, ◌+◌, ◌<◌, ◌∷◌, ◌≡◌, ◌≤◌}
use Rattle.nt_event.specs.declared.events.Event.{Event}
use Rattle.nt_event.specs.declared.events.ScheduleKind.{ScheduleKind}
use Rattle.nt_event.specs.declared.events.ScheduleKind.TheVariants.{NoSuchCpu, NothingToDo}
use Rattle.nt_event.specs.declared.numbers.CpuNo.{CpuNo}
use Rattle.nt_event.specs.declared.scripts.Script.{Script}
use Rattle.nt_event.specs.Lanes.{lanes_at}
use Rattle.nt_event.specs.Numbers.{is_of}
use Rattle.nt_event.specs.Own.{made, own_of}
use Rattle.nt_event.specs.Step.{IsLegal, IsRun, cpu_at, is_cut, refused_if, turn_of, uncut_step}
use Rattle.nt_alike.specs.Free.{IsFreeRun, IsFreeStep, LooksAreShort}

-- a step that wasn't refused at the limit
uncut : (b c : Bool) (r : Result Event ScheduleKind) (e : Event) →
    refused_if b NoSuchCpu (refused_if c NothingToDo r) ≡ Ok e → refused_if b NoSuchCpu r ≡ Ok e
uncut true c r e h = h
uncut false true r e h = cc
uncut false false r e h = h

-- a run at any limit is a free run, if each of its Looks has at most 16 values
pub runs_free : (s : Script) (limit : ℕ) (h : List Event) → IsRun s limit h → LooksAreShort h → IsFreeRun s h
runs_free s limit [] r l = tt
runs_free s limit (e ∷ past) r l = (
  (
    uncut (not (nat_lt (cpu_at (turn_of e)).0 s.cpus)) (is_cut limit (own_of s (cpu_at (turn_of e)) past))
        (uncut_step s (turn_of e) (own_of s (cpu_at (turn_of e)) past) (lanes_at s past) past) e r.0,
    l.0,
  ),
  runs_free s limit past r.1 l.1,
)

-- a processor made no more events than all did
pub made_length : (p : CpuNo) (past : List Event) → made p past ≤ length past
made_length p [] = omega arith
made_length p (e ∷ past) = go (is_of e p) (made_length p past)
  where
    go : (b : Bool) → made p past ≤ length past → (if b then made p past + 1 else made p past) ≤ suc (length past)
    go true h = omega (arith, h)
    go false h = omega (arith, h)

-- an event that its turn gives freely is legal at each limit above the length of its past
pub legal_free : (s : Script) (limit : ℕ) (e : Event) (past : List Event) → length past < limit → IsFreeStep s e past → IsLegal s limit e past
legal_free s limit e past l h =
    let m = made_length (cpu_at (turn_of e)) past in
    let c : is_cut limit (own_of s (cpu_at (turn_of e)) past) ≡ false = lt-leb limit (made (cpu_at (turn_of e)) past) (omega (arith, l, m)) in
    rw c h

-- a free run is a run at each limit that is at least its length
pub run_free : (s : Script) (limit : ℕ) (h : List Event) → length h ≤ limit → IsFreeRun s h → IsRun s limit h
run_free s limit [] l r = tt
run_free s limit (e ∷ past) l r = (legal_free s limit e past (omega (arith, l)) r.0.0, run_free s limit past (omega (arith, l)) r.1)
