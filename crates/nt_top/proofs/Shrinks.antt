-- What `shrink` answers is what is found for the goal.
use Rattle.std.proofs.Common.{◌≡◌, ◌∙◌, ◌<◌, ◌≤◌, ℕ, Bool, true, false, List, length, Some, Err, ap, arith, refl, subst, sym}
use Rattle.std.specs.Prelude.{if◌then◌else◌, nat_lt, reverse}
use Rattle.std.proofs.lemmas.List.{reverse-reverse}
use Rattle.nt_event.specs.declared.events.ScheduleKind.{ScheduleKind}
use Rattle.nt_event.specs.declared.events.Turn.{Turn}
use Rattle.nt_event.specs.declared.scripts.Script.{Script}
use Rattle.nt_event.specs.Script.{fits}
use Rattle.nt_event.specs.Step.{IsRun, turns}
use Rattle.nt_laws.proofs.Named.RunFits.{run_fits}
use Rattle.nt_log.specs.declared.schedules.Schedule.{Schedule}
use Rattle.nt_log.specs.Schedules.{turns_fit}
use Rattle.nt_print.proofs.Turns.{turns_of_fit}
use Rattle.nt_script.specs.declared.walk.Input.{Input}
use Rattle.nt_shrink.specs.declared.goals.Goal.{Goal}
use Rattle.nt_shrink.specs.declared.refusals.TraceRefusal.TheVariants.{Bad}
use Rattle.nt_shrink.specs.Laws.{IsDelivery}
use Rattle.nt_shrink.specs.Traces.{traced}
use Rattle.nt_shrink.specs.Refusals.{IsShrinkRefused}
use Rattle.nt_shrink.specs.declared.refusals.ShrinkRefusal.TheVariants as shrinks
use Rattle.nt_top.specs.declared.status.Status.{Status}
use Rattle.nt_top.specs.declared.status.Status.TheVariants as exit
use Rattle.nt_top.specs.declared.task.Task.TheVariants as task
use Rattle.nt_top.specs.Answer.{IsTurnRefused}
use Rattle.nt_top.specs.Outcome.{IsDone}
use Rattle.nt_top.specs.Shrunk.{bad_turn, found, found_by, found_for, goal_of, too_many, turn_in}
use Rattle.nt_top.proofs.Found.{turn_done}

-- a list that is not too long is tried
few_found : (s : Script) (schedule : Schedule) (g : Goal) → length schedule.list ≤ 1000 → found_for s schedule (Some g)
    ≡ found_by g (traced s schedule.turns schedule.list)
few_found s schedule g few = go (nat_lt 1000 (length schedule.list)) refl
  where
    go : (b : Bool) → nat_lt 1000 (length schedule.list) ≡ b →
        (if b then too_many else found_by g (traced s schedule.turns schedule.list)) ≡ found_by g (traced s schedule.turns schedule.list)
    go false e = refl
    go true e = let many : 1000 < length schedule.list = search (arith, e) in absurd (omega (arith, many, few))

-- a turn that is refused is found, for the goal of this name
bad_turn_found : (input : Input) (schedule : Schedule) (name : List ℕ) (g : Goal) (at : ℕ) (kind : ScheduleKind) → goal_of input.names name ≡ Some g →
    length schedule.list ≤ 1000 → traced input.script schedule.turns schedule.list ≡ Err (Bad at kind) →
    found input schedule name ≡ bad_turn (record { at = at; kind = kind })
bad_turn_found input schedule name g at kind named few is =
    ap (found_for input.script schedule) named ∙ (few_found input.script schedule g few ∙ ap (found_by g) is)

-- a run's turns are those of threads of the script
pub delivery_fits : (s : Script) (limit : ℕ) (g : Goal) (answer : List Turn) → fits s ≡ true → IsDelivery s limit g answer → turns_fit s answer ≡ true
delivery_fits s limit g answer f d =
    let past = d.0 in
    let run : IsRun s limit (reverse (reverse past)) = subst (IsRun s limit) (sym (reverse-reverse past)) d.1.0 in
    subst (λ (ts : List Turn). turns_fit s ts ≡ true) d.1.1 (turns_of_fit s (reverse past) (run_fits s limit (reverse past) f run))

-- so the line of this turn is what is answered
pub bad_turn_done : (input : Input) (schedule : Schedule) (name : List ℕ) (g : Goal) (at : ℕ) (kind : ScheduleKind) (status : Status) (text : List ℕ) →
    goal_of input.names name ≡ Some g → IsShrinkRefused input.script schedule.turns g schedule.list (shrinks.Bad at kind) →
    IsTurnRefused (record { at = at; kind = kind }) status text → IsDone (task.Shrink input schedule name) status text
bad_turn_done input schedule name g at kind status text named h k =
    turn_done (task.Shrink input schedule name) (record { at = at; kind = kind }) status text
    (ap turn_in (bad_turn_found input schedule name g at kind named h.0 h.1.0)) k
