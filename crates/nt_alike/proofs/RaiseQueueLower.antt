-- The worked row raise-queue-lower: each of its histories leads to the next one alone, as the definitions compute.
use Rattle.std.proofs.Common.{ap, arith, inl, inr, subst, sym, ◌∙◌}
use Rattle.std.proofs.lemmas.Bool.{eqb-true, ltb-true}
use Rattle.std.specs.Prelude.{Bool, Err, List, Ok, Option, Result, [], false, nat_le, not, refl, true, ℕ, ◌&&◌, ◌==◌, ◌∷◌, ◌≡◌, ◌⊎◌}
use Rattle.nt_event.specs.declared.events.Event.{Event}
use Rattle.nt_event.specs.declared.events.ScheduleKind.{ScheduleKind}
use Rattle.nt_event.specs.declared.events.ScheduleKind.TheVariants.{BadChoice, NothingToDo}
use Rattle.nt_event.specs.declared.numbers.DpcNo.{DpcNo}
use Rattle.nt_event.specs.declared.numbers.ThreadNo.{ThreadNo}
use Rattle.nt_event.specs.Lanes.{lanes_at}
use Rattle.nt_event.specs.Lists.{table_from}
use Rattle.nt_event.specs.Numbers.{thread}
use Rattle.nt_event.specs.Objects.{is_dpc}
use Rattle.nt_event.specs.Own.{own_of}
use Rattle.nt_event.specs.Script.{has_thread}
use Rattle.nt_event.specs.Step.{next_step, switch_step}
use Rattle.nt_event.proofs.Options.{not_false}
use Rattle.nt_rows.specs.RaiseQueueLower.{d, main, script}
use Rattle.nt_alike.specs.Bare.{bare_event}
use Rattle.nt_alike.specs.Ends.{is_quiet}
use Rattle.nt_alike.specs.Free.{IsFreeRun, MayCome}
use Rattle.nt_alike.specs.Lists.{Each}
use Rattle.nt_alike.specs.Monitors.{IsClosedWith, Monitor, NoneShowsWith, kept}
use Rattle.nt_alike.specs.RaiseQueueLower.{DpcBeginsOnce, DpcWaitsForTheLower, RowEnds, begins_too_soon, begun_count, body_ended, cleaned, dpc_begun, dpc_ended}
use Rattle.nt_alike.specs.RaiseQueueLower.{events_left, gone, histories, last_level, lowered, noted, queued, raised, rested, switched}
use Rattle.nt_alike.specs.Ranks.{IsRanked}
use Rattle.nt_alike.proofs.Free.{runs_free}
use Rattle.nt_alike.proofs.Line.{EndsAt, GoesTo, Line, OnlyTo, ToNone, line_ranked, none_found}
use Rattle.nt_alike.proofs.Monitors.{never_at_end, never_with}
use Rattle.nt_alike.proofs.OneCpu.{comes, only}
use Rattle.nt_alike.proofs.Parts.{used_up_bare}
use Rattle.nt_alike.proofs.Ranks.{closed_of, no_longer}

-- a declared thread of the row is its one main thread
only_main : (u : ThreadNo) → has_thread script u ≡ true → u ≡ main
only_main u h = ap thread (let l = ltb-true u.0 1 h in omega (arith, l))

-- ---- each of them is a free run

-- the history up to the switch to the thread is a free run
run_switched : IsFreeRun script switched
unfolding table_from
run_switched = ((refl, tt), tt)

-- the history up to the raise of the level is a free run
run_raised : IsFreeRun script raised
unfolding table_from
run_raised = ((refl, tt), run_switched)

-- the history up to the insert of the DPC is a free run
run_queued : IsFreeRun script queued
unfolding table_from
run_queued = ((refl, tt), run_raised)

-- the history up to the lowering of the level is a free run
run_lowered : IsFreeRun script lowered
unfolding table_from
run_lowered = ((refl, tt), run_queued)

-- the history up to the begin of the DPC is a free run
run_dpc_begun : IsFreeRun script dpc_begun
unfolding table_from
run_dpc_begun = ((refl, tt), run_lowered)

-- the history of the row up to the DPC's note is a free run
pub run_noted : IsFreeRun script noted
unfolding table_from
run_noted = ((refl, tt), run_dpc_begun)

-- the history up to the end of the DPC is a free run
run_dpc_ended : IsFreeRun script dpc_ended
unfolding table_from
run_dpc_ended = ((refl, tt), run_noted)

-- the history up to the clean step is a free run
run_cleaned : IsFreeRun script cleaned
unfolding table_from
run_cleaned = ((refl, tt), run_dpc_ended)

-- the history up to the end of the thread's body is a free run
run_body_ended : IsFreeRun script body_ended
unfolding table_from
run_body_ended = ((refl, tt), run_cleaned)

-- the history up to the thread's being gone is a free run
run_gone : IsFreeRun script gone
unfolding table_from
run_gone = ((refl, tt), run_body_ended)

-- the history up to the rest of the processor is a free run
run_rested : IsFreeRun script rested
unfolding table_from
run_rested = ((refl, tt), run_gone)

-- ---- what may come after each

-- two accepted results that are equal hold the same event
same_ok : {e f : Event} → ◌≡◌ {A = Result Event ScheduleKind} (Ok e) (Ok f) → f ≡ e
same_ok q = cc

-- a refused step gives no event
no_event : {f : Event} (kind : ScheduleKind) → ◌≡◌ {A = Result Event ScheduleKind} (Err kind) (Ok f) → ⊥
no_event kind q = cc

-- the next event, or a Switch to the one thread
comes_main : (k : List Event) (f : Event) → IsFreeRun script k → MayCome script f k →
    (next_step script only (own_of script only k) (lanes_at script k) ≡ Ok f) ⊎ (switch_step script only main (own_of script only k) (lanes_at script k) ≡ Ok f)
comes_main k f r m =
    elim (comes script refl k f r m) [
      | inl n ↦ inl n
      | inr s ↦ inr (subst (λ (u : ThreadNo). switch_step script only u (own_of script only k) (lanes_at script k) ≡ Ok f) (only_main s.0 s.1) s.2)
    ]

-- where the next event comes, and the thread may not be switched to
by_next : {e : Event} (k : List Event) → IsFreeRun script k → next_step script only (own_of script only k) (lanes_at script k) ≡ Ok e →
    switch_step script only main (own_of script only k) (lanes_at script k) ≡ Err BadChoice → OnlyTo script k (e ∷ k)
by_next k r next switch f m =
    elim (comes_main k f r m) [
      | inl n ↦ ap (λ (g : Event). g ∷ k) (same_ok (sym next ∙ n))
      | inr s ↦ absurd (no_event BadChoice (sym switch ∙ s))
    ]

-- where the thread is switched to, and there is no next event
by_switch : {e : Event} (k : List Event) → IsFreeRun script k → next_step script only (own_of script only k) (lanes_at script k) ≡ Err NothingToDo →
    switch_step script only main (own_of script only k) (lanes_at script k) ≡ Ok e → OnlyTo script k (e ∷ k)
by_switch k r next switch f m =
    elim (comes_main k f r m) [
      | inl n ↦ absurd (no_event NothingToDo (sym next ∙ n))
      | inr s ↦ ap (λ (g : Event). g ∷ k) (same_ok (sym switch ∙ s))
    ]

-- from the empty history only the switch to the thread may come
from_opening : OnlyTo script [] switched
unfolding table_from
from_opening = by_switch [] tt refl refl

-- after the switch only the raise of the level may come
from_switched : OnlyTo script switched raised
unfolding table_from
from_switched = by_next switched run_switched refl refl

-- after the raise only the insert of the DPC may come
from_raised : OnlyTo script raised queued
unfolding table_from
from_raised = by_next raised run_raised refl refl

-- after the insert only the lowering of the level may come
from_queued : OnlyTo script queued lowered
unfolding table_from
from_queued = by_next queued run_queued refl refl

-- after the lowering only the begin of the DPC may come
from_lowered : OnlyTo script lowered dpc_begun
unfolding table_from
from_lowered = by_next lowered run_lowered refl refl

-- after the begin of the DPC only its note may come
from_dpc_begun : OnlyTo script dpc_begun noted
unfolding table_from
from_dpc_begun = by_next dpc_begun run_dpc_begun refl refl

-- after the note only the end of the DPC may come
from_noted : OnlyTo script noted dpc_ended
unfolding table_from
from_noted = by_next noted run_noted refl refl

-- after the end of the DPC only the clean step may come
from_dpc_ended : OnlyTo script dpc_ended cleaned
unfolding table_from
from_dpc_ended = by_next dpc_ended run_dpc_ended refl refl

-- after the clean step only the end of the thread's body may come
from_cleaned : OnlyTo script cleaned body_ended
unfolding table_from
from_cleaned = by_next cleaned run_cleaned refl refl

-- after the end of the body only the going of the thread may come
from_body_ended : OnlyTo script body_ended gone
unfolding table_from
from_body_ended = by_next body_ended run_body_ended refl refl

-- after the thread is gone only the rest of the processor may come
from_gone : OnlyTo script gone rested
unfolding table_from
from_gone = by_next gone run_gone refl refl

-- after the rest of the processor no event may come
from_rested : ToNone script rested
unfolding table_from
from_rested f m =
    elim (comes_main rested f run_rested m) [ inl k ↦ no_event NothingToDo k | inr k ↦ no_event BadChoice k ]

-- ---- a line, so a closed list

unfoldable pub later : List (List Event)
later = switched ∷ raised ∷ queued ∷ lowered ∷ dpc_begun ∷ noted ∷ dpc_ended ∷ cleaned ∷ body_ended ∷ gone ∷ rested ∷ []

-- from the empty history each history of the row goes on to the next one only, and the last to none
pub line : Line script [] later
unfolding later
line =
    GoesTo tt from_opening (GoesTo run_switched from_switched (GoesTo run_raised from_raised (GoesTo run_queued from_queued
    (GoesTo run_lowered from_lowered (GoesTo run_dpc_begun from_dpc_begun (GoesTo run_noted from_noted (GoesTo run_dpc_ended from_dpc_ended
    (GoesTo run_cleaned from_cleaned (GoesTo run_body_ended from_body_ended (GoesTo run_gone from_gone (EndsAt run_rested from_rested)))))))))))

-- the row's histories are ranked by how many events are left, at most 11, with any monitor
pub ranked : (monitor : Monitor) → IsRanked script monitor events_left 11 histories
unfolding later
ranked monitor =
    line_ranked script monitor 11 later line (refl, (refl, (refl, (refl, (refl, (refl, (refl, (refl, (refl, (refl, (refl, tt)))))))))))

-- the row's histories are a closed list with any monitor
pub closed : (monitor : Monitor) → IsClosedWith script monitor histories
closed monitor = closed_of script monitor events_left 11 histories (ranked monitor)

-- ---- what no run shows

-- that the newest event begins the DPC too soon
shows : List Event → Bool
shows [] = false
shows (e ∷ past) = begins_too_soon (kept last_level past) (bare_event e)

-- no history of the row goes on by a DPC that begins while the level was last seen too high
none_too_soon : NoneShowsWith script last_level begins_too_soon histories
unfolding shows later
none_too_soon =
    none_found script shows [] later line (refl, (refl, (refl, (refl, (refl, (refl, (refl, (refl, (refl, (refl, (refl, tt)))))))))))

-- whether an event begins the DPC too soon does not depend on the event's numbers
bare_too_soon : (level : ℕ) (e : Event) → begins_too_soon level e ≡ begins_too_soon level (bare_event e)
bare_too_soon level e = ap (λ (o : Option DpcNo). nat_le 2 level && is_dpc o d) (used_up_bare e.what)

-- the row's DPC never begins while its processor is at DISPATCH_LEVEL or above
pub waits_for_the_lower : DpcWaitsForTheLower
waits_for_the_lower limit e past r l =
    bare_too_soon (kept last_level past) e
    ∙ never_with script last_level histories (closed last_level) begins_too_soon none_too_soon e past (runs_free script limit (e ∷ past) r l)

-- ---- what each quiet run shows

-- only the last of them is quiet
quiet_ends : Each (λ k. is_quiet script k ≡ true → not (kept begun_count k == 1) ≡ false) histories
unfolding table_from
quiet_ends = (no, (no, (no, (no, (no, (no, (no, (no, (no, (no, (no, (λ q. refl, tt))))))))))))
  where
    no : {X : Type 0} → false ≡ true → X
    no q = cc

-- in each run of the row that ends quietly the DPC has begun once
pub begins_once : DpcBeginsOnce
begins_once limit past r l q =
    eqb-true (kept begun_count past) 1
    (not_false (kept begun_count past == 1)
    (never_at_end script begun_count histories (closed begun_count) (λ n. not (n == 1)) quiet_ends past (runs_free script limit past r l) q))

-- no run of the row has more events than the worked history
pub ends : RowEnds
ends limit past r l = no_longer script last_level events_left 11 histories (ranked last_level) limit past r l
