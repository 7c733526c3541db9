-- Events that a floor makes: what it asks of its caller, and what is left of the processor.
use Rattle.std.proofs.Common.{ap, arith, max, ◌∙◌}
use Rattle.std.proofs.lemmas.Bool.Decides.{nat_tests}
use Rattle.std.specs.Prelude.{Bool, IfSome, IsTrue, List, None, Option, Some, false, length, option_and_then, refl, true, ℕ, ◌<◌, ◌^◌, ◌≡◌, ◌≤◌}
use Rattle.nt_event.specs.declared.events.Event.{Event}
use Rattle.nt_event.specs.declared.events.What.{What}
use Rattle.nt_event.specs.declared.events.What.TheVariants.{Look}
use Rattle.nt_event.specs.Frame.{Frame}
use Rattle.nt_event.specs.declared.jobs.Job.{Job}
use Rattle.nt_event.specs.declared.numbers.ThreadNo.{ThreadNo}
use Rattle.nt_event.specs.Acting.{IsDue}
use Rattle.nt_event.specs.Frames.{due_of, innermost}
use Rattle.nt_event.specs.Jobs.{job_event}
use Rattle.nt_event.specs.Lanes.{Lanes, what_lanes}
use Rattle.nt_event.specs.Own.{stand_in}
use Rattle.nt_event.specs.Requests.{asks_in, looked, raised, seen_after}
use Rattle.nt_event.specs.Script.{has_thread}
use Rattle.nt_event.specs.Lists.{table, value_at}
use Rattle.nt_event.proofs.Options.{holds_at}
use Rattle.nt_event.specs.declared.acts.Acted.{Acted}
use Rattle.nt_event.specs.Acts.{Found, IsActed, IsMet, StandFits, told_over}
use Rattle.nt_cpu.specs.GoodTasks.{GoodJob}
use Rattle.nt_cpu.specs.Leaves.{own_with}
use Rattle.nt_cpu.specs.Sound.{IsSound}
use Rattle.nt_cpu.specs.States.{CpuState}
use Rattle.nt_cpu.specs.Turns.{StandsIn, own_then}
use Rattle.nt_cpu.proofs.ActedEvents.{GoodEvent, acted_good, is_look}
use Rattle.nt_cpu.proofs.Taken.{innermost_small, own_with_same, taken_seen}

-- where a processor stands fits the script
pub stand_fits : (c : CpuState) → IsSound c → StandFits c.script (stand_in c.cpu c.own)
stand_fits c h = record { cpu = h.cpu; thread = thread c.own.frames.running h.nested.running; due = due (innermost c.own.frames) refl }
  where
    thread : (r : Option ThreadNo) → IfSome r (λ t. t.0 < length c.own.frames.threads) → IfSome r (λ t. IsTrue (has_thread c.script t))
    thread None k = tt
    thread (Some t) k = let l = h.threads in grind (arith, nat_tests)

    due : (o : Option Frame) → innermost c.own.frames ≡ o → IfSome (option_and_then (λ f. f.again) o) (λ w. IfSome w.due (λ d. d < 2 ^ 51))
    due None e = tt
    due (Some f) e = (innermost_small c.script.locks c.own.made c.own.frames f h.small e).due

-- the floor is met by a job that is due, where it tells its states
pub stands_met : (c : CpuState) (states : Option Lanes) (job : Job) → IfSome states (λ l. StandsIn c l) → IsDue c.script c.cpu c.own job →
    IsMet c.script states (stand_in c.cpu c.own) job
stands_met c None job h d = tt
stands_met c (Some l) job h d = (h.standing, h.jobs job d)

-- what it answers is an event that the frames allow
pub acted_fits : (c : CpuState) (job : Job) (f : Found) (a : Acted) → IsSound c → GoodJob c job → IsActed c.script f (stand_in c.cpu c.own) job a →
    GoodEvent c a.event.what
acted_fits c job f a h g i =
    holds_at (GoodEvent c) (job_event c.script (stand_in c.cpu c.own) f.lanes job) a.event.what (acted_good c f.lanes job h g i.kinds) i.what

-- an event that is no look looked at nothing
no_look : (w : What) (k : ℕ) → is_look w ≡ false → looked w k ≡ 0
no_look (Look r) k h = absurd cc
no_look _ k h = refl

-- the greater one of what was seen and what is told is what is seen after the event
pub seen_told : (b : Bool) (n : ℕ) (w : What) (k t old : ℕ) → is_look w ≡ false → old ≤ n → max old (raised b n t) ≡ seen_after n w k b t old
seen_told true n w k t old h l = omega arith
seen_told false n w k t old h l = rw (no_look w k h) (omega arith)

-- the event is taken up after what is told was seen
pub acted_taken : (c i d : CpuState) (n : ℕ) (due : Option ℕ) (e : Event) (xs told : List ℕ) → i ≡ c → xs
    ≡ table 16 (λ k. max (value_at i.own.seen k) (value_at told k)) → d
    ≡ record i { own = own_with i.script n due e (λ k. value_at xs k) (record i.own { seen = xs }) } → d
    ≡ record c { own = own_with c.script n due e (λ k. max (value_at c.own.seen k) (value_at told k)) c.own }
acted_taken c i d n due e xs told view a b =
    taken_seen i d n due e xs (λ k. max (value_at i.own.seen k) (value_at told k)) a b
    ∙ ap (λ (x : CpuState). record x { own = own_with x.script n due e (λ k. max (value_at x.own.seen k) (value_at told k)) x.own }) view

-- what is left of the processor
pub acted_left : (c : CpuState) (job : Job) (f : Found) (a : Acted) → IsSound c → GoodJob c job → ((k : ℕ) → k < 16 → value_at c.own.seen k ≤ a.number) →
    IsActed c.script f (stand_in c.cpu c.own) job a → own_with c.script a.number a.due a.event
    (λ k. max (value_at c.own.seen k) (value_at a.told.value k)) c.own ≡ own_then c f a.number a.event
acted_left c job f a h g l i =
    ap (λ (d : Option ℕ). own_with c.script a.number d a.event (λ k. max (value_at c.own.seen k) (value_at a.told.value k)) c.own) i.due
    ∙ own_with_same c.script a.number (due_of a.event.what f.lanes.timers.now) a.event _ _ c.own
    (λ k b. ap (λ (v : ℕ). max (value_at c.own.seen k) v) (i.told k b)
    ∙ seen_told (asks_in c.script (stand_in c.cpu c.own) a.event.what f.lanes c.cpu k) a.number a.event.what k
    (told_over f.told (what_lanes c.script (stand_in c.cpu c.own) a.event.what f.lanes) c.cpu k) (value_at c.own.seen k) (acted_fits c job f a h g i).look
    (l k b))
