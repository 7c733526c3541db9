-- A processor that isn't cut rests in a settled run: nothing must be done, each class is served, and it stands at PASSIVE_LEVEL with no frame.
use Rattle.std.proofs.Common.{ap, arith, inl, inr, subst, sym, ◌∙◌}
use Rattle.std.proofs.lemmas.Bool.{eqb-true, ltb-false, ltb-true}
use Rattle.std.specs.List.{list_all, list_any}
use Rattle.std.specs.Option.{option_map_or, option_or}
use Rattle.std.specs.Prelude.{Bool, List, None, Option, Some, [], cond, false, find, is_some, nat_lt, not, option_map, refl, suc, true, zero, ℕ, ◌&&◌, ◌+◌, ◌-◌}
use Rattle.std.specs.Prelude.{◌<◌, ◌==◌, ◌||◌, ◌∷◌, ◌≡◌, ◌≤◌, ◌⊎◌}
use Rattle.nt_event.specs.declared.events.Begun.TheVariants.{Int}
use Rattle.nt_event.specs.declared.events.Event.{Event}
use Rattle.nt_event.specs.declared.events.What.TheVariants.{Begin}
use Rattle.nt_event.specs.Frame.{Frame}
use Rattle.nt_event.specs.declared.jobs.Job.TheVariants.{Apcs as ApcsJob, Drain as DrainJob, Threaded as ThreadedJob}
use Rattle.nt_event.specs.declared.jobs.Task.TheVariants.{Alone, Shared}
use Rattle.nt_event.specs.declared.numbers.CpuNo.{CpuNo}
use Rattle.nt_event.specs.declared.scripts.Script.{Script}
use Rattle.nt_event.specs.Frames.{frames_of, innermost, own_frames}
use Rattle.nt_event.specs.Jobs.{fire_task, interrupt_task, is_due, is_still, level_at, may_apcs, may_drain, may_interrupt, may_threaded, must, must_task, rests}
use Rattle.nt_event.specs.Jobs.{spins_still, waits_for_lock}
use Rattle.nt_event.specs.Classes.{interrupt_classes}
use Rattle.nt_event.specs.Own.{Own, own_of, rested}
use Rattle.nt_event.specs.Regions.{owes_sweep}
use Rattle.nt_event.specs.Requests.{asked, seen, served}
use Rattle.nt_event.specs.Robin.{has_seen, is_done_with}
use Rattle.nt_event.specs.Step.{IsRun, is_cut}
use Rattle.nt_event.specs.Numbers.{cpu}
use Rattle.nt_event.specs.Lists.{is_null, table_from, value_at, when}
use Rattle.nt_event.proofs.Options.{both}
use Rattle.nt_event.proofs.Tables.{get_or-table}
use Rattle.nt_close.specs.Close.{IsClosed, IsWanted}
use Rattle.nt_close.proofs.Rests.{IsClear, clear_inner, rested_clear}
use Rattle.nt_event.proofs.Booleans.{and_both}

-- ---- options, tests and tables

-- if neither of two options is there to take, each of them is none
or_none : {A : Type 0} (a b : Option A) → option_or a b ≡ None → (a ≡ None) × (b ≡ None)
or_none None b h = (refl, h)
or_none (Some x) b h = cc

-- if a mapped option is none, so is the option
map_none : {A B : Type 0} (f : A → B) (o : Option A) → option_map f o ≡ None → o ≡ None
map_none f None h = refl
map_none f (Some x) h = cc

-- if an option that is there only under a condition is none, the condition is false
when_none : {A : Type 0} (b : Bool) (x : A) → when b (Some x) ≡ None → b ≡ false
when_none true x h = cc
when_none false x h = refl

-- an option that isn't there is none
not_some : {A : Type 0} (o : Option A) → is_some o ≡ false → o ≡ None
not_some None h = refl
not_some (Some x) h = cc

-- if an "or" is false, both of its sides are false
pub neither : (a b : Bool) → (a || b) ≡ false → (a ≡ false) × (b ≡ false)
neither true b h = cc
neither false b h = (refl, h)

-- where the first test passes, the second one fails
pub second_fails : (a b : Bool) → a ≡ true → (a && b) ≡ false → b ≡ false
second_fails true b e h = h
second_fails false b e h = cc

-- if all entries of a table from k on are true, the function is true at each of its places
all_table : (k n : ℕ) (f : ℕ → Bool) → list_all (λ done. done) (table_from k n f) ≡ true → (i : ℕ) → i < n → f (k + i) ≡ true
unfolding table_from
all_table k zero f h i l = absurd (omega (arith, l))
all_table k (suc n) f h zero l = let e : k + 0 ≡ k = omega arith in rw e (both (f k) _ h).0
all_table k (suc n) f h (suc i) l =
    let e : k + suc i ≡ suc k + i = omega arith in rw e (all_table (suc k) n f (both (f k) _ h).1 i (omega (arith, l)))

-- if all entries of a table from 0 on are true, the function is true at each number below its length
all_from : (n : ℕ) (f : ℕ → Bool) → list_all (λ done. done) (table_from 0 n f) ≡ true → (i : ℕ) → i < n → f i ≡ true
all_from n f h i l = let e : 0 + i ≡ i = omega arith in rw e at (all_table 0 n f h i l)

-- if no element passes a test, an element of the list fails it
none_of_them : (test : ℕ → Bool) (xs : List ℕ) (c : ℕ) → find test xs ≡ None → list_any (λ k. k == c) xs ≡ true → test c ≡ false
none_of_them test [] c h a = cc
none_of_them test (x ∷ xs) c h a =
    go (test x) (x == c) refl refl h a (λ k b. none_of_them test xs c k b)
  where
    go : (t b : Bool) → test x ≡ t → (x == c) ≡ b → cond t (Some x) (find test xs) ≡ None → (b || list_any (λ k. k == c) xs) ≡ true →
        (find test xs ≡ None → list_any (λ k. k == c) xs ≡ true → test c ≡ false) → test c ≡ false
    go true b e i h a ih = cc
    go false true e i h a ih =
        let n : x ≡ c = eqb-true x c i in subst (λ (k : ℕ). test k ≡ false) n e
    go false false e i h a ih = ih h a

-- ---- nothing must be done

pub record IsIdle (x : Own) : Type 0 where
  pub interrupts : (c : ℕ) → list_any (λ k. k == c) interrupt_classes ≡ true → may_interrupt x c ≡ false
  pub drain : may_drain x ≡ false
  pub threaded : may_threaded x ≡ false

-- if a processor has no task that it must do, no interrupt, drain or threaded DPC may start on it
idle_of : (x : Own) → must_task x ≡ None → IsIdle x
idle_of x h =
    let a = or_none (fire_task x) (option_or (interrupt_task x)
    (option_or (when (may_drain x) (Some (Shared DrainJob)))
    (option_or (when (may_apcs x) (Some (Shared ApcsJob))) (when (may_threaded x) (Some (Shared ThreadedJob)))))) h in
    let b = or_none (interrupt_task x) (option_or (when (may_drain x) (Some (Shared DrainJob)))
    (option_or (when (may_apcs x) (Some (Shared ApcsJob))) (when (may_threaded x) (Some (Shared ThreadedJob))))) a.1 in
    let c = or_none (when (may_drain x) (Some (Shared DrainJob)))
    (option_or (when (may_apcs x) (Some (Shared ApcsJob))) (when (may_threaded x) (Some (Shared ThreadedJob)))) b.1 in
    let d = or_none (when (may_apcs x) (Some (Shared ApcsJob))) (when (may_threaded x) (Some (Shared ThreadedJob))) c.1 in
    record {
      interrupts = λ k i. none_of_them (may_interrupt x) interrupt_classes k
          (map_none (λ c. Alone (Begin (Int c) (value_at x.seen c - 1))) (find (may_interrupt x) interrupt_classes) b.0) i;
      drain = when_none (may_drain x) (Shared DrainJob) c.0;
      threaded = when_none (may_threaded x) (Shared ThreadedJob) d.1;
    }

-- ---- at the close

pub record IsAtRest (s : Script) (p : CpuNo) (past : List Event) : Type 0 where
  pub rested : rested p past ≡ true
  pub idle : IsIdle (own_of s p past)
  pub clear : IsClear p past
  pub seen : (c : ℕ) → c < 16 → seen s p c past ≡ asked s p c past

-- if an "or" is true and its first side is false, its second side is true
first_of_or : (a b : Bool) → (a || b) ≡ true → a ≡ false → b ≡ true
first_of_or true b h e = cc
first_of_or false b h e = h

-- if the negation of a boolean is true, the boolean is false
not_true : (b : Bool) → not b ≡ true → b ≡ false
not_true true h = cc
not_true false h = refl

-- in a run a processor that rests and has seen every ask is at rest
rest_of : (s : Script) (limit : ℕ) (p : CpuNo) (past : List Event) → IsRun s limit past →
    (rests (own_of s p past) && has_seen (own_of s p past) (λ c. asked s p c past)) ≡ true → IsAtRest s p past
rest_of s limit p past r h =
    record { rested = rested_here; idle = idle_of (own_of s p past) quiet; clear = rested_clear s limit p past r rested_here; seen = seen_here }
  where
    parts : (rests (own_of s p past) ≡ true) × (has_seen (own_of s p past) (λ c. asked s p c past) ≡ true)
    parts = both (rests (own_of s p past)) (has_seen (own_of s p past) (λ c. asked s p c past)) h

    halves : (rested p past ≡ true) × (not (must (own_of s p past)) ≡ true)
    halves = both (rested p past) (not (must (own_of s p past))) parts.0

    rested_here : rested p past ≡ true
    rested_here = halves.0

    quiet : must_task (own_of s p past) ≡ None
    quiet = not_some (must_task (own_of s p past)) (not_true (must (own_of s p past)) halves.1)

    seen_here : (c : ℕ) → c < 16 → seen s p c past ≡ asked s p c past
    seen_here c l =
        let v : value_at (own_of s p past).seen c ≡ seen s p c past = get_or-table 16 c (λ c. seen s p c past) 0 l in
        let e : value_at (own_of s p past).seen c ≡ asked s p c past = eqb-true (value_at (own_of s p past).seen c) (asked s p c past)
        (all_from 16 (λ c. value_at (own_of s p past).seen c == asked s p c past) parts.1 c l) in
        sym v ∙ e

-- a processor that isn't cut is still, and has seen what was asked
pub closed_done : (s : Script) (limit : ℕ) (p : CpuNo) (past : List Event) → IsClosed s limit p past → (is_still (own_of s p past) ≡ true) ×
    (has_seen (own_of s p past) (λ c. asked s p c past) ≡ true)
closed_done s limit p past k =
    both (is_still (own_of s p past)) (has_seen (own_of s p past) (λ c. asked s p c past))
    (first_of_or (is_cut limit (own_of s p past)) _ done k.uncut)
  where
    done : is_done_with s limit p past ≡ true
    done = all_from s.cpus (λ p. is_done_with s limit (cpu p) past) k.settled p.0 (ltb-true p.0 s.cpus k.named)

-- one that rests
pub closed_rests : (s : Script) (limit : ℕ) (p : CpuNo) (past : List Event) → IsClosed s limit p past → rests (own_of s p past) ≡ true → IsAtRest s p past
closed_rests s limit p past k h =
    let seen = (closed_done s limit p past k).1 in
    rest_of s limit p past k.run (and_both (rests (own_of s p past)) (has_seen (own_of s p past) (λ c. asked s p c past)) h seen)

-- one that spins still
pub record IsStuck (s : Script) (p : CpuNo) (past : List Event) : Type 0 where
  pub idle : IsIdle (own_of s p past)
  pub waits : waits_for_lock (own_of s p past) ≡ true
  pub seen : (c : ℕ) → c < 16 → seen s p c past ≡ asked s p c past

-- a processor that spins still at the close waits for a lock, owes nothing and has seen every ask
pub closed_stuck : (s : Script) (limit : ℕ) (p : CpuNo) (past : List Event) → IsClosed s limit p past → spins_still (own_of s p past) ≡ true →
    IsStuck s p past
closed_stuck s limit p past k h =
    record { idle = idle_of (own_of s p past) (not_some (must_task (own_of s p past)) (not_true (must (own_of s p past)) z.1)); waits = z.0; seen = seen_here }
  where
    z : (waits_for_lock (own_of s p past) ≡ true) × (not (must (own_of s p past)) ≡ true)
    z = both (waits_for_lock (own_of s p past)) (not (must (own_of s p past))) h

    seen_here : (c : ℕ) → c < 16 → seen s p c past ≡ asked s p c past
    seen_here c l =
        let v : value_at (own_of s p past).seen c ≡ seen s p c past = get_or-table 16 c (λ c. seen s p c past) 0 l in
        let e : value_at (own_of s p past).seen c ≡ asked s p c past = eqb-true (value_at (own_of s p past).seen c) (asked s p c past)
        (all_from 16 (λ c. value_at (own_of s p past).seen c == asked s p c past) (closed_done s limit p past k).1 c l) in
        sym v ∙ e

-- it is one of the two
pub closed_either : (s : Script) (limit : ℕ) (p : CpuNo) (past : List Event) → IsClosed s limit p past → (rests (own_of s p past) ≡ true) ⊎
    (spins_still (own_of s p past) ≡ true)
closed_either s limit p past k = go (rests (own_of s p past)) refl (closed_done s limit p past k).0
  where
    go : (b : Bool) → rests (own_of s p past) ≡ b → (b || spins_still (own_of s p past)) ≡ true → (rests (own_of s p past) ≡ true) ⊎
        (spins_still (own_of s p past) ≡ true)
    go true e h = inl e
    go false e h = inr h

-- a processor at rest has no innermost frame
pub rest_inner : (s : Script) (p : CpuNo) (past : List Event) → IsAtRest s p past → innermost (frames_of s p past) ≡ None
rest_inner s p past k = clear_inner s p past k.clear

-- a processor at rest stands at level 0
pub rest_level : (s : Script) (p : CpuNo) (past : List Event) → IsAtRest s p past → level_at (own_of s p past) ≡ 0
rest_level s p past k = ap (λ (o : Option Frame). option_map_or (λ f. f.level) o 0) (rest_inner s p past k)

-- ---- nothing is wanted

-- a class that isn't due isn't wanted
served_all : (s : Script) (p : CpuNo) (c : ℕ) (past : List Event) → IsAtRest s p past → c < 16 → is_due (own_of s p past) c ≡ false → IsWanted s p c past → ⊥
served_all s p c past k l d w =
    let v : value_at (own_of s p past).seen c ≡ seen s p c past = get_or-table 16 c (λ c. seen s p c past) 0 l in
    let u : value_at (own_of s p past).served c ≡ served s p c past = get_or-table 16 c (λ c. served s p c past) 0 l in
    let n : value_at (own_of s p past).seen c ≤ value_at (own_of s p past).served c = ltb-false (value_at (own_of s p past).served c)
    (value_at (own_of s p past).seen c) d in
    let a = k.seen c l in
    omega (arith, v, u, n, a, w)

-- an interrupt class above 0 is above the level of a processor at rest
low_level : (s : Script) (p : CpuNo) (c : ℕ) (past : List Event) → IsAtRest s p past → nat_lt 0 c ≡ true → nat_lt (level_at (own_of s p past)) c ≡ true
low_level s p c past k h = subst (λ (n : ℕ). nat_lt n c ≡ true) (sym (rest_level s p past k)) h

-- a processor at rest has no dispatch interrupt due and owes no sweep of the timers
drained : (s : Script) (p : CpuNo) (past : List Event) → IsAtRest s p past → (is_due (own_of s p past) 2 ≡ false) × (owes_sweep p past ≡ false)
drained s p past k =
    neither (is_due (own_of s p past) 2) (owes_sweep p past)
    (second_fails (nat_lt (level_at (own_of s p past)) 2) (is_due (own_of s p past) 2 || owes_sweep p past) (low_level s p 2 past k refl) k.idle.drain)

-- a processor at rest owes no sweep of the timers
pub no_sweep : (s : Script) (p : CpuNo) (past : List Event) → IsAtRest s p past → owes_sweep p past ≡ false
no_sweep s p past k = (drained s p past k).1

-- on a processor at rest class 2, that of dispatching, isn't wanted
pub none_wanted_2 : (s : Script) (p : CpuNo) (past : List Event) → IsAtRest s p past → IsWanted s p 2 past → ⊥
none_wanted_2 s p past k w = served_all s p 2 past k (omega arith) (drained s p past k).0 w

-- on a processor at rest class 0, that of threaded DPCs, isn't wanted
pub none_wanted_0 : (s : Script) (p : CpuNo) (past : List Event) → IsAtRest s p past → IsWanted s p 0 past → ⊥
none_wanted_0 s p past k w = served_all s p 0 past k (omega arith) due w
  where
    level : (level_at (own_of s p past) == 0) ≡ true
    level = ap (λ (n : ℕ). n == 0) (rest_level s p past k)

    null : is_null (own_frames p past) ≡ true
    null = ap (λ (fs : List Frame). is_null fs) k.clear.own

    due : is_due (own_of s p past) 0 ≡ false
    due =
        second_fails (is_null (own_frames p past)) (is_due (own_of s p past) 0) null
        (second_fails (level_at (own_of s p past) == 0) (is_null (own_frames p past) && is_due (own_of s p past) 0) level k.idle.threaded)

-- an interrupt isn't due
pub no_interrupt : (s : Script) (p : CpuNo) (c : ℕ) (past : List Event) → IsAtRest s p past → list_any (λ k. k == c) interrupt_classes ≡ true → nat_lt 0 c
    ≡ true → is_due (own_of s p past) c ≡ false
no_interrupt s p c past k i h =
    second_fails (nat_lt (level_at (own_of s p past)) c) (is_due (own_of s p past) c) (low_level s p c past k h) (k.idle.interrupts c i)

-- on a processor at rest class 13, that of the clock interrupt, isn't wanted
pub none_wanted_13 : (s : Script) (p : CpuNo) (past : List Event) → IsAtRest s p past → IsWanted s p 13 past → ⊥
none_wanted_13 s p past k w = served_all s p 13 past k (omega arith) (no_interrupt s p 13 past k refl refl) w
