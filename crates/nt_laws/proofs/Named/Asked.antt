-- What events ask for is of used classes, where they fit, so looks rise in used classes alone.
use Rattle.std.proofs.Common.{subst}
use Rattle.std.proofs.lemmas.Bool.{eqb-true}
use Rattle.std.specs.List.{list_any}
use Rattle.std.specs.Prelude.{Bool, List, Option, Some, [], false, length, nat_le, nat_lt, refl, suc, true, ℕ, ◌&&◌, ◌++◌, ◌+◌, ◌==◌, ◌||◌, ◌∷◌, ◌≡◌}
use Rattle.nt_event.specs.declared.commands.ApcKind.TheVariants.{Normal as NormalApc}
use Rattle.nt_event.specs.declared.commands.Command.{Command}
use Rattle.nt_event.specs.declared.commands.Command.TheVariants.{Alert, Clock, InsertApc, Interrupt, LeaveCrit, LeaveGuard, Queue, Release, Unlock}
use Rattle.nt_event.specs.declared.commands.Reply.{Reply}
use Rattle.nt_event.specs.declared.commands.Reply.TheVariants.{Done, No, Yes}
use Rattle.nt_event.specs.declared.commands.TimerKey.TheVariants.{Delay as OfDelay}
use Rattle.nt_event.specs.declared.events.Event.{Event}
use Rattle.nt_event.specs.declared.events.What.{What}
use Rattle.nt_event.specs.declared.events.What.TheVariants.{Call, End, Expire, Fire, Free, Normal, Switch}
use Rattle.nt_event.specs.declared.frames.Body.{Body}
use Rattle.nt_event.specs.declared.frames.Body.TheVariants.{Apc as OnApc, Base as OnBase}
use Rattle.nt_event.specs.declared.inserts.Part.{Part}
use Rattle.nt_event.specs.declared.inserts.Part.TheVariants.{Ordinary as OrdinaryPart, Threaded as ThreadedPart}
use Rattle.nt_event.specs.declared.jobs.Stand.{Stand}
use Rattle.nt_event.specs.declared.numbers.CpuNo.{CpuNo}
use Rattle.nt_event.specs.declared.scripts.Script.{Script}
use Rattle.nt_event.specs.Apcs.{has_kernel}
use Rattle.nt_event.specs.Lanes.{Lanes, facts_at, facts_of, lanes_at, lock_at, object_at, queue_at}
use Rattle.nt_event.specs.Objects.{ObjectState, queue_for}
use Rattle.nt_event.specs.Own.{Own}
use Rattle.nt_event.specs.Queues.{QueueState, depth_of, insert_asks}
use Rattle.nt_event.specs.Regions.{some_came_to_0, stand_at}
use Rattle.nt_event.specs.Requests.{Ask, ask_if, asks, command_asks, dpc_asks, end_asks, is_ask, spinner_asks, what_asks}
use Rattle.nt_event.specs.Routines.{cpu_of, depth_limit, is_kernel_kind, kind_of, owner_of, part_of}
use Rattle.nt_event.specs.Script.{command_fits, has_cpu}
use Rattle.nt_event.specs.Classes.{is_requested_level, is_used_class}
use Rattle.nt_event.specs.Step.{good_rises, was_asked}
use Rattle.nt_event.specs.Threads.{ends_by_apc, ends_by_expiry}
use Rattle.nt_event.specs.Waits.{new_pick}
use Rattle.nt_event.specs.Lists.{value_at}
use Rattle.nt_event.proofs.Options.{both}
use Rattle.nt_laws.specs.Named.{AllFit, values_fit}
use Rattle.nt_event.specs.Fitting.{what_fits}
use Rattle.nt_event.specs.Numbers.{cpu}

abbrev AreUsed : List Ask → Type 0
AreUsed [] = Unit {0}
AreUsed (a ∷ xs) = (is_used_class a.class ≡ true) × AreUsed xs

-- an ask made under a condition is of a used class if its class is used
used_if : (b : Bool) (p : CpuNo) (c : ℕ) → is_used_class c ≡ true → AreUsed (ask_if b p c)
used_if true p c h = (h, tt)
used_if false p c h = tt

-- two lists of asks of used classes make one such list
used_both : (xs ys : List Ask) → AreUsed xs → AreUsed ys → AreUsed (xs ++ ys)
used_both [] ys h k = k
used_both (x ∷ xs) ys h k = (h.0, used_both xs ys h.1 k)

-- what a DPC's insert asks for is of used classes
dpc_used : (s : Script) (part : Part) (o : ObjectState) (by q : CpuNo) (x : QueueState) → AreUsed (dpc_asks s part o by q x)
dpc_used s ThreadedPart o by q x = (refl, tt)
dpc_used s OrdinaryPart o by q x =
    used_if (insert_asks o.importance (q.0 == by.0) (nat_lt (depth_limit s) (depth_of x.pending + 1)) x.idle) q 2 refl

-- a requested level is a used class
requested_used : (level : ℕ) → is_requested_level level ≡ true → is_used_class level ≡ true
requested_used level h = go (nat_le 3 level) (nat_le level 11) (level == 14) refl h
  where
    go : (a b c : Bool) → nat_le level 11 ≡ b → ((a && b) || c) ≡ true → (b || ((level == 12) || ((level == 13) || c))) ≡ true
    go a true c e k = refl
    go true false c e k = or_right (level == 12) _ (or_right (level == 13) c k)
      where
        or_right : (x y : Bool) → y ≡ true → (x || y) ≡ true
        or_right true y q = refl
        or_right false y q = q
    go false false c e k = or_right (level == 12) _ (or_right (level == 13) c k)
      where
        or_right : (x y : Bool) → y ≡ true → (x || y) ≡ true
        or_right true y q = refl
        or_right false y q = q

-- what spinning processors are asked for is of used classes
spinners_used : (n : ℕ) (xs : List Bool) → AreUsed (spinner_asks n xs)
spinners_used n [] = tt
spinners_used n (b ∷ xs) = used_both (ask_if b (cpu n) 12) (spinner_asks (suc n) xs) (used_if b (cpu n) 12 refl) (spinners_used (suc n) xs)

-- what a command that fits asks for is of used classes
command_used : (s : Script) (st : Stand) (c : Command) (y : Reply) (l : Lanes) → command_fits s c ≡ true → AreUsed (command_asks s st c y l)
command_used s st (Queue d) Yes l h = dpc_used s (part_of s d) (object_at l d) st.cpu (queue_for (object_at l d).target st.cpu)
    (queue_at l (queue_for (object_at l d).target st.cpu))
command_used s st (InsertApc a) Yes l h =
    used_both (ask_if (is_kernel_kind (kind_of s a)) (cpu_of s (owner_of s a)) 1)
    (ask_if (ends_by_apc (new_pick s a 0) (facts_at l (owner_of s a))) (cpu_of s (owner_of s a)) 2)
    (used_if (is_kernel_kind (kind_of s a)) (cpu_of s (owner_of s a)) 1 refl)
    (used_if (ends_by_apc (new_pick s a 0) (facts_at l (owner_of s a))) (cpu_of s (owner_of s a)) 2 refl)
command_used s st LeaveCrit Done l h = used_if (st.regions.crit == 1) st.cpu 1 refl
command_used s st LeaveGuard Done l h = used_if (st.regions.guard == 1) st.cpu 1 refl
command_used s st (Release t) Yes l h = (refl, tt)
command_used s st (Alert t m) No l h = used_if _ (cpu_of s t) 2 refl
command_used s st (Interrupt q level) Done l h = (requested_used level (both (has_cpu s q) (is_requested_level level) h).1, tt)
command_used s st (Clock units) Done l h = (refl, tt)
command_used s st (Unlock k) Done l h = spinners_used 0 (lock_at l k).spinners
command_used s st c y l h = tt

-- what the end of a body asks for is of used classes
end_used : (st : Stand) (b : Option Body) (l : Lanes) → AreUsed (end_asks st b l)
end_used st (Some (OnApc a NormalApc)) l = (refl, tt)
end_used st (Some (OnBase t)) l = used_if (some_came_to_0 st.regions st.below || has_kernel (facts_of l st.thread).apcs) st.cpu 1 refl
end_used st b l = used_if (some_came_to_0 st.regions st.below) st.cpu 1 refl

-- what an event that fits asks for is of used classes
what_used : (s : Script) (st : Stand) (w : What) (l : Lanes) → what_fits s w ≡ true → AreUsed (what_asks s st w l)
what_used s st (Call f c y) l h = command_used s st c y l h
what_used s st (Fire d Yes) l h = dpc_used s (part_of s d) (object_at l d) st.cpu (queue_for (object_at l d).target st.cpu)
    (queue_at l (queue_for (object_at l d).target st.cpu))
what_used s st (Expire (OfDelay t) from) l h = used_if (ends_by_expiry from (facts_at l t)) (cpu_of s t) 2 refl
what_used s st (Switch t status) l h = used_if (has_kernel (facts_at l t).apcs) st.cpu 1 refl
what_used s st (Normal f) l h = used_if (some_came_to_0 st.regions st.below) st.cpu 1 refl
what_used s st (End f) l h = end_used st st.body l
what_used s st (Free f k) l h = spinners_used 0 (lock_at l k).spinners
what_used s st w l h = tt

-- a class that is asked for in a list of asks of used classes is used
used_among : (p : CpuNo) (c : ℕ) (xs : List Ask) → AreUsed xs → list_any (is_ask p c) xs ≡ true → is_used_class c ≡ true
used_among p c [] h k = cc
used_among p c (a ∷ xs) h k = go (a.cpu.0 == p.0) (a.class == c) refl k (used_among p c xs h.1)
  where
    go : (x y : Bool) → (a.class == c) ≡ y → ((x && y) || list_any (is_ask p c) xs) ≡ true → (list_any (is_ask p c) xs ≡ true → is_used_class c ≡ true) →
        is_used_class c ≡ true
    go true true e q ih = subst (λ (n : ℕ). is_used_class n ≡ true) (eqb-true a.class c e) h.0
    go true false e q ih = ih q
    go false y e q ih = ih q

-- a value that was asked for is of a used class
was_asked_used : (s : Script) (p : CpuNo) (c v : ℕ) (past : List Event) → AllFit s past → was_asked s p c v past ≡ true → is_used_class c ≡ true
was_asked_used s p c v [] h k = cc
was_asked_used s p c v (e ∷ past) h k =
    go (v == length past + 1) (asks s p c e past) refl k (was_asked_used s p c v past h.1)
  where
    go : (x y : Bool) → asks s p c e past ≡ y → ((x && y) || was_asked s p c v past) ≡ true → (was_asked s p c v past ≡ true → is_used_class c ≡ true) →
        is_used_class c ≡ true
    go true true a q ih =
        used_among p c (what_asks s (stand_at s e.cpu past) e.what (lanes_at s past)) (what_used s (stand_at s e.cpu past) e.what (lanes_at s past) h.0.what) a
    go true false a q ih = ih q
    go false y a q ih = ih q

-- the values of a look that is accepted fit
pub rises_fit : (s : Script) (p : CpuNo) (c : ℕ) (vs : List ℕ) (x : Own) (past : List Event) → AllFit s past → good_rises s p c vs x past ≡ true →
    values_fit c vs ≡ true
rises_fit s p c [] x past h k = refl
rises_fit s p c (v ∷ vs) x past h k =
    let parts = both ((v == 0) || (nat_lt (value_at x.seen c) v && was_asked s p c v past)) (good_rises s p (suc c) vs x past) k in
    go (v == 0) (nat_lt (value_at x.seen c) v) (was_asked s p c v past) refl parts.0 (rises_fit s p (suc c) vs x past h parts.1)
  where
    go : (z l w : Bool) → was_asked s p c v past ≡ w → (z || (l && w)) ≡ true → values_fit (suc c) vs ≡ true →
        ((z || is_used_class c) && values_fit (suc c) vs) ≡ true
    go true l w a q more = more
    go false true true a q more = rw (was_asked_used s p c v past h a) more
    go false true false a q more = cc
    go false false w a q more = cc
