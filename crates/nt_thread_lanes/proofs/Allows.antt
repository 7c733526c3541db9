-- What the events that fit ask of the one thread that changes.
use Rattle.std.proofs.Common.{◌≡◌, IfSome, IsSomeAnd, IsTrue, Option, Some, length, refl, subst}
use Rattle.std.proofs.lemmas.Bool.{lt-ltb}
use Rattle.nt_event.specs.declared.commands.Command.TheVariants.{Alert, Delay, InsertApc, Release, RemoveApc, StartWait, TestAlert, Yield}
use Rattle.nt_event.specs.declared.commands.TimerKey.TheVariants.{Delay as OfDelay}
use Rattle.nt_event.specs.declared.events.Begun.TheVariants.{Apc}
use Rattle.nt_event.specs.declared.events.What.{What}
use Rattle.nt_event.specs.declared.events.What.TheVariants.{Begin, Call, Expire, Flush, Gone, Look, Rewait, Switch}
use Rattle.nt_event.specs.declared.jobs.Stand.{Stand}
use Rattle.nt_event.specs.declared.numbers.ThreadNo.{ThreadNo}
use Rattle.nt_event.specs.Routines.{cpu_of, owner_of}
use Rattle.nt_event.specs.Script.{fits, has_thread}
use Rattle.nt_event.specs.Step.{thread_field}
use Rattle.nt_event.specs.Threads.{ThreadFacts}
use Rattle.nt_states.specs.ThreadFits.{CanMake, CanTell, InThread, RunsHere, WhatFits, named_thread}
use Rattle.nt_states.specs.ThreadLanes.{ThreadLanes, facts_in}
use Rattle.nt_thread_lanes.proofs.Numbers.{owner_named}

-- an optional thread is at most one thread
same_thread : (t u : ThreadNo) (o : Option ThreadNo) → o ≡ Some t → o ≡ Some u → t ≡ u
same_thread t u o h k = cc

-- the thread that runs is this one
in_thread : (x : ThreadLanes) (st : Stand) (P : ThreadFacts → Type 0) (t : ThreadNo) → InThread x st P → st.thread ≡ Some t → P (facts_in x t)
in_thread x st P t h runs = subst (λ (o : Option ThreadNo). IsSomeAnd o (λ u. P (facts_in x u))) runs h

-- the thread that makes an event that fits may make it by its facts
pub can_make : (x : ThreadLanes) (st : Stand) (w : What) (t : ThreadNo) → WhatFits x st w → thread_field w st.thread ≡ Some t → CanMake st w (facts_in x t)
can_make x st (Switch u status) t h by =
    let at : u ≡ t = same_thread u t (Some u) refl by in
    subst (λ (v : ThreadNo). CanMake st (Switch u status) (facts_in x v)) at (h.ready, h.ended)
can_make x st (Call f (StartWait m a) y) t h by = in_thread x st (CanMake st (Call f (StartWait m a) y)) t h by
can_make x st (Call f (Delay m a units) y) t h by = in_thread x st (CanMake st (Call f (Delay m a units) y)) t h by
can_make x st (Call f (TestAlert m) y) t h by = in_thread x st (CanMake st (Call f (TestAlert m) y)) t h by
can_make x st (Call f Yield y) t h by = in_thread x st (CanMake st (Call f Yield y)) t h by
can_make x st (Rewait f y) t h by = in_thread x st (CanMake st (Rewait f y)) t h by
can_make x st (Begin (Apc a) from) t h by = in_thread x st (CanMake st (Begin (Apc a) from)) t h by
can_make x st (Flush a from) t h by = in_thread x st (CanMake st (Flush a from)) t h by
can_make x st (Gone u) t h by =
    subst (λ (v : ThreadNo). CanMake st (Gone u) (facts_in x v)) (same_thread u t st.thread h.runs by) h.flushed
can_make x st w t h by = tt

-- the thread that makes the event is one of the script's, and of the processor
pub record MakesHere (x : ThreadLanes) (st : Stand) (t : ThreadNo) : Type 0 where
  pub named : IsTrue (has_thread x.script t)
  pub own : cpu_of x.script t ≡ st.cpu

-- the thread that runs at a stand is one of the script's and of the processor
runs_here : (x : ThreadLanes) (st : Stand) (t : ThreadNo) → IfSome st.thread (RunsHere x st) → st.thread ≡ Some t → MakesHere x st t
runs_here x st t h by =
    let here : RunsHere x st t = subst (λ (o : Option ThreadNo). IfSome o (RunsHere x st)) by h in
    record { named = lt-ltb t.0 (length x.script.threads) here.named; own = here.own }

-- the thread that makes an event that fits is one of the script's and of the event's processor
pub makes_here : (x : ThreadLanes) (st : Stand) (w : What) (t : ThreadNo) → IfSome st.thread (RunsHere x st) → WhatFits x st w → thread_field w st.thread
    ≡ Some t → MakesHere x st t
makes_here x st (Switch u status) t r h by =
    subst (λ (v : ThreadNo). MakesHere x st v) (same_thread u t (Some u) refl by) (record { named = h.named; own = h.own })
makes_here x st (Look rises) t r h by = cc
makes_here x st w t r h by = runs_here x st t r by

-- ---- the thread that the event names

pub record NamesOne (x : ThreadLanes) (w : What) (t : ThreadNo) : Type 0 where
  pub named : IsTrue (has_thread x.script t)
  pub may : CanTell x.script w (facts_in x t)

-- what an event asks of the thread that it names it asks of an equal one
names_same : (x : ThreadLanes) (w : What) (u t : ThreadNo) → NamesOne x w u → Some u ≡ Some t → NamesOne x w t
names_same x w u t h e = subst (λ (v : ThreadNo). NamesOne x w v) (same_thread u t (Some u) refl e) h

-- the thread that an event that fits names is one of the script's, and the reply is as its facts tell
pub names_one : (x : ThreadLanes) (st : Stand) (w : What) (t : ThreadNo) → IsTrue (fits x.script) → WhatFits x st w → named_thread x.script w ≡ Some t →
    NamesOne x w t
names_one x st (Call f (Release u) y) t s h e =
    names_same x (Call f (Release u) y) u t (record { named = h.named; may = h.facts }) e
names_one x st (Call f (Alert u m) y) t s h e =
    names_same x (Call f (Alert u m) y) u t (record { named = h.named; may = h.facts }) e
names_one x st (Call f (InsertApc a) y) t s h e =
    names_same x (Call f (InsertApc a) y) (owner_of x.script a) t (record { named = owner_named x.script a s h.apc; may = h }) e
names_one x st (Call f (RemoveApc a) y) t s h e =
    names_same x (Call f (RemoveApc a) y) (owner_of x.script a) t (record { named = owner_named x.script a s h.apc; may = h }) e
names_one x st (Expire (OfDelay u) from) t s h e =
    names_same x (Expire (OfDelay u) from) u t (record { named = h; may = tt }) e
names_one x st w t s h e = cc
