-- What holds of each class that the events of a fitting history may ask for holds of each class in which a value was asked.
use Rattle.std.proofs.Common.{subst}
use Rattle.std.proofs.lemmas.Bool.{eqb-true}
use Rattle.std.specs.List.{list_any}
use Rattle.std.specs.Prelude.{Bool, List, Option, Some, [], false, length, nat_lt, refl, suc, true, ℕ, ◌&&◌, ◌++◌, ◌+◌, ◌==◌, ◌||◌, ◌∷◌, ◌≡◌}
use Rattle.nt_event.specs.declared.commands.ApcKind.TheVariants.{Normal as NormalApc}
use Rattle.nt_event.specs.declared.commands.Command.{Command}
use Rattle.nt_event.specs.declared.commands.Command.TheVariants.{Alert, Clock, InsertApc, Interrupt, LeaveCrit, LeaveGuard, Queue, Release, Unlock}
use Rattle.nt_event.specs.declared.commands.Reply.{Reply}
use Rattle.nt_event.specs.declared.commands.Reply.TheVariants.{Done, No, Yes}
use Rattle.nt_event.specs.declared.commands.TimerKey.TheVariants.{Delay as OfDelay}
use Rattle.nt_event.specs.declared.events.Event.{Event}
use Rattle.nt_event.specs.declared.events.What.{What}
use Rattle.nt_event.specs.declared.events.What.TheVariants.{Call, End, Expire, Fire, Free, Normal, Switch}
use Rattle.nt_event.specs.declared.frames.Body.{Body}
use Rattle.nt_event.specs.declared.frames.Body.TheVariants.{Apc as OnApc, Base as OnBase}
use Rattle.nt_event.specs.declared.inserts.Part.{Part}
use Rattle.nt_event.specs.declared.inserts.Part.TheVariants.{Ordinary as OrdinaryPart, Threaded as ThreadedPart}
use Rattle.nt_event.specs.declared.jobs.Stand.{Stand}
use Rattle.nt_event.specs.declared.numbers.CpuNo.{CpuNo}
use Rattle.nt_event.specs.declared.numbers.LockNo.{LockNo}
use Rattle.nt_event.specs.declared.scripts.Script.{Script}
use Rattle.nt_event.specs.Apcs.{has_kernel}
use Rattle.nt_event.specs.Classes.{apc_class, clock_class, dispatch_class, is_requested_level, lock_class, threaded_class}
use Rattle.nt_event.specs.Fitting.{what_fits}
use Rattle.nt_event.specs.Lanes.{Lanes, facts_at, facts_of, lanes_at, lock_at, object_at, queue_at}
use Rattle.nt_event.specs.Numbers.{cpu}
use Rattle.nt_event.specs.Objects.{ObjectState, queue_for}
use Rattle.nt_event.specs.Queues.{QueueState, depth_of, insert_asks}
use Rattle.nt_event.specs.Regions.{some_came_to_0, stand_at}
use Rattle.nt_event.specs.Requests.{Ask, ask_if, asks, command_asks, dpc_asks, end_asks, is_ask, spinner_asks, what_asks}
use Rattle.nt_event.specs.Routines.{cpu_of, depth_limit, is_kernel_kind, kind_of, owner_of, part_of}
use Rattle.nt_event.specs.Script.{command_fits, has_cpu, has_lock}
use Rattle.nt_event.specs.Step.{was_asked}
use Rattle.nt_event.specs.Threads.{ends_by_apc, ends_by_expiry}
use Rattle.nt_event.specs.Waits.{new_pick}
use Rattle.nt_event.proofs.Options.{both}
use Rattle.nt_laws.specs.Named.{AllFit}

-- it holds of the classes that events ask for by themselves, of each level that `interrupt` may name, and of that of locks
-- where the script has one
pub record HoldsOfAsked (s : Script) (P : ℕ → Type 0) : Type 0 where
  pub threaded : P threaded_class
  pub apc : P apc_class
  pub dispatch : P dispatch_class
  pub clock : P clock_class
  pub requested : (level : ℕ) → is_requested_level level ≡ true → P level
  pub lock : (k : LockNo) → has_lock s k ≡ true → P lock_class

module _ (s : Script) (P : ℕ → Type 0) (holds : HoldsOfAsked s P) where
  abbrev Each : List Ask → Type 0
  Each [] = Unit {0}
  Each (a ∷ xs) = P a.class × Each xs

  of_if : (b : Bool) (p : CpuNo) (c : ℕ) → P c → Each (ask_if b p c)
  of_if true p c h = (h, tt)
  of_if false p c h = tt

  of_both : (xs ys : List Ask) → Each xs → Each ys → Each (xs ++ ys)
  of_both [] ys h k = k
  of_both (x ∷ xs) ys h k = (h.0, of_both xs ys h.1 k)

  of_dpc : (part : Part) (o : ObjectState) (by q : CpuNo) (x : QueueState) → Each (dpc_asks s part o by q x)
  of_dpc ThreadedPart o by q x = (holds.threaded, tt)
  of_dpc OrdinaryPart o by q x =
      of_if (insert_asks o.importance (q.0 == by.0) (nat_lt (depth_limit s) (depth_of x.pending + 1)) x.idle) q dispatch_class holds.dispatch

  of_spinners : (n : ℕ) (xs : List Bool) → P lock_class → Each (spinner_asks n xs)
  of_spinners n [] h = tt
  of_spinners n (b ∷ xs) h =
      of_both (ask_if b (cpu n) lock_class) (spinner_asks (suc n) xs) (of_if b (cpu n) lock_class h) (of_spinners (suc n) xs h)

  of_command : (st : Stand) (c : Command) (y : Reply) (l : Lanes) → command_fits s c ≡ true → Each (command_asks s st c y l)
  of_command st (Queue d) Yes l h =
      of_dpc (part_of s d) (object_at l d) st.cpu (queue_for (object_at l d).target st.cpu)
      (queue_at l (queue_for (object_at l d).target st.cpu))
  of_command st (InsertApc a) Yes l h =
      of_both (ask_if (is_kernel_kind (kind_of s a)) (cpu_of s (owner_of s a)) apc_class)
      (ask_if (ends_by_apc (new_pick s a 0) (facts_at l (owner_of s a))) (cpu_of s (owner_of s a)) dispatch_class)
      (of_if (is_kernel_kind (kind_of s a)) (cpu_of s (owner_of s a)) apc_class holds.apc)
      (of_if (ends_by_apc (new_pick s a 0) (facts_at l (owner_of s a))) (cpu_of s (owner_of s a)) dispatch_class holds.dispatch)
  of_command st LeaveCrit Done l h = of_if (st.regions.crit == 1) st.cpu apc_class holds.apc
  of_command st LeaveGuard Done l h = of_if (st.regions.guard == 1) st.cpu apc_class holds.apc
  of_command st (Release t) Yes l h = (holds.dispatch, tt)
  of_command st (Alert t m) No l h = of_if _ (cpu_of s t) dispatch_class holds.dispatch
  of_command st (Interrupt q level) Done l h = (holds.requested level (both (has_cpu s q) (is_requested_level level) h).1, tt)
  of_command st (Clock units) Done l h = (holds.clock, tt)
  of_command st (Unlock k) Done l h = of_spinners 0 (lock_at l k).spinners (holds.lock k h)
  of_command st c y l h = tt

  of_end : (st : Stand) (b : Option Body) (l : Lanes) → Each (end_asks st b l)
  of_end st (Some (OnApc a NormalApc)) l = (holds.apc, tt)
  of_end st (Some (OnBase t)) l =
      of_if (some_came_to_0 st.regions st.below || has_kernel (facts_of l st.thread).apcs) st.cpu apc_class holds.apc
  of_end st b l = of_if (some_came_to_0 st.regions st.below) st.cpu apc_class holds.apc

  of_what : (st : Stand) (w : What) (l : Lanes) → what_fits s w ≡ true → Each (what_asks s st w l)
  of_what st (Call f c y) l h = of_command st c y l h
  of_what st (Fire d Yes) l h =
      of_dpc (part_of s d) (object_at l d) st.cpu (queue_for (object_at l d).target st.cpu)
      (queue_at l (queue_for (object_at l d).target st.cpu))
  of_what st (Expire (OfDelay t) from) l h = of_if (ends_by_expiry from (facts_at l t)) (cpu_of s t) dispatch_class holds.dispatch
  of_what st (Switch t status) l h = of_if (has_kernel (facts_at l t).apcs) st.cpu apc_class holds.apc
  of_what st (Normal f) l h = of_if (some_came_to_0 st.regions st.below) st.cpu apc_class holds.apc
  of_what st (End f) l h = of_end st st.body l
  of_what st (Free f k) l h = of_spinners 0 (lock_at l k).spinners (holds.lock k h)
  of_what st w l h = tt

  among : (p : CpuNo) (c : ℕ) (xs : List Ask) → Each xs → list_any (is_ask p c) xs ≡ true → P c
  among p c [] h k = cc
  among p c (a ∷ xs) h k = go (a.cpu.0 == p.0) (a.class == c) refl k (among p c xs h.1)
    where
      go : (x y : Bool) → (a.class == c) ≡ y → ((x && y) || list_any (is_ask p c) xs) ≡ true → (list_any (is_ask p c) xs ≡ true → P c) → P c
      go true true e q ih = subst P (eqb-true a.class c e) h.0
      go true false e q ih = ih q
      go false y e q ih = ih q

  -- so of the class of each value that was asked for
  pub of_asked : (p : CpuNo) (c v : ℕ) (past : List Event) → AllFit s past → was_asked s p c v past ≡ true → P c
  of_asked p c v [] h k = cc
  of_asked p c v (e ∷ past) h k = go (v == length past + 1) (asks s p c e past) refl k (of_asked p c v past h.1)
    where
      go : (x y : Bool) → asks s p c e past ≡ y → ((x && y) || was_asked s p c v past) ≡ true → (was_asked s p c v past ≡ true → P c) → P c
      go true true a q ih =
          among p c (what_asks s (stand_at s e.cpu past) e.what (lanes_at s past)) (of_what (stand_at s e.cpu past) e.what (lanes_at s past) h.0.what) a
      go true false a q ih = ih q
      go false y a q ih = ih q
