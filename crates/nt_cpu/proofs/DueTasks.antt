-- What holds of the task that a processor has to do next.
use Rattle.std.proofs.Common.{ap, arith, ◌∙◌, ◌∷◌, [], List}
use Rattle.std.proofs.lemmas.Bool.Decides.{nat_tests}
use Rattle.std.specs.Option.{option_map_or, option_or}
use Rattle.std.specs.Prelude.{Bool, IfSome, IsTrue, None, Option, Some, false, find, if◌then◌else◌, is_none, is_some, not, option_and_then, option_map, refl}
use Rattle.std.specs.Prelude.{true, ℕ, ◌&&◌, ◌-◌, ◌<◌, ◌||◌, ◌≡◌}
use Rattle.nt_event.specs.declared.commands.ApcKind.TheVariants.{User as UserApc}
use Rattle.nt_event.specs.declared.commands.Command.{Command}
use Rattle.nt_event.specs.declared.commands.Command.TheVariants.{Acquire, Delay, Interrupt, LeaveCrit, LeaveGuard, StartWait, ToUser}
use Rattle.nt_event.specs.declared.commands.Refusal.{Refusal}
use Rattle.nt_event.specs.declared.commands.Reply.{Reply}
use Rattle.nt_event.specs.declared.commands.Reply.TheVariants.{Done, Refused}
use Rattle.nt_event.specs.declared.events.Begun.TheVariants.{Int}
use Rattle.nt_event.specs.declared.events.What.TheVariants.{Begin, Call}
use Rattle.nt_event.specs.declared.frames.Body.{Body}
use Rattle.nt_event.specs.declared.frames.Body.TheVariants.{Apc as OnApc, Base as OnBase}
use Rattle.nt_event.specs.declared.frames.Held.{Held}
use Rattle.nt_event.specs.Frame.{Frame}
use Rattle.nt_event.specs.declared.jobs.Job.TheVariants.{Apcs as ApcsJob, Call as CallJob, Drain as DrainJob, Fire as FireJob, Free as FreeJob}
use Rattle.nt_event.specs.declared.jobs.Job.TheVariants.{Rundown as RundownJob}
use Rattle.nt_event.specs.declared.jobs.Stand.{Stand}
use Rattle.nt_event.specs.declared.jobs.Task.{Task}
use Rattle.nt_event.specs.declared.jobs.Task.TheVariants.{Alone, Shared}
use Rattle.nt_event.specs.declared.numbers.CpuNo.{CpuNo}
use Rattle.nt_event.specs.declared.numbers.DpcNo.{DpcNo}
use Rattle.nt_event.specs.declared.scripts.Script.{Script}
use Rattle.nt_event.specs.Commands.{needs_lane, refusal}
use Rattle.nt_event.specs.Frames.{Frames, innermost, thread_part}
use Rattle.nt_event.specs.Jobs.{call_task, command_task, end_task, fire_task, frame_task, free_task, go_on_task, has_normal, idle_task, interrupt_task, is_due}
use Rattle.nt_event.specs.Jobs.{level_at, may_apcs, may_drain, may_interrupt, may_threaded, must_task, normal_task, rewait_task, rundown_task, task}
use Rattle.nt_event.specs.Jobs.{waits_for_lock}
use Rattle.nt_event.specs.Classes.{interrupt_classes, is_requested_level, lock_class}
use Rattle.nt_event.specs.Own.{Own, stand_in}
use Rattle.nt_event.specs.Regions.{regions_of}
use Rattle.nt_event.specs.Routines.{next_command}
use Rattle.nt_event.specs.Script.{command_fits, has_cpu, has_dpc}
use Rattle.nt_event.specs.Lists.{head_of, is_null, value_at, when}
use Rattle.nt_event.specs.Replies.{is_refused}
use Rattle.nt_event.proofs.Options.{Holds, both, holds_map, holds_or, holds_then, holds_when}
use Rattle.nt_frame.specs.Rules.{refusal_in}
use Rattle.nt_frame.proofs.Tasks.{int_may_begin, leaving_here, normal_here, refusal_here}
use Rattle.nt_cpu.specs.Alone.{ask_when, call_asks}
use Rattle.nt_cpu.specs.GoodTasks.{GoodTask}
use Rattle.nt_cpu.specs.Fits.{IsAt, lock_below, may_call, may_reply}
use Rattle.nt_cpu.specs.Sound.{AreBelow, IsSound}
use Rattle.nt_cpu.specs.States.{CpuState}
use Rattle.nt_cpu.proofs.Taken.{innermost_small}
use Rattle.nt_runs.proofs.Declared.{next_fits}

-- ---- what an event that touches no lane asks for

-- a conditional request of a processor for itself names a processor of the script
asks_own : (c : CpuState) (b : Bool) (k : ℕ) → IsSound c → IfSome (ask_when b c.cpu k) (λ a. a.cpu.0 < c.script.cpus)
asks_own c true k h = let p = h.cpu in grind (arith, nat_tests)
asks_own c false k h = tt

-- a refused call asks for nothing
refused_asks : (st : Stand) (k : Command) (r : Refusal) → call_asks st k (Refused r) ≡ None
refused_asks st LeaveCrit r = refl
refused_asks st LeaveGuard r = refl
refused_asks st (Interrupt q l) r = refl
refused_asks st _ r = refl

-- the request of a done call that fits the script names a processor of the script
asks_called : (c : CpuState) (k : Command) → IsSound c → command_fits c.script k ≡ true →
    IfSome (call_asks (stand_in c.cpu c.own) k Done) (λ a. a.cpu.0 < c.script.cpus)
asks_called c LeaveCrit h f = asks_own c _ 1 h
asks_called c LeaveGuard h f = asks_own c _ 1 h
asks_called c (Interrupt q l) h f =
    let p = (both (has_cpu c.script q) (is_requested_level l) f).0 in grind (arith, nat_tests)
asks_called c _ h f = tt

-- ---- the cases

-- the innermost frame of a processor is there under its name
at_frame : (f : Frame) (c : CpuState) → innermost c.own.frames ≡ Some f → IsAt f.name c.own.frames
at_frame f c k = record { frame = f; is = k; name = refl }

-- a command that needs no lane may reply that it is done
reply_done : (k : Command) → needs_lane k ≡ false → may_reply k Done ≡ true
reply_done (StartWait m a) h = absurd cc
reply_done (Delay m a u) h = absurd cc
reply_done _ h = refl

-- a command that is not refused may be called with each reply that it may have
pub accepted_call : (k : Command) (y : Reply) (x : Frames) → refusal_in k x ≡ None → may_reply k y ≡ true → may_call k y x ≡ true
accepted_call k y x a r = go (is_refused y)
  where
    go : (b : Bool) → (b || (is_none (refusal_in k x) && may_reply k y)) ≡ true
    go true = refl
    go false = rw (a, r) refl

-- a command that needs no lane passes the test for touching none
lane_free : (k : Command) → needs_lane k ≡ false → (not (needs_lane k) && true) ≡ true
lane_free k h = rw h refl

-- a command that fits acquires a lock of the script
pub own_lock : (s : Script) (k : Command) → command_fits s k ≡ true → lock_below s.locks k ≡ true
own_lock s (Acquire l) h = h
own_lock s _ h = refl

-- the task of a call is good if its command fits and is refused as the frames say
call_good : (c : CpuState) (f : Frame) (k : Command) (r : Option Refusal) → IsSound c → innermost c.own.frames ≡ Some f → refusal_in k c.own.frames ≡ r →
    command_fits c.script k ≡ true → GoodTask c (call_task f k r)
call_good c f k (Some r) h i e q = record {
  alone = refl;
  allow = (at_frame f c i, refl, own_lock c.script k q);
  asks = rw (refused_asks (stand_in c.cpu c.own) k r) tt;
}
call_good c f ToUser None h i e q = record { frame = f; is = i; accepted = e; fits = q }
call_good c f k None h i e q = go (needs_lane k) refl
  where
    go : (b : Bool) → needs_lane k ≡ b → GoodTask c (if b then Shared (CallJob k) else Alone (Call f.name k Done))
    go true n = record { frame = f; is = i; accepted = e; fits = q }
    go false n = record {
      alone = lane_free k n;
      allow = (at_frame f c i, accepted_call k Done c.own.frames e (reply_done k n), own_lock c.script k q);
      asks = asks_called c k h q;
    }

-- the task of the next command of the innermost frame is good
command_good : (c : CpuState) (f : Frame) → IsSound c → innermost c.own.frames ≡ Some f →
    Holds (GoodTask c) (command_task c.own f (next_command c.script c.cpu f))
command_good c f h i = go (next_command c.script c.cpu f) refl
  where
    go : (o : Option Command) → next_command c.script c.cpu f ≡ o → Holds (GoodTask c) (command_task c.own f o)
    go None e = tt
    go (Some k) e =
        call_good c f k (refusal (level_at c.own) (not (is_null c.own.frames.own)) (regions_of (thread_part c.own.frames)) f k) h i
        (refusal_here k f c.own.frames i) (next_fits c.script c.cpu f k h.script e)

-- the task that ends the innermost frame is good, if the frame is not of a leaving thread
end_good : (c : CpuState) (f : Frame) → IsSound c → innermost c.own.frames ≡ Some f → f.leaving ≡ false → GoodTask c (end_task f.name f.body)
end_good c f h i l = go f.body refl
  where
    go : (b : Body) → f.body ≡ b → GoodTask c (end_task f.name b)
    go (OnBase t) e = record { frame = f; is = i; leaving = l }
    go (OnApc a UserApc) e = record { frame = f; is = i; leaving = l }
    go _ e = record {
      alone = rw (i, e) refl;
      allow = (at_frame f c i, leaving_here f c.own.frames i ∙ l);
      asks = asks_own c _ 1 h;
    }

-- the lock that is held last is one of the script
free_good : (c : CpuState) (f : Frame) → IsSound c → innermost c.own.frames ≡ Some f → Holds (GoodTask c) (free_task f)
free_good c f h i = go f.held (innermost_small c.script.locks c.own.made c.own.frames f h.small i).held
  where
    go : (hs : List Held) → AreBelow c.script.locks hs → Holds (GoodTask c) (option_map (λ h. Shared (FreeJob h.lock)) (head_of hs))
    go [] b = tt
    go (x ∷ xs) b = let l = b.0 in record { frame = f; is = i; fits = grind (arith, nat_tests) }

-- the task of the innermost frame is good
frame_good : (c : CpuState) (f : Frame) → IsSound c → innermost c.own.frames ≡ Some f → Holds (GoodTask c) (frame_task c.script c.cpu c.own f)
frame_good c f h i =
    holds_or (GoodTask c) (rewait_task f) _ (holds_when (GoodTask c) (is_some f.again) _ (λ a. record { frame = f; is = i; again = a }))
    (λ _. holds_or (GoodTask c) (rundown_task f) _ (holds_when (GoodTask c) f.leaving _ (λ a. leaving_here f c.own.frames i ∙ a))
    (λ l. holds_or (GoodTask c) (command_task c.own f (next_command c.script c.cpu f)) _ (command_good c f h i)
    (λ _. holds_or (GoodTask c) (free_task f) _ (free_good c f h i)
    (λ _. holds_or (GoodTask c) (normal_task f) _ (holds_when (GoodTask c) (f.kernel_phase && has_normal f.body) _
    (λ a. record { alone = refl; allow = (at_frame f c i, normal_here f c.own.frames i ∙ a); asks = asks_own c _ 1 h }))
    (λ _. end_good c f h i (stays f.leaving l))))))
  where
    stays : (b : Bool) → when b (Some (Shared RundownJob)) ≡ None → b ≡ false
    stays true e = absurd cc
    stays false e = refl

-- the task of an interrupt is good
interrupt_good : (c : CpuState) → Holds (GoodTask c) (interrupt_task c.own)
interrupt_good c =
    holds_map (GoodTask c) (λ k. Alone (Begin (Int k) (value_at c.own.seen k - 1))) (find (may_interrupt c.own) interrupt_classes)
    (λ k e. record { alone = refl; allow = int_may_begin c.own k e; asks = tt })

-- the task that a processor must do first is good
must_good : (c : CpuState) → IsSound c → Holds (GoodTask c) (must_task c.own)
must_good c h =
    holds_or (GoodTask c) (fire_task c.own) _ (fired c.own.fire h.fire)
    (λ _. holds_or (GoodTask c) (interrupt_task c.own) _ (interrupt_good c)
    (λ _. holds_or (GoodTask c) (when (may_drain c.own) (Some (Shared DrainJob))) _ (holds_when (GoodTask c) (may_drain c.own) _ (λ a. a))
    (λ _. holds_or (GoodTask c) (when (may_apcs c.own) (Some (Shared ApcsJob))) _ (holds_when (GoodTask c) (may_apcs c.own) _ (λ a. a))
    (λ _. holds_when (GoodTask c) (may_threaded c.own) _ (λ a. a)))))
  where
    fired : (o : Option DpcNo) → IfSome o (λ d. IsTrue (has_dpc c.script d)) → Holds (GoodTask c) (option_map (λ d. Shared (FireJob d)) o)
    fired None k = tt
    fired (Some d) k = k

-- each frame has a task
frame_has : (a b k l d : Option Task) (e : Task) → option_or a (option_or b (option_or k (option_or l (option_or d (Some e))))) ≡ None → ⊥
frame_has None None None None None e h = cc
frame_has None None None None (Some x) e h = cc
frame_has None None None (Some x) d e h = cc
frame_has None None (Some x) l d e h = cc
frame_has None (Some x) k l d e h = cc
frame_has (Some x) b k l d e h = cc

-- if the innermost frame gives no task, there is no innermost frame
pub no_frame : (c : CpuState) → option_and_then (frame_task c.script c.cpu c.own) (innermost c.own.frames) ≡ None → innermost c.own.frames ≡ None
no_frame c = go (innermost c.own.frames)
  where
    go : (o : Option Frame) → option_and_then (frame_task c.script c.cpu c.own) o ≡ None → o ≡ None
    go None e = refl
    go (Some f) e =
        absurd (frame_has (rewait_task f) (rundown_task f) (command_task c.own f (next_command c.script c.cpu f)) (free_task f) (normal_task f)
        (end_task f.name f.body) e)

-- the task that a sound processor has to do next, if any, is one that its frames allow
pub task_good : (c : CpuState) → IsSound c → Holds (GoodTask c) (task c.script c.cpu c.own)
task_good c h =
    holds_or (GoodTask c) (must_task c.own) _ (must_good c h)
    (λ _. holds_when (GoodTask c) (not (waits_for_lock c.own)) (go_on_task c.script c.cpu c.own)
    (λ _. holds_or (GoodTask c) (option_and_then (frame_task c.script c.cpu c.own) (innermost c.own.frames)) _
    (holds_then (GoodTask c) (frame_task c.script c.cpu c.own) (innermost c.own.frames) (λ f i. frame_good c f h i))
    (λ e. holds_when (GoodTask c) (not (c.own.rested && is_none c.own.frames.running)) _ (λ _. no_frame c e))))

-- an option after the task of a frame is never looked at
or_frame : (a b k l d : Option Task) (e : Task) (o : Option Task) →
    option_or (option_or a (option_or b (option_or k (option_or l (option_or d (Some e)))))) o
    ≡ option_or a (option_or b (option_or k (option_or l (option_or d (Some e)))))
or_frame None None None None None e o = refl
or_frame None None None None (Some x) e o = refl
or_frame None None None (Some x) d e o = refl
or_frame None None (Some x) l d e o = refl
or_frame None (Some x) k l d e o = refl
or_frame (Some x) b k l d e o = refl

-- a frame that waits for a lock has nothing to do
pub task_of_waiting : (s : Script) (p : CpuNo) (x : Own) → must_task x ≡ None → waits_for_lock x ≡ true → task s p x ≡ None
task_of_waiting s p x m w = ap (λ (o : Option Task). option_or o (when (not (waits_for_lock x)) (go_on_task s p x))) m
    ∙ ap (λ (b : Bool). when (not b) (go_on_task s p x)) w

-- where nothing must be done, and no lock is waited for, what goes on is next
pub task_goes_on : (s : Script) (p : CpuNo) (x : Own) → must_task x ≡ None → waits_for_lock x ≡ false → task s p x ≡ go_on_task s p x
task_goes_on s p x m w = ap (λ (o : Option Task). option_or o (when (not (waits_for_lock x)) (go_on_task s p x))) m
    ∙ ap (λ (b : Bool). when (not b) (go_on_task s p x)) w

-- so the innermost frame says what is next
pub task_of_frame : (s : Script) (p : CpuNo) (x : Own) (f : Frame) → must_task x ≡ None → waits_for_lock x ≡ false → innermost x.frames ≡ Some f →
    task s p x ≡ frame_task s p x f
task_of_frame s p x f m w i =
    task_goes_on s p x m w
    ∙ ap (λ (o : Option Frame). option_or (option_and_then (frame_task s p x) o) (idle_task x)) i
    ∙ or_frame (rewait_task f) (rundown_task f) (command_task x f (next_command s p f)) (free_task f) (normal_task f) (end_task f.name f.body) (idle_task x)

-- where nothing must be done and there is no frame, the processor rests or seeks something to do
pub task_of_none : (s : Script) (p : CpuNo) (x : Own) → must_task x ≡ None → innermost x.frames ≡ None → task s p x ≡ idle_task x
task_of_none s p x m i =
    let w : waits_for_lock x ≡ false = ap (λ (o : Option Frame). option_map_or (λ f. is_some f.spin) o false && not (is_due x lock_class)) i in
    task_goes_on s p x m w ∙ ap (λ (o : Option Frame). option_or (option_and_then (frame_task s p x) o) (idle_task x)) i

-- the innermost frame waits for a lock, or doesn't
pub waits_here : (x : Own) (f : Frame) (b : Bool) → innermost x.frames ≡ Some f → (is_some f.spin && not (is_due x lock_class)) ≡ b → waits_for_lock x ≡ b
waits_here x f b i h =
    ap (λ (o : Option Frame). option_map_or (λ g. is_some g.spin) o false && not (is_due x lock_class)) i ∙ h

-- an optional value that is not present is none
pub none_of : {A : Type 0} (o : Option A) → is_some o ≡ false → o ≡ None
none_of None h = refl
none_of (Some x) h = absurd cc
