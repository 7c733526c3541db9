-- Waits: the tests at a wait, and what an event leaves of a thread's facts.
use Rattle.std.specs.Prelude.{Bool, List, None, Option, Some, [], false, if◌then◌else◌, is_some, length, not, true, ℕ}
use Rattle.std.specs.Prelude.{◌&&◌, ◌==◌, ◌∷◌}
use Rattle.nt_event.specs.declared.commands.ApcKind.{ApcKind}
use Rattle.nt_event.specs.declared.commands.ApcKind.TheVariants.{User as UserApc}
use Rattle.nt_event.specs.declared.commands.Mode.{Mode}
use Rattle.nt_event.specs.declared.commands.Mode.TheVariants.{Kernel as KernelMode, User as UserMode}
use Rattle.nt_event.specs.declared.commands.Regions.{Regions}
use Rattle.nt_event.specs.declared.commands.Reply.{Reply}
use Rattle.nt_event.specs.declared.commands.Reply.TheVariants.{Blocked, Done, No, Refused, Spin, Status, Yes}
use Rattle.nt_event.specs.declared.commands.TimerKey.TheVariants as keys
use Rattle.nt_event.specs.declared.events.Begun.TheVariants as begun
use Rattle.nt_event.specs.declared.events.Event.{Event}
use Rattle.nt_event.specs.declared.events.What.{What}
use Rattle.nt_event.specs.declared.events.What.TheVariants as what
use Rattle.nt_event.specs.declared.frames.Again.{Again}
use Rattle.nt_event.specs.declared.frames.Body.{Body}
use Rattle.nt_event.specs.declared.frames.Body.TheVariants as on
use Rattle.nt_event.specs.declared.inserts.Pick.{Pick}
use Rattle.nt_event.specs.declared.jobs.Stand.{Stand}
use Rattle.nt_event.specs.declared.numbers.ApcNo.{ApcNo}
use Rattle.nt_event.specs.declared.numbers.ThreadNo.{ThreadNo}
use Rattle.nt_event.specs.declared.scripts.Script.{Script}
use Rattle.nt_event.specs.declared.threads.Doing.TheVariants.{Blocked as IsBlocked, Gone as IsGone, Ready as IsReady}
use Rattle.nt_event.specs.declared.threads.Doing.TheVariants.{Running as IsRunning}
use Rattle.nt_event.specs.Apcs.{closed_apcs, deliverable, has_user, with_apc, without_apc}
use Rattle.nt_event.specs.Regions.{stand_at}
use Rattle.nt_event.specs.Routines.{cpu_of, is_kernel_kind, kind_of, owner_of}
use Rattle.nt_event.specs.Threads.{ThreadFacts, ended, ends_by_alert, ends_by_apc, ends_by_expiry, ends_by_release}
use Rattle.nt_event.specs.Threads.{is_alerted, is_gone, set_alerted, start_facts}
use Rattle.nt_event.specs.Replies.{alerted, is_answer, is_user, kernel_apc, satisfied, user_apc}
use Rattle.nt_event.specs.Numbers.{is_by, is_of}
use Rattle.nt_event.specs.Families.{AddApc, AlertThread, ApcCall, DelaysIn, GivesWay, OwnCall, ReleaseThread, TakeApc}
use Rattle.nt_event.specs.Families.{TestsAlert, ThreadCall, WaitsIn, by_apc_call, by_own_call, by_thread_call, in_call}
use Rattle.nt_event.specs.Families.{in_expiry}
use Rattle.nt_event.specs.declared.commands.Command.{Command}
use Rattle.nt_event.specs.declared.commands.TimerKey.{TimerKey}
use Rattle.nt_event.specs.Replies.{is_done, is_yes}

-- the wait is satisfied: the released mark is set, and of a delay, its due time is reached (profile)
abbrev pub is_satisfied : ThreadFacts → Option Bool → Bool
is_satisfied x None = x.released
is_satisfied x (Some reached) = reached

-- what a wait answers at this level and in these regions, by the tests in their order; a delay's due time is reached or
-- not (profile: the order, and what is said of the user-pending mark)
abbrev pub wait_reply : ThreadFacts → Regions → ℕ → Mode → Bool → Option Bool → Reply
wait_reply x r level m alertable reached =
    if is_some (deliverable x.apcs r level) then Status kernel_apc else
    if is_satisfied x reached then Status satisfied else
    if alertable && is_alerted m x then Status alerted else
    if alertable && (is_user m && has_user x.apcs) then Status user_apc else
    if alertable && x.alerted_kernel then Status alerted else
    if not alertable && (is_user m && x.user_pending) then Status user_apc else Blocked

-- the alerted flag that ends a wait of this mode is cleared: the one of its mode, else the kernel one
abbrev pub alert_taken : Mode → ThreadFacts → ThreadFacts
alert_taken m x = set_alerted (if is_alerted m x then m else KernelMode) false x

-- what a wait that didn't block leaves, by its status
abbrev pub answered : ℕ → Mode → Bool → Bool → ThreadFacts → ThreadFacts
answered st m alertable delay x =
    if st == satisfied then (if delay then x else record x { released = false }) else
    if st == alerted then alert_taken m x else
    if (st == user_apc) && alertable then record x { user_pending = true } else x

-- what a wait leaves; where it blocks, the wait with its event's number, its level and regions
abbrev pub waited : ℕ → Regions → ℕ → Mode → Bool → Bool → Reply → ThreadFacts → ThreadFacts
waited n r level m alertable delay (Status st) x = answered st m alertable delay x
waited n r level m alertable delay Blocked x =
    record x {
      doing = IsBlocked (record {
        event = n;
        mode = m;
        alertable = alertable;
        delay = delay;
        level = level;
        regions = r;
      });
    }
waited n r level m alertable delay Done x = x
waited n r level m alertable delay Yes x = x
waited n r level m alertable delay No x = x
waited n r level m alertable delay (Refused why) x = x
waited n r level m alertable delay Spin x = x

-- a wait that is taken up again has the mode, kind and due time of its call
abbrev pub waited_again : ℕ → Regions → ℕ → Option Again → Reply → ThreadFacts → ThreadFacts
waited_again n r level None y x = x
waited_again n r level (Some w) y x = waited n r level w.mode w.alertable (is_some w.due) y x

-- testing an alert clears a set flag; where it was clear, for user mode with a user APC pending, the mark is set
-- (driver documentation, "KeTestAlertThread")
abbrev pub alert_tested : Mode → ThreadFacts → ThreadFacts
alert_tested m x =
    if is_alerted m x then set_alerted m false x else
    if is_user m && has_user x.apcs then record x { user_pending = true } else x

-- an APC begins: it is no longer pending, and a user one clears the mark
abbrev pub apc_taken : ApcKind → ApcNo → ThreadFacts → ThreadFacts
apc_taken UserApc a x = record x { user_pending = false; apcs = without_apc a x.apcs }
apc_taken _ a x = record x { apcs = without_apc a x.apcs }

-- at the end of its base routine a thread takes no more APCs
abbrev pub leaving_facts : ThreadFacts → ThreadFacts
leaving_facts x = record x { leaving = true; apcs = closed_apcs x.apcs }

-- the end of a frame: of the base routine, of a user APC with the test of an alert for user mode, or of another one
abbrev pub frame_ended : Option Body → ThreadFacts → ThreadFacts
frame_ended (Some (on.Base t)) x = leaving_facts x
frame_ended (Some (on.Apc a UserApc)) x = alert_tested UserMode x
frame_ended (Some (on.Int level)) x = x
frame_ended (Some (on.Dpc d)) x = x
frame_ended (Some (on.Threaded d)) x = x
frame_ended (Some (on.Apc a kind)) x = x
frame_ended (Some (on.Rundown a)) x = x
frame_ended None x = x

-- ---- events that the thread makes

-- a call about the thread itself
abbrev pub own_facts : ℕ → Stand → OwnCall → Reply → ThreadFacts → ThreadFacts
own_facts n st (WaitsIn m a) y x = waited n st.regions st.level m a false y x
own_facts n st (DelaysIn m a units) y x = waited n st.regions st.level m a true y x
own_facts n st (TestsAlert m) y x = if is_answer y then alert_tested m x else x
own_facts n st GivesWay y x = if is_done y then record x { doing = IsReady st.level None } else x

abbrev pub made_facts : Script → ℕ → Stand → What → ThreadFacts → ThreadFacts
made_facts s n st (what.Call f c y) x = by_own_call (λ k. own_facts n st k y x) x c
made_facts s n st (what.Switch t status) x = record x { doing = IsRunning }
made_facts s n st (what.Rewait f y) x = waited_again n st.regions st.level st.again y x
made_facts s n st (what.Begin (begun.Apc a) from) x = apc_taken (kind_of s a) a x
made_facts s n st (what.End f) x = frame_ended st.body x
made_facts s n st (what.Flush a from) x = record x { apcs = without_apc a x.apcs }
made_facts s n st (what.Gone t) x = record x { doing = IsGone; leaving = false }
made_facts s n st (what.Look r) x = x
made_facts s n st (what.Begin (begun.Int level) from) x = x
made_facts s n st (what.Begin (begun.Dpc d) from) x = x
made_facts s n st (what.Begin (begun.Threaded d) from) x = x
made_facts s n st (what.Normal f) x = x
made_facts s n st (what.Expire key from) x = x
made_facts s n st (what.Fire d y) x = x
made_facts s n st (what.Clean class) x = x
made_facts s n st (what.Free f k) x = x
made_facts s n st what.Rest x = x

-- ---- events that name the thread, whoever makes them

-- a release that ends no wait sets the released mark
abbrev pub release_facts : ThreadFacts → ThreadFacts
release_facts x =
    if ends_by_release x then ended satisfied x else
    if is_gone x then x else record x { released = true }

-- an alert that ends no wait sets the flag
abbrev pub alert_facts : Mode → ThreadFacts → ThreadFacts
alert_facts m x =
    if is_gone x then x else
    if ends_by_alert m x then ended alerted x else set_alerted m true x

-- profile: a user APC that ends a wait sets the mark
abbrev pub insert_facts : Pick → ThreadFacts → ThreadFacts
insert_facts pick x =
    let y : ThreadFacts = record x { apcs = with_apc pick x.apcs } in
    if ends_by_apc pick x then (if is_kernel_kind pick.kind then ended kernel_apc y
    else record (ended user_apc y) { user_pending = true }) else y

abbrev pub expiry_facts : ℕ → ThreadFacts → ThreadFacts
expiry_facts from x = if ends_by_expiry from x then ended satisfied x else x

abbrev pub new_pick : Script → ApcNo → ℕ → Pick
new_pick s a n = record { apc = a; kind = kind_of s a; number = n }

-- a call that names the thread
abbrev pub thread_called : ThreadNo → ThreadCall → Reply → ThreadFacts → ThreadFacts
thread_called t (ReleaseThread u) y x = if is_answer y && (u.0 == t.0) then release_facts x else x
thread_called t (AlertThread u m) y x = if is_answer y && (u.0 == t.0) then alert_facts m x else x

-- a call that names an APC object of the thread
abbrev pub apc_called : Script → ThreadNo → ℕ → ApcCall → Reply → ThreadFacts → ThreadFacts
apc_called s t n (AddApc a) y x =
    if is_yes y && ((owner_of s a).0 == t.0) then insert_facts (new_pick s a n) x else x
apc_called s t n (TakeApc a) y x =
    if is_yes y && ((owner_of s a).0 == t.0) then record x { apcs = without_apc a x.apcs } else x

-- an expiry of the thread's delay
abbrev pub key_expired : ThreadNo → TimerKey → ℕ → ThreadFacts → ThreadFacts
key_expired t (keys.Delay u) from x = if u.0 == t.0 then expiry_facts from x else x
key_expired t (keys.Timer u) from x = x

abbrev pub named_by : Script → ThreadNo → ℕ → Command → Reply → ThreadFacts → ThreadFacts
named_by s t n c y x =
    by_thread_call (λ k. thread_called t k y x) (by_apc_call (λ k. apc_called s t n k y x) x c) c

abbrev pub named_facts : Script → ThreadNo → ℕ → What → ThreadFacts → ThreadFacts
named_facts s t n w x =
    in_call (λ f c y. named_by s t n c y x) (in_expiry (λ key from. key_expired t key from x) x w) w

-- the event is one that the thread makes, on its own processor
abbrev pub is_of_thread : Script → ThreadNo → Event → Bool
is_of_thread s t e = is_of e (cpu_of s t) && is_by e t

-- what the event of this number leaves of a thread's facts, where its processor stood so
abbrev pub facts_after : Script → ThreadNo → ℕ → Stand → Event → ThreadFacts → ThreadFacts
facts_after s t n st e x =
    named_facts s t n e.what (if is_of_thread s t e then made_facts s n st e.what x else x)

abbrev pub facts : Script → ThreadNo → List Event → ThreadFacts
facts s t [] = start_facts
facts s t (e ∷ past) = facts_after s t (length past) (stand_at s e.cpu past) e (facts s t past)
