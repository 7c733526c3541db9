-- In every run the events that name a thread are calls of its state.
use Rattle.nt_reader_laws.specs.Apcs.{acts_if}
use Rattle.nt_event.specs.Commands.{is_reached}
use Rattle.nt_event.specs.Frames.{time}
use Rattle.nt_event.specs.Regions.{stand_at}
use Rattle.nt_event.specs.Replies.{is_answer, is_refused}
use Rattle.nt_event.specs.Routines.{kind_of, owner_of}
use Rattle.nt_event.specs.Script.{has_thread}
use Rattle.nt_event.specs.Step.{IsRun}
use Rattle.nt_event.specs.Threads.{ThreadFacts}
use Rattle.nt_event.specs.Waits.{facts, is_of_thread, new_pick}
use Rattle.nt_event.specs.declared.commands.ApcKind.TheVariants.{User as UserApc}
use Rattle.nt_event.specs.declared.commands.Command.TheVariants.{Alert, Delay, InsertApc, Release, RemoveApc, StartWait}
use Rattle.nt_event.specs.declared.commands.Command.TheVariants.{TestAlert, Yield}
use Rattle.nt_event.specs.declared.commands.Mode.{Mode}
use Rattle.nt_event.specs.declared.commands.Mode.TheVariants.{User as UserMode}
use Rattle.nt_event.specs.declared.commands.Reply.TheVariants.{Done, Yes}
use Rattle.nt_event.specs.declared.commands.TimerKey.TheVariants.{Delay as OfDelay}
use Rattle.nt_event.specs.declared.events.Begun.TheVariants.{Apc}
use Rattle.nt_event.specs.declared.events.Event.{Event}
use Rattle.nt_event.specs.declared.events.What.{What}
use Rattle.nt_event.specs.declared.events.What.TheVariants.{Begin, Call, End, Expire, Flush, Gone, Rewait, Switch}
use Rattle.nt_event.specs.declared.frames.Again.{Again}
use Rattle.nt_event.specs.declared.frames.Body.{Body}
use Rattle.nt_event.specs.declared.frames.Body.TheVariants.{Apc as OnApc, Base as OnBase}
use Rattle.nt_event.specs.declared.jobs.Stand.{Stand}
use Rattle.nt_event.specs.declared.numbers.ThreadNo.{ThreadNo}
use Rattle.nt_event.specs.declared.scripts.Script.{Script}
use Rattle.nt_thread.specs.Runs.{Act, Alerts, EndsDelay, GivesWay, Goes, Inserts, Leaves, Releases, Removes, Resumes}
use Rattle.nt_thread.specs.Runs.{Takes, TestsAlert, Wait, Waits, after, facts_of}
use Rattle.std.proofs.Common.{◌++◌}
use Rattle.std.specs.Prelude.{Bool, List, None, Option, Some, [], if◌then◌else◌, length, not, option_map, true, ℕ, ◌&&◌}
use Rattle.std.specs.Prelude.{◌+◌, ◌==◌, ◌∷◌, ◌≡◌}

-- the wait of a call, where the processor stands so, with its due time reached or not
abbrev pub wait_of : ℕ → Stand → Mode → Bool → Option Bool → Wait
wait_of n st m a reached =
    record { number = n; mode = m; alertable = a; reached = reached; level = st.level; regions = st.regions }

abbrev pub again_act : ℕ → ℕ → Stand → Option Again → List Act
again_act n now st None = []
again_act n now st (Some w) = Waits (wait_of n st w.mode w.alertable (option_map (is_reached now) w.due)) ∷ []

-- what the end of a frame does: of the base routine, or of a user APC
abbrev pub end_acts : Option Body → List Act
end_acts (Some (OnBase t)) = Leaves ∷ []
end_acts (Some (OnApc a UserApc)) = TestsAlert UserMode ∷ []
end_acts b = []

-- the calls for an event of this number, at this time, that the thread makes where its processor stands so
abbrev pub made_acts : Script → ℕ → ℕ → Stand → What → List Act
made_acts s n now st (Switch t status) = Resumes ∷ []
made_acts s n now st (Call f (StartWait m a) y) = acts_if (not (is_refused y)) (Waits (wait_of n st m a None))
made_acts s n now st (Call f (Delay m a units) y) =
    acts_if (not (is_refused y)) (Waits (wait_of n st m a (Some (is_reached now (now + units)))))
made_acts s n now st (Rewait f y) = again_act n now st st.again
made_acts s n now st (Call f (TestAlert m) y) = acts_if (is_answer y) (TestsAlert m)
made_acts s n now st (Call f Yield Done) = GivesWay st.level ∷ []
made_acts s n now st (Begin (Apc a) from) = Takes (record { apc = a; kind = kind_of s a; number = from }) ∷ []
made_acts s n now st (End f) = end_acts st.body
made_acts s n now st (Flush a from) = Removes a ∷ []
made_acts s n now st (Gone t) = Goes ∷ []
made_acts s n now st w = []

-- the calls for an event of this number that names the thread
abbrev pub named_acts : Script → ThreadNo → ℕ → What → List Act
named_acts s t n (Call f (Release u) y) = acts_if (is_answer y && (u.0 == t.0)) Releases
named_acts s t n (Call f (Alert u m) y) = acts_if (is_answer y && (u.0 == t.0)) (Alerts m)
named_acts s t n (Call f (InsertApc a) Yes) = acts_if ((owner_of s a).0 == t.0) (Inserts (new_pick s a n))
named_acts s t n (Call f (RemoveApc a) Yes) = acts_if ((owner_of s a).0 == t.0) (Removes a)
named_acts s t n (Expire (OfDelay u) from) = acts_if (u.0 == t.0) (EndsDelay from)
named_acts s t n w = []

-- the calls for an event, the last first
abbrev pub acts_of : Script → ThreadNo → Event → List Event → List Act
acts_of s t e past = named_acts s t (length past) e.what ++
    (if is_of_thread s t e then made_acts s (length past) (time past) (stand_at s e.cpu past) e.what else [])

abbrev pub acts_in : Script → ThreadNo → List Event → List Act
acts_in s t [] = []
acts_in s t (e ∷ past) = acts_of s t e past ++ acts_in s t past

abbrev pub facts_left : List Act → ThreadFacts → ThreadFacts
facts_left [] x = x
facts_left (act ∷ acts) x = after act (facts_left acts x)

-- in a run, what each event leaves of the facts of a thread of the script is what its calls leave. (It would refuse a
-- call that the machine makes without an event, or an event that calls another thread.)
abbrev pub ThreadEventsAreCalls : Type 0
ThreadEventsAreCalls = (s : Script) (limit : ℕ) (t : ThreadNo) (e : Event) (past : List Event) →
    IsRun s limit (e ∷ past) → has_thread s t ≡ true →
    facts s t (e ∷ past) ≡ facts_left (acts_of s t e past) (facts s t past)

-- so its facts are what all calls of the history leave, on the state of a new thread
abbrev pub ThreadHistoriesAreCalls : Type 0
ThreadHistoriesAreCalls = (s : Script) (limit : ℕ) (t : ThreadNo) (past : List Event) → IsRun s limit past →
    has_thread s t ≡ true → facts s t past ≡ facts_of (acts_in s t past)
