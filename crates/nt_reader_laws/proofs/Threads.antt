-- In a run what each event leaves of a thread's facts is what its calls leave.
use Rattle.nt_reader_laws.proofs.Says.{known_as}
use Rattle.nt_reader_laws.specs.Apcs.{acts_if}
use Rattle.nt_reader_laws.specs.Threads.{ThreadEventsAreCalls, ThreadHistoriesAreCalls, acts_in, acts_of, again_act, end_acts, facts_left, made_acts}
use Rattle.nt_reader_laws.specs.Threads.{named_acts, wait_of}
use Rattle.nt_event.proofs.Options.{both}
use Rattle.nt_event.specs.Apcs.{takes, without_apc}
use Rattle.nt_event.specs.Commands.{is_reached}
use Rattle.nt_event.specs.Frames.{running, time}
use Rattle.nt_event.specs.Jobs.{rewait_reply}
use Rattle.nt_event.specs.Lanes.{facts_at, facts_of as facts_of_thread, lanes_at}
use Rattle.nt_event.specs.Numbers.{is_by, is_of}
use Rattle.nt_event.specs.Own.{own_of}
use Rattle.nt_event.specs.Regions.{stand_at}
use Rattle.nt_event.specs.Replies.{is_answer, is_refused, yes_if}
use Rattle.nt_event.specs.Routines.{cpu_of, owner_of}
use Rattle.nt_event.specs.Script.{has_thread}
use Rattle.nt_event.specs.Step.{IsRun}
use Rattle.nt_event.specs.Threads.{ThreadFacts}
use Rattle.nt_event.specs.Waits.{alert_facts, alert_tested, expiry_facts, facts, frame_ended, insert_facts, is_of_thread, made_facts, named_facts, new_pick}
use Rattle.nt_event.specs.Waits.{release_facts, wait_reply, waited, waited_again}
use Rattle.nt_event.specs.declared.commands.ApcKind.TheVariants.{User as UserApc}
use Rattle.nt_event.specs.declared.commands.Command.TheVariants.{Alert, Delay, InsertApc, Release, RemoveApc, StartWait, TestAlert, Yield}
use Rattle.nt_event.specs.declared.commands.Mode.{Mode}
use Rattle.nt_event.specs.declared.commands.Refusal.{Refusal}
use Rattle.nt_event.specs.declared.commands.Regions.{Regions}
use Rattle.nt_event.specs.declared.commands.Reply.{Reply}
use Rattle.nt_event.specs.declared.commands.Reply.TheVariants.{Done, Refused, Yes}
use Rattle.nt_event.specs.declared.commands.TimerKey.TheVariants.{Delay as OfDelay}
use Rattle.nt_event.specs.declared.events.Begun.TheVariants.{Apc}
use Rattle.nt_event.specs.declared.events.Event.{Event}
use Rattle.nt_event.specs.declared.events.What.{What}
use Rattle.nt_event.specs.declared.events.What.TheVariants.{Begin, Call, End, Expire, Flush, Gone, Rewait, Switch}
use Rattle.nt_event.specs.declared.frames.Again.{Again}
use Rattle.nt_event.specs.declared.frames.Body.{Body}
use Rattle.nt_event.specs.declared.frames.Body.TheVariants.{Apc as OnApc, Base as OnBase}
use Rattle.nt_event.specs.declared.jobs.Stand.{Stand}
use Rattle.nt_event.specs.declared.numbers.CpuNo.{CpuNo}
use Rattle.nt_event.specs.declared.numbers.ThreadNo.{ThreadNo}
use Rattle.nt_event.specs.declared.scripts.Script.{Script}
use Rattle.nt_runs.proofs.Calm.{ran}
use Rattle.nt_runs.proofs.Known.{KnownCall, KnownRewait, again_known}
use Rattle.nt_runs.proofs.Rundown.Steps.{facts_there}
use Rattle.nt_runs.proofs.Running.{same_cpu}
use Rattle.nt_runs.proofs.Stops.{call_accepted}
use Rattle.nt_runs.proofs.Turns.{is_next}
use Rattle.nt_thread.specs.Runs.{Act, Alerts, EndsDelay, Inserts, Releases, Removes, TestsAlert, Waits, after, facts_of}
use Rattle.std.proofs.Common.{ap, refl, sym, ◌++◌, ◌∙◌}
use Rattle.std.proofs.lemmas.Bool.{eqb-true}
use Rattle.std.specs.Prelude.{Bool, List, None, Option, Some, [], false, if◌then◌else◌, is_some, length, not, option_map, true, ℕ, ◌&&◌, ◌+◌, ◌==◌, ◌∷◌, ◌≡◌}

-- the reply to a wait is the one that its tests give
abbrev WaitsTrue : ThreadFacts → ℕ → Stand → What → Type 0
WaitsTrue x now st (Call f (StartWait m a) y) = is_refused y ≡ false → y ≡ wait_reply x st.regions st.level m a None
WaitsTrue x now st (Call f (Delay m a units) y) = is_refused y ≡ false → y ≡ wait_reply x st.regions st.level m a (Some (is_reached now (now + units)))
WaitsTrue x now st (Rewait f y) = (w : Again) → st.again ≡ Some w → y ≡ wait_reply x st.regions st.level w.mode w.alertable (option_map (is_reached now) w.due)
WaitsTrue x now st w = Unit {0}

-- a reply that the test finds refused is a refusal
refused_is : (y : Reply) → is_refused y ≡ true → (r : Refusal) × (y ≡ Refused r)
refused_is (Refused r) h = (r, refl)
refused_is y h = cc

-- a refused wait leaves the thread's facts as they were
waited_refused : (n : ℕ) (r : Regions) (level : ℕ) (m : Mode) (a delay : Bool) (y : Reply) (x : ThreadFacts) → is_refused y ≡ true →
    waited n r level m a delay y x ≡ x
waited_refused n r level m a delay y x h =
    let k = refused_is y h in ap (λ (z : Reply). waited n r level m a delay z x) k.1

-- a called wait that isn't refused is the call
wait_step : (n : ℕ) (st : Stand) (m : Mode) (a : Bool) (reached : Option Bool) (y : Reply) (x : ThreadFacts) →
    (is_refused y ≡ false → y ≡ wait_reply x st.regions st.level m a reached) → waited n st.regions st.level m a (is_some reached) y x
    ≡ facts_left (acts_if (not (is_refused y)) (Waits (wait_of n st m a reached))) x
wait_step n st m a reached y x h = go (is_refused y) refl
  where
    go : (b : Bool) → is_refused y ≡ b → waited n st.regions st.level m a (is_some reached) y x
        ≡ facts_left (acts_if (not b) (Waits (wait_of n st m a reached))) x
    go true q = waited_refused n st.regions st.level m a (is_some reached) y x q
    go false q = ap (λ (z : Reply). waited n st.regions st.level m a (is_some reached) z x) (h q)

-- a wait begun again with the reply that its tests give leaves what its call leaves
again_step : (n now f : ℕ) (st : Stand) (y : Reply) (x : ThreadFacts) (again : Option Again) →
    ((w : Again) → again ≡ Some w → y ≡ wait_reply x st.regions st.level w.mode w.alertable (option_map (is_reached now) w.due)) →
    waited_again n st.regions st.level again y x ≡ facts_left (again_act n now st again) x
again_step n now f st y x None h = refl
again_step n now f st y x (Some w) h =
    ap (λ (b : Bool). waited n st.regions st.level w.mode w.alertable b y x) (some w.due)
    ∙ ap (λ (z : Reply). waited n st.regions st.level w.mode w.alertable (is_some (option_map (is_reached now) w.due)) z x) (h w refl)
  where
    some : (o : Option ℕ) → is_some o ≡ is_some (option_map (is_reached now) o)
    some None = refl
    some (Some d) = refl

-- an event that a thread makes leaves what its calls leave, if its waits are answered as their tests say
made_step : (s : Script) (n now : ℕ) (st : Stand) (w : What) (x : ThreadFacts) → WaitsTrue x now st w → made_facts s n st w x
    ≡ facts_left (made_acts s n now st w) x
made_step s n now st (Switch u status) x h = refl
made_step s n now st (Call f (StartWait m a) y) x h = wait_step n st m a None y x h
made_step s n now st (Call f (Delay m a units) y) x h = wait_step n st m a (Some (is_reached now (now + units))) y x h
made_step s n now st (Rewait f y) x h = again_step n now f st y x st.again h
made_step s n now st (Call f (TestAlert m) y) x h = go (is_answer y)
  where
    go : (b : Bool) → (if b then alert_tested m x else x) ≡ facts_left (acts_if b (TestsAlert m)) x
    go true = refl
    go false = refl
made_step s n now st (Call f Yield Done) x h = refl
made_step s n now st (Begin (Apc a) from) x h = refl
made_step s n now st (End f) x h = go st.body
  where
    go : (b : Option Body) → frame_ended b x ≡ facts_left (end_acts b) x
    go (Some (OnBase u)) = refl
    go (Some (OnApc a UserApc)) = refl
    go (Some b) = refl
    go None = refl
made_step s n now st (Flush a from) x h = refl
made_step s n now st (Gone u) x h = refl
made_step s n now st w x h = refl

-- an insert that is answered yes is taken
abbrev InsertsTrue : Script → ThreadNo → ThreadFacts → What → Type 0
InsertsTrue s t x (Call f (InsertApc a) Yes) = ((owner_of s a).0 == t.0) ≡ true → takes a x.apcs ≡ true
InsertsTrue s t x w = Unit {0}

-- an event that names a thread leaves what its calls leave, if each APC that it says is inserted is taken
named_step : (s : Script) (t : ThreadNo) (n : ℕ) (w : What) (x : ThreadFacts) → InsertsTrue s t x w → named_facts s t n w x
    ≡ facts_left (named_acts s t n w) x
named_step s t n (Call f (Release u) y) x h = go (is_answer y && (u.0 == t.0))
  where
    go : (b : Bool) → (if b then release_facts x else x) ≡ facts_left (acts_if b Releases) x
    go true = refl
    go false = refl
named_step s t n (Call f (Alert u m) y) x h = go (is_answer y && (u.0 == t.0))
  where
    go : (b : Bool) → (if b then alert_facts m x else x) ≡ facts_left (acts_if b (Alerts m)) x
    go true = refl
    go false = refl
named_step s t n (Call f (InsertApc a) Yes) x h = go ((owner_of s a).0 == t.0) refl
  where
    go : (b : Bool) → ((owner_of s a).0 == t.0) ≡ b → (if b then insert_facts (new_pick s a n) x else x)
        ≡ facts_left (acts_if b (Inserts (new_pick s a n))) x
    go true q = sym (ap (λ (c : Bool). if c then insert_facts (new_pick s a n) x else x) (h q))
    go false q = refl
named_step s t n (Call f (RemoveApc a) Yes) x h = go ((owner_of s a).0 == t.0)
  where
    go : (b : Bool) → (if b then record x { apcs = without_apc a x.apcs } else x) ≡ facts_left (acts_if b (Removes a)) x
    go true = refl
    go false = refl
named_step s t n (Expire (OfDelay u) from) x h = go (u.0 == t.0)
  where
    go : (b : Bool) → (if b then expiry_facts from x else x) ≡ facts_left (acts_if b (EndsDelay from)) x
    go true = refl
    go false = refl
named_step s t n w x h = refl

-- what joined lists of calls leave is what the first list leaves after the second
left-append : (xs ys : List Act) (x : ThreadFacts) → facts_left (xs ++ ys) x ≡ facts_left xs (facts_left ys x)
left-append [] ys x = refl
left-append (act ∷ xs) ys x = ap (after act) (left-append xs ys x)

module _ (s : Script) (limit : ℕ) (t : ThreadNo) (e : Event) (past : List Event) (r : IsRun s limit (e ∷ past)) (has : has_thread s t ≡ true) where
  -- the thread that makes the event runs, where it is no Switch
  runs_here : is_of_thread s t e ≡ true → is_next e.what ≡ true → facts_of_thread (lanes_at s past) (running e.cpu past) ≡ facts s t past
  runs_here b n =
      let parts = both (is_of e (cpu_of s t)) (is_by e t) b in
      let run : running (cpu_of s t) past ≡ Some t = ran s limit (cpu_of s t) t e past parts.0 parts.1 r.0 n in
      let here : running e.cpu past ≡ Some t = ap (λ (p : CpuNo). running p past) (same_cpu e (cpu_of s t) parts.0) ∙ run in
      ap (facts_of_thread (lanes_at s past)) here ∙ facts_there s limit t past has

  waits_true : is_of_thread s t e ≡ true → (w : What) → e.what ≡ w → WaitsTrue (facts s t past) (time past) (stand_at s e.cpu past) w
  waits_true b (Call f (StartWait m a) y) k = λ q.
      let known : KnownCall s e.cpu (own_of s e.cpu past) (lanes_at s past) f (StartWait m a) y = known_as s limit e past r (Call f (StartWait m a) y) k refl in
      (call_accepted s e.cpu (own_of s e.cpu past) (lanes_at s past) f (StartWait m a) y known q).1
      ∙ ap (λ (x : ThreadFacts). wait_reply x (stand_at s e.cpu past).regions (stand_at s e.cpu past).level m a None) (runs_here b (ap is_next k))
  waits_true b (Call f (Delay m a u) y) k = λ q.
      let known : KnownCall s e.cpu (own_of s e.cpu past) (lanes_at s past) f (Delay m a u) y = known_as s limit e past r (Call f (Delay m a u) y) k refl in
      (call_accepted s e.cpu (own_of s e.cpu past) (lanes_at s past) f (Delay m a u) y known q).1
      ∙ ap (λ (x : ThreadFacts). wait_reply x (stand_at s e.cpu past).regions (stand_at s e.cpu past).level m a (Some (is_reached (time past) (time past + u))))
      (runs_here b (ap is_next k))
  waits_true b (Rewait f y) k = λ w q.
      let known : KnownRewait e.cpu (own_of s e.cpu past) (lanes_at s past) f y = known_as s limit e past r (Rewait f y) k refl in
      let told : (stand_at s e.cpu past).again ≡ Some known.wait =
      again_known e.cpu (own_of s e.cpu past) known.frame known.goes_on ∙ known.again in
      let both_of : Some known.wait ≡ Some w = sym told ∙ q in
      let same : known.wait ≡ w = cc in
      known.reply ∙ (ap (λ (v : Again). rewait_reply (stand_at s e.cpu past) (lanes_at s past) v) same
      ∙ ap (λ (x : ThreadFacts).
      wait_reply x (stand_at s e.cpu past).regions (stand_at s e.cpu past).level w.mode w.alertable (option_map (is_reached (time past)) w.due))
      (runs_here b (ap is_next k)))
  waits_true b w k = tt

  inserts_true : (x : ThreadFacts) → x.apcs ≡ (facts s t past).apcs → (w : What) → e.what ≡ w → InsertsTrue s t x w
  inserts_true x kept (Call f (InsertApc a) Yes) k = λ q.
      let known : KnownCall s e.cpu (own_of s e.cpu past) (lanes_at s past) f (InsertApc a) Yes = known_as s limit e past r (Call f (InsertApc a) Yes) k refl in
      let y : Yes ≡ yes_if (takes a (facts_at (lanes_at s past) (owner_of s a)).apcs) =
      (call_accepted s e.cpu (own_of s e.cpu past) (lanes_at s past) f (InsertApc a) Yes known refl).1 in
      let owner : owner_of s a ≡ t = ap (λ (n : ℕ). record { 0 = n }) (eqb-true (owner_of s a).0 t.0 q) in
      let there : facts_at (lanes_at s past) (owner_of s a) ≡ facts s t past = ap (facts_at (lanes_at s past)) owner ∙ facts_there s limit t past has in
      ap (takes a) kept ∙ (ap (λ (z : ThreadFacts). takes a z.apcs) (sym there) ∙ yes_true (takes a (facts_at (lanes_at s past) (owner_of s a)).apcs) y)
    where
      yes_true : (b : Bool) → Yes ≡ yes_if b → b ≡ true
      yes_true true h = refl
      yes_true false h = cc
  inserts_true x kept w k = tt

  made_same : (w : What) → e.what ≡ w → InsertsTrue s t
      (if is_of_thread s t e then made_facts s (length past) (stand_at s e.cpu past) w (facts s t past) else facts s t past) w
  made_same (Call f (InsertApc a) Yes) k =
      inserts_true (if is_of_thread s t e then facts s t past else facts s t past) (plain (is_of_thread s t e)) (Call f (InsertApc a) Yes) k
    where
      plain : (b : Bool) → (if b then facts s t past else facts s t past).apcs ≡ (facts s t past).apcs
      plain true = refl
      plain false = refl
  made_same w k = tt

  event_step : facts s t (e ∷ past) ≡ facts_left (acts_of s t e past) (facts s t past)
  event_step =
      named_step s t (length past) e.what
      (if is_of_thread s t e then made_facts s (length past) (stand_at s e.cpu past) e.what (facts s t past) else facts s t past)
      (made_same e.what refl) ∙ (ap (facts_left (named_acts s t (length past) e.what)) (go (is_of_thread s t e) refl)
      ∙ sym (left-append (named_acts s t (length past) e.what)
      (if is_of_thread s t e then made_acts s (length past) (time past) (stand_at s e.cpu past) e.what else []) (facts s t past)))
    where
      go : (b : Bool) → is_of_thread s t e ≡ b → (if b then made_facts s (length past) (stand_at s e.cpu past) e.what (facts s t past) else facts s t past)
          ≡ facts_left (if b then made_acts s (length past) (time past) (stand_at s e.cpu past) e.what else []) (facts s t past)
      go true q = made_step s (length past) (time past) (stand_at s e.cpu past) e.what (facts s t past) (waits_true q e.what refl)
      go false q = refl

-- in a run each event leaves of a thread's facts what its calls leave
pub thread_calls : ThreadEventsAreCalls
thread_calls s limit t e past r has = event_step s limit t e past r has

-- calls after those from a new thread's facts leave the facts of all calls joined
facts-append : (xs ys : List Act) → facts_left xs (facts_of ys) ≡ facts_of (xs ++ ys)
facts-append [] ys = refl
facts-append (act ∷ xs) ys = ap (after act) (facts-append xs ys)

-- in a run a thread's facts are what all calls of the history leave of a new thread's
pub thread_history : ThreadHistoriesAreCalls
thread_history s limit t [] r has = refl
thread_history s limit t (e ∷ past) r has =
    event_step s limit t e past r has
    ∙ (ap (facts_left (acts_of s t e past)) (thread_history s limit t past r.1 has) ∙ facts-append (acts_of s t e past) (acts_in s t past))
