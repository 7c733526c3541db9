-- In a run a leaving base frame is at PASSIVE_LEVEL, and a frame with a wait to take up at APC_LEVEL or below.
use Rattle.std.proofs.Common.{ap, arith, inl, inr, subst, sym, ◌∙◌}
use Rattle.std.proofs.lemmas.Bool.{eqb-true, ltb-false}
use Rattle.std.specs.Option.{option_map_or, option_or}
use Rattle.std.specs.Prelude.{Bool, List, None, Option, Some, [], false, if◌then◌else◌, is_some, length, nat_lt, not, refl, true, ℕ, ◌==◌, ◌∷◌, ◌≡◌, ◌≤◌, ◌⊎◌}
use Rattle.nt_event.specs.declared.commands.Command.{Command}
use Rattle.nt_event.specs.declared.commands.Command.TheVariants.{Delay, StartWait}
use Rattle.nt_event.specs.declared.commands.Refusal.{Refusal}
use Rattle.nt_event.specs.declared.commands.Refusal.TheVariants.{NotThread, TooHigh}
use Rattle.nt_event.specs.declared.commands.Regions.{Regions}
use Rattle.nt_event.specs.declared.commands.Reply.{Reply}
use Rattle.nt_event.specs.declared.commands.Reply.TheVariants.{Status}
use Rattle.nt_event.specs.declared.events.Begun.TheVariants.{Apc}
use Rattle.nt_event.specs.declared.events.Event.{Event}
use Rattle.nt_event.specs.declared.events.What.{What}
use Rattle.nt_event.specs.declared.events.What.TheVariants.{Begin, Call, End, Flush, Free, Gone, Look, Normal, Rewait, Switch}
use Rattle.nt_event.specs.declared.frames.Again.{Again}
use Rattle.nt_event.specs.Frame.{Frame}
use Rattle.nt_event.specs.declared.numbers.ApcNo.{ApcNo}
use Rattle.nt_event.specs.declared.numbers.CpuNo.{CpuNo}
use Rattle.nt_event.specs.declared.numbers.RoutineNo.{RoutineNo}
use Rattle.nt_event.specs.declared.numbers.ThreadNo.{ThreadNo}
use Rattle.nt_event.specs.declared.scripts.Script.{Script}
use Rattle.nt_event.specs.Commands.{not_above, refusal, refuse}
use Rattle.nt_event.specs.Frames.{again_after, at_name, called, due_of, end_on_thread, ended_base, flushed, frames_of, freed, innermost, is_base_body}
use Rattle.nt_event.specs.Frames.{normal_of, resumed, rewaited, running, switched_to, thread_after, thread_frames, thread_part, time}
use Rattle.nt_event.specs.Jobs.{level_at}
use Rattle.nt_event.specs.Lanes.{Lanes, lanes_at}
use Rattle.nt_runs.specs.Laws.{level_of}
use Rattle.nt_event.specs.Own.{Own, own_of}
use Rattle.nt_event.specs.Regions.{regions_of}
use Rattle.nt_event.specs.Routines.{rundown_of}
use Rattle.nt_event.specs.Step.{IsLegal, IsRun, thread_field}
use Rattle.nt_event.specs.Lists.{head_of, is_null}
use Rattle.nt_event.specs.Numbers.{is_by, is_of}
use Rattle.nt_event.specs.Replies.{is_refused, kernel_apc}
use Rattle.nt_runs.proofs.Known.{Known, KnownCall, KnownFree, legal_known}
use Rattle.nt_runs.proofs.Names.{Apart, Named, all_named}
use Rattle.nt_runs.proofs.Running.{called_leaving, frames_when, part_of_running, running_here, same_cpu, same_thread, thread_named}
use Rattle.nt_runs.proofs.Stops.{call_accepted, effect_again, is_wait, refuse_none}
use Rattle.nt_runs.proofs.Turns.{is_next}
use Rattle.nt_event.specs.declared.numbers.LockNo.{LockNo}

abbrev pub Calm : Frame → Type 0
Calm f = (f.leaving ≡ true → f.level ≡ 0) × (is_some f.again ≡ true → f.level ≤ 1)

abbrev pub AllCalm : List Frame → Type 0
AllCalm [] = Unit {0}
AllCalm (f ∷ fs) = Calm f × AllCalm fs

-- false isn't true, so anything follows (for calm frames)
no_bool : {A : Type 0} → false ≡ true → A
no_bool h = cc

-- where a wait is to be taken up after a reply, it was to be taken up before
again_some : (y : Reply) (o : Option Again) → is_some (again_after y o o) ≡ true → is_some o ≡ true
again_some (Status st) o h = go (st == kernel_apc) h
  where
    go : (b : Bool) → is_some (if b then o else None) ≡ true → is_some o ≡ true
    go true h = h
    go false h = cc
again_some y o h = h

-- a frame that comes back from a wait stays calm
resumed_calm : (st : Option ℕ) (f : Frame) → Calm f → Calm (resumed st f)
resumed_calm None f h = h
resumed_calm (Some x) f h = (h.0, λ k. h.1 (again_some (Status x) f.again k))

-- a frame that took up its wait again stays calm
rewaited_calm : (y : Reply) (f : Frame) → Calm f → Calm (rewaited y f)
rewaited_calm y f h = (h.0, λ k. h.1 (again_some y f.again k))

-- a change by name that keeps each frame calm keeps all calm
named_calm : (n : ℕ) (g : Frame → Frame) (fs : List Frame) → ((f : Frame) → Calm f → Calm (g f)) → AllCalm fs → AllCalm (at_name n g fs)
named_calm n g [] k h = h
named_calm n g (f ∷ fs) k h = (go (f.name == n), h.1)
  where
    go : (b : Bool) → Calm (if b then g f else f)
    go true = k f h.0
    go false = h.0

-- the end of the innermost frame of a thread leaves all frames calm
end_calm : (n : ℕ) (fs : List Frame) → AllCalm fs → AllCalm (end_on_thread n fs)
end_calm n [] h = h
end_calm n (f ∷ fs) h = go (f.name == n) (is_base_body f.body)
  where
    go : (b c : Bool) → AllCalm (if b then (if c then (ended_base f ∷ fs) else fs) else (f ∷ fs))
    go true true = ((λ k. refl, λ k. omega arith), h.1)
    go true false = h.1
    go false c = h

-- a flushed APC leaves all frames calm, with its rundown routine or without
flushed_calm : (n : ℕ) (a : ApcNo) (o : Option RoutineNo) (fs : List Frame) → AllCalm fs → AllCalm (flushed n a o fs)
flushed_calm n a None fs h = h
flushed_calm n a (Some r) fs h = ((λ k. no_bool k, λ k. no_bool k), h)

-- a switch to a thread leaves all its frames calm
switched_calm : (n : ℕ) (t : ThreadNo) (st : Option ℕ) (fs : List Frame) → AllCalm fs → AllCalm (switched_to n t st fs)
switched_calm n t st [] h = ((λ k. no_bool k, λ k. no_bool k), tt)
switched_calm n t st (f ∷ fs) h = (resumed_calm st f h.0, h.1)

-- ---- calls

-- where a chain of tests refuses nothing, the tests after the first refuse nothing
pub next_test : (b : Bool) (r : Refusal) (o : Option Refusal) → refuse b r o ≡ None → o ≡ None
next_test true r o h = cc
next_test false r o h = h

-- where the test of the level refuses nothing, the level is at most its bound
pub not_above_gives : (n level : ℕ) → not_above n level None ≡ None → level ≤ n
not_above_gives n level h = ltb-false n level (refuse_none (nat_lt n level) TooHigh None h)

-- an accepted wait is called at APC_LEVEL or below
pub wait_low : (level : ℕ) (own : Bool) (r : Regions) (f : Frame) (c : Command) → is_wait c ≡ true → refusal level own r f c ≡ None → level ≤ 1
wait_low level own r f (StartWait m a) k h = not_above_gives 1 level (next_test own NotThread _ h)
wait_low level own r f (Delay m a u) k h = not_above_gives 1 level (next_test own NotThread _ h)
wait_low level own r f c k h = cc

-- the level of a processor with an innermost frame is that frame's level
pub level_inner : (x : Own) (f : Frame) → innermost x.frames ≡ Some f → level_at x ≡ f.level
level_inner x f h = ap (λ (o : Option Frame). option_map_or (λ f. f.level) o 0) h

-- a call of a wait or delay leaves the level of its frame
wait_level : (due : Option ℕ) (c : Command) (y : Reply) (f : Frame) → is_wait c ≡ true → (called due c y f).level ≡ f.level
wait_level due (StartWait m a) y f h = refl
wait_level due (Delay m a u) y f h = refl
wait_level due c y f h = cc

-- a known call leaves its own frame calm
called_calm : (s : Script) (p : CpuNo) (x : Own) (l : Lanes) (n : ℕ) (due : Option ℕ) (c : Command) (y : Reply) → (k : KnownCall s p x l n c y) →
    Calm (called due c y k.frame)
called_calm s p x l n due c y k =
    (λ h. no_bool (sym k.leaving ∙ (sym (called_leaving due c y k.frame) ∙ h)), λ h. low (is_wait c) (is_refused y) refl refl h)
  where
    kept : (is_wait c ≡ false) ⊎ (is_refused y ≡ true) → is_some (called due c y k.frame).again ≡ true → (called due c y k.frame).level ≤ 1
    kept e h =
        let same : (called due c y k.frame).again ≡ k.frame.again = effect_again due c y k.frame e in
        no_bool (sym k.again ∙ (ap (λ (o : Option Again). is_some o) (sym same) ∙ h))

    low : (w r : Bool) → is_wait c ≡ w → is_refused y ≡ r → is_some (called due c y k.frame).again ≡ true → (called due c y k.frame).level ≤ 1
    low false r a b h = kept (inl a) h
    low true true a b h = kept (inr b) h
    low true false a b h =
        let z = call_accepted s p x l n c y k b in
        let m : level_at x ≤ 1 = wait_low (level_at x) (not (is_null x.frames.own)) (regions_of (thread_part x.frames)) k.frame c a z.0 in
        let e : level_at x ≡ k.frame.level = level_inner x k.frame k.goes_on.inner in
        let f : (called due c y k.frame).level ≡ k.frame.level = wait_level due c y k.frame a in
        omega (arith, m, e, f)

-- the innermost frame is changed: that of the thread's part, or one of another name
inner_calm : (x : Own) (n m : ℕ) (g : Frame → Frame) (i : Frame) (fs : List Frame) → innermost x.frames ≡ Some i → n ≡ i.name → Calm (g i) →
    thread_part x.frames ≡ fs → Named m x.frames.own fs → AllCalm fs → AllCalm (at_name n g fs)
inner_calm x n m g i [] inner named calm e d h = h
inner_calm x n m g i (f ∷ fs) inner named calm e d h = go x.frames.own refl d.apart
  where
    go : (gs : List Frame) → x.frames.own ≡ gs → Apart gs (f ∷ fs) → AllCalm (at_name n g (f ∷ fs))
    go [] o a =
        let first : option_or (head_of {A = Frame} []) (head_of (f ∷ fs))
        ≡ Some i = subst (λ (hs : List Frame). option_or (head_of {A = Frame} []) (head_of hs) ≡ Some i) e
        (subst (λ (gs : List Frame). option_or (head_of gs) (head_of (thread_part x.frames)) ≡ Some i) o inner) in
        let same : i ≡ f = cc in
        let after : Calm (g f) = subst (λ (z : Frame). Calm (g z)) same calm in
        (either (f.name == n) after, h.1)
      where
        either : (b : Bool) → Calm (g f) → Calm (if b then g f else f)
        either true q = q
        either false q = h.0
    go (o1 ∷ gs) o a =
        let first : option_or (head_of (o1 ∷ gs)) (head_of (thread_part x.frames))
        ≡ Some i = subst (λ (gs : List Frame). option_or (head_of gs) (head_of (thread_part x.frames)) ≡ Some i) o inner in
        let same : o1 ≡ i = cc in
        let name : o1.name ≡ n = ap (λ (z : Frame). z.name) same ∙ sym named in
        (other (f.name == n) refl (λ q. a.0.0 (q ∙ sym name)), h.1)
      where
        other : (b : Bool) → (f.name == n) ≡ b → (f.name ≡ n → ⊥) → Calm (if b then g f else f)
        other true q differ = absurd (differ (eqb-true f.name n q))
        other false q differ = h.0

-- a known call leaves all frames of the running thread calm
call_calm : (s : Script) (p : CpuNo) (x : Own) (l : Lanes) (n m : ℕ) (due : Option ℕ) (c : Command) (y : Reply) (fs : List Frame) → KnownCall s p x l n c y →
    thread_part x.frames ≡ fs → Named m x.frames.own fs → AllCalm fs → AllCalm (at_name n (called due c y) fs)
call_calm s p x l n m due c y fs k e d h =
    inner_calm x n m (called due c y) k.frame fs k.goes_on.inner k.name (called_calm s p x l n due c y k) e d h

-- the freeing of a lock leaves all frames of the running thread calm
free_calm : (s : Script) (p : CpuNo) (x : Own) (n m : ℕ) (c : LockNo) (fs : List Frame) → KnownFree s p x n c → thread_part x.frames ≡ fs →
    Named m x.frames.own fs → AllCalm fs → AllCalm (at_name n freed fs)
free_calm s p x n m c fs k e d h =
    inner_calm x n m freed k.frame fs k.goes_on.inner k.name (λ q. no_bool (sym k.leaving ∙ q), λ q. no_bool (sym k.again ∙ q)) e d h

-- what a known event leaves of the running thread's part
after_calm : (s : Script) (p : CpuNo) (x : Own) (l : Lanes) (n m : ℕ) (due : Option ℕ) (w : What) (fs : List Frame) →
    (is_next w ≡ true → Known s p x l w × (thread_part x.frames ≡ fs)) → Named m x.frames.own fs → AllCalm fs → AllCalm (thread_after s n due w fs)
after_calm s p x l n m due (Switch t st) fs k d h = switched_calm n t st fs h
after_calm s p x l n m due (Begin (Apc a) from) fs k d h = ((λ k. no_bool k, λ k. no_bool k), h)
after_calm s p x l n m due (Flush a from) fs k d h = flushed_calm n a (rundown_of s a) fs h
after_calm s p x l n m due (Call f c y) fs k d h =
    let q = k refl in call_calm s p x l f m due c y fs q.0 q.1 d h
after_calm s p x l n m due (Rewait f y) fs k d h = named_calm f (rewaited y) fs (rewaited_calm y) h
after_calm s p x l n m due (Normal f) fs k d h =
    named_calm f normal_of fs (λ g c. (λ q. refl, λ q. omega arith)) h
after_calm s p x l n m due (End f) fs k d h = end_calm f fs h
after_calm s p x l n m due (Free f c) fs k d h =
    let q = k refl in free_calm s p x f m c fs q.0 q.1 d h
after_calm s p x l n m due (Gone t) fs k d h = tt
after_calm s p x l n m due w fs k d h = h

-- ---- in a run

-- a next event that names a thread was made while it ran
pub ran : (s : Script) (limit : ℕ) (p : CpuNo) (t : ThreadNo) (e : Event) (past : List Event) → is_of e p ≡ true → is_by e t ≡ true → IsLegal s limit e past →
    is_next e.what ≡ true → running p past ≡ Some t
ran s limit p t e past o b g n = go e.what refl n
  where
    go : (w : What) → e.what ≡ w → is_next w ≡ true → running p past ≡ Some t
    go (Look r) k n = cc
    go (Switch u st) k n = cc
    go w k n =
        let field : running e.cpu past ≡ Some t = ap (λ (v : What). thread_field v (running e.cpu past)) (sym k)
        ∙ (sym (thread_named s limit e past g) ∙ same_thread e.thread t b) in
        ap (λ (q : CpuNo). running q past) (sym (same_cpu e p o)) ∙ field

-- in a run a legal event leaves all frames of a thread calm
calm_step : (s : Script) (limit : ℕ) (p : CpuNo) (t : ThreadNo) (e : Event) (past : List Event) (own by : Bool) → is_of e p ≡ own → is_by e t ≡ by →
    IsLegal s limit e past → IsRun s limit past → AllCalm (thread_frames s p t past) → AllCalm (thread_frames s p t (e ∷ past))
calm_step s limit p t e past false by o b g r ih =
    let moved : thread_frames s p t (e ∷ past) ≡ thread_frames s p t past = rw o in subst AllCalm (sym moved) ih
calm_step s limit p t e past true false o b g r ih =
    let moved : thread_frames s p t (e ∷ past) ≡ thread_frames s p t past = frames_when s p t e past false o b in
    subst AllCalm (sym moved) ih
calm_step s limit p t e past true true o b g r ih =
    let moved : thread_frames s p t (e ∷ past) ≡ thread_after s (length past) (due_of e.what (time past)) e.what
    (thread_frames s p t past) = frames_when s p t e past true o b in
    subst AllCalm (sym moved) (after_calm s p (own_of s p past) (lanes_at s past) (length past) (length past) (due_of e.what (time past)) e.what
    (thread_frames s p t past) known (all_named s p t past) ih)
  where
    known : is_next e.what ≡ true → Known s p (own_of s p past) (lanes_at s past) e.what × (thread_part (frames_of s p past) ≡ thread_frames s p t past)
    known n =
        let run : running p past ≡ Some t = ran s limit p t e past o b g n in
        let h = running_here s limit p t past r run in (
          subst (λ (q : CpuNo). Known s q (own_of s q past) (lanes_at s past) e.what) (same_cpu e p o) (legal_known s limit e past g n),
          part_of_running s p t past h.0 run,
        )

-- in a run each frame of a thread is calm: PASSIVE_LEVEL if leaving, APC_LEVEL or below with a wait to take up
pub all_calm : (s : Script) (limit : ℕ) (p : CpuNo) (t : ThreadNo) (past : List Event) → IsRun s limit past → AllCalm (thread_frames s p t past)
all_calm s limit p t [] r = tt
all_calm s limit p t (e ∷ past) r =
    calm_step s limit p t e past (is_of e p) (is_by e t) refl refl r.0 r.1 (all_calm s limit p t past r.1)

-- the innermost frame of a thread's part
pub leaving_low : (f : Frame) (fs : List Frame) → head_of fs ≡ Some f → f.leaving ≡ true → AllCalm fs → level_of fs ≡ 0
leaving_low f [] h l c = cc
leaving_low f (g ∷ fs) h l c =
    let same : g ≡ f = cc in
    let q : g.leaving ≡ true = ap (λ (z : Frame). z.leaving) same ∙ l in
    c.0.0 q

-- where the innermost frame has a wait to take up, the level is APC_LEVEL or below
pub again_low : (f : Frame) (fs : List Frame) → head_of fs ≡ Some f → is_some f.again ≡ true → AllCalm fs → level_of fs ≤ 1
again_low f [] h l c = cc
again_low f (g ∷ fs) h l c =
    let same : g ≡ f = cc in
    let q : is_some g.again ≡ true = ap (λ (z : Frame). is_some z.again) same ∙ l in
    c.0.1 q
