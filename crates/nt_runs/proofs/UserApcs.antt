-- In a run a user APC stands on a frame at PASSIVE_LEVEL.
use Rattle.std.proofs.Common.{ap, arith, inl, inr, subst, sym, ◌∙◌}
use Rattle.std.proofs.lemmas.Bool.{both_ways, eqb-true, ltb-false}
use Rattle.std.specs.Prelude.{Bool, List, None, Option, Some, [], false, if◌then◌else◌, length, nat_lt, not, refl, true, ℕ, ◌==◌, ◌∷◌, ◌≡◌, ◌≤◌}
use Rattle.nt_event.specs.declared.commands.Refusal.{Refusal}
use Rattle.nt_event.specs.declared.commands.Refusal.TheVariants.{NotBase, NotThread, RegionsOpen, TooHigh}
use Rattle.nt_event.specs.declared.events.Begun.TheVariants.{Apc}
use Rattle.nt_event.specs.declared.events.Event.{Event}
use Rattle.nt_event.specs.declared.events.What.{What}
use Rattle.nt_event.specs.declared.events.What.TheVariants.{Begin, Call, End, Flush, Free, Gone, Normal, Rewait, Switch}
use Rattle.nt_event.specs.declared.frames.Body.{Body}
use Rattle.nt_event.specs.declared.frames.Body.TheVariants.{Apc as OnApc, Base as OnBase, Rundown as OnRundown}
use Rattle.nt_event.specs.Frame.{Frame}
use Rattle.nt_event.specs.declared.numbers.ApcNo.{ApcNo}
use Rattle.nt_event.specs.declared.numbers.CpuNo.{CpuNo}
use Rattle.nt_event.specs.declared.numbers.RoutineNo.{RoutineNo}
use Rattle.nt_event.specs.declared.numbers.ThreadNo.{ThreadNo}
use Rattle.nt_event.specs.declared.scripts.Script.{Script}
use Rattle.nt_event.specs.Commands.{not_above, refuse}
use Rattle.nt_event.specs.Frames.{Frames, at_name, called, due_of, end_on_thread, ended_base, flushed, frames_of, freed, is_base_body, is_on_thread}
use Rattle.nt_event.specs.Frames.{is_user_apc_body, new_frame, normal_of, resumed, rewaited, running, switched_to, thread_after, thread_frames, thread_part}
use Rattle.nt_event.specs.Frames.{time}
use Rattle.nt_event.specs.Jobs.{level_at, may_apcs}
use Rattle.nt_event.specs.Lanes.{Lanes, lanes_at}
use Rattle.nt_runs.specs.Laws.{level_of}
use Rattle.nt_event.specs.Own.{Own, own_of}
use Rattle.nt_event.specs.Regions.{is_open, regions_of}
use Rattle.nt_event.specs.Routines.{kind_of, rundown_of}
use Rattle.nt_event.specs.Step.{IsLegal, IsRun, thread_field}
use Rattle.nt_event.specs.Numbers.{is_by, is_of}
use Rattle.nt_event.specs.Lists.{is_null}
use Rattle.nt_runs.proofs.Facts.{level_on_thread}
use Rattle.nt_runs.proofs.Known.{Known, KnownBegin, KnownToUser, legal_known}
use Rattle.nt_event.proofs.Options.{both}
use Rattle.nt_runs.proofs.Running.{Keeps, called_keeps, frames_when, freed_keeps, normal_keeps, part_of_running, resumed_keeps, rewaited_keeps, running_here}
use Rattle.nt_runs.proofs.Running.{same_cpu, same_thread, thread_named}
use Rattle.nt_runs.proofs.Stops.{null_of, refuse_none}
use Rattle.nt_runs.proofs.Turns.{is_next}

abbrev pub UserBelow : List Frame → Type 0
UserBelow [] = Unit {0}
UserBelow (f ∷ []) = Unit {0}
UserBelow (f ∷ (g ∷ fs)) = (is_user_apc_body f.body ≡ true → g.level ≡ 0) × UserBelow (g ∷ fs)

-- a change of the innermost frame that keeps what runs in it
head_user : (g : Frame → Frame) (f : Frame) (fs : List Frame) → (g f).body ≡ f.body → UserBelow (f ∷ fs) → UserBelow (g f ∷ fs)
head_user g f [] e h = tt
head_user g f (x ∷ fs) e h = (λ u. h.0 (ap is_user_apc_body (sym e) ∙ u), h.1)

-- a change by name that keeps what runs in frames keeps user APCs on frames at PASSIVE_LEVEL
named_user : (n : ℕ) (g : Frame → Frame) (fs : List Frame) → Keeps g → UserBelow fs → UserBelow (at_name n g fs)
named_user n g [] k h = h
named_user n g (f ∷ fs) k h = go (f.name == n)
  where
    go : (b : Bool) → UserBelow ((if b then g f else f) ∷ fs)
    go true = head_user g f fs (k.body f) h
    go false = h

-- a frame begins on a thread at PASSIVE_LEVEL, or is none of a user APC
begun_user : (f : Frame) (fs : List Frame) → (is_user_apc_body f.body ≡ true → level_of fs ≡ 0) → UserBelow fs → UserBelow (f ∷ fs)
begun_user f [] l h = tt
begun_user f (g ∷ fs) l h = (l, h)

-- without the innermost frame, user APCs still stand on frames at PASSIVE_LEVEL
tail_user : (f : Frame) (fs : List Frame) → UserBelow (f ∷ fs) → UserBelow fs
tail_user f [] h = tt
tail_user f (g ∷ fs) h = h.1

-- the end of a thread's innermost frame leaves user APCs on frames at PASSIVE_LEVEL
end_user : (n : ℕ) (fs : List Frame) → UserBelow fs → UserBelow (end_on_thread n fs)
end_user n [] h = h
end_user n (f ∷ fs) h = go (f.name == n) (is_base_body f.body) refl
  where
    base : (b : Body) → is_base_body b ≡ true → is_user_apc_body b ≡ false
    base (OnBase t) h = refl
    base b h = cc

    left_user : is_base_body f.body ≡ true → UserBelow (ended_base f ∷ fs)
    left_user e = go fs h
      where
        go : (fs : List Frame) → UserBelow (f ∷ fs) → UserBelow (ended_base f ∷ fs)
        go [] h = tt
        go (g ∷ fs) h = (λ u. let no : is_user_apc_body f.body ≡ false = base f.body e in absurd (both_ways (is_user_apc_body f.body) no u), h.1)

    go : (b c : Bool) → is_base_body f.body ≡ c → UserBelow (if b then (if c then (ended_base f ∷ fs) else fs) else (f ∷ fs))
    go true true e = left_user e
    go true false e = tail_user f fs h
    go false c e = h

-- a flushed APC leaves user APCs on frames at PASSIVE_LEVEL
flushed_user : (n : ℕ) (a : ApcNo) (r : Option RoutineNo) (fs : List Frame) → UserBelow fs → UserBelow (flushed n a r fs)
flushed_user n a None fs h = h
flushed_user n a (Some r) fs h = begun_user (new_frame n (OnRundown a)) fs (λ u. no u) h
  where
    no : {A : Type 0} → false ≡ true → A
    no u = cc

-- a switch to a thread leaves its user APCs on frames at PASSIVE_LEVEL
switched_user : (n : ℕ) (t : ThreadNo) (st : Option ℕ) (fs : List Frame) → UserBelow fs → UserBelow (switched_to n t st fs)
switched_user n t st [] h = tt
switched_user n t st (f ∷ fs) h = head_user (resumed st) f fs ((resumed_keeps st).body f) h

-- an event leaves user APCs on frames at PASSIVE_LEVEL, if an APC that it begins begins at that level
after_user : (s : Script) (n : ℕ) (due : Option ℕ) (w : What) (fs : List Frame) → ((a : ApcNo) (from : ℕ) → w ≡ Begin (Apc a) from → level_of fs ≡ 0) →
    UserBelow fs → UserBelow (thread_after s n due w fs)
after_user s n due (Switch u st) fs l h = switched_user n u st fs h
after_user s n due (Begin (Apc a) from) fs l h = begun_user (new_frame n (OnApc a (kind_of s a))) fs (λ u. l a from refl) h
after_user s n due (Flush a from) fs l h = flushed_user n a (rundown_of s a) fs h
after_user s n due (Call f c y) fs l h = named_user f (called due c y) fs (called_keeps due c y) h
after_user s n due (Rewait f y) fs l h = named_user f (rewaited y) fs (rewaited_keeps y) h
after_user s n due (Normal f) fs l h = named_user f normal_of fs normal_keeps h
after_user s n due (End f) fs l h = end_user f fs h
after_user s n due (Free f k) fs l h = named_user f freed fs freed_keeps h
after_user s n due (Gone t) fs l h = tt
after_user s n due w fs l h = h

-- ---- an APC begins at PASSIVE_LEVEL

-- where the innermost frame stands on the running thread's part, the own part is empty
on_thread_null : (x : Frames) → is_on_thread x ≡ true → is_null x.own ≡ true
on_thread_null x h = (both (is_null x.own) _ h).0

-- a processor that must deliver APCs before it goes on is at PASSIVE_LEVEL with an empty own part
pub apcs_low : (x : Own) → may_apcs x ≡ true → (level_at x ≡ 0) × (is_null x.frames.own ≡ true)
apcs_low x h =
    let a = both (level_at x == 0) _ h in
    let b = both (is_on_thread x.frames) _ a.1 in
    (eqb-true (level_at x) 0 a.0, on_thread_null x.frames b.0)

-- a return to user mode is at PASSIVE_LEVEL with an empty own part
pub touser_low : (s : Script) (p : CpuNo) (x : Own) → KnownToUser s p x → (level_at x ≡ 0) × (is_null x.frames.own ≡ true)
touser_low s p x k =
    let own : not (is_null x.frames.own) ≡ false = refuse_none (not (is_null x.frames.own)) NotThread _ k.accepted in
    let null : is_null x.frames.own ≡ true = null_of (is_null x.frames.own) own in
    let rest : refuse (not (is_base_body k.frame.body)) NotBase
    (not_above 0 (level_at x) (refuse (is_open (regions_of (thread_part x.frames))) RegionsOpen None))
    ≡ None = next_test (not (is_null x.frames.own)) NotThread _ k.accepted in
    let low : not_above 0 (level_at x) (refuse (is_open (regions_of (thread_part x.frames))) RegionsOpen None)
    ≡ None = next_test (not (is_base_body k.frame.body)) NotBase _ rest in
    let b : nat_lt 0 (level_at x) ≡ false = refuse_none (nat_lt 0 (level_at x)) TooHigh _ low in
    let z : level_at x ≤ 0 = ltb-false 0 (level_at x) b in
    (omega (arith, z), null)
  where
    next_test : (b : Bool) (r : Refusal) (o : Option Refusal) → refuse b r o ≡ None → o ≡ None
    next_test true r o h = cc
    next_test false r o h = h

-- the begin of an APC is at PASSIVE_LEVEL with an empty own part
pub begin_low : (s : Script) (p : CpuNo) (x : Own) (l : Lanes) (a : ApcNo) (from : ℕ) → KnownBegin s p x l (Apc a) from → (level_at x ≡ 0) ×
    (is_null x.frames.own ≡ true)
begin_low s p x l a from (inl k) = apcs_low x k.0
begin_low s p x l a from (inr k) = touser_low s p x k.0

-- ---- in a run

-- a legal event of a run leaves a thread's user APCs on frames at PASSIVE_LEVEL
user_step : (s : Script) (limit : ℕ) (p : CpuNo) (t : ThreadNo) (e : Event) (past : List Event) (own by : Bool) → is_of e p ≡ own → is_by e t ≡ by →
    IsLegal s limit e past → IsRun s limit past → UserBelow (thread_frames s p t past) → UserBelow (thread_frames s p t (e ∷ past))
user_step s limit p t e past false by o b g r ih =
    let moved : thread_frames s p t (e ∷ past) ≡ thread_frames s p t past = rw o in subst UserBelow (sym moved) ih
user_step s limit p t e past true false o b g r ih =
    let moved : thread_frames s p t (e ∷ past) ≡ thread_frames s p t past = frames_when s p t e past false o b in
    subst UserBelow (sym moved) ih
user_step s limit p t e past true true o b g r ih =
    let moved : thread_frames s p t (e ∷ past) ≡ thread_after s (length past) (due_of e.what (time past)) e.what
    (thread_frames s p t past) = frames_when s p t e past true o b in
    subst UserBelow (sym moved) (after_user s (length past) (due_of e.what (time past)) e.what (thread_frames s p t past) low ih)
  where
    here : e.cpu ≡ p
    here = same_cpu e p o

    low : (a : ApcNo) (from : ℕ) → e.what ≡ Begin (Apc a) from → level_of (thread_frames s p t past) ≡ 0
    low a from w =
        let k : Known s e.cpu (own_of s e.cpu past) (lanes_at s past) e.what = legal_known s limit e past g (ap is_next w) in
        let kp : Known s p (own_of s p past) (lanes_at s past) (Begin (Apc a) from) = subst (Known s p (own_of s p past) (lanes_at s past)) w
        (subst (λ (q : CpuNo). Known s q (own_of s q past) (lanes_at s past) e.what) here k) in
        let z = begin_low s p (own_of s p past) (lanes_at s past) a from kp in
        let field : running e.cpu past ≡ Some t = ap (λ (v : What). thread_field v (running e.cpu past)) (sym w)
        ∙ (sym (thread_named s limit e past g) ∙ same_thread e.thread t b) in
        let run : running p past ≡ Some t = ap (λ (q : CpuNo). running q past) (sym here) ∙ field in
        let h = running_here s limit p t past r run in
        sym (level_on_thread (frames_of s p past) (thread_frames s p t past) z.1 (part_of_running s p t past h.0 run)) ∙ z.0

-- in a run a user APC stands on a frame at PASSIVE_LEVEL
pub user_below : (s : Script) (limit : ℕ) (p : CpuNo) (t : ThreadNo) (past : List Event) → IsRun s limit past → UserBelow (thread_frames s p t past)
user_below s limit p t [] r = tt
user_below s limit p t (e ∷ past) r =
    user_step s limit p t e past (is_of e p) (is_by e t) refl refl r.0 r.1 (user_below s limit p t past r.1)
