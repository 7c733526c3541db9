-- In a run, the frames on a processor's own part are exactly the open ones there.
use Rattle.std.proofs.Common.{ap, arith, inl, inr, subst, sym, ◌∙◌}
use Rattle.std.proofs.lemmas.Bool.{both_ways, eq-eqb, eqb-true}
use Rattle.std.specs.Option.{option_or}
use Rattle.std.specs.Prelude.{Bool, List, None, Option, Some, [], false, if◌then◌else◌, length, option_map, refl, suc, true, ℕ, ◌<◌, ◌==◌, ◌∷◌, ◌≡◌, ◌⊎◌}
use Rattle.nt_event.specs.declared.commands.Command.{Command}
use Rattle.nt_event.specs.declared.commands.Reply.{Reply}
use Rattle.nt_event.specs.declared.events.Begun.TheVariants.{Apc, Dpc, Int, Threaded}
use Rattle.nt_event.specs.declared.events.Event.{Event}
use Rattle.nt_event.specs.declared.events.What.{What}
use Rattle.nt_event.specs.declared.events.What.TheVariants.{Begin, Call, End, Flush, Free, Gone, Normal, Rewait, Switch}
use Rattle.nt_event.specs.declared.frames.Body.{Body}
use Rattle.nt_event.specs.declared.frames.Body.TheVariants.{Apc as OnApc, Base as OnBase, Dpc as OnDpc, Int as OnInt, Rundown as OnRundown}
use Rattle.nt_event.specs.declared.frames.Body.TheVariants.{Threaded as OnThreaded}
use Rattle.nt_event.specs.Frame.{Frame}
use Rattle.nt_event.specs.declared.numbers.CpuNo.{CpuNo}
use Rattle.nt_event.specs.declared.numbers.RoutineNo.{RoutineNo}
use Rattle.nt_event.specs.declared.numbers.ThreadNo.{ThreadNo}
use Rattle.nt_event.specs.declared.scripts.Script.{Script}
use Rattle.nt_event.specs.Frames.{at_name, called, due_of, end_on_thread, flushed, frames_of, freed, is_base_body, ended_base, normal_of, own_after, own_frames}
use Rattle.nt_event.specs.Frames.{resumed, rewaited, running, thread_after, thread_frames, thread_part, time, without}
use Rattle.nt_event.specs.Lanes.{lanes_at}
use Rattle.nt_event.specs.Own.{own_of}
use Rattle.nt_event.specs.Routines.{kind_of, rundown_of}
use Rattle.nt_event.specs.Step.{IsLegal, IsRun, thread_field}
use Rattle.nt_event.specs.Lists.{head_of, is_null}
use Rattle.nt_event.specs.Numbers.{is_by, is_of}
use Rattle.nt_runs.proofs.Known.{Known, KnownEnd, legal_known}
use Rattle.nt_runs.proofs.Falling.{falls_from}
use Rattle.nt_runs.proofs.Names.{called_name}
use Rattle.nt_runs.proofs.Running.{called_body, frames_when, part_of_running, running_here, same_cpu, same_thread, thread_named}
use Rattle.nt_runs.proofs.Shared.{part_head, thread_runs}
use Rattle.nt_runs.proofs.Turns.{is_next}
use Rattle.nt_readings.specs.Positions.{At}
use Rattle.nt_readings.specs.Frames.{EachNamed, NamesFall, HasFrame, IsNotEnded, IsOpenOwn, Lists, begun_inner, begun_own, ends_frame, switches_to}
use Rattle.nt_readings.proofs.Seen.{at_before}
use Rattle.nt_readings.proofs.Served.{none_after}

-- ---- changes that keep a frame's name and body

pub record Keeping (g : Frame → Frame) : Type 0 where
  pub name : (f : Frame) → (g f).name ≡ f.name
  pub body : (f : Frame) → (g f).body ≡ f.body

-- a call keeps the name and the body of its frame
pub keep_called : (due : Option ℕ) (c : Command) (y : Reply) → Keeping (called due c y)
keep_called due c y = record { name = called_name due c y; body = called_body due c y }

-- a wait that is taken up again keeps the name and the body of its frame
pub keep_rewaited : (y : Reply) → Keeping (rewaited y)
keep_rewaited y = record { name = λ f. refl; body = λ f. refl }

-- the free of a lock keeps the name and the body of its frame
pub keep_freed : Keeping freed
keep_freed = record { name = λ f. refl; body = λ f. refl }

-- going on to the normal routine keeps the name and the body of the frame
pub keep_normal : Keeping normal_of
keep_normal = record { name = λ f. refl; body = λ f. refl }

-- a frame that is resumed with a status keeps its name and its body
pub keep_resumed : (st : Option ℕ) → Keeping (resumed st)
keep_resumed None = record { name = λ f. refl; body = λ f. refl }
keep_resumed (Some x) = record { name = λ f. refl; body = λ f. refl }

-- ---- the names fall

-- names still fall after a change of the first frame that keeps its name
falls_head : (n : ℕ) (g : Frame → Frame) (f : Frame) (fs : List Frame) → (g f).name ≡ f.name → NamesFall n (f ∷ fs) → NamesFall n (g f ∷ fs)
falls_head n g f fs e h = (subst (λ (m : ℕ). m < n) (sym e) h.0, subst (λ (m : ℕ). NamesFall m fs) (sym e) h.1)

-- names still fall after a keeping change of the frame of one name
falls_named : (n m : ℕ) (g : Frame → Frame) (fs : List Frame) → Keeping g → NamesFall n fs → NamesFall n (at_name m g fs)
falls_named n m g [] k h = h
falls_named n m g (f ∷ fs) k h = go (f.name == m)
  where
    go : (b : Bool) → NamesFall n ((if b then g f else f) ∷ fs)
    go true = falls_head n g f fs (k.name f) h
    go false = h

-- names that fall from a bound still do without the first frame
falls_tail : (n : ℕ) (f : Frame) (fs : List Frame) → NamesFall n (f ∷ fs) → NamesFall n fs
falls_tail n f fs h = let l = h.0 in falls_from Frame (λ (f : Frame). f.name) f.name n fs (omega (arith, l)) h.1

-- names still fall after the frame of one name is removed
falls_without : (n m : ℕ) (fs : List Frame) → NamesFall n fs → NamesFall n (without m fs)
falls_without n m [] h = h
falls_without n m (f ∷ fs) h = go (f.name == m)
  where
    go : (b : Bool) → NamesFall n (if b then fs else (f ∷ fs))
    go true = falls_tail n f fs h
    go false = h

-- names still fall after the frame of one name ends on a thread
falls_end : (n m : ℕ) (fs : List Frame) → NamesFall n fs → NamesFall n (end_on_thread m fs)
falls_end n m [] h = h
falls_end n m (f ∷ fs) h = go (f.name == m) (is_base_body f.body)
  where
    go : (b c : Bool) → NamesFall n (if b then (if c then (ended_base f ∷ fs) else fs) else (f ∷ fs))
    go true true = h
    go true false = falls_tail n f fs h
    go false c = h

-- names fall from below the next number after an event of the processor on its own part
own_after_falls : (n : ℕ) (due : Option ℕ) (w : What) (fs : List Frame) → NamesFall n fs → NamesFall (suc n) (own_after n due w fs)
own_after_falls n due (Begin (Int l) from) fs h = (omega arith, h)
own_after_falls n due (Begin (Dpc d) from) fs h = (omega arith, h)
own_after_falls n due (Begin (Threaded d) from) fs h = (omega arith, h)
own_after_falls n due (Call f c y) fs h =
    falls_from Frame (λ (f : Frame). f.name) n (suc n) (at_name f (called due c y) fs) (omega arith)
    (falls_named n f (called due c y) fs (keep_called due c y) h)
own_after_falls n due (Free f k) fs h =
    falls_from Frame (λ (f : Frame). f.name) n (suc n) (at_name f freed fs) (omega arith) (falls_named n f freed fs keep_freed h)
own_after_falls n due (End f) fs h = falls_from Frame (λ (f : Frame). f.name) n (suc n) (without f fs) (omega arith) (falls_without n f fs h)
own_after_falls n due w fs h = falls_from Frame (λ (f : Frame). f.name) n (suc n) fs (omega arith) h

-- the names of the frames on a processor's own part fall, each that of an earlier event
pub own_falls : (p : CpuNo) (past : List Event) → NamesFall (length past) (own_frames p past)
own_falls p [] = tt
own_falls p (e ∷ past) = go (is_of e p) (own_falls p past)
  where
    go : (b : Bool) → NamesFall (length past) (own_frames p past) →
        NamesFall (suc (length past)) (if b then own_after (length past) (due_of e.what (time past)) e.what (own_frames p past) else own_frames p past)
    go true h = own_after_falls (length past) (due_of e.what (time past)) e.what (own_frames p past) h
    go false h = falls_from Frame (λ (f : Frame). f.name) (length past) (suc (length past)) (own_frames p past) (omega arith) h

-- names fall from below the next number after an event of the thread on its part
thread_after_falls : (s : Script) (n : ℕ) (due : Option ℕ) (w : What) (fs : List Frame) → NamesFall n fs → NamesFall (suc n) (thread_after s n due w fs)
thread_after_falls s n due (Switch t st) [] h = (omega arith, tt)
thread_after_falls s n due (Switch t st) (f ∷ fs) h =
    falls_from Frame (λ (f : Frame). f.name) n (suc n) (resumed st f ∷ fs) (omega arith) (falls_head n (resumed st) f fs ((keep_resumed st).name f) h)
thread_after_falls s n due (Begin (Apc a) from) fs h = (omega arith, h)
thread_after_falls s n due (Flush a from) fs h = go (rundown_of s a)
  where
    go : (o : Option RoutineNo) → NamesFall (suc n) (flushed n a o fs)
    go None = falls_from Frame (λ (f : Frame). f.name) n (suc n) fs (omega arith) h
    go (Some r) = (omega arith, h)
thread_after_falls s n due (Call f c y) fs h =
    falls_from Frame (λ (f : Frame). f.name) n (suc n) (at_name f (called due c y) fs) (omega arith)
    (falls_named n f (called due c y) fs (keep_called due c y) h)
thread_after_falls s n due (Rewait f y) fs h =
    falls_from Frame (λ (f : Frame). f.name) n (suc n) (at_name f (rewaited y) fs) (omega arith) (falls_named n f (rewaited y) fs (keep_rewaited y) h)
thread_after_falls s n due (Normal f) fs h =
    falls_from Frame (λ (f : Frame). f.name) n (suc n) (at_name f normal_of fs) (omega arith) (falls_named n f normal_of fs keep_normal h)
thread_after_falls s n due (Free f k) fs h =
    falls_from Frame (λ (f : Frame). f.name) n (suc n) (at_name f freed fs) (omega arith) (falls_named n f freed fs keep_freed h)
thread_after_falls s n due (End f) fs h = falls_from Frame (λ (f : Frame). f.name) n (suc n) (end_on_thread f fs) (omega arith) (falls_end n f fs h)
thread_after_falls s n due (Gone t) fs h = tt
thread_after_falls s n due w fs h = falls_from Frame (λ (f : Frame). f.name) n (suc n) fs (omega arith) h

-- the names of the frames on a thread's part fall, each that of an earlier event
pub thread_falls : (s : Script) (p : CpuNo) (t : ThreadNo) (past : List Event) → NamesFall (length past) (thread_frames s p t past)
thread_falls s p t [] = tt
thread_falls s p t (e ∷ past) = go (is_of e p) (is_by e t) refl refl (thread_falls s p t past)
  where
    go : (b c : Bool) → is_of e p ≡ b → is_by e t ≡ c → NamesFall (length past) (thread_frames s p t past) →
        NamesFall (suc (length past)) (thread_frames s p t (e ∷ past))
    go true true o k h =
        subst (NamesFall (suc (length past))) (sym (frames_when s p t e past true o k))
        (thread_after_falls s (length past) (due_of e.what (time past)) e.what (thread_frames s p t past) h)
    go true false o k h =
        subst (NamesFall (suc (length past))) (sym (frames_when s p t e past false o k))
        (falls_from Frame (λ (f : Frame). f.name) (length past) (suc (length past)) (thread_frames s p t past) (omega arith) h)
    go false c o k h =
        let moved : thread_frames s p t (e ∷ past) ≡ thread_frames s p t past = rw o in
        subst (NamesFall (suc (length past))) (sym moved)
        (falls_from Frame (λ (f : Frame). f.name) (length past) (suc (length past)) (thread_frames s p t past) (omega arith) h)

-- ---- what holds of each frame, by its name and body

-- if P implies Q and P holds of the name and body of each frame of a list, Q holds of each
pub each_map : (P Q : ℕ → Body → Type 0) (fs : List Frame) → ((n : ℕ) (b : Body) → P n b → Q n b) → EachNamed P fs → EachNamed Q fs
each_map P Q [] f h = tt
each_map P Q (x ∷ fs) f h = (f x.name x.body h.0, each_map P Q fs f h.1)

-- if names fall from below a bound, each frame of which P holds also has a name below the bound
pub each_below : (P : ℕ → Body → Type 0) (n : ℕ) (fs : List Frame) → NamesFall n fs → EachNamed P fs → EachNamed (λ m b. P m b × (m < n)) fs
each_below P n [] f h = tt
each_below P n (x ∷ fs) f h =
    let l = f.0 in ((h.0, f.0), each_below P n fs (falls_from Frame (λ (f : Frame). f.name) x.name n fs (omega (arith, l)) f.1) h.1)

-- a frame that stands for another of its name and body
pub keep_at : (P : ℕ → Body → Type 0) (g : Frame → Frame) (f : Frame) → Keeping g → P f.name f.body → P (g f).name (g f).body
keep_at P g f k h =
    subst (λ (n : ℕ). P n (g f).body) (sym (k.name f)) (subst (λ (b : Body). P f.name b) (sym (k.body f)) h)

-- what holds of the name and body of each frame still does after a keeping change of the innermost one
pub each_at_name : (P : ℕ → Body → Type 0) (m : ℕ) (g : Frame → Frame) (fs : List Frame) → Keeping g → EachNamed P fs → EachNamed P (at_name m g fs)
each_at_name P m g [] k h = h
each_at_name P m g (f ∷ fs) k h = (go (f.name == m), h.1)
  where
    go : (b : Bool) → P (if b then g f else f).name (if b then g f else f).body
    go true = keep_at P g f k h.0
    go false = h.0

-- what holds of each frame of a list holds of each that is left after one is removed
each_without : (P : ℕ → Body → Type 0) (m : ℕ) (fs : List Frame) → EachNamed P fs → EachNamed P (without m fs)
each_without P m [] h = h
each_without P m (f ∷ fs) h = go (f.name == m)
  where
    go : (b : Bool) → EachNamed P (if b then fs else (f ∷ fs))
    go true = h.1
    go false = h

-- what holds of the name and body of each frame on a thread still does after the innermost one ended
pub each_end : (P : ℕ → Body → Type 0) (m : ℕ) (fs : List Frame) → EachNamed P fs → EachNamed P (end_on_thread m fs)
each_end P m [] h = h
each_end P m (f ∷ fs) h = go (f.name == m) (is_base_body f.body)
  where
    go : (b c : Bool) → EachNamed P (if b then (if c then (ended_base f ∷ fs) else fs) else (f ∷ fs))
    go true true = h
    go true false = h.1
    go false c = h

-- what holds of each frame of an own part, and of one that the event begins there, holds of each after the event
own_after_each : (P : ℕ → Body → Type 0) (n : ℕ) (due : Option ℕ) (w : What) (fs : List Frame) → ((b : Body) → begun_own w ≡ Some b → P n b) → EachNamed P fs →
    EachNamed P (own_after n due w fs)
own_after_each P n due (Begin (Int l) from) fs new h = (new (OnInt l) refl, h)
own_after_each P n due (Begin (Dpc d) from) fs new h = (new (OnDpc d) refl, h)
own_after_each P n due (Begin (Threaded d) from) fs new h = (new (OnThreaded d) refl, h)
own_after_each P n due (Call f c y) fs new h = each_at_name P f (called due c y) fs (keep_called due c y) h
own_after_each P n due (Free f k) fs new h = each_at_name P f freed fs keep_freed h
own_after_each P n due (End f) fs new h = each_without P f fs h
own_after_each P n due w fs new h = h

-- what holds of each frame on a thread, and of one that the event begins there, holds of each after the event
pub thread_after_each : (P : ℕ → Body → Type 0) (s : Script) (n : ℕ) (due : Option ℕ) (w : What) (fs : List Frame) →
    ((t : ThreadNo) (st : Option ℕ) → w ≡ Switch t st → fs ≡ [] → P n (OnBase t)) → ((b : Body) → begun_inner s w ≡ Some b → P n b) → EachNamed P fs →
    EachNamed P (thread_after s n due w fs)
thread_after_each P s n due (Switch t st) [] base inner h = (base t st refl refl, tt)
thread_after_each P s n due (Switch t st) (f ∷ fs) base inner h = (keep_at P (resumed st) f (keep_resumed st) h.0, h.1)
thread_after_each P s n due (Begin (Apc a) from) fs base inner h = (inner (OnApc a (kind_of s a)) refl, h)
thread_after_each P s n due (Flush a from) fs base inner h = go (rundown_of s a) refl
  where
    go : (o : Option RoutineNo) → rundown_of s a ≡ o → EachNamed P (flushed n a o fs)
    go None e = h
    go (Some r) e = (inner (OnRundown a) (ap (λ (o : Option RoutineNo). option_map (λ r. OnRundown a) o) e), h)
thread_after_each P s n due (Call f c y) fs base inner h = each_at_name P f (called due c y) fs (keep_called due c y) h
thread_after_each P s n due (Rewait f y) fs base inner h = each_at_name P f (rewaited y) fs (keep_rewaited y) h
thread_after_each P s n due (Normal f) fs base inner h = each_at_name P f normal_of fs keep_normal h
thread_after_each P s n due (Free f k) fs base inner h = each_at_name P f freed fs keep_freed h
thread_after_each P s n due (End f) fs base inner h = each_end P f fs h
thread_after_each P s n due (Gone t) fs base inner h = tt
thread_after_each P s n due w fs base inner h = h

-- ---- what began each frame

abbrev pub IsOwnBegin : CpuNo → List Event → ℕ → Body → Type 0
IsOwnBegin p past n b = At (λ e before. (is_of e p ≡ true) × (begun_own e.what ≡ Some b)) n past

-- each frame on a processor's own part was begun there by the event of its name
pub own_begun : (p : CpuNo) (past : List Event) → EachNamed (IsOwnBegin p past) (own_frames p past)
own_begun p [] = tt
own_begun p (e ∷ past) =
    go (is_of e p) refl (each_map (IsOwnBegin p past) (IsOwnBegin p (e ∷ past)) (own_frames p past) (λ n b h. inr h) (own_begun p past))
  where
    go : (c : Bool) → is_of e p ≡ c → EachNamed (IsOwnBegin p (e ∷ past)) (own_frames p past) →
        EachNamed (IsOwnBegin p (e ∷ past)) (if c then own_after (length past) (due_of e.what (time past)) e.what (own_frames p past) else own_frames p past)
    go true o h =
        own_after_each (IsOwnBegin p (e ∷ past)) (length past) (due_of e.what (time past)) e.what (own_frames p past) (λ b q. inl (refl, (o, q))) h
    go false o h = h

-- event n began this on the part of t: a base frame or another one
abbrev pub IsThreadBegin : Script → ThreadNo → List Event → ℕ → Body → Type 0
IsThreadBegin s t past n b = ((b ≡ OnBase t) × At (λ e before. switches_to t e.what ≡ true) n past) ⊎
    At (λ e before. (is_by e t ≡ true) × (begun_inner s e.what ≡ Some b)) n past

-- a Switch that is made by a thread is a switch to that same thread
pub switch_self : (s : Script) (limit : ℕ) (t u : ThreadNo) (st : Option ℕ) (e : Event) (past : List Event) → IsLegal s limit e past → is_by e t ≡ true →
    e.what ≡ Switch u st → u ≡ t
switch_self s limit t u st e past g b k =
    let field : Some u ≡ Some t = sym (ap (λ (w : What). thread_field w (running e.cpu past)) k)
    ∙ (sym (thread_named s limit e past g) ∙ same_thread e.thread t b) in
    cc

-- in a run each frame on a thread's part was begun there by the event of its name
pub thread_begun : (s : Script) (limit : ℕ) (p : CpuNo) (t : ThreadNo) (past : List Event) → IsRun s limit past →
    EachNamed (IsThreadBegin s t past) (thread_frames s p t past)
thread_begun s limit p t [] r = tt
thread_begun s limit p t (e ∷ past) r =
    go (is_of e p) (is_by e t) refl refl (each_map (IsThreadBegin s t past) (IsThreadBegin s t (e ∷ past)) (thread_frames s p t past) lift
    (thread_begun s limit p t past r.1))
  where
    lift : (n : ℕ) (b : Body) → IsThreadBegin s t past n b → IsThreadBegin s t (e ∷ past) n b
    lift n b (inl h) = inl (h.0, inr h.1)
    lift n b (inr h) = inr (inr h)

    go : (c d : Bool) → is_of e p ≡ c → is_by e t ≡ d → EachNamed (IsThreadBegin s t (e ∷ past)) (thread_frames s p t past) →
        EachNamed (IsThreadBegin s t (e ∷ past)) (thread_frames s p t (e ∷ past))
    go true true o k h =
        subst (EachNamed (IsThreadBegin s t (e ∷ past))) (sym (frames_when s p t e past true o k))
        (thread_after_each (IsThreadBegin s t (e ∷ past)) s (length past) (due_of e.what (time past)) e.what (thread_frames s p t past) base
        (λ b q. inr (inl (refl, (k, q)))) h)
      where
        base : (u : ThreadNo) (st : Option ℕ) → e.what ≡ Switch u st → thread_frames s p t past ≡ [] → IsThreadBegin s t (e ∷ past) (length past) (OnBase u)
        base u st q none =
            let same : u ≡ t = switch_self s limit t u st e past r.0 k q in
            inl (ap (λ (v : ThreadNo). OnBase v) same, inl (refl, ap (switches_to t) q ∙ eq-eqb u.0 t.0 (ap (λ (v : ThreadNo). v.0) same)))
    go true false o k h = subst (EachNamed (IsThreadBegin s t (e ∷ past))) (sym (frames_when s p t e past false o k)) h
    go false d o k h =
        let moved : thread_frames s p t (e ∷ past) ≡ thread_frames s p t past = rw o in
        subst (EachNamed (IsThreadBegin s t (e ∷ past))) (sym moved) h

-- ---- one event begins one frame

-- if two properties exclude each other, they don't both hold of the event at one position
pub at_both : (P Q : Event → List Event → Type 0) (n : ℕ) (past : List Event) → At P n past → At Q n past →
    ((e : Event) (before : List Event) → P e before → Q e before → ⊥) → ⊥
at_both P Q n [] h k never = h
at_both P Q n (e ∷ past) (inl h) (inl k) never = never e past h.1 k.1
at_both P Q n (e ∷ past) (inl h) (inr k) never =
    let l = at_before Q n past k in let m = h.0 in absurd (omega (arith, l, m))
at_both P Q n (e ∷ past) (inr h) (inl k) never =
    let l = at_before P n past h in let m = k.0 in absurd (omega (arith, l, m))
at_both P Q n (e ∷ past) (inr h) (inr k) never = at_both P Q n past h k never

-- an event that begins a frame on a processor's own part begins none on a thread's
own_not_inner : (s : Script) (w : What) (b c : Body) → begun_own w ≡ Some b → begun_inner s w ≡ Some c → ⊥
own_not_inner s (Begin (Int l) from) b c h k = cc
own_not_inner s (Begin (Dpc d) from) b c h k = cc
own_not_inner s (Begin (Threaded d) from) b c h k = cc
own_not_inner s w b c h k = cc

-- an event that begins a frame on a processor's own part is no Switch
own_not_switch : (t : ThreadNo) (w : What) (b : Body) → begun_own w ≡ Some b → switches_to t w ≡ true → ⊥
own_not_switch t (Switch u st) b h k = cc
own_not_switch t w b h k = cc

-- an event that begins an inner frame is no Switch to the thread
pub inner_not_switch : (s : Script) (t : ThreadNo) (w : What) (b : Body) → begun_inner s w ≡ Some b → switches_to t w ≡ true → ⊥
inner_not_switch s t (Switch u st) b h k = cc
inner_not_switch s t w b h k = cc

-- a frame of an own part isn't one of a thread's
pub own_apart : (s : Script) (p : CpuNo) (t : ThreadNo) (past : List Event) (n : ℕ) (b c : Body) → IsOwnBegin p past n b → IsThreadBegin s t past n c → ⊥
own_apart s p t past n b c h (inl k) =
    at_both (λ e before. (is_of e p ≡ true) × (begun_own e.what ≡ Some b)) (λ e before. switches_to t e.what ≡ true) n past h k.1
    (λ e before x y. own_not_switch t e.what b x.1 y)
own_apart s p t past n b c h (inr k) =
    at_both (λ e before. (is_of e p ≡ true) × (begun_own e.what ≡ Some b)) (λ e before. (is_by e t ≡ true) × (begun_inner s e.what ≡ Some c)) n past h k
    (λ e before x y. own_not_inner s e.what b c x.1 y.1)

-- ---- the frame that an End names

-- the first frame of the list has this name
abbrev pub Heads : ℕ → List Frame → Type 0
Heads n fs = (f : Frame) × (rest : List Frame) × (fs ≡ f ∷ rest) × (f.name ≡ n)

-- if the head of a list of frames has a name, the list begins with a frame of that name
pub heads_of : (fs : List Frame) (f : Frame) (n : ℕ) → head_of fs ≡ Some f → n ≡ f.name → Heads n fs
heads_of [] f n h e = cc
heads_of (g ∷ fs) f n h e = let same : g ≡ f = cc in (g, fs, refl, ap (λ (x : Frame). x.name) same ∙ sym e)

abbrev pub IsEnder : Script → CpuNo → List Event → ℕ → Type 0
IsEnder s q past n = Heads n (own_frames q past) ⊎ ((own_frames q past ≡ []) ×
    ((u : ThreadNo) × (running q past ≡ Some u) × Heads n (thread_frames s q u past)))

-- in a run an End names the innermost frame of its processor's own part or, if that is empty, its thread's
pub ender : (s : Script) (limit : ℕ) (n : ℕ) (e : Event) (past : List Event) → IsRun s limit (e ∷ past) → e.what ≡ End n → IsEnder s e.cpu past n
ender s limit n e past r k = go (own_frames e.cpu past) refl
  where
    known : KnownEnd s e.cpu (own_of s e.cpu past) n
    known = subst (Known s e.cpu (own_of s e.cpu past) (lanes_at s past)) k (legal_known s limit e past r.0 (ap is_next k))

    go : (fs : List Frame) → own_frames e.cpu past ≡ fs → IsEnder s e.cpu past n
    go (f ∷ fs) o =
        let first : option_or (head_of (f ∷ fs)) (head_of (thread_part (frames_of s e.cpu past)))
        ≡ Some known.frame = subst (λ (gs : List Frame). option_or (head_of gs) (head_of (thread_part (frames_of s e.cpu past)))
        ≡ Some known.frame) o known.goes_on.inner in
        let same : f ≡ known.frame = cc in
        inl (f, fs, o, ap (λ (x : Frame). x.name) same ∙ sym known.name)
    go [] o =
        let null : is_null (own_frames e.cpu past) ≡ true = ap is_null o in
        let u = thread_runs (frames_of s e.cpu past) known.frame known.goes_on.inner null in
        let head = part_head (frames_of s e.cpu past) known.frame known.goes_on.inner null in
        let here = running_here s limit e.cpu u.0 past r.1 u.1 in
        let part : thread_part (frames_of s e.cpu past) ≡ thread_frames s e.cpu u.0 past = part_of_running s e.cpu u.0 past here.0 u.1 in
        inr (o, (u.0, u.1, heads_of (thread_frames s e.cpu u.0 past) known.frame n (sym (ap head_of part) ∙ head) known.name))

-- if P holds of each frame, it holds of the name that heads the list, with some body
pub each_head : (P : ℕ → Body → Type 0) (n : ℕ) (fs : List Frame) → EachNamed P fs → Heads n fs → (b : Body) × P n b
each_head P n fs h k =
    let a = subst (EachNamed P) k.2 h in (k.0.body, subst (λ (m : ℕ). P m k.0.body) k.3 a.0)

-- ---- the frames of an own part are open

-- a frame that is open on an own part is still open after an event that doesn't end it
own_lift : (p : CpuNo) (e : Event) (past : List Event) (n : ℕ) (b : Body) → ends_frame n e.what ≡ false → IsOpenOwn p past n b → IsOpenOwn p (e ∷ past) n b
own_lift p e past n b k h = (inr h.0, (λ l. k, h.1))

-- an event of another processor doesn't end it
foreign : (s : Script) (limit : ℕ) (p : CpuNo) (e : Event) (past : List Event) (n : ℕ) (b : Body) (w : What) → IsRun s limit (e ∷ past) → is_of e p ≡ false →
    e.what ≡ w → IsOpenOwn p past n b → ends_frame n w ≡ false
foreign s limit p e past n b (End g) r o k h = go (g == n) refl
  where
    other : (x : Event) → is_of x e.cpu ≡ true → is_of x p ≡ true → ⊥
    other x i j =
        let same : e.cpu.0 ≡ p.0 = sym (eqb-true x.cpu.0 e.cpu.0 i) ∙ eqb-true x.cpu.0 p.0 j in
        both_ways (is_of e p) o (eq-eqb e.cpu.0 p.0 same)

    no : g ≡ n → IsEnder s e.cpu past g → ⊥
    no q (inl m) =
        let a = each_head (IsOwnBegin e.cpu past) g (own_frames e.cpu past) (own_begun e.cpu past) m in
        at_both (λ e before. (is_of e p ≡ true) × (begun_own e.what ≡ Some b)) (λ x before. (is_of x e.cpu ≡ true) × (begun_own x.what ≡ Some a.0)) n past h.0
        (subst (λ (m : ℕ). IsOwnBegin e.cpu past m a.0) q a.1) (λ x before i j. other x j.0 i.0)
    no q (inr m) =
        let a = each_head (IsThreadBegin s m.1.0 past) g (thread_frames s e.cpu m.1.0 past) (thread_begun s limit e.cpu m.1.0 past r.1) m.1.2 in
        own_apart s p m.1.0 past n b a.0 h.0 (subst (λ (m' : ℕ). IsThreadBegin s m.1.0 past m' a.0) q a.1)

    go : (c : Bool) → (g == n) ≡ c → c ≡ false
    go false q = refl
    go true q = absurd (no (eqb-true g n q) (ender s limit g e past r k))
foreign s limit p e past n b w r o k h = refl

-- after the first frame of an own part ends, each frame that is left there is open
own_end : (p : CpuNo) (e : Event) (past : List Event) (g : ℕ) (fs : List Frame) → e.what ≡ End g → NamesFall (length past) fs → ((fs ≡ []) ⊎ Heads g fs) →
    EachNamed (IsOpenOwn p past) fs → EachNamed (IsOpenOwn p (e ∷ past)) (without g fs)
own_end p e past g [] k f d h = tt
own_end p e past g (x ∷ fs) k f (inl d) h = cc
own_end p e past g (x ∷ fs) k f (inr d) h =
    let same : x ≡ d.0 = cc in
    let name : x.name ≡ g = ap (λ (y : Frame). y.name) same ∙ d.3 in
    let rest : EachNamed (IsOpenOwn p (e ∷ past)) fs = each_map (λ m b. IsOpenOwn p past m b × (m < x.name)) (IsOpenOwn p (e ∷ past)) fs
    (λ m b q. own_lift p e past m b (survives m (let l = q.1 in omega (arith, l, name))) q.0) (each_below (IsOpenOwn p past) x.name fs f.1 h.1) in
    subst (λ (c : Bool). EachNamed (IsOpenOwn p (e ∷ past)) (if c then fs else (x ∷ fs))) (sym (eq-eqb x.name g name)) rest
  where
    differs : (m : ℕ) → m < g → (c : Bool) → (g == m) ≡ c → c ≡ false
    differs m l false q = refl
    differs m l true q = let z = eqb-true g m q in absurd (omega (arith, l, z))

    survives : (m : ℕ) → m < g → ends_frame m e.what ≡ false
    survives m l = ap (ends_frame m) k ∙ differs m l (g == m) refl

-- in a run each frame on a processor's own part is open there
pub own_open : (s : Script) (limit : ℕ) (p : CpuNo) (past : List Event) → IsRun s limit past → EachNamed (IsOpenOwn p past) (own_frames p past)
own_open s limit p [] r = tt
own_open s limit p (e ∷ past) r = go (is_of e p) refl (own_open s limit p past r.1)
  where
    mine : (w : What) → is_of e p ≡ true → e.what ≡ w → EachNamed (IsOpenOwn p past) (own_frames p past) →
        EachNamed (IsOpenOwn p (e ∷ past)) (own_after (length past) (due_of e.what (time past)) w (own_frames p past))
    mine (End g) o k h = own_end p e past g (own_frames p past) k (own_falls p past) (head (ender s limit g e past r k)) h
      where
        at : IsEnder s p past g → (own_frames p past ≡ []) ⊎ Heads g (own_frames p past)
        at (inl m) = inr m
        at (inr m) = inl m.0

        head : IsEnder s e.cpu past g → (own_frames p past ≡ []) ⊎ Heads g (own_frames p past)
        head m = at (subst (λ (q : CpuNo). IsEnder s q past g) (same_cpu e p o) m)
    mine w o k h =
        own_after_each (IsOpenOwn p (e ∷ past)) (length past) (due_of e.what (time past)) w (own_frames p past)
        (λ b q. (
          inl (refl, (o, ap begun_own k ∙ q)),
          (λ l. absurd (omega (arith, l)), none_after (λ e before. ends_frame (length past) e.what ≡ false) (length past) past (omega arith)),
        ))
        (each_map (IsOpenOwn p past) (IsOpenOwn p (e ∷ past)) (own_frames p past) (λ n b q. own_lift p e past n b (ap (ends_frame n) k) q) h)

    go : (c : Bool) → is_of e p ≡ c → EachNamed (IsOpenOwn p past) (own_frames p past) →
        EachNamed (IsOpenOwn p (e ∷ past)) (if c then own_after (length past) (due_of e.what (time past)) e.what (own_frames p past) else own_frames p past)
    go true o h = mine e.what o refl h
    go false o h =
        each_map (IsOpenOwn p past) (IsOpenOwn p (e ∷ past)) (own_frames p past)
        (λ n b q. own_lift p e past n b (foreign s limit p e past n b e.what r o refl q) q) h

-- ---- each open one is among them

-- a frame that is in a list is still there, by name and body, after a keeping change of the innermost one
pub has_at_name : (n m : ℕ) (b : Body) (g : Frame → Frame) (fs : List Frame) → Keeping g → HasFrame n b fs → HasFrame n b (at_name m g fs)
has_at_name n m b g [] k h = h
has_at_name n m b g (f ∷ fs) k (inr h) = inr h
has_at_name n m b g (f ∷ fs) k (inl h) = inl (go (f.name == m))
  where
    go : (c : Bool) → ((if c then g f else f).name ≡ n) × ((if c then g f else f).body ≡ b)
    go true = (k.name f ∙ h.0, k.body f ∙ h.1)
    go false = h

-- a frame of another name is still in a list after the frame of one name is removed
has_without : (n m : ℕ) (b : Body) (fs : List Frame) → (m == n) ≡ false → HasFrame n b fs → HasFrame n b (without m fs)
has_without n m b [] d h = h
has_without n m b (f ∷ fs) d h = go (f.name == m) refl h
  where
    go : (c : Bool) → (f.name == m) ≡ c → HasFrame n b (f ∷ fs) → HasFrame n b (if c then fs else (f ∷ fs))
    go false q h = h
    go true q (inr h) = h
    go true q (inl h) = absurd (both_ways (m == n) d (eq-eqb m n (sym (eqb-true f.name m q) ∙ h.0)))

-- a frame of an own part is still there after an event of the processor that doesn't end it
own_stays : (n m : ℕ) (b : Body) (due : Option ℕ) (w : What) (fs : List Frame) → ends_frame n w ≡ false → HasFrame n b fs → HasFrame n b (own_after m due w fs)
own_stays n m b due (Begin (Int l) from) fs d h = inr h
own_stays n m b due (Begin (Dpc x) from) fs d h = inr h
own_stays n m b due (Begin (Threaded x) from) fs d h = inr h
own_stays n m b due (Call f c y) fs d h = has_at_name n f b (called due c y) fs (keep_called due c y) h
own_stays n m b due (Free f k) fs d h = has_at_name n f b freed fs keep_freed h
own_stays n m b due (End f) fs d h = has_without n f b fs d h
own_stays n m b due w fs d h = h

-- a frame that an event begins on an own part is there after the event
own_new : (n : ℕ) (b : Body) (due : Option ℕ) (w : What) (fs : List Frame) → begun_own w ≡ Some b → HasFrame n b (own_after n due w fs)
own_new n b due (Begin (Int l) from) fs h = let same : OnInt l ≡ b = cc in inl (refl, same)
own_new n b due (Begin (Dpc d) from) fs h = let same : OnDpc d ≡ b = cc in inl (refl, same)
own_new n b due (Begin (Threaded d) from) fs h = let same : OnThreaded d ≡ b = cc in inl (refl, same)
own_new n b due w fs h = cc

-- each frame that is open on an own part is in the list of its frames
own_has : (p : CpuNo) (n : ℕ) (b : Body) (past : List Event) → IsOpenOwn p past n b → HasFrame n b (own_frames p past)
own_has p n b [] h = h.0
own_has p n b (e ∷ past) h = go h.0 h.1 (λ k. own_has p n b past k)
  where
    earlier : (c : Bool) → ends_frame n e.what ≡ false → HasFrame n b (own_frames p past) →
        HasFrame n b (if c then own_after (length past) (due_of e.what (time past)) e.what (own_frames p past) else own_frames p past)
    earlier true d k = own_stays n (length past) b (due_of e.what (time past)) e.what (own_frames p past) d k
    earlier false d k = k

    new : (c : Bool) → is_of e p ≡ c → c ≡ true → n ≡ length past → begun_own e.what ≡ Some b →
        HasFrame n b (if c then own_after (length past) (due_of e.what (time past)) e.what (own_frames p past) else own_frames p past)
    new true o t q k =
        subst (λ (m : ℕ). HasFrame m b (own_after (length past) (due_of e.what (time past)) e.what (own_frames p past))) (sym q)
        (own_new (length past) b (due_of e.what (time past)) e.what (own_frames p past) k)
    new false o t q k = cc

    go : At (λ e before. (is_of e p ≡ true) × (begun_own e.what ≡ Some b)) n (e ∷ past) → IsNotEnded n (e ∷ past) →
        (IsOpenOwn p past n b → HasFrame n b (own_frames p past)) →
        HasFrame n b (if is_of e p then own_after (length past) (due_of e.what (time past)) e.what (own_frames p past) else own_frames p past)
    go (inl a) m ih = new (is_of e p) refl a.1.0 a.0 a.1.1
    go (inr a) m ih =
        earlier (is_of e p) (m.0 (at_before (λ e before. (is_of e p ≡ true) × (begun_own e.what ≡ Some b)) n past a)) (ih (a, m.1))

-- in a run the frames on a processor's own part are exactly the open ones, the greatest number first
pub own_lists : (s : Script) (limit : ℕ) (p : CpuNo) (past : List Event) → IsRun s limit past → Lists (IsOpenOwn p past) (length past) (own_frames p past)
own_lists s limit p past r =
    record { each = own_open s limit p past r; all = λ n b h. own_has p n b past h; falls = own_falls p past }
