-- Events that are alike leave histories alike.
use Rattle.std.proofs.Common.{ap, arith, inl, inr, subst, sym, ◌∙◌}
use Rattle.std.proofs.lemmas.Bool.{ltb-false, ltb-true}
use Rattle.std.proofs.lemmas.List.{get_or_past}
use Rattle.std.specs.Prelude.{Bool, List, None, Option, Some, [], false, if◌then◌else◌, length, nat_lt, refl, true, ℕ, ◌||◌, ◌∷◌, ◌≡◌, ◌⊎◌}
use Rattle.nt_event.specs.declared.commands.Command.{Command}
use Rattle.nt_event.specs.declared.commands.Command.TheVariants.{Alert, Clock, InsertApc, Interrupt, LeaveCrit, LeaveGuard, Queue, Release, Unlock, Unqueue}
use Rattle.nt_event.specs.declared.commands.Reply.{Reply}
use Rattle.nt_event.specs.declared.commands.Reply.TheVariants.{Done, No, Yes}
use Rattle.nt_event.specs.declared.commands.TimerKey.TheVariants.{Delay as DelayKey}
use Rattle.nt_event.specs.declared.events.Event.{Event}
use Rattle.nt_event.specs.declared.events.What.{What}
use Rattle.nt_event.specs.declared.events.What.TheVariants.{Call, End, Expire, Fire, Free, Look, Normal, Rewait, Switch}
use Rattle.nt_event.specs.declared.commands.ApcKind.TheVariants.{Normal as NormalApc}
use Rattle.nt_event.specs.declared.frames.Body.{Body}
use Rattle.nt_event.specs.declared.frames.Body.TheVariants.{Apc as OnApc, Base as OnBase}
use Rattle.nt_event.specs.Apcs.{has_kernel}
use Rattle.nt_event.specs.Replies.{is_refused}
use Rattle.nt_event.specs.Frame.{Frame}
use Rattle.nt_event.specs.declared.jobs.Lane.{Lane}
use Rattle.nt_event.specs.declared.jobs.Stand.{Stand}
use Rattle.nt_event.specs.declared.numbers.CpuNo.{CpuNo}
use Rattle.nt_event.specs.declared.numbers.ThreadNo.{ThreadNo}
use Rattle.nt_event.specs.declared.scripts.Script.{Script}
use Rattle.nt_event.specs.Frames.{Frames, due_of, frames_in, frames_of, innermost, level_in, own_frames, running, thread_frames, thread_part}
use Rattle.nt_event.specs.Lanes.{Lanes, command_lanes, facts_of, what_lanes}
use Rattle.nt_event.specs.Lists.{head_of, is_null, table}
use Rattle.nt_event.specs.Numbers.{is_by, thread}
use Rattle.nt_event.specs.Own.{Own}
use Rattle.nt_event.specs.Regions.{some_came_to_0}
use Rattle.nt_event.specs.Requests.{ask_if, end_asks, what_asks}
use Rattle.nt_event.specs.Step.{level_field, thread_field}
use Rattle.nt_event.specs.Threads.{ThreadFacts}
use Rattle.nt_event.specs.Timers.{Timers}
use Rattle.nt_event.proofs.Tables.{get_or-table, length-table_from}
use Rattle.nt_runs.proofs.Known.{Known}
use Rattle.nt_runs.proofs.Names.{Apart, NotAmong, all_named}
use Rattle.nt_runs.proofs.Running.{same_thread}
use Rattle.nt_alike.specs.Bare.{bare_what}
use Rattle.nt_alike.proofs.Frames.{NamesFrame, NamesInner, OfThread}

-- ---- timers stand apart

-- the facts of an optional thread do not depend on the timers
facts_apart : (l : Lanes) (x : Timers) (t : Option ThreadNo) → facts_of l t ≡ facts_of (record l { timers = x }) t
facts_apart l x None = refl
facts_apart l x (Some t) = refl

-- what the end of a body asks for does not depend on the timers
end_apart : (st : Stand) (b : Option Body) (l : Lanes) (x : Timers) → end_asks st b l ≡ end_asks st b (record l { timers = x })
end_apart st (Some (OnApc a NormalApc)) l x = refl
end_apart st (Some (OnBase t)) l x =
    ap (λ (y : ThreadFacts). ask_if (some_came_to_0 st.regions st.below || has_kernel y.apcs) st.cpu 1) (facts_apart l x st.thread)
end_apart st b l x = refl

-- what an event asks for does not depend on the timers
pub asks_apart : (s : Script) (st : Stand) (w : What) (l : Lanes) (x : Timers) → what_asks s st w l ≡ what_asks s st w (record l { timers = x })
asks_apart s st (Call f (Queue d) Yes) l x = refl
asks_apart s st (Call f (InsertApc a) Yes) l x = refl
asks_apart s st (Call f (Alert t m) No) l x = refl
asks_apart s st (Call f LeaveCrit Done) l x = refl
asks_apart s st (Call f LeaveGuard Done) l x = refl
asks_apart s st (Call f (Release t) Yes) l x = refl
asks_apart s st (Call f (Interrupt q level) Done) l x = refl
asks_apart s st (Call f (Clock units) Done) l x = refl
asks_apart s st (Call f (Unlock k) Done) l x = refl
asks_apart s st (Call f c y) l x = refl
asks_apart s st (Fire d Yes) l x = refl
asks_apart s st (Expire (DelayKey t) from) l x = refl
asks_apart s st (Switch t status) l x = refl
asks_apart s st (End f) l x = end_apart st st.body l x
asks_apart s st w l x = refl

-- the lanes that a command touches do not depend on the timers
commands_apart : (s : Script) (p : CpuNo) (c : Command) (y : Reply) (l : Lanes) (x : Timers) →
    command_lanes s p c y l ≡ command_lanes s p c y (record l { timers = x })
commands_apart s p (Queue d) y l x = refl
commands_apart s p (Unqueue d) y l x = refl
commands_apart s p c y l x = refl

-- which lanes an event touches does not depend on the timers
pub lanes_apart : (s : Script) (st : Stand) (w : What) (l : Lanes) (x : Timers) → what_lanes s st w l ≡ what_lanes s st w (record l { timers = x })
lanes_apart s st (Call f c y) l x = ap (λ (xs : List Lane). if is_refused y then [] else xs) (commands_apart s st.cpu c y l x)
lanes_apart s st (Fire d y) l x = refl
lanes_apart s st w l x = refl

-- ---- in a run an event names the innermost frame

-- a declared thread's part of the frames is that of the history
part_there : (s : Script) (p : CpuNo) (t : ThreadNo) (past : List Event) → nat_lt t.0 (length s.threads) ≡ true →
    frames_in (frames_of s p past).threads t ≡ thread_frames s p t past
part_there s p t past l = get_or-table {A = List Frame} (length s.threads) t.0 (λ t. thread_frames s p (thread t) past) [] (ltb-true t.0 (length s.threads) l)

-- an undeclared thread has no part of the frames
part_none : (s : Script) (p : CpuNo) (t : ThreadNo) (past : List Event) → nat_lt t.0 (length s.threads) ≡ false → frames_in (frames_of s p past).threads t ≡ []
part_none s p t past l =
    let k = length-table_from {A = List Frame} 0 (length s.threads) (λ t. thread_frames s p (thread t) past) in
    let g = ltb-false t.0 (length s.threads) l in
    get_or_past (table (length s.threads) (λ t. thread_frames s p (thread t) past)) t.0 [] (omega (arith, k, g))

-- the frame that is named is innermost, so it is first where it is
inner_own : (x : Frames) (m : ℕ) (frame f : Frame) → innermost x ≡ Some frame → m ≡ frame.name → head_of x.own ≡ Some f → m ≡ f.name
inner_own x m frame f i n h =
    let e : ◌≡◌ {A = Option Frame} (Some f) (Some frame) = sym (rw h refl) ∙ i in n ∙ ap (λ (g : Frame). g.name) (same frame f (sym e))
  where
    same : (a b : Frame) → ◌≡◌ {A = Option Frame} (Some a) (Some b) → a ≡ b
    same a b q = cc

-- the innermost frame's name is that of the running thread's head frame where the own part is empty
inner_thread : (x : Frames) (t : ThreadNo) (fs : List Frame) (m : ℕ) (frame : Frame) → x.running ≡ Some t → frames_in x.threads t ≡ fs →
    innermost x ≡ Some frame →
    m ≡ frame.name → Apart x.own fs → OfThread (is_null x.own) m fs
inner_thread x t fs m frame r e i n a = go x.own refl a
  where
    part : thread_part x ≡ fs
    part = rw r e

    same : (a b : Frame) → ◌≡◌ {A = Option Frame} (Some a) (Some b) → a ≡ b
    same a b q = cc

    go : (gs : List Frame) → x.own ≡ gs → Apart gs fs → OfThread (is_null gs) m fs
    go [] o a =
        record {
          at = λ f h.
              let q : ◌≡◌ {A = Option Frame} (Some f) (Some frame) = sym (rw (o, part, h) refl) ∙ i in
              n ∙ ap (λ (g : Frame). g.name) (sym (same f frame q));
        }
    go (g ∷ gs) o a =
        let q : ◌≡◌ {A = Option Frame} (Some g) (Some frame) = sym (rw o refl) ∙ i in
        let k : g.name ≡ m = ap (λ (z : Frame). z.name) (same g frame q) ∙ sym n in
        subst (λ (j : ℕ). NotAmong j fs) k a.0

-- what an event of the list of next events names
abbrev pub Knows : What → Frames → Type 0
Knows w x = (m : ℕ) → NamesFrame m w → (f : Frame) × (innermost x ≡ Some f) × (m ≡ f.name)

-- what a next event of the processor names is its innermost frame
pub knows : (s : Script) (p : CpuNo) (x : Own) (l : Lanes) (w : What) → Known s p x l w → Knows w x.frames
knows s p x l (Call n c y) k = λ m h. (k.frame, k.goes_on.inner, sym h ∙ k.name)
knows s p x l (Rewait n y) k = λ m h. (k.frame, k.goes_on.inner, sym h ∙ k.name)
knows s p x l (Normal n) k = λ m h. (k.frame, k.goes_on.inner, sym h ∙ k.name)
knows s p x l (End n) k = λ m h. (k.frame, k.goes_on.inner, sym h ∙ k.name)
knows s p x l (Free n lock) k = λ m h. (k.frame, k.goes_on.inner, sym h ∙ k.name)
knows s p x l w k = λ m h. absurd h

-- the innermost frame that an event names is the first of the own part or of its thread's part
pub names_inner : (s : Script) (p : CpuNo) (past : List Event) (e : Event) → Knows e.what (frames_of s p past) →
    (((m : ℕ) → NamesFrame m e.what → ⊥) ⊎ (e.thread ≡ running p past)) →
    NamesInner e (frames_of s p past)
names_inner s p past e k ours =
    record {
      own = λ m f h q. let i = k m h in inner_own (frames_of s p past) m i.0 f i.1 i.2 q;
      thread = λ t b m h. go ours t b m h;
    }
  where
    go : (((m : ℕ) → NamesFrame m e.what → ⊥) ⊎ (e.thread ≡ running p past)) → (t : ThreadNo) → is_by e t ≡ true → (m : ℕ) → NamesFrame m e.what →
        OfThread (is_null (frames_of s p past).own) m (frames_in (frames_of s p past).threads t)
    go (inl none) t b m h = absurd (none m h)
    go (inr o) t b m h = at (nat_lt t.0 (length s.threads)) refl
      where
        r : running p past ≡ Some t
        r = sym o ∙ same_thread e.thread t b

        at : (l : Bool) → nat_lt t.0 (length s.threads) ≡ l → OfThread (is_null (frames_of s p past).own) m (frames_in (frames_of s p past).threads t)
        at true l =
            let i = k m h in
            let q = part_there s p t past l in
            rw q (inner_thread (frames_of s p past) t (thread_frames s p t past) m i.0 r q i.1 i.2 (all_named s p t past).apart)
        at false l =
            let i = k m h in
            let q = part_none s p t past l in
            rw q (inner_thread (frames_of s p past) t [] m i.0 r q i.1 i.2 (apart_none (own_frames p past)))
          where
            apart_none : (gs : List Frame) → Apart gs []
            apart_none [] = tt
            apart_none (g ∷ gs) = (tt, apart_none gs)

-- ---- events made alike

-- events that are the same but for numbers, of the same running thread, have the same thread field
pub thread_same : (w v : What) (r q : Option ThreadNo) → bare_what w ≡ bare_what v → r ≡ q → thread_field w r ≡ thread_field v q
thread_same w v r q h k = one w r ∙ ap (λ (z : What). thread_field z r) h ∙ ap (thread_field (bare_what v)) k ∙ sym (one v q)
  where
    one : (w : What) (r : Option ThreadNo) → thread_field w r ≡ thread_field (bare_what w) r
    one (Switch t st) r = refl
    one (Look x) r = refl
    one w r = refl

-- events that are the same but for numbers, after frames of the same level, have the same level field
pub level_same : (w v : What) (x y : Frames) → bare_what w ≡ bare_what v → level_in x ≡ level_in y → level_field w x ≡ level_field v y
level_same w v x y h k = one w x ∙ ap (λ (z : What). level_of z (level_in x)) h ∙ ap (level_of (bare_what v)) k ∙ sym (one v y)
  where
    level_of : What → ℕ → ℕ
    level_of (Look r) n = 0
    level_of w n = n

    one : (w : What) (x : Frames) → level_field w x ≡ level_of (bare_what w) (level_in x)
    one (Look r) x = refl
    one w x = refl

-- calls that are the same but for numbers, made at the same time, have the same due time
pub due_same : (w v : What) (n m : ℕ) → bare_what w ≡ bare_what v → n ≡ m → due_of w n ≡ due_of v m
due_same w v n m h k = one w n ∙ ap (λ (z : What). due_of z n) h ∙ ap (due_of (bare_what v)) k ∙ sym (one v m)
  where
    one : (w : What) (n : ℕ) → due_of w n ≡ due_of (bare_what w) n
    one (Call f c y) n = refl
    one w n = refl
