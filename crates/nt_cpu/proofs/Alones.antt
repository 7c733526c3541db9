-- Events that touch no lane: their level, their asks, and the lanes.
use Rattle.std.proofs.Common.{ap, sym, ◌∙◌}
use Rattle.std.specs.Prelude.{Bool, List, None, Option, Some, [], false, if◌then◌else◌, length, not, option_map, refl, true, ℕ, ◌&&◌, ◌==◌, ◌||◌, ◌∷◌, ◌≡◌}
use Rattle.nt_event.specs.declared.commands.ApcKind.TheVariants.{Normal as NormalApc, User as UserApc}
use Rattle.nt_event.specs.declared.commands.Command.{Command}
use Rattle.nt_event.specs.declared.commands.Command.TheVariants.{Alert, Clock, EnterCrit, EnterGuard, InsertApc, Interrupt, LeaveCrit, LeaveGuard, Lower, Note}
use Rattle.nt_event.specs.declared.commands.Command.TheVariants.{Queue, Raise, Release, Unlock}
use Rattle.nt_event.specs.declared.commands.Reply.{Reply}
use Rattle.nt_event.specs.declared.commands.Reply.TheVariants.{Blocked, Done, No, Refused, Spin, Status, Yes}
use Rattle.nt_event.specs.declared.events.Begun.TheVariants.{Int}
use Rattle.nt_event.specs.declared.events.Event.{Event}
use Rattle.nt_event.specs.declared.events.What.{What}
use Rattle.nt_event.specs.declared.events.What.TheVariants.{Begin, Call, End, Look, Normal}
use Rattle.nt_event.specs.declared.frames.Body.{Body}
use Rattle.nt_event.specs.declared.frames.Body.TheVariants.{Apc as OnApc, Base as OnBase}
use Rattle.nt_event.specs.Frame.{Frame}
use Rattle.nt_event.specs.declared.jobs.Stand.{Stand}
use Rattle.nt_event.specs.declared.numbers.CpuNo.{CpuNo}
use Rattle.nt_event.specs.declared.scripts.Script.{Script}
use Rattle.nt_event.specs.Commands.{needs_lane}
use Rattle.nt_event.specs.Frames.{Frames, done_to, due_of, frames_after, innermost, is_base_body, level_in, normal_of, thread_part}
use Rattle.nt_event.specs.Lanes.{Lanes, command_lanes, end_lanes, what_lanes}
use Rattle.nt_event.specs.Regions.{ended_level_in, some_came_to_0}
use Rattle.nt_event.specs.Requests.{ask_if, command_asks, end_asks, what_asks}
use Rattle.nt_event.specs.Step.{event_at, level_field, thread_field, unleveled}
use Rattle.nt_event.specs.Lists.{is_null, tail_of}
use Rattle.nt_event.specs.Replies.{is_done, is_refused}
use Rattle.nt_event.proofs.Options.{both, not_true}
use Rattle.nt_frame.specs.Changes.{advanced, at_innermost, on_running, without_innermost}
use Rattle.nt_frame.specs.Nesting.{AreNested}
use Rattle.nt_frame.proofs.After.{after_end, after_int, after_normal}
use Rattle.nt_frame.specs.Rules.{is_frames_own}
use Rattle.nt_frame.proofs.Commands.{call_own, call_plain, call_refused, is_plain}
use Rattle.nt_frame.proofs.Events.{IsOurs}
use Rattle.nt_frame.proofs.Twice.{at_innermost-at_innermost, at_innermost_by}
use Rattle.nt_cpu.specs.Alone.{alone_asks, alone_event, alone_level, as_list, ask_when, call_asks, call_level, ends_alone, is_alone, is_normal_end}
use Rattle.nt_cpu.specs.Fits.{Allow}
use Rattle.nt_cpu.proofs.FramesLeft.{innermost-at_innermost, on_running_own, thread_part_changed}

-- ---- asks

-- a conditional request as a list is the optional request as a list
ask_list : (b : Bool) (p : CpuNo) (k : ℕ) → ask_if b p k ≡ as_list (ask_when b p k)
ask_list true p k = refl
ask_list false p k = refl

-- a call that touches no lane asks for what its own requests say
asks_call : (s : Script) (st : Stand) (c : Command) (y : Reply) (l : Lanes) → (is_refused y || (not (needs_lane c) && is_done y)) ≡ true →
    command_asks s st c y l ≡ as_list (call_asks st c y)
asks_call s st LeaveCrit Done l h = ask_list (st.regions.crit == 1) st.cpu 1
asks_call s st LeaveGuard Done l h = ask_list (st.regions.guard == 1) st.cpu 1
asks_call s st (Interrupt q level) Done l h = refl
asks_call s st (Queue d) Yes l h = absurd cc
asks_call s st (InsertApc a) Yes l h = absurd cc
asks_call s st (Release t) Yes l h = absurd cc
asks_call s st (Alert t m) No l h = absurd cc
asks_call s st (Clock u) Done l h = absurd cc
asks_call s st (Unlock k) Done l h = absurd cc
asks_call s st _ _ l h = refl

-- the end of a frame that touches no lane asks for APCs if a normal routine ended or a region was left
asks_end : (st : Stand) (b : Option Body) (l : Lanes) → ends_alone b ≡ true → end_asks st b l
    ≡ as_list (ask_when (is_normal_end b || some_came_to_0 st.regions st.below) st.cpu 1)
asks_end st (Some (OnApc a NormalApc)) l h = refl
asks_end st (Some (OnApc a UserApc)) l h = absurd cc
asks_end st (Some (OnBase t)) l h = absurd cc
asks_end st None l h = absurd cc
asks_end st _ l h = ask_list (some_came_to_0 st.regions st.below) st.cpu 1

-- what it asks for doesn't depend on the lanes
pub asks_alone : (s : Script) (st : Stand) (w : What) (l : Lanes) → is_alone st.body w ≡ true → what_asks s st w l ≡ as_list (alone_asks st w)
asks_alone s st (Call f c y) l h = asks_call s st c y l h
asks_alone s st (Begin (Int level) from) l h = refl
asks_alone s st (Normal f) l h = ask_list (some_came_to_0 st.regions st.below) st.cpu 1
asks_alone s st (End f) l h = asks_end st st.body l h
asks_alone s st (Look r) l h = refl
asks_alone s st _ l h = absurd cc

-- a call that is done and needs no lane touches none
lanes_call : (s : Script) (p : CpuNo) (c : Command) (y : Reply) (l : Lanes) → (not (needs_lane c) && is_done y) ≡ true → command_lanes s p c y l ≡ []
lanes_call s p (Raise l) y m h = refl
lanes_call s p (Lower l) y m h = refl
lanes_call s p EnterCrit y m h = refl
lanes_call s p EnterGuard y m h = refl
lanes_call s p LeaveCrit y m h = refl
lanes_call s p LeaveGuard y m h = refl
lanes_call s p (Interrupt q l) y m h = refl
lanes_call s p (Note n) y m h = refl
lanes_call s p _ y m h = absurd cc

-- the end of a frame that ends alone touches no lane
lanes_end : (p : CpuNo) (b : Option Body) → ends_alone b ≡ true → end_lanes p b ≡ []
lanes_end p (Some (OnApc a UserApc)) h = absurd cc
lanes_end p (Some (OnBase t)) h = absurd cc
lanes_end p _ h = refl

-- it touches no lane
pub lanes_alone : (s : Script) (st : Stand) (w : What) (l : Lanes) → is_alone st.body w ≡ true → what_lanes s st w l ≡ []
lanes_alone s st (Call f c y) l h = go (is_refused y) h
  where
    go : (b : Bool) → (b || (not (needs_lane c) && is_done y)) ≡ true → (if b then [] else command_lanes s st.cpu c y l) ≡ []
    go true k = refl
    go false k = lanes_call s st.cpu c y l k
lanes_alone s st (Begin (Int level) from) l h = refl
lanes_alone s st (Normal f) l h = refl
lanes_alone s st (End f) l h = lanes_end st.cpu st.body h
lanes_alone s st (Look r) l h = refl
lanes_alone s st _ l h = absurd cc

-- ---- the level

-- a change of the innermost frame makes its level the processor's level
level_changed : (g : Frame → Frame) (x : Frames) (f : Frame) → AreNested x → innermost x ≡ Some f → level_in (at_innermost g x) ≡ (g f).level
level_changed g x f h k = rw (innermost-at_innermost g x h, k) refl

-- the level of a processor is that of its innermost frame
level_here : (x : Frames) (f : Frame) → innermost x ≡ Some f → level_in x ≡ f.level
level_here x f k = rw k refl

-- without its innermost frame a processor has the level of the next frame
level_ended : (x : Frames) → AreNested x → level_in (without_innermost x) ≡ ended_level_in x
level_ended x h = go x.own refl
  where
    go : (os : List Frame) → x.own ≡ os → level_in (without_innermost x) ≡ ended_level_in x
    go [] e =
        let n : is_null x.own ≡ true = rw e refl in
        let o : (on_running tail_of x.running x).own ≡ [] = on_running_own tail_of x x.running ∙ e in
        let t : thread_part (on_running tail_of x.running x) ≡ tail_of (thread_part x) = thread_part_changed tail_of x h refl in
        rw (n, o, t) refl
    go (y ∷ ys) e =
        let n : is_null x.own ≡ false = rw e refl in rw (n) refl

-- a call that is done of a command that touches no lane
done_frames : (s : Script) (n : ℕ) (due : Option ℕ) (e : Event) (x : Frames) (f : Frame) (c : Command) → IsOurs s e x → innermost x ≡ Some f → needs_lane c
    ≡ false → e.what ≡ Call f.name c Done → frames_after s n due e x ≡ at_innermost (λ g. advanced (done_to c g)) x
done_frames s n due e x f c o k b w = go (is_frames_own c) refl
  where
    plain : (c : Command) → is_frames_own c ≡ false → needs_lane c ≡ false → (is_plain c ≡ true) × ((g : Frame) → done_to c g ≡ g)
    plain (Interrupt q l) p q' = (refl, λ g. refl)
    plain (Note m) p q = (refl, λ g. refl)
    plain (Raise l) p q = absurd cc
    plain (Lower l) p q = absurd cc
    plain EnterCrit p q = absurd cc
    plain EnterGuard p q = absurd cc
    plain LeaveCrit p q = absurd cc
    plain LeaveGuard p q = absurd cc
    plain _ p q = absurd cc

    go : (t : Bool) → is_frames_own c ≡ t → frames_after s n due e x ≡ at_innermost (λ g. advanced (done_to c g)) x
    go true t =
        call_own s n due e x f c o k t w ∙ at_innermost-at_innermost advanced (done_to c) x o.nested
    go false t =
        let p = plain c t b in
        call_plain s n due e x f c Done o k p.0 refl refl w
        ∙ at_innermost_by advanced (λ g. advanced (done_to c g)) x (λ g. ap advanced (sym (p.1 g)))

-- what a call that touches no lane leaves of the frames
abbrev pub call_left : Command → Reply → Frame → Frame
call_left c y f = advanced (if is_done y then done_to c f else f)

-- a refused call leaves its frame just advanced
refused_left : (c : Command) (y : Reply) (f : Frame) → is_refused y ≡ true → call_left c y f ≡ advanced f
refused_left c (Refused r) f h = refl
refused_left c Done f h = absurd cc
refused_left c Yes f h = absurd cc
refused_left c No f h = absurd cc
refused_left c Blocked f h = absurd cc
refused_left c Spin f h = absurd cc
refused_left c (Status st) f h = absurd cc

-- a call that touches no lane changes the innermost frame only, by its effect if done and by one more call
pub call_frames : (s : Script) (n : ℕ) (due : Option ℕ) (e : Event) (x : Frames) (f : Frame) (c : Command) (y : Reply) → IsOurs s e x → innermost x ≡ Some f →
    (is_refused y || (not (needs_lane c) && is_done y)) ≡ true → e.what ≡ Call f.name c y → frames_after s n due e x ≡ at_innermost (call_left c y) x
call_frames s n due e x f c (Refused r) o k b w = call_refused s n due e x f c r o k w
call_frames s n due e x f c Done o k b w =
    done_frames s n due e x f c o k (not_true _ (both _ _ b).0) w
call_frames s n due e x f c Yes o k b w = absurd (no (needs_lane c) b)
  where
    no : (t : Bool) → (not t && false) ≡ true → ⊥
    no true q = cc
    no false q = cc
call_frames s n due e x f c No o k b w = absurd (no (needs_lane c) b)
  where
    no : (t : Bool) → (not t && false) ≡ true → ⊥
    no true q = cc
    no false q = cc
call_frames s n due e x f c Blocked o k b w = absurd (no (needs_lane c) b)
  where
    no : (t : Bool) → (not t && false) ≡ true → ⊥
    no true q = cc
    no false q = cc
call_frames s n due e x f c Spin o k b w = absurd (no (needs_lane c) b)
  where
    no : (t : Bool) → (not t && false) ≡ true → ⊥
    no true q = cc
    no false q = cc
call_frames s n due e x f c (Status st) o k b w = absurd (no (needs_lane c) b)
  where
    no : (t : Bool) → (not t && false) ≡ true → ⊥
    no true q = cc
    no false q = cc

-- a call that is not done leaves the level as it was
undone_level : (c : Command) (y : Reply) (n : ℕ) → is_done y ≡ false → call_level c y n ≡ n
undone_level (Raise l) Done n h = absurd cc
undone_level (Lower l) Done n h = absurd cc
undone_level _ _ n h = refl

-- case: a done call leaves its frame at the level that the call says
done_level : (c : Command) (f : Frame) → (call_left c Done f).level ≡ call_level c Done f.level
done_level (Raise l) f = refl
done_level (Lower l) f = refl
done_level EnterCrit f = refl
done_level EnterGuard f = refl
done_level LeaveCrit f = refl
done_level LeaveGuard f = refl
done_level _ f = refl

-- a call leaves its frame at the level that the call says
call_left_level : (c : Command) (y : Reply) (f : Frame) → (call_left c y f).level ≡ call_level c y f.level
call_left_level c Done f = done_level c f
call_left_level c Yes f = sym (undone_level c Yes f.level refl)
call_left_level c No f = sym (undone_level c No f.level refl)
call_left_level c Spin f = sym (undone_level c Spin f.level refl)
call_left_level c Blocked f = sym (undone_level c Blocked f.level refl)
call_left_level c (Status st) f = sym (undone_level c (Status st) f.level refl)
call_left_level c (Refused r) f = sym (undone_level c (Refused r) f.level refl)

-- neither its due time nor its number matters to its level
pub level_alone : (s : Script) (n : ℕ) (due : Option ℕ) (e : Event) (w : What) (x : Frames) → e.what ≡ w → AreNested x → length x.threads ≡ length s.threads →
    e.thread ≡ thread_field w x.running → is_alone (option_map (λ f. f.body) (innermost x)) w ≡ true → Allow s w x → level_field w (frames_after s n due e x)
    ≡ alone_level w x
level_alone s n due e (Call f c y) x q h l t b a =
    let i = a.0 in
    let o : IsOurs s e x = record { nested = h; threads = l; thread = t } in
    let k : e.what ≡ Call i.frame.name c y = q ∙ ap (λ (m : ℕ). Call m c y) (sym i.name) in
    ap level_in (call_frames s n due e x i.frame c y o i.is b k)
    ∙ level_changed (call_left c y) x i.frame h i.is
    ∙ call_left_level c y i.frame
    ∙ ap (call_level c y) (sym (level_here x i.frame i.is))
level_alone s n due e (Begin (Int level) from) x q h l t b a =
    ap level_in (after_int s n due e x level from (record { nested = h; threads = l; thread = t }) q)
level_alone s n due e (Normal f) x q h l t b a =
    let i = a.0 in
    let k : e.what ≡ Normal i.frame.name = q ∙ ap Normal (sym i.name) in
    ap level_in (after_normal s n due e x i.frame (record { nested = h; threads = l; thread = t }) i.is a.1 k)
    ∙ level_changed normal_of x i.frame h i.is
level_alone s n due e (End f) x q h l t b a =
    let i = a.0 in
    let k : e.what ≡ End i.frame.name = q ∙ ap End (sym i.name) in
    let r : is_base_body i.frame.body ≡ false = no_base i.frame.body (rw i.is at b) in
    ap level_in (after_end s n due e x i.frame (record { nested = h; threads = l; thread = t }) i.is r k)
    ∙ level_ended x h
  where
    no_base : (b : Body) → ends_alone (Some b) ≡ true → is_base_body b ≡ false
    no_base (OnBase u) k = absurd cc
    no_base _ k = refl
level_alone s n due e (Look r) x q h l t b a = refl
level_alone s n due e _ x q h l t b a = absurd cc

-- so it is the event that the definitions name
pub event_alone : (s : Script) (p : CpuNo) (w : What) (x : Frames) → AreNested x → length x.threads ≡ length s.threads →
    is_alone (option_map (λ f. f.body) (innermost x)) w ≡ true → Allow s w x → event_at s p w x ≡ alone_event p w x
event_alone s p w x h l b a =
    ap (λ (k : ℕ). record (unleveled p w x) { level = k }) (level_alone s 0 None (unleveled p w x) w x refl h l refl b a)

-- a due time doesn't matter to what it leaves of the frames
pub due_alone : (s : Script) (n now : ℕ) (e : Event) (x : Frames) → AreNested x → length x.threads ≡ length s.threads → e.thread
    ≡ thread_field e.what x.running → is_alone (option_map (λ f. f.body) (innermost x)) e.what ≡ true → Allow s e.what x →
    frames_after s n (due_of e.what now) e x ≡ frames_after s n None e x
due_alone s n now e x h l t b a = go e.what refl
  where
    none : (w : What) → e.what ≡ w → due_of w now ≡ None → frames_after s n (due_of e.what now) e x ≡ frames_after s n None e x
    none w q k =
        ap (λ (d : Option ℕ). frames_after s n d e x) (ap (λ (v : What). due_of v now) q ∙ k)

    go : (w : What) → e.what ≡ w → frames_after s n (due_of e.what now) e x ≡ frames_after s n None e x
    go (Call f c y) q =
        let i = (rw q at a).0 in
        let o : IsOurs s e x = record { nested = h; threads = l; thread = rw q at t } in
        let k : e.what ≡ Call i.frame.name c y = q ∙ ap (λ (m : ℕ). Call m c y) (sym i.name) in
        call_frames s n (due_of e.what now) e x i.frame c y o i.is (rw q at b) k ∙ sym (call_frames s n None e x i.frame c y o i.is (rw q at b) k)
    go (Begin z from) q = none (Begin z from) q refl
    go (Normal f) q = none (Normal f) q refl
    go (End f) q = none (End f) q refl
    go (Look r) q = none (Look r) q refl
    go w q = none w q refl
