-- In a run each open frame stands as the walk of its site does at its place.
use Rattle.std.proofs.Common.{ap, arith, subst, sym, zero-add, ◌∙◌}
use Rattle.std.proofs.lemmas.Bool.{ltb-true}
use Rattle.std.specs.Option.{option_map_or, option_or}
use Rattle.std.specs.Prelude.{Bool, List, None, Option, Some, [], false, if◌then◌else◌, is_none, is_some, nat_lt, not, option_and_then, option_map, refl}
use Rattle.std.specs.Prelude.{slice_get, true, ℕ, ◌&&◌, ◌+◌, ◌==◌, ◌∷◌}
use Rattle.std.specs.Prelude.{◌≡◌, ◌≤◌}
use Rattle.nt_event.specs.declared.commands.Command.{Command}
use Rattle.nt_event.specs.declared.commands.Command.TheVariants.{Acquire, Alert, CancelTimer, Delay, EnterCrit, EnterGuard, InsertApc, LeaveCrit, LeaveGuard}
use Rattle.nt_event.specs.declared.commands.Command.TheVariants.{Lower, Queue, Raise, Release, RemoveApc, SetTimer, StartWait, TestAlert, ToUser, Unlock}
use Rattle.nt_event.specs.declared.commands.Command.TheVariants.{Unqueue}
use Rattle.nt_event.specs.declared.commands.Mode.{Mode}
use Rattle.nt_event.specs.declared.commands.Refusal.{Refusal}
use Rattle.nt_event.specs.declared.commands.Refusal.TheVariants.{HeldHere, NotBase, RegionsOpen, TooHigh}
use Rattle.nt_event.specs.declared.commands.Regions.{Regions}
use Rattle.nt_event.specs.declared.commands.Reply.{Reply}
use Rattle.nt_event.specs.declared.commands.Reply.TheVariants.{Blocked, Done, Refused, Spin, Status}
use Rattle.nt_event.specs.declared.events.Event.{Event}
use Rattle.nt_event.specs.declared.frames.Body.{Body}
use Rattle.nt_event.specs.declared.frames.Body.TheVariants as on
use Rattle.nt_event.specs.declared.frames.Held.{Held}
use Rattle.nt_event.specs.declared.inserts.Part.TheVariants.{Ordinary as OrdinaryPart, Threaded as ThreadedPart}
use Rattle.nt_event.specs.declared.jobs.Stand.{Stand}
use Rattle.nt_event.specs.declared.numbers.CpuNo.{CpuNo}
use Rattle.nt_event.specs.declared.numbers.LockNo.{LockNo}
use Rattle.nt_event.specs.declared.numbers.ThreadNo.{ThreadNo}
use Rattle.nt_event.specs.declared.scripts.Script.{Script}
use Rattle.nt_event.specs.Apcs.{deliverable, has_user}
use Rattle.nt_event.specs.Commands.{holds, is_reached, not_above, refusal, refuse, reply}
use Rattle.nt_event.specs.Frame.{Frame}
use Rattle.nt_event.specs.Frames.{called, ended_base, frames_of, freed, innermost, is_apc_body, is_base_body, new_frame, normal_of, own_frames}
use Rattle.nt_event.specs.Frames.{place_after, resumed, rewaited, thread_frames, thread_part}
use Rattle.nt_event.specs.Jobs.{has_normal, level_at}
use Rattle.nt_event.specs.Lanes.{Lanes, facts_of, lanes_at, lock_at}
use Rattle.nt_event.specs.Lists.{head_of, is_null}
use Rattle.nt_event.specs.Own.{Own, own_of, stand_in}
use Rattle.nt_event.specs.Regions.{is_open, regions_of}
use Rattle.nt_event.specs.Replies.{alerted, is_refused, is_spin, is_user, kernel_apc, satisfied, user_apc, yes_if}
use Rattle.nt_event.specs.Routines.{command_at, next_command, part_of, routine_of}
use Rattle.nt_event.specs.Step.{IsRun}
use Rattle.nt_event.specs.Threads.{ThreadFacts, is_alerted}
use Rattle.nt_event.specs.Waits.{is_satisfied, wait_reply}
use Rattle.nt_runs.proofs.Calm.{level_inner}
use Rattle.nt_runs.proofs.Known.{KnownCall, KnownFree, KnownNormal, refusal_in, reply_or}
use Rattle.nt_runs.proofs.Locked.{Locked, move_low, null_of_head}
use Rattle.nt_runs.proofs.OwnPart.{AllOwn, all_own, is_own_body}
use Rattle.nt_runs.proofs.Parts.{inner_locked}
use Rattle.nt_runs.proofs.Running.{called_keeps, part_of_running, running_has_base, running_here}
use Rattle.nt_runs.proofs.Shared.{part_head, thread_runs}
use Rattle.nt_runs.proofs.Spins.{spin_acquires}
use Rattle.nt_runs.proofs.ThreadFrames.{Each, Sound, called_phase, sound_frames}
use Rattle.nt_runs.specs.Laws.{HasBase}
use Rattle.nt_runs.specs.SomeFrame.{among}
use Rattle.nt_verify.proofs.Stepping.{Walks, done_walks, is_acquire, is_done_or_spins, level_same, other_walks, refused_same, refused_walks, spun_walks}
use Rattle.nt_verify.proofs.Walking.{walked_more}
use Rattle.nt_verify.specs.declared.site.Site.{Site}
use Rattle.nt_verify.specs.Sites.{body_at, commands_at, first_frame, routine_at, site_in, site_of}
use Rattle.nt_verify.specs.Laws.{told}
use Rattle.nt_verify.specs.Walks.{called_in, expected_at, expected_in, frame_at, is_own, refused_in, regions_in}

-- the walk's frame at the place of an open frame
abbrev pub walk_of : Script → CpuNo → Frame → Frame
walk_of s p f = frame_at s (site_of p f) f.place

-- a DPC runs as one of the part in which its object stands
abbrev pub IsOfPart : Script → Body → Type 0
IsOfPart s (on.Dpc d) = part_of s d ≡ OrdinaryPart
IsOfPart s (on.Threaded d) = part_of s d ≡ ThreadedPart
IsOfPart s (on.Int level) = Unit {0}
IsOfPart s (on.Apc a kind) = Unit {0}
IsOfPart s (on.Base t) = Unit {0}
IsOfPart s (on.Rundown a) = Unit {0}

pub record Agrees (s : Script) (p : CpuNo) (f : Frame) : Type 0 where
  pub part : IsOfPart s f.body
  pub site : f.body ≡ body_at s (site_of p f)
  pub walks : (c : Command) → next_command s p f ≡ Some c → Walks (walk_of s p f) f

-- anything follows if false equals true
no_bool : {A : Type 0} → false ≡ true → A
no_bool h = cc

-- ---- the commands of a site

-- the routine declared at the site of a frame's body is the routine that the body runs
routine_same : (s : Script) (p : CpuNo) (b : Body) (k : Bool) → routine_at s (site_in p k b) ≡ routine_of s p b k
routine_same s p (on.Int level) k = refl
routine_same s p (on.Dpc d) k = refl
routine_same s p (on.Threaded d) k = refl
routine_same s p (on.Apc a kind) true = refl
routine_same s p (on.Apc a kind) false = refl
routine_same s p (on.Base t) k = refl
routine_same s p (on.Rundown a) k = refl

-- a frame's next command stands at its place of its site
pub next_at : (s : Script) (p : CpuNo) (f : Frame) (c : Command) → next_command s p f ≡ Some c → slice_get (commands_at s (site_of p f)) f.place ≡ Some c
next_at s p f c h = go f.leaving h
  where
    go : (b : Bool) → (if b then None else command_at s p f.body f.kernel_phase f.place) ≡ Some c → slice_get (commands_at s (site_of p f)) f.place ≡ Some c
    go true e = cc
    go false e = rw (routine_same s p f.body f.kernel_phase) e

-- ---- frames that begin

-- the frame that a body begins stands as the first frame of its site, if that site gives the body back
first_walks : (s : Script) (p : CpuNo) (n : ℕ) (b : Body) → b ≡ body_at s (site_in p (is_apc_body b) b) →
    Walks (first_frame s (site_in p (is_apc_body b) b)) (new_frame n b)
first_walks s p n (on.Int level) e =
    record { body = refl; phase = refl; crit = refl; guard = refl; held = refl; level = refl; quiet = refl; low = λ z. no_bool z }
first_walks s p n (on.Dpc d) e =
    record { body = refl; phase = refl; crit = refl; guard = refl; held = refl; level = refl; quiet = refl; low = λ z. no_bool z }
first_walks s p n (on.Threaded d) e =
    record { body = refl; phase = refl; crit = refl; guard = refl; held = refl; level = refl; quiet = refl; low = λ z. no_bool z }
first_walks s p n (on.Apc a kind) e =
    record { body = sym e; phase = refl; crit = refl; guard = refl; held = refl; level = refl; quiet = refl; low = λ z. no_bool z }
first_walks s p n (on.Base t) e =
    record { body = refl; phase = refl; crit = refl; guard = refl; held = refl; level = refl; quiet = refl; low = λ z. no_bool z }
first_walks s p n (on.Rundown a) e =
    record { body = refl; phase = refl; crit = refl; guard = refl; held = refl; level = refl; quiet = refl; low = λ z. no_bool z }

-- a new frame stands as the walk of its site begins, if its body is that of the site
pub new_agrees : (s : Script) (p : CpuNo) (n : ℕ) (b : Body) → IsOfPart s b → b ≡ body_at s (site_in p (is_apc_body b) b) → Agrees s p (new_frame n b)
new_agrees s p n b q e = record { part = q; site = e; walks = λ c h. first_walks s p n b e }

-- an APC's normal routine
normal_site : (s : Script) (p : CpuNo) (b : Body) (k : Bool) → has_normal b ≡ true → b ≡ body_at s (site_in p k b) → b ≡ body_at s (site_in p false b)
normal_site s p (on.Apc a kind) true n e = e
normal_site s p (on.Apc a kind) false n e = e
normal_site s p b k n e = cc

-- an APC frame that enters its normal routine stands as that site's first frame, if it holds no lock
normal_walks : (s : Script) (p : CpuNo) (b : Body) (f : Frame) → has_normal b ≡ true → f.body ≡ b → b ≡ body_at s (site_in p false b) → f.held ≡ [] →
    Walks (first_frame s (site_in p false b)) (normal_of f)
normal_walks s p (on.Apc a kind) f n e q h =
    record { body = sym q ∙ sym e; phase = refl; crit = refl; guard = refl; held = sym h; level = refl; quiet = refl; low = λ z. no_bool z }
normal_walks s p b f n e q h = cc

-- a frame that goes on to its APC's normal routine stands as the walk of that routine begins
pub normal_agrees : (s : Script) (p : CpuNo) (x : Own) (n : ℕ) (k : KnownNormal s p x n) → Agrees s p k.frame → Agrees s p (normal_of k.frame)
normal_agrees s p x n k h =
    let q = normal_site s p k.frame.body k.frame.kernel_phase k.normal h.site in
    record { part = h.part; site = q; walks = λ c e. normal_walks s p k.frame.body k.frame k.normal refl q (null_of_head k.frame.held k.free) }

-- ---- frames that have no next command

-- an option can't be both none and some
none_some : {A B : Type 0} (o : Option A) (a : A) → o ≡ None → o ≡ Some a → B
none_some None a e h = cc
none_some (Some b) a e h = cc

-- a frame with no next command that frees its last spin lock still stands as its walk does
pub freed_agrees : (s : Script) (p : CpuNo) (x : Own) (n : ℕ) (l : LockNo) (k : KnownFree s p x n l) → Agrees s p k.frame → Agrees s p (freed k.frame)
freed_agrees s p x n l k h = record { part = h.part; site = h.site; walks = λ c e. none_some (next_command s p k.frame) c k.command e }

-- the site of a base body gives back that body
base_site : (s : Script) (p : CpuNo) (b : Body) (k : Bool) → is_base_body b ≡ true → b ≡ body_at s (site_in p k b)
base_site s p (on.Base t) k h = refl
base_site s p b k h = cc

-- a base frame that ends still stands as its walk does
pub ended_agrees : (s : Script) (p : CpuNo) (f : Frame) → is_base_body f.body ≡ true → Agrees s p f → Agrees s p (ended_base f)
ended_agrees s p f b h = record { part = h.part; site = base_site s p f.body f.kernel_phase b; walks = λ c e. none_some {A = Command} None c refl e }

-- a frame whose thread is switched to still stands as its walk does, whatever its wait's status
pub resumed_agrees : (s : Script) (p : CpuNo) (status : Option ℕ) (f : Frame) → Agrees s p f → Agrees s p (resumed status f)
resumed_agrees s p None f h = h
resumed_agrees s p (Some x) f h =
    record {
      part = h.part;
      site = h.site;
      walks = λ c e. let w = h.walks c e in record {
        body = w.body;
        phase = w.phase;
        crit = w.crit;
        guard = w.guard;
        held = w.held;
        level = w.level;
        quiet = w.quiet;
        low = w.low;
      };
    }

-- a frame that takes up its wait again still stands as its walk does, whatever the reply
pub rewaited_agrees : (s : Script) (p : CpuNo) (y : Reply) (f : Frame) → Agrees s p f → Agrees s p (rewaited y f)
rewaited_agrees s p y f h =
    record {
      part = h.part;
      site = h.site;
      walks = λ c e. let w = h.walks c e in record {
        body = w.body;
        phase = w.phase;
        crit = w.crit;
        guard = w.guard;
        held = w.held;
        level = w.level;
        quiet = w.quiet;
        low = w.low;
      };
    }

-- ---- a frame that calls is alone in what its tests ask

-- the two tests of a body being a processor's own give the same answer
own_same : (b : Body) → is_own_body b ≡ is_own b
own_same (on.Int level) = refl
own_same b = refl

-- if each of a thread's frames is sound, the innermost one has no body of a processor's own
head_sound : (fs : List Frame) (f : Frame) → Each Sound fs → head_of fs ≡ Some f → is_own_body f.body ≡ false
head_sound [] f h e = cc
head_sound (g ∷ fs) f h e = let same : g ≡ f = cc in subst (λ (x : Frame). is_own_body x.body ≡ false) same h.0.2

-- in a run the processor's own part has frames exactly if the innermost frame is an interrupt or a DPC
pub stands_own : (s : Script) (limit : ℕ) (p : CpuNo) (past : List Event) (f : Frame) → IsRun s limit past → innermost (frames_of s p past) ≡ Some f →
    not (is_null (own_frames p past)) ≡ is_own f.body
stands_own s limit p past f r h = go (own_frames p past) refl (all_own p past)
  where
    go : (gs : List Frame) → own_frames p past ≡ gs → AllOwn gs → not (is_null gs) ≡ is_own f.body
    go [] o a =
        let null : is_null (own_frames p past) ≡ true = ap (λ (gs : List Frame). is_null gs) o in
        let t = thread_runs (frames_of s p past) f h null in
        let here = running_here s limit p t.0 past r t.1 in
        let part : thread_part (frames_of s p past) ≡ thread_frames s p t.0 past = part_of_running s p t.0 past here.0 t.1 in
        let low = head_sound (thread_frames s p t.0 past) f (sound_frames s limit p t.0 past r)
        (ap head_of (sym part) ∙ part_head (frames_of s p past) f h null) in
        sym (sym (own_same f.body) ∙ low)
    go (g ∷ gs) o a =
        let first : option_or (head_of (g ∷ gs)) (head_of (thread_part (frames_of s p past)))
        ≡ Some f = subst (λ (gs : List Frame). option_or (head_of gs) (head_of (thread_part (frames_of s p past))) ≡ Some f) o h in
        let same : g ≡ f = cc in
        let high : is_own_body f.body ≡ true = subst (λ (x : Frame). is_own_body x.body ≡ true) same a.0.0 in
        sym (sym (own_same f.body) ∙ high)

-- if a base frame is the innermost of a thread's frames, it is the only one
base_alone : (t : ThreadNo) (fs : List Frame) (f : Frame) → HasBase t fs → head_of fs ≡ Some f → is_base_body f.body ≡ true → fs ≡ f ∷ []
base_alone t [] f h e b = absurd h
base_alone t (g ∷ []) f h e b = let same : g ≡ f = cc in ap (λ (x : Frame). x ∷ []) same
base_alone t (g ∷ (i ∷ fs)) f h e b =
    let same : g ≡ f = cc in let no : is_base_body f.body ≡ false = subst (λ (x : Frame). is_base_body x.body ≡ false) same h.0.0 in no_bool (sym no ∙ b)

-- the regions of a single frame alone are open if and only if those in the frame are
open_alone : (f : Frame) → is_open (regions_of (f ∷ [])) ≡ is_open (regions_in f)
open_alone f =
    ap (λ (n : ℕ). not ((n == 0) && ((0 + f.guard) == 0))) (zero-add f.crit) ∙ ap (λ (n : ℕ). not ((f.crit == 0) && (n == 0))) (zero-add f.guard)

-- the base frame of a thread, where it is innermost, has entered all that its thread has
base_open : (s : Script) (limit : ℕ) (p : CpuNo) (past : List Event) (f : Frame) → IsRun s limit past → innermost (frames_of s p past) ≡ Some f →
    is_null (own_frames p past) ≡ true → is_base_body f.body ≡ true → is_open (regions_of (thread_part (frames_of s p past))) ≡ is_open (regions_in f)
base_open s limit p past f r h null b =
    let t = thread_runs (frames_of s p past) f h null in
    let based = running_has_base s limit p t.0 past r t.1 in
    let alone = base_alone t.0 (thread_part (frames_of s p past)) f based.2 (part_head (frames_of s p past) f h null) b in
    ap (λ (fs : List Frame). is_open (regions_of fs)) alone ∙ open_alone f

-- the regions of others count for `touser` alone, and there is none where it could pass
regions_same : (level : ℕ) (own : Bool) (q r : Regions) (f : Frame) (c : Command) → (own ≡ false → is_base_body f.body ≡ true → is_open q ≡ is_open r) →
    refusal level own q f c ≡ refusal level own r f c
regions_same level true q r f ToUser h = refl
regions_same level false q r f ToUser h = go (is_base_body f.body) refl
  where
    go : (b : Bool) → is_base_body f.body ≡ b → refuse (not b) NotBase (not_above 0 level (refuse (is_open q) RegionsOpen None))
        ≡ refuse (not b) NotBase (not_above 0 level (refuse (is_open r) RegionsOpen None))
    go false e = refl
    go true e = ap (λ (o : Bool). not_above 0 level (refuse o RegionsOpen None)) (h refl e)
regions_same level own q r f c h = refl

-- a truth value whose negation is false is true
not_null : (b : Bool) → not b ≡ false → b ≡ true
not_null true h = refl
not_null false h = cc

-- the innermost frame's refusal is what it would be alone
pub refused_alone : (s : Script) (limit : ℕ) (p : CpuNo) (past : List Event) (f : Frame) (c : Command) → IsRun s limit past →
    innermost (frames_of s p past) ≡ Some f → refusal_in (own_of s p past) f c ≡ refused_in f c
refused_alone s limit p past f c r h =
    let x = own_of s p past in
    regions_same (level_at x) (not (is_null (own_frames p past))) (regions_of (thread_part (frames_of s p past))) (regions_in f) f c
    (λ o b. base_open s limit p past f r h (not_null (is_null (own_frames p past)) o) b)
    ∙ (ap (λ (l : ℕ). refusal l (not (is_null (own_frames p past))) (regions_in f) f c) (level_inner x f h)
    ∙ ap (λ (o : Bool). refusal f.level o (regions_in f) f c) (stands_own s limit p past f r h))

-- ---- a frame that calls

-- no option that is none is equal to one with a held lock
no_held : {A : Type 0} (h : Held) → ◌≡◌ {A = Option Held} None (Some h) → A
no_held h e = cc

-- two commands that are equal as options are equal
same_command : (c d : Command) → ◌≡◌ {A = Option Command} (Some c) (Some d) → c ≡ d
same_command c d e = cc

-- a frame that spins comes to an acquire next, which isn't refused
pub acquire_passes : (level : ℕ) (own : Bool) (q : Regions) (f : Frame) (k : LockNo) → level ≤ 2 → among k f.held ≡ false →
    refusal level own q f (Acquire k) ≡ None
acquire_passes level own q f k l n = go (nat_lt 2 level) refl
  where
    go : (b : Bool) → nat_lt 2 level ≡ b → refuse b TooHigh (refuse (holds k f) HeldHere None) ≡ None
    go true e = absurd (high e)
      where
        high : nat_lt 2 level ≡ true → ⊥
        high q = let z = ltb-true 2 level q in omega (arith, l, z)
    go false e = ap (λ (b : Bool). refuse b HeldHere None) n

-- a reply that is no refusal and no spin, of a command that is done or spins, is Done
done_or_spin : (s : Script) (st : Stand) (l : Lanes) (c : Command) → is_done_or_spins c ≡ true → is_spin (reply s st l c) ≡ false → reply s st l c ≡ Done
done_or_spin s st l (Acquire k) d n = go (is_none (lock_at l k).holder) n
  where
    go : (b : Bool) → is_spin (if b then Done else Spin) ≡ false → (if b then Done else Spin) ≡ Done
    go true e = refl
    go false e = cc
done_or_spin s st l (Unlock k) d n = refl
done_or_spin s st l (Raise level) d n = refl
done_or_spin s st l (Lower level) d n = refl
done_or_spin s st l EnterCrit d n = refl
done_or_spin s st l EnterGuard d n = refl
done_or_spin s st l LeaveCrit d n = refl
done_or_spin s st l LeaveGuard d n = refl
done_or_spin s st l c d n = cc

-- a reply that tests as a spin is a spin
spin_is : (y : Reply) → is_spin y ≡ true → Spin ≡ y
spin_is Spin h = refl
spin_is y h = cc

-- a command that is neither done at once nor spins is no acquire
no_acquire : (c : Command) → is_done_or_spins c ≡ false → is_acquire c ≡ false
no_acquire (Acquire k) h = cc
no_acquire c h = refl

-- ---- no command that is made is told as refused

-- a reply of yes or no is no refusal
yes_accepts : (b : Bool) → is_refused (yes_if b) ≡ false
yes_accepts true = refl
yes_accepts false = refl

-- the reply to a wait is no refusal, whatever state the thread and the object are in
wait_accepts : (x : ThreadFacts) (r : Regions) (level : ℕ) (m : Mode) (a : Bool) (o : Option Bool) → is_refused (wait_reply x r level m a o) ≡ false
wait_accepts x r level m a o =
    ifs (is_some (deliverable x.apcs r level)) (is_satisfied x o) (a && is_alerted m x) (a && (is_user m && has_user x.apcs)) (a && x.alerted_kernel)
    (not a && (is_user m && x.user_pending))
  where
    ifs : (a b c d e f : Bool) → is_refused (if a then Status kernel_apc else (if b then Status satisfied else (if c then Status alerted
        else (if d then Status user_apc else (if e then Status alerted else (if f then Status user_apc else Blocked)))))) ≡ false
    ifs true b c d e f = refl
    ifs false true c d e f = refl
    ifs false false true d e f = refl
    ifs false false false true e f = refl
    ifs false false false false true f = refl
    ifs false false false false false true = refl
    ifs false false false false false false = refl

-- the reply to a command that is made is no refusal, whatever states the lanes are in
accepts : (s : Script) (st : Stand) (l : Lanes) (c : Command) → is_refused (reply s st l c) ≡ false
accepts s st l (Acquire k) = go (is_none (lock_at l k).holder)
  where
    go : (b : Bool) → is_refused (if b then Done else Spin) ≡ false
    go true = refl
    go false = refl
accepts s st l (StartWait m a) = wait_accepts (facts_of l st.thread) st.regions st.level m a None
accepts s st l (Delay m a u) =
    wait_accepts (facts_of l st.thread) st.regions st.level m a (Some (is_reached l.timers.now (l.timers.now + u)))
accepts s st l (Queue d) = yes_accepts _
accepts s st l (Unqueue d) = yes_accepts _
accepts s st l (SetTimer t due period) = yes_accepts _
accepts s st l (CancelTimer t) = yes_accepts _
accepts s st l (InsertApc a) = yes_accepts _
accepts s st l (RemoveApc a) = yes_accepts _
accepts s st l (Release t) = yes_accepts _
accepts s st l (Alert t m) = yes_accepts _
accepts s st l (TestAlert m) = yes_accepts _
accepts s st l c = refl

-- a reply that is no refusal tells of no refusal at any IRQL
none_told : (y : Reply) (level : ℕ) → is_refused y ≡ false → told y level ≡ None
none_told (Refused r) level h = cc
none_told y level h = refl

-- what holds of a call of a run, and of the frame that makes it
module _ (s : Script) (limit : ℕ) (p : CpuNo) (past : List Event) (r : IsRun s limit past) (n : ℕ) (c : Command) (y : Reply)
    (k : KnownCall s p (own_of s p past) (lanes_at s past) n c y) (h : Agrees s p k.frame) where
  abbrev f : Frame
  f = k.frame

  abbrev w : Frame
  w = walk_of s p k.frame

  abbrev x : Own
  x = own_of s p past

  abbrev answer : Reply
  answer = reply s (stand_in p (own_of s p past)) (lanes_at s past) c

  walks : Walks w f
  walks = h.walks c k.command

  locked : Locked s p f
  locked = inner_locked s limit p past f r k.goes_on.inner

  -- where it spins, the command is the acquire that is tried again, and the tests of both pass it
  tried : (g : Held) → f.spin ≡ Some g → c ≡ Acquire g.lock
  tried g e = same_command c (Acquire g.lock) (sym k.command ∙ (locked.retry g e).0)

  spun_passes : (g : Held) → f.spin ≡ Some g → (refusal_in x f c ≡ None) × (refused_in w c ≡ None)
  spun_passes g e =
      let free = (locked.retry g e).1 in
      let at = locked.spun (ap is_some e) in
      let level : level_at x ≡ f.level = level_inner x f k.goes_on.inner in
      let a : refusal_in x f (Acquire g.lock) ≡ None = acquire_passes (level_at x) (not (is_null x.frames.own)) (regions_of (thread_part x.frames)) f g.lock
      (omega (arith, level, at)) free in
      let b : refused_in w (Acquire g.lock) ≡ None = acquire_passes w.level (is_own w.body) (regions_in w) w g.lock (walks.low (ap is_some e))
      (ap (λ (hs : List Held). among g.lock hs) walks.held ∙ free) in
      let q = sym (tried g e) in
      (subst (λ (d : Command). refusal_in x f d ≡ None) q a, subst (λ (d : Command). refused_in w d ≡ None) q b)

  calm : is_acquire c ≡ false → f.spin ≡ None
  calm a = go f.spin refl
    where
      go : (o : Option Held) → f.spin ≡ o → f.spin ≡ None
      go None e = e
      go (Some g) e = no_bool (sym a ∙ ap is_acquire (tried g e))

  calm_refused : (q : Refusal) → refusal_in x f c ≡ Some q → f.spin ≡ None
  calm_refused q a = go f.spin refl
    where
      go : (o : Option Held) → f.spin ≡ o → f.spin ≡ None
      go None e = e
      go (Some g) e = none_some (refusal_in x f c) q (spun_passes g e).0 a

  -- the tests give the same in both
  pub refused_both : refusal_in x f c ≡ refused_in w c
  refused_both = go f.spin refl
    where
      go : (o : Option Held) → f.spin ≡ o → refusal_in x f c ≡ refused_in w c
      go None e = refused_alone s limit p past f c r k.goes_on.inner ∙ sym (refused_same w f c walks e)
      go (Some g) e = let z = spun_passes g e in z.0 ∙ sym z.1

  -- ---- what it leaves

  site_stays : (due : Option ℕ) → site_of p (called due c y f) ≡ site_of p f
  site_stays due =
      ap (λ (b : Body). site_in p (called due c y f).kernel_phase b) ((called_keeps due c y).body f)
      ∙ ap (λ (b : Bool). site_in p b f.body) (called_phase due c y f)

  walk_stays : (due : Option ℕ) → is_spin y ≡ true → walk_of s p (called due c y f) ≡ w
  walk_stays due e =
      ap (λ (z : Site). frame_at s z (place_after y f.place)) (site_stays due)
      ∙ ap (λ (b : Bool). frame_at s (site_of p f) (if b then f.place else (f.place + 1))) e

  walk_moves : (due : Option ℕ) → is_spin y ≡ false → walk_of s p (called due c y f) ≡ called_in w c
  walk_moves due e =
      ap (λ (z : Site). frame_at s z (place_after y f.place)) (site_stays due)
      ∙ (ap (λ (b : Bool). frame_at s (site_of p f) (if b then f.place else (f.place + 1))) e
      ∙ walked_more (first_frame s (site_of p f)) (commands_at s (site_of p f)) f.place c (next_at s p f c k.command))

  spin_low : is_spin y ≡ true → refusal_in x f c ≡ None → y ≡ answer → (is_acquire c ≡ true) × (w.level ≤ 2)
  spin_low e a q =
      let z = spin_acquires s (stand_in p x) (lanes_at s past) c (spin_is y e ∙ q) in
      (ap is_acquire z.1, go z.0 z.1 f.spin refl)
    where
      go : (l : LockNo) → c ≡ Acquire l → (o : Option Held) → f.spin ≡ o → w.level ≤ 2
      go l z (Some g) b = walks.low (ap is_some b)
      go l z None b =
          let passes : refusal_in x f (Acquire l) ≡ None = subst (λ (d : Command). refusal_in x f d ≡ None) z a in
          let low = move_low x f (refuse (holds l f) HeldHere None) passes (level_inner x f k.goes_on.inner) in
          let same = level_same w f walks b in
          omega (arith, low, same)

  after : (due : Option ℕ) → Walks (walk_of s p (called due c y f)) (called due c y f)
  after due = go (refusal_in x f c) refl
    where
      accepted : refusal_in x f c ≡ None → y ≡ answer → (b d : Bool) → is_spin y ≡ b → is_done_or_spins c ≡ d →
          Walks (walk_of s p (called due c y f)) (called due c y f)
      accepted e q true d b g =
          let z = spin_low b e q in
          subst (λ (v : Frame). Walks v (called due c y f)) (sym (walk_stays due b))
          (subst (λ (v : Reply). Walks w (called due c v f)) (spin_is y b) (spun_walks due c w f z.0 walks z.1))
      accepted e q false d b g =
          let wc : called_in w c ≡ called None c Done w = ap (λ (o : Option Refusal). called None c (option_map_or (λ r. Refused r) o Done) w)
          (sym refused_both ∙ e) in
          subst (λ (v : Frame). Walks v (called due c y f)) (sym (walk_moves due b ∙ wc)) (done d g)
        where
          done : (d : Bool) → is_done_or_spins c ≡ d → Walks (called None c Done w) (called due c y f)
          done true g =
              let is_done : y ≡ Done = q ∙ done_or_spin s (stand_in p x) (lanes_at s past) c g (sym (ap is_spin q) ∙ b) in
              subst (λ (v : Reply). Walks (called None c Done w) (called due c v f)) (sym is_done) (done_walks due c w f calm walks)
          done false g = other_walks due c y w f g b (calm (no_acquire c g)) walks

      go : (o : Option Refusal) → refusal_in x f c ≡ o → Walks (walk_of s p (called due c y f)) (called due c y f)
      go (Some q) e =
          let is_refused : y ≡ Refused q = k.reply ∙ ap (λ (o : Option Refusal). reply_or o answer) e in
          let wc : called_in w c ≡ called None c (Refused q) w = ap (λ (o : Option Refusal). called None c (option_map_or (λ r. Refused r) o Done) w)
          (sym refused_both ∙ e) in
          subst (λ (v : Frame). Walks v (called due c y f)) (sym (walk_moves due (ap is_spin is_refused) ∙ wc))
          (subst (λ (v : Reply). Walks (called None c (Refused q) w) (called due c v f)) (sym is_refused)
          (refused_walks due c q w f walks (calm_refused q e)))
      go None e = accepted e (k.reply ∙ ap (λ (o : Option Refusal). reply_or o answer) e) (is_spin y) (is_done_or_spins c) refl refl

  -- a frame that calls its next command in a run stands as its walk does after that command
  pub called_agrees : (due : Option ℕ) → Agrees s p (called due c y f)
  called_agrees due =
      record {
        part = subst (λ (b : Body). IsOfPart s b) (sym ((called_keeps due c y).body f)) h.part;
        site = (called_keeps due c y).body f ∙ (h.site ∙ ap (λ (z : Site). body_at s z) (sym (site_stays due)));
        walks = λ d e. after due;
      }

  -- ---- what it is told by

  told_answer : (o : Option Refusal) → refusal_in x f c ≡ o → option_map (λ q. record { refusal = q; level = w.level }) (refused_in w c) ≡ told y f.level
  told_answer (Some q) e =
      let is_refused : y ≡ Refused q = k.reply ∙ ap (λ (o : Option Refusal). reply_or o answer) e in
      ap (λ (o : Option Refusal). option_map (λ q. record { refusal = q; level = w.level }) o) (sym refused_both ∙ e)
      ∙ (ap (λ (l : ℕ). told (Refused q) l) (level_same w f walks (calm_refused q e)) ∙ ap (λ (v : Reply). told v f.level) (sym is_refused))
  told_answer None e =
      let is_answer : y ≡ answer = k.reply ∙ ap (λ (o : Option Refusal). reply_or o answer) e in
      ap (λ (o : Option Refusal). option_map (λ q. record { refusal = q; level = w.level }) o) (sym refused_both ∙ e)
      ∙ (sym (none_told answer f.level (accepts s (stand_in p x) (lanes_at s past) c)) ∙ ap (λ (v : Reply). told v f.level) (sym is_answer))

  -- the call is refused as expected
  pub expected_same : expected_at s (site_of p f) f.place ≡ told y f.level
  expected_same =
      ap (λ (o : Option Command). option_and_then (expected_in w) o) (next_at s p f c k.command) ∙ told_answer (refusal_in x f c) refl
