-- In a run, the regions of a thread are the accepted enters less the accepted leaves of its open frames.
use Rattle.std.proofs.Common.{ap, arith, inl, inr, subst, sym, ◌∙◌}
use Rattle.std.proofs.lemmas.Bool.{eq-eqb, le-ltb, lt-ltb, ltb-false, ltb-true}
use Rattle.std.specs.List.{list_any}
use Rattle.std.specs.Prelude.{Bool, List, None, Option, Some, [], false, fold, if◌then◌else◌, length, nat_lt, not, refl, suc, true, zero, ℕ, ◌&&◌, ◌+◌, ◌-◌}
use Rattle.std.specs.Prelude.{◌<◌, ◌==◌, ◌||◌, ◌∷◌, ◌≡◌, ◌≤◌}
use Rattle.nt_event.specs.declared.commands.Command.{Command}
use Rattle.nt_event.specs.declared.commands.Command.TheVariants.{Delay, EnterCrit, EnterGuard, LeaveCrit, LeaveGuard, Raise, StartWait}
use Rattle.nt_event.specs.declared.commands.Refusal.TheVariants.{NotEntered, NotThread, TooHigh}
use Rattle.nt_event.specs.declared.commands.Reply.{Reply}
use Rattle.nt_event.specs.declared.commands.Reply.TheVariants.{Done}
use Rattle.nt_event.specs.declared.events.Event.{Event}
use Rattle.nt_event.specs.declared.events.What.{What}
use Rattle.nt_event.specs.declared.events.What.TheVariants.{Call, End, Free, Normal, Rewait, Switch}
use Rattle.nt_event.specs.declared.frames.Body.{Body}
use Rattle.nt_event.specs.Frame.{Frame}
use Rattle.nt_event.specs.declared.frames.Region.{Region}
use Rattle.nt_event.specs.declared.frames.Region.TheVariants.{Crit, Guard}
use Rattle.nt_event.specs.declared.numbers.CpuNo.{CpuNo}
use Rattle.nt_event.specs.declared.numbers.LockNo.{LockNo}
use Rattle.nt_event.specs.declared.numbers.ThreadNo.{ThreadNo}
use Rattle.nt_event.specs.declared.scripts.Script.{Script}
use Rattle.nt_event.specs.Frames.{called, resumed, due_of, is_normal_apc_body, new_frame, thread_frames, time}
use Rattle.nt_event.specs.Jobs.{level_at}
use Rattle.nt_event.specs.Lanes.{Lanes, lanes_at}
use Rattle.nt_event.specs.Own.{Own, own_of}
use Rattle.nt_event.specs.Regions.{busy_of}
use Rattle.nt_event.specs.Routines.{cpu_of}
use Rattle.nt_event.specs.Step.{IsRun}
use Rattle.nt_event.specs.Replies.{is_done}
use Rattle.nt_event.specs.Lists.{is_null}
use Rattle.nt_runs.proofs.Calm.{next_test}
use Rattle.nt_runs.proofs.Known.{KnownCall}
use Rattle.nt_runs.proofs.Stops.{call_accepted, refuse_none}
use Rattle.nt_readings.specs.Frames.{EachNamed, HasFrame, IsOpenOn}
use Rattle.nt_readings.specs.Regions.{EachFrame, IsCounted, IsNet, RegionsCounted, count_after, entered, exited, has_done, is_enter, is_leave, phase_of, renews}
use Rattle.nt_readings.proofs.Follow.{Follows, IsAside, each_part, not_equal}
use Rattle.nt_readings.proofs.Frames.{keep_called}
use Rattle.nt_readings.proofs.Threads.{part_of, thread_lists}

-- ---- phases and counts

-- as long as no event came after a frame's begin, its phase is the one that began with it
pub phase_new : (n : ℕ) (past : List Event) → length past ≤ suc n → phase_of n past ≡ n
phase_new n [] h = refl
phase_new n (e ∷ past) h =
    let l : nat_lt n (length past) ≡ false = le-ltb n (length past) (omega (arith, h)) in
    rw l (phase_new n past (omega (arith, h)))

-- no event is counted after the last one
pub count_none : (test : What → Bool) (m : ℕ) (past : List Event) → length past ≤ suc m → count_after test m past ≡ 0
count_none test m [] h = refl
count_none test m (e ∷ past) h =
    let l : nat_lt m (length past) ≡ false = le-ltb m (length past) (omega (arith, h)) in
    rw l (count_none test m past (omega (arith, h)))

-- the present phase of a frame that was begun in the history began in the history
pub phase_below : (n : ℕ) (past : List Event) → n < length past → phase_of n past < length past
phase_below n [] h = h
phase_below n (e ∷ past) h = go (nat_lt n (length past)) refl (renews n e.what) (λ k. phase_below n past k)
  where
    past_end : nat_lt n (length past) ≡ false → phase_of n past < suc (length past)
    past_end l = let z = phase_new n past in let k : length past ≤ n = ltb-false n (length past) l in
        let q = z (omega (arith, k)) in omega (arith, q, h)

    go : (b : Bool) → nat_lt n (length past) ≡ b → (c : Bool) → (n < length past → phase_of n past < length past) →
        (if b && c then length past else phase_of n past) < suc (length past)
    go true l true ih = omega arith
    go true l false ih = let k = ih (ltb-true n (length past) l) in omega (arith, k)
    go false l c ih = past_end l

-- an event that begins the frame's phase anew
pub phase_anew : (n : ℕ) (e : Event) (past : List Event) → n < length past → renews n e.what ≡ true → phase_of n (e ∷ past) ≡ length past
phase_anew n e past l h = rw (lt-ltb n (length past) l, h) refl

-- the Normal of a frame begins the frame's phase anew
pub normal_anew : (n : ℕ) (w : What) → w ≡ Normal n → renews n w ≡ true
normal_anew n w k = ap (renews n) k ∙ eq-eqb n n refl

-- the End of a frame that stays begins the frame's phase anew
pub end_anew : (n : ℕ) (w : What) → w ≡ End n → renews n w ≡ true
end_anew n w k = ap (renews n) k ∙ eq-eqb n n refl

-- ---- an event that the frame doesn't make

abbrev pub IsSilent : ℕ → What → Type 0
IsSilent n w = (renews n w ≡ false) × ((test : Command → Bool) → has_done test n w ≡ false)

-- an "and" is false, whatever its first side, if the second is
and_false : (a b : Bool) → b ≡ false → (a && b) ≡ false
and_false true b h = h
and_false false b h = refl

-- an event that doesn't begin a frame's phase anew leaves the phase as it was
pub phase_silent : (n : ℕ) (e : Event) (past : List Event) → renews n e.what ≡ false → phase_of n (e ∷ past) ≡ phase_of n past
phase_silent n e past h = rw (and_false (nat_lt n (length past)) (renews n e.what) h) refl

-- an event that fails the test leaves the count of those that pass as it was
pub count_silent : (test : What → Bool) (m : ℕ) (e : Event) (past : List Event) → test e.what ≡ false → count_after test m (e ∷ past) ≡ count_after test m past
count_silent test m e past h = rw (and_false (nat_lt m (length past)) (test e.what) h) refl

-- an event that does nothing to a frame keeps the count of its done calls of a kind in the phase
done_silent : (test : Command → Bool) (n : ℕ) (e : Event) (past : List Event) → IsSilent n e.what →
    count_after (has_done test n) (phase_of n (e ∷ past)) (e ∷ past) ≡ count_after (has_done test n) (phase_of n past) past
done_silent test n e past h =
    ap (λ (m : ℕ). count_after (has_done test n) m (e ∷ past)) (phase_silent n e past h.0) ∙ count_silent (has_done test n) (phase_of n past) e past (h.1 test)

-- an event that does nothing to a frame keeps that a count is its enters less its leaves
net_silent : (r : Region) (k n : ℕ) (e : Event) (past : List Event) → IsSilent n e.what → IsNet r k n past → IsNet r k n (e ∷ past)
net_silent r k n e past h c =
    let a = done_silent (is_leave r) n e past h in
    let b = done_silent (is_enter r) n e past h in
    omega (arith, a, b, c)

-- an event that does nothing to a frame keeps both of its region counts as told
counted_silent : (f : Frame) (e : Event) (past : List Event) → IsSilent f.name e.what → IsCounted past f → IsCounted (e ∷ past) f
counted_silent f e past h c = (net_silent Crit f.crit f.name e past h c.0, net_silent Guard f.guard f.name e past h c.1)

-- an event that doesn't name a frame neither begins its phase anew nor is a call of it
pub silent : (n : ℕ) (w : What) → IsAside n w → IsSilent n w
silent n (Call f c y) h = (refl, λ test. ap (λ (b : Bool). b && (test c && is_done y)) (not_equal f n (h f refl)))
silent n (Normal f) h = (not_equal f n (h f refl), λ test. refl)
silent n (End f) h = (not_equal f n (h f refl), λ test. refl)
silent n w h = (refl, λ test. refl)

-- ---- a new frame, and a phase that begins anew

-- at the start of a phase a frame has entered and left no region
net_none : (r : Region) (n : ℕ) (past : List Event) (m : ℕ) → phase_of n past ≡ m → length past ≤ suc m → IsNet r 0 n past
net_none r n past m e l =
    let a : exited r n past ≡ 0 = ap (λ (m : ℕ). count_after (has_done (is_leave r) n) m past) e ∙ count_none (has_done (is_leave r) n) m past l in
    let b : entered r n past ≡ 0 = ap (λ (m : ℕ). count_after (has_done (is_enter r) n) m past) e ∙ count_none (has_done (is_enter r) n) m past l in
    omega (arith, a, b)

-- the region counts of a new frame are as its events tell
new_counted : (b : Body) (e : Event) (past : List Event) → IsCounted (e ∷ past) (new_frame (length past) b)
new_counted b e past =
    let p = phase_new (length past) (e ∷ past) (omega arith) in
    (net_none Crit (length past) (e ∷ past) (length past) p (omega arith), net_none Guard (length past) (e ∷ past) (length past) p (omega arith))

-- just after its phase was begun anew, a frame is in no regions
pub net_renewed : (r : Region) (n : ℕ) (e : Event) (past : List Event) → n < length past → renews n e.what ≡ true → IsNet r 0 n (e ∷ past)
net_renewed r n e past l h =
    let p : phase_of n (e ∷ past) ≡ length past = rw (lt-ltb n (length past) l, h) refl in
    net_none r n (e ∷ past) (length past) p (omega arith)

-- ---- a call

-- a call adds one to the critical count if it enters, takes one off if it leaves, and keeps it otherwise
called_crit : (due : Option ℕ) (c : Command) (y : Reply) (f : Frame) → (called due c y f).crit
    ≡ (if is_enter Crit c && is_done y then f.crit + 1 else (if is_leave Crit c && is_done y then f.crit - 1 else f.crit))
called_crit due (StartWait m a) y f = refl
called_crit due (Delay m a u) y f = refl
called_crit due (Raise l) Done f = refl
called_crit due c Done f = refl
called_crit due c y f = refl

-- a call adds one to the guarded count if it enters, takes one off if it leaves, and keeps it otherwise
called_guard : (due : Option ℕ) (c : Command) (y : Reply) (f : Frame) → (called due c y f).guard
    ≡ (if is_enter Guard c && is_done y then f.guard + 1 else (if is_leave Guard c && is_done y then f.guard - 1 else f.guard))
called_guard due (StartWait m a) y f = refl
called_guard due (Delay m a u) y f = refl
called_guard due (Raise l) Done f = refl
called_guard due c Done f = refl
called_guard due c y f = refl

-- a command that enters a region doesn't leave it
one_of : (r : Region) (c : Command) → is_enter r c ≡ true → is_leave r c ≡ false
one_of Crit EnterCrit h = refl
one_of Guard EnterGuard h = refl
one_of Crit c h = cc
one_of Guard c h = cc

-- a call of a frame adds one to its calls that pass a test and are done, where it passes and is done
pub count_done : (test : Command → Bool) (n : ℕ) (c : Command) (y : Reply) (e : Event) (past : List Event) → n < length past → e.what ≡ Call n c y →
    count_after (has_done test n) (phase_of n (e ∷ past)) (e ∷ past)
    ≡ (if test c && is_done y then suc (count_after (has_done test n) (phase_of n past) past) else count_after (has_done test n) (phase_of n past) past)
count_done test n c y e past l k =
    ap (λ (m : ℕ). count_after (has_done test n) m (e ∷ past)) (phase_silent n e past (ap (renews n) k))
    ∙ ap (λ (b : Bool). if b then suc (count_after (has_done test n) (phase_of n past) past) else count_after (has_done test n) (phase_of n past) past) now
  where
    now : (nat_lt (phase_of n past) (length past) && has_done test n e.what) ≡ (test c && is_done y)
    now = rw (lt-ltb (phase_of n past) (length past) (phase_below n past l), k, eq-eqb n n refl) refl

-- after a call the count of a region, one more or less by it, is the enters less the leaves
net_called : (r : Region) (v n : ℕ) (c : Command) (y : Reply) (e : Event) (past : List Event) → n < length past → e.what ≡ Call n c y →
    ((is_leave r c && is_done y) ≡ true → 0 < v) → IsNet r v n past →
    IsNet r (if is_enter r c && is_done y then v + 1 else (if is_leave r c && is_done y then v - 1 else v)) n (e ∷ past)
net_called r v n c y e past l k pos h =
    go (is_enter r c) (is_leave r c) (is_done y) (one_of r c) pos (count_done (is_enter r) n c y e past l k) (count_done (is_leave r) n c y e past l k)
  where
    go : (i o d : Bool) → (i ≡ true → o ≡ false) → ((o && d) ≡ true → 0 < v) → entered r n (e ∷ past)
        ≡ (if i && d then suc (entered r n past) else entered r n past) → exited r n (e ∷ past) ≡ (if o && d then suc (exited r n past) else exited r n past) →
        IsNet r (if i && d then v + 1 else (if o && d then v - 1 else v)) n (e ∷ past)
    go true true d one p a b = let z = one refl in cc
    go true false true one p a b = omega (arith, a, b, h)
    go true false false one p a b = omega (arith, a, b, h)
    go false true true one p a b = let q = p refl in omega (arith, a, b, h, q)
    go false true false one p a b = omega (arith, a, b, h)
    go false false d one p a b = omega (arith, a, b, h)

-- a leave that is accepted finds its region entered
positive : (k : ℕ) → (k == 0) ≡ false → 0 < k
positive zero h = cc
positive (suc k) h = omega arith

-- a call that is done and leaves a critical region is by a frame that has entered one
leave_crit : (s : Script) (p : CpuNo) (x : Own) (l : Lanes) (n : ℕ) (c : Command) (y : Reply) (k : KnownCall s p x l n c y) → (is_leave Crit c && is_done y)
    ≡ true → 0 < k.frame.crit
leave_crit s p x l n LeaveCrit Done k h =
    positive k.frame.crit (refuse_none (k.frame.crit == 0) NotEntered None
    (next_test (nat_lt 1 (level_at x)) TooHigh _ (next_test (not (is_null x.frames.own)) NotThread _ (call_accepted s p x l n LeaveCrit Done k refl).0)))
leave_crit s p x l n c y k h = cc

-- a call that is done and leaves a guarded region is by a frame that has entered one
leave_guard : (s : Script) (p : CpuNo) (x : Own) (l : Lanes) (n : ℕ) (c : Command) (y : Reply) (k : KnownCall s p x l n c y) → (is_leave Guard c && is_done y)
    ≡ true → 0 < k.frame.guard
leave_guard s p x l n LeaveGuard Done k h =
    positive k.frame.guard (refuse_none (k.frame.guard == 0) NotEntered None
    (next_test (nat_lt 1 (level_at x)) TooHigh _ (next_test (not (is_null x.frames.own)) NotThread _ (call_accepted s p x l n LeaveGuard Done k refl).0)))
leave_guard s p x l n c y k h = cc

-- after a call the region counts of its frame are as its events tell
call_counted : (s : Script) (p : CpuNo) (x : Own) (l : Lanes) (due : Option ℕ) (n : ℕ) (c : Command) (y : Reply) (f : Frame) (e : Event) (past : List Event)
    (k : KnownCall s p x l n c y) → k.frame ≡ f → f.name < length past → e.what ≡ Call n c y → IsCounted past f → IsCounted (e ∷ past) (called due c y f)
call_counted s p x l due n c y f e past k same low w h =
    let name : n ≡ f.name = k.name ∙ ap (λ (g : Frame). g.name) same in
    let what : e.what ≡ Call f.name c y = w ∙ ap (λ (m : ℕ). Call m c y) name in
    let kept : (called due c y f).name ≡ f.name = (keep_called due c y).name f in
    let crit = net_called Crit f.crit f.name c y e past low what (λ q. subst (λ (g : Frame). 0 < g.crit) same (leave_crit s p x l n c y k q)) h.0 in
    let guard = net_called Guard f.guard f.name c y e past low what (λ q. subst (λ (g : Frame). 0 < g.guard) same (leave_guard s p x l n c y k q)) h.1 in (
      subst (λ (m : ℕ). IsNet Crit (called due c y f).crit m (e ∷ past)) (sym kept)
          (subst (λ (v : ℕ). IsNet Crit v f.name (e ∷ past)) (sym (called_crit due c y f)) crit),
      subst (λ (m : ℕ). IsNet Guard (called due c y f).guard m (e ∷ past)) (sym kept)
          (subst (λ (v : ℕ). IsNet Guard v f.name (e ∷ past)) (sym (called_guard due c y f)) guard),
    )

-- ---- each open frame

-- a frame that is resumed keeps its region counts as told
resumed_counted : (st : Option ℕ) (past : List Event) (f : Frame) → IsCounted past f → IsCounted past (resumed st f)
resumed_counted None past f h = h
resumed_counted (Some x) past f h = h

-- a Rewait does nothing to the regions of a frame
rewait_silent : (n m : ℕ) (y : Reply) (w : What) → w ≡ Rewait m y → IsSilent n w
rewait_silent n m y w k = (ap (renews n) k, λ test. ap (has_done test n) k)

-- a Free does nothing to the regions of a frame
free_silent : (n m : ℕ) (c : LockNo) (w : What) → w ≡ Free m c → IsSilent n w
free_silent n m c w k = (ap (renews n) k, λ test. ap (has_done test n) k)

-- a Switch does nothing to the regions of a frame
switch_silent : (n : ℕ) (t : ThreadNo) (st : Option ℕ) (w : What) → w ≡ Switch t st → IsSilent n w
switch_silent n t st w k = (ap (renews n) k, λ test. ap (has_done test n) k)

-- after an event that renews a frame's phase, its region counts are 0
anew_counted : (e : Event) (past : List Event) (n : ℕ) → n < length past → renews n e.what ≡ true → IsNet Crit 0 n (e ∷ past) × IsNet Guard 0 n (e ∷ past)
anew_counted e past n l h = (net_renewed Crit n e past l h, net_renewed Guard n e past l h)

-- each event of a run keeps the region counts of its frame as the events tell
counts_follow : (s : Script) (limit : ℕ) → Follows s limit IsCounted
counts_follow s limit =
    record {
      begun = λ e past b n. new_counted b e past;
      aside = λ e past f l a h. counted_silent f e past (silent f.name e.what a) h;
      called = λ e past n c y r x q l h. call_counted s e.cpu (own_of s e.cpu past) (lanes_at s past)
          (due_of e.what (time past)) n c y x.frame e past x refl l q h;
      freed = λ e past n c r x q l h. counted_silent x.frame e past (free_silent x.frame.name n c e.what q) h;
      rewaited = λ e past y f q l h. counted_silent f e past (rewait_silent f.name f.name y e.what q) h;
      normal = λ e past f q n l h. anew_counted e past f.name l (ap (renews f.name) q ∙ eq-eqb f.name f.name refl);
      left = λ e past f q b l h. anew_counted e past f.name l (ap (renews f.name) q ∙ eq-eqb f.name f.name refl);
      resumed = λ e past t st f q l h. resumed_counted st (e ∷ past) f (counted_silent f e past (switch_silent f.name t st e.what q) h);
    }

-- ---- sums

-- two sums over a list agree if they agree at each frame
sum_same : (g h : Frame → ℕ) (fs : List Frame) (a : ℕ) → EachFrame (λ f. g f ≡ h f) fs → fold (λ b x. b + g x) a fs ≡ fold (λ b x. b + h x) a fs
sum_same g h [] a k = refl
sum_same g h (f ∷ fs) a k =
    ap (λ (v : ℕ). fold (λ b x. b + g x) (a + v) fs) k.0 ∙ sum_same g h fs (a + h f) k.1

-- if P implies Q and P holds of each frame of a list, Q holds of each
each_so : (P Q : Frame → Type 0) (fs : List Frame) → ((f : Frame) → P f → Q f) → EachFrame P fs → EachFrame Q fs
each_so P Q [] h k = tt
each_so P Q (f ∷ fs) h k = (h f k.0, each_so P Q fs h k.1)

-- a net count is the enters less the leaves
net_is : (r : Region) (k n : ℕ) (past : List Event) → IsNet r k n past → k ≡ entered r n past - exited r n past
net_is r k n past h = omega (arith, h)

-- if a normal APC is in progress on a thread, a frame of a normal APC is listed
busy_forth : (P : ℕ → Body → Type 0) (fs : List Frame) → EachNamed P fs → busy_of fs ≡ true → (n : ℕ) × (b : Body) × P n b × (is_normal_apc_body b ≡ true)
busy_forth P [] h k = cc
busy_forth P (f ∷ fs) h k = go (is_normal_apc_body f.body) refl k (λ q. busy_forth P fs h.1 q)
  where
    go : (b : Bool) → is_normal_apc_body f.body ≡ b → (b || list_any (λ f. is_normal_apc_body f.body) fs) ≡ true →
        (busy_of fs ≡ true → (n : ℕ) × (b : Body) × P n b × (is_normal_apc_body b ≡ true)) → (n : ℕ) × (b : Body) × P n b × (is_normal_apc_body b ≡ true)
    go true e q ih = (f.name, f.body, h.0, e)
    go false e q ih = ih q

-- if a frame of a normal APC is listed, a normal APC is in progress
busy_back : (n : ℕ) (b : Body) (fs : List Frame) → is_normal_apc_body b ≡ true → HasFrame n b fs → busy_of fs ≡ true
busy_back n b [] h k = absurd k
busy_back n b (f ∷ fs) h (inl k) =
    ap (λ (c : Body). is_normal_apc_body c || busy_of fs) k.1 ∙ ap (λ (c : Bool). c || busy_of fs) h
busy_back n b (f ∷ fs) h (inr k) = or_so (is_normal_apc_body f.body) (busy_of fs) (busy_back n b fs h k)
  where
    or_so : (a c : Bool) → c ≡ true → (a || c) ≡ true
    or_so true c q = refl
    or_so false c q = q

-- in a run the regions of a thread are the accepted enters less the accepted leaves of its open frames
pub regions_counted : (s : Script) (limit : ℕ) (t : ThreadNo) (past : List Event) → IsRun s limit past →
    RegionsCounted s t past (thread_frames s (cpu_of s t) t past)
regions_counted s limit t past r =
    let each = each_part s limit IsCounted (counts_follow s limit) t past r in
    let lists = thread_lists s limit t past r in
    record {
      each = each;
      crit = sum_same (λ f. f.crit) (λ f. entered Crit f.name past - exited Crit f.name past) (part_of s t past) 0
          (each_so (IsCounted past) (λ f. f.crit ≡ entered Crit f.name past - exited Crit f.name past) (part_of s t past)
          (λ f h. net_is Crit f.crit f.name past h.0) each);
      guard = sum_same (λ f. f.guard) (λ f. entered Guard f.name past - exited Guard f.name past) (part_of s t past) 0
          (each_so (IsCounted past) (λ f. f.guard ≡ entered Guard f.name past - exited Guard f.name past) (part_of s t past)
          (λ f h. net_is Guard f.guard f.name past h.1) each);
      busy = (λ h. busy_forth (IsOpenOn s t past) (part_of s t past) lists.each h, λ h. busy_back h.0 h.1 (part_of s t past) h.3 (lists.all h.0 h.1 h.2));
    }
