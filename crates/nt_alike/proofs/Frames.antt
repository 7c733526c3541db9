-- What an event leaves of the frames of its processor, but for names, depends on no number.
use Rattle.std.proofs.Common.{ap, arith, sym, ◌∙◌}
use Rattle.std.proofs.lemmas.Bool.{eqb-true}
use Rattle.std.proofs.lemmas.List.Sums.{sum_by-cons}
use Rattle.std.specs.List.{sum_by}
use Rattle.std.specs.Option.{option_map_or, option_or}
use Rattle.std.specs.Prelude.{Bool, List, None, Option, Some, [], false, if◌then◌else◌, length, map, option_and_then, option_map, refl, suc, true, zero, ℕ, ◌+◌}
use Rattle.std.specs.Prelude.{◌==◌, ◌∷◌, ◌≡◌}
use Rattle.nt_event.specs.declared.commands.Command.{Command}
use Rattle.nt_event.specs.declared.commands.Command.TheVariants.{Delay, StartWait}
use Rattle.nt_event.specs.declared.commands.Regions.{Regions}
use Rattle.nt_event.specs.declared.commands.Reply.{Reply}
use Rattle.nt_event.specs.declared.commands.Reply.TheVariants.{Done}
use Rattle.nt_event.specs.declared.events.Begun.{Begun}
use Rattle.nt_event.specs.declared.events.Begun.TheVariants.{Apc, Dpc, Int, Threaded}
use Rattle.nt_event.specs.declared.events.Event.{Event}
use Rattle.nt_event.specs.declared.events.What.{What}
use Rattle.nt_event.specs.declared.events.What.TheVariants.{Begin, Call, End, Flush, Free, Gone, Normal, Rewait, Switch}
use Rattle.nt_event.specs.declared.frames.Again.{Again}
use Rattle.nt_event.specs.declared.frames.Body.{Body}
use Rattle.nt_event.specs.declared.frames.Body.TheVariants.{Apc as OnApc}
use Rattle.nt_event.specs.Frame.{Frame}
use Rattle.nt_event.specs.declared.jobs.Stand.{Stand}
use Rattle.nt_event.specs.declared.numbers.ApcNo.{ApcNo}
use Rattle.nt_event.specs.declared.numbers.CpuNo.{CpuNo}
use Rattle.nt_event.specs.declared.numbers.RoutineNo.{RoutineNo}
use Rattle.nt_event.specs.declared.numbers.ThreadNo.{ThreadNo}
use Rattle.nt_event.specs.declared.scripts.Script.{Script}
use Rattle.nt_event.specs.Frames.{Frames, at_head, at_name, begin_own, called, end_on_thread, ended_base, ended_on_thread, flushed, frames_after, freed}
use Rattle.nt_event.specs.Frames.{freed_level, frames_in, innermost, is_base_body, is_normal_apc_body, level_in, new_frame, normal_of, own_after, resumed}
use Rattle.nt_event.specs.Frames.{rewaited, running_after, switched_to, thread_after, thread_if, thread_part, without}
use Rattle.nt_event.specs.Lists.{head_of, is_null, table, table_from, tail_of}
use Rattle.nt_event.specs.Numbers.{is_by, thread}
use Rattle.nt_event.specs.Regions.{below_in, ended_level_in, first_level, freed_in, regions_of, stand_of}
use Rattle.nt_event.specs.Routines.{kind_of, rundown_of}
use Rattle.nt_event.proofs.Tables.{table-same}
use Rattle.nt_event.proofs.Written.{read_map}
use Rattle.nt_runs.proofs.Names.{NotAmong}
use Rattle.nt_alike.specs.Bare.{bare_event, bare_frame, bare_frames, bare_stand, bare_what}
use Rattle.nt_alike.proofs.Mapped.{any_map, map_or}

-- ---- one frame

-- a call's effect on a frame does not depend on the frame's name
called_frame : (due : Option ℕ) (c : Command) (y : Reply) (f : Frame) → bare_frame (called due c y f) ≡ called due c y (bare_frame f)
called_frame due (StartWait m a) y f = refl
called_frame due (Delay m a u) y f = refl
called_frame due c Done f = refl
called_frame due c y f = refl

-- resuming a frame and leaving out its name may be done in either order
resumed_frame : (st : Option ℕ) (f : Frame) → bare_frame (resumed st f) ≡ resumed st (bare_frame f)
resumed_frame None f = refl
resumed_frame (Some x) f = refl

-- ---- lists of frames

-- the head of the frames without names is the head frame without its name
head_map : (fs : List Frame) → head_of (map bare_frame fs) ≡ option_map bare_frame (head_of fs)
head_map [] = refl
head_map (f ∷ fs) = refl

-- the tail of the frames without names is the tail of the frames, without names
tail_map : (fs : List Frame) → tail_of (map bare_frame fs) ≡ map bare_frame (tail_of fs)
tail_map [] = refl
tail_map (f ∷ fs) = refl

-- a list of frames is empty just where it is empty without the names
pub null_map : (fs : List Frame) → is_null (map bare_frame fs) ≡ is_null fs
null_map [] = refl
null_map (f ∷ fs) = refl

-- a sum over frames of a count that ignores names is the same without the names
sum_map : (g : Frame → ℕ) → ((f : Frame) → g (bare_frame f) ≡ g f) → (fs : List Frame) → sum_by g (map bare_frame fs) ≡ sum_by g fs
sum_map g h [] = refl
sum_map g h (f ∷ fs) =
    sum_by-cons g (bare_frame f) (map bare_frame fs) ∙ ap (λ (n : ℕ). n + sum_by g (map bare_frame fs)) (h f)
    ∙ ap (λ (n : ℕ). g f + n) (sum_map g h fs) ∙ sym (sum_by-cons g f fs)

-- the regions that frames are in do not depend on the names of the frames
pub regions_bare : (fs : List Frame) → regions_of (map bare_frame fs) ≡ regions_of fs
regions_bare fs =
    let a = sum_map (λ f. f.crit) (λ f. refl) fs in
    let b = sum_map (λ f. f.guard) (λ f. refl) fs in
    let c = any_map bare_frame (λ f. is_normal_apc_body f.body) (λ f. is_normal_apc_body f.body) (λ f. refl) fs in
    rw (a, b, c) refl

-- ---- where a processor stands

-- a thread's frames read from frames without names are its frames without names
pub frames_read : (x : Frames) (t : ThreadNo) → frames_in (bare_frames x).threads t ≡ map bare_frame (frames_in x.threads t)
frames_read x t = read_map (map bare_frame) x.threads t.0 []

-- a running thread's part of the frames without names is its part, without names
part_or : (x : Frames) (r : Option ThreadNo) →
    option_map_or (frames_in (bare_frames x).threads) r [] ≡ map bare_frame (option_map_or (frames_in x.threads) r [])
part_or x None = refl
part_or x (Some t) = frames_read x t

-- the part of the running thread, of frames without names, is that part without names
pub part_bare : (x : Frames) → thread_part (bare_frames x) ≡ map bare_frame (thread_part x)
part_bare x = part_or x x.running

-- the innermost of frames without names is the innermost frame without its name
pub innermost_bare : (x : Frames) → innermost (bare_frames x) ≡ option_map bare_frame (innermost x)
innermost_bare x = rw (part_bare x, head_map x.own, head_map (thread_part x)) (map_or bare_frame (head_of x.own) (head_of (thread_part x)))

-- the level of an optional frame, zero if none, does not depend on its name
level_or : (o : Option Frame) → option_map_or (λ (f : Frame). f.level) (option_map bare_frame o) 0 ≡ option_map_or (λ (f : Frame). f.level) o 0
level_or None = refl
level_or (Some f) = refl

-- the level of a processor does not depend on the names of its frames
pub level_bare : (x : Frames) → level_in (bare_frames x) ≡ level_in x
level_bare x = ap (λ (o : Option Frame). option_map_or (λ (f : Frame). f.level) o 0) (innermost_bare x) ∙ level_or (innermost x)

-- the level of the first frame of two lists of frames does not depend on names
first_level_bare : (own part : List Frame) → first_level (map bare_frame own) (map bare_frame part) ≡ first_level own part
first_level_bare own part =
    rw (head_map own, head_map part) (ap (λ (o : Option Frame). option_map_or (λ (f : Frame). f.level) o 0) (map_or bare_frame (head_of own) (head_of part))
    ∙ level_or (option_or (head_of own) (head_of part)))

-- the regions of the running thread once the innermost frame has ended do not depend on names
below_bare : (x : Frames) → below_in (bare_frames x) ≡ below_in x
below_bare x = rw (part_bare x, null_map x.own) (go (is_null x.own))
  where
    go : (b : Bool) → regions_of (if b then tail_of (map bare_frame (thread_part x)) else map bare_frame (thread_part x))
        ≡ regions_of (if b then tail_of (thread_part x) else thread_part x)
    go true = ap regions_of (tail_map (thread_part x)) ∙ regions_bare (tail_of (thread_part x))
    go false = regions_bare (thread_part x)

-- the level left when the innermost frame ends does not depend on names
ended_level_bare : (x : Frames) → ended_level_in (bare_frames x) ≡ ended_level_in x
ended_level_bare x = rw (part_bare x, null_map x.own) (go (is_null x.own))
  where
    go : (b : Bool) → (if b then first_level [] (tail_of (map bare_frame (thread_part x))) else first_level (tail_of (map bare_frame x.own))
        (map bare_frame (thread_part x)))
        ≡ (if b then first_level [] (tail_of (thread_part x)) else first_level (tail_of x.own) (thread_part x))
    go true = ap (first_level []) (tail_map (thread_part x)) ∙ first_level_bare [] (tail_of (thread_part x))
    go false = ap (λ (fs : List Frame). first_level fs (map bare_frame (thread_part x))) (tail_map x.own) ∙ first_level_bare (tail_of x.own) (thread_part x)

-- the level of an optional frame once its last lock is free does not depend on the frame's name
freed_or : (o : Option Frame) → option_map_or freed_level (option_map bare_frame o) 0 ≡ option_map_or freed_level o 0
freed_or None = refl
freed_or (Some f) = refl

-- the level once the innermost frame's last lock is free does not depend on names
freed_bare : (x : Frames) → freed_in (bare_frames x) ≡ freed_in x
freed_bare x = ap (λ (o : Option Frame). option_map_or freed_level o 0) (innermost_bare x) ∙ freed_or (innermost x)

-- the name of an optional frame without names is zero
name_or : (o : Option Frame) → option_map_or (λ (f : Frame). f.name) (option_map bare_frame o) 0 ≡ 0
name_or None = refl
name_or (Some f) = refl

-- the body of an optional frame does not depend on its name
body_or : (o : Option Frame) → option_map (λ (f : Frame). f.body) (option_map bare_frame o) ≡ option_map (λ (f : Frame). f.body) o
body_or None = refl
body_or (Some f) = refl

-- the wait that an optional frame takes up again does not depend on its name
again_or : (o : Option Frame) → option_and_then (λ (f : Frame). f.again) (option_map bare_frame o) ≡ option_and_then (λ (f : Frame). f.again) o
again_or None = refl
again_or (Some f) = refl

-- where a processor stands by frames without names is where it stands, without the frame's name
pub stand_bare : (p : CpuNo) (x : Frames) (sweep : Bool) → stand_of p (bare_frames x) sweep ≡ bare_stand (stand_of p x sweep)
stand_bare p x sweep =
    let i = innermost_bare x in
    let a = ap (λ (o : Option Frame). option_map_or (λ (f : Frame). f.name) o 0) i ∙ name_or (innermost x) in
    let b = ap (option_map (λ (f : Frame). f.body)) i ∙ body_or (innermost x) in
    let c = level_bare x in
    let d = ap regions_of (part_bare x) ∙ regions_bare (thread_part x) in
    let e = below_bare x in
    let f = ended_level_bare x in
    let g = freed_bare x in
    let h = ap (option_and_then (λ (f : Frame). f.again)) i ∙ again_or (innermost x) in
    same a b c d e f g h
  where
    same : {n m : ℕ} {b c : Option Body} {l k : ℕ} {r q : Regions} {v w : Regions} {f g i j : ℕ} {y z : Option Again} →
        n ≡ m → b ≡ c → l ≡ k → r ≡ q → v ≡ w → f ≡ g → i ≡ j → y ≡ z →
        ◌≡◌ {A = Stand} (record {
          cpu = p;
          thread = x.running;
          frame = n;
          body = b;
          level = l;
          regions = r;
          below = v;
          ended_level = f;
          after = i;
          again = y;
          sweep = sweep;
        })
        (record { cpu = p; thread = x.running; frame = m; body = c; level = k; regions = q; below = w; ended_level = g; after = j; again = z; sweep = sweep })
    same a b c d e f g h = cc

-- ---- what an event leaves, by frames without names: it changes the innermost one

abbrev own_moved : Option ℕ → What → List Frame → List Frame
own_moved due (Begin b from) fs = begin_own 0 b fs
own_moved due (Call f c y) fs = at_head (called due c y) fs
own_moved due (End f) fs = tail_of fs
own_moved due (Free f k) fs = at_head freed fs
own_moved due w fs = fs

abbrev if_inner : Bool → List Frame → List Frame → List Frame
if_inner true x y = x
if_inner false x y = y

-- of a thread's part, where the own part is empty or not
abbrev thread_moved : Script → Bool → Option ℕ → What → List Frame → List Frame
thread_moved s inner due (Switch t st) fs = switched_to 0 t st fs
thread_moved s inner due (Begin (Apc a) from) fs = new_frame 0 (OnApc a (kind_of s a)) ∷ fs
thread_moved s inner due (Flush a from) fs = flushed 0 a (rundown_of s a) fs
thread_moved s inner due (Call f c y) fs = if_inner inner (at_head (called due c y) fs) fs
thread_moved s inner due (Rewait f y) fs = if_inner inner (at_head (rewaited y) fs) fs
thread_moved s inner due (Normal f) fs = if_inner inner (at_head normal_of fs) fs
thread_moved s inner due (End f) fs = if_inner inner (ended_on_thread fs) fs
thread_moved s inner due (Free f k) fs = if_inner inner (at_head freed fs) fs
thread_moved s inner due (Gone t) fs = []
thread_moved s inner due w fs = fs

-- the event names this frame
abbrev pub NamesFrame : ℕ → What → Type 0
NamesFrame m (Call n c y) = n ≡ m
NamesFrame m (Rewait n y) = n ≡ m
NamesFrame m (Normal n) = n ≡ m
NamesFrame m (End n) = n ≡ m
NamesFrame m (Free n k) = n ≡ m
NamesFrame m w = ⊥

-- mapping a table is making the table of the mapped values
map_table_from : {A B : Type 0} (f : A → B) (k n : ℕ) (g : ℕ → A) → map f (table_from k n g) ≡ table_from k n (λ i. f (g i))
unfolding table_from
map_table_from f k zero g = refl
map_table_from {A} {B} f k (suc n) g = ap (λ (xs : List B). f (g k) ∷ xs) (map_table_from f (suc k) n g)

-- mapping the list of a function's values is listing the values of the composed function
pub map_table : {A B : Type 0} (f : A → B) (n : ℕ) (g : ℕ → A) → map f (table n g) ≡ table n (λ i. f (g i))
map_table f n g = map_table_from f 0 n g

-- a number equal to another passes the equality test with it
same_name : (n m : ℕ) → n ≡ m → (m == n) ≡ true
same_name n m e = grind (arith, e)

-- a number not equal to another fails the equality test with it
other_name : (n m : ℕ) → (m ≡ n → ⊥) → (m == n) ≡ false
other_name n m h = go (m == n) refl
  where
    go : (b : Bool) → (m == n) ≡ b → b ≡ false
    go false e = refl
    go true e = absurd (h (eqb-true m n e))

-- a change at a name that the head frame has changes the head frame
named_head : (n : ℕ) (g : Frame → Frame) (f : Frame) (fs : List Frame) → n ≡ f.name → at_name n g (f ∷ fs) ≡ g f ∷ fs
named_head n g f fs e = rw (same_name n f.name e) refl

-- a change at a name that no frame of the list has changes nothing
named_other : (n : ℕ) (g : Frame → Frame) (fs : List Frame) → NotAmong n fs → at_name n g fs ≡ fs
named_other n g [] h = refl
named_other n g (f ∷ fs) h = rw (other_name n f.name h.0) refl

-- ---- the own part

-- beginning a frame on the processor's own part does not depend on names, but for names
begin_own_bare : (n : ℕ) (b : Begun) (fs : List Frame) → map bare_frame (begin_own n b fs) ≡ begin_own 0 b (map bare_frame fs)
begin_own_bare n (Int l) fs = refl
begin_own_bare n (Dpc d) fs = refl
begin_own_bare n (Threaded d) fs = refl
begin_own_bare n (Apc a) fs = refl

-- a change of the head frame that does not look at its name may be made before or after leaving names out
head_bare : (g : Frame → Frame) → ((f : Frame) → bare_frame (g f) ≡ g (bare_frame f)) → (fs : List Frame) →
    map bare_frame (at_head g fs) ≡ at_head g (map bare_frame fs)
head_bare g h [] = refl
head_bare g h (f ∷ fs) = ap (λ (x : Frame). x ∷ map bare_frame fs) (h f)

-- where the frame named is the first of the part, and where it is in none
pub record AtHead (n : ℕ) (fs : List Frame) : Type 0 where
  pub at : (f : Frame) → head_of fs ≡ Some f → n ≡ f.name

-- a change at the name of the head frame is a change at the head
named_at : (n : ℕ) (g : Frame → Frame) (fs : List Frame) → AtHead n fs → at_name n g fs ≡ at_head g fs
named_at n g [] h = refl
named_at n g (f ∷ fs) h = named_head n g f fs (h.at f refl)

-- dropping a frame by the name of the head frame drops the head
without_at : (n : ℕ) (fs : List Frame) → AtHead n fs → without n fs ≡ tail_of fs
without_at n [] h = refl
without_at n (f ∷ fs) h = rw (same_name n f.name (h.at f refl)) refl

-- ending a frame by the name of the head frame ends the head
end_at : (n : ℕ) (fs : List Frame) → AtHead n fs → end_on_thread n fs ≡ ended_on_thread fs
end_at n [] h = refl
end_at n (f ∷ fs) h = rw (same_name n f.name (h.at f refl)) refl

-- ending a frame by a name that no frame of a part has leaves the part as it was
end_other : (n : ℕ) (fs : List Frame) → NotAmong n fs → end_on_thread n fs ≡ fs
end_other n [] h = refl
end_other n (f ∷ fs) h = rw (other_name n f.name h.0) refl

-- what an event leaves of the processor's own frames, but for names, depends on no name
own_bare : (n : ℕ) (due : Option ℕ) (w : What) (fs : List Frame) → ((m : ℕ) (f : Frame) → NamesFrame m w → head_of fs ≡ Some f → m ≡ f.name) →
    map bare_frame (own_after n due w fs) ≡ own_moved due (bare_what w) (map bare_frame fs)
own_bare n due (Begin b from) fs h = begin_own_bare n b fs
own_bare n due (Call f c y) fs h =
    ap (map bare_frame) (named_at f (called due c y) fs (record { at = λ x e. h f x refl e })) ∙ head_bare (called due c y) (called_frame due c y) fs
own_bare n due (End f) fs h = ap (map bare_frame) (without_at f fs (record { at = λ x e. h f x refl e })) ∙ sym (tail_map fs)
own_bare n due (Free f k) fs h = ap (map bare_frame) (named_at f freed fs (record { at = λ x e. h f x refl e })) ∙ head_bare freed (λ x. refl) fs
own_bare n due w fs h = refl

-- ---- a thread's part

-- switching to a thread and leaving out the names of its frames may be done in either order
switched_bare : (n : ℕ) (t : ThreadNo) (st : Option ℕ) (fs : List Frame) → map bare_frame (switched_to n t st fs) ≡ switched_to 0 t st (map bare_frame fs)
switched_bare n t st [] = refl
switched_bare n t st (f ∷ fs) = ap (λ (x : Frame). x ∷ map bare_frame fs) (resumed_frame st f)

-- a flush of an APC and leaving out the names of the frames may be done in either order
flushed_bare : (n : ℕ) (a : ApcNo) (r : Option RoutineNo) (fs : List Frame) → map bare_frame (flushed n a r fs) ≡ flushed 0 a r (map bare_frame fs)
flushed_bare n a None fs = refl
flushed_bare n a (Some r) fs = refl

-- ending the head frame of a thread's part and leaving out names may be done in either order
ended_thread_bare : (fs : List Frame) → map bare_frame (ended_on_thread fs) ≡ ended_on_thread (map bare_frame fs)
ended_thread_bare [] = refl
ended_thread_bare (f ∷ fs) = go (is_base_body f.body)
  where
    go : (b : Bool) → map bare_frame (if b then (ended_base f ∷ fs) else fs)
        ≡ (if b then (ended_base (bare_frame f) ∷ map bare_frame fs) else map bare_frame fs)
    go true = refl
    go false = refl

-- the frame that an event names is the first one of the thread's part, or none of its
abbrev pub OfThread : Bool → ℕ → List Frame → Type 0
OfThread true n fs = AtHead n fs
OfThread false n fs = NotAmong n fs

-- a change at a named frame is, but for names, one at the head where the part's head is named, else none
named_inner : (b : Bool) (n : ℕ) (g : Frame → Frame) (fs : List Frame) → ((f : Frame) → bare_frame (g f) ≡ g (bare_frame f)) → OfThread b n fs →
    map bare_frame (at_name n g fs) ≡ if_inner b (at_head g (map bare_frame fs)) (map bare_frame fs)
named_inner true n g fs k h = ap (map bare_frame) (named_at n g fs h) ∙ head_bare g k fs
named_inner false n g fs k h = ap (map bare_frame) (named_other n g fs h)

-- ending a named frame ends, but for names, the head of the part where it is named, else nothing
end_inner : (b : Bool) (n : ℕ) (fs : List Frame) → OfThread b n fs →
    map bare_frame (end_on_thread n fs) ≡ if_inner b (ended_on_thread (map bare_frame fs)) (map bare_frame fs)
end_inner true n fs h = ap (map bare_frame) (end_at n fs h) ∙ ended_thread_bare fs
end_inner false n fs h = ap (map bare_frame) (end_other n fs h)

-- what an event leaves of a thread's part of the frames, but for names, depends on no name
thread_bare : (s : Script) (n : ℕ) (due : Option ℕ) (w : What) (inner : Bool) (fs : List Frame) → ((m : ℕ) → NamesFrame m w → OfThread inner m fs) →
    map bare_frame (thread_after s n due w fs) ≡ thread_moved s inner due (bare_what w) (map bare_frame fs)
thread_bare s n due (Switch t st) inner fs h = switched_bare n t st fs
thread_bare s n due (Begin (Int l) from) inner fs h = refl
thread_bare s n due (Begin (Dpc d) from) inner fs h = refl
thread_bare s n due (Begin (Threaded d) from) inner fs h = refl
thread_bare s n due (Begin (Apc a) from) inner fs h = refl
thread_bare s n due (Flush a from) inner fs h = flushed_bare n a (rundown_of s a) fs
thread_bare s n due (Call f c y) inner fs h = named_inner inner f (called due c y) fs (called_frame due c y) (h f refl)
thread_bare s n due (Rewait f y) inner fs h = named_inner inner f (rewaited y) fs (λ x. refl) (h f refl)
thread_bare s n due (Normal f) inner fs h = named_inner inner f normal_of fs (λ x. refl) (h f refl)
thread_bare s n due (End f) inner fs h = end_inner inner f fs (h f refl)
thread_bare s n due (Free f k) inner fs h = named_inner inner f freed fs (λ x. refl) (h f refl)
thread_bare s n due (Gone t) inner fs h = refl
thread_bare s n due w inner fs h = refl

-- ---- all frames of a processor

-- which thread an event leaves running does not depend on the event's numbers
running_bare : (w : What) (r : Option ThreadNo) → running_after w r ≡ running_after (bare_what w) r
running_bare (Call f c y) r = refl
running_bare w r = refl

-- what a bare event leaves of bare frames
abbrev pub frames_moved : Script → Option ℕ → Event → Frames → Frames
frames_moved s due e x =
    record {
      own = own_moved due e.what x.own;
      running = running_after e.what x.running;
      threads = table (length s.threads) (λ t. if is_by e (thread t) then thread_moved s (is_null x.own) due e.what (frames_in x.threads (thread t))
          else frames_in x.threads (thread t));
    }

-- the event names the innermost frame: the first of the own part, or of the part of the thread that makes it
pub record NamesInner (e : Event) (x : Frames) : Type 0 where
  pub own : (m : ℕ) (f : Frame) → NamesFrame m e.what → head_of x.own ≡ Some f → m ≡ f.name
  pub thread : (t : ThreadNo) → is_by e t ≡ true → (m : ℕ) → NamesFrame m e.what → OfThread (is_null x.own) m (frames_in x.threads t)

-- what an event that names the innermost frame leaves of the frames, but for names, depends on no number
pub frames_bare : (s : Script) (n : ℕ) (due : Option ℕ) (e : Event) (x : Frames) → NamesInner e x →
    bare_frames (frames_after s n due e x) ≡ frames_moved s due (bare_event e) (bare_frames x)
frames_bare s n due e x h =
    let a = own_bare n due e.what x.own h.own in
    let b = running_bare e.what x.running in
    let c = map_table (map bare_frame) (length s.threads) (λ t. thread_if (is_by e (thread t)) s n due e.what (frames_in x.threads (thread t)))
    ∙ table-same (length s.threads) (λ t. map bare_frame (thread_if (is_by e (thread t)) s n due e.what (frames_in x.threads (thread t))))
    (λ t. if is_by e (thread t) then thread_moved s (is_null (map bare_frame x.own)) due (bare_what e.what) (frames_in (bare_frames x).threads (thread t))
    else frames_in (bare_frames x).threads (thread t))
    (λ t l. one (thread t) (is_by e (thread t)) refl) in
    rw (a, b, c) refl
  where
    one : (t : ThreadNo) (b : Bool) → is_by e t ≡ b → map bare_frame (thread_if b s n due e.what (frames_in x.threads t))
        ≡ (if b then thread_moved s (is_null (map bare_frame x.own)) due (bare_what e.what) (frames_in (bare_frames x).threads t)
        else frames_in (bare_frames x).threads t)
    one t true k =
        rw (frames_read x t, null_map x.own) (thread_bare s n due e.what (is_null x.own) (frames_in x.threads t) (h.thread t k))
    one t false k = sym (frames_read x t)
