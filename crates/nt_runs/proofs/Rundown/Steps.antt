-- What an event that a leaving thread makes leaves of it.
use Rattle.std.proofs.Common.{ap, arith, inl, inr, subst, sym, ◌∙◌}
use Rattle.std.proofs.lemmas.Bool.{both_ways, lt-ltb, ltb-true}
use Rattle.std.specs.Option.{option_map_or, option_or}
use Rattle.std.specs.Prelude.{Bool, List, None, Option, Some, [], false, is_some, length, not, option_and_then, refl, true, ℕ, ◌+◌, ◌==◌, ◌||◌, ◌∷◌, ◌≡◌, ◌⊎◌}
use Rattle.nt_event.specs.declared.commands.ApcKind.{ApcKind}
use Rattle.nt_event.specs.declared.commands.ApcKind.TheVariants.{Normal as NormalApc, Special as SpecialApc, User as UserApc}
use Rattle.nt_event.specs.declared.commands.Regions.{Regions}
use Rattle.nt_event.specs.declared.events.Event.{Event}
use Rattle.nt_event.specs.declared.frames.Body.{Body}
use Rattle.nt_event.specs.declared.frames.Body.TheVariants.{Apc as OnApc, Base as OnBase, Dpc as OnDpc, Int as OnInt, Rundown as OnRundown}
use Rattle.nt_event.specs.declared.frames.Body.TheVariants.{Threaded as OnThreaded}
use Rattle.nt_event.specs.Frame.{Frame}
use Rattle.nt_event.specs.declared.inserts.Pick.{Pick}
use Rattle.nt_event.specs.declared.jobs.Job.TheVariants.{Apcs as ApcsJob, Drain as DrainJob, Threaded as ThreadedJob}
use Rattle.nt_event.specs.declared.jobs.Task.{Task}
use Rattle.nt_event.specs.declared.jobs.Task.TheVariants.{Shared}
use Rattle.nt_event.specs.declared.numbers.CpuNo.{CpuNo}
use Rattle.nt_event.specs.declared.numbers.ThreadNo.{ThreadNo}
use Rattle.nt_event.specs.declared.scripts.Script.{Script}
use Rattle.nt_event.specs.Apcs.{ApcQueues, deliverable, first_kernel, has_kernel, lets_through}
use Rattle.nt_event.specs.Frames.{frames_of, innermost, is_base_body, is_normal_apc_body, is_on_thread, is_user_apc_body, own_frames, running, thread_frames}
use Rattle.nt_event.specs.Frames.{thread_part}
use Rattle.nt_event.specs.Jobs.{fire_task, interrupt_task, is_due, level_at, may_apcs, may_drain, may_threaded, must_task}
use Rattle.nt_event.specs.Lanes.{facts_at, facts_of, lanes_at}
use Rattle.nt_runs.specs.Laws.{HasBase, level_of}
use Rattle.nt_event.specs.Own.{Own, own_of}
use Rattle.nt_event.specs.Regions.{regions_of}
use Rattle.nt_event.specs.Requests.{seen, served}
use Rattle.nt_event.specs.Routines.{cpu_of}
use Rattle.nt_event.specs.Script.{has_thread}
use Rattle.nt_event.specs.Step.{IsRun}
use Rattle.nt_event.specs.Threads.{ThreadFacts, start_facts}
use Rattle.nt_event.specs.Waits.{facts}
use Rattle.nt_event.specs.Lists.{head_of, is_null, value_at, when}
use Rattle.nt_event.specs.Numbers.{thread}
use Rattle.nt_runs.proofs.Calm.{all_calm, leaving_low}
use Rattle.nt_runs.proofs.Facts.{level_on_thread}
use Rattle.nt_runs.proofs.Known.{Deliverable, KnownRundown}
use Rattle.nt_runs.proofs.Leaving.{base_leaving, leaves_as}
use Rattle.nt_event.proofs.Options.{both}
use Rattle.nt_runs.proofs.OwnPart.{is_own_body}
use Rattle.nt_runs.proofs.Robin.{Comes}
use Rattle.nt_runs.proofs.Running.{based, part_of_running, running_here}
use Rattle.nt_runs.proofs.Shared.{leaving_null, on_thread_frame, part_head}
use Rattle.nt_event.proofs.Tables.{get_or-table}
use Rattle.nt_runs.proofs.UserApcs.{apcs_low}
use Rattle.nt_runs.proofs.Pending.{NoKernel, without_kernel}
use Rattle.nt_runs.proofs.Rundown.{Leaves, Runs, Unserved, is_rundown}
use Rattle.nt_runs.proofs.ThreadFrames.{Each, Sound, is_special, sound_frames}

-- ---- where the thread stands

-- the thread runs on p, and its frames are these
pub record Stands (s : Script) (limit : ℕ) (t : ThreadNo) (past : List Event) : Type 0 where
  pub run : running (cpu_of s t) past ≡ Some t
  pub has : has_thread s t ≡ true
  pub part : thread_part (frames_of s (cpu_of s t) past) ≡ thread_frames s (cpu_of s t) t past
  pub based : HasBase t (thread_frames s (cpu_of s t) t past)

-- a thread that runs stands on its processor with its own frames, over its base frame
pub stands : (s : Script) (limit : ℕ) (t : ThreadNo) (past : List Event) → IsRun s limit past → running (cpu_of s t) past ≡ Some t → Stands s limit t past
stands s limit t past r run =
    let h = running_here s limit (cpu_of s t) t past r run in
    record { run = run; has = h.0; part = part_of_running s (cpu_of s t) t past h.0 run; based = (based s limit (cpu_of s t) t past r).running run }

-- the innermost frame is the first of the thread's, where none stands on the own part
pub first_frame : (s : Script) (limit : ℕ) (t : ThreadNo) (past : List Event) (f : Frame) → Stands s limit t past → innermost (frames_of s (cpu_of s t) past)
    ≡ Some f → is_null (own_frames (cpu_of s t) past) ≡ true → head_of (thread_frames s (cpu_of s t) t past) ≡ Some f
first_frame s limit t past f z h n =
    ap (λ (fs : List Frame). head_of fs) (sym z.part) ∙ part_head (frames_of s (cpu_of s t) past) f h n

-- the facts that the lanes hold for a declared thread are the facts of the history
pub facts_there : (s : Script) (limit : ℕ) (t : ThreadNo) (past : List Event) → has_thread s t ≡ true → facts_at (lanes_at s past) t ≡ facts s t past
facts_there s limit t past h =
    get_or-table (length s.threads) t.0 (λ k. facts s (thread k) past) start_facts (ltb-true t.0 (length s.threads) h)

-- the facts of a processor's running thread in the lanes are the thread's facts in the history
pub facts_running : (s : Script) (limit : ℕ) (t : ThreadNo) (past : List Event) → Stands s limit t past →
    facts_of (lanes_at s past) (running (cpu_of s t) past) ≡ facts s t past
facts_running s limit t past z =
    ap (λ (o : Option ThreadNo). option_map_or (facts_at (lanes_at s past)) o start_facts) z.run ∙ facts_there s limit t past z.has

-- the level of frames is the level of the first one
level_first : (f : Frame) (fs : List Frame) → head_of fs ≡ Some f → level_of fs ≡ f.level
level_first f fs h = ap (λ (o : Option Frame). option_map_or (λ f. f.level) o 0) h

-- where the body of the first frame passes a test, a frame of this kind is open
runs_first : (test : Body → Bool) (f : Frame) (fs : List Frame) → head_of fs ≡ Some f → test f.body ≡ true → Runs test fs ≡ true
runs_first test f [] h k = cc
runs_first test f (g ∷ fs) h k =
    let same : g ≡ f = cc in
    let y : test g.body ≡ true = ap (λ (z : Frame). test z.body) same ∙ k in
    rw y refl

-- a base frame that is innermost is the only one
pub base_alone : (t : ThreadNo) (f : Frame) (fs : List Frame) → head_of fs ≡ Some f → is_base_body f.body ≡ true → HasBase t fs → fs ≡ f ∷ []
base_alone t f [] h k b = cc
base_alone t f (g ∷ []) h k b = let same : g ≡ f = cc in cc
base_alone t f (g ∷ (x ∷ fs)) h k b =
    let same : g ≡ f = cc in
    let y : is_base_body g.body ≡ true = ap (λ (z : Frame). is_base_body z.body) same ∙ k in
    absurd (both_ways (is_base_body g.body) b.0.0 y)

-- what holds of each frame holds of the first one
each_first : (P : Frame → Type 0) (f : Frame) (fs : List Frame) → head_of fs ≡ Some f → Each P fs → P f
each_first P f [] h e = cc
each_first P f (g ∷ fs) h e = let same : g ≡ f = cc in subst P same e.0

-- ---- a leaving thread's base at PASSIVE_LEVEL: what is pending is deliverable

-- the base frame alone, in no region, gives no regions and no normal APC in progress
no_regions : (f : Frame) → f.body ≡ f.body → is_base_body f.body ≡ true → f.crit ≡ 0 → f.guard ≡ 0 → regions_of (f ∷ [])
    ≡ record { crit = 0; guard = 0; busy = false }
no_regions f e b c g = λ i. record { crit = sums f.crit c i; guard = sums f.guard g i; busy = busy f.body b i }
  where
    sums : (n : ℕ) → n ≡ 0 → 0 + n ≡ 0
    sums n h = omega (arith, h)

    busy : (b : Body) → is_base_body b ≡ true → (is_normal_apc_body b || false) ≡ false
    busy (OnBase t) h = refl
    busy (OnApc a k) h = cc
    busy (OnInt l) h = refl
    busy (OnDpc d) h = refl
    busy (OnThreaded d) h = refl
    busy (OnRundown a) h = refl

-- outside all regions each kind of APC is let through
let_through : (k : ApcKind) → lets_through (record { crit = 0; guard = 0; busy = false }) k ≡ true
let_through SpecialApc = refl
let_through NormalApc = refl
let_through UserApc = refl

-- with no region and at PASSIVE_LEVEL the first kernel APC is deliverable
none_deliverable : (q : ApcQueues) → deliverable q (record { crit = 0; guard = 0; busy = false }) 0 ≡ None → has_kernel q ≡ false
none_deliverable q h = go (first_kernel q) h
  where
    go : (o : Option Pick) → option_and_then (λ x. when (lets_through (record { crit = 0; guard = 0; busy = false }) x.kind) (Some x)) o ≡ None → is_some o
        ≡ false
    go None h = refl
    go (Some x) h = let y : when (lets_through (record { crit = 0; guard = 0; busy = false }) x.kind) (Some x)
        ≡ Some x = ap (λ (b : Bool). when b (Some x)) (let_through x.kind) in cc

-- ---- nothing is left at a flush

-- a leaving thread whose base goes on has no kernel APC pending
pub flush_quiet : (s : Script) (limit : ℕ) (t : ThreadNo) (past : List Event) → IsRun s limit past → Leaves s t past →
    KnownRundown (own_of s (cpu_of s t) past) t → NoKernel (facts s t past).apcs.pending
flush_quiet s limit t past r v k = go (v.pending k.thread)
  where
    p : CpuNo
    p = cpu_of s t

    z : Stands s limit t past
    z = stands s limit t past r k.thread

    null : is_null (own_frames (cpu_of s t) past) ≡ true
    null = leaving_null s (cpu_of s t) past k.frame k.goes_on.inner k.leaving

    first : head_of (thread_frames s (cpu_of s t) t past) ≡ Some k.frame
    first = first_frame s limit t past k.frame z k.goes_on.inner null

    low : level_at (own_of s (cpu_of s t) past) ≡ 0
    low =
        level_on_thread (frames_of s (cpu_of s t) past) (thread_frames s (cpu_of s t) t past) null z.part
        ∙ leaving_low k.frame (thread_frames s (cpu_of s t) t past) first k.leaving (all_calm s limit (cpu_of s t) t past r)

    base : is_base_body k.frame.body ≡ true
    base = leaving_is_base t k.frame (thread_frames s (cpu_of s t) t past) first k.leaving z.based
      where
        leaving_is_base : (t : ThreadNo) (f : Frame) (fs : List Frame) → head_of fs ≡ Some f → f.leaving ≡ true → HasBase t fs → is_base_body f.body ≡ true
        leaving_is_base t f [] h l b = cc
        leaving_is_base t f (g ∷ []) h l b = let same : g ≡ f = cc in ap (λ (y : Frame). is_base_body y.body) (sym same) ∙ ap is_base_body b
        leaving_is_base t f (g ∷ (x ∷ fs)) h l b =
            let same : g ≡ f = cc in
            let y : g.leaving ≡ true = ap (λ (y : Frame). y.leaving) same ∙ l in
            absurd (both_ways g.leaving b.0.1 y)

    on : is_on_thread (frames_of s (cpu_of s t) past) ≡ true
    on = rw null (some_part (thread_part (frames_of s (cpu_of s t) past)) (ap (λ (fs : List Frame). head_of fs) z.part ∙ first))
      where
        some_part : (fs : List Frame) → head_of fs ≡ Some k.frame → not (is_null fs) ≡ true
        some_part [] h = cc
        some_part (g ∷ fs) h = refl

    due : Unserved s (cpu_of s t) 1 past → is_due (own_of s (cpu_of s t) past) 1 ≡ true
    due u =
        let a : value_at (own_of s (cpu_of s t) past).served 1
        ≡ served s (cpu_of s t) 1 past = get_or-table 16 1 (λ c. served s (cpu_of s t) c past) 0 (omega arith) in
        let b : value_at (own_of s (cpu_of s t) past).seen 1
        ≡ seen s (cpu_of s t) 1 past = get_or-table 16 1 (λ c. seen s (cpu_of s t) c past) 0 (omega arith) in
        lt-ltb _ _ (rw (a, b) u)

    no_must : may_apcs (own_of s (cpu_of s t) past) ≡ true → ⊥
    no_must m = none_must (own_of s (cpu_of s t) past) k.goes_on.quiet m
      where
        right : (a b : Option Task) → option_or a b ≡ None → b ≡ None
        right None b h = h
        right (Some x) b h = cc

        none_must : (x : Own) → must_task x ≡ None → may_apcs x ≡ true → ⊥
        none_must x h m =
            let a = right (fire_task x) _ h in
            let b = right (interrupt_task x) _ a in
            let c = right (when (may_drain x) (Some (Shared DrainJob))) _ b in
            none_when (may_apcs x) (when (may_threaded x) (Some (Shared ThreadedJob))) c m
          where
            none_when : (t : Bool) (more : Option Task) → option_or (when t (Some (Shared ApcsJob))) more ≡ None → t ≡ true → ⊥
            none_when true more h e = cc
            none_when false more h e = cc

    go : NoKernel (facts s t past).apcs.pending ⊎ (Unserved s (cpu_of s t) 1 past ⊎ (Runs is_normal_apc_body (thread_frames s (cpu_of s t) t past) ≡ true)) →
        NoKernel (facts s t past).apcs.pending
    go (inl n) = n
    go (inr (inl u)) =
        let m : may_apcs (own_of s (cpu_of s t) past) ≡ true = rw (low, on, due u) refl in absurd (no_must m)
    go (inr (inr b)) =
        let alone : thread_frames s (cpu_of s t) t past ≡ k.frame ∷ [] = base_alone t k.frame (thread_frames s (cpu_of s t) t past) first base z.based in
        let y : (is_normal_apc_body k.frame.body || false) ≡ true = ap (Runs is_normal_apc_body) (sym alone) ∙ b in
        absurd (not_both k.frame.body base y)
      where
        not_both : (b : Body) → is_base_body b ≡ true → (is_normal_apc_body b || false) ≡ true → ⊥
        not_both (OnBase t) h k = cc
        not_both (OnApc a q) h k = cc
        not_both (OnInt l) h k = cc
        not_both (OnDpc d) h k = cc
        not_both (OnThreaded d) h k = cc
        not_both (OnRundown a) h k = cc

-- ---- a Clean of class 1

-- where nothing is deliverable to a leaving thread, nothing is pending, or a normal kernel APC is in progress
pub clean_quiet : (s : Script) (limit : ℕ) (t : ThreadNo) (past : List Event) → IsRun s limit past → Stands s limit t past → (facts s t past).leaving ≡ true →
    Leaves s t past → may_apcs (own_of s (cpu_of s t) past) ≡ true → Deliverable (own_of s (cpu_of s t) past) (lanes_at s past) ≡ None →
    NoKernel (facts s t past).apcs.pending ⊎ (Runs is_normal_apc_body (thread_frames s (cpu_of s t) t past) ≡ true)
clean_quiet s limit t past r z l v may none =
    kinds f.0.body refl
  where
    low : (level_at (own_of s (cpu_of s t) past) ≡ 0) × (is_null (own_frames (cpu_of s t) past) ≡ true)
    low = apcs_low (own_of s (cpu_of s t) past) may

    f : Comes (innermost (frames_of s (cpu_of s t) past))
    f =
        on_thread_frame (frames_of s (cpu_of s t) past) (both (is_on_thread (frames_of s (cpu_of s t) past)) _
        (both (level_at (own_of s (cpu_of s t) past) == 0) _ may).1).0

    first : head_of (thread_frames s (cpu_of s t) t past) ≡ Some f.0
    first = first_frame s limit t past f.0 z f.1 low.1

    sound : Sound f.0
    sound = each_first Sound f.0 (thread_frames s (cpu_of s t) t past) first (sound_frames s limit (cpu_of s t) t past r)

    level : f.0.level ≡ 0
    level =
        sym (level_first f.0 (thread_frames s (cpu_of s t) t past) first)
        ∙ (sym (level_on_thread (frames_of s (cpu_of s t) past) (thread_frames s (cpu_of s t) t past) low.1 z.part) ∙ low.0)

    base_case : is_base_body f.0.body ≡ true → NoKernel (facts s t past).apcs.pending
    base_case b =
        let alone : thread_frames s (cpu_of s t) t past ≡ f.0 ∷ [] = base_alone t f.0 (thread_frames s (cpu_of s t) t past) first b z.based in
        let leaves : base_leaving (thread_frames s (cpu_of s t) t past) ≡ true = sym (leaves_as s limit t past r) ∙ l in
        let mine : f.0.leaving ≡ true = ap base_leaving (sym alone) ∙ leaves in
        let zero_regions = sound.1 mine in
        let regions : regions_of (thread_part (frames_of s (cpu_of s t) past)) ≡ record { crit = 0; guard = 0; busy = false } = ap regions_of (z.part ∙ alone)
        ∙ no_regions f.0 refl b zero_regions.0 zero_regions.1 in
        let q : deliverable (facts s t past).apcs (regions_of (thread_part (frames_of s (cpu_of s t) past))) (level_at (own_of s (cpu_of s t) past))
        ≡ None = ap (λ (x : ThreadFacts). deliverable x.apcs (regions_of (thread_part (frames_of s (cpu_of s t) past)))
        (level_at (own_of s (cpu_of s t) past))) (sym (facts_running s limit t past z)) ∙ none in
        let q2 : deliverable (facts s t past).apcs (record { crit = 0; guard = 0; busy = false }) 0
        ≡ None = subst (λ (n : ℕ). deliverable (facts s t past).apcs (record { crit = 0; guard = 0; busy = false }) n ≡ None) low.0
        (subst (λ (g : Regions). deliverable (facts s t past).apcs g (level_at (own_of s (cpu_of s t) past)) ≡ None) regions q) in
        without_kernel (facts s t past).apcs (none_deliverable (facts s t past).apcs q2)

    kinds : (b : Body) → f.0.body ≡ b → NoKernel (facts s t past).apcs.pending ⊎ (Runs is_normal_apc_body (thread_frames s (cpu_of s t) t past) ≡ true)
    kinds (OnApc a SpecialApc) e =
        let up = (sound.0 (ap is_special e)).0 in absurd (omega (arith, up, level))
    kinds (OnApc a NormalApc) e =
        inr (runs_first is_normal_apc_body f.0 (thread_frames s (cpu_of s t) t past) first (ap is_normal_apc_body e))
    kinds (OnApc a UserApc) e =
        absurd (both_ways (Runs is_user_apc_body (thread_frames s (cpu_of s t) t past)) v.serving
        (runs_first is_user_apc_body f.0 (thread_frames s (cpu_of s t) t past) first (ap is_user_apc_body e)))
    kinds (OnRundown a) e =
        inl (v.rundown (runs_first is_rundown f.0 (thread_frames s (cpu_of s t) t past) first (ap is_rundown e)))
    kinds (OnBase u) e = inl (base_case (ap is_base_body e))
    kinds (OnInt n) e = absurd (both_ways (is_own_body f.0.body) sound.2 (ap is_own_body e))
    kinds (OnDpc d) e = absurd (both_ways (is_own_body f.0.body) sound.2 (ap is_own_body e))
    kinds (OnThreaded d) e = absurd (both_ways (is_own_body f.0.body) sound.2 (ap is_own_body e))
