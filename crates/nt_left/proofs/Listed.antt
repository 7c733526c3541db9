-- Each thing that is left is listed.
use Rattle.std.proofs.Common.{ap, subst, sym, ◌∙◌}
use Rattle.std.proofs.lemmas.Bool.{lt-ltb, ltb-true}
use Rattle.std.proofs.lemmas.List.Elements.{Contains-append_left, Contains-append_right}
use Rattle.std.specs.List.{Contains}
use Rattle.std.specs.Prelude.{Bool, List, None, Option, Some, false, if◌then◌else◌, length, map, not, option_map, reverse, true, ℕ, ◌++◌, ◌<◌}
use Rattle.std.specs.Prelude.{◌≡◌}
use Rattle.nt_event.specs.declared.events.Event.{Event}
use Rattle.nt_event.specs.declared.frames.Held.{Held}
use Rattle.nt_event.specs.declared.frames.Region.{Region}
use Rattle.nt_event.specs.declared.frames.Region.TheVariants.{Crit, Guard}
use Rattle.nt_event.specs.declared.inserts.Pick.{Pick}
use Rattle.nt_event.specs.declared.inserts.Setting.{Setting}
use Rattle.nt_event.specs.declared.inserts.Standing.{Standing}
use Rattle.nt_event.specs.declared.numbers.CpuNo.{CpuNo}
use Rattle.nt_event.specs.declared.numbers.DpcNo.{DpcNo}
use Rattle.nt_event.specs.declared.numbers.LockNo.{LockNo}
use Rattle.nt_event.specs.declared.numbers.ThreadNo.{ThreadNo}
use Rattle.nt_event.specs.declared.numbers.TimerNo.{TimerNo}
use Rattle.nt_event.specs.declared.scripts.Script.{Script}
use Rattle.nt_event.specs.declared.threads.Doing.{Doing}
use Rattle.nt_event.specs.declared.threads.Doing.TheVariants as doings
use Rattle.nt_event.specs.declared.threads.Waiting.{Waiting}
use Rattle.nt_event.specs.Frame.{Frame}
use Rattle.nt_event.specs.Frames.{base_of, frames_of, own_frames, thread_frames}
use Rattle.nt_event.specs.Jobs.{spins_still}
use Rattle.nt_event.specs.Lists.{is_null, when}
use Rattle.nt_event.specs.Numbers.{cpu, dpc, thread, timer}
use Rattle.nt_event.specs.Objects.{standing}
use Rattle.nt_event.specs.Own.{own_of}
use Rattle.nt_event.specs.Routines.{cpu_of}
use Rattle.nt_event.specs.Script.{has_cpu, has_dpc, has_thread, has_timer}
use Rattle.nt_event.specs.Step.{is_cut}
use Rattle.nt_event.specs.Threads.{ready_doing}
use Rattle.nt_event.specs.Timers.{timer_setting}
use Rattle.nt_event.specs.Waits.{facts}
use Rattle.nt_event.proofs.Elements.{contains_mapped}
use Rattle.nt_frame.specs.Rules.{spinning_in}
use Rattle.nt_left.specs.declared.kinds.CpuCause.{CpuCause}
use Rattle.nt_left.specs.declared.kinds.Left.{Left}
use Rattle.nt_left.specs.declared.kinds.Left.TheVariants as left
use Rattle.nt_left.specs.Causes.{cpu_cause}
use Rattle.nt_left.specs.Items.{apc_item, apc_items, apc_part, cpu_item, cpu_part, cut_item, dpc_item, dpc_part, due_in, frame_items, frame_part, frames_at}
use Rattle.nt_left.specs.Items.{frames_items}
use Rattle.nt_left.specs.Items.{frames_on, holds_item, inside_item, left_of, raised_item, thread_at, thread_item, thread_part, threads_on, timer_item}
use Rattle.nt_left.specs.Items.{timer_part}
use Rattle.nt_left.specs.Left.{IsLeft, StandsOn, entered}
use Rattle.nt_left.specs.Lists.{as_list}
use Rattle.nt_left.proofs.Elements.{along_in, contains_reversed, item_in, joined_in}

module _ (s : Script) (limit : ℕ) (past : List Event) where
  -- ---- the parts of the whole

  of_cpus : (x : Left) → Contains (cpu_part s limit past) x → Contains (left_of s limit past) x
  of_cpus x h =
      Contains-append_left _ (apc_part s limit past) x (Contains-append_left _ (dpc_part s limit past) x
      (Contains-append_left _ (frame_part s past) x (Contains-append_left _ (timer_part s past) x (Contains-append_left _ (thread_part s past) x h))))

  of_threads : (x : Left) → Contains (thread_part s past) x → Contains (left_of s limit past) x
  of_threads x h =
      Contains-append_left _ (apc_part s limit past) x (Contains-append_left _ (dpc_part s limit past) x
      (Contains-append_left _ (frame_part s past) x (Contains-append_left _ (timer_part s past) x (Contains-append_right (cpu_part s limit past) _ x h))))

  of_timers : (x : Left) → Contains (timer_part s past) x → Contains (left_of s limit past) x
  of_timers x h =
      Contains-append_left _ (apc_part s limit past) x (Contains-append_left _ (dpc_part s limit past) x
      (Contains-append_left _ (frame_part s past) x (Contains-append_right (cpu_part s limit past ++ thread_part s past) _ x h)))

  of_frames : (x : Left) → Contains (frame_part s past) x → Contains (left_of s limit past) x
  of_frames x h =
      Contains-append_left _ (apc_part s limit past) x (Contains-append_left _ (dpc_part s limit past) x
      (Contains-append_right (cpu_part s limit past ++ thread_part s past ++ timer_part s past) _ x h))

  of_dpcs : (x : Left) → Contains (dpc_part s limit past) x → Contains (left_of s limit past) x
  of_dpcs x h =
      Contains-append_left _ (apc_part s limit past) x
      (Contains-append_right (cpu_part s limit past ++ thread_part s past ++ timer_part s past ++ frame_part s past) _ x h)

  of_apcs : (x : Left) → Contains (apc_part s limit past) x → Contains (left_of s limit past) x
  of_apcs x h =
      Contains-append_right (cpu_part s limit past ++ thread_part s past ++ timer_part s past ++ frame_part s past ++ dpc_part s limit past) _ x h

  -- ---- processors

  cpu_in : (p : CpuNo) (x : Left) → has_cpu s p ≡ true → cpu_item limit p (own_of s p past) ≡ Some x → Contains (left_of s limit past) x
  cpu_in p x has h =
      of_cpus x (joined_in s.cpus (λ p. as_list (cpu_item limit (cpu p) (own_of s (cpu p) past))) x p.0 (ltb-true p.0 s.cpus has)
      (item_in (cpu_item limit p (own_of s p past)) x h))

  cut_in : (p : CpuNo) → has_cpu s p ≡ true → is_cut limit (own_of s p past) ≡ true → Contains (left_of s limit past) (cut_item p (frames_of s p past))
  cut_in p has cut =
      cpu_in p (cut_item p (frames_of s p past)) has
      (ap (λ (b : Bool). if b then Some (cut_item p (frames_of s p past))
      else when (spins_still (own_of s p past)) (option_map (λ k. left.Spins p k) (spinning_in (frames_of s p past)))) cut)

  spins_in : (p : CpuNo) (k : LockNo) → has_cpu s p ≡ true → is_cut limit (own_of s p past) ≡ false → spins_still (own_of s p past) ≡ true →
      spinning_in (frames_of s p past) ≡ Some k → Contains (left_of s limit past) (left.Spins p k)
  spins_in p k has cut still lock =
      cpu_in p (left.Spins p k) has
      (ap (λ (b : Bool). if b then Some (cut_item p (frames_of s p past))
      else when (spins_still (own_of s p past)) (option_map (λ k. left.Spins p k) (spinning_in (frames_of s p past)))) cut
      ∙ (ap (λ (b : Bool). when b (option_map (λ k. left.Spins p k) (spinning_in (frames_of s p past)))) still
      ∙ ap (λ (o : Option LockNo). option_map (λ k. left.Spins p k) o) lock))

  -- ---- threads

  thread_in : (t : ThreadNo) (x : Left) → has_thread s t ≡ true → thread_at s past t ≡ Some x → Contains (left_of s limit past) x
  thread_in t x has h =
      of_threads x (joined_in (length s.threads) (λ t. as_list (thread_at s past (thread t))) x t.0 (ltb-true t.0 (length s.threads) has)
      (item_in (thread_at s past t) x h))

  blocked_in : (t : ThreadNo) (w : Waiting) (due : Option ℕ) → has_thread s t ≡ true → (facts s t past).doing ≡ doings.Blocked w →
      due ≡ due_in (frames_at s t past) → Contains (left_of s limit past) (left.Blocked t w due)
  blocked_in t w due has doing same =
      thread_in t (left.Blocked t w due) has
      (ap (λ (d : Doing). thread_item t d (frames_at s t past)) doing ∙ ap (λ (o : Option ℕ). Some (left.Blocked t w o)) (sym same))

  ready_in : (t : ThreadNo) (begun : Bool) → has_thread s t ≡ true → ready_doing (facts s t past).doing ≡ true →
      begun ≡ not (is_null (frames_at s t past)) → Contains (left_of s limit past) (left.Ready t begun)
  ready_in t begun has ready same = thread_in t (left.Ready t begun) has (go (facts s t past).doing ready)
    where
      go : (d : Doing) → ready_doing d ≡ true → thread_item t d (frames_at s t past) ≡ Some (left.Ready t begun)
      go (doings.Ready level status) e = ap (λ (b : Bool). Some (left.Ready t b)) (sym same)
      go (doings.Blocked w) e = absurd cc
      go doings.Running e = absurd cc
      go doings.Gone e = absurd cc

  -- ---- timers

  timer_in : (t : TimerNo) (k : Setting) → has_timer s t ≡ true → timer_setting t past ≡ Some k → Contains (left_of s limit past) (left.Timer t k)
  timer_in t k has h =
      of_timers (left.Timer t k) (joined_in (length s.timers) (λ t. as_list (timer_item (timer t) (timer_setting (timer t) past))) (left.Timer t k) t.0
      (ltb-true t.0 (length s.timers) has)
      (item_in (timer_item t (timer_setting t past)) (left.Timer t k) (ap (λ (o : Option Setting). timer_item t o) h)))

  -- ---- frames

  frame_in : (p : CpuNo) (o : Option ThreadNo) (f : Frame) (x : Left) → StandsOn s past p o f → Contains (frame_items p o f) x →
      Contains (left_of s limit past) x
  frame_in p None f x stands h =
      of_frames x (joined_in s.cpus (λ p. frames_on s past (cpu p)) x p.0 (ltb-true p.0 s.cpus stands.0)
      (Contains-append_left (frames_items p None (own_frames p past)) (threads_on s past p) x
      (along_in (frame_items p None) (reverse (own_frames p past)) x f (contains_reversed (own_frames p past) f stands.1) h)))
  frame_in p (Some t) f x stands h =
      of_frames x (joined_in s.cpus (λ p. frames_on s past (cpu p)) x p.0 (ltb-true p.0 s.cpus stands.0)
      (Contains-append_right (frames_items p None (own_frames p past)) (threads_on s past p) x
      (joined_in (length s.threads) (λ t. frames_items p (Some (thread t)) (thread_frames s p (thread t) past)) x t.0
      (ltb-true t.0 (length s.threads) stands.1)
      (along_in (frame_items p (Some t)) (reverse (thread_frames s p t past)) x f (contains_reversed (thread_frames s p t past) f stands.2) h))))

  raised_in : (p : CpuNo) (o : Option ThreadNo) (f : Frame) → StandsOn s past p o f → base_of f < f.level →
      Contains (left_of s limit past) (left.Raised p o f.name f.level (base_of f))
  raised_in p o f stands high =
      frame_in p o f (left.Raised p o f.name f.level (base_of f)) stands
      (Contains-append_left (as_list (raised_item p o f) ++ as_list (inside_item p o f.name Crit f.crit) ++ as_list (inside_item p o f.name Guard f.guard))
      (map (holds_item p o f.name) (reverse f.held)) _ (Contains-append_left (as_list (raised_item p o f) ++ as_list (inside_item p o f.name Crit f.crit))
      (as_list (inside_item p o f.name Guard f.guard)) _ (Contains-append_left (as_list (raised_item p o f)) (as_list (inside_item p o f.name Crit f.crit)) _
      (item_in (raised_item p o f) (left.Raised p o f.name f.level (base_of f))
      (ap (λ (b : Bool). when b (Some (left.Raised p o f.name f.level (base_of f)))) (lt-ltb (base_of f) f.level high))))))

  inside_in : (p : CpuNo) (o : Option ThreadNo) (f : Frame) (r : Region) → StandsOn s past p o f → 0 < entered r f →
      Contains (left_of s limit past) (left.Inside p o f.name r (entered r f))
  inside_in p o f Crit stands some =
      frame_in p o f (left.Inside p o f.name Crit f.crit) stands
      (Contains-append_left (as_list (raised_item p o f) ++ as_list (inside_item p o f.name Crit f.crit) ++ as_list (inside_item p o f.name Guard f.guard))
      (map (holds_item p o f.name) (reverse f.held)) _ (Contains-append_left (as_list (raised_item p o f) ++ as_list (inside_item p o f.name Crit f.crit))
      (as_list (inside_item p o f.name Guard f.guard)) _ (Contains-append_right (as_list (raised_item p o f)) (as_list (inside_item p o f.name Crit f.crit)) _
      (item_in (inside_item p o f.name Crit f.crit) (left.Inside p o f.name Crit f.crit)
      (ap (λ (b : Bool). when b (Some (left.Inside p o f.name Crit f.crit))) (lt-ltb 0 f.crit some))))))
  inside_in p o f Guard stands some =
      frame_in p o f (left.Inside p o f.name Guard f.guard) stands
      (Contains-append_left (as_list (raised_item p o f) ++ as_list (inside_item p o f.name Crit f.crit) ++ as_list (inside_item p o f.name Guard f.guard))
      (map (holds_item p o f.name) (reverse f.held)) _ (Contains-append_right (as_list (raised_item p o f) ++ as_list (inside_item p o f.name Crit f.crit))
      (as_list (inside_item p o f.name Guard f.guard)) _
      (item_in (inside_item p o f.name Guard f.guard) (left.Inside p o f.name Guard f.guard)
      (ap (λ (b : Bool). when b (Some (left.Inside p o f.name Guard f.guard))) (lt-ltb 0 f.guard some)))))

  holds_in : (p : CpuNo) (o : Option ThreadNo) (f : Frame) (h : Held) → StandsOn s past p o f → Contains f.held h →
      Contains (left_of s limit past) (left.Holds p o f.name h.lock)
  holds_in p o f h stands has =
      frame_in p o f (left.Holds p o f.name h.lock) stands
      (Contains-append_right (as_list (raised_item p o f) ++ as_list (inside_item p o f.name Crit f.crit) ++ as_list (inside_item p o f.name Guard f.guard))
      (map (holds_item p o f.name) (reverse f.held)) _ (contains_mapped (holds_item p o f.name) (reverse f.held) h (contains_reversed f.held h has)))

  -- ---- inserts

  dpc_in : (d : DpcNo) (i : Standing) → has_dpc s d ≡ true → standing d past ≡ Some i →
      Contains (left_of s limit past) (left.Dpc d i.number i.queue (cpu_cause limit (own_of s i.queue past)))
  dpc_in d i has h =
      of_dpcs _ (joined_in (length s.dpcs) (λ d. as_list (dpc_item s limit past (dpc d) (standing (dpc d) past))) _ d.0 (ltb-true d.0 (length s.dpcs) has)
      (item_in (dpc_item s limit past d (standing d past)) (left.Dpc d i.number i.queue (cpu_cause limit (own_of s i.queue past)))
      (ap (λ (o : Option Standing). dpc_item s limit past d o) h)))

  apc_in : (t : ThreadNo) (i : Pick) → has_thread s t ≡ true → Contains (facts s t past).apcs.pending i →
      Contains (left_of s limit past) (apc_item limit (own_of s (cpu_of s t) past) t (facts s t past).doing i)
  apc_in t i has h =
      of_apcs _ (joined_in (length s.threads)
      (λ t. apc_items limit (own_of s (cpu_of s (thread t)) past) (thread t) (facts s (thread t) past)) _ t.0 (ltb-true t.0 (length s.threads) has)
      (contains_mapped (apc_item limit (own_of s (cpu_of s t) past) t (facts s t past).doing) (reverse (facts s t past).apcs.pending) i
      (contains_reversed (facts s t past).apcs.pending i h)))

  -- ---- the whole

  -- each thing that is left is listed
  pub left_is_listed : (x : Left) → IsLeft s limit past x → Contains (left_of s limit past) x
  left_is_listed (left.Cut p t level frame) h =
      let a = h.2 in
      let b = h.3 in
      let c = h.4 in
      let same : cut_item p (frames_of s p past) ≡ left.Cut p t level frame = cc in
      subst (λ (y : Left). Contains (left_of s limit past) y) same (cut_in p h.0 h.1)
  left_is_listed (left.Spins p k) h = spins_in p k h.0 h.1 h.2 h.3
  left_is_listed (left.Blocked t w due) h = blocked_in t w due h.0 h.1 h.2
  left_is_listed (left.Ready t begun) h = ready_in t begun h.0 h.1 h.2
  left_is_listed (left.Timer t k) h = timer_in t k h.0 h.1
  left_is_listed (left.Raised p o n level base) h =
      let f = h.0 in
      let a = h.2 in
      let b = h.3.0 in
      let c = h.3.1 in
      let same : left.Raised p o f.name f.level (base_of f) ≡ left.Raised p o n level base = cc in
      subst (λ (y : Left). Contains (left_of s limit past) y) same
      (raised_in p o f h.1 (subst (λ (k : ℕ). base_of f < k) (sym b) (subst (λ (k : ℕ). k < level) (sym c) h.3.2)))
  left_is_listed (left.Inside p o n r count) h =
      let f = h.0 in
      let a = h.2 in
      let b = h.3.0 in
      let same : left.Inside p o f.name r (entered r f) ≡ left.Inside p o n r count = cc in
      subst (λ (y : Left). Contains (left_of s limit past) y) same (inside_in p o f r h.1 (subst (λ (k : ℕ). 0 < k) (sym b) h.3.1))
  left_is_listed (left.Holds p o n k) h =
      let f = h.0 in
      let g = h.3.0 in
      let a = h.2 in
      let b = h.3.2 in
      let same : left.Holds p o f.name g.lock ≡ left.Holds p o n k = cc in
      subst (λ (y : Left). Contains (left_of s limit past) y) same (holds_in p o f g h.1 h.3.1)
  left_is_listed (left.Dpc d n q cause) h =
      subst (λ (w : CpuCause). Contains (left_of s limit past) (left.Dpc d n q w)) (sym h.2) (dpc_in d (record { queue = q; number = n }) h.0 h.1)
  left_is_listed (left.Apc a n t cause) h =
      let i = h.1.0 in
      let b = h.1.2 in
      let c = h.1.3 in
      let d = h.1.4 in
      let same : apc_item limit (own_of s (cpu_of s t) past) t (facts s t past).doing i ≡ left.Apc a n t cause = cc in
      subst (λ (y : Left). Contains (left_of s limit past) y) same (apc_in t i h.0 h.1.1)
