-- Each thing that is listed is left.
use Rattle.std.proofs.Common.{ap, inl, inr, subst}
use Rattle.std.proofs.lemmas.Bool.{lt-ltb, ltb-true}
use Rattle.std.proofs.lemmas.List.Elements.{Contains-append_cases}
use Rattle.std.specs.List.{Contains}
use Rattle.std.specs.Prelude.{Bool, List, None, Option, Some, false, if◌then◌else◌, length, map, nat_lt, not, option_map, refl, reverse, true, ℕ, ◌++◌, ◌≡◌}
use Rattle.std.specs.Prelude.{◌⊎◌}
use Rattle.nt_event.specs.declared.events.Event.{Event}
use Rattle.nt_event.specs.declared.frames.Region.{Region}
use Rattle.nt_event.specs.declared.frames.Region.TheVariants.{Crit, Guard}
use Rattle.nt_event.specs.declared.inserts.Pick.{Pick}
use Rattle.nt_event.specs.declared.inserts.Setting.{Setting}
use Rattle.nt_event.specs.declared.inserts.Standing.{Standing}
use Rattle.nt_event.specs.declared.numbers.CpuNo.{CpuNo}
use Rattle.nt_event.specs.declared.numbers.DpcNo.{DpcNo}
use Rattle.nt_event.specs.declared.numbers.LockNo.{LockNo}
use Rattle.nt_event.specs.declared.numbers.ThreadNo.{ThreadNo}
use Rattle.nt_event.specs.declared.numbers.TimerNo.{TimerNo}
use Rattle.nt_event.specs.declared.scripts.Script.{Script}
use Rattle.nt_event.specs.declared.threads.Doing.{Doing}
use Rattle.nt_event.specs.declared.threads.Doing.TheVariants as doings
use Rattle.nt_event.specs.Frame.{Frame}
use Rattle.nt_event.specs.Frames.{base_of, frames_of, own_frames, thread_frames}
use Rattle.nt_event.specs.Jobs.{spins_still}
use Rattle.nt_event.specs.Lists.{is_null, when}
use Rattle.nt_event.specs.Numbers.{cpu, dpc, thread, timer}
use Rattle.nt_event.specs.Objects.{standing}
use Rattle.nt_event.specs.Own.{own_of}
use Rattle.nt_event.specs.Routines.{cpu_of}
use Rattle.nt_event.specs.Script.{has_cpu, has_dpc, has_thread, has_timer}
use Rattle.nt_event.specs.Step.{is_cut}
use Rattle.nt_event.specs.Threads.{ready_doing}
use Rattle.nt_event.specs.Timers.{timer_setting}
use Rattle.nt_event.specs.Waits.{facts}
use Rattle.nt_event.proofs.Elements.{mapped_contains, reversed_contains}
use Rattle.nt_frame.specs.Rules.{spinning_in}
use Rattle.nt_left.specs.declared.kinds.Left.{Left}
use Rattle.nt_left.specs.declared.kinds.Left.TheVariants as left
use Rattle.nt_left.specs.Causes.{cpu_cause}
use Rattle.nt_left.specs.Items.{apc_item, apc_items, apc_part, cpu_item, cpu_part, cut_item, dpc_item, dpc_part, due_in, frame_items, frame_part, frames_at}
use Rattle.nt_left.specs.Items.{frames_items}
use Rattle.nt_left.specs.Items.{frames_on, holds_item, inside_item, left_of, raised_item, thread_at, thread_item, thread_part, threads_on, timer_item}
use Rattle.nt_left.specs.Items.{timer_part}
use Rattle.nt_left.specs.Left.{IsLeft, StandsOn, entered}
use Rattle.nt_left.specs.Lists.{as_list}
use Rattle.nt_left.proofs.Elements.{in_along, in_item, in_joined}

module _ (s : Script) (limit : ℕ) (past : List Event) where
  -- ---- processors

  cpu_is : (p : CpuNo) (x : Left) → has_cpu s p ≡ true → cpu_item limit p (own_of s p past) ≡ Some x → IsLeft s limit past x
  cpu_is p x has h = go (is_cut limit (own_of s p past)) (spins_still (own_of s p past)) (spinning_in (frames_of s p past)) refl refl refl h
    where
      go : (b c : Bool) (k : Option LockNo) → is_cut limit (own_of s p past) ≡ b → spins_still (own_of s p past) ≡ c →
          spinning_in (frames_of s p past) ≡ k →
          (if b then Some (cut_item p (frames_of s p past)) else when c (option_map (λ k. left.Spins p k) k)) ≡ Some x → IsLeft s limit past x
      go true c k cut still lock h =
          let same : cut_item p (frames_of s p past) ≡ x = cc in
          subst (λ (y : Left). IsLeft s limit past y) same (has, cut, refl, refl, refl)
      go false true (Some k) cut still lock h =
          let same : left.Spins p k ≡ x = cc in
          subst (λ (y : Left). IsLeft s limit past y) same (has, cut, still, lock)
      go false true None cut still lock h = absurd cc
      go false false k cut still lock h = absurd cc

  in_cpus : (x : Left) → Contains (cpu_part s limit past) x → IsLeft s limit past x
  in_cpus x h =
      let r = in_joined s.cpus (λ p. as_list (cpu_item limit (cpu p) (own_of s (cpu p) past))) x h in
      cpu_is (cpu r.0) x (lt-ltb r.0 s.cpus r.1) (in_item (cpu_item limit (cpu r.0) (own_of s (cpu r.0) past)) x r.2)

  -- ---- threads

  thread_is : (t : ThreadNo) (x : Left) → has_thread s t ≡ true → thread_at s past t ≡ Some x → IsLeft s limit past x
  thread_is t x has h = go (facts s t past).doing refl h
    where
      go : (d : Doing) → (facts s t past).doing ≡ d → thread_item t d (frames_at s t past) ≡ Some x → IsLeft s limit past x
      go (doings.Blocked w) e h =
          let same : left.Blocked t w (due_in (frames_at s t past)) ≡ x = cc in
          subst (λ (y : Left). IsLeft s limit past y) same (has, e, refl)
      go (doings.Ready level status) e h =
          let same : left.Ready t (not (is_null (frames_at s t past))) ≡ x = cc in
          subst (λ (y : Left). IsLeft s limit past y) same (has, ap ready_doing e, refl)
      go doings.Running e h = absurd cc
      go doings.Gone e h = absurd cc

  in_threads : (x : Left) → Contains (thread_part s past) x → IsLeft s limit past x
  in_threads x h =
      let r = in_joined (length s.threads) (λ t. as_list (thread_at s past (thread t))) x h in
      thread_is (thread r.0) x (lt-ltb r.0 (length s.threads) r.1) (in_item (thread_at s past (thread r.0)) x r.2)

  -- ---- timers

  timer_is : (t : TimerNo) (x : Left) → has_timer s t ≡ true → timer_item t (timer_setting t past) ≡ Some x → IsLeft s limit past x
  timer_is t x has h = go (timer_setting t past) refl h
    where
      go : (o : Option Setting) → timer_setting t past ≡ o → timer_item t o ≡ Some x → IsLeft s limit past x
      go None e h = absurd cc
      go (Some k) e h =
          let same : left.Timer t k ≡ x = cc in
          subst (λ (y : Left). IsLeft s limit past y) same (has, e)

  in_timers : (x : Left) → Contains (timer_part s past) x → IsLeft s limit past x
  in_timers x h =
      let r = in_joined (length s.timers) (λ t. as_list (timer_item (timer t) (timer_setting (timer t) past))) x h in
      timer_is (timer r.0) x (lt-ltb r.0 (length s.timers) r.1) (in_item (timer_item (timer r.0) (timer_setting (timer r.0) past)) x r.2)

  -- ---- frames

  raised_is : (p : CpuNo) (o : Option ThreadNo) (f : Frame) (x : Left) → StandsOn s past p o f → raised_item p o f ≡ Some x → IsLeft s limit past x
  raised_is p o f x stands h = go (nat_lt (base_of f) f.level) refl h
    where
      go : (b : Bool) → nat_lt (base_of f) f.level ≡ b → when b (Some (left.Raised p o f.name f.level (base_of f))) ≡ Some x → IsLeft s limit past x
      go true e h =
          let same : left.Raised p o f.name f.level (base_of f) ≡ x = cc in
          subst (λ (y : Left). IsLeft s limit past y) same (f, stands, refl, (refl, refl, ltb-true (base_of f) f.level e))
      go false e h = absurd cc

  inside_is : (p : CpuNo) (o : Option ThreadNo) (f : Frame) (r : Region) (x : Left) → StandsOn s past p o f →
      inside_item p o f.name r (entered r f) ≡ Some x → IsLeft s limit past x
  inside_is p o f r x stands h = go (nat_lt 0 (entered r f)) refl h
    where
      go : (b : Bool) → nat_lt 0 (entered r f) ≡ b → when b (Some (left.Inside p o f.name r (entered r f))) ≡ Some x → IsLeft s limit past x
      go true e h =
          let same : left.Inside p o f.name r (entered r f) ≡ x = cc in
          subst (λ (y : Left). IsLeft s limit past y) same (f, stands, refl, (refl, ltb-true 0 (entered r f) e))
      go false e h = absurd cc

  holds_is : (p : CpuNo) (o : Option ThreadNo) (f : Frame) (x : Left) → StandsOn s past p o f →
      Contains (map (holds_item p o f.name) (reverse f.held)) x → IsLeft s limit past x
  holds_is p o f x stands h =
      let r = mapped_contains (holds_item p o f.name) (reverse f.held) x h in
      subst (λ (y : Left). IsLeft s limit past y) r.2 (f, stands, refl, (r.0, reversed_contains f.held r.0 r.1, refl))

  frame_is : (p : CpuNo) (o : Option ThreadNo) (f : Frame) (x : Left) → StandsOn s past p o f → Contains (frame_items p o f) x → IsLeft s limit past x
  frame_is p o f x stands h = go (Contains-append_cases (first ++ second ++ third) (map (holds_item p o f.name) (reverse f.held)) x h)
    where
      first : List Left
      first = as_list (raised_item p o f)

      second : List Left
      second = as_list (inside_item p o f.name Crit f.crit)

      third : List Left
      third = as_list (inside_item p o f.name Guard f.guard)

      go_second : Contains first x ⊎ Contains second x → IsLeft s limit past x
      go_second (inl k) = raised_is p o f x stands (in_item (raised_item p o f) x k)
      go_second (inr k) = inside_is p o f Crit x stands (in_item (inside_item p o f.name Crit f.crit) x k)

      go_third : Contains (first ++ second) x ⊎ Contains third x → IsLeft s limit past x
      go_third (inl k) = go_second (Contains-append_cases first second x k)
      go_third (inr k) = inside_is p o f Guard x stands (in_item (inside_item p o f.name Guard f.guard) x k)

      go : Contains (first ++ second ++ third) x ⊎ Contains (map (holds_item p o f.name) (reverse f.held)) x → IsLeft s limit past x
      go (inl k) = go_third (Contains-append_cases (first ++ second) third x k)
      go (inr k) = holds_is p o f x stands k

  -- of frames each of which stands there
  frames_are : (p : CpuNo) (o : Option ThreadNo) (fs : List Frame) (x : Left) → ((f : Frame) → Contains fs f → StandsOn s past p o f) →
      Contains (frames_items p o fs) x → IsLeft s limit past x
  frames_are p o fs x stands h =
      let r = in_along (frame_items p o) (reverse fs) x h in
      frame_is p o r.0 x (stands r.0 (reversed_contains fs r.0 r.1)) r.2

  on_cpu : (p : CpuNo) (x : Left) → has_cpu s p ≡ true → Contains (frames_on s past p) x → IsLeft s limit past x
  on_cpu p x has h =
      elim (Contains-append_cases (frames_items p None (own_frames p past)) (threads_on s past p) x h) [
        | inl own ↦ frames_are p None (own_frames p past) x (λ f k. (has, k)) own
        | inr others ↦ (let r = in_joined (length s.threads) (λ t. frames_items p (Some (thread t)) (thread_frames s p (thread t) past)) x others in
            frames_are p (Some (thread r.0)) (thread_frames s p (thread r.0) past) x (λ f k. (has, lt-ltb r.0 (length s.threads) r.1, k)) r.2)
      ]

  in_frames : (x : Left) → Contains (frame_part s past) x → IsLeft s limit past x
  in_frames x h =
      let r = in_joined s.cpus (λ p. frames_on s past (cpu p)) x h in
      on_cpu (cpu r.0) x (lt-ltb r.0 s.cpus r.1) r.2

  -- ---- inserts

  dpc_is : (d : DpcNo) (x : Left) → has_dpc s d ≡ true → dpc_item s limit past d (standing d past) ≡ Some x → IsLeft s limit past x
  dpc_is d x has h = go (standing d past) refl h
    where
      go : (o : Option Standing) → standing d past ≡ o → dpc_item s limit past d o ≡ Some x → IsLeft s limit past x
      go None e h = absurd cc
      go (Some i) e h =
          let same : left.Dpc d i.number i.queue (cpu_cause limit (own_of s i.queue past)) ≡ x = cc in
          subst (λ (y : Left). IsLeft s limit past y) same (has, e, refl)

  in_dpcs : (x : Left) → Contains (dpc_part s limit past) x → IsLeft s limit past x
  in_dpcs x h =
      let r = in_joined (length s.dpcs) (λ d. as_list (dpc_item s limit past (dpc d) (standing (dpc d) past))) x h in
      dpc_is (dpc r.0) x (lt-ltb r.0 (length s.dpcs) r.1) (in_item (dpc_item s limit past (dpc r.0) (standing (dpc r.0) past)) x r.2)

  in_apcs : (x : Left) → Contains (apc_part s limit past) x → IsLeft s limit past x
  in_apcs x h =
      let r = in_joined (length s.threads)
      (λ t. apc_items limit (own_of s (cpu_of s (thread t)) past) (thread t) (facts s (thread t) past)) x h in
      let t : ThreadNo = thread r.0 in
      let pending : List Pick = (facts s t past).apcs.pending in
      let m = mapped_contains (apc_item limit (own_of s (cpu_of s t) past) t (facts s t past).doing) (reverse pending) x r.2 in
      subst (λ (y : Left). IsLeft s limit past y) m.2
      (lt-ltb r.0 (length s.threads) r.1, (m.0, reversed_contains pending m.0 m.1, refl, refl, refl))

  -- ---- the whole

  -- each thing that is listed is left
  pub listed_is_left : (x : Left) → Contains (left_of s limit past) x → IsLeft s limit past x
  listed_is_left x h = in_five (Contains-append_cases five (apc_part s limit past) x h)
    where
      two : List Left
      two = cpu_part s limit past ++ thread_part s past

      three : List Left
      three = two ++ timer_part s past

      four : List Left
      four = three ++ frame_part s past

      five : List Left
      five = four ++ dpc_part s limit past

      in_two : Contains (cpu_part s limit past) x ⊎ Contains (thread_part s past) x → IsLeft s limit past x
      in_two (inl k) = in_cpus x k
      in_two (inr k) = in_threads x k

      in_three : Contains two x ⊎ Contains (timer_part s past) x → IsLeft s limit past x
      in_three (inl k) = in_two (Contains-append_cases (cpu_part s limit past) (thread_part s past) x k)
      in_three (inr k) = in_timers x k

      in_four : Contains three x ⊎ Contains (frame_part s past) x → IsLeft s limit past x
      in_four (inl k) = in_three (Contains-append_cases two (timer_part s past) x k)
      in_four (inr k) = in_frames x k

      in_fifth : Contains four x ⊎ Contains (dpc_part s limit past) x → IsLeft s limit past x
      in_fifth (inl k) = in_four (Contains-append_cases three (frame_part s past) x k)
      in_fifth (inr k) = in_dpcs x k

      in_five : Contains five x ⊎ Contains (apc_part s limit past) x → IsLeft s limit past x
      in_five (inl k) = in_fifth (Contains-append_cases four (dpc_part s limit past) x k)
      in_five (inr k) = in_apcs x k
