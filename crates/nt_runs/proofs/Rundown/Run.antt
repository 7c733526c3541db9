-- In a run what holds of a leaving thread goes on at each event.
use Rattle.std.proofs.Common.{ap, inl, inr, subst, sym, ◌∙◌}
use Rattle.std.proofs.lemmas.Bool.{both_ways, eq-eqb, eqb-true, ltb-false, ltb-true}
use Rattle.std.specs.List.{list_any}
use Rattle.std.specs.Option.{option_or}
use Rattle.std.specs.Prelude.{Bool, List, None, Option, Some, [], cond, false, find, get_or, if◌then◌else◌, length, nat_lt, not, option_map, refl, reverse}
use Rattle.std.specs.Prelude.{true, ℕ, ◌&&◌, ◌==◌, ◌||◌, ◌∷◌, ◌≡◌, ◌≤◌, ◌⊎◌}
use Rattle.nt_event.specs.declared.commands.ApcKind.{ApcKind}
use Rattle.nt_event.specs.declared.commands.ApcKind.TheVariants.{Normal as NormalApc, Special as SpecialApc, User as UserApc}
use Rattle.nt_event.specs.declared.commands.Mode.TheVariants.{User as UserMode}
use Rattle.nt_event.specs.declared.commands.Refusal.TheVariants.{NotBase, NotThread}
use Rattle.nt_event.specs.declared.commands.Regions.{Regions}
use Rattle.nt_event.specs.declared.events.Begun.TheVariants.{Apc, Int}
use Rattle.nt_event.specs.declared.events.Event.{Event}
use Rattle.nt_event.specs.declared.events.What.{What}
use Rattle.nt_event.specs.declared.events.What.TheVariants.{Begin, Clean, End, Flush, Switch}
use Rattle.nt_event.specs.declared.frames.Body.{Body}
use Rattle.nt_event.specs.declared.frames.Body.TheVariants.{Apc as OnApc, Base as OnBase, Dpc as OnDpc, Int as OnInt, Threaded as OnThreaded}
use Rattle.nt_event.specs.Frame.{Frame}
use Rattle.nt_event.specs.declared.inserts.Pick.{Pick}
use Rattle.nt_event.specs.declared.numbers.ApcNo.{ApcNo}
use Rattle.nt_event.specs.declared.numbers.CpuNo.{CpuNo}
use Rattle.nt_event.specs.declared.numbers.RoutineNo.{RoutineNo}
use Rattle.nt_event.specs.declared.numbers.ThreadNo.{ThreadNo}
use Rattle.nt_event.specs.declared.scripts.Script.{Script}
use Rattle.nt_event.specs.Apcs.{ApcQueues, deliverable, first_kernel, first_of_kind, first_user, has_kernel, is_of_kind, lets_through, same_kind}
use Rattle.nt_event.specs.Frames.{at_name, due_of, end_on_thread, ended_on_thread, flushed, frames_of, innermost, is_base_body, is_normal_apc_body}
use Rattle.nt_event.specs.Frames.{is_user_apc_body, ended_base, own_frames, running, thread_after, thread_frames, thread_part, time}
use Rattle.nt_event.specs.Classes.{interrupt_classes}
use Rattle.nt_event.specs.Jobs.{level_at}
use Rattle.nt_event.specs.Lanes.{facts_at, facts_of, lanes_at}
use Rattle.nt_event.specs.Own.{own_of}
use Rattle.nt_event.specs.Regions.{regions_of, some_came_to_0, stand_at}
use Rattle.nt_event.specs.Requests.{ask_if, asks, asks_in, end_asks, is_ask, serves}
use Rattle.nt_event.specs.Routines.{cpu_of, is_kernel_kind, kind_of, rundown_of}
use Rattle.nt_event.specs.Script.{has_thread}
use Rattle.nt_event.specs.Step.{IsLegal, IsRun, thread_field}
use Rattle.nt_event.specs.Threads.{ThreadFacts, start_facts}
use Rattle.nt_event.specs.Waits.{facts, frame_ended, is_of_thread, made_facts, named_facts}
use Rattle.nt_event.specs.Lists.{head_of, is_null, table_from, tail_of, when}
use Rattle.nt_event.specs.Numbers.{is_by, is_of, thread}
use Rattle.nt_runs.proofs.Calm.{next_test}
use Rattle.nt_runs.proofs.Facts.{facts_made, named_here}
use Rattle.nt_runs.proofs.Known.{Deliverable, Known, KnownBegin, KnownClean, KnownEnd, KnownInterrupt, KnownRundown, legal_known}
use Rattle.nt_runs.proofs.Leaving.{base_leaving, leaves_as}
use Rattle.nt_runs.proofs.Names.{Apart, NotAmong, all_named}
use Rattle.nt_event.proofs.Options.{Holds, holds_at, holds_find, holds_or, holds_then, holds_when}
use Rattle.nt_runs.proofs.OwnPart.{AllOwn, all_own, is_own_body}
use Rattle.nt_runs.proofs.Robin.{or_yes}
use Rattle.nt_runs.proofs.Running.{Keeps, frames_when, same_cpu, same_thread, thread_named}
use Rattle.nt_runs.proofs.Stops.{null_of, refuse_none}
use Rattle.nt_event.proofs.Tables.{get_or-table}
use Rattle.nt_runs.proofs.Turns.{is_next}
use Rattle.nt_runs.proofs.UserApcs.{touser_low}
use Rattle.nt_runs.proofs.Leaving.Facts.{facts_made_so, facts_named, is_end, tested_leaving}
use Rattle.nt_runs.proofs.Pending.{KindsFit, NoKernel, Shrinks, find_reverse, kinds_fit, leaving_closed, legal_shrinks, without_kernel}
use Rattle.nt_runs.proofs.Rundown.{Leaves, Runs, Unserved, asks_unserved, is_rundown, named_runs, stays_unserved, switched_runs}
use Rattle.nt_runs.proofs.Rundown.Steps.{Stands, base_alone, clean_quiet, facts_running, facts_there, first_frame, flush_quiet}
use Rattle.nt_runs.proofs.Untouched.{past_table}

-- ---- the first kernel APC is of a kernel kind

-- a pending APC found from the end has the kind that the script gives
find_fits : (s : Script) (test : Pick → Bool) (xs : List Pick) → KindsFit s xs → Holds (λ x. x.kind ≡ kind_of s x.apc) (find test (reverse xs))
find_fits s test [] h = tt
find_fits s test (x ∷ xs) h =
    subst (Holds (λ x. x.kind ≡ kind_of s x.apc)) (sym (find_reverse test x xs))
    (holds_or (λ x. x.kind ≡ kind_of s x.apc) (find test (reverse xs)) (cond (test x) (Some x) None) (find_fits s test xs h.1) (λ e. one (test x)))
  where
    one : (b : Bool) → Holds (λ x. x.kind ≡ kind_of s x.apc) (cond b (Some x) None)
    one true = h.0
    one false = tt

-- a special APC is a kernel one
special_kernel : (k : ApcKind) → same_kind SpecialApc k ≡ true → is_kernel_kind k ≡ true
special_kernel SpecialApc h = refl
special_kernel NormalApc h = refl
special_kernel UserApc h = cc

-- a normal APC is a kernel one
normal_kernel : (k : ApcKind) → same_kind NormalApc k ≡ true → is_kernel_kind k ≡ true
normal_kernel SpecialApc h = refl
normal_kernel NormalApc h = refl
normal_kernel UserApc h = cc

-- an APC of the kind of user APCs is a user APC
user_kind : (k : ApcKind) → same_kind UserApc k ≡ true → k ≡ UserApc
user_kind SpecialApc h = cc
user_kind NormalApc h = cc
user_kind UserApc h = refl

abbrev pub KernelPick : Script → Pick → Type 0
KernelPick s x = (is_kernel_kind x.kind ≡ true) × (x.kind ≡ kind_of s x.apc)

-- the first pending APC of a kernel kind is a kernel one of the script's kind
kernel_of : (s : Script) (kind : ApcKind) (q : ApcQueues) → ((k : ApcKind) → same_kind kind k ≡ true → is_kernel_kind k ≡ true) → KindsFit s q.pending →
    Holds (KernelPick s) (first_of_kind kind q)
kernel_of s kind q h f =
    both_hold (first_of_kind kind q) (holds_find (λ x. is_of_kind kind x ≡ true) (is_of_kind kind) (reverse q.pending) (λ x e. e))
    (find_fits s (is_of_kind kind) q.pending f)
  where
    both_hold : (o : Option Pick) → Holds (λ x. is_of_kind kind x ≡ true) o → Holds (λ x. x.kind ≡ kind_of s x.apc) o → Holds (KernelPick s) o
    both_hold None a b = tt
    both_hold (Some x) a b = (h x.kind a, b)

-- the first kernel APC found in the queues is of a kernel kind, the one that the script gives its object
pub first_kernel_fits : (s : Script) (q : ApcQueues) → KindsFit s q.pending → Holds (KernelPick s) (first_kernel q)
first_kernel_fits s q f =
    holds_or (KernelPick s) (first_of_kind SpecialApc q) (first_of_kind NormalApc q) (kernel_of s SpecialApc q special_kernel f)
    (λ e. kernel_of s NormalApc q normal_kernel f)

-- a kernel APC that is deliverable is of a kernel kind, the one that the script gives its object
pub deliverable_fits : (s : Script) (q : ApcQueues) (r : Regions) (level : ℕ) → KindsFit s q.pending → Holds (KernelPick s) (deliverable q r level)
deliverable_fits s q r level f =
    holds_then (KernelPick s) (λ x. when ((level == 0) && lets_through r x.kind) (Some x)) (first_kernel q)
    (λ x e. holds_when (KernelPick s) ((level == 0) && lets_through r x.kind) (Some x)
    (λ h. holds_at (KernelPick s) (first_kernel q) x (first_kernel_fits s q f) e))

-- the first user APC found in the queues is of the user kind, the one that the script gives its object
pub first_user_fits : (s : Script) (q : ApcQueues) → KindsFit s q.pending → Holds (λ x. (x.kind ≡ UserApc) × (x.kind ≡ kind_of s x.apc)) (first_user q)
first_user_fits s q f =
    both_hold (first_user q) (holds_find (λ x. is_of_kind UserApc x ≡ true) (is_of_kind UserApc) (reverse q.pending) (λ x e. e))
    (find_fits s (is_of_kind UserApc) q.pending f)
  where
    both_hold : (o : Option Pick) → Holds (λ x. is_of_kind UserApc x ≡ true) o → Holds (λ x. x.kind ≡ kind_of s x.apc) o →
        Holds (λ x. (x.kind ≡ UserApc) × (x.kind ≡ kind_of s x.apc)) o
    both_hold None a b = tt
    both_hold (Some x) a b = (user_kind x.kind a, b)

-- each pending APC of a thread as the lanes hold it has the kind of its object
pub facts_fit : (s : Script) (past : List Event) (t : ThreadNo) → KindsFit s (facts_at (lanes_at s past) t).apcs.pending
facts_fit s past t = go (nat_lt t.0 (length s.threads)) refl
  where
    none : (k n i : ℕ) (f : ℕ → ThreadFacts) → n ≤ i → get_or (table_from k n f) i start_facts ≡ start_facts
    none k n i f h = past_table k n i f start_facts h

    go : (b : Bool) → nat_lt t.0 (length s.threads) ≡ b → KindsFit s (facts_at (lanes_at s past) t).apcs.pending
    go true e =
        let k : facts_at (lanes_at s past) t ≡ facts s t past = get_or-table (length s.threads) t.0 (λ k. facts s (thread k) past) start_facts
        (ltb-true t.0 (length s.threads) e) in
        subst (λ (x : ThreadFacts). KindsFit s x.apcs.pending) (sym k) (kinds_fit s t past)
    go false e =
        let k : facts_at (lanes_at s past) t ≡ start_facts = past_table 0 (length s.threads) t.0 (λ k. facts s (thread k) past) start_facts
        (ltb-false t.0 (length s.threads) e) in
        subst (λ (x : ThreadFacts). KindsFit s x.apcs.pending) (sym k) tt

-- each pending APC of the thread that is given, if one is, has the kind of its object
pub facts_fit_of : (s : Script) (past : List Event) (o : Option ThreadNo) → KindsFit s (facts_of (lanes_at s past) o).apcs.pending
facts_fit_of s past None = tt
facts_fit_of s past (Some t) = facts_fit s past t

-- ---- an event that the thread makes

module _ (s : Script) (limit : ℕ) (t : ThreadNo) (e : Event) (past : List Event) (has : has_thread s t ≡ true) (b : is_by e t ≡ true)
    (g : IsLegal s limit e past) (r : IsRun s limit past) where
  -- an event that the thread makes is of its own processor
  pub own : is_of e (cpu_of s t) ≡ true
  own = eq-eqb e.cpu.0 (cpu_of s t).0 (named_here s limit t e past g r b)

  -- the processor of an event that the thread makes is the thread's
  pub here : e.cpu ≡ cpu_of s t
  here = same_cpu e (cpu_of s t) own

  -- an event that the thread makes is one of that thread's own
  pub of : is_of_thread s t e ≡ true
  of = rw (own, b) refl

  -- the thread's facts after an event that it makes are what it did to itself as its maker and then as a target
  pub after : facts s t (e ∷ past) ≡ named_facts s t (length past) e.what (made_facts s (length past) (stand_at s (cpu_of s t) past) e.what (facts s t past))
  after =
      facts_made s t e past true of ∙ ap (λ (q : CpuNo). named_facts s t (length past) e.what
      (made_facts s (length past) (stand_at s q past) e.what (facts s t past))) here

  -- the thread's frames after an event that it makes are what the event leaves of them
  pub frames : (w : What) → e.what ≡ w → thread_frames s (cpu_of s t) t (e ∷ past)
      ≡ thread_after s (length past) (due_of e.what (time past)) w (thread_frames s (cpu_of s t) t past)
  frames w k =
      frames_when s (cpu_of s t) t e past true own b ∙ ap
      (λ (v : What). thread_after s (length past) (due_of e.what (time past)) v (thread_frames s (cpu_of s t) t past)) k

  -- an event but an end leaves the fact
  pub before : (w : What) → e.what ≡ w → is_end w ≡ false → (facts s t (e ∷ past)).leaving ≡ true → (facts s t past).leaving ≡ true
  before w k n l =
      sym (ap (λ (x : ThreadFacts). x.leaving) after ∙ (facts_named s t (length past) e.what
      (made_facts s (length past) (stand_at s (cpu_of s t) past) e.what (facts s t past))
      ∙ facts_made_so s (length past) (stand_at s (cpu_of s t) past) e.what (facts s t past) (ap is_end k ∙ n))) ∙ l

  -- what is put together
  pub together : (facts s t past).leaving ≡ true → (w : What) → e.what ≡ w →
      Runs is_user_apc_body (thread_after s (length past) (due_of e.what (time past)) w (thread_frames s (cpu_of s t) t past)) ≡ false →
      (Runs is_rundown (thread_after s (length past) (due_of e.what (time past)) w (thread_frames s (cpu_of s t) t past)) ≡ true →
      NoKernel (facts s t past).apcs.pending) → NoKernel (facts s t past).apcs.pending ⊎
      (Unserved s (cpu_of s t) 1 (e ∷ past) ⊎ (Runs is_normal_apc_body
      (thread_after s (length past) (due_of e.what (time past)) w (thread_frames s (cpu_of s t) t past)) ≡ true)) → Leaves s t (e ∷ past)
  together l w k u d n =
      record {
        serving = ap (Runs is_user_apc_body) (frames w k) ∙ u;
        rundown = λ h. shrinks.kernel (d (sym (ap (Runs is_rundown) (frames w k)) ∙ h));
        pending = λ h. pending n;
      }
    where
      shrinks : Shrinks (facts s t past).apcs (facts s t (e ∷ past)).apcs
      shrinks = legal_shrinks s limit t e past g has (leaving_closed s t past l)

      pending : NoKernel (facts s t past).apcs.pending ⊎
          (Unserved s (cpu_of s t) 1 (e ∷ past) ⊎ (Runs is_normal_apc_body
          (thread_after s (length past) (due_of e.what (time past)) w (thread_frames s (cpu_of s t) t past)) ≡ true)) →
          NoKernel (facts s t (e ∷ past)).apcs.pending ⊎
          (Unserved s (cpu_of s t) 1 (e ∷ past) ⊎ (Runs is_normal_apc_body (thread_frames s (cpu_of s t) t (e ∷ past)) ≡ true))
      pending (inl x) = inl ((legal_shrinks s limit t e past g has (leaving_closed s t past l)).kernel x)
      pending (inr (inl x)) = inr (inl x)
      pending (inr (inr x)) = inr (inr (ap (Runs is_normal_apc_body) (frames w k) ∙ x))

  -- an event that serves nothing of class 1 and keeps normal kernel APCs in progress
  pub goes_on : (w : What) → e.what ≡ w → serves 1 w ≡ false → running (cpu_of s t) past ≡ Some t → Leaves s t past →
      (Runs is_normal_apc_body (thread_frames s (cpu_of s t) t past) ≡ true →
      Runs is_normal_apc_body (thread_after s (length past) (due_of e.what (time past)) w (thread_frames s (cpu_of s t) t past)) ≡ true) →
      NoKernel (facts s t past).apcs.pending ⊎ (Unserved s (cpu_of s t) 1 (e ∷ past) ⊎
      (Runs is_normal_apc_body (thread_after s (length past) (due_of e.what (time past)) w (thread_frames s (cpu_of s t) t past)) ≡ true))
  goes_on w k v run ih n = go (ih.pending run)
    where
      go : NoKernel (facts s t past).apcs.pending ⊎ (Unserved s (cpu_of s t) 1 past ⊎ (Runs is_normal_apc_body (thread_frames s (cpu_of s t) t past) ≡ true)) →
          NoKernel (facts s t past).apcs.pending ⊎ (Unserved s (cpu_of s t) 1 (e ∷ past) ⊎
          (Runs is_normal_apc_body (thread_after s (length past) (due_of e.what (time past)) w (thread_frames s (cpu_of s t) t past)) ≡ true))
      go (inl x) = inl x
      go (inr (inl x)) = inr (inl (stays_unserved s limit (cpu_of s t) 1 e past r (ap (serves 1) k ∙ v) x))
      go (inr (inr x)) = inr (inr (n x))

  -- ---- a Switch

  -- what holds of a leaving thread still holds after a switch
  pub switched : (u : ThreadNo) (st : Option ℕ) → e.what ≡ Switch u st → (facts s t past).leaving ≡ true → Leaves s t past → Leaves s t (e ∷ past)
  switched u st k l ih =
      together l (Switch u st) k (switched_runs is_user_apc_body (length past) u st (thread_frames s (cpu_of s t) t past) refl ∙ ih.serving)
      (λ h. ih.rundown (sym (switched_runs is_rundown (length past) u st (thread_frames s (cpu_of s t) t past) refl) ∙ h))
      (pending (has_kernel (facts s t past).apcs) refl)
    where
      same : u ≡ t
      same =
          let n : Some u ≡ Some t = ap (λ (w : What). thread_field w (running e.cpu past)) (sym k)
          ∙ (sym (thread_named s limit e past g) ∙ same_thread e.thread t b) in
          cc

      at : facts_at (lanes_at s past) u ≡ facts s t past
      at = ap (λ (v : ThreadNo). facts_at (lanes_at s past) v) same ∙ facts_there s limit t past has

      pending : (h : Bool) → has_kernel (facts s t past).apcs ≡ h → NoKernel (facts s t past).apcs.pending ⊎
          (Unserved s (cpu_of s t) 1 (e ∷ past) ⊎ (Runs is_normal_apc_body
          (thread_after s (length past) (due_of e.what (time past)) (Switch u st) (thread_frames s (cpu_of s t) t past)) ≡ true))
      pending false h = inl (without_kernel (facts s t past).apcs h)
      pending true h =
          let k2 : has_kernel (facts_at (lanes_at s past) u).apcs ≡ true = ap (λ (x : ThreadFacts). has_kernel x.apcs) at ∙ h in
          let a : asks_in s (stand_at s e.cpu past) (Switch u st) (lanes_at s past) (cpu_of s t) 1 ≡ true = asked_here e.cpu k2 in
          let asks_it : asks s (cpu_of s t) 1 e past ≡ true = ap (λ (w : What). asks_in s (stand_at s e.cpu past) w (lanes_at s past) (cpu_of s t) 1) k ∙ a in
          inr (inl (asks_unserved s limit (cpu_of s t) 1 e past r own asks_it (ap (serves 1) k)))
        where
          asked_here : (q : CpuNo) → has_kernel (facts_at (lanes_at s past) u).apcs ≡ true →
              list_any (is_ask (cpu_of s t) 1) (ask_if (has_kernel (facts_at (lanes_at s past) u).apcs) e.cpu 1) ≡ true
          asked_here q h = rw (h, own) refl

  -- ---- an event of a thread that runs

  module _ (z : Stands s limit t past) where
    pub known : (w : What) → e.what ≡ w → is_next w ≡ true → Known s (cpu_of s t) (own_of s (cpu_of s t) past) (lanes_at s past) w
    known w k n =
        subst (Known s (cpu_of s t) (own_of s (cpu_of s t) past) (lanes_at s past)) k
        (subst (λ (q : CpuNo). Known s q (own_of s q past) (lanes_at s past) e.what) here (legal_known s limit e past g (ap is_next k ∙ n)))

    -- an event that leaves the frames
    pub kept : (w : What) → e.what ≡ w → thread_after s (length past) (due_of e.what (time past)) w (thread_frames s (cpu_of s t) t past)
        ≡ thread_frames s (cpu_of s t) t past → serves 1 w ≡ false → (facts s t past).leaving ≡ true → Leaves s t past → Leaves s t (e ∷ past)
    kept w k same v l ih =
        together l w k (ap (Runs is_user_apc_body) same ∙ ih.serving) (λ h. ih.rundown (sym (ap (Runs is_rundown) same) ∙ h))
        (goes_on w k v z.run ih (λ h. ap (Runs is_normal_apc_body) same ∙ h))

    -- an event that changes the innermost frame and keeps what runs in it
    pub changed : (w : What) (n : ℕ) (f : Frame → Frame) → e.what ≡ w → Keeps f →
        thread_after s (length past) (due_of e.what (time past)) w (thread_frames s (cpu_of s t) t past) ≡ at_name n f (thread_frames s (cpu_of s t) t past) →
        serves 1 w ≡ false → (facts s t past).leaving ≡ true → Leaves s t past → Leaves s t (e ∷ past)
    changed w n f k q same v l ih =
        together l w k (runs is_user_apc_body ∙ ih.serving) (λ h. ih.rundown (sym (runs is_rundown) ∙ h))
        (goes_on w k v z.run ih (λ h. runs is_normal_apc_body ∙ h))
      where
        runs : (test : Body → Bool) → Runs test (thread_after s (length past) (due_of e.what (time past)) w (thread_frames s (cpu_of s t) t past))
            ≡ Runs test (thread_frames s (cpu_of s t) t past)
        runs test = ap (Runs test) same ∙ named_runs test n f (thread_frames s (cpu_of s t) t past) q

    -- a leaving thread begins no user APC
    not_user : (a : ApcNo) (from : ℕ) → (facts s t past).leaving ≡ true →
        KnownBegin s (cpu_of s t) (own_of s (cpu_of s t) past) (lanes_at s past) (Apc a) from → is_user_apc_body (OnApc a (kind_of s a)) ≡ false
    not_user a from l (inl k) =
        let fits = holds_at (KernelPick s) (Deliverable (own_of s (cpu_of s t) past) (lanes_at s past)) k.1.pick
        (deliverable_fits s (facts_of (lanes_at s past) (running (cpu_of s t) past)).apcs (regions_of (thread_part (frames_of s (cpu_of s t) past)))
        (level_at (own_of s (cpu_of s t) past)) (facts_fit_of s past (running (cpu_of s t) past))) k.1.first in
        let kind : kind_of s a ≡ k.1.pick.kind = ap (kind_of s) k.1.apc ∙ sym fits.1 in
        no_user (kind_of s a) (ap is_kernel_kind kind ∙ fits.0)
      where
        no_user : (q : ApcKind) → is_kernel_kind q ≡ true → is_user_apc_body (OnApc a q) ≡ false
        no_user SpecialApc h = refl
        no_user NormalApc h = refl
        no_user UserApc h = cc
    not_user a from l (inr k) =
        let low = touser_low s (cpu_of s t) (own_of s (cpu_of s t) past) k.0 in
        let first = first_frame s limit t past k.0.frame z k.0.goes_on.inner low.1 in
        let not_base : not (is_base_body k.0.frame.body)
        ≡ false = refuse_none (not (is_base_body k.0.frame.body)) NotBase _
        (next_test (not (is_null (own_frames (cpu_of s t) past))) NotThread _ k.0.accepted) in
        let alone : thread_frames s (cpu_of s t) t past ≡ k.0.frame ∷ [] = base_alone t k.0.frame (thread_frames s (cpu_of s t) t past) first
        (null_of (is_base_body k.0.frame.body) not_base) z.based in
        let leaves : k.0.frame.leaving ≡ true = ap base_leaving (sym alone) ∙ (sym (leaves_as s limit t past r) ∙ l) in
        absurd (both_ways k.0.frame.leaving k.0.leaving leaves)

    pub begun : (a : ApcNo) (from : ℕ) → e.what ≡ Begin (Apc a) from → (facts s t past).leaving ≡ true → Leaves s t past → Leaves s t (e ∷ past)
    begun a from k l ih =
        let n : is_user_apc_body (OnApc a (kind_of s a)) ≡ false = not_user a from l (known (Begin (Apc a) from) k refl) in
        together l (Begin (Apc a) from) k (rw n ih.serving) (λ h. ih.rundown h)
        (goes_on (Begin (Apc a) from) k refl z.run ih
        (λ h. or_yes (is_normal_apc_body (OnApc a (kind_of s a))) (Runs is_normal_apc_body (thread_frames s (cpu_of s t) t past)) h))

    pub flushes : (a : ApcNo) (from : ℕ) → e.what ≡ Flush a from → (facts s t past).leaving ≡ true → Leaves s t past → Leaves s t (e ∷ past)
    flushes a from k l ih =
        let q : Known s (cpu_of s t) (own_of s (cpu_of s t) past) (lanes_at s past) (Flush a from) = known (Flush a from) k refl in
        let ran_by : running (cpu_of s t) past ≡ Some q.0 = q.1.thread in
        let same : q.0 ≡ t = (let y : Some q.0 ≡ Some t = sym ran_by ∙ z.run in cc) in
        let nk : NoKernel (facts s t past).apcs.pending = flush_quiet s limit t past r ih (subst (KnownRundown (own_of s (cpu_of s t) past)) same q.1) in
        together l (Flush a from) k (user (rundown_of s a)) (λ h. nk) (inl nk)
      where
        user : (o : Option RoutineNo) → Runs is_user_apc_body (flushed (length past) a o (thread_frames s (cpu_of s t) t past)) ≡ false
        user None = ih.serving
        user (Some x) = ih.serving

    pub cleaned : (c : ℕ) → e.what ≡ Clean c → (facts s t past).leaving ≡ true → Leaves s t past → Leaves s t (e ∷ past)
    cleaned c k l ih = go (known (Clean c) k refl)
      where
        go : KnownClean (cpu_of s t) (own_of s (cpu_of s t) past) (lanes_at s past) c → Leaves s t (e ∷ past)
        go (inl q) = kept (Clean c) k refl (ap (λ (n : ℕ). n == 1) q.0) l ih
        go (inr (inl q)) =
            together l (Clean c) k ih.serving ih.rundown (either (clean_quiet s limit t past r z l ih q.1 q.2))
          where
            either : NoKernel (facts s t past).apcs.pending ⊎ (Runs is_normal_apc_body (thread_frames s (cpu_of s t) t past) ≡ true) →
                NoKernel (facts s t past).apcs.pending ⊎
                (Unserved s (cpu_of s t) 1 (e ∷ past) ⊎ (Runs is_normal_apc_body (thread_frames s (cpu_of s t) t past) ≡ true))
            either (inl x) = inl x
            either (inr x) = inr (inr x)
        go (inr (inr q)) = kept (Clean c) k refl (ap (λ (n : ℕ). n == 1) q.0) l ih

    pub interrupted : (c from : ℕ) → e.what ≡ Begin (Int c) from → (facts s t past).leaving ≡ true → Leaves s t past → Leaves s t (e ∷ past)
    interrupted c from k l ih =
        let q : KnownInterrupt (own_of s (cpu_of s t) past) c from = known (Begin (Int c) from) k refl in
        kept (Begin (Int c) from) k refl (other (c == 1) refl q.class) l ih
      where
        other : (b : Bool) → (c == 1) ≡ b → list_any (λ n. n == c) interrupt_classes ≡ true → b ≡ false
        other false h w = refl
        other true h w =
            let one : c ≡ 1 = eqb-true c 1 h in
            let no : list_any (λ n. n == 1) interrupt_classes ≡ true = subst (λ (d : ℕ). list_any (λ n. n == d) interrupt_classes ≡ true) one w in
            cc

    -- ---- an end

    -- the facts after it
    ended_facts : (n : ℕ) → e.what ≡ End n → (f : Frame) → innermost (frames_of s (cpu_of s t) past) ≡ Some f → facts s t (e ∷ past)
        ≡ frame_ended (Some f.body) (facts s t past)
    ended_facts n k f h =
        after ∙ (ap (λ (w : What). named_facts s t (length past) w (made_facts s (length past) (stand_at s (cpu_of s t) past) w (facts s t past))) k
        ∙ ap (λ (o : Option Frame). frame_ended (option_map (λ f. f.body) o) (facts s t past)) h)

    -- what it asks for
    ended_asks : (n : ℕ) → e.what ≡ End n → (f : Frame) → innermost (frames_of s (cpu_of s t) past) ≡ Some f →
        list_any (is_ask (cpu_of s t) 1) (end_asks (stand_at s (cpu_of s t) past) (Some f.body) (lanes_at s past)) ≡ true → Unserved s (cpu_of s t) 1 (e ∷ past)
    ended_asks n k f h a =
        let body : (stand_at s (cpu_of s t) past).body ≡ Some f.body = ap (λ (o : Option Frame). option_map (λ f. f.body) o) h in
        let there : asks_in s (stand_at s (cpu_of s t) past) (End n) (lanes_at s past) (cpu_of s t) 1
        ≡ true = ap (λ (q : Option Body). list_any (is_ask (cpu_of s t) 1) (end_asks (stand_at s (cpu_of s t) past) q (lanes_at s past))) body ∙ a in
        let asked_it : asks s (cpu_of s t) 1 e past ≡ true = ap (λ (q : CpuNo). asks_in s (stand_at s q past) e.what (lanes_at s past) (cpu_of s t) 1) here
        ∙ (ap (λ (w : What). asks_in s (stand_at s (cpu_of s t) past) w (lanes_at s past) (cpu_of s t) 1) k ∙ there) in
        asks_unserved s limit (cpu_of s t) 1 e past r own asked_it (ap (serves 1) k)

    itself : ((cpu_of s t).0 == (cpu_of s t).0) ≡ true
    itself = eq-eqb (cpu_of s t).0 (cpu_of s t).0 refl

    -- a frame of the own part
    ended_own : (n : ℕ) → e.what ≡ End n → (f : Frame) → innermost (frames_of s (cpu_of s t) past) ≡ Some f → n ≡ f.name →
        is_null (own_frames (cpu_of s t) past) ≡ false → (facts s t (e ∷ past)).leaving ≡ true → ((facts s t past).leaving ≡ true → Leaves s t past) →
        Leaves s t (e ∷ past)
    ended_own n k f h m o l ih =
        kept (End n) k (stays (own_frames (cpu_of s t) past) refl (all_own (cpu_of s t) past) (all_named s (cpu_of s t) t past).apart).0 refl before_it
        (ih before_it)
      where
        elsewhere : (n : ℕ) (fs : List Frame) → NotAmong n fs → end_on_thread n fs ≡ fs
        elsewhere n [] h = refl
        elsewhere n (f ∷ fs) h = go (f.name == n) refl
          where
            go : (b : Bool) → (f.name == n) ≡ b → (if b then ended_on_thread (f ∷ fs) else (f ∷ fs)) ≡ (f ∷ fs)
            go true e = absurd (h.0 (eqb-true f.name n e))
            go false e = refl

        stays : (gs : List Frame) → own_frames (cpu_of s t) past ≡ gs → AllOwn gs → Apart gs (thread_frames s (cpu_of s t) t past) →
            (end_on_thread n (thread_frames s (cpu_of s t) t past) ≡ thread_frames s (cpu_of s t) t past) × (is_own_body f.body ≡ true)
        stays [] q a p = let y : true ≡ false = ap (λ (gs : List Frame). is_null gs) (sym q) ∙ o in cc
        stays (x ∷ gs) q a p =
            let first : option_or (head_of (x ∷ gs)) (head_of (thread_part (frames_of s (cpu_of s t) past)))
            ≡ Some f = subst (λ (gs : List Frame). option_or (head_of gs) (head_of (thread_part (frames_of s (cpu_of s t) past))) ≡ Some f) q h in
            let same : x ≡ f = cc in
            let name : x.name ≡ n = ap (λ (z : Frame). z.name) same ∙ sym m in (
              elsewhere n (thread_frames s (cpu_of s t) t past) (subst (λ (j : ℕ). NotAmong j (thread_frames s (cpu_of s t) t past)) name p.0),
              ap (λ (z : Frame). is_own_body z.body) (sym same) ∙ a.0.0,
            )

        own_leaving : (b : Body) (x : ThreadFacts) → is_own_body b ≡ true → (frame_ended (Some b) x).leaving ≡ x.leaving
        own_leaving (OnInt c) x h = refl
        own_leaving (OnDpc d) x h = refl
        own_leaving (OnThreaded d) x h = refl
        own_leaving b x h = cc

        before_it : (facts s t past).leaving ≡ true
        before_it =
            sym (own_leaving f.body (facts s t past) (stays (own_frames (cpu_of s t) past) refl (all_own (cpu_of s t) past)
            (all_named s (cpu_of s t) t past).apart).1) ∙ (ap (λ (x : ThreadFacts). x.leaving) (sym (ended_facts n k f h)) ∙ l)

    -- the base frame: the thread is leaving from here on
    base_ended : (n : ℕ) → e.what ≡ End n → (f : Frame) → innermost (frames_of s (cpu_of s t) past) ≡ Some f → n ≡ f.name →
        head_of (thread_frames s (cpu_of s t) t past) ≡ Some f → (u : ThreadNo) → f.body ≡ OnBase u → Leaves s t (e ∷ past)
    base_ended n k f h m first u body =
        record {
          serving = ap (Runs is_user_apc_body) now ∙ ap (λ (b : Body). is_user_apc_body b || false) body;
          rundown = λ q. no_rundown (sym (ap (Runs is_rundown) now ∙ ap (λ (b : Body). is_rundown b || false) body) ∙ q);
          pending = λ q. pending (has_kernel (facts s t past).apcs) refl;
        }
      where
        base : is_base_body f.body ≡ true
        base = ap is_base_body body

        alone : thread_frames s (cpu_of s t) t past ≡ f ∷ []
        alone = base_alone t f (thread_frames s (cpu_of s t) t past) first base z.based

        named : (f.name == n) ≡ true
        named = eq-eqb f.name n (sym m)

        ends : end_on_thread n (f ∷ []) ≡ ended_base f ∷ []
        ends = rw (named, base) refl

        now : thread_frames s (cpu_of s t) t (e ∷ past) ≡ ended_base f ∷ []
        now = frames (End n) k ∙ (ap (end_on_thread n) alone ∙ ends)

        no_rundown : false ≡ true → NoKernel (facts s t (e ∷ past)).apcs.pending
        no_rundown q = cc

        same : (facts s t (e ∷ past)).apcs.pending ≡ (facts s t past).apcs.pending
        same =
            ap (λ (x : ThreadFacts). x.apcs.pending) (ended_facts n k f h) ∙ ap (λ (b : Body). (frame_ended (Some b) (facts s t past)).apcs.pending) body

        pending : (c : Bool) → has_kernel (facts s t past).apcs ≡ c → NoKernel (facts s t (e ∷ past)).apcs.pending ⊎
            (Unserved s (cpu_of s t) 1 (e ∷ past) ⊎ (Runs is_normal_apc_body (thread_frames s (cpu_of s t) t (e ∷ past)) ≡ true))
        pending false q = inl (subst NoKernel (sym same) (without_kernel (facts s t past).apcs q))
        pending true q =
            let there : has_kernel (facts_of (lanes_at s past) (running (cpu_of s t) past)).apcs
            ≡ true = ap (λ (x : ThreadFacts). has_kernel x.apcs) (facts_running s limit t past z) ∙ q in
            let test : (some_came_to_0 (stand_at s (cpu_of s t) past).regions (stand_at s (cpu_of s t) past).below
            || has_kernel (facts_of (lanes_at s past) (running (cpu_of s t) past)).apcs)
            ≡ true = or_yes (some_came_to_0 (stand_at s (cpu_of s t) past).regions (stand_at s (cpu_of s t) past).below)
            (has_kernel (facts_of (lanes_at s past) (running (cpu_of s t) past)).apcs) there in
            let list : list_any (is_ask (cpu_of s t) 1) (ask_if
            (some_came_to_0 (stand_at s (cpu_of s t) past).regions (stand_at s (cpu_of s t) past).below
            || has_kernel (facts_of (lanes_at s past) (running (cpu_of s t) past)).apcs) (cpu_of s t) 1) ≡ true = rw (test, itself) refl in
            inr (inl (ended_asks n k f h (ap (λ (b : Body). list_any (is_ask (cpu_of s t) 1)
            (end_asks (stand_at s (cpu_of s t) past) (Some b) (lanes_at s past))) body ∙ list)))

    -- another frame of the thread's part
    ended_inner : (n : ℕ) → e.what ≡ End n → (f : Frame) → innermost (frames_of s (cpu_of s t) past) ≡ Some f → n ≡ f.name →
        head_of (thread_frames s (cpu_of s t) t past) ≡ Some f → is_base_body f.body ≡ false → (facts s t (e ∷ past)).leaving ≡ true →
        ((facts s t past).leaving ≡ true → Leaves s t past) → Leaves s t (e ∷ past)
    ended_inner n k f h m first inner l ih =
        together before_it (End n) k (ap (Runs is_user_apc_body) now
        ∙ second_no (is_user_apc_body f.body) (Runs is_user_apc_body (tail_of (thread_frames s (cpu_of s t) t past)))
        (sym (split is_user_apc_body) ∙ (ih before_it).serving))
        (λ q. (ih before_it).rundown (split is_rundown
        ∙ or_yes (is_rundown f.body) (Runs is_rundown (tail_of (thread_frames s (cpu_of s t) t past))) (sym (ap (Runs is_rundown) now) ∙ q)))
        (pending (is_normal_apc_body f.body) refl)
      where
        fs : List Frame
        fs = thread_frames s (cpu_of s t) t past

        second_no : (a b : Bool) → (a || b) ≡ false → b ≡ false
        second_no false b h = h
        second_no true b h = cc

        cons : (fs : List Frame) → head_of fs ≡ Some f → fs ≡ f ∷ tail_of fs
        cons [] q = cc
        cons (x ∷ fs) q = let same : x ≡ f = cc in cc

        split : (test : Body → Bool) → Runs test (thread_frames s (cpu_of s t) t past)
            ≡ (test f.body || Runs test (tail_of (thread_frames s (cpu_of s t) t past)))
        split test = ap (Runs test) (cons (thread_frames s (cpu_of s t) t past) first)

        named : (f.name == n) ≡ true
        named = eq-eqb f.name n (sym m)

        ends : (gs : List Frame) → end_on_thread n (f ∷ gs) ≡ gs
        ends gs = rw (named, inner) refl

        now : end_on_thread n (thread_frames s (cpu_of s t) t past) ≡ tail_of (thread_frames s (cpu_of s t) t past)
        now =
            ap (end_on_thread n) (cons (thread_frames s (cpu_of s t) t past) first) ∙ ends (tail_of (thread_frames s (cpu_of s t) t past))

        inner_leaving : (b : Body) (x : ThreadFacts) → is_base_body b ≡ false → (frame_ended (Some b) x).leaving ≡ x.leaving
        inner_leaving (OnBase u) x q = cc
        inner_leaving (OnApc a UserApc) x q = tested_leaving UserMode x
        inner_leaving b x q = refl

        before_it : (facts s t past).leaving ≡ true
        before_it =
            sym (inner_leaving f.body (facts s t past) inner) ∙ (ap (λ (x : ThreadFacts). x.leaving) (sym (ended_facts n k f h)) ∙ l)

        normal_asks : (b : Body) → is_normal_apc_body b ≡ true →
            list_any (is_ask (cpu_of s t) 1) (end_asks (stand_at s (cpu_of s t) past) (Some b) (lanes_at s past)) ≡ true
        normal_asks (OnApc a NormalApc) q = rw itself refl
        normal_asks b q = cc

        pending : (c : Bool) → is_normal_apc_body f.body ≡ c → NoKernel (facts s t past).apcs.pending ⊎
            (Unserved s (cpu_of s t) 1 (e ∷ past) ⊎ (Runs is_normal_apc_body (end_on_thread n (thread_frames s (cpu_of s t) t past)) ≡ true))
        pending true q = inr (inl (ended_asks n k f h (normal_asks f.body q)))
        pending false q =
            goes_on (End n) k refl z.run (ih before_it) (λ y. ap (Runs is_normal_apc_body) now
            ∙ (sym (ap (λ (b : Bool). b || Runs is_normal_apc_body (tail_of (thread_frames s (cpu_of s t) t past))) q)
            ∙ (sym (split is_normal_apc_body) ∙ y)))

    pub ended_frame : (n : ℕ) → e.what ≡ End n → (facts s t (e ∷ past)).leaving ≡ true → ((facts s t past).leaving ≡ true → Leaves s t past) →
        Leaves s t (e ∷ past)
    ended_frame n k l ih = own_part (is_null (own_frames (cpu_of s t) past)) refl
      where
        q : KnownEnd s (cpu_of s t) (own_of s (cpu_of s t) past) n
        q = known (End n) k refl

        body : head_of (thread_frames s (cpu_of s t) t past) ≡ Some q.frame → (b : Body) → q.frame.body ≡ b → Leaves s t (e ∷ past)
        body first (OnBase u) h = base_ended n k q.frame q.goes_on.inner q.name first u h
        body first b h = ended_inner n k q.frame q.goes_on.inner q.name first (ap is_base_body h) l ih

        own_part : (o : Bool) → is_null (own_frames (cpu_of s t) past) ≡ o → Leaves s t (e ∷ past)
        own_part false o = ended_own n k q.frame q.goes_on.inner q.name o l ih
        own_part true o = body (first_frame s limit t past q.frame z q.goes_on.inner o) q.frame.body refl
