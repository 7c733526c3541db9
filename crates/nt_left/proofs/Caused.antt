-- In a settled run each cause that is told holds.
use Rattle.std.proofs.Common.{ap, arith, inl, inr, subst, sym, ◌∙◌}
use Rattle.std.proofs.lemmas.Bool.{eq-eqb}
use Rattle.std.proofs.lemmas.Bool.Decides.{nat_tests}
use Rattle.std.specs.List.{Contains}
use Rattle.std.specs.Option.{option_or}
use Rattle.std.specs.Prelude.{Bool, List, None, Option, Some, [], false, if◌then◌else◌, not, option_and_then, refl, reverse, true, ℕ, ◌&&◌, ◌<◌, ◌==◌, ◌∷◌, ◌≡◌}
use Rattle.std.specs.Prelude.{◌⊎◌}
use Rattle.nt_event.specs.declared.commands.ApcKind.{ApcKind}
use Rattle.nt_event.specs.declared.commands.ApcKind.TheVariants as kinds
use Rattle.nt_event.specs.declared.commands.Regions.{Regions}
use Rattle.nt_event.specs.declared.events.Event.{Event}
use Rattle.nt_event.specs.declared.inserts.Insert.{Insert}
use Rattle.nt_event.specs.declared.inserts.Pick.{Pick}
use Rattle.nt_event.specs.declared.inserts.Standing.{Standing}
use Rattle.nt_event.specs.declared.numbers.CpuNo.{CpuNo}
use Rattle.nt_event.specs.declared.numbers.DpcNo.{DpcNo}
use Rattle.nt_event.specs.declared.numbers.ThreadNo.{ThreadNo}
use Rattle.nt_event.specs.declared.scripts.Script.{Script}
use Rattle.nt_event.specs.declared.threads.Doing.{Doing}
use Rattle.nt_event.specs.declared.threads.Doing.TheVariants as doings
use Rattle.nt_event.specs.declared.threads.Waiting.{Waiting}
use Rattle.nt_event.specs.Apcs.{ApcQueues, deliverable, first_kernel, first_of_kind, first_user, is_of_kind, lets_through, same_kind}
use Rattle.nt_event.specs.Jobs.{rests}
use Rattle.nt_event.specs.Lists.{when}
use Rattle.nt_event.specs.Objects.{standing}
use Rattle.nt_event.specs.Own.{own_of}
use Rattle.nt_event.specs.Queues.{pending}
use Rattle.nt_event.specs.Quiet.{takes_user}
use Rattle.nt_event.specs.Robin.{is_settled}
use Rattle.nt_event.specs.Routines.{cpu_of}
use Rattle.nt_event.specs.Script.{fits, has_cpu, has_dpc, has_thread}
use Rattle.nt_event.specs.Step.{IsRun, is_cut}
use Rattle.nt_event.specs.Waits.{facts}
use Rattle.nt_event.proofs.Elements.{found_contains}
use Rattle.nt_runs.proofs.Falling.{none_last}
use Rattle.nt_laws.specs.Fates.{numbers_at, numbers_of}
use Rattle.nt_laws.proofs.Fates.Agree.{agree}
use Rattle.nt_close.specs.Close.{IsClosed, is_stopped}
use Rattle.nt_close.proofs.AtRest.{closed_either}
use Rattle.nt_close.proofs.Closed.{no_dpc_is_left}
use Rattle.nt_close.proofs.Quiet.{nothing_waits_behind_a_block}
use Rattle.nt_close.proofs.ReadyThreads.{no_thread_is_left}
use Rattle.nt_left.specs.declared.kinds.ApcCause.TheVariants as why
use Rattle.nt_left.specs.declared.kinds.CpuCause.TheVariants as stop
use Rattle.nt_left.specs.declared.kinds.Left.{Left}
use Rattle.nt_left.specs.declared.kinds.Left.TheVariants as left
use Rattle.nt_left.specs.Causes.{ApcHolds, CpuHolds, apc_cause, cpu_cause, kernel_cause, wait_cause}
use Rattle.nt_left.specs.Left.{HasCause, IsLeft}
use Rattle.nt_left.proofs.Queued.{cpu_is_named, queue_is_named}

-- ---- kernel APCs at a wait

-- a number that isn't 0 is above it
above : (n : ℕ) → (n == 0) ≡ false → 0 < n
above n h = grind (arith, nat_tests)

-- what is deliverable at level 0 and out of guarded regions is the first kernel APC, where its kind is let through
lets_none : (q : ApcQueues) (r : Regions) (level : ℕ) (x : Pick) → deliverable q r level ≡ None → (level == 0) ≡ true → first_kernel q ≡ Some x →
    lets_through r x.kind ≡ false
lets_none q r level x none low is = go (lets_through r x.kind) refl
  where
    go : (b : Bool) → lets_through r x.kind ≡ b → lets_through r x.kind ≡ false
    go false e = e
    go true e =
        let a : deliverable q r level ≡ option_and_then (λ x. when ((level == 0) && lets_through r x.kind) (Some x)) (Some x) = ap
        (λ (o : Option Pick). option_and_then (λ x. when ((level == 0) && lets_through r x.kind) (Some x)) o) is in
        let b : when ((level == 0) && lets_through r x.kind) (Some x) ≡ when (true && lets_through r x.kind) (Some x) = ap
        (λ (b : Bool). when (b && lets_through r x.kind) (Some x)) low in
        let d : when (true && lets_through r x.kind) (Some x) ≡ Some x = ap (λ (b : Bool). when b (Some x)) e in
        absurd cc

-- of a kind that is first
kind_found : (kind : ApcKind) (q : ApcQueues) (x : Pick) → first_of_kind kind q ≡ Some x → is_of_kind kind x ≡ true
kind_found kind q x h = (found_contains (is_of_kind kind) (reverse q.pending) x h).1

-- one of the special kind is special
special_is : (x : Pick) → is_of_kind kinds.Special x ≡ true → x.kind ≡ kinds.Special
special_is x h = go x.kind h
  where
    go : (k : ApcKind) → same_kind kinds.Special k ≡ true → k ≡ kinds.Special
    go kinds.Special e = refl
    go kinds.Normal e = absurd cc
    go kinds.User e = absurd cc

-- and one of the normal kind is normal
normal_is : (x : Pick) → is_of_kind kinds.Normal x ≡ true → x.kind ≡ kinds.Normal
normal_is x h = go x.kind h
  where
    go : (k : ApcKind) → same_kind kinds.Normal k ≡ true → k ≡ kinds.Normal
    go kinds.Normal e = refl
    go kinds.Special e = absurd cc
    go kinds.User e = absurd cc

-- at level 0 and out of guarded regions, a kernel APC that waits behind a block is a normal one, and so is the first one
module _ (q : ApcQueues) (w : Waiting) (quiet : deliverable q w.regions w.level ≡ None) (low : (w.level == 0) ≡ true)
    (out : (w.regions.guard == 0) ≡ true) (i : Pick) (there : Contains q.pending i) where
  no_special : first_of_kind kinds.Special q ≡ None
  no_special = go (first_of_kind kinds.Special q) refl
    where
      go : (o : Option Pick) → first_of_kind kinds.Special q ≡ o → first_of_kind kinds.Special q ≡ None
      go None e = e
      go (Some x) e =
          let is : first_kernel q ≡ Some x = ap (λ (o : Option Pick). option_or o (first_of_kind kinds.Normal q)) e in
          let a = lets_none q w.regions w.level x quiet low is in
          let kind = special_is x (kind_found kinds.Special q x e) in
          let b : lets_through w.regions x.kind ≡ (w.regions.guard == 0) = ap (λ (k : ApcKind). lets_through w.regions k) kind in
          absurd cc

  not_special : is_of_kind kinds.Special i ≡ false
  not_special = none_last Pick (λ x. x.number) (is_of_kind kinds.Special) q.pending i no_special there

  -- a normal one is held back by the regions
  held_normal : is_of_kind kinds.Normal i ≡ true → ((w.regions.crit == 0) && not w.regions.busy) ≡ false
  held_normal is = go (first_of_kind kinds.Normal q) refl
    where
      go : (o : Option Pick) → first_of_kind kinds.Normal q ≡ o → ((w.regions.crit == 0) && not w.regions.busy) ≡ false
      go None e = let a = none_last Pick (λ x. x.number) (is_of_kind kinds.Normal) q.pending i e there in absurd cc
      go (Some x) e =
          let first : first_kernel q ≡ Some x = ap (λ (o : Option Pick). option_or o (first_of_kind kinds.Normal q)) no_special ∙ e in
          let a = lets_none q w.regions w.level x quiet low first in
          let kind = normal_is x (kind_found kinds.Normal q x e) in
          let b : lets_through w.regions x.kind ≡ ((w.regions.guard == 0) && ((w.regions.crit == 0) && not w.regions.busy)) = ap
          (λ (k : ApcKind). lets_through w.regions k) kind in
          let d : ((w.regions.guard == 0) && ((w.regions.crit == 0) && not w.regions.busy))
          ≡ ((w.regions.crit == 0) && not w.regions.busy) = ap (λ (b : Bool). b && ((w.regions.crit == 0) && not w.regions.busy)) out in
          sym d ∙ (sym b ∙ a)

module _ (s : Script) (limit : ℕ) (past : List Event) (fit : fits s ≡ true) (run : IsRun s limit past) (settled : is_settled s limit past ≡ true) where
  -- ---- processors

  -- a processor that doesn't rest does nothing more
  stopped : (p : CpuNo) → has_cpu s p ≡ true → (IsClosed s limit p past → rests (own_of s p past) ≡ true → ⊥) →
      CpuHolds s limit past p (cpu_cause limit (own_of s p past))
  stopped p has busy = go (is_cut limit (own_of s p past)) refl
    where
      spins : IsClosed s limit p past → (is_cut limit (own_of s p past) ≡ false) → CpuHolds s limit past p stop.Spins
      spins k uncut = elim (closed_either s limit p past k) [ inl rest ↦ absurd (busy k rest) | inr still ↦ (uncut, still) ]

      go : (b : Bool) → is_cut limit (own_of s p past) ≡ b → CpuHolds s limit past p (if is_cut limit (own_of s p past) then stop.Cut else stop.Spins)
      go true e = subst (λ (b : Bool). CpuHolds s limit past p (if b then stop.Cut else stop.Spins)) (sym e) e
      go false e =
          subst (λ (b : Bool). CpuHolds s limit past p (if b then stop.Cut else stop.Spins)) (sym e)
          (spins (record { run = run; settled = settled; named = has; uncut = e }) e)

  -- ---- DPCs

  dpc_caused : (d : DpcNo) (q : CpuNo) (n : ℕ) → has_dpc s d ≡ true → standing d past ≡ Some (record { queue = q; number = n }) →
      CpuHolds s limit past q (cpu_cause limit (own_of s q past))
  dpc_caused d q n has h = stopped q (queue_is_named s limit d past (record { queue = q; number = n }) fit run h) none
    where
      none : IsClosed s limit q past → rests (own_of s q past) ≡ true → ⊥
      none k rest =
          let empty : numbers_of d (pending s q past) ≡ [] = ap (λ (xs : List Insert). numbers_of d xs) (no_dpc_is_left s limit q past k rest) in
          let a : numbers_of d (pending s q past) ≡ numbers_at q (standing d past) = agree s limit d past run has q in
          let b : numbers_at q (standing d past) ≡ (if q.0 == q.0 then n ∷ [] else []) = ap (λ (o : Option Standing). numbers_at q o) h in
          let e : (if q.0 == q.0 then n ∷ [] else []) ≡ n ∷ [] = ap (λ (b : Bool). if b then n ∷ [] else []) (eq-eqb q.0 q.0 refl) in
          let whole : n ∷ [] ≡ [] = sym e ∙ (sym b ∙ (sym a ∙ empty)) in
          cc

  -- ---- APCs

  thread_stopped : (t : ThreadNo) → has_thread s t ≡ true → is_stopped (facts s t past).doing ≡ false →
      CpuHolds s limit past (cpu_of s t) (cpu_cause limit (own_of s (cpu_of s t) past))
  thread_stopped t has goes =
      stopped (cpu_of s t) (cpu_is_named s t fit has) (λ k rest. let a = no_thread_is_left s limit (cpu_of s t) t past k rest has refl in cc)

  kernel_caused : (t : ThreadNo) (w : Waiting) (i : Pick) → has_thread s t ≡ true → (facts s t past).doing ≡ doings.Blocked w →
      Contains (facts s t past).apcs.pending i → (i.kind ≡ kinds.Special) ⊎ (i.kind ≡ kinds.Normal) → ApcHolds s limit past t i.kind (kernel_cause w)
  kernel_caused t w i has doing there kind = go (w.level == 0) (w.regions.guard == 0) (w.regions.crit == 0) refl refl refl
    where
      quiet : deliverable (facts s t past).apcs w.regions w.level ≡ None
      quiet = (nothing_waits_behind_a_block s limit t w past run has doing).kernel

      normal : (w.level == 0) ≡ true → (w.regions.guard == 0) ≡ true → i.kind ≡ kinds.Normal
      normal low out = elim kind [
        | inl special ↦ (let a = not_special (facts s t past).apcs w quiet low out i there in
            let b : is_of_kind kinds.Special i ≡ true = ap (λ (k : ApcKind). same_kind kinds.Special k) special in
            absurd cc)
        | inr is ↦ is
      ]

      held : (low : (w.level == 0) ≡ true) → (out : (w.regions.guard == 0) ≡ true) → ((w.regions.crit == 0) && not w.regions.busy) ≡ false
      held low out =
          held_normal (facts s t past).apcs w quiet low out i there (ap (λ (k : ApcKind). same_kind kinds.Normal k) (normal low out))

      in_progress : (c b : Bool) → (c && not b) ≡ false → c ≡ true → b ≡ true
      in_progress true true h k = refl
      in_progress true false h k = absurd cc
      in_progress false b h k = absurd cc

      go : (a b c : Bool) → (w.level == 0) ≡ a → (w.regions.guard == 0) ≡ b → (w.regions.crit == 0) ≡ c →
          ApcHolds s limit past t i.kind (if not (w.level == 0) then why.Level else if not (w.regions.guard == 0) then why.Guarded else
          if not (w.regions.crit == 0) then why.Critical else why.InProgress)
      go false b c e f g =
          subst (λ (x : Bool). ApcHolds s limit past t i.kind (if not x then why.Level else if not (w.regions.guard == 0) then why.Guarded else
          if not (w.regions.crit == 0) then why.Critical else why.InProgress)) (sym e) (w, doing, above w.level e)
      go true false c e f g =
          subst (λ (x : Bool). ApcHolds s limit past t i.kind (if not x then why.Level else if not (w.regions.guard == 0) then why.Guarded else
          if not (w.regions.crit == 0) then why.Critical else why.InProgress)) (sym e)
          (subst (λ (x : Bool). ApcHolds s limit past t i.kind (if not x then why.Guarded else
          if not (w.regions.crit == 0) then why.Critical else why.InProgress)) (sym f) (w, doing, above w.regions.guard f))
      go true true false e f g =
          subst (λ (x : Bool). ApcHolds s limit past t i.kind (if not x then why.Level else if not (w.regions.guard == 0) then why.Guarded else
          if not (w.regions.crit == 0) then why.Critical else why.InProgress)) (sym e)
          (subst (λ (x : Bool). ApcHolds s limit past t i.kind (if not x then why.Guarded else
          if not (w.regions.crit == 0) then why.Critical else why.InProgress)) (sym f)
          (subst (λ (x : Bool). ApcHolds s limit past t i.kind (if not x then why.Critical else why.InProgress)) (sym g)
          (normal e f, (w, doing, above w.regions.crit g))))
      go true true true e f g =
          subst (λ (x : Bool). ApcHolds s limit past t i.kind (if not x then why.Level else if not (w.regions.guard == 0) then why.Guarded else
          if not (w.regions.crit == 0) then why.Critical else why.InProgress)) (sym e)
          (subst (λ (x : Bool). ApcHolds s limit past t i.kind (if not x then why.Guarded else
          if not (w.regions.crit == 0) then why.Critical else why.InProgress)) (sym f)
          (subst (λ (x : Bool). ApcHolds s limit past t i.kind (if not x then why.Critical else why.InProgress)) (sym g)
          (normal e f, (w, doing, in_progress (w.regions.crit == 0) w.regions.busy (held e f) g))))

  user_caused : (t : ThreadNo) (w : Waiting) (i : Pick) → has_thread s t ≡ true → (facts s t past).doing ≡ doings.Blocked w →
      Contains (facts s t past).apcs.pending i → i.kind ≡ kinds.User → ApcHolds s limit past t i.kind why.Wait
  user_caused t w i has doing there kind = (kind, (w, doing, go (takes_user w) refl))
    where
      go : (b : Bool) → takes_user w ≡ b → takes_user w ≡ false
      go false e = e
      go true e =
          let none : first_user (facts s t past).apcs ≡ None = (nothing_waits_behind_a_block s limit t w past run has doing).user e in
          let a = none_last Pick (λ x. x.number) (is_of_kind kinds.User) (facts s t past).apcs.pending i none there in
          let b : is_of_kind kinds.User i ≡ true = ap (λ (k : ApcKind). same_kind kinds.User k) kind in
          absurd cc

  wait_caused : (t : ThreadNo) (w : Waiting) (i : Pick) → has_thread s t ≡ true → (facts s t past).doing ≡ doings.Blocked w →
      Contains (facts s t past).apcs.pending i → ApcHolds s limit past t i.kind (wait_cause w i.kind)
  wait_caused t w i has doing there = go i.kind refl
    where
      go : (k : ApcKind) → i.kind ≡ k → ApcHolds s limit past t i.kind (wait_cause w i.kind)
      go kinds.Special e =
          subst (λ (k : ApcKind). ApcHolds s limit past t i.kind (wait_cause w k)) (sym e) (kernel_caused t w i has doing there (inl e))
      go kinds.Normal e =
          subst (λ (k : ApcKind). ApcHolds s limit past t i.kind (wait_cause w k)) (sym e) (kernel_caused t w i has doing there (inr e))
      go kinds.User e = subst (λ (k : ApcKind). ApcHolds s limit past t i.kind (wait_cause w k)) (sym e) (user_caused t w i has doing there e)

  apc_caused : (t : ThreadNo) (i : Pick) → has_thread s t ≡ true → Contains (facts s t past).apcs.pending i →
      ApcHolds s limit past t i.kind (apc_cause limit (own_of s (cpu_of s t) past) (facts s t past).doing i.kind)
  apc_caused t i has there = go (facts s t past).doing refl
    where
      go : (d : Doing) → (facts s t past).doing ≡ d →
          ApcHolds s limit past t i.kind (apc_cause limit (own_of s (cpu_of s t) past) (facts s t past).doing i.kind)
      go doings.Gone e =
          subst (λ (d : Doing). ApcHolds s limit past t i.kind (apc_cause limit (own_of s (cpu_of s t) past) d i.kind)) (sym e) e
      go (doings.Blocked w) e =
          subst (λ (d : Doing). ApcHolds s limit past t i.kind (apc_cause limit (own_of s (cpu_of s t) past) d i.kind)) (sym e)
          (wait_caused t w i has e there)
      go (doings.Ready level status) e =
          subst (λ (d : Doing). ApcHolds s limit past t i.kind (apc_cause limit (own_of s (cpu_of s t) past) d i.kind)) (sym e)
          (thread_stopped t has (ap is_stopped e))
      go doings.Running e =
          subst (λ (d : Doing). ApcHolds s limit past t i.kind (apc_cause limit (own_of s (cpu_of s t) past) d i.kind)) (sym e)
          (thread_stopped t has (ap is_stopped e))

  -- ---- the whole

  -- each thing that is left has the cause that is told
  pub left_has_cause : (x : Left) → IsLeft s limit past x → HasCause s limit past x
  left_has_cause (left.Dpc d n q cause) h =
      subst (λ c. CpuHolds s limit past q c) (sym h.2) (dpc_caused d q n h.0 h.1)
  left_has_cause (left.Apc a n t cause) h =
      let i = h.1.0 in
      (i, h.1.1, h.1.2, h.1.3, subst (λ c. ApcHolds s limit past t i.kind c) (sym h.1.4) (apc_caused t i h.0 h.1.1))
  left_has_cause (left.Cut p t level frame) h = tt
  left_has_cause (left.Spins p k) h = tt
  left_has_cause (left.Blocked t w due) h = tt
  left_has_cause (left.Ready t begun) h = tt
  left_has_cause (left.Timer t x) h = tt
  left_has_cause (left.Raised p o n level base) h = tt
  left_has_cause (left.Inside p o n r count) h = tt
  left_has_cause (left.Holds p o n k) h = tt
