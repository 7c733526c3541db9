-- Where locks are acquired in rising order, a lock that is spun on at the close is held by a frame that spins on a greater one; so none is.
use Rattle.std.proofs.Common.{ap, arith, inl, inr, subst, sym, ◌∙◌}
use Rattle.std.proofs.lemmas.Bool.{eq-eqb, eqb-true, ltb-true}
use Rattle.std.proofs.lemmas.Option.{slice_get_within}
use Rattle.std.specs.List.{Contains, list_all}
use Rattle.std.specs.Option.{option_map_or}
use Rattle.std.specs.Prelude.{Bool, List, None, Option, Some, [], false, is_some, length, nat_lt, refl, slice_get, suc, true, zero, ℕ, ◌+◌, ◌<◌, ◌==◌}
use Rattle.std.specs.Prelude.{◌||◌}
use Rattle.std.specs.Prelude.{◌∷◌, ◌≡◌, ◌≤◌, ◌⊎◌}
use Rattle.nt_close.proofs.Spinners.{held_elsewhere}
use Rattle.nt_close.proofs.Spinning.{IsSpinning, spinning}
use Rattle.nt_close.specs.Close.{IsClosed, IsHeldElsewhere}
use Rattle.nt_event.proofs.Elements.{contains_cases, contains_none}
use Rattle.nt_event.proofs.Options.{both}
use Rattle.nt_event.specs.declared.commands.Command.{Command}
use Rattle.nt_event.specs.declared.commands.Command.TheVariants.{Acquire}
use Rattle.nt_event.specs.declared.commands.Refusal.{Refusal}
use Rattle.nt_event.specs.declared.events.Event.{Event}
use Rattle.nt_event.specs.declared.frames.Held.{Held}
use Rattle.nt_event.specs.declared.numbers.CpuNo.{CpuNo}
use Rattle.nt_event.specs.declared.numbers.LockNo.{LockNo}
use Rattle.nt_event.specs.declared.scripts.Script.{Script}
use Rattle.nt_event.specs.Frame.{Frame}
use Rattle.nt_event.specs.Frames.{base_of, frames_of, innermost}
use Rattle.nt_event.specs.Jobs.{spins_still, waits_for_lock}
use Rattle.nt_event.specs.Own.{own_of}
use Rattle.nt_event.specs.Robin.{is_settled}
use Rattle.nt_event.specs.Routines.{next_command}
use Rattle.nt_event.specs.Script.{fits}
use Rattle.nt_event.specs.Step.{IsRun, is_cut}
use Rattle.nt_runs.proofs.Declared.{next_fits}
use Rattle.nt_runs.proofs.LocksAgree.{alone}
use Rattle.nt_runs.proofs.Parts.{parted}
use Rattle.nt_runs.specs.SomeFrame.{among, holds_lock, some_frame, spins_lock}
use Rattle.nt_verify.proofs.Agreeing.{Agrees, acquire_passes, next_at, walk_of}
use Rattle.nt_verify.proofs.Lists.{table_contains}
use Rattle.nt_verify.proofs.Open.{inner_agrees}
use Rattle.nt_verify.proofs.Siting.{declared}
use Rattle.nt_verify.proofs.Stepping.{Walks}
use Rattle.nt_verify.specs.Findings.{is_above, is_ordered, is_ordered_at, places_at, rises_at, rises_in}
use Rattle.nt_verify.specs.Laws.{OrderedScriptsSpinNowhere}
use Rattle.nt_verify.specs.Sites.{commands_at, site_of, sites}
use Rattle.nt_verify.specs.Walks.{is_own, refused_in, regions_in}

-- ---- lists

-- if all of a list passes a test, each element of it does
all_there : {A : Type 0} (p : A → Bool) (xs : List A) (x : A) → list_all p xs ≡ true → Contains xs x → p x ≡ true
all_there p [] x h c = contains_none x c
all_there {A} p (y ∷ xs) x h c =
    let b = both (p y) (list_all p xs) h in
    elim (contains_cases y xs x c) [ inl e ↦ subst (λ (z : A). p z ≡ true) e b.0 | inr d ↦ all_there p xs x b.1 d ]

-- a lock that is among held ones is below each lock that is above all of them
above_held : (j k : LockNo) (hs : List Held) → is_above k hs ≡ true → among j hs ≡ true → j.0 < k.0
above_held j k [] a h = cc
above_held j k (x ∷ hs) a h = go (x.lock.0 == j.0) refl h (λ m. above_held j k hs (both _ _ a).1 m)
  where
    go : (b : Bool) → (x.lock.0 == j.0) ≡ b → (b || among j hs) ≡ true → (among j hs ≡ true → j.0 < k.0) → j.0 < k.0
    go true e m ih = let n = eqb-true x.lock.0 j.0 e in let l = ltb-true x.lock.0 k.0 (both _ _ a).0 in omega (arith, n, l)
    go false e m ih = ih m

-- false is not true, so whatever is asked follows if they are equal
no_bool : {A : Type 0} → false ≡ true → A
no_bool h = cc

-- if a disjunction is true and its first part is false, its second part is true
or_second : (a b : Bool) → a ≡ false → (a || b) ≡ true → b ≡ true
or_second true b e h = cc
or_second false b e h = h

-- ---- a processor that spins still

pub record Spinner (s : Script) (p : CpuNo) (past : List Event) : Type 0 where
  pub frame : Frame
  pub inner : innermost (frames_of s p past) ≡ Some frame
  pub on : Held
  pub spins : frame.spin ≡ Some on
  pub base : base_of frame ≤ 2
  pub named : on.lock.0 < s.locks
  pub above : is_above on.lock frame.held ≡ true

module _ (s : Script) (limit : ℕ) (past : List Event) (fit : fits s ≡ true) (ordered : is_ordered s ≡ true) (r : IsRun s limit past) where
  spinner : (p : CpuNo) → spins_still (own_of s p past) ≡ true → Spinner s p past
  spinner p h = go sp.frame.spin refl
    where
      sp : IsSpinning s p past
      sp = spinning s limit p past r (both (waits_for_lock (own_of s p past)) _ h).0

      go : (o : Option Held) → sp.frame.spin ≡ o → Spinner s p past
      go None e = no_bool (sym (ap (λ (o : Option Held). is_some o) e) ∙ sp.spins)
      go (Some g) e =
          record {
            frame = sp.frame;
            inner = sp.inner;
            on = g;
            spins = e;
            base = (let a = sp.locked.above in let b = sp.locked.spun sp.spins in omega (arith, a, b));
            named = ltb-true g.lock.0 s.locks (next_fits s p sp.frame (Acquire g.lock) fit next);
            above = ap (λ (hs : List Held). is_above g.lock hs) (sym walks.held) ∙ or_second (is_some (refused_in (walk_of s p sp.frame) (Acquire g.lock)))
                (is_above g.lock (walk_of s p sp.frame).held) (ap (λ (o : Option Refusal). is_some o) passes) rises;
          }
        where
          next : next_command s p sp.frame ≡ Some (Acquire g.lock)
          next = (sp.locked.retry g e).0

          agrees : Agrees s p sp.frame
          agrees = inner_agrees s limit p past sp.frame r sp.inner

          walks : Walks (walk_of s p sp.frame) sp.frame
          walks = agrees.walks (Acquire g.lock) next

          place : slice_get (commands_at s (site_of p sp.frame)) sp.frame.place ≡ Some (Acquire g.lock)
          place = next_at s p sp.frame (Acquire g.lock) next

          passes : refused_in (walk_of s p sp.frame) (Acquire g.lock) ≡ None
          passes =
              acquire_passes (walk_of s p sp.frame).level (is_own (walk_of s p sp.frame).body) (regions_in (walk_of s p sp.frame)) (walk_of s p sp.frame) g.lock
              (walks.low (ap is_some e)) (ap (λ (hs : List Held). among g.lock hs) walks.held ∙ (sp.locked.retry g e).1)

          at_site : is_ordered_at s (site_of p sp.frame) ≡ true
          at_site = all_there (is_ordered_at s) (sites s) (site_of p sp.frame) ordered (declared s p sp.frame (Acquire g.lock) agrees next)

          at_place : rises_at s (site_of p sp.frame) sp.frame.place ≡ true
          at_place =
              all_there (rises_at s (site_of p sp.frame)) (places_at s (site_of p sp.frame)) sp.frame.place at_site
              (table_contains (length (commands_at s (site_of p sp.frame))) sp.frame.place (λ i. i)
              (slice_get_within (commands_at s (site_of p sp.frame)) sp.frame.place (Acquire g.lock) place))

          rises : rises_in (walk_of s p sp.frame) (Acquire g.lock) ≡ true
          rises = sym (ap (λ (o : Option Command). option_map_or (rises_in (walk_of s p sp.frame)) o true) place) ∙ at_place

  -- its processor is one of the script's, and none is cut
  module _ (settled : is_settled s limit past ≡ true) (uncut : (q : CpuNo) → nat_lt q.0 s.cpus ≡ true → is_cut limit (own_of s q past) ≡ false) where
    closed : (p : CpuNo) → nat_lt p.0 s.cpus ≡ true → IsClosed s limit p past
    closed p h = record { run = r; settled = settled; named = h; uncut = uncut p h }

    spins_there : (p : CpuNo) (x : Spinner s p past) → some_frame (spins_lock x.on.lock) s p past ≡ true
    spins_there p x =
        alone s limit p past r (parted s limit p past r) (spins_lock x.on.lock) refl x.frame x.inner x.base
        ∙ (ap (λ (o : Option Held). option_map_or (λ h. h.lock.0 == x.on.lock.0) o false) x.spins ∙ eq-eqb x.on.lock.0 x.on.lock.0 refl)

    -- a lock that is spun on is held by a spinner on a greater one
    next_spinner : (p : CpuNo) → nat_lt p.0 s.cpus ≡ true → (x : Spinner s p past) → (q : CpuNo) × (nat_lt q.0 s.cpus ≡ true) × ((y : Spinner s q past) ×
        (x.on.lock.0 < y.on.lock.0))
    next_spinner p h x = go elsewhere.why
      where
        elsewhere : IsHeldElsewhere s limit p x.on.lock past
        elsewhere = held_elsewhere s limit p x.on.lock past (closed p h) x.named (spins_there p x)

        more : (y : Spinner s elsewhere.cpu past) → x.on.lock.0 < y.on.lock.0
        more y =
            let held : among x.on.lock y.frame.held ≡ true =
            sym (alone s limit elsewhere.cpu past r (parted s limit elsewhere.cpu past r) (holds_lock x.on.lock)
            refl y.frame y.inner y.base) ∙ elsewhere.holds in
            above_held x.on.lock y.on.lock y.frame.held y.above held

        go : (is_cut limit (own_of s elsewhere.cpu past) ≡ true) ⊎ (spins_still (own_of s elsewhere.cpu past) ≡ true) →
            (q : CpuNo) × (nat_lt q.0 s.cpus ≡ true) × ((y : Spinner s q past) × (x.on.lock.0 < y.on.lock.0))
        go (inl c) = no_bool (sym (uncut elsewhere.cpu elsewhere.named) ∙ c)
        go (inr w) = let y = spinner elsewhere.cpu w in (elsewhere.cpu, elsewhere.named, (y, more y))

    -- so the locks rise without end
    chain : (m : ℕ) (p : CpuNo) → nat_lt p.0 s.cpus ≡ true → (x : Spinner s p past) → s.locks ≤ x.on.lock.0 + m → ⊥
    chain zero p h x low = let n = x.named in omega (arith, n, low)
    chain (suc m) p h x low =
        let y = next_spinner p h x in let rises = y.2.1 in chain m y.0 y.1 y.2.0 (omega (arith, rises, low))

    none_spins : (p : CpuNo) → nat_lt p.0 s.cpus ≡ true → spins_still (own_of s p past) ≡ false
    none_spins p h = go (spins_still (own_of s p past)) refl
      where
        go : (b : Bool) → spins_still (own_of s p past) ≡ b → spins_still (own_of s p past) ≡ false
        go false e = e
        go true e = absurd (chain s.locks p h (spinner p e) (omega arith))

-- if locks are acquired in rising order, no processor spins after a settled run in which none is cut
pub ordered_spin_nowhere : OrderedScriptsSpinNowhere
ordered_spin_nowhere s limit p past fit ordered r settled uncut h = none_spins s limit past fit ordered r settled uncut p h
