-- What may come next after histories that are alike is alike: the next event, a Switch, and a good Look.
use Rattle.std.proofs.Common.{ap, arith, inl, inr, subst, sym, ◌∙◌}
use Rattle.std.proofs.lemmas.Bool.{eqb-true, lt-ltb, ltb-true}
use Rattle.std.specs.List.{list_any}
use Rattle.std.specs.Option.{option_or}
use Rattle.std.specs.Prelude.{Bool, List, None, Option, Some, [], false, find, get_or, if◌then◌else◌, is_some, length, max, nat_lt, not, option_and_then}
use Rattle.std.specs.Prelude.{option_map, refl, suc, true, unwrap_or, zero, ℕ, ◌&&◌, ◌+◌, ◌<◌, ◌==◌, ◌||◌, ◌∷◌, ◌≡◌, ◌≤◌, ◌⊎◌}
use Rattle.nt_event.specs.declared.commands.Command.{Command}
use Rattle.nt_event.specs.declared.commands.Command.TheVariants.{CancelTimer, Delay, SetTimer}
use Rattle.nt_event.specs.declared.commands.Reply.{Reply}
use Rattle.nt_event.specs.declared.events.Event.{Event}
use Rattle.nt_event.specs.declared.events.What.{What}
use Rattle.nt_event.specs.declared.events.What.TheVariants.{Call, Clean, Expire, Rest, Rewait}
use Rattle.nt_event.specs.declared.frames.Again.{Again}
use Rattle.nt_event.specs.declared.inserts.Part.TheVariants.{Ordinary as OrdinaryPart}
use Rattle.nt_event.specs.declared.jobs.Job.{Job}
use Rattle.nt_event.specs.declared.jobs.Job.TheVariants.{Apcs as ApcsJob, Call as CallJob, Drain as DrainJob, Fire as FireJob, Free as FreeJob, Idle as IdleJob}
use Rattle.nt_event.specs.declared.jobs.Job.TheVariants.{Leave as LeaveJob, Pick as PickJob, Rewait as RewaitJob, Rundown as RundownJob, Switch as SwitchJob}
use Rattle.nt_event.specs.declared.jobs.Job.TheVariants.{Threaded as ThreadedJob, ToUser as ToUserJob, UserEnd as UserEndJob}
use Rattle.nt_event.specs.declared.jobs.Stand.{Stand}
use Rattle.nt_event.specs.declared.jobs.Task.{Task}
use Rattle.nt_event.specs.declared.jobs.Task.TheVariants.{Alone, Shared}
use Rattle.nt_event.specs.declared.numbers.CpuNo.{CpuNo}
use Rattle.nt_event.specs.declared.numbers.ThreadNo.{ThreadNo}
use Rattle.nt_event.specs.declared.numbers.TimerNo.{TimerNo}
use Rattle.nt_event.specs.declared.scripts.Script.{Script}
use Rattle.nt_event.specs.Commands.{is_reached, reply}
use Rattle.nt_event.specs.Jobs.{begin_first, expire_key, is_after, job_event, may_switch, next_what, ready_from, rewait_reply, switch_event, task, task_event}
use Rattle.nt_event.specs.Lanes.{Lanes, facts_at, facts_of, lanes_at, queue_at}
use Rattle.nt_event.specs.Lists.{head_of, is_null, value_at, when}
use Rattle.nt_event.specs.Numbers.{thread}
use Rattle.nt_event.specs.Threads.{is_ready}
use Rattle.nt_event.specs.declared.scripts.ThreadDecl.{ThreadDecl}
use Rattle.nt_event.specs.Own.{Own, own_of, stand_in}
use Rattle.nt_event.specs.Replies.{yes_if}
use Rattle.nt_event.specs.Step.{IsRun, good_rises, is_good_look, was_asked}
use Rattle.nt_event.specs.Timers.{SetKey, Timers, first_due, is_set_timer, setting_in}
use Rattle.nt_event.specs.Waits.{wait_reply}
use Rattle.nt_alike.specs.Alike.{Alike, newer}
use Rattle.nt_alike.specs.Bare.{bare_lanes, bare_but_timers, bare_own, bare_setting, bare_timers, bare_what}
use Rattle.nt_event.specs.Requests.{seen}
use Rattle.nt_event.proofs.Tables.{get_or-table}
use Rattle.nt_runs.proofs.Robin.{or_yes}
use Rattle.nt_runs.proofs.Rundown.{seen_length}
use Rattle.nt_alike.proofs.Asked.{newer_finds, newer_strict}
use Rattle.nt_alike.proofs.Facts.{is_some_map}
use Rattle.nt_alike.proofs.Jobs.{job_bare}
use Rattle.nt_alike.proofs.Tasks.{may_switch_bare, next_bare, stand_in_bare}
use Rattle.nt_alike.proofs.Timers.{bare_key, first_same, setting_read}

-- ---- timers that are alike give the same

module _ (s : Script) (st : Stand) (l : Lanes) (x y : Timers) (bare : bare_timers x ≡ bare_timers y)
    (first : option_map bare_key (first_due x) ≡ option_map bare_key (first_due y)) where
  now : x.now ≡ y.now
  now = ap (λ (z : Timers). z.now) bare

  set_same : (t : TimerNo) → is_set_timer x t ≡ is_set_timer y t
  set_same t =
      sym (is_some_map bare_setting (setting_in x.timers t.0)) ∙ ap is_some (sym (setting_read x.timers t.0))
      ∙ ap (λ (z : Timers). is_some (setting_in z.timers t.0)) bare
      ∙ ap is_some (setting_read y.timers t.0) ∙ is_some_map bare_setting (setting_in y.timers t.0)

  reply_same : (c : Command) → reply s st (record l { timers = x }) c ≡ reply s st (record l { timers = y }) c
  reply_same (SetTimer t due period) = ap yes_if (set_same t)
  reply_same (CancelTimer t) = ap yes_if (set_same t)
  reply_same (Delay m a units) = ap (λ (n : ℕ). wait_reply (facts_of l st.thread) st.regions st.level m a (Some (is_reached n (n + units)))) now
  reply_same c = refl

  abbrev key_what : Option SetKey → Option What
  key_what None = None
  key_what (Some k) = Some (Expire k.key 0)

  expire_or : (b : Bool) (o : Option SetKey) → option_map bare_what (option_map expire_key (when b o)) ≡ when b (key_what (option_map bare_key o))
  expire_or true None = refl
  expire_or true (Some k) = refl
  expire_or false o = refl

  drain_or : (a b c : Option What) → option_map bare_what a ≡ option_map bare_what b →
      bare_what (unwrap_or (option_or a c) (Clean 2)) ≡ bare_what (unwrap_or (option_or b c) (Clean 2))
  drain_or None None c h = refl
  drain_or (Some v) (Some w) c h = inside h
    where
      inside : {v w : What} → ◌≡◌ {A = Option What} (Some v) (Some w) → v ≡ w
      inside q = cc
  drain_or None (Some w) c h = cc
  drain_or (Some v) None c h = cc

  rewait_or : (o : Option Again) → option_map (λ (w : Again). Rewait st.frame (rewait_reply st (record l { timers = x }) w)) o
      ≡ option_map (λ (w : Again). Rewait st.frame (rewait_reply st (record l { timers = y }) w)) o
  rewait_or None = refl
  rewait_or (Some w) =
      ap (λ (n : ℕ). Some (Rewait st.frame (wait_reply (facts_of l st.thread) st.regions st.level w.mode w.alertable (option_map (is_reached n) w.due)))) now

  ready_same : (p : CpuNo) (n : ℕ) (xs : List ThreadDecl) → ready_from p n xs (record l { timers = x }) ≡ ready_from p n xs (record l { timers = y })
  ready_same p n [] = refl
  ready_same p n (z ∷ xs) =
      ap (λ (ts : List ThreadNo). if (z.cpu.0 == p.0) && is_ready (facts_at l (thread n)) then (thread n ∷ ts) else ts) (ready_same p (suc n) xs)

  job_same : (j : Job) → option_map bare_what (job_event s st (record l { timers = x }) j) ≡ option_map bare_what (job_event s st (record l { timers = y }) j)
  job_same (CallJob c) = ap (λ (r : Reply). Some (Call 0 c r)) (reply_same c)
  job_same (FireJob d) = refl
  job_same (FreeJob k) = refl
  job_same DrainJob =
      ap Some (drain_or (option_map expire_key (when st.sweep (first_due x))) (option_map expire_key (when st.sweep (first_due y)))
      (begin_first OrdinaryPart (queue_at l st.cpu))
      (expire_or st.sweep (first_due x) ∙ ap (λ (o : Option SetKey). when st.sweep (key_what o)) first ∙ sym (expire_or st.sweep (first_due y))))
  job_same ApcsJob = refl
  job_same ThreadedJob = refl
  job_same IdleJob =
      ap (λ (ts : List ThreadNo). option_map bare_what (option_or (begin_first OrdinaryPart (queue_at l st.cpu)) (when (is_null ts) (Some Rest))))
      (ready_same st.cpu 0 s.threads)
  job_same (PickJob last) =
      ap (λ (ts : List ThreadNo).
      option_map bare_what (option_or (option_map (λ (t : ThreadNo). switch_event t l) (option_or (find (is_after last) ts) (head_of ts)))
      (option_or (begin_first OrdinaryPart (queue_at l st.cpu)) (when (is_null ts) (Some Rest))))) (ready_same st.cpu 0 s.threads)
  job_same (SwitchJob t) = refl
  job_same RewaitJob = ap (option_map bare_what) (rewait_or st.again)
  job_same ToUserJob = refl
  job_same UserEndJob = refl
  job_same LeaveJob = refl
  job_same RundownJob = refl

  task_same : (t : Task) → option_map bare_what (task_event s st (record l { timers = x }) t)
      ≡ option_map bare_what (task_event s st (record l { timers = y }) t)
  task_same (Alone w) = refl
  task_same (Shared j) = job_same j

  then_same : (t : Option Task) → option_map bare_what (option_and_then (task_event s st (record l { timers = x })) t)
      ≡ option_map bare_what (option_and_then (task_event s st (record l { timers = y })) t)
  then_same None = refl
  then_same (Some t) = task_same t

-- ---- what may come next is the same, but for numbers

module _ (s : Script) (h k : List Event) (al : Alike s h k) where
  timers_like : bare_timers (lanes_at s h).timers ≡ bare_timers (lanes_at s k).timers
  timers_like = ap (λ (l : Lanes). l.timers) al.lanes

  first_like : option_map bare_key (first_due (lanes_at s h).timers) ≡ option_map bare_key (first_due (lanes_at s k).timers)
  first_like = first_same (lanes_at s h).timers (lanes_at s k).timers al.order timers_like

  parts_like : record (bare_lanes (lanes_at s h)) { timers = (lanes_at s h).timers } ≡ record (bare_lanes (lanes_at s k)) { timers = (lanes_at s h).timers }
  parts_like = ap (λ (l : Lanes). record l { timers = (lanes_at s h).timers }) al.lanes

  -- the next event of a processor after histories that are alike is the same but for numbers
  pub next_like : (p : CpuNo) → option_map bare_what (next_what s p (own_of s p h) (lanes_at s h))
      ≡ option_map bare_what (next_what s p (own_of s p k) (lanes_at s k))
  next_like p =
      next_bare s p (own_of s p h) (lanes_at s h)
      ∙ together (al.own p) parts_like
      ∙ then_same s (stand_in p (bare_own (own_of s p k))) (bare_but_timers (lanes_at s k)) (lanes_at s h).timers (lanes_at s k).timers timers_like first_like
      (task s p (bare_own (own_of s p k)))
      ∙ sym (next_bare s p (own_of s p k) (lanes_at s k))
    where
      together : {x y : Own} {l m : Lanes} → x ≡ y → l ≡ m → option_map bare_what (next_what s p x l) ≡ option_map bare_what (next_what s p y m)
      together a b = cc

  -- a Switch to a given thread gives the same event, but for numbers, after histories that are alike
  pub switch_like : (p : CpuNo) (t : ThreadNo) →
      option_map bare_what (when (may_switch (own_of s p h)) (job_event s (stand_in p (own_of s p h)) (lanes_at s h) (SwitchJob t)))
      ≡ option_map bare_what (when (may_switch (own_of s p k)) (job_event s (stand_in p (own_of s p k)) (lanes_at s k) (SwitchJob t)))
  switch_like p t =
      let a = one (own_of s p h) (lanes_at s h) in
      let b = one (own_of s p k) (lanes_at s k) in
      a ∙ together (al.own p) parts_like ∙ sym b
    where
      inside : (b : Bool) (o q : Option What) → option_map bare_what o ≡ option_map bare_what q →
          option_map bare_what (when b o) ≡ option_map bare_what (when b q)
      inside true o q h = h
      inside false o q h = refl

      one : (x : Own) (l : Lanes) → option_map bare_what (when (may_switch x) (job_event s (stand_in p x) l (SwitchJob t)))
          ≡ option_map bare_what (when (may_switch (bare_own x)) (job_event s (stand_in p (bare_own x)) (bare_but_timers l) (SwitchJob t)))
      one x l =
          inside (may_switch x) _ _ (job_bare s (stand_in p x) l (SwitchJob t)
          ∙ ap (λ (st : Stand). option_map bare_what (job_event s st (bare_but_timers l) (SwitchJob t))) (sym (stand_in_bare p x)))
          ∙ ap (λ (b : Bool). option_map bare_what (when b (job_event s (stand_in p (bare_own x)) (bare_but_timers l) (SwitchJob t)))) (may_switch_bare x)

      together : {x y : Own} {l m : Lanes} → x ≡ y → l ≡ m →
          option_map bare_what (when (may_switch x) (job_event s (stand_in p x) l (SwitchJob t)))
          ≡ option_map bare_what (when (may_switch y) (job_event s (stand_in p y) m (SwitchJob t)))
      together a b = cc

-- ---- looks

-- the values that find in the one what those found in the other
module _ (s : Script) (limit : ℕ) (p : CpuNo) (h k : List Event) (rh : IsRun s limit h) (rk : IsRun s limit k) (al : Alike s h k) where
  seen_there : (c : ℕ) (past : List Event) → c < 16 → value_at (own_of s p past).seen c ≡ seen s p c past
  seen_there c past l = get_or-table {A = ℕ} 16 c (λ c. seen s p c past) 0 l

  newer_seen : (c : ℕ) → newer s p c (seen s p c h) h ≡ newer s p c (seen s p c k) k
  newer_seen c =
      let a : max (seen s p c h) 0 ≡ seen s p c h = omega arith in
      let b : max (seen s p c k) 0 ≡ seen s p c k = omega arith in
      sym (ap (λ (v : ℕ). newer s p c v h) a) ∙ al.asks p c ∙ ap (λ (v : ℕ). newer s p c v k) b

  -- a value that was asked and not seen in h has one in k
  Found : ℕ → ℕ → Type 0
  Found c j = (v : ℕ) × (seen s p c k < v) × (was_asked s p c v k ≡ true) × (newer s p c v k ≡ j)

  there : (c v : ℕ) → seen s p c h < v → was_asked s p c v h ≡ true → Found c (newer s p c v h)
  unfolding Found
  there c v l w =
      let a = newer_strict s p c (seen s p c h) v h l w in
      let b = newer_seen c in
      newer_finds s p c (seen s p c k) (newer s p c v h) k (seen_length s limit p c k rk) (omega (arith, a, b))

  -- one value of a Look: none, or one that was asked
  abbrev Good : ℕ → ℕ → List Event → Type 0
  Good c v past = (v ≡ 0) ⊎ ((seen s p c past < v) × (was_asked s p c v past ≡ true))

  pub record Match (c v w : ℕ) : Type 0 where
    pub good : Good c v h
    pub found : Good c w k
    pub zero : (v == 0) ≡ (w == 0)
    pub place : newer s p c (max (seen s p c h) v) h ≡ newer s p c (max (seen s p c k) w) k

  -- a good value of a Look is zero or was asked by an earlier event
  pub none_or_asked : (c v : ℕ) (past : List Event) → Good c v past → (v ≡ 0) ⊎ (was_asked s p c v past ≡ true)
  none_or_asked c v past (inl z) = inl z
  none_or_asked c v past (inr y) = inr y.1

  none_match : (c : ℕ) → Match c 0 0
  none_match c = record { good = inl refl; found = inl refl; zero = refl; place = al.asks p c }

  asked_match : (c v : ℕ) → seen s p c h < v → was_asked s p c v h ≡ true → Found c (newer s p c v h) →
      (w : ℕ) × Match c v w × (nat_lt (seen s p c k) w ≡ true) × (was_asked s p c w k ≡ true)
  unfolding Found
  asked_match c v l a f =
      let x : max (seen s p c h) v ≡ v = omega (arith, l) in
      let low = f.1 in
      let y : max (seen s p c k) f.0 ≡ f.0 = omega (arith, low) in
      let pl : newer s p c (max (seen s p c h) v) h ≡ newer s p c (max (seen s p c k) f.0) k =
      ap (λ (u : ℕ). newer s p c u h) x ∙ sym f.3 ∙ sym (ap (λ (u : ℕ). newer s p c u k) y) in
      let z : (v == 0) ≡ (f.0 == 0) = above v (omega (arith, l)) ∙ sym (above f.0 (omega (arith, low))) in
      (f.0, record { good = inr (l, a); found = inr (f.1, f.2); zero = z; place = pl }, lt-ltb (seen s p c k) f.0 f.1, f.2)
    where
      above : (n : ℕ) → 0 < n → (n == 0) ≡ false
      above n h = go (n == 0) refl
        where
          go : (b : Bool) → (n == 0) ≡ b → b ≡ false
          go false e = refl
          go true e = let z = eqb-true n 0 e in absurd (omega (arith, h, z))

  one_match : (c v : ℕ) → c < 16 → ((v == 0) || (nat_lt (value_at (own_of s p h).seen c) v && was_asked s p c v h)) ≡ true →
      (w : ℕ) × Match c v w × (((w == 0) || (nat_lt (value_at (own_of s p k).seen c) w && was_asked s p c w k)) ≡ true)
  unfolding Found
  one_match c v l g = go (v == 0) refl (nat_lt (value_at (own_of s p h).seen c) v) refl (was_asked s p c v h) refl g
    where
      go : (b : Bool) → (v == 0) ≡ b → (a : Bool) → nat_lt (value_at (own_of s p h).seen c) v ≡ a → (o : Bool) → was_asked s p c v h ≡ o →
          (b || (a && o)) ≡ true →
          (w : ℕ) × Match c v w × (((w == 0) || (nat_lt (value_at (own_of s p k).seen c) w && was_asked s p c w k)) ≡ true)
      go true e a x o y g =
          let z : v ≡ 0 = eqb-true v 0 e in
          (0, subst (λ (u : ℕ). Match c u 0) (sym z) (none_match c), refl)
      go false e true x true y g =
          let q = seen_there c h l in
          let t : nat_lt (seen s p c h) v ≡ true = sym (ap (λ (u : ℕ). nat_lt u v) q) ∙ x in
          let m = asked_match c v (ltb-true (seen s p c h) v t) y (there c v (ltb-true (seen s p c h) v t) y) in
          let r = seen_there c k l in
          (m.0, m.1, rw (r, m.2, m.3) (or_yes (m.0 == 0) true refl))
      go false e true x false y g = cc
      go false e false x o y g = cc

  all_match : (c : ℕ) (vs : List ℕ) → c + length vs ≤ 16 → good_rises s p c vs (own_of s p h) h ≡ true →
      (ws : List ℕ) × (length ws ≡ length vs) × (good_rises s p c ws (own_of s p k) k ≡ true) ×
      (list_any (λ v. nat_lt 0 v) vs ≡ list_any (λ v. nat_lt 0 v) ws) ×
      ((i : ℕ) → Match (c + i) (get_or vs i 0) (get_or ws i 0))
  all_match c [] l g = ([], refl, refl, refl, λ i. none_match (c + i))
  all_match c (v ∷ vs) l g =
      let b = both_true _ _ g in
      let m = one_match c v (omega (arith, l)) b.0 in
      let r = all_match (suc c) vs (omega (arith, l)) b.1 in
      let q : list_any (λ v. nat_lt 0 v) (v ∷ vs) ≡ list_any (λ v. nat_lt 0 v) (m.0 ∷ r.0) =
      (let z : nat_lt 0 v ≡ nat_lt 0 m.0 = positive v ∙ ap not m.1.zero ∙ sym (positive m.0) in let y = r.3 in rw (z, y) refl) in
      (m.0 ∷ r.0, ap suc r.1, rw (m.2, r.2) refl, q, λ i. at m.0 r.0 i m.1 r.4)
    where
      positive : (n : ℕ) → nat_lt 0 n ≡ not (n == 0)
      positive zero = refl
      positive (suc n) = go (suc n == 0) refl
        where
          go : (b : Bool) → (suc n == 0) ≡ b → nat_lt 0 (suc n) ≡ not b
          go false e = lt-ltb 0 (suc n) (omega arith)
          go true e = let z = eqb-true (suc n) 0 e in absurd (omega (arith, z))

      both_true : (a b : Bool) → (a && b) ≡ true → (a ≡ true) × (b ≡ true)
      both_true true b h = (refl, h)
      both_true false b h = cc

      at : (w : ℕ) (ws : List ℕ) (i : ℕ) → Match c v w → ((i : ℕ) → Match (suc c + i) (get_or vs i 0) (get_or ws i 0)) →
          Match (c + i) (get_or (v ∷ vs) i 0) (get_or (w ∷ ws) i 0)
      at w ws zero m r = let z : c + 0 ≡ c = omega arith in subst (λ (n : ℕ). Match n v w) (sym z) m
      at w ws (suc i) m r = let z : suc c + i ≡ c + suc i = omega arith in subst (λ (n : ℕ). Match n (get_or vs i 0) (get_or ws i 0)) z (r i)

  -- a good Look of the one has its like in the other
  pub look_match : (vs : List ℕ) → length vs ≤ 16 → is_good_look s p vs (own_of s p h) h ≡ true →
      (ws : List ℕ) × (length ws ≡ length vs) × (is_good_look s p ws (own_of s p k) k ≡ true) × ((i : ℕ) → Match i (get_or vs i 0) (get_or ws i 0))
  look_match vs l g =
      let b = both_true (list_any (λ v. nat_lt 0 v) vs) (good_rises s p 0 vs (own_of s p h) h) g in
      let short : 0 + length vs ≤ 16 = omega (arith, l) in
      let r = all_match 0 vs short b.1 in
      let any : list_any (λ v. nat_lt 0 v) r.0 ≡ true = sym r.3 ∙ b.0 in
      (r.0, r.1, rw (any, r.2) refl, λ i. let z : 0 + i ≡ i = omega arith in subst (λ (n : ℕ). Match n (get_or vs i 0) (get_or r.0 i 0)) z (r.4 i))
    where
      both_true : (a b : Bool) → (a && b) ≡ true → (a ≡ true) × (b ≡ true)
      both_true true b h = (refl, h)
      both_true false b h = cc
