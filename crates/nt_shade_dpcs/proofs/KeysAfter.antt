-- What an event leaves of the keys of a shade is what it leaves of the timers.
use Rattle.std.proofs.Common.{ap, cond, eqb, subst, sym, ◌∙◌}
use Rattle.std.proofs.lemmas.Bool.{and_right, eqb-true, ltb-true}
use Rattle.std.specs.Prelude.{Bool, List, None, Option, Some, false, find, length, option_and_then, option_map, refl, suc, true, ℕ, ◌&&◌, ◌+◌, ◌==◌}
use Rattle.std.specs.Prelude.{◌≡◌}
use Rattle.nt_event.specs.declared.commands.Command.TheVariants.{CancelTimer, Delay, SetTimer}
use Rattle.nt_event.specs.declared.commands.Reply.TheVariants.{Blocked, No, Yes}
use Rattle.nt_event.specs.declared.commands.TimerKey.{TimerKey}
use Rattle.nt_event.specs.declared.commands.TimerKey.TheVariants.{Delay as OfDelay, Timer as OfTimer}
use Rattle.nt_event.specs.declared.events.Event.{Event}
use Rattle.nt_event.specs.declared.events.What.{What}
use Rattle.nt_event.specs.declared.events.What.TheVariants.{Call, Expire, Rewait}
use Rattle.nt_event.specs.declared.inserts.Setting.{Setting}
use Rattle.nt_event.specs.declared.jobs.Stand.{Stand}
use Rattle.nt_event.specs.declared.numbers.CpuNo.{CpuNo}
use Rattle.nt_event.specs.declared.numbers.ThreadNo.{ThreadNo}
use Rattle.nt_event.specs.declared.numbers.TimerNo.{TimerNo}
use Rattle.nt_event.specs.declared.scripts.Script.{Script}
use Rattle.nt_event.specs.Fitting.{key_fits}
use Rattle.nt_event.specs.Numbers.{is_of, thread, timer}
use Rattle.nt_event.specs.Routines.{cpu_of}
use Rattle.nt_event.specs.Timers.{SetKey, Timers, delay_after, delay_set, renewed, setting_in, timer_after, timers_after}
use Rattle.nt_event.specs.Waits.{is_of_thread}
use Rattle.nt_event.proofs.Booleans.{either_way}
use Rattle.nt_event.proofs.Tables.{get_or-table}
use Rattle.nt_timer.specs.Settings.{setting_at}
use Rattle.nt_shade_dpcs.specs.declared.timers.ShadeKey.{ShadeKey}
use Rattle.nt_shade_dpcs.specs.Keys.{again_due, delayed, keys_after, maker_in, maker_of, renewed_in, same_key, set_anew, unset}
use Rattle.nt_shade_dpcs.specs.Timers.{AreSetKeys, shade_key}
use Rattle.nt_shade_dpcs.proofs.KeyLists.{shade_found}
use Rattle.nt_shade_dpcs.proofs.KeysKept.{key_in, key_out, keys_stay}

abbrev event_of : CpuNo → Option ThreadNo → ℕ → What → Event
event_of p r k w = record { cpu = p; thread = r; level = k; what = w }

-- ---- the thread that makes an event

-- whether the thread that makes an event is a given one
set_by : Option ThreadNo → ThreadNo → Bool
set_by None u = false
set_by (Some t) u = t.0 == u.0

-- whether an event is a thread's is whether the event's maker is that thread
made : (s : Script) (e : Event) (r : Option ThreadNo) (u : ThreadNo) → e.thread ≡ r → is_of_thread s u e ≡ set_by (maker_in s e r) u
unfolding set_by
made s e None u h = rw h (and_right (is_of e (cpu_of s u)) false refl)
made s e (Some t) u h = rw h (go (is_of e (cpu_of s t)) (eqb t.0 u.0) refl refl)
  where
    there : (b : Bool) → is_of e (cpu_of s t) ≡ b → eqb t.0 u.0 ≡ true → is_of e (cpu_of s u) ≡ b
    there b a q = ap (λ (i : ℕ). is_of e (cpu_of s (thread i))) (sym (eqb-true t.0 u.0 q)) ∙ a

    go : (b c : Bool) → is_of e (cpu_of s t) ≡ b → eqb t.0 u.0 ≡ c → (is_of e (cpu_of s u) && eqb t.0 u.0) ≡ set_by (cond b (Some t) None) u
    go true true a q = rw (there true a q) refl
    go true false a q = rw q (and_right (is_of e (cpu_of s u)) false refl)
    go false true a q = rw (there false a q) refl
    go false false a q = and_right (is_of e (cpu_of s u)) (eqb t.0 u.0) q

module _ (s : Script) (st : Stand) (p : CpuNo) (r : Option ThreadNo) (k n : ℕ) (x : Timers) (keys : List ShadeKey) (are : AreSetKeys s n x keys) where
  -- ---- what is left of each key of the script

  timer_left : (w : What) (t : TimerNo) → key_fits s (OfTimer t) ≡ true →
      setting_at (OfTimer t) (timers_after s n st (event_of p r k w) x) ≡ timer_after t n x.now w (setting_at (OfTimer t) x)
  timer_left w t f =
      get_or-table (length s.timers) t.0 (λ t. timer_after (timer t) n x.now w (setting_in x.timers t)) None (ltb-true t.0 (length s.timers) f)

  delay_left : (w : What) (t : ThreadNo) → key_fits s (OfDelay t) ≡ true →
      setting_at (OfDelay t) (timers_after s n st (event_of p r k w) x) ≡ delay_after s t n x.now st.again (event_of p r k w) (setting_at (OfDelay t) x)
  delay_left w t f =
      get_or-table (length s.threads) t.0 (λ t. delay_after s (thread t) n x.now st.again (event_of p r k w) (setting_in x.delays t)) None
      (ltb-true t.0 (length s.threads) f)

  -- no delay is set
  no_delay : (w : What) (t : ThreadNo) (old : Option Setting) → cond (is_of_thread s t (event_of p r k w)) old old ≡ old
  no_delay w t old = either_way (is_of_thread s t (event_of p r k w)) old

  -- ---- an event that changes no key

  nothing : (w : What) → ((t : TimerNo) (old : Option Setting) → timer_after t n x.now w old ≡ old) →
      ((t : ThreadNo) (old : Option Setting) → delay_after s t n x.now st.again (event_of p r k w) old ≡ old) →
      AreSetKeys s (suc n) (timers_after s n st (event_of p r k w) x) keys
  nothing w one each = keys_stay s n x (timers_after s n st (event_of p r k w) x) keys are go
    where
      go : (j : TimerKey) → key_fits s j ≡ true → setting_at j (timers_after s n st (event_of p r k w) x) ≡ setting_at j x
      go (OfTimer t) f = timer_left w t f ∙ one t (setting_at (OfTimer t) x)
      go (OfDelay t) f = delay_left w t f ∙ each t (setting_at (OfDelay t) x)

  -- ---- a timer is set, or is not set any more

  timer_in : (w : What) (t : TimerNo) (due period : ℕ) →
      ((u : TimerNo) → key_fits s (OfTimer u) ≡ true → timer_after u n x.now w (setting_at (OfTimer u) x)
      ≡ cond (t.0 == u.0) (Some (record { due = due; number = n; period = period })) (setting_at (OfTimer u) x)) →
      ((u : ThreadNo) (old : Option Setting) → delay_after s u n x.now st.again (event_of p r k w) old ≡ old) →
      AreSetKeys s (suc n) (timers_after s n st (event_of p r k w) x) (set_anew (record { key = OfTimer t; due = due; period = period }) keys)
  timer_in w t due period one each =
      key_in s n x (timers_after s n st (event_of p r k w) x) keys are
      (record { key = OfTimer t; setting = record { due = due; number = n; period = period } }) refl go
    where
      go : (j : TimerKey) → key_fits s j ≡ true → setting_at j (timers_after s n st (event_of p r k w) x)
          ≡ cond (same_key (OfTimer t) j) (Some (record { due = due; number = n; period = period })) (setting_at j x)
      go (OfTimer u) f = timer_left w u f ∙ one u f
      go (OfDelay u) f = delay_left w u f ∙ each u (setting_at (OfDelay u) x)

  timer_out : (w : What) (t : TimerNo) →
      ((u : TimerNo) → key_fits s (OfTimer u) ≡ true →
      timer_after u n x.now w (setting_at (OfTimer u) x) ≡ cond (t.0 == u.0) None (setting_at (OfTimer u) x)) →
      ((u : ThreadNo) (old : Option Setting) → delay_after s u n x.now st.again (event_of p r k w) old ≡ old) →
      AreSetKeys s (suc n) (timers_after s n st (event_of p r k w) x) (unset (OfTimer t) keys)
  timer_out w t one each = key_out s n x (timers_after s n st (event_of p r k w) x) keys are (OfTimer t) go
    where
      go : (j : TimerKey) → key_fits s j ≡ true → setting_at j (timers_after s n st (event_of p r k w) x) ≡ cond (same_key (OfTimer t) j) None (setting_at j x)
      go (OfTimer u) f = timer_left w u f ∙ one u f
      go (OfDelay u) f = delay_left w u f ∙ each u (setting_at (OfDelay u) x)

  -- ---- a timer expires

  module _ (t : TimerNo) (from : ℕ) where
    -- what is set of the timer, if it is one of the script
    WasSet : Option Setting → Type 0
    WasSet o = (u : TimerNo) → key_fits s (OfTimer u) ≡ true → eqb t.0 u.0 ≡ true → setting_at (OfTimer u) x ≡ o

    left_as : (o v : Option Setting) → WasSet o → renewed n x.now o ≡ v → (u : TimerNo) → key_fits s (OfTimer u) ≡ true → (b : Bool) → eqb t.0 u.0 ≡ b →
        timer_after u n x.now (Expire (OfTimer t) from) (setting_at (OfTimer u) x) ≡ cond (eqb t.0 u.0) v (setting_at (OfTimer u) x)
    unfolding WasSet
    left_as o v was e u f true q = rw q (ap (renewed n x.now) (was u f q) ∙ e)
    left_as o v was e u f false q = rw q refl

    no_delays : (u : ThreadNo) (old : Option Setting) → delay_after s u n x.now st.again (event_of p r k (Expire (OfTimer t) from)) old ≡ old
    no_delays u old = no_delay (Expire (OfTimer t) from) u old

    renewed_one : (z : SetKey) (b : Bool) → (z.setting.period == 0) ≡ b → WasSet (Some z.setting) →
        AreSetKeys s (suc n) (timers_after s n st (event_of p r k (Expire (OfTimer t) from)) x) (renewed_in (OfTimer t) x.now (Some (shade_key z)) keys)
    renewed_one z true e was =
        rw e (timer_out (Expire (OfTimer t) from) t (λ u f. left_as (Some z.setting) None was (rw e refl) u f (eqb t.0 u.0) refl) no_delays)
    renewed_one z false e was =
        let v : Setting = record { due = x.now + z.setting.period; number = n; period = z.setting.period } in
        rw e (timer_in (Expire (OfTimer t) from) t (x.now + z.setting.period) z.setting.period
        (λ u f. left_as (Some z.setting) (Some v) was (rw e refl) u f (eqb t.0 u.0) refl) no_delays)

    renewed_any : (o : Option SetKey) → WasSet (option_map (λ (z : SetKey). z.setting) o) →
        AreSetKeys s (suc n) (timers_after s n st (event_of p r k (Expire (OfTimer t) from)) x) (renewed_in (OfTimer t) x.now (option_map shade_key o) keys)
    renewed_any None was =
        timer_out (Expire (OfTimer t) from) t (λ u f. left_as None None was refl u f (eqb t.0 u.0) refl) no_delays
    renewed_any (Some z) was = renewed_one z (z.setting.period == 0) refl was

    was_set : WasSet (option_map (λ (z : SetKey). z.setting) (find (λ (z : SetKey). same_key (OfTimer t) z.key) are.numbered))
    unfolding WasSet
    was_set u f q =
        let e : t.0 ≡ u.0 = eqb-true t.0 u.0 q in
        ap (λ (i : ℕ). setting_at (OfTimer (timer i)) x) (sym e)
        ∙ sym (are.set (OfTimer t) (ap (λ (i : ℕ). key_fits s (OfTimer (timer i))) e ∙ f))

    timer_expires : AreSetKeys s (suc n) (timers_after s n st (event_of p r k (Expire (OfTimer t) from)) x)
        (renewed_in (OfTimer t) x.now (find (λ (z : ShadeKey). same_key (OfTimer t) z.key) keys) keys)
    timer_expires =
        subst (λ (o : Option ShadeKey).
        AreSetKeys s (suc n) (timers_after s n st (event_of p r k (Expire (OfTimer t) from)) x) (renewed_in (OfTimer t) x.now o keys))
        (sym (ap (find (λ (z : ShadeKey). same_key (OfTimer t) z.key)) are.same ∙ shade_found (OfTimer t) are.numbered))
        (renewed_any (find (λ (z : SetKey). same_key (OfTimer t) z.key) are.numbered) was_set)

  -- ---- a delay is set, or expires

  is_by : (w : What) (maker : Option ThreadNo) → maker_in s (event_of p r k w) r ≡ maker → (t : ThreadNo) →
      is_of_thread s t (event_of p r k w) ≡ set_by maker t
  is_by w maker m t = made s (event_of p r k w) r t refl ∙ ap (λ (z : Option ThreadNo). set_by z t) m

  delay_keys : (w : What) (maker : Option ThreadNo) (due : Option ℕ) → maker_in s (event_of p r k w) r ≡ maker →
      ((t : TimerNo) (old : Option Setting) → timer_after t n x.now w old ≡ old) →
      ((t : ThreadNo) (old : Option Setting) → delay_after s t n x.now st.again (event_of p r k w) old
      ≡ cond (is_of_thread s t (event_of p r k w)) (delay_set n due old) old) →
      AreSetKeys s (suc n) (timers_after s n st (event_of p r k w) x) (delayed maker due keys)
  unfolding set_by
  delay_keys w None due m one each =
      nothing w one (λ t old. each t old ∙ ap (λ (b : Bool). cond b (delay_set n due old) old) (is_by w None m t))
  delay_keys w (Some u) None m one each = nothing w one (λ t old. each t old ∙ no_delay w t old)
  delay_keys w (Some u) (Some d) m one each =
      key_in s n x (timers_after s n st (event_of p r k w) x) keys are
      (record { key = OfDelay u; setting = record { due = d; number = n; period = 0 } }) refl go
    where
      go : (j : TimerKey) → key_fits s j ≡ true → setting_at j (timers_after s n st (event_of p r k w) x)
          ≡ cond (same_key (OfDelay u) j) (Some (record { due = d; number = n; period = 0 })) (setting_at j x)
      go (OfTimer t) f = timer_left w t f ∙ one t (setting_at (OfTimer t) x)
      go (OfDelay t) f =
          delay_left w t f ∙ each t (setting_at (OfDelay t) x)
          ∙ ap (λ (b : Bool). cond b (Some (record { due = d; number = n; period = 0 })) (setting_at (OfDelay t) x)) (is_by w (Some u) m t)

  delay_expires : (t : ThreadNo) (from : ℕ) →
      AreSetKeys s (suc n) (timers_after s n st (event_of p r k (Expire (OfDelay t) from)) x) (unset (OfDelay t) keys)
  delay_expires t from =
      key_out s n x (timers_after s n st (event_of p r k (Expire (OfDelay t) from)) x) keys are (OfDelay t) go
    where
      go : (j : TimerKey) → key_fits s j ≡ true → setting_at j (timers_after s n st (event_of p r k (Expire (OfDelay t) from)) x)
          ≡ cond (same_key (OfDelay t) j) None (setting_at j x)
      go (OfTimer u) f = timer_left (Expire (OfDelay t) from) u f
      go (OfDelay u) f =
          delay_left (Expire (OfDelay t) from) u f
          ∙ ap (λ (z : Option Setting). cond (t.0 == u.0) None z) (no_delay (Expire (OfDelay t) from) u (setting_at (OfDelay u) x))

  -- ---- every event

  by_what : (w : What) → AreSetKeys s (suc n) (timers_after s n st (event_of p r k w) x)
      (keys_after x.now (maker_in s (event_of p r k w) r) (again_due st w) w keys)
  by_what (Call f (SetTimer t due period) Yes) =
      timer_in (Call f (SetTimer t due period) Yes) t (x.now + due) period (λ u f. refl) (λ u old. no_delay (Call f (SetTimer t due period) Yes) u old)
  by_what (Call f (SetTimer t due period) No) =
      timer_in (Call f (SetTimer t due period) No) t (x.now + due) period (λ u f. refl) (λ u old. no_delay (Call f (SetTimer t due period) No) u old)
  by_what (Call f (CancelTimer t) Yes) =
      timer_out (Call f (CancelTimer t) Yes) t (λ u f. refl) (λ u old. no_delay (Call f (CancelTimer t) Yes) u old)
  by_what (Call f (Delay m a units) Blocked) =
      delay_keys (Call f (Delay m a units) Blocked) (maker_in s (event_of p r k (Call f (Delay m a units) Blocked)) r) (Some (x.now + units)) refl
      (λ t old. refl) (λ t old. refl)
  by_what (Rewait f Blocked) =
      delay_keys (Rewait f Blocked) (maker_in s (event_of p r k (Rewait f Blocked)) r) (option_and_then (λ w. w.due) st.again) refl (λ t old. refl)
      (λ t old. refl)
  by_what (Expire (OfTimer t) from) = timer_expires t from
  by_what (Expire (OfDelay t) from) = delay_expires t from
  by_what (Call f c y) = nothing (Call f c y) (λ t old. refl) (λ t old. no_delay (Call f c y) t old)
  by_what w = nothing w (λ t old. refl) (λ t old. no_delay w t old)

-- the keys that an event leaves in a shade are the set keys of the timers that the event leaves
pub keys_follow : (s : Script) (st : Stand) (e : Event) (n : ℕ) (x : Timers) (keys : List ShadeKey) → AreSetKeys s n x keys →
    AreSetKeys s (suc n) (timers_after s n st e x) (keys_after x.now (maker_of s e) (again_due st e.what) e.what keys)
keys_follow s st e n x keys are = by_what s st e.cpu e.thread e.level n x keys are e.what
