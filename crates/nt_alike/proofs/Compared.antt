-- Histories that are alike in what their script declares are alike: elsewhere nothing has happened.
use Rattle.std.proofs.Common.{ap, arith, subst, sym, ◌∙◌}
use Rattle.std.proofs.lemmas.Bool.{eqb-true, ltb-false}
use Rattle.std.proofs.lemmas.List.{get_or_past}
use Rattle.std.specs.Prelude.{Bool, List, None, Option, Some, [], false, get_or, length, max, nat_lt, refl, true, ℕ, ◌&&◌, ◌∷◌, ◌≡◌}
use Rattle.nt_event.specs.declared.commands.TimerKey.{TimerKey}
use Rattle.nt_event.specs.declared.commands.TimerKey.TheVariants as keys
use Rattle.nt_event.specs.declared.events.Event.{Event}
use Rattle.nt_event.specs.declared.inserts.Setting.{Setting}
use Rattle.nt_event.specs.declared.jobs.Lane.{Lane}
use Rattle.nt_event.specs.declared.numbers.CpuNo.{CpuNo}
use Rattle.nt_event.specs.declared.scripts.Script.{Script}
use Rattle.nt_event.specs.Classes.{is_used_class}
use Rattle.nt_event.specs.Fitting.{key_fits}
use Rattle.nt_event.specs.Lists.{table}
use Rattle.nt_event.specs.Numbers.{is_of, thread, timer}
use Rattle.nt_event.specs.Own.{own_of}
use Rattle.nt_event.specs.Requests.{asks, raised, seen, told_by}
use Rattle.nt_event.specs.Lanes.{touches}
use Rattle.nt_event.specs.Script.{fits, has_cpu}
use Rattle.nt_event.specs.Timers.{delay_setting, timer_setting, timers_at}
use Rattle.nt_event.proofs.Moves.{own_moves}
use Rattle.nt_event.proofs.Options.{both}
use Rattle.nt_event.proofs.Tables.{length-table_from}
use Rattle.nt_timer.specs.Settings.{setting_at}
use Rattle.nt_alike.specs.Alike.{Alike, newer, unnoticed}
use Rattle.nt_alike.specs.Bare.{bare_own}
use Rattle.nt_alike.specs.Declared.{AlikeDeclared, AllStayWithin, StaysWithin, has_lane}
use Rattle.nt_alike.specs.Free.{IsFreeRun}
use Rattle.nt_alike.proofs.Asked.{newer_quiet}
use Rattle.nt_alike.proofs.Declared.{nothing_beyond}
use Rattle.nt_alike.proofs.Free.{run_free}

-- true is not false
clash : true ≡ false → ⊥
clash q = cc

-- a place at which something is set is one of the table
in_table : (n i : ℕ) (f : ℕ → Option Setting) (x : Setting) → get_or {A = Option Setting} (table n f) i None ≡ Some x → nat_lt i n ≡ true
in_table n i f x h = go (nat_lt i n) refl
  where
    none : ◌≡◌ {A = Option Setting} None (Some x) → ⊥
    none q = cc

    go : (b : Bool) → nat_lt i n ≡ b → b ≡ true
    go true l = refl
    go false l =
        let k = length-table_from {A = Option Setting} 0 n f in
        let g = ltb-false i n l in
        absurd (none (sym (get_or_past (table n f) i None (omega (arith, k, g))) ∙ h))

-- a key that is set is one of the script's
key_there : (s : Script) (a : TimerKey) (x : Setting) (past : List Event) → setting_at a (timers_at s past) ≡ Some x → key_fits s a ≡ true
key_there s (keys.Timer t) x past h = in_table (length s.timers) t.0 (λ t. timer_setting (timer t) past) x h
key_there s (keys.Delay t) x past h = in_table (length s.threads) t.0 (λ t. delay_setting s (thread t) past) x h

module _ (s : Script) where
  -- an event isn't by a processor that the script does not have
  not_by : (p : CpuNo) (e : Event) (past : List Event) → has_cpu s p ≡ false → StaysWithin s e past → is_of e p ≡ false
  not_by p e past out within = go (is_of e p) refl
    where
      go : (b : Bool) → is_of e p ≡ b → b ≡ false
      go true k = absurd (clash (sym (subst (λ (n : ℕ). nat_lt n s.cpus ≡ true) (eqb-true e.cpu.0 p.0 k) within.cpu) ∙ out))
      go false k = refl

  -- so such a processor keeps what it kept at first
  own_first : (p : CpuNo) (h : List Event) → has_cpu s p ≡ false → AllStayWithin s h → own_of s p h ≡ own_of s p []
  own_first p [] out within = refl
  own_first p (e ∷ h) out within =
      let b = not_by p e h out within.0 in own_moves s p e h ∙ rw b (own_first p h out within.1)

  abbrev IsBeyond : CpuNo → ℕ → Type 0
  IsBeyond p c = (has_cpu s p && is_used_class c) ≡ false

  not_asked : (p : CpuNo) (c : ℕ) (e : Event) (past : List Event) → IsBeyond p c → StaysWithin s e past → asks s p c e past ≡ false
  not_asked p c e past out within = go (asks s p c e past) refl
    where
      go : (b : Bool) → asks s p c e past ≡ b → b ≡ false
      go true k = let w = within.asks p c k in absurd (clash (sym (yes w.0 w.1) ∙ out))
        where
          yes : {a b : Bool} → a ≡ true → b ≡ true → (a && b) ≡ true
          yes p q = cc
      go false k = refl

  none_newer : (p : CpuNo) (c v : ℕ) (h : List Event) → IsBeyond p c → AllStayWithin s h → newer s p c v h ≡ 0
  none_newer p c v [] out within = refl
  none_newer p c v (e ∷ h) out within = newer_quiet s p c v e h (not_asked p c e h out within.0) ∙ none_newer p c v h out within.1

  -- a lane that the script does not have tells nothing
  none_told : (x : Lane) (p : CpuNo) (c : ℕ) (h : List Event) → has_lane s x ≡ false → AllStayWithin s h → told_by s x p c h ≡ 0
  none_told x p c [] out within = refl
  none_told x p c (e ∷ h) out within = go (touches s x e h) refl (none_told x p c h out within.1)
    where
      go : (b : Bool) → touches s x e h ≡ b → told_by s x p c h ≡ 0 → raised (b && asks s p c e h) (length h) (told_by s x p c h) ≡ 0
      go true k z = absurd (clash (sym (within.0.lanes x k) ∙ out))
      go false k z = z

module _ (s : Script) (h k : List Event) (wh : AllStayWithin s h) (wk : AllStayWithin s k) (d : AlikeDeclared s h k) where
  own_same : (p : CpuNo) (b : Bool) → has_cpu s p ≡ b → bare_own (own_of s p h) ≡ bare_own (own_of s p k)
  own_same p true e = d.own p e
  own_same p false e = ap bare_own (own_first s p h e wh ∙ sym (own_first s p k e wk))

  beyond_same : (p : CpuNo) (c u v : ℕ) → IsBeyond s p c → unnoticed s p c u h ≡ unnoticed s p c v k
  beyond_same p c u v out = none_newer s p c (max (seen s p c h) u) h out wh ∙ sym (none_newer s p c (max (seen s p c k) v) k out wk)

  asks_same : (p : CpuNo) (c : ℕ) (b : Bool) → (has_cpu s p && is_used_class c) ≡ b → unnoticed s p c 0 h ≡ unnoticed s p c 0 k
  asks_same p c true e = let w = both (has_cpu s p) (is_used_class c) e in d.asks p c w.0 w.1
  asks_same p c false e = beyond_same p c 0 0 e

  told_same : (x : Lane) (p : CpuNo) (c : ℕ) (a b : Bool) → has_lane s x ≡ a → (has_cpu s p && is_used_class c) ≡ b →
      unnoticed s p c (told_by s x p c h) h ≡ unnoticed s p c (told_by s x p c k) k
  told_same x p c a false e f = beyond_same p c (told_by s x p c h) (told_by s x p c k) f
  told_same x p c true true e f = let w = both (has_cpu s p) (is_used_class c) f in d.told x p c e w.0 w.1
  told_same x p c false true e f =
      ap (λ (v : ℕ). unnoticed s p c v h) (none_told s x p c h e wh) ∙ asks_same p c true f
      ∙ sym (ap (λ (v : ℕ). unnoticed s p c v k) (none_told s x p c k e wk))

  all_alike : Alike s h k
  all_alike =
      record {
        lanes = d.lanes;
        order = λ a b i j m n ai bj am bn dues. d.order a b i j m n (key_there s a i h ai) (key_there s b j h bj) ai bj am bn dues;
        own = λ p. own_same p (has_cpu s p) refl;
        asks = λ p c. asks_same p c (has_cpu s p && is_used_class c) refl;
        told = λ x p c. told_same x p c (has_lane s x) (has_cpu s p && is_used_class c) refl refl;
      }

-- free runs alike in the declared processors, lanes, keys and classes are alike, if the script fits
pub declared_alike : (s : Script) (h k : List Event) → fits s ≡ true → IsFreeRun s h → IsFreeRun s k → AlikeDeclared s h k → Alike s h k
declared_alike s h k fit rh rk d = all_alike s h k (within h rh) (within k rk) d
  where
    within : (past : List Event) → IsFreeRun s past → AllStayWithin s past
    within past r = nothing_beyond s (length past) past fit (run_free s (length past) past (omega arith) r)
