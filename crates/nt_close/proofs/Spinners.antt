-- A processor that spins on a free lock wants class 12; and at the close a lock that is spun on is held by another processor, which is cut or
-- spins still.
use Rattle.std.proofs.Common.{ap, arith, inl, inr, subst, sym, ◌∙◌}
use Rattle.std.proofs.lemmas.Bool.{both_ways, eq-eqb, eqb-true, lt-ltb, ltb-false, ltb-true}
use Rattle.std.specs.Prelude.{Bool, List, None, Option, Some, [], false, get_or, if◌then◌else◌, is_none, nat_lt, refl, suc, true, zero, ℕ, ◌++◌, ◌+◌, ◌<◌, ◌==◌}
use Rattle.std.specs.Prelude.{◌||◌, ◌∷◌, ◌≡◌, ◌≤◌, ◌⊎◌}
use Rattle.nt_event.specs.declared.commands.Command.{Command}
use Rattle.nt_event.specs.declared.commands.Command.TheVariants.{Acquire, Unlock}
use Rattle.nt_event.specs.declared.commands.Reply.{Reply}
use Rattle.nt_event.specs.declared.commands.Reply.TheVariants.{Done, Spin}
use Rattle.nt_event.specs.declared.events.Begun.TheVariants.{Int}
use Rattle.nt_event.specs.declared.events.Event.{Event}
use Rattle.nt_event.specs.declared.events.What.{What}
use Rattle.nt_event.specs.declared.events.What.TheVariants.{Begin, Call, Clean, Free}
use Rattle.nt_event.specs.Frame.{Frame}
use Rattle.nt_event.specs.declared.frames.Held.{Held}
use Rattle.nt_event.specs.declared.numbers.CpuNo.{CpuNo}
use Rattle.nt_event.specs.declared.numbers.LockNo.{LockNo}
use Rattle.nt_event.specs.declared.numbers.ThreadNo.{ThreadNo}
use Rattle.nt_event.specs.declared.scripts.Script.{Script}
use Rattle.nt_runs.proofs.LocksAgree.{Agree, alone, moved_by, spin_now, spins_with}
use Rattle.nt_event.specs.Locks.{Frees, Gets, LockMove, LockState, NoMove, Spins, lock_move, lock_moved, lock_of, spinners_with, spins_at}
use Rattle.nt_close.proofs.Rests.{IsClear}
use Rattle.nt_close.specs.Close.{IsClosed, IsHeldElsewhere, IsWanted}
use Rattle.nt_event.specs.Step.{IsLegal, IsRun, is_cut}
use Rattle.nt_close.proofs.Spinning.{IsSpinning, spinning}
use Rattle.nt_close.proofs.AtRest.{IsStuck, closed_either, closed_rests, closed_stuck}
use Rattle.nt_runs.proofs.Known.{Known, KnownCall, KnownClean, KnownInterrupt}
use Rattle.nt_event.specs.Lanes.{lanes_at, lock_at}
use Rattle.nt_runs.proofs.Engaged.{Parted}
use Rattle.nt_event.specs.Replies.{is_spin}
use Rattle.nt_runs.specs.SomeFrame.{among, some_frame, holds_lock, on_frame, spins_lock}
use Rattle.nt_event.specs.Requests.{ask_if, asks, is_ask, release_asks, seen, served, serves, spinner_asks, what_asks}
use Rattle.nt_close.proofs.Wanted.{asks_wanted, known_here, stays_wanted}
use Rattle.nt_event.specs.Frames.{base_of, frames_in, frames_of, thread_part}
use Rattle.nt_event.proofs.Options.{both, not_true}
use Rattle.nt_runs.proofs.Spins.{spin_acquires}
use Rattle.nt_runs.proofs.Stops.{call_accepted}
use Rattle.nt_event.specs.Numbers.{cpu, is_of}
use Rattle.nt_event.proofs.Tables.{get_or-table}
use Rattle.nt_runs.proofs.LocksRun.{holder_below, lock_there, locks_agree, spin_held}
use Rattle.nt_event.specs.Classes.{interrupt_classes}
use Rattle.nt_event.specs.Jobs.{is_due, rests, spins_still}
use Rattle.nt_runs.proofs.Turns.{is_next}
use Rattle.nt_event.specs.Queues.{is_queue}
use Rattle.std.specs.List.{list_any}
use Rattle.std.specs.Option.{option_map_or}
use Rattle.nt_runs.proofs.Robin.{or_yes}
use Rattle.nt_event.specs.Own.{own_of, stand_in}
use Rattle.nt_runs.proofs.Parts.{parted}
use Rattle.nt_event.specs.Regions.{stand_at}
use Rattle.nt_event.specs.Lists.{value_at}

-- ---- a release asks each processor that spins

-- a processor that the list marks as spinning on a freed lock is asked for class 12
asked_spinner : (p : CpuNo) (n i : ℕ) (xs : List Bool) → p.0 ≡ n + i → get_or xs i false ≡ true → list_any (is_ask p 12) (spinner_asks n xs) ≡ true
asked_spinner p n i [] e h = cc
asked_spinner p n zero (b ∷ xs) e h =
    let m : n ≡ p.0 = omega (arith, e) in
    let same : (n == p.0) ≡ true = eq-eqb n p.0 m in
    let b2 : b ≡ true = h in
    rw (b2, same) refl
asked_spinner p n (suc i) (b ∷ xs) e h =
    let ih = asked_spinner p (suc n) i xs (omega (arith, e)) h in go b ih
  where
    go : (b : Bool) → list_any (is_ask p 12) (spinner_asks (suc n) xs) ≡ true → list_any (is_ask p 12) (ask_if b (cpu n) 12 ++ spinner_asks (suc n) xs) ≡ true
    go true q = or_yes _ (list_any (is_ask p 12) (spinner_asks (suc n) xs)) q
    go false q = q

-- ---- only an acquire serves class 12

-- an event of p that serves class 12 is a call that spins
serves_spin : (s : Script) (limit : ℕ) (p : CpuNo) (e : Event) (past : List Event) → IsLegal s limit e past → is_of e p ≡ true → serves 12 e.what ≡ true →
    (f : ℕ) × (x : LockNo) × (e.what ≡ Call f (Acquire x) Spin)
serves_spin s limit p e past g o h = go e.what refl h
  where
    know : (w : What) → e.what ≡ w → is_next w ≡ true → Known s p (own_of s p past) (lanes_at s past) w
    know w i n = subst (λ (w : What). Known s p (own_of s p past) (lanes_at s past) w) i (known_here s limit p e past o g (ap is_next i ∙ n))

    spun : (f : ℕ) (c : Command) (y : Reply) → e.what ≡ Call f c y → is_spin y ≡ true → (f : ℕ) × (x : LockNo) × (e.what ≡ Call f (Acquire x) Spin)
    spun f c Spin i q =
        let k : KnownCall s p (own_of s p past) (lanes_at s past) f c Spin = know (Call f c Spin) i refl in
        let a = call_accepted s p (own_of s p past) (lanes_at s past) f c Spin k refl in
        let x = spin_acquires s (stand_in p (own_of s p past)) (lanes_at s past) c a.1 in
        (f, x.0, i ∙ ap (λ (c : Command). Call f c Spin) x.1)
    spun f c y i q = cc

    go : (w : What) → e.what ≡ w → serves 12 w ≡ true → (f : ℕ) × (x : LockNo) × (e.what ≡ Call f (Acquire x) Spin)
    go (Call f c y) i h = spun f c y i h
    go (Begin (Int level) from) i h =
        let k : KnownInterrupt (own_of s p past) level from = know (Begin (Int level) from) i refl in
        let n : level ≡ 12 = eqb-true level 12 h in
        let no : list_any (λ k. k == 12) interrupt_classes ≡ true = subst (λ (n : ℕ). list_any (λ k. k == n) interrupt_classes ≡ true) n k.class in
        cc
    go (Clean c) i h =
        let n : c ≡ 12 = eqb-true c 12 h in cleans (know (Clean c) i refl) n
      where
        cleans : KnownClean p (own_of s p past) (lanes_at s past) c → c ≡ 12 → (f : ℕ) × (x : LockNo) × (e.what ≡ Call f (Acquire x) Spin)
        cleans (inl k) n = let m = k.0 in absurd (omega (arith, m, n))
        cleans (inr (inl k)) n = let m = k.0 in absurd (omega (arith, m, n))
        cleans (inr (inr k)) n = let m = k.0 in absurd (omega (arith, m, n))
    go w i h = cc

-- ---- a processor that spins on a free lock wants class 12

module _ (s : Script) (limit : ℕ) (p : CpuNo) (k : LockNo) (e : Event) (past : List Event) (g : IsLegal s limit e past) (r : IsRun s limit past)
    (below : p.0 < s.cpus) (within : k.0 < s.locks) (ih : spins_at (lock_of s k past) p ≡ true → (lock_of s k past).holder ≡ None → IsWanted s p 12 past)
    (spun : spins_at (lock_of s k (e ∷ past)) p ≡ true) (free : (lock_of s k (e ∷ past)).holder ≡ None) where
  abbrev old : LockState
  old = lock_of s k past

  -- the event serves the class: it spins on this lock, which is held, or on another
  served_it : is_of e p ≡ true → serves 12 e.what ≡ true → IsWanted s p 12 (e ∷ past)
  served_it o h = go (w.1.0 == k.0) refl
    where
      w : (f : ℕ) × (x : LockNo) × (e.what ≡ Call f (Acquire x) Spin)
      w = serves_spin s limit p e past g o h

      agrees : Agree s p k (e ∷ past)
      agrees = locks_agree s limit k (e ∷ past) (g, r) within p below

      go : (b : Bool) → (w.1.0 == k.0) ≡ b → IsWanted s p 12 (e ∷ past)
      go false b =
          let no : spins_at (lock_of s k (e ∷ past)) p ≡ false = agrees.1 ∙ (spin_now s limit p e past o g r below k
          (locks_agree s limit k past r within p below)
          w.0 w.1 w.2 ∙ b) in absurd (both_ways (spins_at (lock_of s k (e ∷ past)) p) no spun)
      go true b =
          let q : KnownCall s p (own_of s p past) (lanes_at s past) w.0 (Acquire w.1) Spin = subst (λ (v : What). Known s p (own_of s p past)
          (lanes_at s past) v)
          w.2 (known_here s limit p e past o g (ap is_next w.2)) in
          let a = (call_accepted s p (own_of s p past) (lanes_at s past) w.0 (Acquire w.1) Spin q refl).1 in
          let held : is_none (lock_at (lanes_at s past) w.1).holder ≡ false = spin_held (is_none (lock_at (lanes_at s past) w.1).holder) a in
          let same : w.1 ≡ k = ap (λ (n : ℕ). record { 0 = n }) (eqb-true w.1.0 k.0 b) in
          let here : is_none old.holder ≡ false = ap (λ (l : LockState). is_none l.holder) (sym (lock_there s k past within))
          ∙ subst (λ (z : LockNo). is_none (lock_at (lanes_at s past) z).holder ≡ false) same held in
          let m : (lock_of s k (e ∷ past)).holder ≡ old.holder = ap (λ (l : LockState). l.holder) (moved_by s k e past (Call w.0 (Acquire w.1) Spin) w.2)
          ∙ ap (λ (c : Bool). (if c then record old { spinners = spinners_with s e.cpu true old.spinners } else old).holder) b in
          absurd (both_ways (is_none old.holder) here (ap (λ (h : Option CpuNo). is_none h) (sym m ∙ free)))

  stays : (is_of e p ≡ true → serves 12 e.what ≡ false) → spins_at old p ≡ true → old.holder ≡ None → IsWanted s p 12 (e ∷ past)
  stays q a b = stays_wanted s p 12 e past q (ih a b)

  released : (x : LockNo) → lock_move e.what ≡ Frees x → (x.0 == k.0) ≡ true → spins_at old p ≡ true → asks s p 12 e past ≡ true
  released x m b h = go e.what refl m
    where
      listed : (y : LockNo) → Frees y ≡ Frees x → list_any (is_ask p 12) (release_asks y (lanes_at s past)) ≡ true
      listed y q =
          let same : y ≡ x = cc in
          let here : y ≡ k = same ∙ ap (λ (n : ℕ). record { 0 = n }) (eqb-true x.0 k.0 b) in
          let at : get_or (lock_at (lanes_at s past) k).spinners p.0 false ≡ true = ap (λ (l : LockState). get_or l.spinners p.0 false)
          (lock_there s k past within) ∙ h in
          subst (λ (z : LockNo). list_any (is_ask p 12) (release_asks z (lanes_at s past)) ≡ true) (sym here)
          (asked_spinner p 0 p.0 (lock_at (lanes_at s past) k).spinners (omega arith) at)

      go : (w : What) → e.what ≡ w → lock_move w ≡ Frees x → asks s p 12 e past ≡ true
      go (Call f (Unlock y) Done) i q =
          ap (λ (v : What). list_any (is_ask p 12) (what_asks s (stand_at s e.cpu past) v (lanes_at s past))) i ∙ listed y q
      go (Free f y) i q =
          ap (λ (v : What). list_any (is_ask p 12) (what_asks s (stand_at s e.cpu past) v (lanes_at s past))) i ∙ listed y q
      go (Call f (Acquire y) Done) i q = cc
      go (Call f (Acquire y) Spin) i q = cc
      go w i q = cc

  unserved : (is_of e p ≡ true → serves 12 e.what ≡ false) → IsWanted s p 12 (e ∷ past)
  unserved q = go (lock_move e.what) refl
    where
      moved : (m : LockMove) → lock_move e.what ≡ m → lock_of s k (e ∷ past) ≡ lock_moved s k e.cpu m old
      moved m i = ap (λ (v : LockMove). lock_moved s k e.cpu v old) i

      stay_same : lock_of s k (e ∷ past) ≡ old → IsWanted s p 12 (e ∷ past)
      stay_same l =
          stays q (ap (λ (x : LockState). spins_at x p) (sym l) ∙ spun) (ap (λ (x : LockState). x.holder) (sym l) ∙ free)

      go : (m : LockMove) → lock_move e.what ≡ m → IsWanted s p 12 (e ∷ past)
      go NoMove i = stay_same (moved NoMove i)
      go (Gets x) i = pick (x.0 == k.0) refl
        where
          pick : (b : Bool) → (x.0 == k.0) ≡ b → IsWanted s p 12 (e ∷ past)
          pick true b =
              let l = moved (Gets x) i ∙ ap (λ
              (c : Bool). if c then record { holder = Some e.cpu; spinners = spinners_with s e.cpu false old.spinners } else old) b in
              clash (ap (λ (x : LockState). x.holder) (sym l) ∙ free)
            where
              clash : {A : Type 0} → ◌≡◌ {A = Option CpuNo} (Some e.cpu) None → A
              clash z = cc
          pick false b =
              stay_same (moved (Gets x) i ∙ ap (λ
              (c : Bool). if c then record { holder = Some e.cpu; spinners = spinners_with s e.cpu false old.spinners } else old) b)
      go (Spins x) i = pick (x.0 == k.0) (is_of e p) refl refl
        where
          is_spin_call : (w : What) → lock_move w ≡ Spins x → serves 12 w ≡ true
          is_spin_call (Call f (Acquire y) Spin) m = refl
          is_spin_call (Call f (Acquire y) Done) m = cc
          is_spin_call (Call f (Unlock y) Done) m = cc
          is_spin_call w m = cc

          pick : (b own : Bool) → (x.0 == k.0) ≡ b → is_of e p ≡ own → IsWanted s p 12 (e ∷ past)
          pick false own b o =
              stay_same (moved (Spins x) i ∙ ap (λ (c : Bool). if c then record old { spinners = spinners_with s e.cpu true old.spinners } else old) b)
          pick true true b o = absurd (both_ways (serves 12 e.what) (q o) (is_spin_call e.what i))
          pick true false b o =
              let l = moved (Spins x) i ∙ ap (λ (c : Bool). if c then record old { spinners = spinners_with s e.cpu true old.spinners } else old) b in
              let it : (p.0 == e.cpu.0) ≡ false = turn (p.0 == e.cpu.0) refl o in
              let a : spins_at (lock_of s k (e ∷ past)) p ≡ spins_at old p = ap (λ (x : LockState). spins_at x p) l
              ∙ (spins_with s p e.cpu true old.spinners below ∙ ap (λ (c : Bool). if c then true else get_or old.spinners p.0 false) it) in
              stays q (sym a ∙ spun) (ap (λ (x : LockState). x.holder) (sym l) ∙ free)
            where
              turn : (b : Bool) → (p.0 == e.cpu.0) ≡ b → is_of e p ≡ false → (p.0 == e.cpu.0) ≡ false
              turn false z o = z
              turn true z o = let n : is_of e p ≡ true = eq-eqb e.cpu.0 p.0 (sym (eqb-true p.0 e.cpu.0 z)) in absurd (both_ways (is_of e p) o n)
      go (Frees x) i = pick (x.0 == k.0) refl
        where
          pick : (b : Bool) → (x.0 == k.0) ≡ b → IsWanted s p 12 (e ∷ past)
          pick true b =
              let l = moved (Frees x) i ∙ ap (λ (c : Bool). if c then record old { holder = None } else old) b in
              asks_wanted s limit p 12 e past r q (released x i b (ap (λ (x : LockState). spins_at x p) (sym l) ∙ spun))
          pick false b = stay_same (moved (Frees x) i ∙ ap (λ (c : Bool). if c then record old { holder = None } else old) b)

  -- if the lock that a processor spins on is free after an event, class 12 is wanted there after it
  pub wanted_step : IsWanted s p 12 (e ∷ past)
  wanted_step = go (is_of e p) (serves 12 e.what) refl refl
    where
      no : {A : Type 0} → is_of e p ≡ false → is_of e p ≡ true → A
      no a b = cc

      go : (b c : Bool) → is_of e p ≡ b → serves 12 e.what ≡ c → IsWanted s p 12 (e ∷ past)
      go true true o h = served_it o h
      go true false o h = unserved (λ z. h)
      go false c o h = unserved (λ z. no o z)

-- in a run, while the lock that a processor spins on is free, class 12 is wanted there
pub spun_wanted : (s : Script) (limit : ℕ) (p : CpuNo) (k : LockNo) (past : List Event) → IsRun s limit past → p.0 < s.cpus → k.0 < s.locks →
    spins_at (lock_of s k past) p ≡ true → (lock_of s k past).holder ≡ None → IsWanted s p 12 past
spun_wanted s limit p k [] r below within spun free =
    let no : spins_at (lock_of s k []) p ≡ false = get_or-table s.cpus p.0 (λ q. false) false below in absurd (both_ways (spins_at (lock_of s k []) p) no spun)
spun_wanted s limit p k (e ∷ past) r below within spun free =
    wanted_step s limit p k e past r.0 r.1 below within (λ a b. spun_wanted s limit p k past r.1 below within a b) spun free

-- ---- at the close

module _ (s : Script) (limit : ℕ) (p : CpuNo) (k : LockNo) (past : List Event) (c : IsClosed s limit p past) (within : k.0 < s.locks)
    (spins : some_frame (spins_lock k) s p past ≡ true) where
  below : p.0 < s.cpus
  below = ltb-true p.0 s.cpus c.named

  clear_passes_none : (U : List Held → Option Held → Bool) (q : CpuNo) → IsClear q past → some_frame U s q past ≡ false
  clear_passes_none U q h =
      ap (λ (fs : List Frame). list_any (on_frame U) fs || list_any (on_frame U) (thread_part (frames_of s q past))) h.own
      ∙ ap (λ (fs : List Frame). list_any (on_frame U) fs) (ap (λ (o : Option ThreadNo). option_map_or (frames_in (frames_of s q past).threads) o []) h.running)

  stuck : IsStuck s p past
  stuck = go (closed_either s limit p past c)
    where
      go : (rests (own_of s p past) ≡ true) ⊎ (spins_still (own_of s p past) ≡ true) → IsStuck s p past
      go (inl q) =
          absurd (both_ways (some_frame (spins_lock k) s p past) (clear_passes_none (spins_lock k) p (closed_rests s limit p past c q).clear) spins)
      go (inr q) = closed_stuck s limit p past c q

  held : (o : Option CpuNo) → (lock_of s k past).holder ≡ o → (q : CpuNo) × ((lock_of s k past).holder ≡ Some q)
  held (Some q) e = (q, e)
  held None e =
      let w = spun_wanted s limit p k past c.run below within ((locks_agree s limit k past c.run within p below).1 ∙ spins) e in
      let due : is_due (own_of s p past) 12 ≡ false = not_true (is_due (own_of s p past) 12) (both _ _ stuck.waits).1 in
      let v : value_at (own_of s p past).seen 12 ≡ seen s p 12 past = get_or-table 16 12 (λ c. seen s p c past) 0 (omega arith) in
      let u : value_at (own_of s p past).served 12 ≡ served s p 12 past = get_or-table 16 12 (λ c. served s p c past) 0 (omega arith) in
      let n : value_at (own_of s p past).seen 12 ≤ value_at (own_of s p past).served 12 = ltb-false (value_at (own_of s p past).served 12)
      (value_at (own_of s p past).seen 12) due in
      let a = stuck.seen 12 (omega arith) in
      absurd (omega (arith, v, u, n, a, w))

  -- no frame of its own holds it
  not_own_lock : some_frame (holds_lock k) s p past ≡ false
  not_own_lock = go sp.frame.spin refl
    where
      sp : IsSpinning s p past
      sp = spinning s limit p past c.run stuck.waits

      base : base_of sp.frame ≤ 2
      base = let a = sp.locked.above in let b = sp.locked.spun sp.spins in omega (arith, a, b)

      h : Parted s p past
      h = parted s limit p past c.run

      hold : some_frame (holds_lock k) s p past ≡ among k sp.frame.held
      hold = alone s limit p past c.run h (holds_lock k) refl sp.frame sp.inner base

      spun : spins_lock k sp.frame.held sp.frame.spin ≡ true
      spun = sym (alone s limit p past c.run h (spins_lock k) refl sp.frame sp.inner base) ∙ spins

      go : (o : Option Held) → sp.frame.spin ≡ o → some_frame (holds_lock k) s p past ≡ false
      go None e = let z : spins_lock k sp.frame.held None ≡ true = subst (λ (o : Option Held). spins_lock k sp.frame.held o ≡ true) e spun in cc
      go (Some x) e =
          let z : (x.lock.0 == k.0) ≡ true = subst (λ (o : Option Held). spins_lock k sp.frame.held o ≡ true) e spun in
          hold ∙ (ap (λ (n : ℕ). list_any (λ h. h.lock.0 == n) sp.frame.held) (sym (eqb-true x.lock.0 k.0 z)) ∙ (sp.locked.retry x e).1)

  -- at the close a lock that is spun on is held by another processor, which is cut or spins still
  pub held_elsewhere : IsHeldElsewhere s limit p k past
  held_elsewhere = go (held (lock_of s k past).holder refl)
    where
      go : (q : CpuNo) × ((lock_of s k past).holder ≡ Some q) → IsHeldElsewhere s limit p k past
      go (q, e) = record { cpu = q; named = at; other = other; holds = holds_it; why = why (is_cut limit (own_of s q past)) refl }
        where
          qb : q.0 < s.cpus
          qb = holder_below s limit k q past c.run e

          at : nat_lt q.0 s.cpus ≡ true
          at = lt-ltb q.0 s.cpus qb

          holds_it : some_frame (holds_lock k) s q past ≡ true
          holds_it = sym (locks_agree s limit k past c.run within q qb).0 ∙ (ap (λ (o : Option CpuNo). is_queue o q) e ∙ eq-eqb q.0 q.0 refl)

          other : (q.0 == p.0) ≡ false
          other = pick (q.0 == p.0) refl
            where
              pick : (b : Bool) → (q.0 == p.0) ≡ b → (q.0 == p.0) ≡ false
              pick false b = b
              pick true b =
                  let same : q ≡ p = ap (λ (n : ℕ). record { 0 = n }) (eqb-true q.0 p.0 b) in
                  absurd (both_ways (some_frame (holds_lock k) s p past) not_own_lock (subst (λ (x : CpuNo). some_frame (holds_lock k) s x past
                  ≡ true) same holds_it))

          why : (b : Bool) → is_cut limit (own_of s q past) ≡ b → (is_cut limit (own_of s q past) ≡ true) ⊎ (spins_still (own_of s q past) ≡ true)
          why true b = inl b
          why false b = pick (closed_either s limit q past cq)
            where
              cq : IsClosed s limit q past
              cq = record { run = c.run; settled = c.settled; named = at; uncut = b }

              pick : (rests (own_of s q past) ≡ true) ⊎ (spins_still (own_of s q past) ≡ true) → (is_cut limit (own_of s q past) ≡ true) ⊎
                  (spins_still (own_of s q past) ≡ true)
              pick (inr z) = inr z
              pick (inl z) =
                  absurd (both_ways (some_frame (holds_lock k) s q past) (clear_passes_none (holds_lock k) q (closed_rests s limit q past cq z).clear) holds_it)
