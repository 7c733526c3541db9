-- In a settled run the lines `spins` of a report name the processors that spin still, and the locks on which they spin.
use Rattle.std.proofs.Common.{ap, arith, inl, inr, subst, sym, ◌∙◌}
use Rattle.std.proofs.lemmas.Bool.{both_ways, eq-eqb, eqb-false, eqb-true, lt-ltb, ltb-true, ne_eqb}
use Rattle.std.specs.Option.{option_map_or}
use Rattle.std.specs.Prelude.{Bool, List, None, Option, Some, [], false, get_or, if◌then◌else◌, is_some, not, refl, reverse, true, ℕ, ◌&&◌, ◌<◌, ◌==◌, ◌||◌}
use Rattle.std.specs.Prelude.{◌∷◌, ◌≡◌, ◌≤◌, ◌⊎◌, length}
use Rattle.nt_event.specs.declared.commands.Command.TheVariants.{Acquire, Unlock}
use Rattle.nt_event.specs.declared.commands.Reply.TheVariants.{Done, Spin as Spinning}
use Rattle.nt_event.specs.declared.events.Event.{Event}
use Rattle.nt_event.specs.declared.events.History.{History}
use Rattle.nt_event.specs.declared.events.What.{What}
use Rattle.nt_event.specs.declared.events.What.TheVariants.{Call}
use Rattle.nt_event.specs.declared.frames.Held.{Held}
use Rattle.nt_event.specs.declared.numbers.CpuNo.{CpuNo}
use Rattle.nt_event.specs.declared.numbers.LockNo.{LockNo}
use Rattle.nt_event.specs.declared.scripts.Script.{Script}
use Rattle.nt_event.specs.Frame.{Frame}
use Rattle.nt_event.specs.Frames.{base_of, frames_of, innermost}
use Rattle.nt_event.specs.Jobs.{is_due, must, rests, spins_still, waits_for_lock}
use Rattle.nt_event.specs.Classes.{lock_class}
use Rattle.nt_event.specs.Locks.{Frees, Gets, LockMove, LockState, NoMove, Spins, lock_move, lock_moved, lock_of, spinners_with, spins_at}
use Rattle.nt_event.specs.Numbers.{cpu, is_of}
use Rattle.nt_event.specs.Own.{Own, own_of, rested}
use Rattle.nt_event.specs.Script.{fits, has_lock}
use Rattle.nt_event.specs.Step.{IsRun, is_cut}
use Rattle.nt_event.proofs.Options.{both}
use Rattle.nt_event.proofs.Tables.{get_or-table}
use Rattle.nt_runs.specs.SomeFrame.{some_frame, spins_lock}
use Rattle.nt_runs.proofs.Declared.{next_fits}
use Rattle.nt_runs.proofs.LocksAgree.{alone, spin_now, spins_with}
use Rattle.nt_runs.proofs.LocksRun.{locks_agree}
use Rattle.nt_runs.proofs.Parts.{parted}
use Rattle.nt_close.specs.Close.{IsClosed}
use Rattle.nt_close.proofs.AtRest.{closed_either, closed_rests, rest_inner}
use Rattle.nt_close.proofs.Spinning.{IsSpinning, spinning}
use Rattle.nt_print.specs.declared.spins.Spun.{Spun}
use Rattle.nt_print.specs.Report.{spin_left}
use Rattle.nt_print.specs.Spins.{last_spin, spin_after}
use Rattle.nt_ranges.specs.Spinners.{IsSettled}
use Rattle.nt_ranges.proofs.Cuts.{made_is_cut}

-- ---- the last call with reply spin

-- the processor's last call with reply spin was for this lock
abbrev LastOn : CpuNo → LockNo → List Event → Type 0
LastOn p k past = (n : ℕ) × (last_spin p past ≡ Some (record { number = n; lock = k }))

-- an action that makes a processor spin on a lock is a call of acquire on that lock with reply spin
spin_call : (w : What) (x : LockNo) → lock_move w ≡ Spins x → (f : ℕ) × (w ≡ Call f (Acquire x) Spinning)
spin_call (Call f (Acquire y) Spinning) x m = let same : y ≡ x = cc in (f, ap (λ (z : LockNo). Call f (Acquire z) Spinning) same)
spin_call (Call f (Acquire y) Done) x m = absurd cc
spin_call (Call f (Unlock y) Done) x m = absurd cc
spin_call w x m = absurd cc

-- a move of another processor leaves whether this one spins
kept_by_other : (s : Script) (p q : CpuNo) (k : LockNo) (m : LockMove) (old : LockState) → p.0 < s.cpus → (p.0 == q.0) ≡ false →
    spins_at (lock_moved s k q m old) p ≡ spins_at old p
kept_by_other s p q k (Gets x) old below apart = go (x.0 == k.0)
  where
    go : (b : Bool) → spins_at (if b then record { holder = Some q; spinners = spinners_with s q false old.spinners } else old) p ≡ spins_at old p
    go true = spins_with s p q false old.spinners below ∙ ap (λ (b : Bool). if b then false else get_or old.spinners p.0 false) apart
    go false = refl
kept_by_other s p q k (Spins x) old below apart = go (x.0 == k.0)
  where
    go : (b : Bool) → spins_at (if b then record old { spinners = spinners_with s q true old.spinners } else old) p ≡ spins_at old p
    go true = spins_with s p q true old.spinners below ∙ ap (λ (b : Bool). if b then true else get_or old.spinners p.0 false) apart
    go false = refl
kept_by_other s p q k (Frees x) old below apart = go (x.0 == k.0)
  where
    go : (b : Bool) → spins_at (if b then record old { holder = None } else old) p ≡ spins_at old p
    go true = refl
    go false = refl
kept_by_other s p q k NoMove old below apart = refl

-- one that gets the lock spins no more
gets_no_more : (s : Script) (p q : CpuNo) (k x : LockNo) (old : LockState) → p.0 < s.cpus → spins_at (lock_moved s k q (Gets x) old) p ≡ true →
    spins_at old p ≡ true
gets_no_more s p q k x old below h = go (x.0 == k.0) h
  where
    at : (b : Bool) → (if b then false else get_or old.spinners p.0 false) ≡ true → get_or old.spinners p.0 false ≡ true
    at true e = absurd cc
    at false e = e

    go : (b : Bool) → spins_at (if b then record { holder = Some q; spinners = spinners_with s q false old.spinners } else old) p ≡ true →
        spins_at old p ≡ true
    go true e = at (p.0 == q.0) (sym (spins_with s p q false old.spinners below) ∙ e)
    go false e = e

-- a processor that spins on a lock after another move frees one spun on it before
frees_no_more : (s : Script) (p q : CpuNo) (k x : LockNo) (old : LockState) → spins_at (lock_moved s k q (Frees x) old) p ≡ true → spins_at old p ≡ true
frees_no_more s p q k x old h = go (x.0 == k.0) h
  where
    go : (b : Bool) → spins_at (if b then record old { holder = None } else old) p ≡ true → spins_at old p ≡ true
    go true e = e
    go false e = e

-- in a run, a processor that spins on a lock tried for it last
last_on : (s : Script) (limit : ℕ) (p : CpuNo) (k : LockNo) (past : List Event) → IsRun s limit past → p.0 < s.cpus → k.0 < s.locks →
    spins_at (lock_of s k past) p ≡ true → LastOn p k past
last_on s limit p k [] r below within spun =
    let no : spins_at (lock_of s k []) p ≡ false = get_or-table s.cpus p.0 (λ q. false) false below in
    absurd (both_ways (spins_at (lock_of s k []) p) no spun)
last_on s limit p k (e ∷ past) r below within spun = go (is_of e p) refl (λ h. last_on s limit p k past r.1 below within h)
  where
    old : LockState
    old = lock_of s k past

    go : (b : Bool) → is_of e p ≡ b → (spins_at old p ≡ true → LastOn p k past) →
        (n : ℕ) × ((if b then spin_after (length past) (lock_move e.what) (last_spin p past) else last_spin p past) ≡ Some (record { number = n; lock = k }))
    go false o more =
        let apart : (p.0 == e.cpu.0) ≡ false = ne_eqb p.0 e.cpu.0 (λ q. eqb-false e.cpu.0 p.0 o (sym q)) in
        more (sym (kept_by_other s p e.cpu k (lock_move e.what) old below apart) ∙ spun)
    go true o more = by (lock_move e.what) refl spun
      where
        by : (m : LockMove) → lock_move e.what ≡ m → spins_at (lock_moved s k e.cpu m old) p ≡ true →
            (n : ℕ) × (spin_after (length past) m (last_spin p past) ≡ Some (record { number = n; lock = k }))
        by (Gets x) i h = more (gets_no_more s p e.cpu k x old below h)
        by (Frees x) i h = more (frees_no_more s p e.cpu k x old h)
        by NoMove i h = more h
        by (Spins x) i h =
            let call = spin_call e.what x i in
            let now : some_frame (spins_lock k) s p (e ∷ past) ≡ (x.0 == k.0) =
            spin_now s limit p e past o r.0 r.1 below k (locks_agree s limit k past r.1 within p below) call.0 x call.1 in
            let same : (x.0 == k.0) ≡ true = sym now ∙ sym (locks_agree s limit k (e ∷ past) r within p below).1 ∙ spun in
            (length past, ap (λ (n : ℕ). Some (record { number = length past; lock = record { 0 = n } })) (eqb-true x.0 k.0 same))

-- ---- a processor that waits for a lock

-- its last call with reply spin, and the lock on which it spins
record Waits (s : Script) (p : CpuNo) (past : List Event) : Type 0 where
  spin : Spun
  last : last_spin p past ≡ Some spin
  on : some_frame (spins_lock spin.lock) s p past ≡ true

-- in a run a processor that waits for a lock spins on the lock for which it tried last
waits : (s : Script) (limit : ℕ) (p : CpuNo) (past : List Event) → fits s ≡ true → IsRun s limit past → p.0 < s.cpus →
    waits_for_lock (own_of s p past) ≡ true → Waits s p past
waits s limit p past fit r below w = go sp.frame.spin refl sp.spins
  where
    sp : IsSpinning s p past
    sp = spinning s limit p past r w

    base : base_of sp.frame ≤ 2
    base = let a = sp.locked.above in let b = sp.locked.spun sp.spins in omega (arith, a, b)

    go : (o : Option Held) → sp.frame.spin ≡ o → is_some o ≡ true → Waits s p past
    go None e h = absurd cc
    go (Some x) e h =
        let within : has_lock s x.lock ≡ true = next_fits s p sp.frame (Acquire x.lock) fit (sp.locked.retry x e).0 in
        let at : some_frame (spins_lock x.lock) s p past ≡ true =
        alone s limit p past r (parted s limit p past r) (spins_lock x.lock) refl sp.frame sp.inner base
        ∙ ap (λ (o : Option Held). spins_lock x.lock sp.frame.held o) e ∙ eq-eqb x.lock.0 x.lock.0 refl in
        let lt = ltb-true x.lock.0 s.locks within in
        let found = last_on s limit p x.lock past r below lt ((locks_agree s limit x.lock past r lt p below).1 ∙ at) in
        record { spin = record { number = found.0; lock = x.lock }; last = found.1; on = at }

-- ---- the lines

-- where it isn't cut, it rests or it spins still
module _ (s : Script) (h : History) (p : ℕ) (is : IsSettled s h) (below : p < s.cpus) where
  abbrev past : List Event
  past = reverse h.events

  abbrev own : Own
  own = own_of s (cpu p) past

  closed : is_cut h.turns own ≡ false → IsClosed s h.turns (cpu p) past
  closed uncut = record { run = is.run; settled = is.settled; named = lt-ltb p s.cpus below; uncut = uncut }

  no_frame_waits : innermost (frames_of s (cpu p) past) ≡ None → waits_for_lock own ≡ false
  no_frame_waits none = ap (λ (o : Option Frame). option_map_or (λ f. is_some f.spin) o false && not (is_due own lock_class)) none

  resting : is_cut h.turns own ≡ false → rests own ≡ true → waits_for_lock own ≡ false
  resting uncut r = no_frame_waits (rest_inner s (cpu p) past (closed_rests s h.turns (cpu p) past (closed uncut) r))

  -- one that spins still rested not last
  unrested : is_cut h.turns own ≡ false → spins_still own ≡ true → rested (cpu p) past ≡ false
  unrested uncut still = go (rested (cpu p) past) refl
    where
      parts : (waits_for_lock own ≡ true) × (not (must own) ≡ true)
      parts = both (waits_for_lock own) (not (must own)) still

      go : (b : Bool) → rested (cpu p) past ≡ b → b ≡ false
      go false e = refl
      go true e =
          let r : rests own ≡ true = ap (λ (b : Bool). b && not (must own)) e ∙ parts.1 in
          absurd (both_ways (waits_for_lock own) (resting uncut r) parts.0)

  -- what the line tells, by the two tests of it
  left : (b c : Bool) → is_cut h.turns own ≡ b → rested (cpu p) past ≡ c → spin_left h p ≡ (if b || c then None else last_spin (cpu p) past)
  left b c i j =
      ap (λ (x : Bool). if x || rested (cpu p) past then None else last_spin (cpu p) past) (made_is_cut s h p is.run ∙ i)
      ∙ ap (λ (x : Bool). if b || x then None else last_spin (cpu p) past) j

  named : is_some (spin_left h p) ≡ (not (is_cut h.turns own) && spins_still own)
  named = go (is_cut h.turns own) refl
    where
      go : (b : Bool) → is_cut h.turns own ≡ b → is_some (spin_left h p) ≡ (not b && spins_still own)
      go true i = ap (λ (o : Option Spun). is_some o) (left true (rested (cpu p) past) i refl)
      go false i = pick (closed_either s h.turns (cpu p) past (closed i))
        where
          pick : (rests own ≡ true) ⊎ (spins_still own ≡ true) → is_some (spin_left h p) ≡ spins_still own
          pick (inl r) =
              ap (λ (o : Option Spun). is_some o) (left false true i (both (rested (cpu p) past) (not (must own)) r).0)
              ∙ sym (ap (λ (b : Bool). b && not (must own)) (resting i r))
          pick (inr still) =
              let w = waits s h.turns (cpu p) past is.fits is.run below (both (waits_for_lock own) (not (must own)) still).0 in
              ap (λ (o : Option Spun). is_some o) (left false false i (unrested i still) ∙ w.last) ∙ sym still

  locked : (x : Spun) → spin_left h p ≡ Some x → some_frame (spins_lock x.lock) s (cpu p) past ≡ true
  locked x e = go (is_cut h.turns own) refl
    where
      none : ◌≡◌ {A = Option Spun} None (Some x) → some_frame (spins_lock x.lock) s (cpu p) past ≡ true
      none q = absurd cc

      go : (b : Bool) → is_cut h.turns own ≡ b → some_frame (spins_lock x.lock) s (cpu p) past ≡ true
      go true i = none (sym (left true (rested (cpu p) past) i refl) ∙ e)
      go false i = pick (closed_either s h.turns (cpu p) past (closed i))
        where
          some_one : (a b : Spun) → ◌≡◌ {A = Option Spun} (Some a) (Some b) → a ≡ b
          some_one a b q = cc

          pick : (rests own ≡ true) ⊎ (spins_still own ≡ true) → some_frame (spins_lock x.lock) s (cpu p) past ≡ true
          pick (inl r) = none (sym (left false true i (both (rested (cpu p) past) (not (must own)) r).0) ∙ e)
          pick (inr still) =
              let w = waits s h.turns (cpu p) past is.fits is.run below (both (waits_for_lock own) (not (must own)) still).0 in
              let same : w.spin ≡ x = some_one w.spin x (sym w.last ∙ sym (left false false i (unrested i still)) ∙ e) in
              subst (λ (y : Spun). some_frame (spins_lock y.lock) s (cpu p) past ≡ true) same w.on

-- in a settled run a spin is left at a processor exactly if the processor is not cut and spins still
pub spins_lines_name_the_spinners : (s : Script) (h : History) (p : ℕ) → IsSettled s h → p < s.cpus → is_some (spin_left h p)
    ≡ (not (is_cut h.turns (own_of s (cpu p) (reverse h.events))) && spins_still (own_of s (cpu p) (reverse h.events)))
spins_lines_name_the_spinners s h p is below = named s h p is below

-- in a settled run the lock of a processor's line `spins` is one on which a frame of it spins
pub spins_lines_name_the_locks : (s : Script) (h : History) (p : ℕ) (x : Spun) → IsSettled s h → p < s.cpus → spin_left h p ≡ Some x →
    some_frame (spins_lock x.lock) s (cpu p) (reverse h.events) ≡ true
spins_lines_name_the_locks s h p x is below e = locked s h p is below x e
