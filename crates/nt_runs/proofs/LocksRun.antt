-- In a run each lane of a lock says of each processor what its frames do.
use Rattle.std.proofs.Common.{ap, subst, sym, ◌∙◌}
use Rattle.std.proofs.lemmas.Bool.{both_ways, eq-eqb, eqb-true}
use Rattle.std.specs.Prelude.{Bool, List, None, Option, Some, [], false, get_or, if◌then◌else◌, is_none, refl, true, ℕ, ◌<◌, ◌==◌, ◌||◌, ◌∷◌, ◌≡◌}
use Rattle.nt_event.specs.declared.commands.Command.TheVariants.{Acquire, Unlock}
use Rattle.nt_event.specs.declared.commands.Reply.TheVariants.{Done, Spin}
use Rattle.nt_event.specs.declared.events.Event.{Event}
use Rattle.nt_event.specs.declared.events.What.{What}
use Rattle.nt_event.specs.declared.events.What.TheVariants.{Call}
use Rattle.nt_event.specs.declared.frames.Held.{Held}
use Rattle.nt_event.specs.declared.numbers.CpuNo.{CpuNo}
use Rattle.nt_event.specs.declared.numbers.LockNo.{LockNo}
use Rattle.nt_event.specs.declared.scripts.Script.{Script}
use Rattle.nt_runs.proofs.LocksAgree.{Agree, agree_own, held_before, moved_by, spins_with}
use Rattle.nt_event.specs.Locks.{Frees, Gets, LockMove, LockState, NoMove, Spins, lock_move, lock_moved, lock_of, spinners_with, spins_at, start_lock}
use Rattle.nt_event.specs.Step.{IsLegal, IsRun}
use Rattle.nt_runs.proofs.Known.{Known, KnownCall, legal_known}
use Rattle.nt_event.specs.Own.{Own, own_of}
use Rattle.nt_runs.proofs.Stops.{call_accepted}
use Rattle.nt_event.specs.Numbers.{is_of, lock}
use Rattle.nt_runs.proofs.Robin.{cpu_below}
use Rattle.nt_event.proofs.Tables.{get_or-table}
use Rattle.nt_runs.proofs.Turns.{is_next}
use Rattle.nt_event.specs.Queues.{is_queue}
use Rattle.nt_event.specs.Lanes.{lanes_at, lock_at}
use Rattle.std.specs.List.{list_any}
use Rattle.nt_event.proofs.Booleans.{none_is}
use Rattle.nt_event.proofs.Moves.{own_moves}
use Rattle.nt_event.specs.Frames.{thread_part}
use Rattle.nt_runs.specs.SomeFrame.{some_frame, holds_lock, on_frame, spins_lock}

-- the lock that the lanes hold for a declared number is the lock of the history
pub lock_there : (s : Script) (k : LockNo) (past : List Event) → k.0 < s.locks → lock_at (lanes_at s past) k ≡ lock_of s k past
lock_there s k past l = get_or-table s.locks k.0 (λ n. lock_of s (lock n) past) start_lock l

-- an acquire that is answered as done found the lock free
pub done_free : (b : Bool) → Done ≡ (if b then Done else Spin) → b ≡ true
done_free true h = refl
done_free false h = cc

-- an acquire that spins found the lock taken
pub spin_held : (b : Bool) → Spin ≡ (if b then Done else Spin) → b ≡ false
spin_held true h = cc
spin_held false h = refl

-- an event of another processor leaves what the frames hold
pub some_frame_other : (U : List Held → Option Held → Bool) (s : Script) (p : CpuNo) (e : Event) (past : List Event) → is_of e p ≡ false →
    some_frame U s p (e ∷ past) ≡ some_frame U s p past
some_frame_other U s p e past o =
    let moved : own_of s p (e ∷ past) ≡ own_of s p past = own_moves s p e past ∙ rw o refl in
    ap (λ (x : Own). list_any (on_frame U) x.frames.own || list_any (on_frame U) (thread_part x.frames)) moved

module _ (s : Script) (limit : ℕ) (p : CpuNo) (e : Event) (past : List Event) (o : is_of e p ≡ false) (g : IsLegal s limit e past) (r : IsRun s limit past)
    (below : p.0 < s.cpus) (k : LockNo) (within : k.0 < s.locks) (ih : (q : CpuNo) → q.0 < s.cpus → Agree s q k past) where
  abbrev old : LockState
  old = lock_of s k past

  holds_same : some_frame (holds_lock k) s p (e ∷ past) ≡ some_frame (holds_lock k) s p past
  holds_same = some_frame_other (holds_lock k) s p e past o

  spins_same : some_frame (spins_lock k) s p (e ∷ past) ≡ some_frame (spins_lock k) s p past
  spins_same = some_frame_other (spins_lock k) s p e past o

  not_it : (p.0 == e.cpu.0) ≡ false
  not_it = go (p.0 == e.cpu.0) refl
    where
      go : (b : Bool) → (p.0 == e.cpu.0) ≡ b → (p.0 == e.cpu.0) ≡ false
      go false q = q
      go true q =
          let n : (e.cpu.0 == p.0) ≡ true = eq-eqb e.cpu.0 p.0 (sym (eqb-true p.0 e.cpu.0 q)) in absurd (both_ways (e.cpu.0 == p.0) o n)

  -- what another processor holds isn't p's
  not_ours : (h : Option CpuNo) → is_queue h e.cpu ≡ true → is_queue h p ≡ false
  not_ours None q = cc
  not_ours (Some a) q = ap (λ (n : ℕ). n == p.0) (eqb-true a.0 e.cpu.0 q) ∙ o

  same_no : (x : LockNo) → (x.0 == k.0) ≡ true → x ≡ k
  same_no x b = ap (λ (n : ℕ). record { 0 = n }) (eqb-true x.0 k.0 b)

  none_holds : (f : ℕ) (x : LockNo) → e.what ≡ Call f (Acquire x) Done → (x.0 == k.0) ≡ true → is_queue old.holder p ≡ false
  none_holds f x w b =
      let q : KnownCall s e.cpu (own_of s e.cpu past) (lanes_at s past) f (Acquire x) Done = subst (λ (v : What). Known s e.cpu (own_of s e.cpu past)
      (lanes_at s past) v) w (legal_known s limit e past g (ap is_next w)) in
      let d = (call_accepted s e.cpu (own_of s e.cpu past) (lanes_at s past) f (Acquire x) Done q refl).1 in
      let n : is_none (lock_at (lanes_at s past) x).holder ≡ true = done_free (is_none (lock_at (lanes_at s past) x).holder) d in
      let there : is_none (lock_at (lanes_at s past) k).holder ≡ true = subst (λ (z : LockNo). is_none (lock_at (lanes_at s past) z).holder
      ≡ true) (same_no x b) n in
      let here : is_none old.holder ≡ true = ap (λ (l : LockState). is_none l.holder) (sym (lock_there s k past within)) ∙ there in
      ap (λ (h : Option CpuNo). is_queue h p) (none_is old.holder here)

  by_move : (w : What) → e.what ≡ w → (m : LockMove) → lock_move w ≡ m → Agree s p k (e ∷ past)
  by_move w q NoMove m =
      let l : lock_of s k (e ∷ past) ≡ old = moved_by s k e past w q ∙ ap (λ (v : LockMove). lock_moved s k e.cpu v old) m in (
        ap (λ (l : LockState). is_queue l.holder p) l ∙ ((ih p below).0 ∙ sym holds_same),
        ap (λ (l : LockState). spins_at l p) l ∙ ((ih p below).1 ∙ sym spins_same),
      )
  by_move w q (Spins x) m = go (x.0 == k.0) refl
    where
      moved : lock_of s k (e ∷ past) ≡ (if x.0 == k.0 then record old { spinners = spinners_with s e.cpu true old.spinners } else old)
      moved = moved_by s k e past w q ∙ ap (λ (v : LockMove). lock_moved s k e.cpu v old) m

      go : (b : Bool) → (x.0 == k.0) ≡ b → Agree s p k (e ∷ past)
      go true b =
          let l = moved ∙ ap (λ (c : Bool). if c then record old { spinners = spinners_with s e.cpu true old.spinners } else old) b in (
            ap (λ (l : LockState). is_queue l.holder p) l ∙ ((ih p below).0 ∙ sym holds_same),
            ap (λ (l : LockState). spins_at l p) l ∙ (spins_with s p e.cpu true old.spinners below
                ∙ (ap (λ (c : Bool). if c then true else get_or old.spinners p.0 false) not_it ∙ ((ih p below).1 ∙ sym spins_same))),
          )
      go false b =
          let l = moved ∙ ap (λ (c : Bool). if c then record old { spinners = spinners_with s e.cpu true old.spinners } else old) b in (
            ap (λ (l : LockState). is_queue l.holder p) l ∙ ((ih p below).0 ∙ sym holds_same),
            ap (λ (l : LockState). spins_at l p) l ∙ ((ih p below).1 ∙ sym spins_same),
          )
  by_move w q (Frees x) m = go (x.0 == k.0) refl
    where
      moved : lock_of s k (e ∷ past) ≡ (if x.0 == k.0 then record old { holder = None } else old)
      moved = moved_by s k e past w q ∙ ap (λ (v : LockMove). lock_moved s k e.cpu v old) m

      itself : is_of e e.cpu ≡ true
      itself = eq-eqb e.cpu.0 e.cpu.0 refl

      at : e.cpu.0 < s.cpus
      at = cpu_below s limit e past g

      go : (b : Bool) → (x.0 == k.0) ≡ b → Agree s p k (e ∷ past)
      go true b =
          let l = moved ∙ ap (λ (c : Bool). if c then record old { holder = None } else old) b in
          let mv : lock_move e.what ≡ Frees x = ap lock_move q ∙ m in
          let theirs : is_queue old.holder e.cpu ≡ true = (ih e.cpu at).0 ∙ held_before s limit e.cpu e past itself g r at k (ih e.cpu at) x mv b in
          let ours : is_queue old.holder p ≡ false = not_ours old.holder theirs in (
            ap (λ (l : LockState). is_queue l.holder p) l ∙ (sym ours ∙ ((ih p below).0 ∙ sym holds_same)),
            ap (λ (l : LockState). spins_at l p) l ∙ ((ih p below).1 ∙ sym spins_same),
          )
      go false b =
          let l = moved ∙ ap (λ (c : Bool). if c then record old { holder = None } else old) b in (
            ap (λ (l : LockState). is_queue l.holder p) l ∙ ((ih p below).0 ∙ sym holds_same),
            ap (λ (l : LockState). spins_at l p) l ∙ ((ih p below).1 ∙ sym spins_same),
          )
  by_move w q (Gets x) m = go (x.0 == k.0) refl
    where
      moved : lock_of s k (e ∷ past) ≡ (if x.0 == k.0 then record { holder = Some e.cpu; spinners = spinners_with s e.cpu false old.spinners } else old)
      moved = moved_by s k e past w q ∙ ap (λ (v : LockMove). lock_moved s k e.cpu v old) m

      free : (w : What) → e.what ≡ w → lock_move w ≡ Gets x → (x.0 == k.0) ≡ true → is_queue old.holder p ≡ false
      free (Call f (Acquire y) Done) q m b =
          let same : y ≡ x = cc in none_holds f y q (ap (λ (z : LockNo). z.0 == k.0) same ∙ b)
      free (Call f (Acquire y) Spin) q m b = cc
      free (Call f (Unlock y) Done) q m b = cc
      free w q m b = cc

      go : (b : Bool) → (x.0 == k.0) ≡ b → Agree s p k (e ∷ past)
      go true b =
          let l = moved ∙ ap (λ (c : Bool). if c then record { holder = Some e.cpu; spinners = spinners_with s e.cpu false old.spinners } else old) b in (
            ap (λ (l : LockState). is_queue l.holder p) l ∙ (o ∙ (sym (free w q m b) ∙ ((ih p below).0 ∙ sym holds_same))),
            ap (λ (l : LockState). spins_at l p) l ∙ (spins_with s p e.cpu false old.spinners below
                ∙ (ap (λ (c : Bool). if c then false else get_or old.spinners p.0 false) not_it ∙ ((ih p below).1 ∙ sym spins_same))),
          )
      go false b =
          let l = moved ∙ ap (λ (c : Bool). if c then record { holder = Some e.cpu; spinners = spinners_with s e.cpu false old.spinners } else old) b in (
            ap (λ (l : LockState). is_queue l.holder p) l ∙ ((ih p below).0 ∙ sym holds_same),
            ap (λ (l : LockState). spins_at l p) l ∙ ((ih p below).1 ∙ sym spins_same),
          )

  -- an event of another processor keeps the lane of a lock in agreement with the processor's frames
  pub agree_other : Agree s p k (e ∷ past)
  agree_other = by_move e.what refl (lock_move e.what) refl

-- in a run the lane of a lock of the script says of each processor of the script what its frames do
pub locks_agree : (s : Script) (limit : ℕ) (k : LockNo) (past : List Event) → IsRun s limit past → k.0 < s.locks → (p : CpuNo) → p.0 < s.cpus →
    Agree s p k past
locks_agree s limit k [] r within p below = (refl, get_or-table s.cpus p.0 (λ q. false) false below)
locks_agree s limit k (e ∷ past) r within p below =
    go (is_of e p) refl (λ q l. locks_agree s limit k past r.1 within q l)
  where
    go : (b : Bool) → is_of e p ≡ b → ((q : CpuNo) → q.0 < s.cpus → Agree s q k past) → Agree s p k (e ∷ past)
    go true o ih = agree_own s limit p e past o r.0 r.1 below k (ih p below)
    go false o ih = agree_other s limit p e past o r.0 r.1 below k within ih

-- who holds a lock is a processor of the script
pub holder_below : (s : Script) (limit : ℕ) (k : LockNo) (q : CpuNo) (past : List Event) → IsRun s limit past → (lock_of s k past).holder ≡ Some q →
    q.0 < s.cpus
holder_below s limit k q [] r h = cc
holder_below s limit k q (e ∷ past) r h = go (lock_move e.what) h (λ z. holder_below s limit k q past r.1 z)
  where
    same : e.cpu.0 < s.cpus → ◌≡◌ {A = Option CpuNo} (Some e.cpu) (Some q) → q.0 < s.cpus
    same l z = let m : e.cpu ≡ q = cc in subst (λ (x : CpuNo). x.0 < s.cpus) m l

    go : (m : LockMove) → (lock_moved s k e.cpu m (lock_of s k past)).holder ≡ Some q → ((lock_of s k past).holder ≡ Some q → q.0 < s.cpus) → q.0 < s.cpus
    go NoMove z ih = ih z
    go (Gets x) z ih = pick (x.0 == k.0) z
      where
        pick : (b : Bool) → (if b then record { holder = Some e.cpu; spinners = spinners_with s e.cpu false (lock_of s k past).spinners }
            else lock_of s k past).holder ≡ Some q → q.0 < s.cpus
        pick true z = same (cpu_below s limit e past r.0) z
        pick false z = ih z
    go (Spins x) z ih = pick (x.0 == k.0) z
      where
        pick : (b : Bool) → (if b then record (lock_of s k past) { spinners = spinners_with s e.cpu true (lock_of s k past).spinners }
            else lock_of s k past).holder ≡ Some q → q.0 < s.cpus
        pick true z = ih z
        pick false z = ih z
    go (Frees x) z ih = pick (x.0 == k.0) z
      where
        pick : (b : Bool) → (if b then record (lock_of s k past) { holder = None } else lock_of s k past).holder ≡ Some q → q.0 < s.cpus
        pick true z = cc
        pick false z = ih z
