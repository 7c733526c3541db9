-- What a move leaves of a spin lock's state, as the change of one flag.
use Rattle.std.proofs.Common.{inl, inr, length, set, sym, ◌∙◌}
use Rattle.std.proofs.lemmas.Bool.{cases_eq, eq-eqb, ne_eqb}
use Rattle.std.proofs.lemmas.List.{get_or-replicate, get_or-set_other, get_or-set_same, length-replicate, length-set}
use Rattle.std.specs.Prelude.{Bool, List, None, Option, Some, false, get_or, if◌then◌else◌, refl, replicate, true, ℕ, ◌<◌, ◌==◌, ◌≡◌}
use Rattle.nt_event.specs.declared.numbers.CpuNo.{CpuNo}
use Rattle.nt_event.specs.declared.numbers.LockNo.{LockNo}
use Rattle.nt_event.specs.declared.scripts.Script.{Script}
use Rattle.nt_event.specs.Locks.{LockState, free_lock, lock_moved, spinners_with}
use Rattle.nt_event.specs.Lists.{table}
use Rattle.nt_event.proofs.Tables.{table-self}
use Rattle.nt_states.specs.declared.locks.Move.{Move}
use Rattle.nt_states.specs.declared.locks.Move.TheVariants as move
use Rattle.nt_states.specs.LockMoves.{move_of}

-- the flags, one of them changed
pub flags_with : (s : Script) (p : CpuNo) (b : Bool) (xs : List Bool) → s.cpus ≡ length xs → p.0 < length xs → spinners_with s p b xs ≡ set xs p.0 b
flags_with s p b xs size h =
    table-self false s.cpus (set xs p.0 b) (λ q. if q == p.0 then b else get_or xs q false) (length-set xs p.0 b ∙ sym size) each
  where
    each : (q : ℕ) → q < s.cpus → (if q == p.0 then b else get_or xs q false) ≡ get_or (set xs p.0 b) q false
    each q l = elim (cases_eq q p.0) [
      | inl same ↦ rw (same, eq-eqb p.0 p.0 refl, get_or-set_same xs p.0 b false h) refl
      | inr apart ↦ rw (ne_eqb q p.0 apart, get_or-set_other xs p.0 q b false apart) refl
    ]

-- a list of flags that are all clear is the table with a clear flag at each place
pub flags_start : (n : ℕ) → replicate n false ≡ table n (λ q. false)
flags_start n = sym (table-self false n (replicate n false) (λ q. false) (length-replicate n false) (λ q l. sym (get_or-replicate n q false false l)))

-- a lock without a holder and with a clear flag for each processor is free
pub free_start : (s : Script) (n : ℕ) (xs : List Bool) → n ≡ s.cpus → xs ≡ replicate n false → record { holder = None; spinners = xs } ≡ free_lock s
free_start s n xs size e = rw (e, size, flags_start s.cpus) refl

module _ (s : Script) (k : LockNo) (p : CpuNo) (by : Move) (n : ℕ) (x : LockState) (holder : Option CpuNo) (flags : List Bool) where
  -- a processor that gets a lock becomes its holder and its flag of spinning is cleared
  pub gets : by ≡ move.Gets → n ≡ p.0 → record { holder = holder; spinners = flags } ≡ x → s.cpus ≡ length x.spinners → p.0 < length x.spinners →
      record { holder = Some p; spinners = set flags n false } ≡ lock_moved s k p (move_of k by) x
  gets moves place is size h = rw (moves, place, eq-eqb k.0 k.0 refl, flags_with s p false x.spinners size h, sym is) refl

  -- a processor that spins on a lock has its flag of spinning set and the holder stays
  pub spins : by ≡ move.Spins → n ≡ p.0 → record { holder = holder; spinners = flags } ≡ x → s.cpus ≡ length x.spinners → p.0 < length x.spinners →
      record { holder = holder; spinners = set flags n true } ≡ lock_moved s k p (move_of k by) x
  spins moves place is size h = rw (moves, place, eq-eqb k.0 k.0 refl, flags_with s p true x.spinners size h, sym is) refl
