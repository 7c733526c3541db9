-- In a run looks have values of classes alone that a text may name.
use Rattle.std.proofs.Common.{arith, inl, inr, subst, sym}
use Rattle.std.proofs.lemmas.Bool.{and_from, eqb-true, leb-true, or_cases}
use Rattle.std.specs.Prelude.{Bool, List, [], false, nat_le, nat_lt, refl, suc, true, ℕ, ◌&&◌, ◌+◌, ◌==◌, ◌||◌, ◌∷◌, ◌≡◌}
use Rattle.nt_event.specs.declared.events.Event.{Event}
use Rattle.nt_event.specs.declared.numbers.CpuNo.{CpuNo}
use Rattle.nt_event.specs.declared.numbers.LockNo.{LockNo}
use Rattle.nt_event.specs.declared.scripts.Script.{Script}
use Rattle.nt_event.specs.Classes.{is_requested_level, lock_class}
use Rattle.nt_event.specs.Lists.{value_at}
use Rattle.nt_event.specs.Own.{Own}
use Rattle.nt_event.specs.Script.{has_lock}
use Rattle.nt_event.specs.Step.{good_rises, was_asked}
use Rattle.nt_event.proofs.Options.{both}
use Rattle.nt_laws.specs.Named.{AllFit}
use Rattle.nt_log.specs.Schedules.{is_written_class, rise_in_classes}
use Rattle.nt_ranges.proofs.Asked.{of_asked}

-- or with true on the right is true
or_true : (b : Bool) → (b || true) ≡ true
or_true true = refl
or_true false = refl

-- a level at which an interrupt can be requested is a class that a text may name
requested_written : (version level : ℕ) → is_requested_level level ≡ true → is_written_class version level ≡ true
requested_written version level h =
    elim (or_cases (nat_le 3 level && nat_le level 11) (level == 14) h) as (λ e. is_written_class version level ≡ true) [
      | inl between ↦ device level (both (nat_le 3 level) (nat_le level 11) between).1
      | inr is ↦ subst (λ (n : ℕ). is_written_class version n ≡ true) (sym (eqb-true level 14 is)) (or_true (version == 2))
    ]
  where
    device : (n : ℕ) → nat_le n 11 ≡ true → is_written_class version n ≡ true
    device n h = go (n == 12) refl
      where
        go : (b : Bool) → (n == 12) ≡ b → is_written_class version n ≡ true
        go true e = let same = eqb-true n 12 e in let le = leb-true n 11 h in absurd (omega (arith, same, le))
        go false e = rw (h, e) (or_true (version == 2))

-- a text names locks where its script has some
abbrev pub MayNameLocks : ℕ → Script → Type 0
MayNameLocks version s = (k : LockNo) → has_lock s k ≡ true → version ≡ 2

-- a look has values of classes alone that a text of this version may name
pub rises_written : (version : ℕ) (s : Script) → MayNameLocks version s → (p : CpuNo) (c : ℕ) (vs : List ℕ) (x : Own) (past : List Event) →
    AllFit s past → good_rises s p c vs x past ≡ true → rise_in_classes version c vs ≡ true
rises_written version s may p c [] x past h k = refl
rises_written version s may p c (v ∷ vs) x past h k =
    let parts = both ((v == 0) || (nat_lt (value_at x.seen c) v && was_asked s p c v past)) (good_rises s p (suc c) vs x past) k in
    let more : rise_in_classes version (c + 1) vs ≡ true =
    subst (λ (n : ℕ). rise_in_classes version n vs ≡ true) (omega arith) (rises_written version s may p (suc c) vs x past h parts.1) in
    and_from ((v == 0) || is_written_class version c) (rise_in_classes version (c + 1) vs)
    (go (v == 0) (nat_lt (value_at x.seen c) v) (was_asked s p c v past) refl parts.0) more
  where
    asked : was_asked s p c v past ≡ true → is_written_class version c ≡ true
    asked a =
        of_asked s (λ n. is_written_class version n ≡ true) (record {
          threaded = or_true (version == 2);
          apc = or_true (version == 2);
          dispatch = or_true (version == 2);
          clock = or_true (version == 2);
          requested = requested_written version;
          lock = λ k h. subst (λ (n : ℕ). is_written_class n lock_class ≡ true) (sym (may k h)) refl;
        }) p c v past h a

    go : (z l w : Bool) → was_asked s p c v past ≡ w → (z || (l && w)) ≡ true → (z || is_written_class version c) ≡ true
    go true l w a q = refl
    go false true true a q = asked a
    go false true false a q = absurd cc
    go false false w a q = absurd cc
