-- A floor on which nothing happened: all values are zero.
use Rattle.std.proofs.Common.{ap, arith, rules, ◌∙◌}
use Rattle.std.proofs.lemmas.List.{length-replicate}
use Rattle.std.specs.Prelude.{Bool, List, false, if◌then◌else◌, refl, replicate, true, ℕ, ◌≡◌}
use Rattle.nt_event.specs.declared.jobs.Lane.{Lane}
use Rattle.nt_event.specs.declared.numbers.CpuNo.{CpuNo}
use Rattle.nt_event.specs.declared.scripts.Script.{Script}
use Rattle.nt_states.specs.LaneLists.{lane_fits}
use Rattle.nt_floor.proofs.Sums.{zeros}
use Rattle.nt_plain.specs.Places.{row_value, told_in, told_place}
use Rattle.nt_plain.proofs.plain.PlainFloor.new.Goals as goal

-- where all values are zero, a lane tells of none
told_none : (s : Script) (told : List ℕ) (n : ℕ) (x : Lane) (p : CpuNo) (c : ℕ) → told ≡ replicate n 0 → told_in s told x p c ≡ 0
told_none s told n x p c e = ap (λ (xs : List ℕ). told_in s xs x p c) e ∙ by (lane_fits s x)
  where
    by : (fits : Bool) → (if fits then row_value s (replicate {A = ℕ} n 0) x p c else 0) ≡ 0
    by true = zeros n (told_place s x p c)
    by false = refl

pub invariant_of-result : goal.invariant_of-result
invariant_of-result c = record {
  asked_length = rw (c.in_ok-states.ensures, c.in_ok-asked.ensures) (length-replicate _ _);
  marks_length = rw (c.in_ok-states.ensures, c.in_ok-marks.ensures, length-replicate) (cc);
  told_length = rw (c.in_ok-states.ensures, c.in_ok-told.ensures, length-replicate) (cc);
  cpus = search rules;
  lane_count = search rules;
  limit = search rules;
  next = omega arith;
  asked = λ p q h k. rw (c.in_ok-asked.ensures, zeros) (omega arith);
  told = λ x p q h k. rw (told_none c.in_ok-states.states.script _ _ x p q c.in_ok-told.ensures) (omega arith);
  told_others = λ x p q h k t. told_none c.in_ok-states.states.script _ _ x p q c.in_ok-told.ensures;
  time = rw (c.in_ok-states.ensures) (omega arith);
}
