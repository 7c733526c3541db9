-- Whether some processor is cut.
use Rattle.std.proofs.Common.{add-zero, ap, arith, subst, sym, ◌∙◌}
use Rattle.std.proofs.lemmas.Bool.{eqb-false, eqb-true, le-leb, lt-leb}
use Rattle.std.proofs.lemmas.List.Folds.{list_any_at}
use Rattle.std.specs.List.{count_by, list_any}
use Rattle.std.specs.Prelude.{Bool, List, false, nat_le, refl, reverse, suc, true, zero, ℕ, ◌+◌, ◌<◌, ◌==◌, ◌||◌, ◌≡◌, ◌≤◌}
use Rattle.nt_event.specs.declared.events.Event.{Event}
use Rattle.nt_event.specs.declared.events.Rises.{Rises}
use Rattle.nt_event.specs.declared.scripts.Script.{Script}
use Rattle.nt_event.specs.Lists.{table, table_from}
use Rattle.nt_event.specs.Numbers.{cpu}
use Rattle.nt_event.specs.Own.{made}
use Rattle.nt_event.proofs.Tables.{get_or-table, length-table_from}
use Rattle.nt_history.specs.declared.brief.Brief.{Brief}
use Rattle.nt_history.specs.Briefs.{events_in}
use Rattle.nt_witness.specs.Limits.{some_is_cut}
use Rattle.nt_witness.proofs.Counts.{made_briefs}

-- one of a table is true
pub one_true : (n q : ℕ) (f : ℕ → Bool) → q < n → f q ≡ true → list_any (λ b. b) (table n f) ≡ true
one_true n q f low h =
    let long = length-table_from 0 n f in
    list_any_at (λ b. b) (table n f) q false (omega (arith, long, low)) (get_or-table n q f false low ∙ h)

-- a table that is false at each place has no place that is true
none_from : (k n : ℕ) (f : ℕ → Bool) → ((i : ℕ) → i < n → f (k + i) ≡ false) → list_any (λ b. b) (table_from k n f) ≡ false
unfolding table_from
none_from k zero f h = refl
none_from k (suc n) f h =
    let here : f k ≡ false = rw add-zero at (h 0 (omega arith)) in
    ap (λ (b : Bool). b || list_any (λ b. b) (table_from (suc k) n f)) here ∙ none_from (suc k) n f (λ i l. next i l)
  where
    next : (i : ℕ) → i < n → f (suc k + i) ≡ false
    next i l = let e : k + suc i ≡ suc k + i = omega arith in rw e at (h (suc i) (omega arith))

-- none of a table is true
pub none_true : (n : ℕ) (f : ℕ → Bool) → ((q : ℕ) → q < n → f q ≡ false) → list_any (λ b. b) (table n f) ≡ false
none_true n f h = none_from 0 n f (λ i l. let e : 0 + i ≡ i = omega arith in ap f e ∙ h i l)

-- ---- by counts of the events of briefs

module _ (limit p n m : ℕ) (rises : List Rises) (briefs : List Brief) (events : List Event) (are : events_in briefs rises ≡ events)
    (a : n ≡ limit) (b : m ≡ count_by (λ e. e.cpu.0 == p) briefs) where
  its : made (cpu p) (reverse events) ≡ m
  its = ap (λ (es : List Event). made (cpu p) (reverse es)) (sym are) ∙ (made_briefs p rises briefs ∙ sym b)

  -- a processor that made as many events as the limit makes the run cut
  pub cut_at : (s : Script) → p < s.cpus → n ≤ m → some_is_cut s limit (reverse events) ≡ true
  cut_at s low h =
      one_true s.cpus p (λ q. nat_le limit (made (cpu q) (reverse events))) low (le-leb limit (made (cpu p) (reverse events)) (omega (arith, a, its, h)))

  -- a processor that made fewer events than the limit is not cut, and neither are those before it
  pub before : m < n → ((q : ℕ) → q < p → nat_le limit (made (cpu q) (reverse events)) ≡ false) → (q : ℕ) → q < p + 1 →
      nat_le limit (made (cpu q) (reverse events)) ≡ false
  before h none q low = go (q == p) refl
    where
      go : (c : Bool) → (q == p) ≡ c → nat_le limit (made (cpu q) (reverse events)) ≡ false
      go true e =
          let same : q ≡ p = eqb-true q p e in
          subst (λ (r : ℕ). nat_le limit (made (cpu r) (reverse events)) ≡ false) (sym same)
          (lt-leb limit (made (cpu p) (reverse events)) (omega (arith, a, its, h)))
      go false e = none q (let other = eqb-false q p e in omega (arith, other, low))

-- if no processor below the number of processors has reached the limit, none is cut
pub none_is_cut : (s : Script) (limit p : ℕ) (past : List Event) → s.cpus ≤ p → ((q : ℕ) → q < p → nat_le limit (made (cpu q) past) ≡ false) →
    some_is_cut s limit past ≡ false
none_is_cut s limit p past most h =
    none_true s.cpus (λ q. nat_le limit (made (cpu q) past)) (λ q low. h q (omega (arith, low, most)))
