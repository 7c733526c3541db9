-- Two activities stand on two of a script's processors where a search over them says so.
use Rattle.std.proofs.Common.{ap, arith, subst, sym, ◌∙◌}
use Rattle.std.proofs.lemmas.Bool.{eq-eqb, eqb-true, ltb-true}
use Rattle.std.proofs.lemmas.List.Folds.{list_any_at}
use Rattle.std.specs.List.{list_any}
use Rattle.std.specs.Prelude.{Bool, List, None, [], false, get_or, length, nat_lt, refl, suc, true, zero, ℕ, ◌&&◌, ◌<◌, ◌==◌, ◌||◌, ◌∷◌, ◌≡◌, ◌≤◌}
use Rattle.nt_event.specs.declared.events.Event.{Event}
use Rattle.nt_event.specs.declared.numbers.CpuNo.{CpuNo}
use Rattle.nt_event.specs.declared.scripts.Script.{Script}
use Rattle.nt_event.specs.Frames.{own_frames, running}
use Rattle.nt_event.specs.Numbers.{cpu, is_of}
use Rattle.nt_event.specs.Step.{IsRun}
use Rattle.nt_event.proofs.Options.{both}
use Rattle.nt_event.proofs.Tables.{get_or-table, length-table_from}
use Rattle.nt_runs.proofs.Robin.{cpu_below, or_yes}
use Rattle.nt_cpu.specs.Runs.{state_of}
use Rattle.nt_cpu.specs.States.{CpuState}
use Rattle.nt_cpus.specs.Following.{cpus_of}
use Rattle.nt_expect.specs.declared.expectations.Activity.{Activity}
use Rattle.nt_expect.specs.declared.expectations.Activity.TheVariants as act
use Rattle.nt_expect.specs.Meaning.{StandTogether, stands_on}
use Rattle.nt_shows.specs.Standing.{StandAfter, stand_apart, stand_together, stands_at}
use Rattle.nt_shows.specs.Tells.{Tells}

-- ---- numbers and tests

-- a true flag makes its disjunction with any other true
or_here : (a b : Bool) → a ≡ true → (a || b) ≡ true
or_here true b h = refl
or_here false b h = absurd cc

-- true is not false
no : true ≡ false → ⊥
no h = cc

-- numbers that are not the same are unequal by the test
differ : (i j : ℕ) → (i ≡ j → ⊥) → (i == j) ≡ false
differ i j n = go (i == j) refl
  where
    go : (b : Bool) → (i == j) ≡ b → b ≡ false
    go true e = absurd (n (eqb-true i j e))
    go false e = refl

-- numbers that are unequal by the test are not the same
differing : (i j : ℕ) → (i == j) ≡ false → i ≡ j → ⊥
differing i j n e = no (sym (eq-eqb i j e) ∙ n)

-- ---- a search over a list

-- one of them has it
pub any_found : {A : Type 0} (f : A → Bool) (xs : List A) (d : A) → list_any f xs ≡ true → (i : ℕ) × (i < length xs) × (f (get_or xs i d) ≡ true)
any_found f [] d h = cc
any_found {A} f (x ∷ xs) d h = go (f x) refl (any_found f xs d) h
  where
    go : (b : Bool) → f x ≡ b → (list_any f xs ≡ true → (i : ℕ) × (i < length xs) × (f (get_or xs i d) ≡ true)) → (b || list_any f xs) ≡ true →
        (i : ℕ) × (i < length (x ∷ xs)) × (f (get_or (x ∷ xs) i d) ≡ true)
    go true e rest k = (0, omega arith, e)
    go false e rest k =
        let r = rest k in
        let low = r.1 in
        (suc r.0, omega (arith, low), r.2)

-- two places of the list where the two activities stand
record Places (x y : Activity) (cs : List CpuState) (d : CpuState) : Type 0 where
  i : ℕ
  j : ℕ
  low_i : i < length cs
  low_j : j < length cs
  apart : i ≡ j → ⊥
  here : stands_at x (get_or cs i d) ≡ true
  there : stands_at y (get_or cs j d) ≡ true

-- if one activity stands on the first processor and the other on a later one, both have their places
first_place : (x y : Activity) (c : CpuState) (cs : List CpuState) (d : CpuState) → stand_apart x y c cs ≡ true → Places x y (c ∷ cs) d
first_place x y c cs d h =
    let t = both (stands_at x c) (list_any (stands_at y) cs) h in
    let r = any_found (stands_at y) cs d t.1 in
    let low = r.1 in
    record { i = 0; j = suc r.0; low_i = omega arith; low_j = omega (arith, low); apart = λ e. omega (arith, e); here = t.0; there = r.2 }

-- places of two activities in one order are places of them in the other order
turned : (x y : Activity) (cs : List CpuState) (d : CpuState) → Places y x cs d → Places x y cs d
turned x y cs d r =
    record { i = r.j; j = r.i; low_i = r.low_j; low_j = r.low_i; apart = λ e. r.apart (sym e); here = r.there; there = r.here }

-- places of two activities on the later processors are places of them on all
later_place : (x y : Activity) (c : CpuState) (cs : List CpuState) (d : CpuState) → Places x y cs d → Places x y (c ∷ cs) d
later_place x y c cs d r =
    let low_i = r.low_i in
    let low_j = r.low_j in
    record {
      i = suc r.i;
      j = suc r.j;
      low_i = omega (arith, low_i);
      low_j = omega (arith, low_j);
      apart = λ e. r.apart (omega (arith, e));
      here = r.here;
      there = r.there;
    }

-- if a search finds two activities together, both have places on two different processors
found : (x y : Activity) (cs : List CpuState) (d : CpuState) → stand_together x y cs ≡ true → Places x y cs d
found x y [] d h = cc
found x y (c ∷ cs) d h = go (stand_apart x y c cs) (stand_apart y x c cs) refl refl (found x y cs d) h
  where
    go : (a b : Bool) → stand_apart x y c cs ≡ a → stand_apart y x c cs ≡ b → (stand_together x y cs ≡ true → Places x y cs d) →
        (a || (b || stand_together x y cs)) ≡ true → Places x y (c ∷ cs) d
    go true b e f rest k = first_place x y c cs d e
    go false true e f rest k = turned x y (c ∷ cs) d (first_place y x c cs d f)
    go false false e f rest k = later_place x y c cs d (rest k)

-- if one activity stands on the first processor and the other on a later one, the search finds it
first_apart : (x y : Activity) (c : CpuState) (cs : List CpuState) (d : CpuState) (j : ℕ) → j < length cs → stands_at x c ≡ true →
    stands_at y (get_or cs j d) ≡ true → stand_apart x y c cs ≡ true
first_apart x y c cs d j low here there = both_yes (stands_at x c) (list_any (stands_at y) cs) here (list_any_at (stands_at y) cs j d low there)
  where
    both_yes : (a b : Bool) → a ≡ true → b ≡ true → (a && b) ≡ true
    both_yes true b h k = k
    both_yes false b h k = absurd cc

-- where they stand at two places, the search says so
standing : (x y : Activity) (cs : List CpuState) (d : CpuState) (i j : ℕ) → i < length cs → j < length cs → (i ≡ j → ⊥) →
    stands_at x (get_or cs i d) ≡ true → stands_at y (get_or cs j d) ≡ true → stand_together x y cs ≡ true
standing x y [] d i j low_i low_j apart here there = absurd (omega (arith, low_i))
standing x y (c ∷ cs) d zero zero low_i low_j apart here there = absurd (apart refl)
standing x y (c ∷ cs) d zero (suc j) low_i low_j apart here there =
    or_here (stand_apart x y c cs) (stand_apart y x c cs || stand_together x y cs) (first_apart x y c cs d j (omega (arith, low_j)) here there)
standing x y (c ∷ cs) d (suc i) zero low_i low_j apart here there =
    or_yes (stand_apart x y c cs) (stand_apart y x c cs || stand_together x y cs)
    (or_here (stand_apart y x c cs) (stand_together x y cs) (first_apart y x c cs d i (omega (arith, low_i)) there here))
standing x y (c ∷ cs) d (suc i) (suc j) low_i low_j apart here there =
    or_yes (stand_apart x y c cs) (stand_apart y x c cs || stand_together x y cs)
    (or_yes (stand_apart y x c cs) (stand_together x y cs)
    (standing x y cs d i j (omega (arith, low_i)) (omega (arith, low_j)) (λ e. apart (ap suc e)) here there))

-- ---- the processors of a run

-- an event of a run is of none but the script's processors
not_of : (s : Script) (limit : ℕ) (e : Event) (past : List Event) (p : CpuNo) → IsRun s limit (e ∷ past) → s.cpus ≤ p.0 → is_of e p ≡ false
not_of s limit e past p run high =
    let low = cpu_below s limit e past run.0 in differ e.cpu.0 p.0 (λ k. omega (arith, low, high, k))

-- in a run a processor beyond those of the script has no frames of its own
own_none : (s : Script) (limit : ℕ) (past : List Event) (p : CpuNo) → IsRun s limit past → s.cpus ≤ p.0 → own_frames p past ≡ []
own_none s limit [] p run high = refl
own_none s limit (e ∷ past) p run high =
    let off = not_of s limit e past p run high in rw off (own_none s limit past p run.1 high)

-- in a run a processor beyond those of the script runs no thread
running_none : (s : Script) (limit : ℕ) (past : List Event) (p : CpuNo) → IsRun s limit past → s.cpus ≤ p.0 → running p past ≡ None
running_none s limit [] p run high = refl
running_none s limit (e ∷ past) p run high =
    let off = not_of s limit e past p run high in rw off (running_none s limit past p run.1 high)

-- so nothing stands on another one
nowhere : (s : Script) (limit : ℕ) (past : List Event) (x : Activity) (p : CpuNo) → IsRun s limit past → s.cpus ≤ p.0 → stands_on s x p past ≡ false
nowhere s limit past x p run high =
    let own = own_none s limit past p run high in
    let idle = running_none s limit past p run high in
    go x own idle
  where
    go : (x : Activity) → own_frames p past ≡ [] → running p past ≡ None → stands_on s x p past ≡ false
    go (act.Int level) own idle = rw (own, idle) refl
    go (act.Dpc d) own idle = rw (own, idle) refl
    go (act.Apc a) own idle = rw (own, idle) refl
    go (act.Thread t) own idle = rw idle refl

-- what stands on the processor of a run, stands in its frames
on_is : (s : Script) (limit : ℕ) (past : List Event) (x : Activity) (p : CpuNo) → stands_at x (state_of s p limit past) ≡ stands_on s x p past
on_is s limit past (act.Int level) p = refl
on_is s limit past (act.Dpc d) p = refl
on_is s limit past (act.Apc a) p = refl
on_is s limit past (act.Thread t) p = refl

module _ (s : Script) (limit : ℕ) (past : List Event) (run : IsRun s limit past) where
  abbrev state : ℕ → CpuState
  state p = state_of s (cpu p) limit past

  abbrev all : List CpuState
  all = cpus_of s limit past

  size : length all ≡ s.cpus
  size = length-table_from 0 s.cpus state

  at : (x : Activity) (p : ℕ) → p < s.cpus → stands_at x (get_or all p (state 0)) ≡ stands_on s x (cpu p) past
  at x p low = ap (stands_at x) (get_or-table s.cpus p state (state 0) low) ∙ on_is s limit past x (cpu p)

  -- what stands on a processor, stands on one of the script's
  below : (x : Activity) (p : CpuNo) → stands_on s x p past ≡ true → p.0 < s.cpus
  below x p on = go (nat_lt p.0 s.cpus) refl
    where
      clash : stands_on s x p past ≡ false → ⊥
      clash e = absurd cc

      go : (b : Bool) → nat_lt p.0 s.cpus ≡ b → p.0 < s.cpus
      go true e = ltb-true p.0 s.cpus e
      go false e = absurd (clash (nowhere s limit past x p run (grind (arith, e))))

  together : (x y : Activity) → stand_together x y all ≡ true → StandTogether s x y past
  together x y h =
      let r = found x y all (state 0) h in
      let low_i = r.low_i in
      let low_j = r.low_j in
      let count = size in
      record {
        p = cpu r.i;
        q = cpu r.j;
        apart = differ r.i r.j r.apart;
        here = sym (at x r.i (omega (arith, low_i, count))) ∙ r.here;
        there = sym (at y r.j (omega (arith, low_j, count))) ∙ r.there;
      }

  apart : (x y : Activity) → StandTogether s x y past → stand_together x y all ≡ true
  apart x y h =
      let low_p = below x h.p h.here in
      let low_q = below y h.q h.there in
      let count = size in
      standing x y all (state 0) h.p.0 h.q.0 (omega (arith, low_p, count)) (omega (arith, low_q, count)) (differing h.p.0 h.q.0 h.apart)
      (at x h.p.0 low_p ∙ h.here) (at y h.q.0 low_q ∙ h.there)

  tells : (x y : Activity) → Tells (stand_together x y all) (StandTogether s x y past)
  tells x y = go (stand_together x y all) refl
    where
      clash : stand_together x y all ≡ false → stand_together x y all ≡ true → ⊥
      clash e f = absurd cc

      go : (b : Bool) → stand_together x y all ≡ b → Tells b (StandTogether s x y past)
      go true e = together x y e
      go false e = λ h. clash e (apart x y h)

-- a search over the processors tells whether two activities stand on two of them after the history
pub together_tells : (s : Script) (past : List Event) (cpus : List CpuState) (x y : Activity) (b : Bool) → b ≡ stand_together x y cpus →
    StandAfter s past cpus → Tells b (StandTogether s x y past)
together_tells s past cpus x y b e h =
    subst (λ (c : Bool). Tells c (StandTogether s x y past)) (sym (e ∙ ap (stand_together x y) h.every)) (tells s h.limit past h.run x y)
