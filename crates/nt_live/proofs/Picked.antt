-- The history by numbers: at each number the event that drew it.
use Rattle.std.proofs.Common.{ap, arith, subst, sym, ◌∙◌}
use Rattle.std.proofs.lemmas.Bool.{eq-eqb, eqb-true, ltb-false, ltb-true}
use Rattle.std.specs.Prelude.{Bool, Contains, List, [], false, if◌then◌else◌, length, nat_lt, refl, suc, true, zero, ℕ, ◌++◌, ◌<◌, ◌∷◌, ◌≡◌, ◌≤◌}
use Rattle.nt_event.specs.declared.numbers.CpuNo.{CpuNo}
use Rattle.nt_event.specs.declared.scripts.Script.{Script}
use Rattle.nt_event.specs.Numbers.{is_of}
use Rattle.nt_mark.specs.declared.view.Entry.{Entry}
use Rattle.nt_mark.specs.declared.view.View.{View}
use Rattle.nt_mark.specs.Closing.{IsEachOnce}
use Rattle.nt_mark.specs.Views.{entry_numbers}
use Rattle.nt_compose.specs.Composition.{Placed}
use Rattle.nt_compose.specs.Parts.{IsTail, Numbered, part}
use Rattle.nt_live.specs.Gathering.{AreTogether}
use Rattle.nt_live.specs.Workers.{AreBelow, AreSteps, IsStep, drawn_of}
use Rattle.nt_live.proofs.Falling.{Falls, below, below_all, below_it, below_with, below_zero, no_tail, none_between, step_at, steps_fall, tail_at}
use Rattle.nt_live.proofs.Once.{number_below, one_with, the_one}

module _ (s : Script) (limit : ℕ) (v : View) (mine : CpuNo → List Numbered) (t : AreTogether s limit v mine) where
  -- a processor with an event is one of the script's
  pub inside : (p : CpuNo) (m : Numbered) (past : List Numbered) → IsTail (m ∷ past) (mine p) → p.0 < s.cpus
  inside p m past h = go (nat_lt p.0 s.cpus) refl
    where
      go : (b : Bool) → nat_lt p.0 s.cpus ≡ b → p.0 < s.cpus
      go true e = ltb-true p.0 s.cpus e
      go false e = absurd (no_tail m past (subst (IsTail (m ∷ past)) (t.others p (ltb-false p.0 s.cpus e)) h))

  -- each event of a processor's list is a step of the processor after those before it in the list
  pub step_in : (p : CpuNo) (m : Numbered) (past : List Numbered) → IsTail (m ∷ past) (mine p) → IsStep s limit p v m past
  step_in p m past h =
      step_at s limit p v h.0 m past (subst (AreSteps s limit p v) h.1 (t.made p (inside p m past h)).steps)

  falls_in : (p : CpuNo) (m : Numbered) (past : List Numbered) → IsTail (m ∷ past) (mine p) → Falls (mine p)
  falls_in p m past h = steps_fall s limit p v (mine p) (t.made p (inside p m past h)).steps

  -- its entry
  pub entry_in : (p : CpuNo) (m : Numbered) (past : List Numbered) → IsTail (m ∷ past) (mine p) → Contains v.entries (drawn_of s p m past)
  entry_in p m past h = (step_in p m past h).found.drawn

  module _ (n : ℕ) (once : IsEachOnce n (entry_numbers v.entries)) where
    -- two events of one number are of one processor
    one_cpu : (p q : CpuNo) (a b : Numbered) (ps qs : List Numbered) → IsTail (a ∷ ps) (mine p) → IsTail (b ∷ qs) (mine q) → a.number ≡ b.number → p ≡ q
    one_cpu p q a b ps qs h k e =
        let same = the_one (λ (e : Entry). e.number) n v.entries once (drawn_of s p a ps) (drawn_of s q b qs) (entry_in p a ps h) (entry_in q b qs k) e in
        sym (step_in p a ps h).cpu ∙ (ap (λ (e : Entry). e.event.cpu) same ∙ (step_in q b qs k).cpu)

    all_below : (p : CpuNo) → AreBelow n (mine p)
    all_below p m h =
        let a = tail_at (mine p) m h in
        number_below (λ (e : Entry). e.number) n v.entries once (drawn_of s p m a.0) (entry_in p m a.0 a.1)

    -- the events below a number
    pub record Made (k : ℕ) : Type 0 where
      pub history : List Placed
      pub count : length history ≡ k
      pub parts : (p : CpuNo) → part p history ≡ below k (mine p)

    -- one more
    more : (k : ℕ) → Made k → (by : CpuNo) (m : Numbered) (past : List Numbered) → IsTail (m ∷ past) (mine by) → m.number ≡ k → Made (suc k)
    more k r by m past h is = record { history = m.placed ∷ r.history; count = ap suc r.count; parts = λ p. go p (is_of m.placed.event p) refl }
      where
        its : m.placed.event.cpu ≡ by
        its = (step_in by m past h).cpu

        falls : Falls (h.0 ++ m ∷ past)
        falls = subst Falls h.1 (falls_in by m past h)

        here : record { number = length r.history; placed = m.placed } ≡ m
        here = ap (λ (j : ℕ). record { number = j; placed = m.placed }) (r.count ∙ sym is)

        old : part by r.history ≡ past
        old = r.parts by ∙ (ap (λ (j : ℕ). below j (mine by)) (sym is) ∙ (ap (below m.number) h.1 ∙ below_it h.0 m past falls))

        new : below (suc k) (mine by) ≡ m ∷ past
        new = ap (λ (j : ℕ). below (suc j) (mine by)) (sym is) ∙ (ap (below (suc m.number)) h.1 ∙ below_with h.0 m past falls)

        own : record { number = length r.history; placed = m.placed } ∷ part by r.history ≡ below (suc k) (mine by)
        own = ap (λ (z : Numbered). z ∷ part by r.history) here ∙ (ap (λ (zs : List Numbered). m ∷ zs) old ∙ sym new)

        go : (p : CpuNo) (b : Bool) → is_of m.placed.event p ≡ b →
            (if b then (record { number = length r.history; placed = m.placed } ∷ part p r.history) else part p r.history) ≡ below (suc k) (mine p)
        go p true e =
            let same : by ≡ p = sym its ∙ ap (λ (j : ℕ). record { 0 = j }) (eqb-true m.placed.event.cpu.0 p.0 e) in
            subst (λ (p : CpuNo). record { number = length r.history; placed = m.placed } ∷ part p r.history ≡ below (suc k) (mine p)) same own
        go p false e = r.parts p ∙ sym (none_between k (mine p) none)
          where
            none : (x : Numbered) → Contains (mine p) x → x.number ≡ k → ⊥
            none x c d =
                let a = tail_at (mine p) x c in
                let same : by ≡ p = one_cpu by p m x past a.0 h a.1 (is ∙ sym d) in
                let yes : is_of m.placed.event p ≡ true = eq-eqb m.placed.event.cpu.0 p.0 (ap (λ (q : CpuNo). q.0) (its ∙ same)) in
                let clash : false ≡ true = sym e ∙ yes in
                cc

    made : (k : ℕ) → k ≤ n → Made k
    made zero l = record { history = []; count = refl; parts = λ p. sym (below_zero (mine p)) }
    made (suc k) l =
        let e = one_with (λ (e : Entry). e.number) n v.entries once k (omega (arith, l)) in
        let d = t.entries e.0 e.1 in
        more k (made k (omega (arith, l))) d.by d.event d.before d.is_in (ap (λ (e : Entry). e.number) (sym d.is) ∙ e.2)

    -- all of them
    pub picked : (h : List Placed) × (length h ≡ n) × ((p : CpuNo) → part p h ≡ mine p)
    picked =
        let r = made n (omega arith) in
        (r.history, r.count, λ p. r.parts p ∙ below_all n (mine p) (all_below p))
