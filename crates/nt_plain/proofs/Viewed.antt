-- What the calls of a floor do to its view.
use Rattle.std.proofs.Common.{ap, arith, eqb, inl, inr, sym, ◌∙◌}
use Rattle.std.proofs.lemmas.Bool.{cases_eq, eq-eqb, eqb-true, ne_eqb}
use Rattle.std.specs.Prelude.{Bool, false, if◌then◌else◌, max, refl, true, ℕ, ◌&&◌, ◌+◌, ◌-◌, ◌<◌, ◌==◌, ◌||◌, ◌≡◌, ◌≤◌, ◌⊎◌}
use Rattle.nt_event.specs.declared.events.Event.{Event}
use Rattle.nt_event.specs.declared.numbers.CpuNo.{CpuNo}
use Rattle.nt_event.specs.Requests.{is_ask}
use Rattle.nt_floor.specs.Views.{HasWord, IsDrawn, IsLooked, IsMarked, is_word}
use Rattle.nt_plain.specs.Made.{IsKept, drawn, marked}
use Rattle.nt_plain.specs.Places.{is_marked, value_in}
use Rattle.nt_plain.specs.States.{PlainState, view_of}
use Rattle.nt_plain.proofs.Writes.{AskWithin, mark_one, word_one}

-- a kept floor with a number left draws its next number, and contracts see it drawn
pub is_drawn : (f g : PlainState) (e : Event) (n : ℕ) → IsKept f → 1 ≤ f.limit - f.next → n ≡ f.next → g ≡ drawn f → IsDrawn n e (view_of f) (view_of g)
is_drawn f g e n kept room number state =
    rw (number, state) (record {
      least = omega arith;
      exact = λ h. refl;
      fits = omega (arith, kept.limit);
      next = refl;
      drawable = omega (arith, kept.next);
      lists = refl;
      value = λ p c h. refl;
      marked = λ k p c h. refl;
      same = record { cpus = refl; alone = refl; states = refl; told = λ x p c h. refl };
    })

-- the value of a word of a kept floor is what contracts see a look give
pub is_looked : (f : PlainState) (p : CpuNo) (c a : ℕ) → IsKept f → HasWord (view_of f) p c → a ≡ value_in f.asked p c → IsLooked p c a (view_of f) (view_of f)
is_looked f p c a kept word is =
    rw is (record {
      least = omega arith;
      exact = λ h. refl;
      next = (omega arith, kept.asked p c word.0 word.1);
      next_exact = λ h. refl;
      drawable = refl;
      lists = refl;
      value = λ q d h. looked q d (q.0 == p.0) refl (d == c) refl;
      marked = λ k q d h. refl;
      same = record { cpus = refl; alone = refl; states = refl; told = λ x q d h. refl };
    })
  where
    looked : (q : CpuNo) (d : ℕ) (s : Bool) → (q.0 == p.0) ≡ s → (t : Bool) → (d == c) ≡ t → value_in f.asked q d
        ≡ (if s && t then value_in f.asked p c else value_in f.asked q d)
    looked q d true h true i = rw (eqb-true q.0 p.0 h, eqb-true d c i) refl
    looked q d true h false i = refl
    looked q d false h t i = refl

-- testing numbers for equality is symmetric
eqb_turned : (a b : ℕ) → eqb a b ≡ eqb b a
eqb_turned a b = go (cases_eq a b)
  where
    go : (a ≡ b) ⊎ (a ≡ b → ⊥) → eqb a b ≡ eqb b a
    go (inl e) = eq-eqb a b e ∙ sym (eq-eqb b a (sym e))
    go (inr e) = ne_eqb a b e ∙ sym (ne_eqb b a (λ h. e (sym h)))

-- a word is marked where its request is
word_asked : (p : CpuNo) (c : ℕ) (q : CpuNo) (d : ℕ) → is_ask q d (record { cpu = p; class = c }) ≡ is_word p c q d
word_asked p c q d = rw (eqb_turned p.0 q.0, eqb_turned c d) refl

-- marking an event of a drawn number for a class on a processor is seen by contracts as that mark
pub is_marked_so : (f g : PlainState) (p : CpuNo) (c n : ℕ) → IsKept f → HasWord (view_of f) p c → n < f.next → g ≡ marked p c n f →
    IsMarked p c n (view_of f) (view_of g)
is_marked_so f g p c n kept word low state =
    rw state (record {
      next = refl;
      drawable = refl;
      lists = refl;
      value = λ q d h. word_one f.script.cpus (n + 1) (record { cpu = p; class = c }) f.asked q d kept.asked_length within h.1
          ∙ ap (λ (b : Bool). if b then max (value_in f.asked q d) (n + 1) else value_in f.asked q d) (word_asked p c q d);
      marked = λ k q d h. mark_one f.script.cpus f.limit n (record { cpu = p; class = c }) f.marks k q d kept.marks_length
          (omega (arith, kept.next)) within h.0 ∙ ap (λ (b : Bool). is_marked f.script.cpus f.marks k q d || ((k == n) && b)) (word_asked p c q d);
      same = record { cpus = refl; alone = refl; states = refl; told = λ x q d h. refl };
    })
  where
    within : AskWithin f.script.cpus (record { cpu = p; class = c })
    within = record { cpu = word.0; class = word.1 }
