-- What is noticed of each class after an event that touches no lane.
use Rattle.std.proofs.Common.{◌∙◌}
use Rattle.std.specs.Prelude.{None, Option, Some, false, if◌then◌else◌, refl, true, ℕ, ◌&&◌, ◌+◌, ◌==◌, ◌≡◌}
use Rattle.nt_event.specs.declared.events.Rises.{Rises}
use Rattle.nt_event.specs.declared.events.What.{What}
use Rattle.nt_event.specs.declared.events.What.TheVariants.{Look}
use Rattle.nt_event.specs.declared.numbers.CpuNo.{CpuNo}
use Rattle.nt_cpu.specs.Alone.{noticed}
use Rattle.nt_event.specs.declared.class.Asked.{Asked}

-- what a processor notices by an event that is no look is its own request
asked_is : (p : CpuNo) (w : What) (a : Asked) (n k : ℕ) → ((r : Rises) → w ≡ Look r → ⊥) → noticed p w (Some a) n k
    ≡ (if (a.cpu.0 == p.0) && (a.class == k) then n + 1 else 0)
asked_is p (Look r) a n k h = absurd (h r refl)
asked_is p _ a n k h = refl

-- the ask of another processor is not noticed
pub noticed_else : (p : CpuNo) (w : What) (a : Asked) (n k : ℕ) → ((r : Rises) → w ≡ Look r → ⊥) → (a.cpu.0 == p.0) ≡ false → noticed p w (Some a) n k ≡ 0
noticed_else p w a n k h e = asked_is p w a n k h ∙ rw e refl

-- its own is
pub noticed_own : (p : CpuNo) (w : What) (a : Asked) (n k : ℕ) → ((r : Rises) → w ≡ Look r → ⊥) → (a.cpu.0 == p.0) ≡ true → noticed p w (Some a) n k
    ≡ (if a.class == k then n + 1 else 0)
noticed_own p w a n k h e = asked_is p w a n k h ∙ rw e refl

-- nothing is noticed of what asks nobody
pub noticed_nothing : (p : CpuNo) (w : What) (n k : ℕ) → ((r : Rises) → w ≡ Look r → ⊥) → noticed p w None n k ≡ 0
noticed_nothing p (Look r) n k h = absurd (h r refl)
noticed_nothing p _ n k h = refl

-- nothing is noticed where no class is asked for
pub noticed_unasked : (p : CpuNo) (w : What) (o : Option Asked) (n k : ℕ) → ((r : Rises) → w ≡ Look r → ⊥) → ((a : Asked) → o ≡ Some a → ⊥) →
    noticed p w o n k ≡ 0
noticed_unasked p w None n k h i = noticed_nothing p w n k h
noticed_unasked p w (Some a) n k h i = absurd (i a refl)
