-- The next ready thread is found in one pass.
use Rattle.std.proofs.Common.{◌≡◌, ◌∙◌, ◌∷◌, [], Bool, List, None, Option, Some, ap, false, if◌then◌else◌, is_some, not, refl, suc, true, ℕ, ◌&&◌, ◌==◌}
use Rattle.std.specs.Option.{option_or}
use Rattle.std.specs.Prelude.{find}
use Rattle.nt_event.specs.declared.numbers.CpuNo.{CpuNo}
use Rattle.nt_event.specs.declared.numbers.ThreadNo.{ThreadNo}
use Rattle.nt_event.specs.declared.scripts.ThreadDecl.{ThreadDecl}
use Rattle.nt_event.specs.Jobs.{is_after, ready_from}
use Rattle.nt_event.specs.Lanes.{Lanes, facts_at}
use Rattle.nt_event.specs.Threads.{is_ready}
use Rattle.nt_event.specs.Lists.{head_of, is_null}
use Rattle.nt_event.specs.Numbers.{thread}

-- what is left of the pass from this number on, where `first` is the first one so far
abbrev pub next_from : CpuNo → ℕ → List ThreadDecl → Lanes → Option ThreadNo → Option ThreadNo → Option ThreadNo
next_from p n xs l last first =
    option_or (find (is_after last) (ready_from p n xs l)) (option_or first (head_of (ready_from p n xs l)))

-- a thread that may not be taken is passed over
pub passes : (p : CpuNo) (n : ℕ) (x : ThreadDecl) (xs : List ThreadDecl) (l : Lanes) (last first : Option ThreadNo) →
    ((x.cpu.0 == p.0) && is_ready (facts_at l (thread n))) ≡ false → next_from p n (x ∷ xs) l last first ≡ next_from p (suc n) xs l last first
passes p n x xs l last first h =
    ap (λ (b : Bool). let ts = (if b then (thread n ∷ ready_from p (suc n) xs l) else ready_from p (suc n) xs l) in
    option_or (find (is_after last) ts) (option_or first (head_of ts))) h

-- the first one after the last is the answer
pub answers_it : (p : CpuNo) (n : ℕ) (x : ThreadDecl) (xs : List ThreadDecl) (l : Lanes) (last first : Option ThreadNo) →
    ((x.cpu.0 == p.0) && is_ready (facts_at l (thread n))) ≡ true → is_after last (thread n) ≡ true → next_from p n (x ∷ xs) l last first ≡ Some (thread n)
answers_it p n x xs l last first h k =
    ap (λ (b : Bool). let ts = (if b then (thread n ∷ ready_from p (suc n) xs l) else ready_from p (suc n) xs l) in
    option_or (find (is_after last) ts) (option_or first (head_of ts))) h
    ∙ ap (λ (b : Bool). option_or (if b then Some (thread n) else find (is_after last) (ready_from p (suc n) xs l)) (option_or first (Some (thread n)))) k

-- an option after the first ready thread found is never looked at
or_first : (o first : Option ThreadNo) (t : ThreadNo) (r : Option ThreadNo) → option_or o (option_or first (Some t))
    ≡ option_or o (option_or (option_or first (Some t)) r)
or_first o None t r = refl
or_first o (Some u) t r = refl

-- one that isn't after the last is the first one, where there is none so far
pub keeps_it : (p : CpuNo) (n : ℕ) (x : ThreadDecl) (xs : List ThreadDecl) (l : Lanes) (last first : Option ThreadNo) →
    ((x.cpu.0 == p.0) && is_ready (facts_at l (thread n))) ≡ true → is_after last (thread n) ≡ false → next_from p n (x ∷ xs) l last first
    ≡ next_from p (suc n) xs l last (option_or first (Some (thread n)))
keeps_it p n x xs l last first h k =
    ap (λ (b : Bool). let ts = (if b then (thread n ∷ ready_from p (suc n) xs l) else ready_from p (suc n) xs l) in
    option_or (find (is_after last) ts) (option_or first (head_of ts))) h
    ∙ (ap (λ (b : Bool). option_or (if b then Some (thread n) else find (is_after last) (ready_from p (suc n) xs l)) (option_or first (Some (thread n)))) k
    ∙ or_first (find (is_after last) (ready_from p (suc n) xs l)) first (thread n) (head_of (ready_from p (suc n) xs l)))

-- when no thread is left to pass, the answer is the first ready one found so far
pub ends_with : (p : CpuNo) (n : ℕ) (l : Lanes) (last first : Option ThreadNo) → next_from p n [] l last first ≡ first
ends_with p n l last None = refl
ends_with p n l last (Some t) = refl

-- some thread is ready where the pass finds one
pub some_ready : (ts : List ThreadNo) → is_some (option_or (find (is_after None) ts) (head_of ts)) ≡ not (is_null ts)
some_ready [] = refl
some_ready (t ∷ ts) = refl
