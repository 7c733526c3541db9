-- The next ready thread of a processor may be taken up.
use Rattle.std.proofs.Common.{ap, arith}
use Rattle.std.proofs.lemmas.Bool.{lt-ltb}
use Rattle.std.proofs.lemmas.Option.{slice_get_within}
use Rattle.std.specs.Option.{option_map_or}
use Rattle.std.specs.Prelude.{Bool, List, Option, Some, [], cond, false, find, if◌then◌else◌, length, nat_lt, refl, slice_get, suc, true, ℕ, ◌&&◌, ◌+◌, ◌==◌}
use Rattle.std.specs.Prelude.{◌∷◌, ◌≡◌}
use Rattle.nt_event.specs.declared.numbers.CpuNo.{CpuNo}
use Rattle.nt_event.specs.declared.numbers.ThreadNo.{ThreadNo}
use Rattle.nt_event.specs.declared.scripts.Script.{Script}
use Rattle.nt_event.specs.declared.scripts.ThreadDecl.{ThreadDecl}
use Rattle.nt_event.specs.Jobs.{is_after, may_take, next_ready, ready, ready_from}
use Rattle.nt_event.specs.Lanes.{Lanes, facts_at}
use Rattle.nt_event.specs.Routines.{cpu_of}
use Rattle.nt_event.specs.Threads.{is_ready}
use Rattle.nt_event.specs.Numbers.{cpu, thread}
use Rattle.nt_event.specs.Lists.{head_of}
use Rattle.nt_event.proofs.Options.{Holds, both, holds_or}

abbrev AllReady : Script → CpuNo → Lanes → List ThreadNo → Type 0
AllReady s p l [] = Unit {0}
AllReady s p l (t ∷ ts) = (may_take s p t l ≡ true) × AllReady s p l ts

-- a processor may take up a thread that is declared on it and is ready
takes_ready : (s : Script) (p : CpuNo) (l : Lanes) (n : ℕ) (x : ThreadDecl) → slice_get s.threads n ≡ Some x →
    ((x.cpu.0 == p.0) && is_ready (facts_at l (thread n))) ≡ true → may_take s p (thread n) l ≡ true
takes_ready s p l n x e h =
    let k = both (x.cpu.0 == p.0) (is_ready (facts_at l (thread n))) h in
    let within : nat_lt n (length s.threads) ≡ true = lt-ltb n (length s.threads) (slice_get_within s.threads n x e) in
    let own : cpu_of s (thread n) ≡ x.cpu = ap (λ (o : Option ThreadDecl). option_map_or (λ (y : ThreadDecl). y.cpu) o (cpu 0)) e in
    rw (within, own, k.0, k.1) refl

-- a processor may take up each thread of its ready list, from any thread number on
ready_all : (s : Script) (p : CpuNo) (l : Lanes) (n : ℕ) (xs : List ThreadDecl) → ((i : ℕ) → slice_get s.threads (n + i) ≡ slice_get xs i) →
    AllReady s p l (ready_from p n xs l)
ready_all s p l n [] h = tt
ready_all s p l n (x ∷ xs) h =
    go ((x.cpu.0 == p.0) && is_ready (facts_at l (thread n))) refl (ready_all s p l (suc n) xs next)
  where
    next : (i : ℕ) → slice_get s.threads (suc n + i) ≡ slice_get xs i
    next i = let e : suc n + i ≡ n + suc i = omega arith in rw e (h (suc i))

    here : slice_get s.threads n ≡ Some x
    here = let e : n + 0 ≡ n = omega arith in rw e at (h 0)

    go : (b : Bool) → ((x.cpu.0 == p.0) && is_ready (facts_at l (thread n))) ≡ b → AllReady s p l (ready_from p (suc n) xs l) →
        AllReady s p l (if b then (thread n ∷ ready_from p (suc n) xs l) else ready_from p (suc n) xs l)
    go true e more = (takes_ready s p l n x here e, more)
    go false e more = more

-- a thread that a search finds among threads that may be taken up may be taken up
find_ready : (s : Script) (p : CpuNo) (l : Lanes) (test : ThreadNo → Bool) (ts : List ThreadNo) → AllReady s p l ts →
    Holds (λ t. may_take s p t l ≡ true) (find test ts)
find_ready s p l test [] h = tt
find_ready s p l test (t ∷ ts) h = go (test t) (find_ready s p l test ts h.1)
  where
    go : (b : Bool) → Holds (λ t. may_take s p t l ≡ true) (find test ts) → Holds (λ t. may_take s p t l ≡ true) (cond b (Some t) (find test ts))
    go true k = h.0
    go false k = k

-- the first of a list of threads that may all be taken up may be taken up
head_ready : (s : Script) (p : CpuNo) (l : Lanes) (ts : List ThreadNo) → AllReady s p l ts → Holds (λ t. may_take s p t l ≡ true) (head_of ts)
head_ready s p l [] h = tt
head_ready s p l (t ∷ ts) h = h.0

-- the next ready thread may be taken up
pub next_ready_taken : (s : Script) (p : CpuNo) (last : Option ThreadNo) (l : Lanes) → Holds (λ t. may_take s p t l ≡ true) (next_ready s p last l)
next_ready_taken s p last l =
    let all : AllReady s p l (ready s p l) = ready_all s p l 0 s.threads (λ i. let e : 0 + i ≡ i = omega arith in rw e refl) in
    holds_or (λ t. may_take s p t l ≡ true) (find (is_after last) (ready s p l)) (head_of (ready s p l)) (find_ready s p l (is_after last) (ready s p l) all)
    (λ e. head_ready s p l (ready s p l) all)
