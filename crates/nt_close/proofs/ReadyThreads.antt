-- In a run, a processor that rests with a ready thread is asked to switch; and at the close no thread is left ready or running.
use Rattle.std.proofs.Common.{ap, arith, sym, ◌∙◌}
use Rattle.std.proofs.lemmas.Bool.{both_ways, eq-eqb, ltb-true}
use Rattle.std.specs.Option.{option_map_or}
use Rattle.std.specs.Prelude.{Bool, List, None, Option, Some, [], false, if◌then◌else◌, length, refl, slice_get, suc, true, zero, ℕ, ◌&&◌, ◌+◌, ◌<◌, ◌==◌, ◌∷◌}
use Rattle.std.specs.Prelude.{◌≡◌}
use Rattle.nt_event.specs.declared.events.Event.{Event}
use Rattle.nt_event.specs.declared.events.What.TheVariants.{Rest}
use Rattle.nt_event.specs.declared.numbers.CpuNo.{CpuNo}
use Rattle.nt_event.specs.declared.numbers.ThreadNo.{ThreadNo}
use Rattle.nt_event.specs.declared.scripts.Script.{Script}
use Rattle.nt_event.specs.declared.scripts.ThreadDecl.{ThreadDecl}
use Rattle.nt_event.specs.declared.threads.Doing.{Doing}
use Rattle.nt_event.specs.declared.threads.Doing.TheVariants.{Blocked as IsBlocked, Gone as IsGone, Ready as IsReady, Running as IsRunning}
use Rattle.nt_event.specs.Frames.{running, thread_frames}
use Rattle.nt_event.specs.Jobs.{ready, ready_from, rests}
use Rattle.nt_event.specs.Lanes.{Lanes, facts_at, lanes_at}
use Rattle.nt_runs.specs.Laws.{Says}
use Rattle.nt_event.specs.Own.{own_of, rested}
use Rattle.nt_event.specs.Regions.{stand_at}
use Rattle.nt_event.specs.Routines.{cpu_of}
use Rattle.nt_event.specs.Script.{has_thread}
use Rattle.nt_event.specs.Step.{IsRun}
use Rattle.nt_event.specs.Threads.{is_ready, ready_doing}
use Rattle.nt_event.specs.Waits.{facts, is_of_thread, named_facts}
use Rattle.nt_event.specs.Numbers.{cpu, is_by, is_of, thread}
use Rattle.nt_event.specs.Lists.{is_null}
use Rattle.nt_runs.proofs.Facts.{agree}
use Rattle.nt_runs.proofs.Rundown.Steps.{facts_there}
use Rattle.nt_thread.proofs.Events.{facts-by, facts-named}
use Rattle.nt_close.specs.Close.{IsClosed, IsWanted, is_stopped}
use Rattle.nt_close.proofs.AtRest.{IsAtRest, closed_rests, none_wanted_2, second_fails}
use Rattle.nt_close.proofs.Rests.{known_rest, rested_other, rested_own}
use Rattle.nt_close.proofs.Wanted.{asks_wanted, stays_wanted}
use Rattle.nt_close.proofs.Woken.{woken_asks}

-- where no thread of p is listed as ready, none is
none_ready : (p : CpuNo) (n : ℕ) (xs : List ThreadDecl) (l : Lanes) (i : ℕ) → is_null (ready_from p n xs l) ≡ true → i < length xs →
    ((option_map_or (λ (x : ThreadDecl). x.cpu) (slice_get xs i) (cpu 0)).0 == p.0) ≡ true → is_ready (facts_at l (thread (n + i))) ≡ false
none_ready p n [] l i h b o = absurd (omega (arith, b))
none_ready p n (x ∷ xs) l i h b o =
    go ((x.cpu.0 == p.0) && is_ready (facts_at l (thread n))) refl h i b o (none_ready p (suc n) xs l)
  where
    go : (t : Bool) → ((x.cpu.0 == p.0) && is_ready (facts_at l (thread n))) ≡ t →
        is_null (if t then (thread n ∷ ready_from p (suc n) xs l) else ready_from p (suc n) xs l) ≡ true → (i : ℕ) → i < length (x ∷ xs) →
        ((option_map_or (λ (x : ThreadDecl). x.cpu) (slice_get (x ∷ xs) i) (cpu 0)).0 == p.0) ≡ true →
        ((i : ℕ) → is_null (ready_from p (suc n) xs l) ≡ true → i < length xs → ((option_map_or (λ (x : ThreadDecl). x.cpu) (slice_get xs i) (cpu 0)).0 == p.0)
        ≡ true → is_ready (facts_at l (thread (suc n + i))) ≡ false) → is_ready (facts_at l (thread (n + i))) ≡ false
    go true e h i b o ih = cc
    go false e h zero b o ih =
        let m : n + 0 ≡ n = omega arith in rw m (second_fails (x.cpu.0 == p.0) (is_ready (facts_at l (thread n))) o e)
    go false e h (suc i) b o ih = let m : n + suc i ≡ suc n + i = omega arith in rw m (ih i h (omega (arith, b)) o)

-- a Rest comes only where no thread of its processor is ready
rest_unready : (s : Script) (limit : ℕ) (p : CpuNo) (t : ThreadNo) (past : List Event) → has_thread s t ≡ true → (cpu_of s t).0 ≡ p.0 →
    is_null (ready s p (lanes_at s past)) ≡ true → is_ready (facts s t past) ≡ false
rest_unready s limit p t past has own h =
    let n : 0 + t.0 ≡ t.0 = omega arith in
    let k = none_ready p 0 s.threads (lanes_at s past) t.0 h (ltb-true t.0 (length s.threads) has) (eq-eqb (cpu_of s t).0 p.0 own) in
    let listed : is_ready (facts_at (lanes_at s past) t) ≡ false = ap (λ (n : ℕ). is_ready (facts_at (lanes_at s past) (thread n))) (sym n) ∙ k in
    ap is_ready (sym (facts_there s limit t past has)) ∙ listed

-- a Rest leaves the facts of a thread as they were
rest_keeps : (s : Script) (t : ThreadNo) (e : Event) (past : List Event) → e.what ≡ Rest → facts s t (e ∷ past) ≡ facts s t past
rest_keeps s t e past w = facts-named s t (length past) (stand_at s e.cpu past) e (facts s t past) Rest w refl

-- an event of another processor changes the facts of a thread of p only by its name
other_names : (s : Script) (p : CpuNo) (t : ThreadNo) (e : Event) (past : List Event) → (cpu_of s t).0 ≡ p.0 → is_of e p ≡ false → facts s t (e ∷ past)
    ≡ named_facts s t (length past) e.what (facts s t past)
other_names s p t e past own o =
    facts-by s t (length past) (stand_at s e.cpu past) e (facts s t past) e.what false refl not_its
  where
    elsewhere : is_of e (cpu_of s t) ≡ false
    elsewhere = ap (λ (n : ℕ). e.cpu.0 == n) own ∙ o

    not_its : is_of_thread s t e ≡ false
    not_its = ap (λ (b : Bool). b && is_by e t) elsewhere

-- in a run, while a thread is ready on a processor that rests, class 2 is wanted there
pub ready_wanted : (s : Script) (limit : ℕ) (p : CpuNo) (t : ThreadNo) (past : List Event) → IsRun s limit past → has_thread s t ≡ true → (cpu_of s t).0
    ≡ p.0 → rested p past ≡ true → is_ready (facts s t past) ≡ true → IsWanted s p 2 past
ready_wanted s limit p t [] r has own h k = cc
ready_wanted s limit p t (e ∷ past) r has own h k =
    go (is_of e p) refl (λ a b. ready_wanted s limit p t past r.1 has own a b)
  where
    none_of_it : {A : Type 0} → is_of e p ≡ true → is_of e p ≡ false → A
    none_of_it a b = cc

    other : is_of e p ≡ false → (b : Bool) → is_ready (facts s t past) ≡ b → (rested p past ≡ true → is_ready (facts s t past) ≡ true → IsWanted s p 2 past) →
        IsWanted s p 2 (e ∷ past)
    other o true q ih = stays_wanted s p 2 e past (λ own. none_of_it own o) (ih (rested_other p e past o h) q)
    other o false q ih =
        let named : is_ready (named_facts s t (length past) e.what (facts s t past)) ≡ true = ap is_ready (sym (other_names s p t e past own o)) ∙ k in
        asks_wanted s limit p 2 e past r.1 (λ own. none_of_it own o) (woken_asks s limit p t e past r.0 (record { has = has; own = own; slept = q }) named)

    go : (b : Bool) → is_of e p ≡ b → (rested p past ≡ true → is_ready (facts s t past) ≡ true → IsWanted s p 2 past) → IsWanted s p 2 (e ∷ past)
    go true o ih =
        let w : e.what ≡ Rest = rested_own p e past o h in
        let before : is_ready (facts s t past) ≡ true = ap is_ready (sym (rest_keeps s t e past w)) ∙ k in
        absurd (both_ways (is_ready (facts s t past)) (rest_unready s limit p t past has own (known_rest s limit p e past o r.0 w).unready) before)
    go false o ih = other o (is_ready (facts s t past)) refl ih

-- ---- at the close

-- no running thread at all isn't some running thread
none_runs : (t : ThreadNo) → ◌≡◌ {A = Option ThreadNo} None (Some t) → ⊥
none_runs t h = cc

-- at the close each thread of a processor that rests is blocked or gone
pub no_thread_is_left : (s : Script) (limit : ℕ) (p : CpuNo) (t : ThreadNo) (past : List Event) → IsClosed s limit p past →
    rests (own_of s p past) ≡ true → has_thread s t ≡ true →
    (cpu_of s t).0 ≡ p.0 → is_stopped (facts s t past).doing ≡ true
no_thread_is_left s limit p t past k q has own = go (facts s t past).doing refl (agree s limit t past k.run)
  where
    rest : IsAtRest s p past
    rest = closed_rests s limit p past k q

    here : cpu_of s t ≡ p
    here = ap (λ (n : ℕ). record { 0 = n }) own

    go : (d : Doing) → (facts s t past).doing ≡ d → Says d (thread_frames s (cpu_of s t) t past) (running (cpu_of s t) past ≡ Some t) → is_stopped d ≡ true
    go (IsBlocked w) e a = refl
    go IsGone e a = refl
    go (IsReady level st) e a =
        absurd (none_wanted_2 s p past rest (ready_wanted s limit p t past k.run has own rest.rested (ap ready_doing e)))
    go IsRunning e a =
        let run : running p past ≡ Some t = ap (λ (q : CpuNo). running q past) (sym here) ∙ a in
        absurd (none_runs t (sym rest.clear.running ∙ run))
