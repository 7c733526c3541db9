-- A run has as many events as its processors made, so one that is not cut leaves room for one more.
use Rattle.std.proofs.Common.{ap, arith, subst, sym, ◌∙◌}
use Rattle.std.proofs.lemmas.Bool.Decides.{nat_tests}
use Rattle.std.specs.Prelude.{Bool, List, [], false, if◌then◌else◌, length, nat_le, refl, suc, true, zero, ℕ, ◌*◌, ◌+◌, ◌<◌, ◌==◌, ◌∷◌, ◌≡◌, ◌≤◌}
use Rattle.nt_event.specs.declared.events.Event.{Event}
use Rattle.nt_event.specs.declared.numbers.CpuNo.{CpuNo}
use Rattle.nt_event.specs.declared.scripts.Script.{Script}
use Rattle.nt_event.specs.Own.{made, own_of}
use Rattle.nt_event.specs.Step.{IsLegal, IsRun, is_cut, turn_of}
use Rattle.nt_event.specs.Numbers.{cpu, is_of}
use Rattle.nt_runs.proofs.Robin.{cpu_below}
use Rattle.nt_runs.proofs.Running.{same_cpu}
use Rattle.nt_runs.proofs.Steps.{cpu_at-turn_at, step_uncut}

-- how many events the first n processors made
unfoldable made_below : ℕ → List Event → ℕ
made_below zero past = 0
made_below (suc n) past = made (cpu n) past + made_below n past

-- in the empty history the processors below a number have made no events
none_made : (n : ℕ) → made_below n [] ≡ 0
unfolding made_below
none_made zero = refl
none_made (suc n) = let r = none_made n in omega (arith, r)

-- an event counts one more for a processor if it is of it, and none otherwise
step_made : (n : ℕ) (e : Event) (past : List Event) (b : Bool) → is_of e (cpu n) ≡ b → made (cpu n) (e ∷ past)
    ≡ (if b then made (cpu n) past + 1 else made (cpu n) past)
step_made n e past b h = ap (λ (b : Bool). if b then made (cpu n) past + 1 else made (cpu n) past) h

-- an event of no processor below a number leaves the count of those processors' events as it was
not_made : (n : ℕ) (e : Event) (past : List Event) → n ≤ e.cpu.0 → made_below n (e ∷ past) ≡ made_below n past
unfolding made_below
not_made zero e past h = refl
not_made (suc n) e past h =
    let b : is_of e (cpu n) ≡ false = grind (arith, nat_tests) in
    let m = step_made n e past false b in
    let r = not_made n e past (omega arith) in
    omega (arith, m, r)

-- an event of a processor below a number counts one more for the processors below it
one_made : (n : ℕ) (e : Event) (past : List Event) → e.cpu.0 < n → made_below n (e ∷ past) ≡ suc (made_below n past)
unfolding made_below
one_made zero e past h = absurd (omega (arith, h))
one_made (suc n) e past h = go (is_of e (cpu n)) refl (λ c. one_made n e past c)
  where
    go : (b : Bool) → is_of e (cpu n) ≡ b → (e.cpu.0 < n → made_below n (e ∷ past) ≡ suc (made_below n past)) → made_below (suc n) (e ∷ past)
        ≡ suc (made_below (suc n) past)
    go true k ih =
        let c : e.cpu.0 ≡ n = grind (arith, nat_tests) in
        let m = step_made n e past true k in
        let r = not_made n e past (omega (arith, c)) in
        omega (arith, m, r)
    go false k ih =
        let c : e.cpu.0 < n = grind (arith, nat_tests) in
        let m = step_made n e past false k in
        let r = ih c in
        omega (arith, m, r)

-- a run has as many events as the script's processors made together
count : (s : Script) (limit : ℕ) (past : List Event) → IsRun s limit past → length past ≡ made_below s.cpus past
count s limit [] r = sym (none_made s.cpus)
count s limit (e ∷ past) r =
    ap suc (count s limit past r.1) ∙ sym (one_made s.cpus e past (cpu_below s limit e past r.0))

-- a processor whose history is not cut has made fewer events than the limit
uncut_below : (s : Script) (limit : ℕ) (p : CpuNo) (past : List Event) → is_cut limit (own_of s p past) ≡ false → made p past < limit
uncut_below s limit p past h =
    let k : nat_le limit (made p past) ≡ false = h in grind (arith, nat_tests)

-- before an event that may come, its processor has made fewer events than the limit
maker_below : (s : Script) (limit : ℕ) (e : Event) (past : List Event) → IsLegal s limit e past → made e.cpu past < limit
maker_below s limit e past h =
    uncut_below s limit e.cpu past (subst (λ (q : CpuNo). is_cut limit (own_of s q past) ≡ false) (cpu_at-turn_at e.cpu e.what)
    (step_uncut s limit (turn_of e) past e h).1)

-- in a run a processor makes no more events than the limit
pub made_limit : (s : Script) (limit : ℕ) (p : CpuNo) (past : List Event) → IsRun s limit past → made p past ≤ limit
made_limit s limit p [] r = omega arith
made_limit s limit p (e ∷ past) r = go (is_of e p) refl (made_limit s limit p past r.1)
  where
    go : (b : Bool) → is_of e p ≡ b → made p past ≤ limit → (if b then made p past + 1 else made p past) ≤ limit
    go true h ih =
        let l : made p past < limit = subst (λ (q : CpuNo). made q past < limit) (same_cpu e p h) (maker_below s limit e past r.0) in
        omega (arith, l)
    go false h ih = ih

-- if each processor made at most the limit, n processors together made at most n times the limit
all_below : (n limit : ℕ) (past : List Event) → ((q : ℕ) → made (cpu q) past ≤ limit) → made_below n past ≤ n * limit
unfolding made_below
all_below zero limit past h = omega arith
all_below (suc n) limit past h =
    let a = h n in let r = all_below n limit past h in omega (arith, a, r)

-- if moreover one of those processors made fewer than the limit, together they made fewer than n times it
room_below : (n limit p : ℕ) (past : List Event) → ((q : ℕ) → made (cpu q) past ≤ limit) → p < n → made (cpu p) past < limit → made_below n past < n * limit
unfolding made_below
room_below zero limit p past h b m = absurd (omega (arith, b))
room_below (suc n) limit p past h b m = go (p == n) refl (λ c. room_below n limit p past h c m)
  where
    go : (same : Bool) → (p == n) ≡ same → (p < n → made_below n past < n * limit) → made_below (suc n) past < suc n * limit
    go true k ih =
        let c : p ≡ n = grind (arith, nat_tests) in
        let a : made (cpu n) past < limit = subst (λ (q : ℕ). made (cpu q) past < limit) c m in
        let r = all_below n limit past h in
        omega (arith, a, r)
    go false k ih =
        let c : p < n = grind (arith, nat_tests) in
        let a = h n in
        let r = ih c in
        omega (arith, a, r)

-- a run has at most as many events as its processors may make
pub run_bounded : (s : Script) (limit : ℕ) (past : List Event) → IsRun s limit past → length past ≤ s.cpus * limit
run_bounded s limit past r =
    let c = count s limit past r in
    let a = all_below s.cpus limit past (λ q. made_limit s limit (cpu q) past r) in
    omega (arith, c, a)

-- and less, where one of them may make another
pub uncut_room : (s : Script) (limit : ℕ) (p : CpuNo) (past : List Event) → IsRun s limit past → p.0 < s.cpus → is_cut limit (own_of s p past) ≡ false →
    length past < s.cpus * limit
uncut_room s limit p past r b h =
    let c = count s limit past r in
    let a = room_below s.cpus limit p.0 past (λ q. made_limit s limit (cpu q) past r) b (uncut_below s limit p past h) in
    omega (arith, c, a)
