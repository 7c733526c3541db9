-- There is one settled run of the robin rule.
use Rattle.std.proofs.Common.{ap, arith, sym, ◌∙◌}
use Rattle.std.specs.Prelude.{List, [], length, refl, suc, true, zero, ℕ, ◌+◌, ◌∷◌, ◌≡◌}
use Rattle.nt_event.specs.declared.events.Event.{Event}
use Rattle.nt_event.specs.declared.scripts.Script.{Script}
use Rattle.nt_event.specs.Robin.{IsRobin, grown, is_settled, robin, robin_grown, run_fuel}
use Rattle.nt_event.specs.Step.{IsRun}
use Rattle.nt_runs.proofs.Settled.{robin_ends_settled}
use Rattle.nt_core.specs.Laws.{IsWholeRobin}

-- one more event of the rule
abbrev further : Script → ℕ → List Event → List Event
further s limit past = robin_grown s limit past (robin s limit past)

-- the events of the rule may be made one after the others
last_too : (s : Script) (limit n : ℕ) (past : List Event) → run_fuel s limit (suc n) past ≡ further s limit (run_fuel s limit n past)
last_too s limit zero past = refl
last_too s limit (suc n) past = last_too s limit n (further s limit past)

-- a run of the rule is as many of them as it has
robin_is : (s : Script) (limit : ℕ) (h : List Event) → IsRun s limit h → IsRobin s limit h → run_fuel s limit (length h) [] ≡ h
robin_is s limit [] r q = refl
robin_is s limit (e ∷ past) r q =
    last_too s limit (length past) []
    ∙ (ap (further s limit) (robin_is s limit past r.1 q.1) ∙ (ap (robin_grown s limit past) q.0 ∙ ap (grown past) r.0))

-- a settled one stays as it is
stays : (s : Script) (limit : ℕ) (h : List Event) → IsRun s limit h → is_settled s limit h ≡ true → further s limit h ≡ h
stays s limit h r d = ap (robin_grown s limit h) ((robin_ends_settled s limit h r).1 d)

-- with enough fuel for its length and more, the robin rule runs to the settled run that there is
robin_more : (s : Script) (limit n : ℕ) (h : List Event) → IsWholeRobin s limit h → run_fuel s limit (n + length h) [] ≡ h
robin_more s limit zero h w =
    let e : zero + length h ≡ length h = omega arith in
    ap (λ (m : ℕ). run_fuel s limit m []) e ∙ robin_is s limit h w.run w.robin
robin_more s limit (suc n) h w =
    let e : suc n + length h ≡ suc (n + length h) = omega arith in
    ap (λ (m : ℕ). run_fuel s limit m []) e
    ∙ (last_too s limit (n + length h) [] ∙ (ap (further s limit) (robin_more s limit n h w) ∙ stays s limit h w.run w.settled))

-- two settled runs of the robin rule with the same script and limit are the same history
pub one_whole_robin : (s : Script) (limit : ℕ) (h k : List Event) → IsWholeRobin s limit h → IsWholeRobin s limit k → h ≡ k
one_whole_robin s limit h k w x =
    let e : length k + length h ≡ length h + length k = omega arith in
    sym (robin_more s limit (length k) h w) ∙ (ap (λ (n : ℕ). run_fuel s limit n []) e ∙ robin_more s limit (length h) k x)
