-- In a run what was noticed was asked, and the robin rule ends exactly in a settled history.
use Rattle.std.proofs.Common.{arith, subst, sym, ◌∙◌}
use Rattle.std.proofs.lemmas.Bool.{eq-eqb, eqb-true, lt-ltb, ltb-false, ltb-true}
use Rattle.std.specs.List.{list_all, list_any}
use Rattle.std.specs.Option.{option_or}
use Rattle.std.specs.Prelude.{Bool, List, None, Option, Some, [], false, if◌then◌else◌, is_none, length, nat_lt, not, refl, suc, true, zero, ℕ, ◌&&◌, ◌+◌, ◌<◌}
use Rattle.std.specs.Prelude.{◌==◌, ◌||◌, ◌↔◌, ◌∷◌, ◌≡◌, ◌≤◌}
use Rattle.nt_event.specs.declared.events.Event.{Event}
use Rattle.nt_event.specs.declared.events.Turn.{Turn}
use Rattle.nt_event.specs.declared.events.Turn.TheVariants.{Look as LookTurn}
use Rattle.nt_event.specs.declared.events.What.{What}
use Rattle.nt_event.specs.declared.events.What.TheVariants.{Look}
use Rattle.nt_event.specs.declared.jobs.Lane.{Lane}
use Rattle.nt_event.specs.declared.numbers.CpuNo.{CpuNo}
use Rattle.nt_event.specs.declared.scripts.Script.{Script}
use Rattle.nt_event.specs.Jobs.{is_still, rests}
use Rattle.nt_event.specs.Lanes.{lanes_of, touches}
use Rattle.nt_event.specs.Own.{Own, own_of}
use Rattle.nt_event.specs.Requests.{asked, asks, looked, raised, seen, seen_after, told, told_by, told_by_all}
use Rattle.nt_event.specs.Robin.{first_cpu, has_seen, is_behind, is_done_with, is_settled, look_value, robin, robin_from, robin_of}
use Rattle.nt_event.specs.Step.{IsLegal, IsRun, good_rises, is_cut, step, turn_at, was_asked}
use Rattle.nt_event.specs.Numbers.{cpu, is_of}
use Rattle.nt_event.specs.Lists.{table_from, value_at, when}
use Rattle.nt_event.proofs.Options.{both}
use Rattle.nt_runs.proofs.Robin.{cpu_below, cycle_below}
use Rattle.nt_runs.proofs.Running.{same_cpu}
use Rattle.nt_runs.proofs.Steps.{Gives, look_gives}
use Rattle.nt_event.proofs.Tables.{get_or-table}

-- ---- what was noticed was asked

-- what was asked of a class is at most the number of events
pub asked_below : (s : Script) (p : CpuNo) (c : ℕ) (past : List Event) → asked s p c past ≤ length past
asked_below s p c [] = omega arith
asked_below s p c (e ∷ past) = go (asks s p c e past) (asked_below s p c past)
  where
    go : (b : Bool) → asked s p c past ≤ length past → raised b (length past) (asked s p c past) ≤ suc (length past)
    go true h = omega arith
    go false h = omega arith

-- a value raised by a test doesn't fall, if it was at most the event's number
raised_above : (b : Bool) (n old : ℕ) → old ≤ n → old ≤ raised b n old
raised_above true n old h = omega arith
raised_above false n old h = omega arith

-- what was asked of a class never falls with an event
pub asked_grows : (s : Script) (p : CpuNo) (c : ℕ) (e : Event) (past : List Event) → asked s p c past ≤ asked s p c (e ∷ past)
asked_grows s p c e past =
    raised_above (asks s p c e past) (length past) (asked s p c past) (asked_below s p c past)

-- a value that was asked is at most the greatest asked
pub was_asked_below : (s : Script) (p : CpuNo) (c v : ℕ) (past : List Event) → was_asked s p c v past ≡ true → v ≤ asked s p c past
was_asked_below s p c v [] h = cc
was_asked_below s p c v (e ∷ past) h =
    go (v == length past + 1) (asks s p c e past) refl refl h (was_asked_below s p c v past)
  where
    go : (m b : Bool) → (v == length past + 1) ≡ m → asks s p c e past ≡ b → ((m && b) || was_asked s p c v past) ≡ true →
        (was_asked s p c v past ≡ true → v ≤ asked s p c past) → v ≤ asked s p c (e ∷ past)
    go true true e1 e2 x ih =
        let n : v ≡ length past + 1 = eqb-true v (length past + 1) e1 in
        let a : asked s p c (e ∷ past) ≡ length past + 1 = rw e2 in
        omega (arith, n, a)
    go true false e1 e2 x ih = let g = asked_grows s p c e past in let i = ih x in omega (arith, g, i)
    go false b e1 e2 x ih = let g = asked_grows s p c e past in let i = ih x in omega (arith, g, i)

-- what a lane tells of a class is at most what was asked
pub told_by_below : (s : Script) (x : Lane) (p : CpuNo) (c : ℕ) (past : List Event) → told_by s x p c past ≤ asked s p c past
told_by_below s x p c [] = omega arith
told_by_below s x p c (e ∷ past) =
    go (touches s x e past) (asks s p c e past) (told_by_below s x p c past) (asked_below s p c past)
  where
    go : (t b : Bool) → told_by s x p c past ≤ asked s p c past → asked s p c past ≤ length past →
        raised (t && b) (length past) (told_by s x p c past) ≤ raised b (length past) (asked s p c past)
    go true true h k = omega arith
    go true false h k = h
    go false true h k = omega arith
    go false false h k = h

-- what several lanes tell of a class is at most what was asked
pub told_below : (s : Script) (xs : List Lane) (p : CpuNo) (c : ℕ) (past : List Event) → told_by_all s xs p c past ≤ asked s p c past
told_below s [] p c past = omega arith
told_below s (x ∷ xs) p c past =
    let a = told_by_below s x p c past in let b = told_below s xs p c past in omega (arith, a, b)

-- each value of a good look is 0, or was asked
rises_asked : (s : Script) (p : CpuNo) (k i : ℕ) (vs : List ℕ) (x : Own) (past : List Event) → good_rises s p k vs x past ≡ true →
    value_at vs i ≤ asked s p (k + i) past
rises_asked s p k i [] x past h = omega arith
rises_asked s p k zero (v ∷ vs) x past h =
    let e : k + 0 ≡ k = omega arith in
    rw e (first (v == 0) (nat_lt (value_at x.seen k) v) (was_asked s p k v past) refl refl
    (both ((v == 0) || (nat_lt (value_at x.seen k) v && was_asked s p k v past)) _ h).0)
  where
    first : (z m w : Bool) → (v == 0) ≡ z → was_asked s p k v past ≡ w → (z || (m && w)) ≡ true → v ≤ asked s p k past
    first true m w e1 e2 t = let n : v ≡ 0 = eqb-true v 0 e1 in omega (arith, n)
    first false true true e1 e2 t = was_asked_below s p k v past e2
    first false true false e1 e2 t = cc
    first false false w e1 e2 t = cc
rises_asked s p k (suc i) (v ∷ vs) x past h =
    let e : k + suc i ≡ suc k + i = omega arith in
    rw e (rises_asked s p (suc k) i vs x past (both ((v == 0) || (nat_lt (value_at x.seen k) v && was_asked s p k v past)) _ h).1)

-- what a legal look notices was asked for
looked_asked : (s : Script) (limit : ℕ) (c : ℕ) (e : Event) (past : List Event) (w : What) → e.what ≡ w → IsLegal s limit e past →
    looked w c ≤ asked s e.cpu c past
looked_asked s limit c e past (Look r) k g =
    let turn : Gives (step s limit (LookTurn e.cpu r) past) e = subst (λ (w : What). Gives (step s limit (turn_at e.cpu w) past) e) k g in
    let good = (look_gives s limit e.cpu r past e turn).0 in
    let zero_left : 0 + c ≡ c = omega arith in
    rw zero_left at (rises_asked s e.cpu 0 c r.value (own_of s e.cpu past) past (both (list_any (λ v. nat_lt 0 v) r.value) _ good).1)
looked_asked s limit c e past w k g = omega arith

-- what is seen after an event is at most what is asked after it
seen_after_below : (b : Bool) (n : ℕ) (w : What) (c old told asked : ℕ) → old ≤ asked → looked w c ≤ asked → told ≤ asked →
    seen_after n w c b told old ≤ raised b n asked
seen_after_below true n w c old told asked h k l = omega arith
seen_after_below false n w c old told asked h k l = omega (arith, h, k, l)

-- in a run what a processor noticed of a class is at most what was asked
pub seen_below : (s : Script) (limit : ℕ) (p : CpuNo) (c : ℕ) (past : List Event) → IsRun s limit past → seen s p c past ≤ asked s p c past
seen_below s limit p c [] r = omega arith
seen_below s limit p c (e ∷ past) r = go (is_of e p) refl (seen_below s limit p c past r.1)
  where
    go : (b : Bool) → is_of e p ≡ b → seen s p c past ≤ asked s p c past →
        (if b then seen_after (length past) e.what c (asks s p c e past) (told s p c e past) (seen s p c past) else seen s p c past) ≤ asked s p c (e ∷ past)
    go true h ih =
        seen_after_below (asks s p c e past) (length past) e.what c (seen s p c past) (told s p c e past) (asked s p c past) ih
        (subst (λ (q : CpuNo). looked e.what c ≤ asked s q c past) (same_cpu e p h) (looked_asked s limit c e past e.what refl r.0))
        (told_below s (lanes_of s e past) p c past)
    go false h ih = let g = asked_grows s p c e past in omega (arith, g, ih)

-- ---- one processor is done

-- a class rises in the look exactly where its asked value isn't seen yet
class_seen : (seen asked : ℕ) → seen ≤ asked → nat_lt 0 (if nat_lt seen asked then asked else 0) ≡ not (seen == asked)
class_seen seen asked h = go (nat_lt seen asked) refl
  where
    go : (b : Bool) → nat_lt seen asked ≡ b → nat_lt 0 (if b then asked else 0) ≡ not (seen == asked)
    go true e =
        let l : seen < asked = ltb-true seen asked e in
        let a : nat_lt 0 asked ≡ true = lt-ltb 0 asked (omega (arith, l)) in
        let b : (seen == asked) ≡ false = differ (seen == asked) refl l in
        rw (a, b) refl
      where
        differ : (b : Bool) → (seen == asked) ≡ b → seen < asked → b ≡ false
        differ true k l = let n : seen ≡ asked = eqb-true seen asked k in absurd (omega (arith, n, l))
        differ false k l = refl
    go false e =
        let l : asked ≤ seen = ltb-false seen asked e in
        let n : seen ≡ asked = omega (arith, l, h) in
        let b : (seen == asked) ≡ true = eq-eqb seen asked n in
        rw b refl

-- of two classes together, one rises exactly where not both are seen
behind_step : (a b : Bool) (x y : Bool) → a ≡ not x → b ≡ not y → (a || b) ≡ not (x && y)
behind_step a b true y h k = cc
behind_step a b false y h k = rw h refl

-- some class rises in a look exactly where not all are seen
behind_from : (x : Own) (a : ℕ → ℕ) (k n : ℕ) → ((i : ℕ) → i < n → value_at x.seen (k + i) ≤ a (k + i)) →
    list_any (λ v. nat_lt 0 v) (table_from k n (look_value x a)) ≡ not (list_all (λ same. same) (table_from k n (λ c. value_at x.seen c == a c)))
unfolding table_from
behind_from x a k zero h = refl
behind_from x a k (suc n) h =
    behind_step _ _ (value_at x.seen k == a k) (list_all (λ same. same) (table_from (suc k) n (λ c. value_at x.seen c == a c)))
    (class_seen (value_at x.seen k) (a k) here) (behind_from x a (suc k) n next)
  where
    here : value_at x.seen k ≤ a k
    here = let e : k + 0 ≡ k = omega arith in rw e at (h 0 (omega arith))

    next : (i : ℕ) → i < n → value_at x.seen (suc k + i) ≤ a (suc k + i)
    next i l = let e : k + suc i ≡ suc k + i = omega arith in rw e at (h (suc i) (omega arith))

-- a processor is behind exactly where it hasn't seen what was asked
pub behind_seen : (s : Script) (limit : ℕ) (p : CpuNo) (past : List Event) → IsRun s limit past → is_behind (own_of s p past) (λ c. asked s p c past)
    ≡ not (has_seen (own_of s p past) (λ c. asked s p c past))
behind_seen s limit p past r = behind_from (own_of s p past) (λ c. asked s p c past) 0 16 below
  where
    below : (i : ℕ) → i < 16 → value_at (own_of s p past).seen (0 + i) ≤ asked s p (0 + i) past
    below i l =
        let e : 0 + i ≡ i = omega arith in
        let v : value_at (own_of s p past).seen i ≡ seen s p i past = get_or-table 16 i (λ c. seen s p c past) 0 l in
        rw (e, v) (seen_below s limit p i past r)

-- a processor has no turn exactly where it is cut, or is still and has seen all that was asked
turn_none : (cut behind rests seen : Bool) (t u : Turn) → behind ≡ not seen →
    is_none (when (not cut) (if behind then Some t else (if rests then None else Some u))) ≡ (cut || (rests && seen))
turn_none true behind rests seen t u h = refl
turn_none false behind rests true t u h = rw h (go rests)
  where
    go : (b : Bool) → is_none (if b then None else Some u) ≡ (b && true)
    go true = refl
    go false = refl
turn_none false behind rests false t u h = rw h (go rests)
  where
    go : (b : Bool) → false ≡ (b && false)
    go true = refl
    go false = refl

-- a processor has no turn exactly where it is done
pub robin_of_done : (s : Script) (limit : ℕ) (p : CpuNo) (past : List Event) → IsRun s limit past → is_none (robin_of s limit p past)
    ≡ is_done_with s limit p past
robin_of_done s limit p past r =
    turn_none (is_cut limit (own_of s p past)) (is_behind (own_of s p past) (λ c. asked s p c past)) (is_still (own_of s p past))
    (has_seen (own_of s p past) (λ c. asked s p c past)) _ _ (behind_seen s limit p past r)

-- ---- the cycle visits each processor

abbrev Done : Script → ℕ → List Event → ℕ → Type 0
Done s limit past p = is_none (robin_of s limit (cpu p) past) ≡ true

-- an option equal to none passes the test of absence
none_of : {A : Type 0} (o : Option A) → o ≡ None → is_none o ≡ true
none_of None h = refl
none_of (Some x) h = cc

-- an option that passes the test of absence is none
of_none : {A : Type 0} (o : Option A) → is_none o ≡ true → o ≡ None
of_none None h = refl
of_none (Some x) h = cc

-- where a first option, or else a second, is none, the first passes the test of absence and the second is none
or_none : {A : Type 0} (a b : Option A) → option_or a b ≡ None → (is_none a ≡ true) × (b ≡ None)
or_none None b h = (refl, h)
or_none (Some x) b h = cc

-- those from p on are visited
up_step : (s : Script) (limit : ℕ) (past : List Event) (n p q : ℕ) → (suc p ≤ q → robin_from s limit n (suc p) past ≡ None → Done s limit past q) → p ≤ q →
    q < s.cpus → (m : Bool) → (p == q) ≡ m → Done s limit past p → robin_from s limit n (if suc p == s.cpus then 0 else suc p) past ≡ None → (w : Bool) →
    (suc p == s.cpus) ≡ w → Done s limit past q
up_step s limit past n p q ih a b true e d more w k =
    let n : p ≡ q = eqb-true p q e in subst (Done s limit past) n d
up_step s limit past n p q ih a b false e d more true k =
    let n : suc p ≡ s.cpus = eqb-true (suc p) s.cpus k in
    let x : p ≡ q = omega (arith, a, b, n) in
    subst (Done s limit past) x d
up_step s limit past n p q ih a b false e d more false k =
    let x : p ≡ q → ⊥ = λ y. let t : (p == q) ≡ true = eq-eqb p q y in cc in
    let m : robin_from s limit n (suc p) past ≡ None = rw k at more in
    ih (omega (arith, a, x)) m

-- where a cycle of tries finds no turn, each processor from its start up that it reaches has none
cycle_up : (s : Script) (limit : ℕ) (past : List Event) (n p q : ℕ) → p ≤ q → q < s.cpus → q < p + n → robin_from s limit n p past ≡ None → Done s limit past q
cycle_up s limit past zero p q a b c h = absurd (omega (arith, a, c))
cycle_up s limit past (suc n) p q a b c h =
    let k = or_none (robin_of s limit (cpu p) past) _ h in
    up_step s limit past n p q (λ l m. cycle_up s limit past n (suc p) q l b (omega (arith, c)) m) a b (p == q) refl k.0 k.1 (suc p == s.cpus) refl

-- and, round the end, those below p
round_step : (s : Script) (limit : ℕ) (past : List Event) (n p q : ℕ) → (suc p < s.cpus → robin_from s limit n (suc p) past ≡ None → Done s limit past q) →
    p < s.cpus → q < p → q + s.cpus < suc n + p → robin_from s limit n (if suc p == s.cpus then 0 else suc p) past ≡ None → (w : Bool) → (suc p == s.cpus)
    ≡ w → Done s limit past q
round_step s limit past n p q ih a b c more true k =
    let last : suc p ≡ s.cpus = eqb-true (suc p) s.cpus k in
    let m : robin_from s limit n 0 past ≡ None = rw k at more in
    cycle_up s limit past n 0 q (omega arith) (omega (arith, a, b)) (omega (arith, c, last)) m
round_step s limit past n p q ih a b c more false k =
    let x : suc p ≡ s.cpus → ⊥ = λ y. let t : (suc p == s.cpus) ≡ true = eq-eqb (suc p) s.cpus y in cc in
    let m : robin_from s limit n (suc p) past ≡ None = rw k at more in
    ih (omega (arith, a, x)) m

-- where a cycle of tries finds no turn, each processor below its start that it comes round to has none
cycle_round : (s : Script) (limit : ℕ) (past : List Event) (n p q : ℕ) → p < s.cpus → q < p → q + s.cpus < n + p → robin_from s limit n p past ≡ None →
    Done s limit past q
cycle_round s limit past zero p q a b c h = absurd (omega (arith, a, b, c))
cycle_round s limit past (suc n) p q a b c h =
    let k = or_none (robin_of s limit (cpu p) past) _ h in
    round_step s limit past n p q (λ l m. cycle_round s limit past n (suc p) q l (omega (arith, b)) (omega (arith, c)) m) a b c k.1 (suc p == s.cpus) refl

-- where a full cycle of tries finds no turn, no processor has one
cycle_all : (s : Script) (limit : ℕ) (past : List Event) (p q : ℕ) → p < s.cpus → q < s.cpus → robin_from s limit s.cpus p past ≡ None → Done s limit past q
cycle_all s limit past p q a b h = go (nat_lt q p) refl
  where
    go : (m : Bool) → nat_lt q p ≡ m → Done s limit past q
    go true e = let l : q < p = ltb-true q p e in cycle_round s limit past s.cpus p q a l (omega (arith, l)) h
    go false e =
        let l : p ≤ q = ltb-false q p e in cycle_up s limit past s.cpus p q l b (omega (arith, l, b)) h

-- where no processor has a turn, a cycle of tries finds none
cycle_none : (s : Script) (limit : ℕ) (past : List Event) (n p : ℕ) → p < s.cpus → ((q : ℕ) → q < s.cpus → Done s limit past q) → robin_from s limit n p past
    ≡ None
cycle_none s limit past zero p a h = refl
cycle_none s limit past (suc n) p a h =
    rw (of_none (robin_of s limit (cpu p) past) (h p a)) (cycle_none s limit past n (if suc p == s.cpus then 0 else suc p) (cycle_below s p a) h)

-- ---- a settled history

-- a table whose entries all pass has a passing entry at each place
all_table : (k n : ℕ) (f : ℕ → Bool) → list_all (λ done. done) (table_from k n f) ≡ true → (i : ℕ) → i < n → f (k + i) ≡ true
unfolding table_from
all_table k zero f h i l = absurd (omega (arith, l))
all_table k (suc n) f h zero l = let e : k + 0 ≡ k = omega arith in rw e (both (f k) _ h).0
all_table k (suc n) f h (suc i) l =
    let e : k + suc i ≡ suc k + i = omega arith in rw e (all_table (suc k) n f (both (f k) _ h).1 i (omega (arith, l)))

-- a table of which each place passes has entries that all pass
table_all : (k n : ℕ) (f : ℕ → Bool) → ((i : ℕ) → i < n → f (k + i) ≡ true) → list_all (λ done. done) (table_from k n f) ≡ true
unfolding table_from
table_all k zero f h = refl
table_all k (suc n) f h =
    let e : k + 0 ≡ k = omega arith in
    let here : f k ≡ true = rw e at (h 0 (omega arith)) in
    rw here (table_all (suc k) n f (λ i l. let e : k + suc i ≡ suc k + i = omega arith in rw e at (h (suc i) (omega (arith, l)))))

-- in a run with a processor the first one to be tried is below their number
first_below : (s : Script) (limit : ℕ) (past : List Event) → IsRun s limit past → 0 < s.cpus → first_cpu s past < s.cpus
first_below s limit [] r h = h
first_below s limit (e ∷ past) r h = cycle_below s e.cpu.0 (cpu_below s limit e past r.0)

-- in a run in which the robin rule has no turn for any processor the history is settled
settled_done : (s : Script) (limit : ℕ) (past : List Event) → IsRun s limit past → ((q : ℕ) → q < s.cpus → Done s limit past q) → is_settled s limit past ≡ true
settled_done s limit past r h =
    table_all 0 s.cpus (λ p. is_done_with s limit (cpu p) past)
    (λ i l. let e : 0 + i ≡ i = omega arith in rw e (sym (robin_of_done s limit (cpu i) past r) ∙ h i l))

-- in a run with a settled history the robin rule has no turn for any processor
done_settled : (s : Script) (limit : ℕ) (past : List Event) → IsRun s limit past → is_settled s limit past ≡ true → (q : ℕ) → q < s.cpus → Done s limit past q
done_settled s limit past r h q l =
    robin_of_done s limit (cpu q) past r ∙ (let e : 0 + q ≡ q = omega arith in rw e at (all_table 0 s.cpus (λ p. is_done_with s limit (cpu p) past) h q l))

-- in a run the robin rule ends exactly where the history is settled
pub robin_ends_settled : (s : Script) (limit : ℕ) (past : List Event) → IsRun s limit past → (robin s limit past ≡ None) ↔ (is_settled s limit past ≡ true)
robin_ends_settled s limit past r = (there, back)
  where
    there : robin s limit past ≡ None → is_settled s limit past ≡ true
    there h =
        settled_done s limit past r (λ q l. cycle_all s limit past (first_cpu s past) q (first_below s limit past r (omega (arith, l))) l h)

    back : is_settled s limit past ≡ true → robin s limit past ≡ None
    back h = go (nat_lt 0 s.cpus) refl
      where
        none : (n : ℕ) → n ≡ 0 → robin_from s limit n (first_cpu s past) past ≡ None
        none zero e = refl
        none (suc n) e = absurd (omega (arith, e))

        go : (b : Bool) → nat_lt 0 s.cpus ≡ b → robin_from s limit s.cpus (first_cpu s past) past ≡ None
        go true e =
            cycle_none s limit past s.cpus (first_cpu s past) (first_below s limit past r (ltb-true 0 s.cpus e)) (done_settled s limit past r h)
        go false e = none s.cpus (let k : s.cpus ≤ 0 = ltb-false 0 s.cpus e in omega (arith, k))
