-- Walks over the first events of a history.
use Rattle.std.proofs.Common.{ap, arith, inl, inr, subst, sym, ◌∙◌}
use Rattle.std.proofs.lemmas.Bool.Decides.{nat_tests}
use Rattle.std.proofs.lemmas.Bool.{eqb-true}
use Rattle.std.proofs.lemmas.List.{length-reverse, length-take-le, reverse-append, take_more}
use Rattle.std.proofs.lemmas.Option.{get_or_from_slice_get, slice_get-get_or, slice_get_cases, slice_get_within}
use Rattle.std.proofs.Math.Seq.{take-length}
use Rattle.std.specs.Prelude.{Bool, Err, IfSome, List, None, Ok, Option, Result, Some, [], false, get_or, if◌then◌else◌, length, nat_lt, option_map, refl}
use Rattle.std.specs.Prelude.{reverse, slice_get, suc}
use Rattle.std.specs.Prelude.{take, true, zero, ℕ, ◌&&◌, ◌++◌, ◌+◌, ◌<◌, ◌==◌, ◌∷◌, ◌≡◌, ◌≢◌, ◌≤◌, ◌⊎◌}
use Rattle.nt_event.specs.declared.events.Event.{Event}
use Rattle.nt_event.specs.declared.events.ScheduleKind.{ScheduleKind}
use Rattle.nt_event.specs.declared.events.Turn.{Turn}
use Rattle.nt_event.specs.declared.numbers.DpcNo.{DpcNo}
use Rattle.nt_event.specs.declared.scripts.Script.{Script}
use Rattle.nt_event.specs.Fate.{StillWaits, Thing, fate_by, fate_of, first_fate, inserted_thing}
use Rattle.nt_event.specs.Fate.{uses_up}
use Rattle.nt_event.specs.Objects.{importance_after, importance_of, target_after, target_of}
use Rattle.nt_event.specs.Step.{IsLegal, IsRun, step, turn_of}
use Rattle.nt_why.specs.declared.watch.Key.{Key}
use Rattle.nt_why.specs.declared.watch.Watch.{Watch}
use Rattle.nt_why.specs.Past.{past_at}
use Rattle.nt_why.specs.Fates.{is_it, last_insert}
use Rattle.nt_why.specs.Watches.{key_at, same_key, since}

-- as many events lie before a place within the history as its number says
pub past_length : (events : List Event) (k : ℕ) → k ≤ length events → length (past_at k events) ≡ k
past_length events k le = length-reverse (take k events) ∙ length-take-le k events le

-- the events up to one more are the event at that place and those before it
pub past_more : (events : List Event) (n : ℕ) (e : Event) → slice_get events n ≡ Some e → past_at (n + 1) events ≡ e ∷ past_at n events
past_more events n e h =
    let b : n < length events = slice_get_within events n e h in
    ap reverse (take_more events n e b ∙ ap (λ (x : Event). take n events ++ x ∷ []) (get_or_from_slice_get events n e e h))
    ∙ reverse-append (take n events) (e ∷ [])

-- the number of an event is how many lie before it
pub past_number : (events : List Event) (n : ℕ) (e : Event) → slice_get events n ≡ Some e → length (past_at n events) ≡ n
past_number events n e h = let b : n < length events = slice_get_within events n e h in past_length events n (omega (arith, b))

-- the fate of an insert after one event more
pub fate_more : (x : Thing) (m : ℕ) (events : List Event) (n : ℕ) (e : Event) → slice_get events n ≡ Some e → fate_of x m (past_at (n + 1) events)
    ≡ first_fate (fate_of x m (past_at n events)) (if nat_lt m n && uses_up x m e.what then fate_by e.what n else StillWaits)
fate_more x m events n e h =
    ap (fate_of x m) (past_more events n e h)
    ∙ ap (λ (k : ℕ). first_fate (fate_of x m (past_at n events)) (if nat_lt m k && uses_up x m e.what then fate_by e.what k else StillWaits))
    (past_number events n e h)

-- the last insert after one event more
pub last_more : (x : Thing) (events : List Event) (n : ℕ) (e : Event) → slice_get events n ≡ Some e → last_insert x (past_at (n + 1) events)
    ≡ (if is_it x (inserted_thing e.what) then Some n else last_insert x (past_at n events))
last_more x events n e h =
    ap (last_insert x) (past_more events n e h)
    ∙ ap (λ (k : ℕ). if is_it x (inserted_thing e.what) then Some k else last_insert x (past_at n events)) (past_number events n e h)

-- a DPC object's importance after one event more
pub importance_more : (d : DpcNo) (events : List Event) (n : ℕ) (e : Event) → slice_get events n ≡ Some e → importance_of d (past_at (n + 1) events)
    ≡ importance_after d e.what (importance_of d (past_at n events))
importance_more d events n e h = ap (importance_of d) (past_more events n e h)

-- its target after one event more
pub target_more : (d : DpcNo) (events : List Event) (n : ℕ) (e : Event) → slice_get events n ≡ Some e → target_of d (past_at (n + 1) events)
    ≡ target_after d e.what (target_of d (past_at n events))
target_more d events n e h = ap (target_of d) (past_more events n e h)

-- since when it is as it is, after one event more
pub since_more : (s : Script) (w : Watch) (events : List Event) (n : ℕ) (e : Event) → slice_get events n ≡ Some e → since s w (past_at (n + 1) events)
    ≡ (if same_key (key_at s w (past_at n events)) (key_at s w (past_at (n + 1) events)) then since s w (past_at n events) else Some n)
since_more s w events n e h =
    ap (since s w) (past_more events n e h)
    ∙ ap (λ (k : ℕ). if same_key (key_at s w (past_at n events)) (key_at s w (e ∷ past_at n events)) then since s w (past_at n events) else Some k)
    (past_number events n e h)
    ∙ ap (λ (past : List Event). if same_key (key_at s w (past_at n events)) (key_at s w past) then since s w (past_at n events) else Some n)
    (sym (past_more events n e h))

-- ---- events of a run

-- an event at a place is legal after those before it, where the events up to some later place are a run
run_at : (s : Script) (limit : ℕ) (events : List Event) (m n : ℕ) (e : Event) → m ≤ length events → n < m → slice_get events n ≡ Some e →
    IsRun s limit (past_at m events) → IsLegal s limit e (past_at n events)
run_at s limit events zero n e b l h r = absurd (omega (arith, l))
run_at s limit events (suc m) n e b l h r = go (n == m) refl (λ c d q. run_at s limit events m n e c d h q)
  where
    next : past_at (suc m) events ≡ past_at (m + 1) events
    next = let k : suc m ≡ m + 1 = omega arith in ap (λ (k : ℕ). past_at k events) k

    one : (x : Event) → slice_get events m ≡ Some x → IsLegal s limit x (past_at m events) × IsRun s limit (past_at m events)
    one x i = subst (λ (past : List Event). IsRun s limit past) (next ∙ past_more events m x i) r

    go : (same : Bool) → (n == m) ≡ same → (m ≤ length events → n < m → IsRun s limit (past_at m events) → IsLegal s limit e (past_at n events)) →
        IsLegal s limit e (past_at n events)
    go true k ih =
        let j : n ≡ m = eqb-true n m k in
        let i : slice_get events m ≡ Some e = ap (λ (k : ℕ). slice_get events k) (sym j) ∙ h in
        subst (λ (k : ℕ). IsLegal s limit e (past_at k events)) (sym j) (one e i).0
    go false k ih =
        let d : n < m = (let j : n ≢ m = grind (arith, nat_tests) in omega (arith, l, j)) in
        let a : m < length events = omega (arith, b) in
        let c : m ≤ length events = omega (arith, b) in
        ih c d (one _ (slice_get-get_or events m e a)).1

-- each event of a run is legal after those before it
pub legal_at : (s : Script) (limit : ℕ) (events : List Event) (n : ℕ) (e : Event) → IsRun s limit (reverse events) → slice_get events n ≡ Some e →
    IsLegal s limit e (past_at n events)
legal_at s limit events n e r h =
    run_at s limit events (length events) n e (omega arith) (slice_get_within events n e h) h
    (subst (λ (past : List Event). IsRun s limit past) (ap reverse (sym (take-length events))) r)

-- the event at a place where one has a turn
pub event_at : (x : Option Event) (t : Turn) → option_map turn_of x ≡ Some t → (e : Event) × ((x ≡ Some e) × (t ≡ turn_of e))
event_at None t h = absurd cc
event_at (Some e) t h = (e, (refl, cc))

-- the turn of an event of a run isn't refused
pub not_refused : {A : Type 0} (s : Script) (limit : ℕ) (past : List Event) (e : Event) (t : Turn) (k : ScheduleKind) → IsLegal s limit e past → t ≡ turn_of e →
    step s limit t past ≡ Err k → A
not_refused s limit past e t k h same r =
    let j : ◌≡◌ {A = Result Event ScheduleKind} (Ok e) (Err k) = sym h ∙ ap (λ (x : Turn). step s limit x past) (sym same) ∙ r in absurd cc

-- and it makes that event
pub same_made : (s : Script) (limit : ℕ) (past : List Event) (e x : Event) (t : Turn) → IsLegal s limit e past → t ≡ turn_of e →
    step s limit t past ≡ Ok x → e ≡ x
same_made s limit past e x t h same r =
    let j : ◌≡◌ {A = Result Event ScheduleKind} (Ok e) (Ok x) = sym h ∙ ap (λ (x : Turn). step s limit x past) (sym same) ∙ r in cc

-- an event stands at each place below the number of events
pub at_place : (events : List Event) (n : ℕ) → n < length events → (e : Event) × (slice_get events n ≡ Some e)
at_place events n b = go (slice_get_cases events n).1
  where
    go : ((x : Event) × (n < length events) × (slice_get events n ≡ Some x) × (get_or events n x ≡ x)) ⊎ ((length events ≤ n) × (slice_get events n ≡ None)) →
        (e : Event) × (slice_get events n ≡ Some e)
    go (inl c) = (c.0, c.2)
    go (inr c) = absurd (let l = c.0 in omega (arith, b, l))

-- since when it is as it is, as the walk keeps it
pub since_step : (s z : Script) (w : Watch) (events : List Event) (n : ℕ) (before now : Key) (old r : Option ℕ) → n < length events → z ≡ s →
    before ≡ key_at s w (past_at n events) → now ≡ key_at z w (past_at (n + 1) events) → old ≡ since s w (past_at n events) →
    r ≡ (if same_key before now then old else Some n) → r ≡ since z w (past_at (n + 1) events)
since_step s z w events n before now old r lt same b k o i =
    let e = at_place events n lt in
    subst (λ (x : Script). r ≡ since x w (past_at (n + 1) events)) (sym same) (
    i ∙ ap (λ (x : Key). if same_key x now then old else Some n) b
    ∙ ap (λ (x : Key). if same_key (key_at s w (past_at n events)) x then old else Some n) (k ∙ ap (λ (x : Script). key_at x w (past_at (n + 1) events)) same)
    ∙ ap (λ (x : Option ℕ). if same_key (key_at s w (past_at n events)) (key_at s w (past_at (n + 1) events)) then x else Some n) o
    ∙ sym (since_more s w events n e.0 e.1)
    )

-- the number that is kept stays below the place of the walk
pub kept_below : (b : Bool) (k : ℕ) (old new : Option ℕ) → new ≡ (if b then Some k else old) → IfSome old (λ n. n < k) → IfSome new (λ n. n < k + 1)
kept_below true k old new h o = subst (λ (x : Option ℕ). IfSome x (λ n. n < k + 1)) (sym h) (omega arith)
kept_below false k None new h o = subst (λ (x : Option ℕ). IfSome x (λ n. n < k + 1)) (sym h) tt
kept_below false k (Some n) new h o = subst (λ (x : Option ℕ). IfSome x (λ n. n < k + 1)) (sym h) (omega (arith, o))
