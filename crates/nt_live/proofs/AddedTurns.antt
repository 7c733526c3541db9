-- The turns of a run's events are taken again, and then those of the robin rule.
use Rattle.std.proofs.Common.{ap, arith, inl, inr, subst, sym, ◌∙◌}
use Rattle.std.proofs.lemmas.List.{length-append, length-reverse, reverse-append, take-append-drop, take_all, take_more}
use Rattle.std.specs.Prelude.{Err, List, None, Ok, Some, [], drop, get_or, length, refl, reverse, take, true, ℕ, ◌*◌, ◌++◌, ◌+◌, ◌-◌, ◌<◌, ◌∷◌, ◌≡◌, ◌≤◌}
use Rattle.nt_event.specs.declared.events.Event.{Event}
use Rattle.nt_event.specs.declared.events.ScheduleKind.{ScheduleKind}
use Rattle.nt_event.specs.declared.events.Turn.{Turn}
use Rattle.nt_event.specs.declared.scripts.Script.{Script}
use Rattle.nt_event.specs.Robin.{is_settled, robin}
use Rattle.nt_event.specs.Step.{IsRun, step, turn_of}
use Rattle.nt_floor.specs.Views.{View}
use Rattle.nt_runs.proofs.Settled.{robin_ends_settled}
use Rattle.nt_cpus.specs.Following.{AreAfter}
use Rattle.nt_cpus.specs.States.{CpusState}
use Rattle.nt_live.specs.Gathered.{GoesByRobin}

-- ---- the events once more

-- the past after the first n events
abbrev pub past_at : ℕ → List Event → List Event
past_at n events = reverse (take n events)

-- the past up to one event more is that event put on the past before it
pub past_more : (events : List Event) (n : ℕ) (e : Event) → n < length events → e ≡ get_or events n e → past_at (n + 1) events ≡ e ∷ past_at n events
past_more events n e b h =
    ap reverse (take_more events n e b ∙ ap (λ (x : Event). take n events ++ x ∷ []) (sym h))
    ∙ reverse-append (take n events) (e ∷ [])

-- the past at the end of the events is all of them, the newest first
pub past_whole : (events : List Event) (n : ℕ) → length events ≤ n → past_at n events ≡ reverse events
past_whole events n h = ap reverse (take_all n events h)

-- what is left of a run without its newest events is a run
run_before : (s : Script) (limit : ℕ) (front past : List Event) → IsRun s limit (front ++ past) → IsRun s limit past
run_before s limit [] past r = r
run_before s limit (x ∷ front) past r = run_before s limit front past r.1

-- the next event of a run is the one that its turn gives after those before it
pub next_given : (s t : Script) (limit turns : ℕ) (past events : List Event) (n : ℕ) (e : Event) → t ≡ s → limit ≡ turns → past ≡ past_at n events →
    IsRun s turns (reverse events) → n < length events → e ≡ get_or events n e → step t limit (turn_of e) past ≡ Ok e
next_given s t limit turns past events n e a b p r l h =
    let parts : reverse events ≡ reverse (drop (n + 1) events) ++ e ∷ past_at n events = ap reverse (sym (take-append-drop (n + 1) events))
    ∙ (reverse-append (take (n + 1) events) (drop (n + 1) events)
    ∙ ap (λ (xs : List Event). reverse (drop (n + 1) events) ++ xs) (past_more events n e l h)) in
    let run = run_before s turns (reverse (drop (n + 1) events)) (e ∷ past_at n events) (subst (λ (xs : List Event). IsRun s turns xs) parts r) in
    ap (λ (x : Script). step x limit (turn_of e) past) a
    ∙ (ap (λ (m : ℕ). step s m (turn_of e) past) b
    ∙ (ap (λ (xs : List Event). step s turns (turn_of e) xs) p ∙ run.0))

-- the turn of that event is taken
pub not_refused : (s : Script) (limit : ℕ) (past : List Event) (t u : Turn) (e : Event) (k : ScheduleKind) → t ≡ u → step s limit u past ≡ Ok e →
    step s limit t past ≡ Err k → ⊥
not_refused s limit past t u e k a h i = let j = ap (λ (x : Turn). step s limit x past) (sym a) ∙ i in cc

-- what it makes is that event
pub made_again : (s : Script) (limit : ℕ) (past : List Event) (t : Turn) (e m : Event) (d : CpusState) (floor : Script) (w : View) → t ≡ turn_of e →
    step s limit (turn_of e) past ≡ Ok e → (step s limit t past ≡ Ok m) × AreAfter (m ∷ past) d floor w → AreAfter (e ∷ past) d floor w
made_again s limit past t e m d floor w a given made =
    let same : m ≡ e = (let j = ap (λ (x : Turn). step s limit x past) (sym a) ∙ made.0 in cc) in
    subst (λ (x : Event). AreAfter (x ∷ past) d floor w) same made.1

-- ---- the robin rule

-- no turn yet
pub goes_still : (s : Script) (limit : ℕ) (past : List Event) → GoesByRobin s limit past past
goes_still s limit [] = refl
goes_still s limit (e ∷ past) = inl refl

-- one more turn of the rule, at these processors
pub goes_further : (s t : Script) (limit turns : ℕ) (worked past : List Event) (e : Event) → t ≡ s → turns ≡ limit → GoesByRobin s limit worked past →
    robin t turns past ≡ Some (turn_of e) → GoesByRobin s limit worked (e ∷ past)
goes_further s t limit turns worked past e a b h r =
    inr (ap (λ (x : Script). robin x limit past) (sym a) ∙ (ap (λ (n : ℕ). robin t n past) (sym b) ∙ r), h)

-- its event stands at the end of the list
pub newest_last : (new events : List Event) (e : Event) → new ≡ events ++ e ∷ [] → reverse new ≡ e ∷ reverse events
newest_last new events e h = ap reverse h ∙ reverse-append events (e ∷ [])

-- and fewer events are left to be made
pub fewer_left : (new events : List Event) (e : Event) (c d : CpusState) (floor : Script) (v : View) → new ≡ events ++ e ∷ [] → d.script ≡ c.script → d.limit
    ≡ c.limit → AreAfter (e ∷ reverse events) d floor v → d.script.cpus * d.limit - length new < c.script.cpus * c.limit - length events
fewer_left new events e c d floor v h a b after =
    let most : d.script.cpus * d.limit ≡ c.script.cpus * c.limit = ap (λ (x : Script). x.cpus * d.limit) a ∙ ap (λ (n : ℕ). c.script.cpus * n) b in
    let longer : length new ≡ length events + 1 = ap length h ∙ length-append events (e ∷ []) in
    let room = after.drawable in
    let old = length-reverse events in
    omega (arith, most, longer, room, old)

-- where the rule has no turn all is settled
pub ended_settled : (s t : Script) (limit turns : ℕ) (past : List Event) → t ≡ s → turns ≡ limit → IsRun t turns past → robin t turns past ≡ None →
    is_settled s limit past ≡ true
ended_settled s t limit turns past a b r h =
    ap (λ (x : Script). is_settled x limit past) (sym a)
    ∙ (ap (λ (n : ℕ). is_settled t n past) (sym b) ∙ (robin_ends_settled t turns past r).0 h)
