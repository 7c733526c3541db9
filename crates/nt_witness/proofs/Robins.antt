-- The robin rule goes on from a history to the end.
use Rattle.std.proofs.Common.{ap, append_assoc, arith, subst, sym, ◌∙◌}
use Rattle.std.specs.Prelude.{List, None, Ok, Option, Result, Some, [], refl, suc, true, zero, ℕ, ◌*◌, ◌+◌, ◌++◌, ◌-◌, ◌∷◌, ◌≡◌, ◌≤◌, length}
use Rattle.nt_event.specs.declared.events.Event.{Event}
use Rattle.nt_event.specs.declared.events.ScheduleKind.{ScheduleKind}
use Rattle.nt_event.specs.declared.events.Turn.{Turn}
use Rattle.nt_event.specs.declared.scripts.Script.{Script}
use Rattle.nt_event.specs.Robin.{grown, is_settled, robin, robin_grown, run_fuel}
use Rattle.nt_event.specs.Step.{IsRun, step}
use Rattle.nt_runs.proofs.Robin.{robin_accepted}
use Rattle.nt_runs.proofs.Settled.{robin_ends_settled}
use Rattle.nt_core.specs.States.{CoreState}
use Rattle.nt_witness.specs.Limits.{completed}
use Rattle.nt_witness.specs.Machines.{IsTaken}

-- one more event of the rule
abbrev further : Script → ℕ → List Event → List Event
further s limit past = robin_grown s limit past (robin s limit past)

-- running with one turn more is going one turn further from where the run with fewer turns stands
last_too : (s : Script) (limit n : ℕ) (past : List Event) → run_fuel s limit (suc n) past ≡ further s limit (run_fuel s limit n past)
last_too s limit zero past = refl
last_too s limit (suc n) past = last_too s limit n (further s limit past)

-- first some of the events, then the others
in_parts : (s : Script) (limit n m : ℕ) (past : List Event) → run_fuel s limit (n + m) past ≡ run_fuel s limit m (run_fuel s limit n past)
in_parts s limit zero m past =
    let e : zero + m ≡ m = omega arith in ap (λ (k : ℕ). run_fuel s limit k past) e
in_parts s limit (suc n) m past =
    let e : suc n + m ≡ suc (n + m) = omega arith in
    ap (λ (k : ℕ). run_fuel s limit k past) e ∙ in_parts s limit n m (further s limit past)

-- where the rule has no turn, nothing comes
stays : (s : Script) (limit n : ℕ) (past : List Event) → robin s limit past ≡ None → run_fuel s limit n past ≡ past
stays s limit zero past h = refl
stays s limit (suc n) past h =
    ap (λ (o : Option Turn). run_fuel s limit n (robin_grown s limit past o)) h ∙ stays s limit n past h

-- by some events of the rule, no more than there are, one history became the other
pub record HasGone (s : Script) (limit : ℕ) (h past : List Event) : Type 0 where
  pub count : ℕ
  pub is : run_fuel s limit count h ≡ past
  pub few : count ≤ length past

-- with no event of the robin rule a history stays as it is
pub not_gone : (s : Script) (limit : ℕ) (h : List Event) → HasGone s limit h h
not_gone s limit h = record { count = 0; is = refl; few = omega arith }

-- by one event more
pub gone_on : (s : Script) (limit : ℕ) (h past : List Event) (t : Turn) (e : Event) → HasGone s limit h past → robin s limit past ≡ Some t →
    step s limit t past ≡ Ok e → HasGone s limit h (e ∷ past)
gone_on s limit h past t e gone r k = record {
  count = suc gone.count;
  is =
      last_too s limit gone.count h ∙ (ap (further s limit) gone.is
      ∙ (ap (robin_grown s limit past) r ∙ ap (λ (x : Result Event ScheduleKind). grown past x) k));
  few = (let few = gone.few in omega (arith, few));
}

-- at the end
pub gone_whole : (s : Script) (limit : ℕ) (h past : List Event) → HasGone s limit h past → robin s limit past ≡ None →
    length past ≤ s.cpus * limit → past ≡ completed s limit h
gone_whole s limit h past gone none few =
    let more : ℕ = s.cpus * limit - gone.count in
    let all : s.cpus * limit ≡ gone.count + more = (let a = gone.few in omega (arith, a, few)) in
    sym (ap (λ (n : ℕ). run_fuel s limit n h) all ∙ (in_parts s limit gone.count more h
    ∙ (ap (run_fuel s limit more) gone.is ∙ stays s limit more past none)))

-- ---- a machine that takes the turns of the rule

-- the machine went on from where it stood
pub record IsGoing (begin now : CoreState) : Type 0 where
  pub script : now.script ≡ begin.script
  pub limit : now.limit ≡ begin.limit
  pub gone : HasGone begin.script begin.limit begin.past now.past
  pub run : IsRun begin.script begin.limit now.past
  pub few : length now.past ≤ begin.script.cpus * begin.limit

-- a machine that has made no step yet has gone on by the robin rule from where it stands
pub not_going : (begin : CoreState) → IsRun begin.script begin.limit begin.past → length begin.past ≤ begin.script.cpus * begin.limit → IsGoing begin begin
not_going begin run few = record { script = refl; limit = refl; gone = not_gone begin.script begin.limit begin.past; run = run; few = few }

-- by one turn more, and it has one event more
pub going_on : (begin old new : CoreState) (t : Turn) → IsGoing begin old → robin old.script old.limit old.past ≡ Some t → IsTaken t old new →
    IsRun new.script new.limit new.past → length new.past ≤ new.script.cpus * new.limit → IsGoing begin new × (length new.past ≡ suc (length old.past))
going_on begin old new t going turn take run few =
    let rule : robin begin.script begin.limit old.past ≡ Some t = rw (going.script, going.limit) at turn in
    let given = robin_accepted begin.script begin.limit old.past t going.run rule in
    let e : Event = given.0 in
    let made : step old.script old.limit t old.past ≡ Ok e = ap (λ (z : Script). step z old.limit t old.past) going.script
    ∙ (ap (λ (n : ℕ). step begin.script n t old.past) going.limit ∙ given.1) in
    let past : new.past ≡ e ∷ old.past = take.past e made in
    let script : new.script ≡ begin.script = take.script ∙ going.script in
    let limit : new.limit ≡ begin.limit = take.limit ∙ going.limit in (
      record {
        script = script;
        limit = limit;
        gone = subst (λ (k : List Event). HasGone begin.script begin.limit begin.past k) (sym past)
            (gone_on begin.script begin.limit begin.past old.past t e going.gone rule given.1);
        run = rw (script, limit) at run;
        few = rw (script, limit) at few;
      },
      ap length past,
    )

-- at the end
pub going_ends : (begin now : CoreState) → IsGoing begin now → robin now.script now.limit now.past ≡ None →
    (now.past ≡ completed begin.script begin.limit begin.past) × (is_settled begin.script begin.limit now.past ≡ true)
going_ends begin now going none =
    let rule : robin begin.script begin.limit now.past ≡ None = rw (going.script, going.limit) at none in (
      gone_whole begin.script begin.limit begin.past now.past going.gone rule going.few,
      (robin_ends_settled begin.script begin.limit now.past going.run).0 rule,
    )

-- ---- the beginning

-- the history that went on ends with the one that it began with
pub begins : (s : Script) (limit n : ℕ) (h : List Event) → (newer : List Event) × (run_fuel s limit n h ≡ newer ++ h)
begins s limit zero h = ([], refl)
begins s limit (suc n) h = go (robin s limit h) (λ k. begins s limit n k)
  where
    after : (r : Result Event ScheduleKind) → ((k : List Event) → (newer : List Event) × (run_fuel s limit n k ≡ newer ++ k)) →
        (newer : List Event) × (run_fuel s limit n (grown h r) ≡ newer ++ h)
    after (Ok e) ih = let rest = ih (e ∷ h) in (rest.0 ++ e ∷ [], rest.1 ∙ sym (append_assoc rest.0 (e ∷ []) h))
    after r ih = ih h

    go : (o : Option Turn) → ((k : List Event) → (newer : List Event) × (run_fuel s limit n k ≡ newer ++ k)) →
        (newer : List Event) × (run_fuel s limit n (robin_grown s limit h o) ≡ newer ++ h)
    go None ih = ih h
    go (Some t) ih = after (step s limit t h) ih
