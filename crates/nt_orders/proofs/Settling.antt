-- A machine goes on by the robin rule until all is settled.
use Rattle.std.proofs.Common.{ap, sym, ◌∙◌}
use Rattle.std.specs.Prelude.{List, None, Ok, Some, [], length, refl, suc, true, ℕ, ◌*◌, ◌∷◌, ◌≡◌, ◌≤◌}
use Rattle.nt_event.specs.declared.events.Event.{Event}
use Rattle.nt_event.specs.declared.events.Turn.{Turn}
use Rattle.nt_event.specs.declared.scripts.Script.{Script}
use Rattle.nt_event.specs.Robin.{is_settled, robin}
use Rattle.nt_event.specs.Step.{IsRun, step}
use Rattle.nt_runs.proofs.Robin.{robin_accepted}
use Rattle.nt_runs.proofs.Settled.{robin_ends_settled}
use Rattle.nt_runs.proofs.Turns.{turn_same}
use Rattle.nt_core.specs.States.{CoreState}
use Rattle.nt_orders.specs.Beginnings.{IsRobinFrom}
use Rattle.nt_orders.specs.Machines.{IsTaken}

-- from where it began the machine went on by the robin rule
pub record IsSettling (begin now : CoreState) : Type 0 where
  pub script : now.script ≡ begin.script
  pub limit : now.limit ≡ begin.limit
  pub robin_is : IsRobinFrom begin.script begin.limit begin.past now.past
  pub run : IsRun begin.script begin.limit now.past
  pub few : length now.past ≤ begin.script.cpus * begin.limit

-- a machine that made no step yet went on by the robin rule from where it stands
pub settle_start : (begin : CoreState) → IsRun begin.script begin.limit begin.past →
    length begin.past ≤ begin.script.cpus * begin.limit → IsSettling begin begin
settle_start begin run few = record {
  script = refl;
  limit = refl;
  robin_is = record { newer = []; is = refl; robin_is = tt };
  run = run;
  few = few;
}

-- the turn of the rule is that at the script and the limit with which the machine began
rule_of : (begin now : CoreState) (o : _) → IsSettling begin now → robin now.script now.limit now.past ≡ o →
    robin begin.script begin.limit now.past ≡ o
rule_of begin now o on h =
    ap (λ (s : Script). robin s begin.limit now.past) (sym on.script)
    ∙ (ap (λ (n : ℕ). robin now.script n now.past) (sym on.limit) ∙ h)

-- the turn of the rule is taken
pub settle_accepts : (begin now : CoreState) (t : Turn) → IsSettling begin now → robin now.script now.limit now.past ≡ Some t →
    (e : Event) × (step now.script now.limit t now.past ≡ Ok e)
settle_accepts begin now t on h =
    let given = robin_accepted begin.script begin.limit now.past t on.run (rule_of begin now (Some t) on h) in (
      given.0,
      ap (λ (s : Script). step s now.limit t now.past) on.script
          ∙ (ap (λ (n : ℕ). step begin.script n t now.past) on.limit ∙ given.1),
    )

-- what the robin rule gives after this history
module _ (begin old new : CoreState) (t : Turn) (on : IsSettling begin old) (rule : robin old.script old.limit old.past ≡ Some t)
    (take : IsTaken t old new) where
  past_is : new.past ≡ take.event ∷ old.past
  past_is = ap (λ (c : CoreState). c.past) take.is

  -- the history goes on by the rule by one event more
  more_robin : IsRobinFrom begin.script begin.limit begin.past new.past
  more_robin = record {
    newer = take.event ∷ on.robin_is.newer;
    is = past_is ∙ ap (λ (h : List Event). take.event ∷ h) on.robin_is.is;
    robin_is = (
      ap (λ (h : List Event). robin begin.script begin.limit h) (sym on.robin_is.is)
          ∙ (rule_of begin old (Some t) on rule
          ∙ ap (λ (u : Turn). Some u) (sym (turn_same old.script old.limit t old.past take.event take.step_is))),
      on.robin_is.robin_is,
    );
  }

  -- a machine that takes the turn of the rule goes on by the rule
  pub settle_more : IsRun new.script new.limit new.past → length new.past ≤ new.script.cpus * new.limit → IsSettling begin new
  settle_more run few =
      let script : new.script ≡ begin.script = ap (λ (c : CoreState). c.script) take.is ∙ on.script in
      let limit : new.limit ≡ begin.limit = ap (λ (c : CoreState). c.limit) take.is ∙ on.limit in record {
        script = script;
        limit = limit;
        robin_is = more_robin;
        run = rw (script, limit) at run;
        few = rw (script, limit) at few;
      }

-- a machine that took a turn has one event more
pub taken_longer : (t : Turn) (old new : CoreState) → IsTaken t old new → length new.past ≡ suc (length old.past)
taken_longer t old new take = ap (λ (c : CoreState). length c.past) take.is

-- where the rule has no turn, all is settled
pub settle_end : (begin now : CoreState) → IsSettling begin now → robin now.script now.limit now.past ≡ None →
    is_settled begin.script begin.limit now.past ≡ true
settle_end begin now on none =
    (robin_ends_settled begin.script begin.limit now.past on.run).0 (rule_of begin now None on none)
