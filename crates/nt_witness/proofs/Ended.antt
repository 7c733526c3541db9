-- The schedule of a completed run is a witness.
use Rattle.std.proofs.Common.{ap, inl, inr, subst, sym, ◌∙◌}
use Rattle.std.proofs.lemmas.List.{reverse-reverse}
use Rattle.std.specs.Prelude.{Bool, List, [], false, map, reverse, ℕ, ◌*◌, ◌⊎◌, ◌≡◌, ◌≤◌}
use Rattle.nt_event.specs.declared.events.Event.{Event}
use Rattle.nt_event.specs.declared.events.History.{History}
use Rattle.nt_event.specs.declared.events.Turn.{Turn}
use Rattle.nt_event.specs.declared.scripts.Script.{Script}
use Rattle.nt_event.specs.Step.{turn_of, turns as turns_of}
use Rattle.nt_core.specs.Replays.{replayed}
use Rattle.nt_core.proofs.Replaying.{runs_replay}
use Rattle.nt_log.specs.Schedules.{turn_bound}
use Rattle.nt_log.specs.declared.schedules.Schedule.{Schedule}
use Rattle.nt_witness.specs.Leads.{Lead}
use Rattle.nt_witness.specs.Limits.{completed, least_limit, most_of, some_is_cut, witness_limit}
use Rattle.nt_witness.specs.Witnesses.{IsCompleted, IsWitness}
use Rattle.nt_witness.proofs.Leading.{lead_turns}
use Rattle.nt_witness.proofs.Limiting.{Ends, IsInRange, limit_ends, limit_in_range}
use Rattle.nt_witness.proofs.Robins.{begins}

module _ (s : Script) (turns : List Turn) (endless : Bool) (r : History) (w : Schedule) (done : IsCompleted s turns r.turns r) (limit_is : w.turns ≡ r.turns)
    (list_is : w.list ≡ map turn_of r.events) (h : List Event) (lead : Lead s turns [] h) where
  -- the schedule has the turns of the run
  list_turns : w.list ≡ turns_of (reverse r.events)
  list_turns = list_is ∙ sym (ap (map turn_of) (reverse-reverse r.events))

  module _ (room : most_of turns ≤ turn_bound s.cpus) (limit : r.turns ≡ witness_limit s endless turns h) where
    same : w.turns ≡ witness_limit s endless turns h
    same = limit_is ∙ limit

    ends : (some_is_cut s w.turns (reverse r.events) ≡ false) ⊎ (w.turns ≡ least_limit (turns_of h))
    ends = go (subst (λ (n : ℕ). Ends s turns h n) (sym same) (limit_ends s turns h endless))
      where
        past : reverse r.events ≡ completed s w.turns h
        past = done.past h lead ∙ ap (λ (n : ℕ). completed s n h) (sym limit_is)

        go : Ends s turns h w.turns → (some_is_cut s w.turns (reverse r.events) ≡ false) ⊎ (w.turns ≡ least_limit (turns_of h))
        go (inl none) = inl (ap (some_is_cut s w.turns) past ∙ none)
        go (inr least) = inr (least ∙ ap least_limit (sym (lead_turns s turns h lead)))

    pub is_witness : IsWitness s h w
    is_witness =
        let newer = begins s r.turns (s.cpus * r.turns) h in record {
          history = reverse r.events;
          newer = newer.0;
          is = done.past h lead ∙ newer.1;
          replay =
              ap (λ (n : ℕ). replayed s n w.list) limit_is ∙ (ap (replayed s r.turns) list_turns
              ∙ runs_replay s r.turns (reverse r.events) done.run done.settled);
          limit = subst (λ (n : ℕ). IsInRange s n) (sym same) (limit_in_range s turns h room endless);
          end = ends;
        }
