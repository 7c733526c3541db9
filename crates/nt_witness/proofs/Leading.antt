-- Turns that lead to a history, at a turn limit that has room for them.
use Rattle.std.proofs.Common.{ap, arith, drop, subst, sym, zero-add, ◌∙◌}
use Rattle.std.proofs.lemmas.Bool.{lt-leb}
use Rattle.std.proofs.lemmas.List.{append-nil, append_assoc, drop_all, drop_more, map_push, reverse-append}
use Rattle.std.specs.Prelude.{Bool, Err, IfErr, IfOk, List, Ok, OnErr, Result, [], cond, false, get_or, if◌then◌else◌, length, map, refl, reverse, suc, true, ℕ}
use Rattle.std.specs.Prelude.{◌+◌, ◌++◌, ◌<◌, ◌==◌, ◌∷◌, ◌≡◌, ◌≤◌}
use Rattle.nt_event.specs.declared.events.Event.{Event}
use Rattle.nt_event.specs.declared.events.ScheduleKind.{ScheduleKind}
use Rattle.nt_event.specs.declared.events.Turn.{Turn}
use Rattle.nt_event.specs.declared.numbers.CpuNo.{CpuNo}
use Rattle.nt_event.specs.declared.scripts.Script.{Script}
use Rattle.nt_event.specs.Own.{made, own_of}
use Rattle.nt_event.specs.Step.{cpu_at, is_cut, step, turn_of, turns as turns_of}
use Rattle.nt_event.specs.Numbers.{is_of}
use Rattle.nt_runs.proofs.Steps.{turn_gives}
use Rattle.nt_runs.proofs.Turns.{turn_same}
use Rattle.nt_alike.specs.Free.{free_step}
use Rattle.nt_cpus.specs.Refusals.{kind_of}
use Rattle.nt_cpus.specs.declared.refusals.CoreRefusal.{CoreRefusal}
use Rattle.nt_core.specs.States.{CoreState, with_event}
use Rattle.nt_witness.specs.Leads.{Lead}
use Rattle.nt_witness.specs.Limits.{count_of, most_of}
use Rattle.nt_witness.specs.Machines.{IsTaken}
use Rattle.nt_witness.proofs.Counts.{count_more, count_most, one_of, own_turn}

-- where the processor made fewer events than the limit, the turn gives what it gives at no limit
step_free : (s : Script) (limit : ℕ) (t : Turn) (past : List Event) → made (cpu_at t) past < limit → step s limit t past ≡ free_step s t past
step_free s limit t past low =
    let c : is_cut limit (own_of s (cpu_at t) past) ≡ false = lt-leb limit (made (cpu_at t) past) low in rw c refl

-- ---- the turns of the history

-- the event is the turn's
free_turn : (s : Script) (t : Turn) (past : List Event) (e : Event) → free_step s t past ≡ Ok e → turn_of e ≡ t
free_turn s t past e h =
    turn_same s (suc (made (cpu_at t) past)) t past e (step_free s (suc (made (cpu_at t) past)) t past (omega arith) ∙ h)

-- a turn taken freely makes an event of the turn's processor
free_cpu : (s : Script) (t : Turn) (past : List Event) (e : Event) → free_step s t past ≡ Ok e → cpu_at t ≡ e.cpu
free_cpu s t past e h =
    ap (λ (f : Event). f.cpu)
    (turn_gives s (suc (made (cpu_at t) past)) t past e (step_free s (suc (made (cpu_at t) past)) t past (omega arith) ∙ h))

-- the turns of a history with one event more are those of before and then that event's turn
turns_then : (e : Event) (past : List Event) (ts : List Turn) → turns_of (e ∷ past) ++ ts ≡ turns_of past ++ turn_of e ∷ ts
turns_then e past ts =
    ap (λ (x : List Turn). x ++ ts) (ap (map turn_of) (reverse-append (e ∷ []) past) ∙ map_push turn_of (reverse past) e)
    ∙ append_assoc (turns_of past) (turn_of e ∷ []) ts

-- the turns of a history to which turns lead are those of before and then these
lead_from : (s : Script) (turns : List Turn) (past h : List Event) → Lead s turns past h → turns_of h ≡ turns_of past ++ turns
lead_from s [] past h lead = ap turns_of (sym lead) ∙ sym (append-nil (turns_of past))
lead_from s (t ∷ turns) past h lead =
    lead_from s turns (lead.0 ∷ past) h lead.2
    ∙ (turns_then lead.0 past turns ∙ ap (λ (x : Turn). turns_of past ++ x ∷ turns) (free_turn s t past lead.0 lead.1))

-- the turns that lead to a history are its turns
pub lead_turns : (s : Script) (turns : List Turn) (h : List Event) → Lead s turns [] h → turns_of h ≡ turns
lead_turns s turns h lead = lead_from s turns [] h lead

-- ---- taken at a limit

-- some of all turns were taken, and the others lead on from this past to the history
pub record IsOnWay (s : Script) (all rest : List Turn) (past h : List Event) : Type 0 where
  pub lead : Lead s rest past h
  pub counts : (p : CpuNo) → made p past + count_of p rest ≡ count_of p all

-- before any turn is taken, all turns are still to be taken on the way to the history
pub way_start : (s : Script) (all : List Turn) (h : List Event) → Lead s all [] h → IsOnWay s all all [] h
way_start s all h lead = record { lead = lead; counts = λ p. zero-add (count_of p all) }

module _ (s : Script) (limit : ℕ) (all rest : List Turn) (t : Turn) (past h : List Event) (on : IsOnWay s all (t ∷ rest) past h)
    (room : most_of all ≤ limit) where
  -- the processor of the next turn is not cut
  low : made (cpu_at t) past < limit
  low =
      let all_its = on.counts (cpu_at t) in
      let few = count_most (cpu_at t) all in
      let one = own_turn t in
      let more = count_more (cpu_at t) t rest in
      omega (arith, all_its, few, one, more, room)

  counted : (p : CpuNo) (b : Bool) → is_of on.lead.0 p ≡ b → (if b then made p past + 1 else made p past) + count_of p rest ≡ count_of p all
  counted p true k =
      let its : one_of p t ≡ 1 = ap (λ (q : CpuNo). cond (q.0 == p.0) 1 0) (free_cpu s t past on.lead.0 on.lead.1) ∙ ap (λ (b : Bool). cond b 1 0) k in
      let more = count_more p t rest in
      let all_its = on.counts p in
      omega (arith, its, more, all_its)
  counted p false k =
      let none : one_of p t ≡ 0 = ap (λ (q : CpuNo). cond (q.0 == p.0) 1 0) (free_cpu s t past on.lead.0 on.lead.1) ∙ ap (λ (b : Bool). cond b 1 0) k in
      let more = count_more p t rest in
      let all_its = on.counts p in
      omega (arith, none, more, all_its)

  -- so the turn gives its event, and the others lead on
  pub way_gives : (e : Event) × (step s limit t past ≡ Ok e) × IsOnWay s all rest (e ∷ past) h
  way_gives = (
    on.lead.0,
    step_free s limit t past low ∙ on.lead.1,
    record { lead = on.lead.2; counts = λ p. counted p (is_of on.lead.0 p) refl },
  )

-- ---- a machine that takes them

-- it takes a turn that has an event
pub taken : (old new : CoreState) (x : Result Event CoreRefusal) (t : Turn) →
    IfOk x (λ e. (step old.script old.limit t old.past ≡ Ok e) × (new ≡ with_event e old)) →
    IfErr x (λ k. step old.script old.limit t old.past ≡ Err (kind_of k)) → OnErr x (new ≡ old) → IsTaken t old new
taken old new (Ok f) t ok err same = record {
  script = ap (λ (c : CoreState). c.script) ok.1;
  limit = ap (λ (c : CoreState). c.limit) ok.1;
  past = λ e h. ap (λ (c : CoreState). c.past) ok.1 ∙ ap (λ (g : Event). g ∷ old.past) (given (sym ok.0 ∙ h));
}
  where
    given : {e f : Event} → ◌≡◌ {A = Result Event ScheduleKind} (Ok e) (Ok f) → e ≡ f
    given q = cc
taken old new (Err k) t ok err same = record {
  script = ap (λ (c : CoreState). c.script) same;
  limit = ap (λ (c : CoreState). c.limit) same;
  past = λ e h. absurd (differ (sym h ∙ err));
}
  where
    differ : {e : Event} {k : ScheduleKind} → ◌≡◌ {A = Result Event ScheduleKind} (Ok e) (Err k) → ⊥
    differ q = cc

-- the machine took some of all turns, which lead to each history to which all lead
pub record HasBegun (s : Script) (limit : ℕ) (all rest : List Turn) (now : CoreState) : Type 0 where
  pub script : now.script ≡ s
  pub limit_is : now.limit ≡ limit
  pub way : (h : List Event) → Lead s all [] h → IsOnWay s all rest now.past h

-- a machine with no event yet has taken none of the turns that lead to a history
pub not_begun : (s : Script) (limit : ℕ) (all : List Turn) (now : CoreState) → now ≡ record { script = s; limit = limit; past = [] } →
    HasBegun s limit all all now
not_begun s limit all now e = record {
  script = ap (λ (c : CoreState). c.script) e;
  limit_is = ap (λ (c : CoreState). c.limit) e;
  way = λ h lead. subst (λ (k : List Event). IsOnWay s all all k h) (sym (ap (λ (c : CoreState). c.past) e)) (way_start s all h lead);
}

-- it takes the next one
pub begun_on : (s : Script) (limit i : ℕ) (all : List Turn) (d : Turn) (old new : CoreState) → most_of all ≤ limit → i < length all →
    HasBegun s limit all (drop i all) old → IsTaken (get_or all i d) old new → HasBegun s limit all (drop (i + 1) all) new
begun_on s limit i all d old new room low begun take = record {
  script = take.script ∙ begun.script;
  limit_is = take.limit ∙ begun.limit_is;
  way = λ h lead. on h (begun.way h lead);
}
  where
    t : Turn
    t = get_or all i d

    on : (h : List Event) → IsOnWay s all (drop i all) old.past h → IsOnWay s all (drop (i + 1) all) new.past h
    on h way =
        let here : IsOnWay s all (t ∷ drop (i + 1) all) old.past h = subst (λ (ts : List Turn). IsOnWay s all ts old.past h) (drop_more all i d low) way in
        let next = way_gives s limit all (drop (i + 1) all) t old.past h here room in
        let made : step old.script old.limit t old.past ≡ Ok next.0 = ap (λ (z : Script). step z old.limit t old.past) begun.script
        ∙ (ap (λ (n : ℕ). step s n t old.past) begun.limit_is ∙ next.1) in
        subst (λ (k : List Event). IsOnWay s all (drop (i + 1) all) k h) (sym (take.past next.0 made)) next.2

-- at the end it stands after the history
pub begun_whole : (s : Script) (limit i : ℕ) (all : List Turn) (now : CoreState) (h : List Event) → length all ≤ i →
    HasBegun s limit all (drop i all) now → Lead s all [] h → now.past ≡ h
begun_whole s limit i all now h low begun lead =
    let here : Lead s [] now.past h = subst (λ (ts : List Turn). Lead s ts now.past h) (drop_all i all low) (begun.way h lead).lead in here
