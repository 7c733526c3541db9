-- Traces are runs.
use Rattle.std.proofs.Common.{ap, subst, sym, ◌∙◌}
use Rattle.std.proofs.lemmas.List.{append-nil, append_assoc, map_push, reverse-append}
use Rattle.std.specs.Prelude.{Err, List, Ok, Result, [], map, refl, reverse, true, ℕ, ◌++◌, ◌∷◌, ◌≡◌}
use Rattle.nt_event.specs.declared.events.Event.{Event}
use Rattle.nt_event.specs.declared.events.ScheduleKind.{ScheduleKind}
use Rattle.nt_event.specs.declared.events.Turn.{Turn}
use Rattle.nt_event.specs.declared.scripts.Script.{Script}
use Rattle.nt_event.specs.Step.{IsRun, step, turn_of, turns}
use Rattle.nt_runs.proofs.Turns.{run_grows, turn_same}
use Rattle.nt_shrink.specs.declared.goals.Goal.{Goal}
use Rattle.nt_shrink.specs.Goals.{delivers}
use Rattle.nt_shrink.specs.Laws.{IsDelivery}
use Rattle.nt_shrink.specs.Traces.{Traced, goes_on, is_delivered, traced, traced_from}

-- the turns of a history with one more event
turns_more : (e : Event) (past : List Event) → turns (e ∷ past) ≡ turns past ++ turn_of e ∷ []
turns_more e past = ap (map turn_of) (reverse-append (e ∷ []) past) ∙ map_push turn_of (reverse past) e

-- the turns of a history with one more event, followed by turns, are its old turns, that turn and those
turns_then : (e : Event) (past : List Event) (ts : List Turn) → turns (e ∷ past) ++ ts ≡ turns past ++ turn_of e ∷ ts
turns_then e past ts = ap (λ (x : List Turn). x ++ ts) (turns_more e past) ∙ append_assoc (turns past) (turn_of e ∷ []) ts

-- ---- a run is the trace of its turns

-- tracing a run's own turns and then more is tracing the more from the run
trace_through : (s : Script) (limit : ℕ) (past : List Event) (ts : List Turn) → IsRun s limit past → traced s limit (turns past ++ ts)
    ≡ traced_from s limit past ts
trace_through s limit [] ts r = refl
trace_through s limit (e ∷ past) ts r =
    ap (traced s limit) (turns_then e past ts)
    ∙ (trace_through s limit past (turn_of e ∷ ts) r.1 ∙ ap
    (λ (x : Result Event ScheduleKind). goes_on past x (λ e. traced_from s limit (e ∷ past) ts)) r.0)

-- tracing the turns of a run gives that run
pub run_traced : (s : Script) (limit : ℕ) (h : List Event) → IsRun s limit h → traced s limit (turns h) ≡ Ok h
run_traced s limit h r = ap (traced s limit) (sym (append-nil (turns h))) ∙ trace_through s limit h [] r

-- ---- a trace is a run of its turns

-- a trace that succeeds from a run is a run of the turns taken and then those traced
trace_runs_from : (s : Script) (limit : ℕ) (past : List Event) (list : List Turn) (h : List Event) → IsRun s limit past → traced_from s limit past list
    ≡ Ok h → IsRun s limit h × (turns h ≡ turns past ++ list)
trace_runs_from s limit past [] h r e =
    let i : past ≡ h = cc in
    subst (λ (x : List Event). IsRun s limit x × (turns x ≡ turns past ++ [])) i (r, sym (append-nil (turns past)))
trace_runs_from s limit past (t ∷ ts) h r e =
    go (step s limit t past) refl e (λ f q k. trace_runs_from s limit (f ∷ past) ts h q k)
  where
    go : (x : Result Event ScheduleKind) → step s limit t past ≡ x → goes_on past x (λ f. traced_from s limit (f ∷ past) ts) ≡ Ok h →
        ((f : Event) → IsRun s limit (f ∷ past) → traced_from s limit (f ∷ past) ts ≡ Ok h → IsRun s limit h × (turns h ≡ turns (f ∷ past) ++ ts)) →
        IsRun s limit h × (turns h ≡ turns past ++ (t ∷ ts))
    go (Err k) i e ih = absurd cc
    go (Ok f) i e ih =
        let more = ih f (run_grows s limit t past f r i) e in
        (more.0, more.1 ∙ (turns_then f past ts ∙ ap (λ (u : Turn). turns past ++ u ∷ ts) (turn_same s limit t past f i)))

-- a trace that is not refused is a run whose turns are those of the list
pub trace_runs : (s : Script) (limit : ℕ) (list : List Turn) (h : List Event) → traced s limit list ≡ Ok h → IsRun s limit h × (turns h ≡ list)
trace_runs s limit list h e = trace_runs_from s limit [] list h tt e

-- ---- a list that delivers the request

-- a trace that delivers the goal gave a history that delivers it
delivered_past : (g : Goal) (r : Traced) → is_delivered g r ≡ true → (past : List Event) × ((r ≡ Ok past) × (delivers g past ≡ true))
delivered_past g (Ok past) h = (past, (refl, h))
delivered_past g (Err r) h = absurd cc

-- if the trace of a list delivers the request, the list is the turns of a run that delivers it
pub delivery : (s : Script) (limit : ℕ) (g : Goal) (list : List Turn) → is_delivered g (traced s limit list) ≡ true → IsDelivery s limit g list
delivery s limit g list h =
    let d = delivered_past g (traced s limit list) h in
    let r = trace_runs s limit list d.0 d.1.0 in
    (d.0, (r.0, r.1, d.1.1))
