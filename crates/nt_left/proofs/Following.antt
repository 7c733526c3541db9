-- A run that is made once more.
use Rattle.std.proofs.Common.{ap, subst, sym, ◌∙◌}
use Rattle.std.proofs.lemmas.List.{reverse-append, take-append-drop}
use Rattle.std.specs.Prelude.{Err, IfErr, List, None, Ok, OnOk, Option, Result, Some, [], drop, false, option_map, refl, reverse, slice_get, take, true, ℕ}
use Rattle.std.specs.Prelude.{◌++◌, ◌+◌, ◌∷◌, ◌≡◌}
use Rattle.std.specs.Result.{is_err}
use Rattle.nt_event.specs.declared.events.Event.{Event}
use Rattle.nt_event.specs.declared.events.Turn.{Turn}
use Rattle.nt_event.specs.declared.scripts.Script.{Script}
use Rattle.nt_event.specs.Step.{IsLegal, IsRun, step, turn_of}
use Rattle.nt_floor.specs.Views.{View}
use Rattle.nt_cpus.specs.Following.{AreAfter}
use Rattle.nt_cpus.specs.Refusals.{kind_of}
use Rattle.nt_cpus.specs.States.{CpusState}
use Rattle.nt_cpus.specs.declared.refusals.CoreRefusal.{CoreRefusal}
use Rattle.nt_left.specs.Walks.{past_at}
use Rattle.nt_left.proofs.Pasts.{past_more}

-- what stands behind the newest events of a run is a run
run_behind : (s : Script) (limit : ℕ) (xs past : List Event) → IsRun s limit (xs ++ past) → IsRun s limit past
run_behind s limit [] past r = r
run_behind s limit (x ∷ xs) past r = run_behind s limit xs past r.1

-- so are the first events of a run
run_at : (s : Script) (limit n : ℕ) (events : List Event) → IsRun s limit (reverse events) → IsRun s limit (past_at n events)
run_at s limit n events r =
    run_behind s limit (reverse (drop n events)) (past_at n events)
    (subst (λ (es : List Event). IsRun s limit es)
    (ap reverse (sym (take-append-drop n events)) ∙ reverse-append (take n events) (drop n events)) r)

-- and each is legal after those before it
pub legal_at : (s t : Script) (limit turns n : ℕ) (events : List Event) (e : Event) → IsRun s limit (reverse events) → t ≡ s → turns ≡ limit →
    slice_get events n ≡ Some e → IsLegal t turns e (past_at n events)
legal_at s t limit turns n events e r same alike h =
    subst (λ (x : Script). IsLegal x turns e (past_at n events)) (sym same)
    (subst (λ (k : ℕ). IsLegal s k e (past_at n events)) (sym alike)
    (subst (λ (es : List Event). IsRun s limit es) (past_more events n e h) (run_at s limit (n + 1) events r)).0)

-- the event at a place where one has a turn
pub event_at : (x : Option Event) (t : Turn) → option_map turn_of x ≡ Some t → (e : Event) × ((x ≡ Some e) × (t ≡ turn_of e))
event_at None t h = absurd cc
event_at (Some e) t h = (e, (refl, cc))

module _ (c : CpusState) (floor : Script) (v : View) (t : Turn) (e : Event) (past : List Event) (after : AreAfter past c floor v) (turn : t ≡ turn_of e)
    (legal : IsLegal c.script c.limit e past) where
  is_step : step c.script c.limit t past ≡ Ok e
  is_step = ap (λ (x : Turn). step c.script c.limit x past) turn ∙ legal

  -- the turn of a legal event is not refused
  pub not_refused : (r : Result (Unit {0}) CoreRefusal) → is_err r ≡ true →
      IfErr r (λ x. (past : List Event) → AreAfter past c floor v → step c.script c.limit t past ≡ Err (kind_of x)) → ⊥
  not_refused (Ok u) h never = absurd cc
  not_refused (Err x) h never = let a = is_step in let b = never past after in absurd cc

  -- and makes it
  pub made_on : (d : CpusState) (other : Script) (w : View) (made : Event) (r : Result (Unit {0}) CoreRefusal) → is_err r ≡ false →
      OnOk r ((past : List Event) → AreAfter past c floor v →
      (step c.script c.limit t past ≡ Ok made) × AreAfter (made ∷ past) d other w) → AreAfter (e ∷ past) d other w
  made_on d other w made (Ok u) h does =
      let a = is_step in
      let b = (does past after).0 in
      let same : made ≡ e = cc in
      subst (λ (x : Event). AreAfter (x ∷ past) d other w) same (does past after).1
  made_on d other w made (Err x) h does = absurd cc
