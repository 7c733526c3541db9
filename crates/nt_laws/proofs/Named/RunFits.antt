-- The events of a run of a script that fits name things of the script, in the order of a report too.
use Rattle.std.proofs.Common.{ap, sym, ◌∙◌}
use Rattle.std.proofs.lemmas.List.{reverse-append}
use Rattle.std.proofs.lemmas.List.Folds.{list_all-append}
use Rattle.std.specs.List.{list_all}
use Rattle.std.specs.Prelude.{Bool, List, [], false, refl, reverse, true, ℕ, ◌&&◌, ◌∷◌, ◌≡◌}
use Rattle.nt_event.specs.declared.events.Event.{Event}
use Rattle.nt_event.specs.declared.scripts.Script.{Script}
use Rattle.nt_event.specs.Fitting.{event_fits, events_fit}
use Rattle.nt_event.specs.Script.{fits}
use Rattle.nt_event.specs.Step.{IsRun}
use Rattle.nt_laws.specs.Named.{AllFit, EventFits}
use Rattle.nt_laws.proofs.Named.EventsFit.{events_of_a_run_fit}

-- each element of a reversed list passes a test just where each of the list does
all_reversed : {X : Type 0} (p : X → Bool) (xs : List X) → list_all p (reverse xs) ≡ list_all p xs
all_reversed p [] = refl
all_reversed p (x ∷ xs) =
    ap (list_all p) (reverse-append (x ∷ []) xs)
    ∙ (list_all-append p (reverse xs) (x ∷ []) ∙ swapped (p x) (list_all p (reverse xs)) (list_all p xs) (all_reversed p xs))
  where
    swapped : (a b c : Bool) → b ≡ c → (b && (a && true)) ≡ (a && c)
    swapped true true c h = h
    swapped true false c h = h
    swapped false true c h = refl
    swapped false false c h = refl

-- an event that fits at its number passes the test of the events of a report
pub event_named : (s : Script) (n : ℕ) (e : Event) → EventFits s n e → event_fits s e ≡ true
event_named s n e h = rw (h.cpu, h.thread, h.what) refl

-- where each event of a history fits, the test for that on the whole history is true
all_named : (s : Script) (past : List Event) → AllFit s past → list_all (event_fits s) past ≡ true
all_named s [] h = refl
all_named s (e ∷ past) h = rw (event_named s _ e h.0) (all_named s past h.1)

-- the events of a run of a script that fits pass the report's test, the oldest first
pub run_fits : (s : Script) (limit : ℕ) (events : List Event) → fits s ≡ true → IsRun s limit (reverse events) → events_fit s events ≡ true
run_fits s limit events f r =
    sym (all_reversed (event_fits s) events) ∙ all_named s (reverse events) (events_of_a_run_fit s limit (reverse events) f r)
