-- Turns that show failures.
use Rattle.std.proofs.Common.{ap, append-nil, arith, inl, inr, subst, sym, ◌∙◌}
use Rattle.std.specs.Option.{option_to_list}
use Rattle.std.proofs.lemmas.List.{length-map}
use Rattle.std.specs.Prelude.{List, None, Ok, Option, Some, [], get_or, length, refl, ℕ, ◌++◌, ◌<◌, ◌∷◌, ◌≡◌}
use Rattle.nt_event.specs.declared.events.Event.{Event}
use Rattle.nt_event.specs.declared.events.Turn.{Turn}
use Rattle.nt_event.specs.declared.scripts.Script.{Script}
use Rattle.nt_alike.specs.Free.{free_step}
use Rattle.nt_expect.specs.declared.expectations.Expectation.{Expectation}
use Rattle.nt_expect.specs.declared.expectations.Expectation.TheVariants.{AlwaysEnds}
use Rattle.nt_search.specs.declared.failures.Failure.{Failure}
use Rattle.nt_search.specs.Failures.{AreNoted, IsFailure, IsNoted, ShowsBy}
use Rattle.nt_witness.specs.Leads.{Lead}
use Rattle.nt_findings.specs.Known.{at_places}
use Rattle.nt_findings.specs.Ways.{IsShownBy}
use Rattle.nt_findings.proofs.Fitting.{at_place}

-- one turn more leads one event further
lead_more : (s : Script) (turns : List Turn) (t : Turn) (past h : List Event) (e : Event) → Lead s turns past h → free_step s t h ≡ Ok e →
    Lead s (turns ++ t ∷ []) past (e ∷ h)
lead_more s [] t past h e lead gives = (e, subst (λ (k : List Event). free_step s t k ≡ Ok e) (sym lead) gives, ap (λ (k : List Event). e ∷ k) lead)
lead_more s (u ∷ turns) t past h e lead gives = (lead.0, lead.1, lead_more s turns t (lead.0 ∷ past) h e lead.2 gives)

-- the turns to a failure's state, with its turn behind them where it has one, show it
pub shown_turns : (s : Script) (all : List (List Event)) (x : Expectation) (f : Failure) (turns : List Turn) → Lead s turns [] (get_or all f.state []) →
    IsFailure s all x f → IsShownBy s x (turns ++ option_to_list f.turn) f.at
shown_turns s all x f turns lead fails = go f.turn refl
  where
    go : (o : Option Turn) → f.turn ≡ o → IsShownBy s x (turns ++ option_to_list o) f.at
    go (Some t) is =
        let by : ShowsBy s x (get_or all f.state []) (Some t) = subst (ShowsBy s x (get_or all f.state [])) is fails.shows in
        record {
          history = by.0 ∷ get_or all f.state [];
          lead = lead_more s turns t [] (get_or all f.state []) by.0 lead by.1;
          shows = inl (by.0, get_or all f.state [], refl, by.3, sym fails.at);
        }
    go None is =
        let by : ShowsBy s x (get_or all f.state []) None = subst (ShowsBy s x (get_or all f.state [])) is fails.shows in
        subst (λ (ts : List Turn). IsShownBy s x ts f.at) (sym (append-nil turns)) (record {
          history = get_or all f.state [];
          lead = lead;
          shows = inr (by.0, by.1, sym fails.at);
        })

-- a failure that was noted at the place of one of the expectations is one of it
pub failure_of : (s : Script) (all : List (List Event)) (xs : List Expectation) (places : List ℕ) (failures : List (Option Failure)) (k place : ℕ)
    (f : Failure) → AreNoted s all (at_places xs places) failures → k < length places → get_or places k 0 ≡ place → get_or failures k None ≡ Some f →
    IsFailure s all (get_or xs place AlwaysEnds) f
failure_of s all xs places failures k place f noted low is one =
    let size = length-map places (λ i. get_or xs i AlwaysEnds) in
    let each = noted.each k AlwaysEnds (omega (arith, low, size)) in
    let here : get_or (at_places xs places) k AlwaysEnds ≡ get_or xs place AlwaysEnds =
    at_place xs places k AlwaysEnds low ∙ ap (λ (i : ℕ). get_or xs i AlwaysEnds) is in
    subst (λ (y : Expectation). IsFailure s all y f) here (subst (IsNoted s all (get_or (at_places xs places) k AlwaysEnds)) one each)
