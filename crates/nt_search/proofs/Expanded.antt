-- What is noted of a quiet end, and what expanding a state leaves.
use Rattle.std.proofs.Common.{ap, arith, subst, sym, ◌∙◌}
use Rattle.std.proofs.lemmas.Bool.{lt-leb}
use Rattle.std.specs.List.{list_all}
use Rattle.std.specs.Prelude.{Bool, Contains, List, None, Option, [], false, get_or, length, refl, true, ℕ, ◌++◌, ◌<◌, ◌∷◌, ◌≡◌, ◌≤◌}
use Rattle.nt_event.specs.declared.events.Event.{Event}
use Rattle.nt_event.specs.declared.events.Turn.{Turn}
use Rattle.nt_event.specs.declared.scripts.Script.{Script}
use Rattle.nt_event.specs.Numbers.{cpu}
use Rattle.nt_event.specs.Own.{made, own_of}
use Rattle.nt_event.specs.Robin.{is_done_with, is_settled}
use Rattle.nt_event.specs.Step.{is_cut}
use Rattle.nt_event.proofs.Tables.{table-same}
use Rattle.nt_alike.specs.Ends.{is_quiet}
use Rattle.nt_alike.proofs.Free.{made_length}
use Rattle.nt_ahead.specs.Turns.{HasAll}
use Rattle.nt_expect.specs.declared.expectations.Expectation.{Expectation}
use Rattle.nt_expect.specs.Meaning.{ShowsAtEnd}
use Rattle.nt_rounds.specs.Graph.{Drawn}
use Rattle.nt_search.specs.declared.failures.Failure.{Failure}
use Rattle.nt_search.specs.declared.found.Found.{Found}
use Rattle.nt_search.specs.declared.machine.Machine.{Machine}
use Rattle.nt_search.specs.declared.plan.Plan.{Plan}
use Rattle.nt_search.specs.Failures.{AreJudged, AreNoted, IsFailure, ShowsBy}
use Rattle.nt_search.specs.States.{AreStates}
use Rattle.nt_search.specs.Searches.{AreFound, AreTried, IsAt, IsEndNoted, IsExpanded}
use Rattle.nt_search.proofs.Noting.{noted, silent, unnoted}

-- where no processor is cut, a history is quiet where it is settled
pub quiet_is : (s : Script) (limit : ℕ) (past : List Event) → length past < limit → is_quiet s past ≡ is_settled s limit past
quiet_is s limit past short =
    ap (list_all (λ b. b))
    (table-same {A = Bool} s.cpus _ (λ p. is_done_with s limit (cpu p) past)
    (λ p l.
    let m = made_length (cpu p) past in
    let u : is_cut limit (own_of s (cpu p) past) ≡ false = lt-leb limit (made (cpu p) past) (omega (arith, m, short)) in
    rw u refl))

module _ (x : Plan) (all : List (List Event)) (found : Found) (h : AreFound x all found) (from : ℕ) (m : Machine) (at : IsAt x all from m) where
  abbrev pub s : Script
  s = x.script.now

  abbrev pub past : List Event
  past = get_or all from []

  -- where it isn't quiet nothing has to be noted
  pub not_quiet : is_settled s x.limit past ≡ false → IsEndNoted x all past found found
  not_quiet q = record {
    found = h;
    drawn = refl;
    silent = λ j d l u quiet shows. absurd (differ (sym q ∙ sym (quiet_is s x.limit past at.short) ∙ quiet));
    kept = λ j u. u;
  }
    where
      differ : false ≡ true → ⊥
      differ q = cc

  -- where it is, what shows was judged
  module _ (f : Failure) (new : Found) (settled : is_settled s x.limit past ≡ true) (state : f.state ≡ from) (turn : f.turn ≡ None)
      (number : f.at ≡ length past)
      (judged : AreJudged (λ y. ShowsAtEnd s y past) f x.expectations.now found.failures.items new.failures.items) (states : new.states ≡ found.states)
      (graph : new.graph ≡ found.graph) where
    quiet : is_quiet s past ≡ true
    quiet = quiet_is s x.limit past at.short ∙ settled

    shown : (y : Expectation) → ShowsAtEnd s y past → IsFailure s all y f
    shown y shows = record {
      state = rw state at.state;
      shows = subst (λ (o : Option Turn). ShowsBy s y (get_or all f.state []) o) (sym turn)
          (subst (λ (k : ℕ). (is_quiet s (get_or all k []) ≡ true) × ShowsAtEnd s y (get_or all k [])) (sym state) (quiet, shows));
      at = number ∙ ap (λ (k : ℕ). length (get_or all k [])) (sym state);
    }

    pub at_end : IsEndNoted x all past found new
    at_end = record {
      found = record {
        states = subst (AreStates s x.watched.items all) (sym states) h.states;
        few = rw states h.few;
        noted = noted (λ y. ShowsAtEnd s y past) f x.expectations.now found.failures.items new.failures.items judged s all all (λ y g was. was) shown
            h.noted;
        drawn = subst (λ (g : Drawn). length g.closed ≤ length all) (sym graph) h.drawn;
        led = λ n k low among. h.led n k (subst (λ (g : Drawn). n < length g.closed) graph low)
            (subst (λ (g : Drawn). Contains (get_or g.closed n []) k) graph among);
      };
      drawn = graph;
      silent = λ j d l u q. silent (λ y. ShowsAtEnd s y past) f x.expectations.now found.failures.items new.failures.items judged j d l u;
      kept = unnoted (λ y. ShowsAtEnd s y past) f x.expectations.now found.failures.items new.failures.items judged h.noted.count;
    }

  -- with each turn tried and its targets closed the state is expanded
  pub expanded : (mid tried new : Found) (turns : List Turn) → HasAll s past turns → IsEndNoted x all past found mid →
      AreTried x all past turns mid tried → found.graph.opened ≡ [] → new.states ≡ tried.states → new.failures ≡ tried.failures →
      new.graph ≡ record { closed = tried.graph.closed ++ tried.graph.opened ∷ []; opened = [] } → IsExpanded x all past found new
  expanded mid tried new turns whole end are opened states failures closed = record {
    more = are.more;
    states = subst (AreStates s x.watched.items (all ++ are.more)) (sym states) are.found.states;
    few = rw states are.found.few;
    noted = subst (AreNoted s (all ++ are.more) x.expectations.now) (sym items) are.found.noted;
    targets = are.targets;
    drawn = closed ∙ ap (λ (g : Drawn). record { closed = g.closed ++ g.opened ∷ []; opened = [] }) (are.drawn ∙ mid_is);
    led = are.led;
    tried = record { run = at.stands.free; turns = turns; whole = whole; lead = are.lead };
    keeps = λ j d l u. let v = unnoted_then j u in
        record { turns = turns; whole = whole; none = are.silent j d l v; quiet = end.silent j d l (are.kept j v) };
    kept = λ j u. end.kept j (are.kept j (unnoted_then j u));
  }
    where
      items : new.failures.items ≡ tried.failures.items
      items = cc

      unnoted_then : (j : ℕ) → get_or new.failures.items j None ≡ None → get_or tried.failures.items j None ≡ None
      unnoted_then j u = subst (λ (fs : List (Option Failure)). get_or fs j None ≡ None) items u

      mid_is : record mid.graph { opened = mid.graph.opened ++ are.targets } ≡ record found.graph { opened = are.targets }
      mid_is =
          ap (λ (g : Drawn). record g { opened = g.opened ++ are.targets }) end.drawn
          ∙ ap (λ (ms : List ℕ). record found.graph { opened = ms ++ are.targets }) opened
