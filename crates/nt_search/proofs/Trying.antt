-- What trying a turn leaves of what was found.
use Rattle.std.proofs.Common.{ap, append-nil, arith, inl, inr, subst, sym, ◌∙◌}
use Rattle.std.proofs.lemmas.List.{get_or_append_left, length-append}
use Rattle.std.proofs.lemmas.List.Elements.{Contains-push}
use Rattle.std.specs.Prelude.{Contains, Err, List, None, Ok, Option, Result, Some, [], get_or, length, suc, zero, ℕ, ◌++◌, ◌<◌, ◌∷◌}
use Rattle.std.specs.Prelude.{◌≡◌, ◌≤◌, ◌⊎◌}
use Rattle.nt_event.specs.declared.events.Event.{Event}
use Rattle.nt_event.specs.declared.events.ScheduleKind.{ScheduleKind}
use Rattle.nt_event.specs.declared.events.Turn.{Turn}
use Rattle.nt_event.specs.declared.scripts.Script.{Script}
use Rattle.nt_alike.specs.Free.{MayCome, free_step}
use Rattle.nt_expect.specs.declared.expectations.Expectation.{Expectation}
use Rattle.nt_expect.specs.Meaning.{ShowsAt}
use Rattle.nt_rounds.specs.Graph.{Drawn}
use Rattle.nt_search.specs.declared.failures.Failure.{Failure}
use Rattle.nt_search.specs.declared.found.Found.{Found}
use Rattle.nt_search.specs.declared.machine.Machine.{Machine}
use Rattle.nt_search.specs.declared.plan.Plan.{Plan}
use Rattle.nt_search.specs.declared.states.Key.{Key}
use Rattle.nt_search.specs.declared.states.Way.{Way}
use Rattle.nt_search.specs.declared.stop.Stop.{Stop}
use Rattle.nt_search.specs.declared.stop.Stop.TheVariants.{NoMemory, States, Turns}
use Rattle.nt_search.specs.Failures.{AreJudged, AreNoted, IsFailure, ShowsBy}
use Rattle.nt_search.specs.Keys.{IsKeyOf}
use Rattle.nt_search.specs.Leads.{IsHalfLed, led}
use Rattle.nt_search.specs.Machines.{IsRefused, IsTaken}
use Rattle.nt_search.specs.Searches.{AreFound, AreTried, HasCause, IsAt, IsPlan, IsStopped}
use Rattle.nt_search.specs.States.{AreStates, IsPutStop, Seen, number_in, put}
use Rattle.nt_search.specs.Tried.{IsLed, IsLikeOne}
use Rattle.nt_search.proofs.Listing.{IsNewWay, is_put}
use Rattle.nt_search.proofs.Noting.{noted, silent, unnoted}
use Rattle.nt_search.proofs.TryingMore.{led_more}

-- one thing alone is in a list of one
only : {S : Type 0} (t u : S) → Contains (t ∷ []) u → u ≡ t
only t u (zero, low, is) = sym is
only t u (suc k, low, is) = absurd (omega (arith, low))

-- two events that the same result gives are the same
given : {e f : Event} → ◌≡◌ {A = Result Event ScheduleKind} (Ok e) (Ok f) → e ≡ f
given q = cc

-- a result that is an event is no refusal
differ : {e : Event} {k : ScheduleKind} → ◌≡◌ {A = Result Event ScheduleKind} (Ok e) (Err k) → ⊥
differ q = cc

-- a failure that shows in a list shows in a longer one
failure_on : (s : Script) (all more : List (List Event)) (x : Expectation) (f : Failure) → IsFailure s all x f → IsFailure s (all ++ more) x f
failure_on s all more x f h =
    let same = get_or_append_left all more [] f.state h.state in
    let size = length-append all more in
    record {
      state = omega (arith, h.state, size);
      shows = subst (λ (past : List Event). ShowsBy s x past f.turn) (sym same) h.shows;
      at = h.at ∙ ap length (sym same);
    }

module _ (x : Plan) (all : List (List Event)) (found : Found) (h : AreFound x all found) (from : ℕ) (m : Machine) (at : IsAt x all from m) (t : Turn) where
  abbrev pub s : Script
  s = x.script.now

  abbrev pub past : List Event
  past = get_or all from []

  -- where the turn is refused, all is as it was
  pub none_tried : (n : Machine) → IsRefused s x.limit x.watched.items t past n → AreTried x all past (t ∷ []) found found
  none_tried n not = record {
    more = [];
    found = subst (λ (hs : List (List Event)). AreFound x hs found) (sym (append-nil all)) h;
    targets = [];
    drawn = ap (λ (ms : List ℕ). record found.graph { opened = ms }) (sym (append-nil found.graph.opened));
    led = λ m among. let low = among.1 in absurd (omega (arith, low));
    lead = λ u e among gives. absurd (never u e among gives);
    silent = λ j d l q u e among gives shows. never u e among gives;
    kept = λ j q. q;
  }
    where
      never : (u : Turn) (e : Event) → Contains (t ∷ []) u → free_step s u past ≡ Ok e → ⊥
      never u e among gives =
          let k : free_step s t past ≡ Ok e = subst (λ (v : Turn). free_step s v past ≡ Ok e) (only t u among) gives in
          differ (sym k ∙ not.refused)

  -- where it is taken, its event was judged and its state put to the others
  module _ (e : Event) (n : Machine) (is : IsTaken s x.limit x.watched.items t past e n) (f : Failure) (failures : List (Option Failure)) (key : Key)
      (way : Way) (plan : IsPlan x) (state : f.state ≡ from) (turn : f.turn ≡ Some t) (number : f.at ≡ length past)
      (judged : AreJudged (λ y. ShowsAt s y e past) f x.expectations.now found.failures.items failures)
      (keyed : IsKeyOf s x.watched.items (e ∷ past) found.states.parts key)
      (back : way.from ≡ from) (by : way.turn ≡ t) where
    shown : (more : List (List Event)) (y : Expectation) → ShowsAt s y e past → IsFailure s (all ++ more) y f
    shown more y shows =
        let same = get_or_append_left all more [] from at.state in
        let size = length-append all more in
        let there : get_or (all ++ more) f.state [] ≡ past = ap (λ (k : ℕ). get_or (all ++ more) k []) state ∙ same in
        record {
          state = omega (arith, at.state, state, size);
          shows = subst (λ (o : Option Turn). ShowsBy s y (get_or (all ++ more) f.state []) o) (sym turn)
              (subst (λ (h : List Event). (d : Event) × (free_step s t h ≡ Ok d) × MayCome s d h × ShowsAt s y d h) (sym there)
              (e, is.gives, is.stands.free.0, shows));
          at = number ∙ ap length (sym there);
        }

    event_is : (u : Turn) (d : Event) → Contains (t ∷ []) u → free_step s u past ≡ Ok d → e ≡ d
    event_is u d among gives = given (sym is.gives ∙ subst (λ (v : Turn). free_step s v past ≡ Ok d) (only t u among) gives)

    new_way : IsNewWay s all found.states.ways (e ∷ past) way h.states.ways
    new_way = record {
      from = rw back at.state;
      event = e;
      gives = subst (λ (k : ℕ). free_step s way.turn (get_or all k []) ≡ Ok e) (sym back) (subst (λ (v : Turn). free_step s v past ≡ Ok e) (sym by) is.gives);
      is = ap (λ (k : ℕ). e ∷ get_or all k []) (sym back);
    }

    -- the failures that show in the longer list
    pub noted_in : (more : List (List Event)) → AreNoted s (all ++ more) x.expectations.now failures
    noted_in more =
        noted (λ y. ShowsAt s y e past) f x.expectations.now found.failures.items failures judged s all (all ++ more)
        (λ y g was. failure_on s all more y g was) (shown more) h.noted

    pub tried : (mid new : Found) → mid.states ≡ found.states → mid.graph ≡ found.graph → mid.failures.items ≡ failures → new ≡ led key way mid →
        length new.states.ways ≤ x.most → AreTried x all past (t ∷ []) found new
    tried mid new states graph failed is_led few =
        let p = is_put s x.watched.items all found.states (e ∷ past) key way plan.fit h.states keyed new_way in
        let number = number_in key found.states in
        let put_is : new.states ≡ put key way found.states = ap (λ (y : Found). y.states) is_led ∙ ap (put key way) states in
        let noted_is : new.failures.items ≡ failures = ap (λ (y : Found). y.failures.items) is_led ∙ failed in
        let drawn : new.graph ≡ record found.graph { opened = found.graph.opened ++ number ∷ [] } =
        ap (λ (y : Found). y.graph) is_led
        ∙ ap (λ (y : Seen). record mid.graph { opened = mid.graph.opened ++ number_in key y ∷ [] }) states
        ∙ ap (λ (g : Drawn). record g { opened = g.opened ++ number ∷ [] }) graph in
        let closed : new.graph.closed ≡ found.graph.closed = ap (λ (g : Drawn). g.closed) drawn in
        record {
          more = p.more;
          found = record {
            states = subst (AreStates s x.watched.items (all ++ p.more)) (sym put_is) p.states;
            few = few;
            noted = subst (AreNoted s (all ++ p.more) x.expectations.now) (sym noted_is) (noted_in p.more);
            drawn = let size = length-append all p.more in let was = h.drawn in subst (λ (c : List (List ℕ)). length c ≤ length (all ++ p.more)) (sym closed)
                (omega (arith, size, was));
            led = λ n m low among. still p.more n m (subst (λ (c : List (List ℕ)). n < length c) closed low)
                (subst (λ (c : List (List ℕ)). Contains (get_or c n []) m) closed among);
          };
          targets = number ∷ [];
          drawn = drawn;
          led = λ m among. subst (IsLed s x.watched.items (all ++ p.more) past) (sym (only number m among))
              (record { event = e; comes = is.stands.free.0; like = p.like });
          lead = λ u d among gives. (
            number,
            Contains-push [] number,
            subst (λ (z : Event). IsLikeOne s x.watched.items (all ++ p.more) (z ∷ past) number) (event_is u d among gives) p.like,
          );
          silent = λ j d l q u z among gives shows.
              silent (λ y. ShowsAt s y e past) f x.expectations.now found.failures.items failures judged j d l
              (subst (λ (fs : List (Option Failure)). get_or fs j None ≡ None) noted_is q)
              (subst (λ (w : Event). ShowsAt s (get_or x.expectations.now j d) w past) (sym (event_is u z among gives)) shows);
          kept = λ j q. unnoted (λ y. ShowsAt s y e past) f x.expectations.now found.failures.items failures judged h.noted.count j
              (subst (λ (fs : List (Option Failure)). get_or fs j None ≡ None) noted_is q);
        }
      where
        -- where an earlier state led, it leads still
        still : (more : List (List Event)) (n m : ℕ) → n < length found.graph.closed → Contains (get_or found.graph.closed n []) m →
            IsLed s x.watched.items (all ++ more) (get_or (all ++ more) n []) m
        still more n m low among =
            let was = h.drawn in
            subst (λ (k : List Event). IsLed s x.watched.items (all ++ more) k m) (sym (get_or_append_left all more [] n (omega (arith, low, was))))
            (led_more s x.watched.items all more (get_or all n []) m (h.led n m low among))

    -- where the search stops before the state is noted, or at the graph, what was judged is noted still
    pub stopped : (mid new : Found) (stop : Stop) → mid.states ≡ found.states → mid.failures.items ≡ failures → IsHalfLed key way x.most stop mid new →
        length new.states.ways ≤ x.most → IsStopped x all stop new
    stopped mid new stop states failed half few = go half.states
      where
        noted_is : new.failures.items ≡ failures
        noted_is = half.failures ∙ failed

        cause : (hs : List (List Event)) (y : Seen) (stop : Stop) → AreStates s x.watched.items hs y → IsPutStop x.most y stop → HasCause x.limit x.most hs stop
        cause hs y States are why = let count = are.ways.count in omega (arith, count, why)
        cause hs y Turns are why = absurd why
        cause hs y NoMemory are why = tt

        with : (more : List (List Event)) → AreStates s x.watched.items (all ++ more) new.states → IsStopped x all stop new
        with more are = record {
          more = more;
          states = are;
          few = few;
          noted = subst (AreNoted s (all ++ more) x.expectations.now) (sym noted_is) (noted_in more);
          cause = cause (all ++ more) new.states stop are half.cause;
        }

        go : (new.states ≡ mid.states) ⊎ (new.states ≡ put key way mid.states) → IsStopped x all stop new
        go (inl same) =
            with [] (subst (λ (hs : List (List Event)). AreStates s x.watched.items hs new.states) (sym (append-nil all))
            (subst (AreStates s x.watched.items all) (sym (same ∙ states)) h.states))
        go (inr more) =
            let p = is_put s x.watched.items all found.states (e ∷ past) key way plan.fit h.states keyed new_way in
            with p.more (subst (AreStates s x.watched.items (all ++ p.more)) (sym (more ∙ ap (put key way) states)) p.states)
