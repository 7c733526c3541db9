-- Turns that were tried one after another.
use Rattle.std.proofs.Common.{ap, append-nil, arith, inl, inr, subst, sym, ◌∙◌}
use Rattle.std.proofs.lemmas.List.{append_assoc, get_or_append_left, length-append}
use Rattle.std.proofs.lemmas.List.Elements.{Contains-append_cases, Contains-append_left, Contains-append_right}
use Rattle.std.specs.Prelude.{Contains, List, None, Ok, [], get_or, length, suc, zero, ℕ, ◌++◌, ◌<◌, ◌∷◌, ◌≡◌, ◌≤◌, ◌⊎◌}
use Rattle.nt_event.specs.declared.events.Event.{Event}
use Rattle.nt_event.specs.declared.events.Turn.{Turn}
use Rattle.nt_alike.specs.Free.{free_step}
use Rattle.nt_event.specs.declared.scripts.Script.{Script}
use Rattle.nt_expect.specs.declared.expectations.Expectation.{Expectation}
use Rattle.nt_expect.specs.declared.expectations.Watched.{Watched}
use Rattle.nt_expect.specs.Meaning.{ShowsAt}
use Rattle.nt_rounds.specs.Graph.{Drawn}
use Rattle.nt_verdict.specs.Closed.{AlikeWatching}
use Rattle.nt_search.specs.declared.found.Found.{Found}
use Rattle.nt_search.specs.declared.machine.Machine.{Machine}
use Rattle.nt_search.specs.declared.plan.Plan.{Plan}
use Rattle.nt_search.specs.Machines.{Stands}
use Rattle.nt_search.specs.declared.stop.Stop.{Stop}
use Rattle.nt_search.specs.declared.stop.Stop.TheVariants.{NoMemory, States, Turns}
use Rattle.nt_search.specs.Failures.{AreNoted}
use Rattle.nt_search.specs.Searches.{AreFound, AreTried, HasCause, IsAt, IsStopped, IsWayStop}
use Rattle.nt_search.specs.States.{AreStates}
use Rattle.nt_search.specs.Tried.{IsLed, IsLikeOne}

-- a history that is like that of a state stays so where more are found
pub like_more : (s : Script) (watched : List Watched) (all more : List (List Event)) (h : List Event) (number : ℕ) → IsLikeOne s watched all h number →
    IsLikeOne s watched (all ++ more) h number
like_more s watched all more h number like =
    let size = length-append all more in
    let low = like.low in
    record {
      low = omega (arith, low, size);
      alike = subst (AlikeWatching s watched h) (sym (get_or_append_left all more [] number low)) like.alike;
    }

-- and so does where a history leads
pub led_more : (s : Script) (watched : List Watched) (all more : List (List Event)) (past : List Event) (number : ℕ) → IsLed s watched all past number →
    IsLed s watched (all ++ more) past number
led_more s watched all more past number led =
    record { event = led.event; comes = led.comes; like = like_more s watched all more (led.event ∷ past) number led.like }

-- in the list, or the one behind it
last_or : (ts : List Turn) (t u : Turn) → Contains (ts ++ t ∷ []) u → Contains ts u ⊎ (u ≡ t)
last_or [] t u (k, low, is) = inr (first k low is)
  where
    first : (k : ℕ) → k < 1 → get_or (t ∷ []) k u ≡ u → u ≡ t
    first zero low is = sym is
    first (suc k) low is = absurd (omega (arith, low))
last_or (v ∷ ts) t u (zero, low, is) = inl (zero, omega arith, is)
last_or (v ∷ ts) t u (suc k, low, is) = go (last_or ts t u (k, omega (arith, low), is))
  where
    go : Contains ts u ⊎ (u ≡ t) → Contains (v ∷ ts) u ⊎ (u ≡ t)
    go (inl (j, l, e)) = inl (suc j, omega (arith, l), e)
    go (inr e) = inr e

-- a machine in a state of a list is in that state of a longer list
pub at_more : (x : Plan) (all more : List (List Event)) (n : ℕ) (m : Machine) → IsAt x all n m → IsAt x (all ++ more) n m
at_more x all more n m h =
    let same = get_or_append_left all more [] n h.state in
    let size = length-append all more in
    record {
      state = omega (arith, h.state, size);
      stands = subst (λ (past : List Event). Stands x.script.now x.limit x.watched.items past m) (sym same) h.stands;
      short = subst (λ (past : List Event). length past < x.limit) (sym same) h.short;
    }

-- no turn at all
pub none_of : (x : Plan) (all : List (List Event)) (past : List Event) (found : Found) → AreFound x all found → AreTried x all past [] found found
none_of x all past found h = record {
  more = [];
  found = subst (λ (hs : List (List Event)). AreFound x hs found) (sym (append-nil all)) h;
  targets = [];
  drawn = ap (λ (ms : List ℕ). record found.graph { opened = ms }) (sym (append-nil found.graph.opened));
  led = λ m among. absurd (none m among);
  lead = λ u e among gives. absurd (nothing u among);
  silent = λ j d l q u e among gives shows. nothing u among;
  kept = λ j q. q;
}
  where
    nothing : (u : Turn) → Contains [] u → ⊥
    nothing u among = let low = among.1 in absurd (omega (arith, low))

    none : (m : ℕ) → Contains [] m → ⊥
    none m among = let low = among.1 in absurd (omega (arith, low))

-- two lists of targets, one behind the other
drawn_both : (old mid new : Drawn) (xs ys : List ℕ) → mid ≡ record old { opened = old.opened ++ xs } → new ≡ record mid { opened = mid.opened ++ ys } →
    new ≡ record old { opened = old.opened ++ (xs ++ ys) }
drawn_both old mid new xs ys a b =
    b
    ∙ ap (λ (g : Drawn). record g { opened = g.opened ++ ys }) a
    ∙ ap (λ (ms : List ℕ). record old { opened = ms }) (append_assoc old.opened xs ys)

-- one turn more
pub one_more : (x : Plan) (all : List (List Event)) (n : ℕ) (ts : List Turn) (t : Turn) (old mid new : Found) → n < length all →
    (a : AreTried x all (get_or all n []) ts old mid) → AreTried x (all ++ a.more) (get_or (all ++ a.more) n []) (t ∷ []) mid new →
    AreTried x all (get_or all n []) (ts ++ t ∷ []) old new
one_more x all n ts t old mid new low a b = record {
  more = a.more ++ b.more;
  found = subst (λ (hs : List (List Event)). AreFound x hs new) assoc b.found;
  targets = a.targets ++ b.targets;
  drawn = drawn_both old.graph mid.graph new.graph a.targets b.targets a.drawn b.drawn;
  led = λ m among. subst (λ (hs : List (List Event)). IsLed s watched hs past m) assoc (led m (Contains-append_cases a.targets b.targets m among));
  lead = λ u e among gives. lead u e (last_or ts t u among) gives;
  silent = λ j d l q u e among gives shows. silent j d l q u e (last_or ts t u among) gives shows;
  kept = λ j q. a.kept j (b.kept j q);
}
  where
    s : Script
    s = x.script.now

    watched : List Watched
    watched = x.watched.items

    past : List Event
    past = get_or all n []

    same : get_or (all ++ a.more) n [] ≡ get_or all n []
    same = get_or_append_left all a.more [] n low

    assoc : all ++ a.more ++ b.more ≡ all ++ (a.more ++ b.more)
    assoc = append_assoc all a.more b.more

    itself : (u : Turn) → u ≡ t → Contains (t ∷ []) u
    itself u is = (zero, omega arith, sym is)

    led : (m : ℕ) → Contains a.targets m ⊎ Contains b.targets m → IsLed s watched (all ++ a.more ++ b.more) (get_or all n []) m
    led m (inl among) = led_more s watched (all ++ a.more) b.more (get_or all n []) m (a.led m among)
    led m (inr among) = subst (λ (h : List Event). IsLed s watched (all ++ a.more ++ b.more) h m) same (b.led m among)

    lead : (u : Turn) (e : Event) → Contains ts u ⊎ (u ≡ t) → free_step s u (get_or all n []) ≡ Ok e →
        (number : ℕ) × Contains (a.targets ++ b.targets) number × IsLikeOne s watched (all ++ (a.more ++ b.more)) (e ∷ get_or all n []) number
    lead u e (inl among) gives =
        let to = a.lead u e among gives in (
          to.0,
          Contains-append_left a.targets b.targets to.0 to.1,
          subst (λ (hs : List (List Event)). IsLikeOne s watched hs (e ∷ get_or all n []) to.0) assoc
              (like_more s watched (all ++ a.more) b.more (e ∷ get_or all n []) to.0 to.2),
        )
    lead u e (inr is) gives =
        let to = b.lead u e (itself u is) (subst (λ (h : List Event). free_step s u h ≡ Ok e) (sym same) gives) in (
          to.0,
          Contains-append_right a.targets b.targets to.0 to.1,
          subst (λ (hs : List (List Event)). IsLikeOne s watched hs (e ∷ get_or all n []) to.0) assoc
              (subst (λ (h : List Event). IsLikeOne s watched (all ++ a.more ++ b.more) (e ∷ h) to.0) same to.2),
        )

    silent : (j : ℕ) (d : Expectation) → j < length x.expectations.now → get_or new.failures.items j None ≡ None → (u : Turn) (e : Event) →
        Contains ts u ⊎ (u ≡ t) → free_step x.script.now u (get_or all n []) ≡ Ok e → ShowsAt x.script.now (get_or x.expectations.now j d) e (get_or all n []) →
        ⊥
    silent j d l q u e (inl among) gives shows = a.silent j d l (b.kept j q) u e among gives shows
    silent j d l q u e (inr is) gives shows =
        b.silent j d l q u e (zero, omega arith, sym is) (subst (λ (h : List Event). free_step x.script.now u h ≡ Ok e) (sym same) gives)
        (subst (λ (h : List Event). ShowsAt x.script.now (get_or x.expectations.now j d) e h) (sym same) shows)

-- where the search stops at a later turn, it stops
pub stopped_more : (x : Plan) (all more : List (List Event)) (stop : Stop) (f : Found) → IsStopped x (all ++ more) stop f → IsStopped x all stop f
stopped_more x all more stop f h = record {
  more = more ++ h.more;
  states = subst (λ (hs : List (List Event)). AreStates x.script.now x.watched.items hs f.states) assoc h.states;
  few = h.few;
  noted = subst (λ (hs : List (List Event)). AreNoted x.script.now hs x.expectations.now f.failures.items) assoc h.noted;
  cause = subst (λ (hs : List (List Event)). HasCause x.limit x.most hs stop) assoc h.cause;
}
  where
    assoc : all ++ more ++ h.more ≡ all ++ (more ++ h.more)
    assoc = append_assoc all more h.more

-- what was found is still so where memory is wanting
pub starved_by : (x : Plan) (all : List (List Event)) (f : Found) → AreStates x.script.now x.watched.items all f.states →
    length f.states.ways ≤ x.most → AreNoted x.script.now all x.expectations.now f.failures.items → IsStopped x all NoMemory f
starved_by x all f states few noted = record {
  more = [];
  states = subst (λ (hs : List (List Event)). AreStates x.script.now x.watched.items hs f.states) (sym (append-nil all)) states;
  few = few;
  noted = subst (λ (hs : List (List Event)). AreNoted x.script.now hs x.expectations.now f.failures.items) (sym (append-nil all)) noted;
  cause = tt;
}

-- what a search found so far is a sound result of one that stopped out of memory
pub starved : (x : Plan) (all : List (List Event)) (f : Found) → AreFound x all f → IsStopped x all NoMemory f
starved x all f h = starved_by x all f h.states h.few h.noted

-- and so it is where there is no machine in a state
pub way_stopped : (x : Plan) (all : List (List Event)) (stop : Stop) (f : Found) → IsWayStop x all stop → AreFound x all f → IsStopped x all stop f
way_stopped x all States f why h = absurd why
way_stopped x all NoMemory f why h = starved x all f h
way_stopped x all Turns f why h = record {
  more = [];
  states = subst (λ (hs : List (List Event)). AreStates x.script.now x.watched.items hs f.states) (sym (append-nil all)) h.states;
  few = h.few;
  noted = subst (λ (hs : List (List Event)). AreNoted x.script.now hs x.expectations.now f.failures.items) (sym (append-nil all)) h.noted;
  cause = subst (λ (hs : List (List Event)). (n : ℕ) × (n < length hs) × (x.limit ≤ length (get_or hs n []))) (sym (append-nil all)) why;
}
