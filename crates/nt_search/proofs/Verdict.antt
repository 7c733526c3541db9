-- What a search that came to its end tells of expectations.
use Rattle.std.proofs.Common.{arith, inl, inr, subst, sym, ◌∙◌}
use Rattle.std.proofs.lemmas.List.{get_or_default}
use Rattle.std.specs.List.{flat_map}
use Rattle.std.specs.Prelude.{Err, IfErr, List, None, Ok, OnOk, Option, Result, Some, [], false, get_or, length, refl, suc, true, zero, ℕ, ◌++◌, ◌<◌, ◌∷◌, ◌≡◌}
use Rattle.std.specs.Prelude.{◌⊎◌}
use Rattle.nt_event.specs.declared.events.Event.{Event}
use Rattle.nt_event.specs.declared.events.Turn.{Turn}
use Rattle.nt_event.specs.declared.scripts.Script.{Script}
use Rattle.nt_alike.specs.Ends.{is_quiet}
use Rattle.nt_alike.specs.Free.{IsFreeRun, LooksAreShort, MayCome}
use Rattle.nt_alike.proofs.Free.{run_free}
use Rattle.nt_alike.specs.Lists.{Among}
use Rattle.nt_alike.proofs.Relation.{alike_self}
use Rattle.nt_alike.proofs.Lists.{each_map}
use Rattle.nt_expect.specs.declared.expectations.Expectation.{Expectation}
use Rattle.nt_expect.specs.declared.expectations.Expectation.TheVariants.{AlwaysEnds}
use Rattle.nt_expect.specs.declared.expectations.Watched.{Watched}
use Rattle.nt_expect.specs.Meaning.{ShowsAt, ShowsAtEnd}
use Rattle.nt_rounds.specs.declared.outcome.Depths.{Depths}
use Rattle.nt_rounds.specs.declared.outcome.Depths.TheVariants.{Finite, Round}
use Rattle.nt_rounds.specs.Depths.{IsInside}
use Rattle.nt_verdict.specs.Closed.{AlikeWatching, AreWatched, IsClosed, watched_by}
use Rattle.nt_verdict.specs.Fails.{Fails, IsShown}
use Rattle.nt_verdict.proofs.Rounds.{shown_fails}
use Rattle.nt_verdict.proofs.States.{is_quiet_at}
use Rattle.nt_verdict.proofs.Verdicts.{tell}
use Rattle.nt_search.specs.declared.failures.Failure.{Failure}
use Rattle.nt_search.specs.declared.found.End.{End}
use Rattle.nt_search.specs.declared.found.End.TheVariants.{Stopped, Whole}
use Rattle.nt_search.specs.declared.found.Found.{Found}
use Rattle.nt_search.specs.declared.plan.Plan.{Plan}
use Rattle.nt_search.specs.declared.states.Key.{Key}
use Rattle.nt_search.specs.declared.stop.Stop.{Stop}
use Rattle.nt_search.specs.Ends.{AreDepthsOf, IsEndOf, TellsOfEnds, is_whole}
use Rattle.nt_search.specs.Failures.{AreNoted, EachUnnoted, FailsAt, IsNoted, ShowsBy}
use Rattle.nt_search.specs.Keys.{AreKeys, SeenParts}
use Rattle.nt_search.specs.Searches.{GoesRound, HasCause, IsPlan, IsSearched, IsShownIn, IsStopped}
use Rattle.nt_search.specs.States.{AreStates}
use Rattle.nt_search.specs.Tried.{Keeps}
use Rattle.nt_search.proofs.Ending.{endless, goes_round, inside, no_longer}
use Rattle.nt_search.proofs.Judged.{named_at}
use Rattle.nt_search.proofs.Tried.{came_self, closed, each_among, each_at, kept}

-- each of the histories is a free run
free_at : (s : Script) (watched : List Watched) (all : List (List Event)) (parts : SeenParts) (keys : List Key) → AreKeys s watched all parts keys → (n : ℕ) →
    n < length all → IsFreeRun s (get_or all n [])
free_at s watched [] parts keys a n low = absurd (omega (arith, low))
free_at s watched (h ∷ all) parts [] a n low = absurd a
free_at s watched (h ∷ all) parts (k ∷ keys) a zero low = a.0.free
free_at s watched (h ∷ all) parts (k ∷ keys) a (suc n) low = free_at s watched all parts keys a.1 n (omega (arith, low))

-- a free run has short looks only
short : (s : Script) (h : List Event) → IsFreeRun s h → LooksAreShort h
short s [] r = tt
short s (e ∷ h) r = (r.0.1, short s h r.1)

-- an event that may come after a free run shows it, or the quiet end of the run
abbrev Shows : Script → Expectation → List Event → Type 0
Shows s x past = ((f : Event) × MayCome s f past × ShowsAt s x f past) ⊎ ((is_quiet s past ≡ true) × ShowsAtEnd s x past)

-- then some run shows it, at the number of these events
shown_at : (s : Script) (x : Expectation) (past : List Event) → IsFreeRun s past → Shows s x past → (shown : IsShown s x) × (shown.number ≡ length past)
shown_at s x past run (inl m) = (
  record {
    limit = length (m.0 ∷ past);
    history = m.0 ∷ past;
    number = length past;
    run = run_free s (length (m.0 ∷ past)) (m.0 ∷ past) (omega arith) (m.1, run);
    looks = short s (m.0 ∷ past) (m.1, run);
    shown = inl (m.0, past, record { newer = []; is = refl; number = refl }, m.2);
  },
  refl,
)
shown_at s x past run (inr m) = (
  record {
    limit = suc (length past);
    history = past;
    number = length past;
    run = run_free s (suc (length past)) past (omega arith) run;
    looks = short s past run;
    shown = inr (is_quiet_at s past m.0, m.1, refl);
  },
  refl,
)

-- what a run's newest turn, or its quiet end, shows against an expectation is a failure at its length
shows_fail : (s : Script) (x : Expectation) (past : List Event) (o : Option Turn) → IsFreeRun s past → ShowsBy s x past o → FailsAt s x (length past)
shows_fail s x past (Some turn) run by =
    let m : Shows s x past = inl (by.0, by.2, by.3) in
    (shown_fails s x past run m, λ not. shown_at s x past run m)
shows_fail s x past None run by =
    let m : Shows s x past = inr by in
    (shown_fails s x past run m, λ not. shown_at s x past run m)

-- the events of one expectation are among those of all
watched_among : (xs : List Expectation) (j : ℕ) (d : Expectation) → j < length xs → (y : Watched) → Among (λ z. y ≡ z) (watched_by (get_or xs j d)) →
    Among (λ z. y ≡ z) (flat_map watched_by xs)
watched_among [] j d low y a = absurd (omega (arith, low))
watched_among (x ∷ xs) zero d low y a = front (watched_by x) a
  where
    front : (ws : List Watched) → Among (λ z. y ≡ z) ws → Among (λ z. y ≡ z) (ws ++ flat_map watched_by xs)
    front [] a = absurd a
    front (w ∷ ws) (inl q) = inl q
    front (w ∷ ws) (inr b) = inr (front ws b)
watched_among (x ∷ xs) (suc j) d low y a = behind (watched_by x) (watched_among xs j d (omega (arith, low)) y a)
  where
    behind : (ws : List Watched) → Among (λ z. y ≡ z) (flat_map watched_by xs) → Among (λ z. y ≡ z) (ws ++ flat_map watched_by xs)
    behind [] b = b
    behind (w ∷ ws) b = inr (behind ws b)

-- an expectation of which a failure is noted fails, at its number
pub fails : (x : Plan) (all : List (List Event)) (f : Found) → AreStates x.script.now x.watched.items all f.states →
    AreNoted x.script.now all x.expectations.now f.failures.items → (j : ℕ) (d : Expectation) (g : Failure) → j < length x.expectations.now →
    get_or f.failures.items j None ≡ Some g → FailsAt x.script.now (get_or x.expectations.now j d) g.at
fails x all f states noted j d g low is =
    let one : IsNoted x.script.now all (get_or x.expectations.now j d) (Some g) =
    subst (IsNoted x.script.now all (get_or x.expectations.now j d)) is (noted.each j d low) in
    let run = free_at x.script.now x.watched.items all f.states.parts f.states.keys states.keys g.state one.state in
    subst (FailsAt x.script.now (get_or x.expectations.now j d)) (sym one.at)
    (shows_fail x.script.now (get_or x.expectations.now j d) (get_or all g.state []) g.turn run one.shows)

-- where all states were found, their histories are a closed list
closed_list : (x : Plan) (f : Found) (h : IsSearched x f) → IsClosed x.script.now x.watched.items h.all
closed_list x f h =
    let s = x.script.now in
    let ways = h.found.states.ways in
    let count : length f.states.ways ≡ length h.all = ways.count in
    let first = subst (AlikeWatching s x.watched.items []) (sym ways.first) (alike_self s [], came_self x.watched.items []) in
    closed s x.watched.items h.all f.graph.closed ways.some first (λ n l. h.tried n (omega (arith, l, count)))

-- where all states were found, each other one but `always ends` holds
pub holds : (x : Plan) → IsPlan x → (f : Found) → IsSearched x f → EachUnnoted (λ e. (e ≡ AlwaysEnds → ⊥) → Fails x.script.now e → ⊥) x.expectations.now
    f.failures.items
holds x plan f h j d low unnoted ends failing =
    let s = x.script.now in
    let e = get_or x.expectations.now j d in
    let ways = h.found.states.ways in
    let count : length f.states.ways ≡ length h.all = ways.count in
    let each = h.keeps j d low unnoted in
    let keeps = each_at (Keeps s e) h.all [] (λ n l. each n (omega (arith, l, count))) in
    let closed = closed_list x f h in
    let fit = named_at s x.expectations.now j e plan.named low (get_or_default x.expectations.now j d e low) in
    let are : AreWatched x.watched.items e = subst (λ (ws : List Watched). AreWatched ws e) (sym plan.watched)
    (each_among (flat_map watched_by x.expectations.now) (watched_by e) (watched_among x.expectations.now j d low)) in
    tell s x.watched.items e h.all fit are closed (record {
      on = each_map (Keeps s e) (λ k. (g : Event) → MayCome s g k → ShowsAt s e g k → ⊥) h.all (λ k keep. kept s e k keep) keeps;
      quiet = each_map (Keeps s e) (λ k. is_quiet s k ≡ true → ShowsAtEnd s e k → ⊥) h.all (λ k keep. keep.quiet) keeps;
      ends = λ q. absurd (ends q);
    }) failing

-- ---- the whole search, by whether all states were expanded

abbrev pub Expanded : Type 0
Expanded = Result (Unit {0}) Stop

module _ (x : Plan) (f : Found) where
  -- what was found in either case
  pub record IsKnown : Type 0 where
    pub all : List (List Event)
    pub states : AreStates x.script.now x.watched.items all f.states
    pub noted : AreNoted x.script.now all x.expectations.now f.failures.items

  -- however a search ended, its states are those of some histories and its failures show in them
  pub known : (r : Expanded) → OnOk r (IsSearched x f) → IfErr r (λ stop. IsStopped x [] stop f) → IsKnown
  known (Ok done) searched stopped = record { all = searched.all; states = searched.found.states; noted = searched.found.noted }
  known (Err stop) searched stopped = record { all = stopped.more; states = stopped.states; noted = stopped.noted }

  -- an expectation with a noted failure fails in the script, at the event of that number
  pub fails_known : IsKnown → (j : ℕ) (d : Expectation) (g : Failure) → j < length x.expectations.now → get_or f.failures.items j None ≡ Some g →
      FailsAt x.script.now (get_or x.expectations.now j d) g.at
  fails_known k = fails x k.all f k.states k.noted

  given_stop : (a b : Stop) → Some a ≡ Some b → a ≡ b
  given_stop a b q = cc

  none_stop : (a : Stop) → ◌≡◌ {A = Option Stop} None (Some a) → ⊥
  none_stop a q = cc

  -- states are of what the expectations watch for where that is what is listed
  states_of : x.watched.items ≡ flat_map watched_by x.expectations.now → (all : List (List Event)) → AreStates x.script.now x.watched.items all f.states →
      AreStates x.script.now (flat_map watched_by x.expectations.now) all f.states
  states_of watched all are = subst (λ (ws : List Watched). AreStates x.script.now ws all f.states) watched are

  -- each of their histories is a free run
  runs_of : (all : List (List Event)) → AreStates x.script.now x.watched.items all f.states → (n : ℕ) → n < length all →
      IsFreeRun x.script.now (get_or all n [])
  runs_of all are = free_at x.script.now x.watched.items all f.states.parts f.states.keys are.keys

  -- and those of a search at its end are a closed list for what the expectations watch for
  closed_of : x.watched.items ≡ flat_map watched_by x.expectations.now → (h : IsSearched x f) →
      IsClosed x.script.now (flat_map watched_by x.expectations.now) h.all
  closed_of watched h = subst (λ (ws : List Watched). IsClosed x.script.now ws h.all) watched (closed_list x f h)

  -- a part is not the whole
  part_whole : false ≡ true → ⊥
  part_whole q = cc

  -- the states, failures, round and cause of stopping that a search gives its caller are right
  pub shown : x.watched.items ≡ flat_map watched_by x.expectations.now → (r : Expanded) (end : End) → OnOk r (IsSearched x f) →
      IfErr r (λ stop. IsStopped x [] stop f) → IsEndOf r f.graph end →
      IsShownIn x.script.now x.expectations.now x.limit x.most (record { found = f; end = end })
  shown watched (Ok done) (Whole depths) searched stopped is = record {
    all = searched.all;
    states = states_of watched searched.all searched.found.states;
    ways = searched.found.states.ways;
    few = searched.found.few;
    runs = runs_of searched.all searched.found.states;
    noted = searched.found.noted;
    round = goes depths is;
    closed = λ q. closed_of watched searched;
    cause = λ stop q. absurd (none_stop stop q);
  }
    where
      goes : (depths : Depths) → AreDepthsOf f.graph.closed depths → GoesRound x.script.now searched.all (Whole depths)
      goes (Finite depths) is = tt
      goes (Round states) is = goes_round x f searched states.items is
  shown watched (Ok done) (Stopped early) searched stopped is = record {
    all = searched.all;
    states = states_of watched searched.all searched.found.states;
    ways = searched.found.states.ways;
    few = searched.found.few;
    runs = runs_of searched.all searched.found.states;
    noted = searched.found.noted;
    round = tt;
    closed = λ q. absurd (part_whole q);
    cause = λ stop q. subst (HasCause x.limit x.most searched.all) (sym is ∙ given_stop early stop q) tt;
  }
  shown watched (Err why) (Whole depths) searched stopped is = absurd is
  shown watched (Err why) (Stopped early) searched stopped is = record {
    all = stopped.more;
    states = states_of watched stopped.more stopped.states;
    ways = stopped.states.ways;
    few = stopped.few;
    runs = runs_of stopped.more stopped.states;
    noted = stopped.noted;
    round = tt;
    closed = λ q. absurd (part_whole q);
    cause = λ stop q. subst (HasCause x.limit x.most stopped.more) (sym is ∙ given_stop early stop q) stopped.cause;
  }

  -- a search that ended whole has expanded all its states
  pub whole : (r : Expanded) (end : End) → OnOk r (IsSearched x f) → IsEndOf r f.graph end → is_whole end ≡ true → IsSearched x f
  whole (Ok done) end searched is q = searched
  whole (Err why) (Whole depths) searched is q = absurd is
  whole (Err why) (Stopped early) searched is q = cc

  -- no run is longer than the first depth a whole search gives; if it gives a round, runs of every length exist
  pub tells : (r : Expanded) (end : End) → OnOk r (IsSearched x f) → IsEndOf r f.graph end → TellsOfEnds x.script.now end
  tells (Ok done) (Whole (Finite depths)) searched is = no_longer x f searched depths.items is
  tells (Ok done) (Whole (Round round)) searched is = endless x f searched round.items is
  tells (Ok done) (Stopped early) searched is = tt
  tells (Err why) (Whole depths) searched is = absurd is
  tells (Err why) (Stopped early) searched is = tt

  -- each state that a search at its end leads to is one that it expanded
  pub all_inside : (r : Expanded) → OnOk r (IsSearched x f) → OnOk r (IsInside f.graph.closed)
  all_inside (Ok done) searched = inside x f searched
  all_inside (Err why) searched = tt
