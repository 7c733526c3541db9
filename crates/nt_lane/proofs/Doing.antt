-- A planned event that was drawn, marked and noted is done.
use Rattle.std.proofs.Common.{ap, arith, refl, subst, sym, ◌∙◌}
use Rattle.std.proofs.lemmas.List.{length-replicate}
use Rattle.std.proofs.lemmas.List.Elements.{Contains-append_right}
use Rattle.std.specs.List.{list_any}
use Rattle.std.specs.Prelude.{All, Bool, Contains, IfSome, List, None, Option, Some, [], false, get_or, if◌then◌else◌, length, map, true, ℕ, ◌+◌, ◌<◌, ◌^◌, ◌∷◌}
use Rattle.std.specs.Prelude.{◌≡◌, ◌≤◌}
use Rattle.nt_event.specs.declared.events.Event.{Event}
use Rattle.nt_event.specs.declared.jobs.Job.{Job}
use Rattle.nt_event.specs.declared.jobs.Lane.{Lane}
use Rattle.nt_event.specs.declared.jobs.Lane.TheVariants.{Lock as LockLane, Object as ObjectLane, Queue as QueueLane, Threads as ThreadsLane}
use Rattle.nt_event.specs.declared.jobs.Lane.TheVariants.{Timers as TimersLane}
use Rattle.nt_event.specs.declared.jobs.Stand.{Stand}
use Rattle.nt_event.specs.declared.numbers.CpuNo.{CpuNo}
use Rattle.nt_event.specs.declared.scripts.Script.{Script}
use Rattle.nt_event.specs.LaneStates.{told_at}
use Rattle.nt_event.specs.Lanes.{lane_number, what_lanes}
use Rattle.nt_event.specs.Lists.{table, value_at}
use Rattle.nt_event.specs.Requests.{Ask, is_ask, raised, what_asks}
use Rattle.nt_event.proofs.Tables.{get_or-table}
use Rattle.nt_event.specs.Acts.{Told, told_over}
use Rattle.nt_mark.specs.declared.view.Entry.{Entry}
use Rattle.nt_mark.specs.declared.view.View.{View}
use Rattle.nt_mark.specs.Views.{entry, reach, request_word, step_word}
use Rattle.nt_lane.specs.declared.planning.Plan.{Plan}
use Rattle.nt_lane.specs.Answers.{held_lanes, threads_told}
use Rattle.nt_lane_record.specs.Held.{GroupState, IsGroupThere, group_content}
use Rattle.nt_lane.specs.Locks.{AreKnownBy, AreLanes, HeldLanes, IsKnownBy, IsLane, Kept, found_in, in_each, states_of, told_in, told_of}
use Rattle.nt_lane.specs.Plans.{IsPlan}
use Rattle.nt_lane_record.specs.Records.{IsAskKnown}
use Rattle.nt_lane.specs.Seats.{AreFoundOn}
use Rattle.nt_lane.specs.Steps.{AreLeftBy}
use Rattle.nt_states.specs.LaneLists.{AskFits, LaneFits}
use Rattle.nt_lane.specs.Tries.{HasMade, IsDone}
use Rattle.nt_lane_record.specs.Passes.{Learns, grows_through}
use Rattle.nt_lane.proofs.Founding.{all_found}
use Rattle.nt_lane.proofs.Moves.{asked_known}
use Rattle.nt_lane_record.proofs.Tying.{here}
use Rattle.nt_states.proofs.Requests.{as_raised}

-- ---- after it was drawn and marked, the pass only learned

-- an ask that a pass knows stays known to a pass that has reached at least as far in each word
one_later : (n : ℕ) (v w : View) (a : Ask) → ((u : ℕ) → reach u v ≤ reach u w) → IsAskKnown n v a → IsAskKnown n w a
one_later n v w a le h = let b = le (request_word a.cpu a.class) in omega (arith, h, b)

-- asks that a pass knows all stay known to a pass that has reached at least as far in each word
asked_later : (n : ℕ) (v w : View) (asks : List Ask) → ((u : ℕ) → reach u v ≤ reach u w) → All (IsAskKnown n v) asks →
    All (IsAskKnown n w) asks
asked_later n v w asks le h = λ k d l. one_later n v w (get_or asks k d) le (h k d l)

-- a pass that made an event and then learned more has made the event
pub made_before : (n : ℕ) (e : Event) (lanes : List ℕ) (asks : List Ask) (u v w : View) → HasMade n e lanes asks u v → Learns v w →
    HasMade n e lanes asks u w
made_before n e lanes asks u v w h l = record {
  entries = l.entries ∙ h.entries;
  marks = l.marks ∙ h.marks;
  looks = l.looks ∙ h.looks;
  least = λ x. let a = h.least x in let b = l.least x in omega (arith, a, b);
  from = h.from;
  to = (let a = h.to in let b = l.least step_word in omega (arith, a, b));
  asked = asked_later n v w asks l.least h.asked;
  grows = grows_through u v w h.grows l.grows;
}

-- ---- told values

-- the greatest value told of several lanes is at most a bound of the value told of each
over_below : (told : Told) (lanes : List Lane) (p : CpuNo) (c v : ℕ) → ((x : Lane) → told x p c ≤ v) → told_over told lanes p c ≤ v
over_below told [] p c v h = omega arith
over_below told (x ∷ lanes) p c v h =
    let here : told x p c ≤ v = h x in
    let rest : told_over told lanes p c ≤ v = over_below told lanes p c v h in
    omega (arith, here, rest)

-- what one held lane that a pass knows tells of requests is at most what the pass has reached
one_below : {A : Type 0} (o : Option (Kept A)) (v : View) (p : CpuNo) (c : ℕ) → IfSome o (λ k. IsKnownBy k.log v) →
    (told_at (told_of o) p c ≤ reach (request_word p c) v) × (told_at (told_of o) p c ≤ reach step_word v)
one_below None v p c h = (omega arith, omega arith)
one_below (Some k) v p c h = h.tells p c

-- what each of the held lanes that a pass knows tells of requests is at most what the pass has reached
each_below : (h : HeldLanes) (v : View) → AreKnownBy h v → (p : CpuNo) (c : ℕ) (x : Lane) →
    (told_in h x p c ≤ reach (request_word p c) v) × (told_in h x p c ≤ reach step_word v)
each_below h v k p c (ObjectLane d) = one_below h.object v p c k.object
each_below h v k p c (QueueLane q) = one_below h.queue v p c k.queue
each_below h v k p c (ThreadsLane q) = one_below h.group v p c k.group
each_below h v k p c TimersLane = one_below h.timers v p c k.timers
each_below h v k p c (LockLane x) = one_below h.spin_lock v p c k.spin_lock

-- a word that is at least the old value and above the number of an ask is at least the raised value
raised_below : (b : Bool) (n old word value : ℕ) → old ≤ word → (b ≡ true → n + 1 ≤ word) → value ≡ raised b n old → value ≤ word
raised_below true n old word value h k e = let a = k refl in omega (arith, a, e)
raised_below false n old word value h k e = omega (arith, h, e)

module _ (s : Script) (h : HeldLanes) (st : Stand) (p : Plan) (n : ℕ) (over value : List ℕ)
    (told : over ≡ table 16 (λ c. told_over (told_in h) p.lanes st.cpu c))
    (own : value ≡ table 16 (λ c. if list_any (is_ask st.cpu c) p.asks then n + 1 else value_at over c)) where
  -- the value told of a class is what the lanes tell of it, or the event's number plus one if the event asks it
  pub value_is : (c : ℕ) → c < 16 → value_at value c ≡ raised (list_any (is_ask st.cpu c) p.asks) n (told_over (told_in h) p.lanes st.cpu c)
  value_is c l =
      ap (λ (xs : List ℕ). value_at xs c) own
      ∙ (get_or-table 16 c (λ k. if list_any (is_ask st.cpu k) p.asks then n + 1 else value_at over k) 0 l
      ∙ (as_raised (list_any (is_ask st.cpu c) p.asks) n (value_at over c)
      ∙ ap (λ (k : ℕ). raised (list_any (is_ask st.cpu c) p.asks) n k)
      (ap (λ (xs : List ℕ). value_at xs c) told ∙ get_or-table 16 c (λ k. told_over (told_in h) p.lanes st.cpu k) 0 l)))

  -- each value told of the event's own processor is known of its request word and of the step word
  pub value_below : (v w : View) → AreKnownBy h v → ((u : ℕ) → reach u v ≤ reach u w) → n + 1 ≤ reach step_word w →
      All (IsAskKnown n w) p.asks → (c : ℕ) → c < 16 →
      (value_at value c ≤ reach (request_word st.cpu c) w) × (value_at value c ≤ reach step_word w)
  value_below v w known le to asked c l =
      let word : told_over (told_in h) p.lanes st.cpu c ≤ reach (request_word st.cpu c) v =
      over_below (told_in h) p.lanes st.cpu c _ (λ x. (each_below h v known st.cpu c x).0) in
      let step : told_over (told_in h) p.lanes st.cpu c ≤ reach step_word v =
      over_below (told_in h) p.lanes st.cpu c _ (λ x. (each_below h v known st.cpu c x).1) in
      let a = le (request_word st.cpu c) in
      let b = le step_word in (
        raised_below (list_any (is_ask st.cpu c) p.asks) n (told_over (told_in h) p.lanes st.cpu c) (reach (request_word st.cpu c) w) (value_at value c)
            (omega (arith, word, a)) (asked_known n w st.cpu c p.asks asked) (value_is c l),
        raised_below (list_any (is_ask st.cpu c) p.asks) n (told_over (told_in h) p.lanes st.cpu c) (reach step_word w) (value_at value c)
            (omega (arith, step, b)) (λ z. to) (value_is c l),
      )

-- ---- the whole

-- the states of held lanes have one thread state for each thread of the script
threads_long : (s : Script) (h : HeldLanes) → AreLanes s h → length (held_lanes (states_of s h)).threads ≡ length s.threads
threads_long s h there = go h.group there.group
  where
    go : (o : Option (Kept GroupState)) → IfSome o (λ k. IsLane s (ThreadsLane k.state.cpu) (group_content k.state) 0 (IsGroupThere s k.state) k.log) →
        length (threads_told s (in_each o (λ k. k.state))) ≡ length s.threads
    go None k = length-replicate (length s.threads) _
    go (Some g) k = k.fits.count

-- an event that was planned, drawn, marked and noted on all its lanes is done
pub is_done : (s : Script) (h : HeldLanes) (st : Stand) (j : Job) (p : Plan) (n : ℕ) (numbers over value : List ℕ) (u v w : View) → AreLanes s h →
    AreKnownBy h u → IsPlan (states_of s h) st j p → numbers ≡ map (lane_number s) p.lanes → n + 1 < 2 ^ 64 → HasMade n p.event numbers p.asks u v →
    Learns v w → AreLeftBy s n st p.event p.lanes p.asks h w → over ≡ table 16 (λ c. told_over (told_in h) p.lanes st.cpu c) →
    value ≡ table 16 (λ c. if list_any (is_ask st.cpu c) p.asks then n + 1 else value_at over c) →
    IsDone s st j u w (record { number = n; event = p.event; due = p.due; told = record { value = value } })
is_done s h st j p n numbers over value u v w there known plan is fits made learns left told own =
    let l = held_lanes (states_of s h) in
    let e = p.event in
    let all = made_before n e numbers p.asks u v w made learns in
    let whole : HasMade n e (map (lane_number s) (what_lanes s st e.what l)) (what_asks s st e.what l) u w =
    subst (λ (asks : List Ask). HasMade n e (map (lane_number s) (what_lanes s st e.what l)) asks u w) plan.asks
    (subst (λ (xs : List ℕ). HasMade n e xs p.asks u w) (is ∙ ap (λ (xs : List Lane). map (lane_number s) xs) plan.lanes) all) in
    let x : Entry = entry n e (map (lane_number s) (what_lanes s st e.what l)) in
    record {
      found = found_in s h;
      by = record {
        drawn = subst (λ (es : List Entry). Contains es x) (sym whole.entries) (Contains-append_right u.entries (x ∷ []) x (here x));
        threads = threads_long s h there;
        named = subst (λ (xs : List Lane). All (LaneFits s) xs) plan.lanes plan.lanes_named;
        on = subst (λ (xs : List Lane). AreFoundOn s w n e st (found_in s h) xs) plan.lanes
            (all_found s h there n st e p.lanes p.asks w plan.asks left plan.held);
      };
      acted = record {
        what = plan.decided.gives;
        event = plan.event;
        kinds = plan.kinds;
        due = plan.due;
        due_fits = plan.due_fits;
        told = λ c k. value_is s h st p n over value told own c k
            ∙ (λ i. raised (list_any (is_ask st.cpu c) (plan.asks i)) n (told_over (told_in h) (plan.lanes i) st.cpu c));
      };
      made = whole;
      asks_named = subst (λ (asks : List Ask). All (AskFits s) asks) plan.asks plan.asks_named;
      fits = fits;
      told = λ c k. value_below s h st p n over value told own u w known all.least all.to all.asked c k;
    }
