-- What a search that found all states tells of the length of runs.
use Rattle.std.proofs.Common.{arith, inl, inr, subst, sym}
use Rattle.std.proofs.Math.ListN.{get_or-eq_default}
use Rattle.std.proofs.lemmas.Bool.{ltb-false, ltb-true}
use Rattle.std.specs.Prelude.{Bool, Contains, List, [], false, get_or, length, map, nat_lt, refl, suc, true, zero, ℕ, ◌+◌, ◌-◌, ◌<◌, ◌∷◌, ◌≡◌, ◌≤◌}
use Rattle.nt_event.specs.declared.events.Event.{Event}
use Rattle.nt_event.specs.declared.scripts.Script.{Script}
use Rattle.nt_event.specs.Step.{IsRun}
use Rattle.nt_alike.specs.Alike.{Alike}
use Rattle.nt_alike.specs.Free.{IsFreeRun, LooksAreShort}
use Rattle.nt_alike.specs.Lists.{Among, Each}
use Rattle.nt_alike.proofs.Free.{runs_free}
use Rattle.nt_alike.proofs.GoOn.{goes}
use Rattle.nt_alike.proofs.Relation.{alike_self, alike_trans}
use Rattle.nt_expect.specs.declared.expectations.Watched.{Watched}
use Rattle.nt_rounds.specs.declared.outcome.Depths.{Depths}
use Rattle.nt_rounds.specs.declared.outcome.Depths.TheVariants.{Finite, Round}
use Rattle.nt_rounds.specs.Depths.{AreDepths, IfFinite, IfRound, IsInside, IsRound, Leads}
use Rattle.nt_verdict.specs.Closed.{GoesOn}
use Rattle.nt_verdict.specs.Fails.{IsEndless}
use Rattle.nt_verdict.proofs.Rounds.{rounds_fail}
use Rattle.nt_search.specs.declared.found.Found.{Found}
use Rattle.nt_search.specs.declared.plan.Plan.{Plan}
use Rattle.nt_search.specs.Ends.{AreDepthsOf}
use Rattle.nt_search.specs.Searches.{AreRound, IsSearched, LeadsOn}
use Rattle.nt_search.proofs.Tried.{leads_to}

-- what holds of the depths, and of the round
pub depths_of : (closed : List (List ℕ)) (d : Depths) → IfFinite d (AreDepths closed) → IfRound d (IsRound closed) → AreDepthsOf closed d
depths_of closed (Finite depths) finite round = finite
depths_of closed (Round states) finite round = round

module _ (x : Plan) (f : Found) (h : IsSearched x f) where
  abbrev s : Script
  s = x.script.now

  abbrev watched : List Watched
  watched = x.watched.items

  abbrev closed : List (List ℕ)
  closed = f.graph.closed

  abbrev all : List (List Event)
  all = h.all

  abbrev at : ℕ → List Event
  at n = get_or h.all n []

  -- there are as many states as lists of where they lead
  count : length all ≡ length f.states.ways
  count = sym h.found.states.ways.count

  drawn : length f.graph.closed ≡ length f.states.ways
  drawn = h.drawn

  -- each state leads to states that were found
  pub inside : IsInside f.graph.closed
  inside n m leads = go (nat_lt n (length f.graph.closed)) refl
    where
      go : (b : Bool) → nat_lt n (length f.graph.closed) ≡ b → m < length f.graph.closed
      go true q =
          let low = (h.found.led n m (ltb-true n (length f.graph.closed) q) leads).like.low in
          omega (arith, low, count, drawn)
      go false q =
          let high = ltb-false n (length f.graph.closed) q in
          let none : get_or f.graph.closed n [] ≡ [] = get_or-eq_default f.graph.closed [] high in
          let among : Contains [] m = subst (λ (ms : List ℕ). Contains ms m) none leads in
          let low = among.1 in
          absurd (omega (arith, low))

  -- ---- depths

  module _ (depths : List ℕ) (are : AreDepths f.graph.closed depths) where
    -- a state that the history is like, and from which it can go on no further than is left of the first depth
    record IsDeep (past : List Event) : Type 0 where
      number : ℕ
      low : number < length h.all
      alike : Alike x.script.now past (get_or h.all number [])
      within : length past + get_or depths number 0 ≤ get_or depths 0 0

    deep : (past : List Event) → IsFreeRun x.script.now past → IsDeep past
    deep [] r = record {
      number = 0;
      low = h.found.states.ways.some;
      alike = subst (Alike x.script.now []) (sym h.found.states.ways.first) (alike_self x.script.now []);
      within = omega arith;
    }
    deep (e ∷ past) r =
        let d = deep past r.1 in
        let low : d.number < length f.states.ways = let l = d.low in omega (arith, l, count) in
        let tried = h.tried d.number low in
        let o = goes x.script.now past (at d.number) r.1 tried.run d.alike e r.0 in
        let to = leads_to x.script.now x.watched.items h.all (get_or f.graph.closed d.number []) (at d.number) tried o.event o.comes in
        let inside : d.number < length f.graph.closed = omega (arith, low, drawn) in
        let falls = (are.each d.number inside).above to.0 to.1 in
        let was = d.within in
        record {
          number = to.0;
          low = to.2.low;
          alike = alike_trans x.script.now (e ∷ past) (o.event ∷ at d.number) (at to.0) o.alike to.2.alike.0;
          within = omega (arith, falls, was);
        }

    pub no_longer : (limit : ℕ) (past : List Event) → IsRun x.script.now limit past → LooksAreShort past → length past ≤ get_or depths 0 0
    no_longer limit past r l =
        let d = deep past (runs_free x.script.now limit past r l) in
        let within = d.within in
        omega (arith, within)

  -- ---- rounds

  -- the history is that of one of these states
  among_states : (past : List Event) (states : List ℕ) (i : ℕ) → i < length states → Alike x.script.now past (at (get_or states i 0)) →
      Among (λ k. Alike x.script.now past k) (map (λ n. get_or h.all n []) states)
  among_states past [] i low a = absurd (omega (arith, low))
  among_states past (n ∷ states) zero low a = inl a
  among_states past (n ∷ states) (suc i) low a = inr (among_states past states i (omega (arith, low)) a)

  -- what holds of each state of a list holds of its history
  each_state : (P : List Event → Type 0) (states : List ℕ) → ((i : ℕ) → i < length states → P (get_or h.all (get_or states i 0) [])) →
      Each P (map (λ n. get_or h.all n []) states)
  each_state P [] each = tt
  each_state P (n ∷ states) each = (each 0 (omega arith), each_state P states (λ i low. each (suc i) (omega (arith, low))))

  module _ (states : List ℕ) (round : IsRound f.graph.closed states) where
    leads : (n m : ℕ) → n < length f.graph.closed → Leads f.graph.closed n m → LeadsOn x.script.now h.all n m
    leads n m low to = let led = h.found.led n m low to in record { event = led.event; comes = led.comes; alike = led.like.alike.0 }

    -- the states of the round lead round
    pub goes_round : AreRound x.script.now h.all states
    goes_round = record {
      some = round.some;
      low = λ i low. let within : get_or states i 0 < length f.graph.closed = round.inside i 0 low in omega (arith, within, count, drawn);
      on = λ i low. leads (get_or states i 0) (get_or states (i + 1) 0) (round.inside i 0 (omega (arith, low))) (round.on i low);
      back = leads (get_or states (length states - 1) 0) (get_or states 0 0)
          (round.inside (length states - 1) 0 (let some = round.some in omega (arith, some))) round.back;
    }

    -- each state of the round leads to one of the round
    leads_on : (i : ℕ) → i < length states → (j : ℕ) × (j < length states) × Leads f.graph.closed (get_or states i 0) (get_or states j 0)
    leads_on i low = go (nat_lt (i + 1) (length states)) refl
      where
        go : (b : Bool) → nat_lt (i + 1) (length states) ≡ b →
            (j : ℕ) × (j < length states) × Leads f.graph.closed (get_or states i 0) (get_or states j 0)
        go true q = let l = ltb-true (i + 1) (length states) q in (i + 1, l, round.on i l)
        go false q =
            let high = ltb-false (i + 1) (length states) q in
            let last : length states - 1 ≡ i = omega (arith, low, high) in
            (0, round.some, subst (λ (k : ℕ). Leads f.graph.closed (get_or states k 0) (get_or states 0 0)) last round.back)

    goes_on : (i : ℕ) → i < length states → GoesOn x.script.now (map (λ n. get_or h.all n []) states) (get_or h.all (get_or states i 0) [])
    goes_on i low =
        let n = get_or states i 0 in
        let within : n < length f.graph.closed = round.inside i 0 low in
        let to = leads_on i low in
        let led = h.found.led n (get_or states to.0 0) within to.2 in
        let tried = h.tried n (omega (arith, within, drawn)) in
        (tried.run, (led.event, led.comes, among_states (led.event ∷ at n) states to.0 to.1 led.like.alike.0))

    pub endless : IsEndless x.script.now
    endless = go states refl
      where
        go : (ns : List ℕ) → states ≡ ns → IsEndless x.script.now
        go [] e = let some : 0 < 0 = subst (λ (ns : List ℕ). 0 < length ns) e round.some in absurd (omega (arith, some))
        go (n ∷ ns) e =
            rounds_fail x.script.now (at n) (map (λ m. get_or h.all m []) ns)
            (subst (λ (ms : List ℕ). Each (GoesOn x.script.now (map (λ m. get_or h.all m []) ms)) (map (λ m. get_or h.all m []) ms)) e
            (each_state (GoesOn x.script.now (map (λ m. get_or h.all m []) states)) states goes_on))
