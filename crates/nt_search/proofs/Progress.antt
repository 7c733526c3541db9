-- Searches that go on.
use Rattle.std.proofs.Common.{ap, arith, subst, sym, ◌∙◌}
use Rattle.std.proofs.lemmas.Bool.{ltb-false, ltb-true}
use Rattle.std.proofs.lemmas.List.{get_or-append-add, get_or_append_left, length-append}
use Rattle.std.specs.Prelude.{Bool, Contains, List, None, Option, [], false, get_or, length, nat_lt, refl, suc, true, zero, ℕ, ◌++◌, ◌+◌, ◌<◌, ◌∷◌}
use Rattle.std.specs.Prelude.{◌≡◌, ◌≤◌}
use Rattle.nt_event.specs.declared.events.Event.{Event}
use Rattle.nt_event.specs.declared.scripts.Script.{Script}
use Rattle.nt_expect.specs.declared.expectations.Watched.{Watched}
use Rattle.nt_rounds.specs.Graph.{Drawn}
use Rattle.nt_search.specs.declared.failures.Failure.{Failure}
use Rattle.nt_search.specs.declared.found.Found.{Found}
use Rattle.nt_search.specs.declared.plan.Plan.{Plan}
use Rattle.nt_search.specs.declared.states.Key.{Key}
use Rattle.nt_search.specs.declared.states.Way.{Way}
use Rattle.nt_search.specs.Failures.{IsNoted}
use Rattle.nt_search.specs.Keys.{IsKeyOf}
use Rattle.nt_search.specs.States.{AreStates, Seen}
use Rattle.nt_search.specs.declared.stations.Stations.{Stations}
use Rattle.nt_search.specs.Searches.{IsExpanded, IsSearched, IsSearchedTo, IsStart}
use Rattle.nt_search.specs.Stations.{IsExpandedBy, IsSearchedBy}
use Rattle.nt_search.specs.Tried.{IsLed, IsTried, Keeps}
use Rattle.nt_search.proofs.TryingMore.{led_more, like_more}

-- a search at its start has expanded no state
pub begun : (x : Plan) (f : Found) → IsStart x f → IsSearchedTo x f 0
begun x f start = record {
  all = [] ∷ [];
  found = start.found;
  opened = ap (λ (g : Drawn). g.opened) start.drawn;
  drawn = ap (λ (g : Drawn). length g.closed) start.drawn;
  within = omega arith;
  tried = λ n low. absurd (omega (arith, low));
  keeps = λ j d l u n low. absurd (omega (arith, low));
}

-- what was tried in a list was tried in a longer one
tried_more : (s : Script) (watched : List Watched) (all more : List (List Event)) (targets : List ℕ) (past : List Event) →
    IsTried s watched all targets past → IsTried s watched (all ++ more) targets past
tried_more s watched all more targets past t = record {
  run = t.run;
  turns = t.turns;
  whole = t.whole;
  lead = λ u e among gives. let to = t.lead u e among gives in (to.0, to.1, like_more s watched all more (e ∷ past) to.0 to.2);
}

-- what holds of the first states, so many, and of one more, holds of one more
one_more : (P : List ℕ → List Event → Type 0) (closed : List (List ℕ)) (targets : List ℕ) (all more : List (List Event)) (n : ℕ) → length closed ≡ n →
    n < length all → ((k : ℕ) → k < n → P (get_or closed k []) (get_or all k [])) → P targets (get_or all n []) → (k : ℕ) → k < n + 1 →
    P (get_or (closed ++ targets ∷ []) k []) (get_or (all ++ more) k [])
one_more P closed targets all more n count inside each last k low = go (nat_lt k n) refl
  where
    zero_more : length closed + 0 ≡ n
    zero_more = omega (arith, count)

    here : get_or (closed ++ targets ∷ []) n [] ≡ targets
    here = ap (λ (m : ℕ). get_or (closed ++ targets ∷ []) m []) (sym zero_more) ∙ get_or-append-add closed (targets ∷ []) 0 []

    go : (b : Bool) → nat_lt k n ≡ b → P (get_or (closed ++ targets ∷ []) k []) (get_or (all ++ more) k [])
    go true q =
        let l = ltb-true k n q in
        subst (λ (ts : List ℕ). P ts (get_or (all ++ more) k [])) (sym (get_or_append_left closed (targets ∷ []) [] k (omega (arith, l, count))))
        (subst (P (get_or closed k [])) (sym (get_or_append_left all more [] k (omega (arith, l, inside)))) (each k l))
    go false q =
        let l = ltb-false k n q in
        let same : n ≡ k = omega (arith, l, low) in
        subst (λ (m : ℕ). P (get_or (closed ++ targets ∷ []) m []) (get_or (all ++ more) m [])) same
        (subst (λ (ts : List ℕ). P ts (get_or (all ++ more) n [])) (sym here)
        (subst (P targets) (sym (get_or_append_left all more [] n inside)) last))

-- a search that has expanded the first states and then the next one has expanded one more
pub gone_on : (x : Plan) (old new : Found) (n : ℕ) (h : IsSearchedTo x old n) → n < length h.all → IsExpanded x h.all (get_or h.all n []) old new →
    IsSearchedTo x new (n + 1)
gone_on x old new n h low e = record {
  all = h.all ++ e.more;
  found = record {
    states = e.states;
    few = e.few;
    noted = e.noted;
    drawn = subst (λ (c : List (List ℕ)). length c ≤ length (h.all ++ e.more)) (sym closed) (omega (arith, size, count, longer, low));
    led = λ k m low among. led k (subst (λ (c : List (List ℕ)). k < length c) closed low) m
        (subst (λ (c : List (List ℕ)). Contains (get_or c k []) m) closed among);
  };
  opened = ap (λ (g : Drawn). g.opened) e.drawn;
  drawn = ap (λ (c : List (List ℕ)). length c) closed ∙ (let sum : length (old.graph.closed ++ e.targets ∷ []) ≡ n + 1 = omega (arith, longer, count) in sum);
  within = omega (arith, size, low);
  tried = λ k low. subst (λ (c : List (List ℕ)). IsTried s watched (h.all ++ e.more) (get_or c k []) (get_or (h.all ++ e.more) k [])) (sym closed)
      (one_more (λ ts past. IsTried s watched (h.all ++ e.more) ts past) old.graph.closed e.targets h.all e.more n h.drawn inside
      (λ k l. tried_more s watched h.all e.more (get_or old.graph.closed k []) (get_or h.all k []) (h.tried k l)) e.tried k low);
  keeps = λ j d l u. one_more (λ ts past. Keeps s (get_or x.expectations.now j d) past) old.graph.closed e.targets h.all e.more n h.drawn inside
      (h.keeps j d l (e.kept j u)) (e.keeps j d l u);
}
  where
    s : Script
    s = x.script.now

    watched : List Watched
    watched = x.watched.items

    inside : n < length h.all
    inside = low

    closed : new.graph.closed ≡ old.graph.closed ++ e.targets ∷ []
    closed = ap (λ (g : Drawn). g.closed) e.drawn

    size : length (h.all ++ e.more) ≡ length h.all + length e.more
    size = length-append h.all e.more

    longer : length (old.graph.closed ++ e.targets ∷ []) ≡ length old.graph.closed + 1
    longer = length-append old.graph.closed (e.targets ∷ [])

    count : length old.graph.closed ≡ n
    count = h.drawn

    led : (k : ℕ) → k < length (old.graph.closed ++ e.targets ∷ []) → (m : ℕ) → Contains (get_or (old.graph.closed ++ e.targets ∷ []) k []) m →
        IsLed s watched (h.all ++ e.more) (get_or (h.all ++ e.more) k []) m
    led k low =
        one_more (λ ts past. (m : ℕ) → Contains ts m → IsLed s watched (h.all ++ e.more) past m) old.graph.closed e.targets h.all e.more n count inside
        (λ k l m among. led_more s watched h.all e.more (get_or h.all k []) m (h.found.led k m (omega (arith, l, count)) among)) e.led k
        (omega (arith, low, longer, count))

-- with machines that are kept on the way
pub gone_on_by : (x : Plan) (old new : Found) (n : ℕ) (ys : Stations) (h : IsSearchedTo x old n) → n < length h.all →
    IsExpandedBy x h.all (get_or h.all n []) old new ys → IsSearchedBy x new (n + 1) ys
unfolding gone_on
gone_on_by x old new n ys h low e = (gone_on x old new n h low e.0, e.1)

-- with as many expanded as there are states, the search is at its end
pub ended : (x : Plan) (f : Found) (n : ℕ) → IsSearchedTo x f n → length f.states.ways ≤ n → IsSearched x f
ended x f n h whole =
    let count = h.found.states.ways.count in
    let within = h.within in
    let same : n ≡ length f.states.ways = omega (arith, count, within, whole) in
    subst (IsSearchedTo x f) same h

-- the state of no event alone
pub start : (x : Plan) (f : Found) (y : Seen) (key : Key) (way : Way) → 1 ≤ x.most → f.states ≡ record y { keys = key ∷ []; ways = way ∷ [] } →
    f.graph ≡ record { closed = []; opened = [] } → IsKeyOf x.script.now x.watched.items [] y.parts key →
    length f.failures.items ≡ length x.expectations.now → ((j : ℕ) → get_or f.failures.items j None ≡ None) → IsStart x f
start x f y key way most states graph is count none = record {
  found = record {
    states = subst (AreStates x.script.now x.watched.items ([] ∷ [])) (sym states) (record {
      keys = (is, tt);
      ways = record {
        count = refl;
        some = omega arith;
        first = refl;
        each = λ n d low high. absurd (omega (arith, low, high));
      };
    });
    few = rw states most;
    noted = record {
      count = count;
      each = λ j d l. subst (IsNoted x.script.now ([] ∷ []) (get_or x.expectations.now j d)) (sym (none j)) tt;
    };
    drawn = subst (λ (g : Drawn). length g.closed ≤ 1) (sym graph) (omega arith);
    led = λ n m low among. let none_low : n < 0 = subst (λ (g : Drawn). n < length g.closed) graph low in absurd (omega (arith, none_low));
  };
  drawn = graph;
}

-- one place more without a failure
pub push_none : (xs new : List (Option Failure)) → ((j : ℕ) → get_or xs j None ≡ None) → new ≡ xs ++ None ∷ [] → (j : ℕ) → get_or new j None ≡ None
push_none xs new none e j = ap (λ (ys : List (Option Failure)). get_or ys j None) e ∙ go xs j (none j)
  where
    go : (xs : List (Option Failure)) (j : ℕ) → get_or xs j None ≡ None → get_or (xs ++ None ∷ []) j None ≡ None
    go [] zero q = refl
    go [] (suc j) q = refl
    go (x ∷ xs) zero q = q
    go (x ∷ xs) (suc j) q = go xs j q
