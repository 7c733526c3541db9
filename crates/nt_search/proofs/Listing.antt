-- States that a list has, and one that is put to it.
use Rattle.std.proofs.Common.{ap, append-nil, arith, subst, sym, ◌∙◌}
use Rattle.std.proofs.lemmas.List.{get_or-append-add, get_or_append_left, length-append}
use Rattle.std.proofs.lemmas.Bool.{ltb-false, ltb-true}
use Rattle.std.proofs.lemmas.Option.{none-some, same_Some}
use Rattle.std.specs.Global.{Vec}
use Rattle.std.specs.List.{list_any, position_or_len}
use Rattle.std.proofs.lemmas.List.Quantifiers.{position-Some}
use Rattle.std.proofs.lemmas.List.Sums.{position_or_len_is}
use Rattle.std.specs.Prelude.{Bool, Err, IfErr, IfOk, IsTrue, List, Ok, OnOk, Result, Some, [], false, get_or, length}
use Rattle.std.specs.Prelude.{nat_lt, position, refl, slice_get, suc, true, zero, ℕ, ◌++◌, ◌+◌, ◌<◌, ◌∷◌}
use Rattle.std.specs.Prelude.{◌||◌, ◌≡◌}
use Rattle.nt_event.specs.declared.events.Event.{Event}
use Rattle.nt_event.specs.declared.scripts.Script.{Script}
use Rattle.nt_event.specs.Script.{fits}
use Rattle.nt_event.proofs.Options.{both}
use Rattle.nt_alike.specs.Free.{free_step}
use Rattle.nt_alike.specs.Lists.{Each}
use Rattle.nt_alike.proofs.Compared.{declared_alike}
use Rattle.nt_alike.proofs.Relation.{alike_self}
use Rattle.nt_expect.specs.declared.expectations.Watched.{Watched}
use Rattle.nt_expect.specs.Meaning.{Came}
use Rattle.nt_history.proofs.Same.{nat_same}
use Rattle.nt_shade.proofs.SameShades.{same_alike}
use Rattle.nt_shade.specs.declared.shade.Shade.{Shade}
use Rattle.nt_shade.specs.Same.{SayTheSame}
use Rattle.nt_shade.specs.Shade.{IsShadeOf}
use Rattle.nt_verdict.specs.Closed.{AlikeWatching, CameAlike}
use Rattle.nt_search.proofs.Tried.{came_self}
use Rattle.nt_search.specs.declared.states.Key.{Key}
use Rattle.nt_search.specs.declared.states.Way.{Way}
use Rattle.nt_shows.specs.Tells.{AreCame, Tells}
use Rattle.nt_search.specs.Keys.{AreKeys, IsKeyOf, SeenParts}
use Rattle.nt_search.specs.States.{AreStates, Seen, are_equal, number_in, put}
use Rattle.nt_search.specs.Tried.{IsLikeOne}
use Rattle.nt_search.specs.Ways.{AreWays, LeadsTo}

-- what follows from what is so on success is so on success
pub on_ok : {A B P Q : Type 0} → (r : Result A B) → (P → Q) → OnOk r P → OnOk r Q
on_ok (Ok x) f p = f p
on_ok (Err e) f p = tt

-- what follows from a property of the value holds of a result's value if it is one
pub if_ok : {A B : Type 0} {P Q : A → Type 0} → (r : Result A B) → ((x : A) → P x → Q x) → IfOk r P → IfOk r Q
if_ok (Ok x) f p = f x p
if_ok (Err e) f p = tt

-- the error of a result that is a given one has a property if the given one has it
pub if_err : {A E : Type 0} → (P : E → Type 0) (r : Result A E) (y : E) → r ≡ Err y → P y → IfErr r P
if_err P r y is p = rw is p

-- where flags tell the same of two histories, the same came
came_alike : (watched : List Watched) (h k : List Event) (flags : List Bool) → AreCame watched h flags → AreCame watched k flags →
    Each (CameAlike h k) watched
came_alike [] h k flags a b = tt
came_alike (x ∷ watched) h k [] a b = absurd a
came_alike (x ∷ watched) h k (flag ∷ flags) a b = (one flag a.0 b.0, came_alike watched h k flags a.1 b.1)
  where
    one : (flag : Bool) → Tells flag (Came x h) → Tells flag (Came x k) → CameAlike h k x
    one true m n = (λ c. n, λ c. m)
    one false m n = (λ c. absurd (m c), λ c. absurd (n c))

-- keys that are equal are the same
equal_same : (x y : Key) → are_equal x y ≡ true → x ≡ y
equal_same x y e =
    let a = both _ _ e in
    let b = both _ _ a.1 in
    let c = both _ _ b.1 in
    let d = both _ _ c.1 in
    let f = both _ _ d.1 in
    let dpcs = nat_same x.dpcs y.dpcs a.0 in
    let counts = nat_same x.counts y.counts b.0 in
    let threads = nat_same x.threads y.threads c.0 in
    let cpus = nat_same x.cpus y.cpus d.0 in
    let came = nat_same x.came y.came f.0 in
    let marks = nat_same x.mark y.mark f.1 in
    λ i. record { dpcs = dpcs i; counts = counts i; threads = threads i; cpus = cpus i; came = came i; mark = marks i }

-- a shade says the same as itself
says_itself : (x : Shade) → SayTheSame x x
says_itself x = record {
  dpcs = record { objects = refl; queues = refl; locks = refl; now = refl; keys = refl };
  counts = refl;
  threads = refl;
  cpus = refl;
}

module _ (s : Script) (watched : List Watched) (fit : IsTrue (fits s)) where
  -- histories of one key are alike
  keys_same : (h k : List Event) (parts : SeenParts) (x : Key) → IsKeyOf s watched h parts x → IsKeyOf s watched k parts x → AlikeWatching s watched h k
  keys_same h k parts x a b =
      let dpcs = same_Some a.kept.dpcs b.kept.dpcs (sym a.parts.dpcs ∙ b.parts.dpcs) in
      let counts = same_Some a.kept.counts b.kept.counts (sym a.parts.counts ∙ b.parts.counts) in
      let threads = same_Some a.kept.threads b.kept.threads (sym a.parts.threads ∙ b.parts.threads) in
      let cpus = same_Some a.kept.cpus b.kept.cpus (sym a.parts.cpus ∙ b.parts.cpus) in
      let came = same_Some a.flags b.flags (sym a.parts.came ∙ b.parts.came) in
      let same : a.kept ≡ b.kept = λ i. record { dpcs = dpcs i; counts = counts i; threads = threads i; cpus = cpus i } in
      let is = subst (IsShadeOf s h) same a.shade in
      let alike = declared_alike s h k fit a.free b.free (same_alike s h k b.kept b.kept is b.shade (says_itself b.kept)) in
      (alike, came_alike watched h k b.flags.items (subst (λ (v : Vec Bool). AreCame watched h v.items) came a.came) b.came)

  -- and so are those whose keys are equal
  pub keys_alike : (h k : List Event) (parts : SeenParts) (x y : Key) → IsKeyOf s watched h parts x → IsKeyOf s watched k parts y → are_equal x y ≡ true →
      AlikeWatching s watched h k
  keys_alike h k parts x y a b e = keys_same h k parts y (subst (IsKeyOf s watched h parts) (equal_same x y e) a) b

  -- a state of a list has the next number in the list with one more before it
  one_on : (k : List Event) (all : List (List Event)) (h : List Event) (n : ℕ) → IsLikeOne s watched all h n → IsLikeOne s watched (k ∷ all) h (1 + n)
  one_on k all h n r =
      let low = r.low in
      let next : suc n ≡ 1 + n = omega arith in
      record { low = omega (arith, low); alike = subst (λ (m : ℕ). AlikeWatching s watched h (get_or (k ∷ all) m [])) next r.alike }

  -- where a key is there, the history is like that of the first key that is equal
  pub found : (h : List Event) (parts : SeenParts) (x : Key) (all : List (List Event)) (keys : List Key) → IsKeyOf s watched h parts x →
      AreKeys s watched all parts keys → list_any (are_equal x) keys ≡ true → IsLikeOne s watched all h (position_or_len (are_equal x) keys)
  found h parts x [] [] a are q = cc
  found h parts x [] (y ∷ keys) a are q = absurd are
  found h parts x (k ∷ all) [] a are q = absurd are
  found h parts x (k ∷ all) (y ∷ keys) a are q = go (are_equal x y) refl (found h parts x all keys a are.1)
    where
      go : (b : Bool) → are_equal x y ≡ b → (list_any (are_equal x) keys ≡ true → IsLikeOne s watched all h (position_or_len (are_equal x) keys)) →
          IsLikeOne s watched (k ∷ all) h (position_or_len (are_equal x) (y ∷ keys))
      go true e ih = rw e (record { low = omega arith; alike = keys_alike h k parts x y a are.0 e })
      go false e ih =
          let rest = rw e at q in
          rw e (one_on k all h (position_or_len (are_equal x) keys) (ih rest))

  -- there are as many keys as histories
  pub keys_count : (parts : SeenParts) (all : List (List Event)) (keys : List Key) → AreKeys s watched all parts keys → length keys ≡ length all
  keys_count parts [] [] are = refl
  keys_count parts [] (y ∷ keys) are = absurd are
  keys_count parts (k ∷ all) [] are = absurd are
  keys_count parts (k ∷ all) (y ∷ keys) are = ap suc (keys_count parts all keys are.1)

  -- one key more, of one history more
  pub keys_more : (h : List Event) (parts : SeenParts) (x : Key) (all : List (List Event)) (keys : List Key) → IsKeyOf s watched h parts x →
      AreKeys s watched all parts keys → AreKeys s watched (all ++ h ∷ []) parts (keys ++ x ∷ [])
  keys_more h parts x [] [] a are = (a, tt)
  keys_more h parts x [] (y ∷ keys) a are = absurd are
  keys_more h parts x (k ∷ all) [] a are = absurd are
  keys_more h parts x (k ∷ all) (y ∷ keys) a are = (are.0, keys_more h parts x all keys a are.1)

  -- a history whose key is equal to that of a state is like that of the state
  pub like_at : (h : List Event) (parts : SeenParts) (x : Key) (all : List (List Event)) (keys : List Key) (n : ℕ) → IsKeyOf s watched h parts x →
      AreKeys s watched all parts keys → slice_get keys n ≡ Some x → IsLikeOne s watched all h n
  like_at h parts x [] [] n a are q = absurd (none-some x q)
  like_at h parts x [] (y ∷ keys) n a are q = absurd are
  like_at h parts x (k ∷ all) [] n a are q = absurd are
  like_at h parts x (k ∷ all) (y ∷ keys) zero a are q =
      record { low = omega arith; alike = keys_same h k parts x a (subst (IsKeyOf s watched k parts) (same_Some y x q) are.0) }
  like_at h parts x (k ∷ all) (y ∷ keys) (suc n) a are q =
      let next : 1 + n ≡ suc n = omega arith in
      subst (IsLikeOne s watched (k ∷ all) h) next (one_on k all h n (like_at h parts x all keys n a are.1 q))

-- a key that is not there has the next number
pub next_number : (x : Key) (keys : List Key) → list_any (are_equal x) keys ≡ false → position_or_len (are_equal x) keys ≡ length keys
next_number x [] q = refl
next_number x (y ∷ keys) q = go (are_equal x y) refl (next_number x keys)
  where
    go : (b : Bool) → are_equal x y ≡ b → (list_any (are_equal x) keys ≡ false → position_or_len (are_equal x) keys ≡ length keys) →
        position_or_len (are_equal x) (y ∷ keys) ≡ suc (length keys)
    go true e ih = let rest = rw e at q in absurd (differ rest)
      where
        differ : true ≡ false → ⊥
        differ r = cc
    go false e ih =
        let rest = rw e at q in
        let same = ih rest in
        let sum : 1 + position_or_len (are_equal x) keys ≡ suc (length keys) = omega (arith, same) in
        rw e sum

-- if the left of two flags is true, their disjunction is true
or_left : (a b : Bool) → a ≡ true → a || b ≡ true
or_left true b q = refl
or_left false b q = cc

-- if the right of two flags is true, their disjunction is true
or_right : (a b : Bool) → b ≡ true → a || b ≡ true
or_right true b q = refl
or_right false b q = q

-- a key that is equal to one at a place is there
any_at : (x : Key) (keys : List Key) (i : ℕ) → i < length keys → are_equal x (get_or keys i x) ≡ true → list_any (are_equal x) keys ≡ true
any_at x [] i low q = absurd (omega (arith, low))
any_at x (y ∷ keys) zero low q = or_left (are_equal x y) (list_any (are_equal x) keys) q
any_at x (y ∷ keys) (suc i) low q = or_right (are_equal x y) (list_any (are_equal x) keys) (any_at x keys i (omega (arith, low)) q)

-- a key that has a number is there, and it is the number of the first key that is equal
pub numbered : (x : Key) (keys : List Key) (i : ℕ) → position (are_equal x) keys ≡ Some i →
    (list_any (are_equal x) keys ≡ true) × (i ≡ position_or_len (are_equal x) keys)
numbered x keys i q =
    let at = position-Some (are_equal x) keys i x q in
    let low = at.0 in (
      any_at x keys i at.0 at.1,
      sym (position_or_len_is (are_equal x) keys i x (omega (arith, low)) at.2 (λ l. at.1)),
    )

-- ---- ways

module _ (s : Script) (all : List (List Event)) (ways : List Way) (h : List Event) (way : Way) (are : AreWays s all ways) where
  -- an earlier history stays where it is
  stays : (n : ℕ) → n < length all → get_or (all ++ h ∷ []) n [] ≡ get_or all n []
  stays n low = get_or_append_left all (h ∷ []) [] n low

  -- the history put at the end of a list is read there
  pub at_end : get_or (all ++ h ∷ []) (length all) [] ≡ h
  at_end =
      let here = get_or-append-add all (h ∷ []) 0 [] in
      let zero : length all + 0 ≡ length all = omega arith in
      ap (λ (n : ℕ). get_or (all ++ h ∷ []) n []) (sym zero) ∙ here

  way_at_end : (d : Way) → get_or (ways ++ way ∷ []) (length all) d ≡ way
  way_at_end d =
      let here = get_or-append-add ways (way ∷ []) 0 d in
      let zero : length ways + 0 ≡ length all = omega (arith, are.count) in
      ap (λ (n : ℕ). get_or (ways ++ way ∷ []) n d) (sym zero) ∙ here

  -- the way leads from one of the histories to the new one
  pub record IsNewWay : Type 0 where
    pub from : way.from < length all
    pub event : Event
    pub gives : free_step s way.turn (get_or all way.from []) ≡ Ok event
    pub is : h ≡ event ∷ get_or all way.from []

  -- ways to the states of a list stay so with one new state and its way from an earlier one
  pub ways_more : IsNewWay → AreWays s (all ++ h ∷ []) (ways ++ way ∷ [])
  ways_more new =
      let a = length-append ways (way ∷ []) in
      let b = length-append all (h ∷ []) in
      record {
        count = omega (arith, a, b, are.count);
        some = omega (arith, b);
        first = stays 0 are.some ∙ are.first;
        each = λ n d low high. one n d low (omega (arith, b, high));
      }
    where
      new_one : (d : Way) → LeadsTo s (all ++ h ∷ []) (length all) (get_or (ways ++ way ∷ []) (length all) d)
      new_one d =
          let from = stays way.from new.from in
          subst (LeadsTo s (all ++ h ∷ []) (length all)) (sym (way_at_end d)) (record {
            earlier = new.from;
            event = new.event;
            gives = rw from new.gives;
            is = at_end ∙ new.is ∙ ap (λ (k : List Event). new.event ∷ k) (sym from);
          })

      old_one : (n : ℕ) (d : Way) → 0 < n → n < length all → LeadsTo s (all ++ h ∷ []) n (get_or (ways ++ way ∷ []) n d)
      old_one n d low high =
          let old = are.each n d low high in
          let inside : n < length ways = omega (arith, high, are.count) in
          let same = get_or_append_left ways (way ∷ []) d n inside in
          let before : (get_or ways n d).from < length all = omega (arith, old.earlier, high) in
          let from = stays (get_or ways n d).from before in
          subst (LeadsTo s (all ++ h ∷ []) n) (sym same) (record {
            earlier = old.earlier;
            event = old.event;
            gives = rw from old.gives;
            is = stays n high ∙ old.is ∙ ap (λ (k : List Event). old.event ∷ k) (sym from);
          })

      one : (n : ℕ) (d : Way) → 0 < n → n < length all + 1 → LeadsTo s (all ++ h ∷ []) n (get_or (ways ++ way ∷ []) n d)
      one n d low high = go (nat_lt n (length all)) refl
        where
          go : (b : Bool) → nat_lt n (length all) ≡ b → LeadsTo s (all ++ h ∷ []) n (get_or (ways ++ way ∷ []) n d)
          go true q = old_one n d low (ltb-true n (length all) q)
          go false q =
              let l = ltb-false n (length all) q in
              let e : length all ≡ n = omega (arith, l, high) in
              subst (λ (m : ℕ). LeadsTo s (all ++ h ∷ []) m (get_or (ways ++ way ∷ []) m d)) e (new_one d)

-- ---- both

-- what putting a state leaves: the same states or one more, and the history is like that of this number
pub record IsPut (s : Script) (watched : List Watched) (all : List (List Event)) (h : List Event) (number : ℕ) (x : Seen) : Type 0 where
  pub more : List (List Event)
  pub states : AreStates s watched (all ++ more) x
  pub like : IsLikeOne s watched (all ++ more) h number

module _ (s : Script) (watched : List Watched) (all : List (List Event)) (x : Seen) (h : List Event) (key : Key) (way : Way) (fit : IsTrue (fits s))
    (are : AreStates s watched all x) (is : IsKeyOf s watched h x.parts key) where
  -- a state that is put, with its way from an earlier one, is in the list under its number
  pub is_put : IsNewWay s all x.ways h way are.ways → IsPut s watched all h (number_in key x) (put key way x)
  is_put new = go (list_any (are_equal key) x.keys) refl
    where
      itself : AlikeWatching s watched h h
      itself = (alike_self s h, came_self watched h)

      number : list_any (are_equal key) x.keys ≡ false → length all ≡ number_in key x
      number q = sym (next_number key x.keys q ∙ keys_count s watched fit x.parts all x.keys are.keys)

      size : length (all ++ h ∷ []) ≡ length all + 1
      size = length-append all (h ∷ [])

      last : IsLikeOne s watched (all ++ h ∷ []) h (length all)
      last = record {
        low = omega (arith, size);
        alike = subst (AlikeWatching s watched h) (sym (at_end s all x.ways h way are.ways)) itself;
      }

      go : (b : Bool) → list_any (are_equal key) x.keys ≡ b → IsPut s watched all h (number_in key x) (put key way x)
      go true q = rw q (record {
        more = [];
        states = subst (λ (hs : List (List Event)). AreStates s watched hs x) (sym (append-nil all)) are;
        like = subst (λ (hs : List (List Event)). IsLikeOne s watched hs h (number_in key x)) (sym (append-nil all))
            (found s watched fit h x.parts key all x.keys is are.keys q);
      })
      go false q = rw q (record {
        more = h ∷ [];
        states = record {
          keys = keys_more s watched fit h x.parts key all x.keys is are.keys;
          ways = ways_more s all x.ways h way are.ways new;
        };
        like = subst (IsLikeOne s watched (all ++ h ∷ []) h) (number q) last;
      })
