-- The events of lists at the places that were noted for their numbers.
use Rattle.std.proofs.Common.{ap, append-nil, append_assoc, arith, get_or-set_other, get_or-set_same, inl, inr, refl, subst, sym, ⊎_elim, ◌∙◌}
use Rattle.std.proofs.lemmas.Bool.{eqb-false, eqb-true, ltb-false, ltb-true}
use Rattle.std.proofs.lemmas.List.{get_or_append_left, get_or_at, get_or_default, length-append}
use Rattle.std.proofs.lemmas.List.Elements.{Contains-get_or}
use Rattle.std.specs.Prelude.{Bool, Contains, List, [], false, get_or, length, nat_lt, set, suc, true, zero, ℕ, ◌+◌, ◌++◌, ◌<◌, ◌==◌, ◌∷◌, ◌≡◌, ◌⊎◌}
use Rattle.nt_event.specs.declared.events.Event.{Event}
use Rattle.nt_mark.specs.Closing.{IsEachOnce}
use Rattle.nt_live.proofs.Once.{number_below, one_with, the_one}
use Rattle.nt_live.specs.declared.merging.Place.{Place}
use Rattle.nt_live.specs.Merging.{ArePlaced, numbers_of}
use Rattle.nt_live.specs.Places.{IsAmong, IsIn, event_at}
use Rattle.nt_live.specs.OwnLists.{all_pairs}

abbrev Pair : Type 0
Pair = ℕ × Event

-- ---- one list of several

-- a list that stands before others holds what it holds
left_of : (xs ys : List Pair) (x : Pair) → Contains xs x → Contains (xs ++ ys) x
left_of xs ys x h = (
  h.0,
  (let l = h.1 in let n = length-append xs ys in omega (arith, l, n)),
  get_or_append_left xs ys x h.0 h.1 ∙ h.2,
)

-- what stands behind another list is still held
right_of : (xs ys : List Pair) (x : Pair) → Contains ys x → Contains (xs ++ ys) x
right_of [] ys x h = h
right_of (y ∷ xs) ys x h =
    let r = right_of xs ys x h in
    (suc r.0, (let l = r.1 in omega (arith, l)), r.2)

-- what one of two joined lists holds
one_of : (xs ys : List Pair) (x : Pair) → Contains (xs ++ ys) x → Contains xs x ⊎ Contains ys x
one_of [] ys x h = inr h
one_of (y ∷ xs) ys x (zero, l, e) = inl (0, omega arith, e)
one_of (y ∷ xs) ys x (suc k, l, e) =
    ⊎_elim (λ (h : Contains xs x). inl (suc h.0, (let m = h.1 in omega (arith, m)), h.2)) (λ (h : Contains ys x). inr h)
    (one_of xs ys x (k, omega (arith, l), e))

-- an element of one of the lists is one of all
pub in_all : (lists : List (List Pair)) (j : ℕ) (d : List Pair) (x : Pair) → j < length lists → Contains (get_or lists j d) x → Contains (all_pairs lists) x
in_all [] j d x l h = absurd (omega (arith, l))
in_all (list ∷ lists) zero d x l h = left_of list (all_pairs lists) x h
in_all (list ∷ lists) (suc j) d x l h = right_of list (all_pairs lists) x (in_all lists j d x (omega (arith, l)) h)

-- an element of all is one of some list
pub in_some : (lists : List (List Pair)) (x : Pair) → Contains (all_pairs lists) x →
    (j : ℕ) × (j < length lists) × ((d : List Pair) → Contains (get_or lists j d) x)
in_some [] x h = absurd (let l = h.1 in omega (arith, l))
in_some (list ∷ lists) x h =
    ⊎_elim (λ (a : Contains list x). (0, omega arith, λ d. a))
    (λ (a : Contains (all_pairs lists) x). let r = in_some lists x a in (suc r.0, (let l = r.1 in omega (arith, l)), λ d. r.2 d))
    (one_of list (all_pairs lists) x h)

-- a number of a list is below what all its numbers are below
pub below_all : (list : List Pair) (at k n : ℕ) → at < length list → ((x : Pair) → (get_or list at x).0 ≡ k) →
    ((x : Pair) → Contains list x → x.0 < n) → k < n
below_all [] at k n l number all = absurd (omega (arith, l))
below_all (y ∷ list) at k n l number all =
    subst (λ (i : ℕ). i < n) (number y) (all (get_or (y ∷ list) at y) (Contains-get_or (y ∷ list) at y l))

-- the events of lists and of one list more
pub all_then : (lists : List (List Pair)) (list : List Pair) → all_pairs (lists ++ list ∷ []) ≡ all_pairs lists ++ list
all_then [] list = append-nil list
all_then (first ∷ lists) list =
    ap (λ (xs : List Pair). first ++ xs) (all_then lists list) ∙ sym (append_assoc first (all_pairs lists) list)

-- ---- a place that is noted

-- what is read where a place was written
read : (places : List Place) (k n : ℕ) (q p : Place) → k < length places →
    ((n ≡ k) × (get_or (set places k q) n p ≡ q)) ⊎ (get_or (set places k q) n p ≡ get_or places n p)
read places k n q p l = go (n == k) refl
  where
    go : (b : Bool) → (n == k) ≡ b → ((n ≡ k) × (get_or (set places k q) n p ≡ q)) ⊎ (get_or (set places k q) n p ≡ get_or places n p)
    go true e = let is = eqb-true n k e in inl (is, ap (λ (i : ℕ). get_or (set places k q) i p) is ∙ get_or-set_same places k q p l)
    go false e = inr (get_or-set_other places k n q p (eqb-false n k e))

module _ (list : List Pair) (which at k : ℕ) (places : List Place) (q : Place) (is_list : q.list ≡ which) (is_at : q.at ≡ at)
    (within : at < length list) (number : (x : Pair) → (get_or list at x).0 ≡ k) (room : k < length places) where
  it : (n : ℕ) → n ≡ k → IsIn list which n q
  it n e = record {
    here = is_list;
    within = subst (λ (i : ℕ). i < length list) (sym is_at) within;
    number_is = λ x. ap (λ (i : ℕ). (get_or list i x).0) is_at ∙ (number x ∙ sym e);
  }

  -- each place is as before, or is one of this list with that number
  pub others_then : (old : List Place) →
      ((n : ℕ) (p : Place) → (get_or places n p ≡ get_or old n p) ⊎ IsIn list which n (get_or places n p)) → (n : ℕ) (p : Place) →
      (get_or (set places k q) n p ≡ get_or old n p) ⊎ IsIn list which n (get_or (set places k q) n p)
  others_then old before n p =
      ⊎_elim
      (λ (h : (n ≡ k) × (get_or (set places k q) n p ≡ q)). inr (subst (λ (z : Place). IsIn list which n z) (sym h.1) (it n h.0)))
      (λ (e : get_or (set places k q) n p ≡ get_or places n p).
      ⊎_elim (λ (s : get_or places n p ≡ get_or old n p). inl (e ∙ s))
      (λ (i : IsIn list which n (get_or places n p)). inr (subst (λ (z : Place). IsIn list which n z) (sym e) i)) (before n p))
      (read places k n q p room)

  still : (n : ℕ) (p : Place) → (n ≡ k) ⊎ IsIn list which n (get_or places n p) → IsIn list which n (get_or (set places k q) n p)
  still n p h =
      ⊎_elim (λ (r : (n ≡ k) × (get_or (set places k q) n p ≡ q)). subst (λ (z : Place). IsIn list which n z) (sym r.1) (it n r.0))
      (λ (e : get_or (set places k q) n p ≡ get_or places n p). other e h) (read places k n q p room)
    where
      other : get_or (set places k q) n p ≡ get_or places n p → (n ≡ k) ⊎ IsIn list which n (get_or places n p) →
          IsIn list which n (get_or (set places k q) n p)
      other e (inl is) =
          let same : get_or (set places k q) n p ≡ q = ap (λ (i : ℕ). get_or (set places k q) i p) is ∙ get_or-set_same places k q p room in
          subst (λ (z : Place). IsIn list which n z) (sym same) (it n is)
      other e (inr i) = subst (λ (z : Place). IsIn list which n z) (sym e) i

  -- the places of the first events of the list are noted, and that of the next one now
  pub noted_then :
      ((j : ℕ) (x : Pair) (p : Place) → j < at → IsIn list which (get_or list j x).0 (get_or places (get_or list j x).0 p)) →
      (j : ℕ) (x : Pair) (p : Place) → j < at + 1 → IsIn list which (get_or list j x).0 (get_or (set places k q) (get_or list j x).0 p)
  noted_then before j x p l = go (nat_lt j at) refl
    where
      go : (b : Bool) → nat_lt j at ≡ b → IsIn list which (get_or list j x).0 (get_or (set places k q) (get_or list j x).0 p)
      go true e = still (get_or list j x).0 p (inr (before j x p (ltb-true j at e)))
      go false e =
          let not = ltb-false j at e in
          let is : j ≡ at = omega (arith, not, l) in
          still (get_or list j x).0 p (inl (ap (λ (i : ℕ). (get_or list i x).0) is ∙ number x))

-- once the places of all events of a list are noted, that of each is
pub noted_all : (list : List Pair) (which n : ℕ) (places : List Place) → length list ≡ n →
    ((j : ℕ) (x : Pair) (p : Place) → j < n → IsIn list which (get_or list j x).0 (get_or places (get_or list j x).0 p)) → (x : Pair) (p : Place) →
    Contains list x → IsIn list which x.0 (get_or places x.0 p)
noted_all list which n places long h x p c =
    let l = c.1 in
    subst (λ (y : Pair). IsIn list which y.0 (get_or places y.0 p)) c.2 (h c.0 x p (omega (arith, l, long)))

-- ---- several lists

-- a place of one of the lists is a place among them
pub among_of : (lists : List (List Pair)) (which n : ℕ) (list : List Pair) (p : Place) → which < length lists → list ≡ get_or lists which list →
    IsIn list which n p → IsAmong lists n p
among_of lists which n list p l e i = record {
  there = subst (λ (k : ℕ). k < length lists) (sym i.here) l;
  has = λ d.
      let same : list ≡ get_or lists p.list d =
      e ∙ (get_or_default lists which list d l ∙ ap (λ (k : ℕ). get_or lists k d) (sym i.here)) in
      subst (λ (xs : List Pair). IsIn xs p.list n p) same
      (record { here = refl; within = i.within; number_is = i.number_is });
}

-- after the events of one list more are noted, each event of the lists so far is
pub noted_lists : (lists : List (List Pair)) (which : ℕ) (list : List Pair) (places new : List Place) → which < length lists →
    list ≡ get_or lists which list → ((n : ℕ) (p : Place) → (get_or new n p ≡ get_or places n p) ⊎ IsIn list which n (get_or new n p)) →
    ((x : Pair) (p : Place) → Contains list x → IsIn list which x.0 (get_or new x.0 p)) →
    ((j : ℕ) (d : List Pair) (x : Pair) (p : Place) → j < which → Contains (get_or lists j d) x → IsAmong lists x.0 (get_or places x.0 p)) →
    (j : ℕ) (d : List Pair) (x : Pair) (p : Place) → j < which + 1 → Contains (get_or lists j d) x → IsAmong lists x.0 (get_or new x.0 p)
noted_lists lists which list places new l e others noted before j d x p m c = go (nat_lt j which) refl
  where
    go : (b : Bool) → nat_lt j which ≡ b → IsAmong lists x.0 (get_or new x.0 p)
    go true t =
        ⊎_elim
        (λ (s : get_or new x.0 p ≡ get_or places x.0 p).
        subst (λ (z : Place). IsAmong lists x.0 z) (sym s) (before j d x p (ltb-true j which t) c))
        (λ (i : IsIn list which x.0 (get_or new x.0 p)). among_of lists which x.0 list (get_or new x.0 p) l e i) (others x.0 p)
    go false t =
        let not = ltb-false j which t in
        let is : j ≡ which = omega (arith, not, m) in
        let same : get_or lists j d ≡ list = ap (λ (k : ℕ). get_or lists k d) is ∙ (get_or_default lists which d list l ∙ sym e) in
        among_of lists which x.0 list (get_or new x.0 p) l e (noted x p (subst (λ (xs : List Pair). Contains xs x) same c))

-- ---- the events that are read

-- there is one event more
pub one_longer : (list : List Pair) (at : ℕ) (es new : List Event) → at < length list → ((x : Pair) → new ≡ es ++ (get_or list at x).1 ∷ []) →
    length new ≡ length es + 1
one_longer [] at es new l more = absurd (omega (arith, l))
one_longer (y ∷ list) at es new l more =
    ap (λ (zs : List Event). length zs) (more y) ∙ length-append es ((get_or (y ∷ list) at y).1 ∷ [])

-- one event more is read
pub read_more : (lists : List (List Pair)) (places : List Place) (es new : List Event) (at : ℕ) (q : Place) (list : List Pair) →
    at < length places → (get_or places at q).list < length lists → list ≡ get_or lists (get_or places at q).list list →
    length es ≡ at → ((x : Pair) → new ≡ es ++ (get_or list (get_or places at q).at x).1 ∷ []) →
    ((n : ℕ) (e : Event) (p : Place) (d : List Pair) (x : Pair) → n < at → get_or es n e ≡ event_at lists (get_or places n p) d x) →
    (n : ℕ) (e : Event) (p : Place) (d : List Pair) (x : Pair) → n < at + 1 → get_or new n e ≡ event_at lists (get_or places n p) d x
read_more lists places es new at q list l there is count more before n e p d x m =
    ap (λ (zs : List Event). get_or zs n e) (more x) ∙ go (nat_lt n at) refl
  where
    go : (b : Bool) → nat_lt n at ≡ b → get_or (es ++ (get_or list (get_or places at q).at x).1 ∷ []) n e ≡ event_at lists (get_or places n p) d x
    go true t =
        let i = ltb-true n at t in
        get_or_append_left es ((get_or list (get_or places at q).at x).1 ∷ []) e n (omega (arith, i, count)) ∙ before n e p d x i
    go false t =
        let not = ltb-false n at t in
        let same : n ≡ at = omega (arith, not, m) in
        let place : get_or places at q ≡ get_or places n p =
        get_or_default places at q p l ∙ ap (λ (k : ℕ). get_or places k p) (sym same) in
        let one : list ≡ get_or lists (get_or places at q).list d =
        is ∙ get_or_default lists (get_or places at q).list list d there in
        get_or_at es (get_or list (get_or places at q).at x).1 [] e n (count ∙ sym same)
        ∙ (ap (λ (xs : List Pair). (get_or xs (get_or places at q).at x).1) one ∙ ap (λ (z : Place). event_at lists z d x) place)

-- ---- all

module _ (lists : List (List Pair)) (count : ℕ) (long : count ≡ length (all_pairs lists)) (once : IsEachOnce count (numbers_of (all_pairs lists)))
    (places : List Place) (noted : (x : Pair) (p : Place) → Contains (all_pairs lists) x → IsAmong lists x.0 (get_or places x.0 p)) where
  -- a place is noted for each number
  pub each_noted : (n : ℕ) (p : Place) → n < count → IsAmong lists n (get_or places n p)
  each_noted n p l =
      let o = one_with (λ (y : Pair). y.0) count (all_pairs lists) once n l in
      subst (λ (k : ℕ). IsAmong lists k (get_or places k p)) o.2 (noted o.0 p o.1)

  -- the events that are read at the places are the events at their numbers
  pub are_placed : (es : List Event) → length es ≡ length places → length places ≡ count →
      ((n : ℕ) (e : Event) (p : Place) (d : List Pair) (x : Pair) → n < length places → get_or es n e ≡ event_at lists (get_or places n p) d x) →
      ArePlaced (all_pairs lists) es
  are_placed es a b each = record {
    count = a ∙ (b ∙ long);
    each = λ x h e.
        let l = number_below (λ (y : Pair). y.0) count (all_pairs lists) once x h in
        let q : Place = record { list = 0; at = 0 } in
        let p : Place = get_or places x.0 q in
        let i = noted x q h in
        let own : List Pair = get_or lists p.list [] in
        let y : Pair = get_or own p.at x in
        let held : Contains (all_pairs lists) y = in_all lists p.list [] y i.there (Contains-get_or own p.at x (i.has []).within) in
        let same : y ≡ x = the_one (λ (z : Pair). z.0) count (all_pairs lists) once y x held h ((i.has []).number_is x) in
        each x.0 e q [] x (omega (arith, l, b)) ∙ ap (λ (z : Pair). z.1) same;
  }

-- the number of each event is below their count
pub all_below : (lists : List (List Pair)) (count : ℕ) → IsEachOnce count (numbers_of (all_pairs lists)) → (x : Pair) →
    Contains (all_pairs lists) x → x.0 < count
all_below lists count once x h = number_below (λ (y : Pair). y.0) count (all_pairs lists) once x h
