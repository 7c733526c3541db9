-- Each step of a pass keeps the rule of the queue.
use Rattle.std.proofs.Common.{◌≡◌, ◌≢◌, ◌⊎◌, ◌∙◌, ℕ, zero, suc, ◌+◌, ◌<◌, ◌≤◌, Bool, true, false, List, [], ◌∷◌, ◌++◌, length, map, set, refl, sym, ap, subst}
use Rattle.std.proofs.Common.{inl, inr, ⊎_elim, arith}
use Rattle.std.proofs.Common.{append-nil, append_assoc, eq-eqb, ne_eqb, sum_by}
use Rattle.std.specs.Prelude.{filter, ◌==◌, if◌then◌else◌}
use Rattle.std.proofs.lemmas.List.{map-append}
use Rattle.std.proofs.lemmas.List.Elements.{filter-append}
use Rattle.std.proofs.lemmas.List.Sums.{sum_by-cons, sum_by_push}
use mathlib.Core.Logic.{dite}
use mathlib.Core.Option.{some, some-injective, some-ne-none}
use native.Mathlib.Decide.{ℕ_discrete}
use lib.ListN.{get_elem?}
use Rattle.crossbeam_queue.specs.Fifo.{Forks, Learns, Merges, Pops, Pushes}
use Rattle.crossbeam_queue.proofs.Lists.{at_longer, at_set, set_else, set_here}
use Rattle.nt_work.specs.declared.item.Item.{Item}
use Rattle.nt_work.specs.declared.view.Hand.{Hand}
use Rattle.nt_work.specs.declared.view.Move.{Move}
use Rattle.nt_work.specs.declared.view.View.{View}
use Rattle.nt_work.specs.Rule.{AreApart, EachHand, EachMove, HasNumber, IsHand, IsKept, IsOwned, IsSeated, Told, all_parts, fewer, fresh, hands, is_by, item_in}
use Rattle.nt_work.specs.Rule.{met_by}
use Rattle.nt_work.specs.Rule.{nobody, of, whole, with_put, with_taken}

-- ---- lists

-- a place at which a list has an element is below its length
at_below : {A : Type 0} (l : List A) (i : ℕ) (a : A) → get_elem? l i ≡ some a → i < length l
at_below [] i a e = absurd (some-ne-none a (sym e))
at_below (x ∷ xs) zero a e = omega arith
at_below (x ∷ xs) (suc i) a e = let h = at_below xs i a e in omega (arith, h)

-- a list has at most one element at a place
at_one : {A : Type 0} (l : List A) (i : ℕ) (a b : A) → get_elem? l i ≡ some a → get_elem? l i ≡ some b → a ≡ b
at_one l i a b e f = some-injective a b (sym e ∙ f)

-- an element of a list with one more at the end is an old one at its place or the new one at the end
at_end : {A : Type 0} (l : List A) (a b : A) (j : ℕ) → get_elem? (l ++ a ∷ []) j ≡ some b → (get_elem? l j ≡ some b) ⊎ ((j ≡ length l) × (a ≡ b))
at_end [] a b zero e = inr (refl, some-injective a b e)
at_end [] a b (suc j) e = absurd (some-ne-none b (sym e))
at_end (x ∷ xs) a b zero e = inl e
at_end (x ∷ xs) a b (suc j) e = ⊎_elim (λ h. inl h) (λ h. inr (ap suc h.0, h.1)) (at_end xs a b j e)

-- a sum over a list with one element replaced differs by that element's old and new value
sum_changed : {A : Type 0} (f : A → ℕ) (xs : List A) (i : ℕ) (v w : A) → get_elem? xs i ≡ some v → sum_by f (set xs i w) + f v ≡ sum_by f xs + f w
sum_changed f [] i v w e = absurd (some-ne-none v (sym e))
sum_changed f (x ∷ xs) zero v w e =
    let s : f x ≡ f v = ap f (some-injective x v e) in let a = sum_by-cons f w xs in let b = sum_by-cons f x xs in omega (arith, s, a, b)
sum_changed f (x ∷ xs) (suc i) v w e =
    let h = sum_changed f xs i v w e in let a = sum_by-cons f x (set xs i w) in let b = sum_by-cons f x xs in omega (arith, h, a, b)

-- the value of one element is at most the sum over the list
sum_one : {A : Type 0} (f : A → ℕ) (xs : List A) (i : ℕ) (v : A) → get_elem? xs i ≡ some v → f v ≤ sum_by f xs
sum_one f [] i v e = absurd (some-ne-none v (sym e))
sum_one f (x ∷ xs) zero v e = let a : f x ≡ f v = ap f (some-injective x v e) in let c = sum_by-cons f x xs in omega (arith, a, c)
sum_one f (x ∷ xs) (suc i) v e = let a = sum_one f xs i v e in let c = sum_by-cons f x xs in omega (arith, a, c)

-- the values of two elements at different places together are at most the sum over the list
sum_two : {A : Type 0} (f : A → ℕ) (xs : List A) (i j : ℕ) (v w : A) → get_elem? xs i ≡ some v → get_elem? xs j ≡ some w → i ≢ j → f v + f w ≤ sum_by f xs
sum_two f [] i j v w e g ne = absurd (some-ne-none v (sym e))
sum_two f (x ∷ xs) zero zero v w e g ne = absurd (ne refl)
sum_two f (x ∷ xs) zero (suc j) v w e g ne =
    let a : f x ≡ f v = ap f (some-injective x v e) in let b = sum_one f xs j w g in let c = sum_by-cons f x xs in omega (arith, a, b, c)
sum_two f (x ∷ xs) (suc i) zero v w e g ne =
    let a : f x ≡ f w = ap f (some-injective x w g) in let b = sum_one f xs i v e in let c = sum_by-cons f x xs in omega (arith, a, b, c)
sum_two f (x ∷ xs) (suc i) (suc j) v w e g ne =
    let a = sum_two f xs i j v w e g (λ q. ne (ap suc q)) in let c = sum_by-cons f x xs in omega (arith, a, c)

-- ---- hands and moves

-- if one property gives another, a list of hands that all have the first all have the second
pub each_hand : {P Q : Hand → Type 0} → ((h : Hand) → P h → Q h) → (hs : List Hand) → EachHand P hs → EachHand Q hs
each_hand f [] x = tt
each_hand f (h ∷ hs) x = (f h x.0, each_hand f hs x.1)

-- if two properties give a third, hands that all have the first two all have the third
pub both_hands : {P Q R : Hand → Type 0} → ((h : Hand) → P h → Q h → R h) → (hs : List Hand) → EachHand P hs → EachHand Q hs → EachHand R hs
both_hands f [] x y = tt
both_hands f (h ∷ hs) x y = (f h x.0 y.0, both_hands f hs x.1 y.1)

-- if all hands of two lists have a property, all hands of the joined list have it
pub hands_joined : (P : Hand → Type 0) (xs ys : List Hand) → EachHand P xs → EachHand P ys → EachHand P (xs ++ ys)
hands_joined P [] ys a b = b
hands_joined P (h ∷ xs) ys a b = (a.0, hands_joined P xs ys a.1 b)

-- if one property gives another, moves that all have the first all have the second
pub each_move : {P Q : Move → Type 0} → ((m : Move) → P m → Q m) → (ms : List Move) → EachMove P ms → EachMove Q ms
each_move f [] x = tt
each_move f (m ∷ ms) x = (f m x.0, each_move f ms x.1)

-- what holds of each of some moves and of one more holds of each with it at the end
moves_end : (P : Move → Type 0) (ms : List Move) (m : Move) → EachMove P ms → P m → EachMove P (ms ++ m ∷ [])
moves_end P [] m x p = (p, tt)
moves_end P (y ∷ ms) m x p = (x.0, moves_end P ms m x.1 p)

-- a number that a pass of one list has is had in the list with others appended
has_left : (n : ℕ) (xs ys : List Hand) → HasNumber n xs → HasNumber n (xs ++ ys)
has_left n [] ys h = absurd h
has_left n (x ∷ xs) ys h = ⊎_elim (λ e. inl e) (λ r. inr (has_left n xs ys r)) h

-- a number that a pass of one list has is had in the list with others put in front
has_right : (n : ℕ) (xs ys : List Hand) → HasNumber n ys → HasNumber n (xs ++ ys)
has_right n [] ys h = h
has_right n (x ∷ xs) ys h = inr (has_right n xs ys h)

-- a number that none has
not_there : (n : ℕ) (xs : List Hand) → EachHand (λ h. h.number ≢ n) xs → HasNumber n xs → ⊥
not_there n [] a h = h
not_there n (x ∷ xs) a h = ⊎_elim (λ e. a.0 e) (λ r. not_there n xs a.1 r) h

-- two lists of passes with no number twice have none twice together, if no number is in both
apart_joined : (xs ys : List Hand) → AreApart xs → AreApart ys → EachHand (λ x. EachHand (λ y. y.number ≢ x.number) ys) xs → AreApart (xs ++ ys)
apart_joined [] ys a b c = b
apart_joined (x ∷ xs) ys a b c = (hands_joined _ xs ys a.0 c.0, apart_joined xs ys a.1 b c.1)

-- ---- what one pass put or took, behind one move more

-- the items of moves with one move more are the items before and the item of that move
pub items_end : (ms : List Move) (m : Move) → map item_in (ms ++ m ∷ []) ≡ map item_in ms ++ m.item ∷ []
items_end ms m = map-append item_in ms (m ∷ [])

-- what a pass did, with one move more, is what it did before and the move's item if the move is its own
of_end : (n : ℕ) (ms : List Move) (m : Move) (b : Bool) → (m.by == n) ≡ b → of n (ms ++ m ∷ []) ≡ of n ms ++ map item_in (if b then m ∷ [] else [])
of_end n ms m b e =
    ap (map item_in) (filter-append (is_by n) ms (m ∷ [])) ∙ map-append item_in (filter (is_by n) ms) (filter (is_by n) (m ∷ []))
    ∙ ap (λ (c : Bool). of n ms ++ map item_in (if c then m ∷ [] else [])) e

-- a pass's own move adds its item at the end of what that pass did
pub of_own : (n : ℕ) (ms : List Move) (m : Move) → m.by ≡ n → of n (ms ++ m ∷ []) ≡ of n ms ++ m.item ∷ []
of_own n ms m e = of_end n ms m true (eq-eqb m.by n e)

-- a move by another pass adds nothing to what this pass did
pub of_other : (n : ℕ) (ms : List Move) (m : Move) → m.by ≢ n → of n (ms ++ m ∷ []) ≡ of n ms
of_other n ms m e = of_end n ms m false (ne_eqb m.by n e) ∙ append-nil (of n ms)

-- a pass that made none of the moves has no items of them
of_none : (n : ℕ) (ms : List Move) → EachMove (λ m. m.by ≢ n) ms → of n ms ≡ []
of_none n [] h = refl
of_none n (m ∷ ms) h = ap (λ (b : Bool). map item_in (if b then m ∷ filter (is_by n) ms else filter (is_by n) ms)) (ne_eqb m.by n h.0) ∙ of_none n ms h.1

-- the others did what they did
puts_on : (puts takes : List Move) (m : Move) (hs : List Hand) → EachHand (λ h. h.number ≢ m.by) hs → EachHand (IsHand puts takes) hs →
    EachHand (IsHand (puts ++ m ∷ []) takes) hs
puts_on puts takes m hs = both_hands (λ h n d. (of_other h.number puts m (λ e. n (sym e)) ∙ d.0, d.1)) hs

-- a take by none of some passes leaves what each of these did as it is in the lists
takes_on : (puts takes : List Move) (m : Move) (hs : List Hand) → EachHand (λ h. h.number ≢ m.by) hs → EachHand (IsHand puts takes) hs →
    EachHand (IsHand puts (takes ++ m ∷ [])) hs
takes_on puts takes m hs = both_hands (λ h n d. (d.0, of_other h.number takes m (λ e. n (sym e)) ∙ d.1)) hs

-- the hands of another place have other numbers
elsewhere : (seat : ℕ → ℕ) (n k j : ℕ) (hs : List Hand) → seat n ≡ k → j ≢ k → EachHand (λ h. seat h.number ≡ j) hs → EachHand (λ h. h.number ≢ n) hs
elsewhere seat n k j hs at other = each_hand (λ h s e. other (sym s ∙ ap seat e ∙ at)) hs

abbrev Seated : List Move → List Move → (ℕ → ℕ) → ℕ × View → Type 0
Seated puts takes seat y = IsSeated puts takes seat y.0 y.1

-- who owned a move owns it still where one pass changed and kept its numbers
owned_on : (seat : ℕ → ℕ) (views : List View) (k : ℕ) (v w : View) → get_elem? views k ≡ some v → 0 < w.parts →
    ((n : ℕ) → HasNumber n (hands v) → HasNumber n (hands w)) → (m : Move) → IsOwned seat views m →
    IsOwned seat (set views k w) m
owned_on seat views k v w at live same m o =
    dite (ℕ_discrete (seat m.by) k)
    (λ e.
    let was : o.0 ≡ v = at_one views k o.0 v (subst (λ (j : ℕ). get_elem? views j ≡ some o.0) e o.1) at in (
      w,
      subst (λ (j : ℕ). get_elem? (set views k w) j ≡ some w) (sym e) (set_here views k w (at_below views k v at)),
      live,
      same m.by (subst (λ (u : View). HasNumber m.by (hands u)) was o.3),
    ))
    (λ n. (o.0, set_else views k (seat m.by) w n ∙ o.1, o.2, o.3))

-- ---- the steps

-- the rule holds of an empty queue and the first pass, which has every part
pub begins : IsKept [] (whole ∷ [])
begins = record {
  puts = [];
  takes = [];
  seat = λ n. 0;
  order = refl;
  parts = refl;
  each = first;
  put_by = tt;
  taken_by = tt;
}
  where
    first : (k : ℕ) (v : View) → get_elem? (whole ∷ []) k ≡ some v → 0 < v.parts → IsSeated [] [] (λ n. 0) k v
    first zero v e live =
        subst (λ (u : View). IsSeated [] [] (λ n. 0) 0 u) (some-injective whole v e)
        (record { seats = (refl, tt); spares = λ n a b. refl; did = ((refl, refl), tt); apart = (tt, tt) })
    first (suc k) v e live = absurd (some-ne-none v (sym e))

-- a put by a pass that has a part keeps the rule, and the item is added to what that pass put
pub puts_kept : (n k : ℕ) (v : View) (x : Item) → 0 < v.parts → Pushes IsKept n k v x (λ w. w ≡ with_put v x)
puts_kept n k v x some_part items views room h at =
    let w : View = with_put v x in
    let m : Move = record { by = v.hand.number; item = x } in
    let puts : List Move = h.puts ++ m ∷ [] in
    let mine = h.each k v at some_part in
    let same : (i : ℕ) → HasNumber i (hands v) → HasNumber i (hands w) = λ i r. r in
    let mine' : IsSeated puts h.takes h.seat k w = record {
      seats = mine.seats;
      spares = mine.spares;
      did = (
        (of_own m.by h.puts m refl ∙ ap (λ (l : List Item). l ++ x ∷ []) mine.did.0.0, mine.did.0.1),
        puts_on h.puts h.takes m v.met mine.apart.0 mine.did.1,
      );
      apart = mine.apart;
    } in
    let new : IsOwned h.seat (set views k w) m = (
      w,
      subst (λ (j : ℕ). get_elem? (set views k w) j ≡ some w) (sym mine.seats.0) (set_here views k w (at_below views k v at)),
      some_part,
      inl refl,
    ) in
    let each : (j : ℕ) (u : View) → get_elem? (set views k w) j ≡ some u → 0 < u.parts → IsSeated puts h.takes h.seat j u =
    λ j u e live.
    ⊎_elim (λ (t : (j ≡ k) × (w ≡ u)). subst (Seated puts h.takes h.seat) (λ i. (sym t.0 i, t.1 i)) mine')
    (λ (t : (j ≢ k) × (get_elem? views j ≡ some u)).
    let its = h.each j u t.1 live in
    record {
      seats = its.seats;
      spares = its.spares;
      did = puts_on h.puts h.takes m (hands u) (elsewhere h.seat m.by k j (hands u) mine.seats.0 t.0 its.seats) its.did;
      apart = its.apart;
    }) (at_set views k j w u e) in (
      w,
      record {
        puts = puts;
        takes = h.takes;
        seat = h.seat;
        order = items_end h.puts m ∙ ap (λ (l : List Item). l ++ x ∷ []) h.order ∙ append_assoc (map item_in h.takes) items (x ∷ []);
        parts = (let s = sum_changed (λ (u : View). u.parts) views k v w at in let p = h.parts in omega (arith, s, p));
        each = each;
        put_by = moves_end _ h.puts m (each_move (owned_on h.seat views k v w at some_part same) h.puts h.put_by) new;
        taken_by = each_move (owned_on h.seat views k v w at some_part same) h.takes h.taken_by;
      },
      refl,
    )

-- a take by a pass that has a part keeps the rule, and the item is added to what that pass took
pub takes_kept : (k : ℕ) (v : View) → 0 < v.parts → Pops IsKept k v (λ x w. w ≡ with_taken v x)
takes_kept k v some_part x items views h at =
    let w : View = with_taken v x in
    let m : Move = record { by = v.hand.number; item = x } in
    let takes : List Move = h.takes ++ m ∷ [] in
    let mine = h.each k v at some_part in
    let same : (i : ℕ) → HasNumber i (hands v) → HasNumber i (hands w) = λ i r. r in
    let mine' : IsSeated h.puts takes h.seat k w = record {
      seats = mine.seats;
      spares = mine.spares;
      did = (
        (mine.did.0.0, of_own m.by h.takes m refl ∙ ap (λ (l : List Item). l ++ x ∷ []) mine.did.0.1),
        takes_on h.puts h.takes m v.met mine.apart.0 mine.did.1,
      );
      apart = mine.apart;
    } in
    let new : IsOwned h.seat (set views k w) m = (
      w,
      subst (λ (j : ℕ). get_elem? (set views k w) j ≡ some w) (sym mine.seats.0) (set_here views k w (at_below views k v at)),
      some_part,
      inl refl,
    ) in
    let each : (j : ℕ) (u : View) → get_elem? (set views k w) j ≡ some u → 0 < u.parts → IsSeated h.puts takes h.seat j u =
    λ j u e live.
    ⊎_elim (λ (t : (j ≡ k) × (w ≡ u)). subst (Seated h.puts takes h.seat) (λ i. (sym t.0 i, t.1 i)) mine')
    (λ (t : (j ≢ k) × (get_elem? views j ≡ some u)).
    let its = h.each j u t.1 live in
    record {
      seats = its.seats;
      spares = its.spares;
      did = takes_on h.puts h.takes m (hands u) (elsewhere h.seat m.by k j (hands u) mine.seats.0 t.0 its.seats) its.did;
      apart = its.apart;
    }) (at_set views k j w u e) in (
      w,
      record {
        puts = h.puts;
        takes = takes;
        seat = h.seat;
        order = h.order ∙ sym (ap (λ (l : List Item). l ++ items) (items_end h.takes m) ∙ append_assoc (map item_in h.takes) (x ∷ []) items);
        parts = (let s = sum_changed (λ (u : View). u.parts) views k v w at in let p = h.parts in omega (arith, s, p));
        each = each;
        put_by = each_move (owned_on h.seat views k v w at some_part same) h.puts h.put_by;
        taken_by = moves_end _ h.takes m (each_move (owned_on h.seat views k v w at some_part same) h.takes h.taken_by) new;
      },
      refl,
    )

-- at a moment of the queue a pass that has a part knows the order of all puts and takes and its own among them
pub tells : (k : ℕ) (v : View) → 0 < v.parts → Learns IsKept k v (λ items. Told v items)
tells k v some_part items views h at =
    let mine = h.each k v at some_part in
    let only : v.parts ≡ all_parts → (m : Move) → IsOwned h.seat views m → HasNumber m.by (hands v) =
    λ all m o.
    dite (ℕ_discrete (h.seat m.by) k)
    (λ e. subst (λ (u : View). HasNumber m.by (hands u)) (at_one views k o.0 v (subst (λ (j : ℕ). get_elem? views j ≡ some o.0) e o.1) at) o.3)
    (λ n.
    let two = sum_two (λ (u : View). u.parts) views (h.seat m.by) k o.0 v o.1 at n in
    let p = h.parts in let live = o.2 in absurd (omega (arith, two, p, live, all))) in
    record {
      puts = h.puts;
      takes = h.takes;
      order = h.order;
      did = mine.did;
      apart = mine.apart;
      put_by = λ all. each_move (only all) h.puts h.put_by;
      taken_by = λ all. each_move (only all) h.takes h.taken_by;
    }

-- ---- a new pass

abbrev moved : (ℕ → ℕ) → ℕ → ℕ → ℕ → ℕ
moved seat f place n = if n == f then place else seat n

-- a pass that moved is at its new seat
moved_here : (seat : ℕ → ℕ) (f place : ℕ) → moved seat f place f ≡ place
moved_here seat f place = ap (λ (b : Bool). if b then place else seat f) (eq-eqb f f refl)

-- a pass that didn't move stays at its seat
moved_else : (seat : ℕ → ℕ) (f place n : ℕ) → n ≢ f → moved seat f place n ≡ seat n
moved_else seat f place n e = ap (λ (b : Bool). if b then place else seat n) (ne_eqb n f e)

-- a pass that met nobody and has parts to spare may give one to a fresh pass, and the rule stays
pub forks_kept : (k : ℕ) (v : View) → v.met ≡ [] → 0 < v.spare → v.parts ≡ v.spare + 1 → Forks IsKept k v (fewer v) (fresh v)
forks_kept k v none some_spare parts items views h at =
    let some_part : 0 < v.parts = omega (arith, parts) in
    let mine = h.each k v at some_part in
    let l : View = fewer v in
    let r : View = fresh v in
    let f : ℕ = v.hand.number + v.spare in
    let vs : List View = set views k l in
    let place : ℕ = length vs in
    let seat : ℕ → ℕ = moved h.seat f place in
    let at_f : h.seat f ≡ k = mine.spares f (omega (arith, some_spare)) (omega arith) in
    let own : v.hand.number ≢ f = λ e. absurd (omega (arith, some_spare, e)) in
    let fresh_number : HasNumber f (hands v) → ⊥ =
    λ has. ⊎_elim (λ e. own e) (λ rest. subst (λ (ms : List Hand). HasNumber f ms) none rest) has in
    let not_f : (m : Move) → IsOwned h.seat views m → m.by ≢ f =
    λ m o e.
    let here : h.seat m.by ≡ k = ap h.seat e ∙ at_f in
    let was : o.0 ≡ v = at_one views k o.0 v (subst (λ (j : ℕ). get_elem? views j ≡ some o.0) here o.1) at in
    fresh_number (subst (λ (i : ℕ). HasNumber i (hands v)) e (subst (λ (u : View). HasNumber m.by (hands u)) was o.3)) in
    let left : IsSeated h.puts h.takes seat k l = record {
      seats = (moved_else h.seat f place v.hand.number own ∙ mine.seats.0, subst (λ (ms : List Hand). EachHand (λ g. seat g.number ≡ k) ms) (sym none) tt);
      spares = λ n a b. moved_else h.seat f place n (λ e. absurd (omega (arith, a, b, e, some_spare))) ∙ mine.spares n a (omega (arith, b));
      did = mine.did;
      apart = mine.apart;
    } in
    let right : IsSeated h.puts h.takes seat place r = record {
      seats = (moved_here h.seat f place, tt);
      spares = λ n a b. absurd (omega (arith, a, b));
      did = ((of_none f h.puts (each_move not_f h.puts h.put_by), of_none f h.takes (each_move not_f h.takes h.taken_by)), tt);
      apart = (tt, tt);
    } in
    let other : (j : ℕ) (u : View) → j ≢ k → get_elem? views j ≡ some u → 0 < u.parts → IsSeated h.puts h.takes seat j u =
    λ j u apart e live.
    let its = h.each j u e live in
    record {
      seats = both_hands (λ g n s. moved_else h.seat f place g.number n ∙ s) (hands u) (elsewhere h.seat f k j (hands u) at_f apart its.seats) its.seats;
      spares = λ n a b. let s = its.spares n a b in moved_else h.seat f place n (λ i. apart (sym s ∙ ap h.seat i ∙ at_f)) ∙ s;
      did = its.did;
      apart = its.apart;
    } in
    let each : (j : ℕ) (u : View) → get_elem? (vs ++ r ∷ []) j ≡ some u → 0 < u.parts → IsSeated h.puts h.takes seat j u =
    λ j u e live.
    ⊎_elim (λ (s : get_elem? vs j ≡ some u).
    ⊎_elim (λ (t : (j ≡ k) × (l ≡ u)). subst (Seated h.puts h.takes seat) (λ i. (sym t.0 i, t.1 i)) left)
    (λ (t : (j ≢ k) × (get_elem? views j ≡ some u)). other j u t.0 t.1 live) (at_set views k j l u s))
    (λ (t : (j ≡ place) × (r ≡ u)). subst (Seated h.puts h.takes seat) (λ i. (sym t.0 i, t.1 i)) right) (at_end vs r u j e) in
    let owned : (m : Move) → IsOwned h.seat views m → IsOwned seat (vs ++ r ∷ []) m =
    λ m o.
    let o' = owned_on h.seat views k v l at (omega (arith, parts, some_spare)) (λ i has. has) m o in
    let same : seat m.by ≡ h.seat m.by = moved_else h.seat f place m.by (not_f m o) in
    (o'.0, subst (λ (j : ℕ). get_elem? (vs ++ r ∷ []) j ≡ some o'.0) (sym same) (at_longer vs (r ∷ []) (h.seat m.by) o'.0 o'.1), o'.2, o'.3) in
    record {
      puts = h.puts;
      takes = h.takes;
      seat = seat;
      order = h.order;
      parts =
          (let s = sum_changed (λ (u : View). u.parts) views k v l at in
          let p = sum_by_push (λ (u : View). u.parts) vs r in
          let all = h.parts in omega (arith, s, p, all, parts, some_spare));
      each = each;
      put_by = each_move owned h.puts h.put_by;
      taken_by = each_move owned h.takes h.taken_by;
    }

-- ---- a pass takes another in

abbrev joined : (ℕ → ℕ) → ℕ → ℕ → ℕ → ℕ
joined seat from to n = if seat n == from then to else seat n

-- a pass of a seat that is joined to another is at that other seat
joined_from : (seat : ℕ → ℕ) (from to n : ℕ) → seat n ≡ from → joined seat from to n ≡ to
joined_from seat from to n e = ap (λ (b : Bool). if b then to else seat n) (eq-eqb (seat n) from e)

-- a pass of any other seat than the one that is joined to another stays at its own
joined_else : (seat : ℕ → ℕ) (from to n : ℕ) → seat n ≢ from → joined seat from to n ≡ seat n
joined_else seat from to n e = ap (λ (b : Bool). if b then to else seat n) (ne_eqb (seat n) from e)

-- a pass may meet another, both with parts, and gets its parts and what it did, and the rule stays
pub meets_kept : (k : ℕ) (v : View) (from : ℕ) (w : View) → 0 < v.parts → 0 < w.parts → Merges IsKept k v from w (met_by v w) nobody
meets_kept k v from w some_part its_part items views h at two at' =
    let both : View = met_by v w in
    let vs : List View = set views k both in
    let was : get_elem? views from ≡ some w = ⊎_elim (λ x. absurd (two x.0)) (λ x. x.1) (at_set views k from both w at') in
    let mine = h.each k v at some_part in
    let theirs = h.each from w was its_part in
    let seat : ℕ → ℕ = joined h.seat from k in
    let k_not : k ≢ from = λ e. two (sym e) in
    let left : EachHand (λ g. seat g.number ≡ k) (hands v) =
    each_hand (λ g (s : h.seat g.number ≡ k). joined_else h.seat from k g.number (λ e. k_not (sym s ∙ e)) ∙ s) (hands v) mine.seats in
    let right : EachHand (λ g. seat g.number ≡ k) (hands w) =
    each_hand (λ g (s : h.seat g.number ≡ from). joined_from h.seat from k g.number s) (hands w) theirs.seats in
    let cross : EachHand (λ x. EachHand (λ y. y.number ≢ x.number) (hands w)) (hands v) =
    each_hand (λ x (s : h.seat x.number ≡ k). elsewhere h.seat x.number k from (hands w) s two theirs.seats) (hands v) mine.seats in
    let here : IsSeated h.puts h.takes seat k both = record {
      seats = hands_joined _ (hands v) (hands w) left right;
      spares = λ n a b. absurd (omega (arith, a, b));
      did = hands_joined _ (hands v) (hands w) mine.did theirs.did;
      apart = apart_joined (hands v) (hands w) mine.apart theirs.apart cross;
    } in
    let other : (j : ℕ) (u : View) → j ≢ from → get_elem? views j ≡ some u → 0 < u.parts → IsSeated h.puts h.takes seat j u =
    λ j u apart e live.
    let its = h.each j u e live in
    record {
      seats = each_hand (λ g (s : h.seat g.number ≡ j). joined_else h.seat from k g.number (λ i. apart (sym s ∙ i)) ∙ s) (hands u) its.seats;
      spares = λ n a b. let s = its.spares n a b in joined_else h.seat from k n (λ i. apart (sym s ∙ i)) ∙ s;
      did = its.did;
      apart = its.apart;
    } in
    let each : (j : ℕ) (u : View) → get_elem? (set vs from nobody) j ≡ some u → 0 < u.parts → IsSeated h.puts h.takes seat j u =
    λ j u e live.
    ⊎_elim (λ (t : (j ≡ from) × (nobody ≡ u)). let none : 0 ≡ u.parts = ap (λ (y : View). y.parts) t.1 in absurd (omega (arith, none, live)))
    (λ (t : (j ≢ from) × (get_elem? vs j ≡ some u)).
    ⊎_elim (λ (s : (j ≡ k) × (both ≡ u)). subst (Seated h.puts h.takes seat) (λ i. (sym s.0 i, s.1 i)) here)
    (λ (s : (j ≢ k) × (get_elem? views j ≡ some u)). other j u t.0 s.1 live) (at_set views k j both u t.1)) (at_set vs from j nobody u e) in
    let both_at : get_elem? (set vs from nobody) k ≡ some both = set_else vs from k nobody k_not ∙ set_here views k both (at_below views k v at) in
    let live : 0 < both.parts = omega (arith, some_part) in
    let owned : (m : Move) → IsOwned h.seat views m → IsOwned seat (set vs from nobody) m =
    λ m o.
    dite (ℕ_discrete (h.seat m.by) from)
    (λ e.
    let is : o.0 ≡ w = at_one views from o.0 w (subst (λ (j : ℕ). get_elem? views j ≡ some o.0) e o.1) was in (
      both,
      subst (λ (j : ℕ). get_elem? (set vs from nobody) j ≡ some both) (sym (joined_from h.seat from k m.by e)) both_at,
      live,
      has_right m.by (hands v) (hands w) (subst (λ (u : View). HasNumber m.by (hands u)) is o.3),
    ))
    (λ n.
    let o' = owned_on h.seat views k v both at live (λ i has. has_left i (hands v) (hands w) has) m o in (
      o'.0,
      subst (λ (j : ℕ). get_elem? (set vs from nobody) j ≡ some o'.0) (sym (joined_else h.seat from k m.by n)) (set_else vs from (h.seat m.by) nobody n ∙ o'.1),
      o'.2,
      o'.3,
    )) in
    record {
      puts = h.puts;
      takes = h.takes;
      seat = seat;
      order = h.order;
      parts =
          (let s = sum_changed (λ (u : View). u.parts) views k v both at in
          let t = sum_changed (λ (u : View). u.parts) vs from w nobody at' in
          let all = h.parts in omega (arith, s, t, all));
      each = each;
      put_by = each_move owned h.puts h.put_by;
      taken_by = each_move owned h.takes h.taken_by;
    }
