-- Counts of asks are those of the history, and where they are the same, histories are alike in what was asked.
use Rattle.std.proofs.Common.{ap, arith, drop, subst, sym, take, ◌∙◌}
use Rattle.std.proofs.Math.Seq.{drop-append_seam, take-append_seam}
use Rattle.std.proofs.lemmas.Bool.{eqb-false, eqb-true, ltb-true}
use Rattle.std.proofs.lemmas.List.{get_or-map, length-map}
use Rattle.std.proofs.lemmas.List.Elements.{All-head, All-tail}
use Rattle.std.specs.List.{flat_map}
use Rattle.std.specs.Prelude.{All, Bool, List, [], false, get_or, length, map, max, nat_lt, refl, suc, true, zero, ℕ, ◌*◌, ◌++◌, ◌+◌, ◌<◌, ◌==◌, ◌^◌}
use Rattle.std.specs.Prelude.{if◌then◌else◌, ◌∷◌, ◌≡◌, ◌≤◌}
use Rattle.nt_event.specs.declared.events.Event.{Event}
use Rattle.nt_event.specs.declared.jobs.Lane.{Lane}
use Rattle.nt_event.specs.declared.numbers.CpuNo.{CpuNo}
use Rattle.nt_event.specs.declared.scripts.Script.{Script}
use Rattle.nt_event.specs.Classes.{is_used_class}
use Rattle.nt_event.specs.Jobs.{is_due}
use Rattle.nt_event.specs.Lanes.{lane_number}
use Rattle.nt_event.specs.Lists.{table_from, tail_of, value_at}
use Rattle.nt_event.specs.Numbers.{cpu}
use Rattle.nt_event.specs.Own.{own_of}
use Rattle.nt_event.specs.Requests.{seen, served, told_by}
use Rattle.nt_event.specs.Script.{has_cpu}
use Rattle.nt_event.proofs.Tables.{get_or-table, table-same}
use Rattle.nt_alike.specs.Alike.{count_if, newer, unnoticed}
use Rattle.nt_alike.specs.Bare.{bare_own}
use Rattle.nt_shade_asks.specs.declared.class_asks.ClassAsks.{ClassAsks}
use Rattle.nt_shade_asks.specs.declared.unnoticed.Unnoticed.{Unnoticed}
use Rattle.nt_shade_asks.specs.Counts.{AreFew, AskedAlike, TellsCounts, class_counts, counts_of, left_by, lefts}
use Rattle.nt_shade_asks.specs.Follows.{HasLane, HasRoom, IsAsked, IsClassAsked, IsOf, place_of}
use Rattle.nt_shade_asks.proofs.LaneNumbers.{number_below}
use Rattle.nt_shade_asks.proofs.Values.{count_above, few_above, length_above}

-- ---- counts are those of the history

-- which of seen and served is greater tells whether the class is due
due_told : (s : Script) (p : CpuNo) (c : ℕ) (past : List Event) → c < 16 → nat_lt (served s p c past) (seen s p c past) ≡ is_due (own_of s p past) c
due_told s p c past l =
    let a : value_at (own_of s p past).seen c ≡ seen s p c past = get_or-table 16 c (λ k. seen s p k past) 0 l in
    let b : value_at (own_of s p past).served c ≡ served s p c past = get_or-table 16 c (λ k. served s p k past) 0 l in
    ap (λ (n : ℕ). nat_lt n (seen s p c past)) (sym b) ∙ ap (nat_lt (value_at (own_of s p past).served c)) (sym a)

-- where no value is ahead none is left, whatever a lane tells
same_told : (vs : List ℕ) (t u : ℕ) → (0 < length vs → t ≡ u) → left_by vs t ≡ left_by vs u
same_told [] t u h = refl
same_told (v ∷ vs) t u h = ap (left_by (v ∷ vs)) (h (omega arith))

-- the counts of a class that is kept as the history has it are the counts of the history
pub tells_counts : (s : Script) (past : List Event) (x : ClassAsks) → x.class < 16 → IsClassAsked s past x → TellsCounts s past x
tells_counts s past x l k =
    let old = seen s x.cpu x.class past in
    let z : old ≡ max old 0 = omega arith in
    record {
      due = ap (λ (n : ℕ). nat_lt n x.seen) k.served ∙ ap (nat_lt (served s x.cpu x.class past)) k.seen ∙ due_told s x.cpu x.class past l;
      ahead = ap length k.ahead ∙ length_above s x.cpu x.class old past ∙ ap (λ (v : ℕ). newer s x.cpu x.class v past) z;
      left = λ lane f. same_told x.ahead.items _ _ (λ some. k.told some lane f)
          ∙ ap (λ (vs : List ℕ). left_by vs (told_by s lane x.cpu x.class past)) k.ahead
          ∙ count_above s x.cpu x.class old (told_by s lane x.cpu x.class past) past;
    }

-- of every class that is kept, of each processor, the counts are the history's
pub all_tell : (s : Script) (past : List Event) (x : Unnoticed) → IsOf s x → IsAsked s past x → All (TellsCounts s past) x.classes.items
all_tell s past x of asked = λ k d l. tells_counts s past (get_or x.classes.items k d) (of.room k d l).class (asked k d l)

-- after fewer than 2^32 events no class has 2^32 or more asks ahead of what its processor has seen
pub all_few : (s : Script) (past : List Event) (x : Unnoticed) → IsAsked s past x → length past < 2 ^ 32 → AreFew x
all_few s past x asked h = λ k d l.
    let row = get_or x.classes.items k d in
    let a = ap length (asked k d l).ahead in
    let b = few_above s row.cpu row.class (seen s row.cpu row.class past) past in
    omega (arith, a, b, h)

-- ---- lists of counts can be told apart

-- lists that begin with as many elements are the same only where both parts are
same_parts : (xs ys a b : List ℕ) → length xs ≡ length ys → xs ++ a ≡ ys ++ b → (xs ≡ ys) × (a ≡ b)
same_parts xs ys a b l h = (
  sym (take-append_seam xs a) ∙ ap (take (length xs)) h ∙ ap (λ (n : ℕ). take n (ys ++ b)) l ∙ take-append_seam ys b,
  sym (drop-append_seam xs a) ∙ ap (drop (length xs)) h ∙ ap (λ (n : ℕ). drop n (ys ++ b)) l ∙ drop-append_seam ys b,
)

-- where as many are ahead, as many lanes are told of
same_lefts_length : (xs ys t u : List ℕ) → length xs ≡ length ys → (0 < length xs → length t ≡ length u) →
    length (lefts xs t) ≡ length (lefts ys u)
same_lefts_length [] [] t u h l = refl
same_lefts_length (x ∷ xs) (y ∷ ys) t u h l = length-map t (left_by (x ∷ xs)) ∙ l (omega arith) ∙ sym (length-map u (left_by (y ∷ ys)))
same_lefts_length [] (y ∷ ys) t u h l = absurd (omega (arith, h))
same_lefts_length (x ∷ xs) [] t u h l = absurd (omega (arith, h))

-- so it is of the counts of a class and those behind them
same_class : (s : Script) (x y : ClassAsks) (a b : List ℕ) → HasRoom s x → HasRoom s y → class_counts x ++ a ≡ class_counts y ++ b →
    (class_counts x ≡ class_counts y) × (a ≡ b)
same_class s x y a b r q h =
    let ahead : length x.ahead.items ≡ length y.ahead.items = ap (λ (ns : List ℕ). value_at ns 1) h in
    let left = same_lefts_length x.ahead.items y.ahead.items x.told.items y.told.items ahead
    (λ some. r.told some ∙ sym (q.told (subst (λ (n : ℕ). 0 < n) ahead some))) in
    same_parts (class_counts x) (class_counts y) a b (ap (λ (n : ℕ). suc (suc n)) left) h

-- ---- what the same counts tell

-- what two classes are that stand at one place
pub record AreTwo (s : Script) (h k : List Event) (x y : ClassAsks) : Type 0 where
  pub first : IsClassAsked s h x
  pub second : IsClassAsked s k y
  pub first_room : HasRoom s x
  pub second_room : HasRoom s y
  pub same : class_counts x ≡ class_counts y

-- those of two lists, place by place
abbrev AreAllTwo : Script → List Event → List Event → List ClassAsks → List ClassAsks → Type 0
AreAllTwo s h k [] [] = Unit {0}
AreAllTwo s h k [] (y ∷ ys) = ⊥
AreAllTwo s h k (x ∷ xs) [] = ⊥
AreAllTwo s h k (x ∷ xs) (y ∷ ys) = AreTwo s h k x y × AreAllTwo s h k xs ys

-- two lists of classes with the same counts, each of its history, are alike place by place
all_two : (s : Script) (h k : List Event) (xs ys : List ClassAsks) → length xs ≡ length ys → All (HasRoom s) xs → All (HasRoom s) ys →
    All (IsClassAsked s h) xs → All (IsClassAsked s k) ys → flat_map class_counts xs ≡ flat_map class_counts ys → AreAllTwo s h k xs ys
all_two s h k [] [] l r q a b e = tt
all_two s h k [] (y ∷ ys) l r q a b e = absurd (omega (arith, l))
all_two s h k (x ∷ xs) [] l r q a b e = absurd (omega (arith, l))
all_two s h k (x ∷ xs) (y ∷ ys) l r q a b e =
    let rx = All-head (HasRoom s) x xs r in
    let ry = All-head (HasRoom s) y ys q in
    let c = same_class s x y (flat_map class_counts xs) (flat_map class_counts ys) rx ry e in (
      record {
        first = All-head (IsClassAsked s h) x xs a;
        second = All-head (IsClassAsked s k) y ys b;
        first_room = rx;
        second_room = ry;
        same = c.0;
      },
      all_two s h k xs ys (omega (arith, l)) (All-tail (HasRoom s) x xs r) (All-tail (HasRoom s) y ys q) (All-tail (IsClassAsked s h) x xs a)
          (All-tail (IsClassAsked s k) y ys b) c.1,
    )

-- the two that stand at one place
abbrev Two : Script → List Event → List Event → ℕ → Type 0
Two s h k i = (x : ClassAsks) × (y : ClassAsks) × (place_of x ≡ i) × (place_of y ≡ i) × AreTwo s h k x y

-- at each place of two lists of classes with the same places, alike place by place, both classes are alike
two_at : (s : Script) (h k : List Event) (from n i : ℕ) (xs ys : List ClassAsks) → map place_of xs ≡ table_from from n (λ place. place) →
    map place_of ys ≡ table_from from n (λ place. place) → AreAllTwo s h k xs ys → from ≤ i → i < from + n → Two s h k i
unfolding table_from
two_at s h k from zero i xs ys p q t l m = absurd (omega (arith, l, m))
two_at s h k from (suc n) i [] ys p q t l m = absurd (let z = ap length p in omega (arith, z))
two_at s h k from (suc n) i (x ∷ xs) [] p q t l m = absurd (let z = ap length q in omega (arith, z))
two_at s h k from (suc n) i (x ∷ xs) (y ∷ ys) p q t l m =
    go (from == i) refl (λ g. two_at s h k (suc from) n i xs ys (ap tail_of p) (ap tail_of q) t.1 g (omega (arith, m)))
  where
    go : (b : Bool) → (from == i) ≡ b → (suc from ≤ i → Two s h k i) → Two s h k i
    go true e later =
        let f = eqb-true from i e in
        (x, y, ap (λ (ns : List ℕ). value_at ns 0) p ∙ f, ap (λ (ns : List ℕ). value_at ns 0) q ∙ f, t.0)
    go false e later = let f = eqb-false from i e in later (omega (arith, l, f))

-- two that stand at the place of a class of a processor
two_of : (s : Script) (h k : List Event) (x y : Unnoticed) → IsOf s x → IsOf s y → IsAsked s h x → IsAsked s k y → counts_of x ≡ counts_of y →
    (p : CpuNo) (c : ℕ) → has_cpu s p ≡ true → c < 16 → Two s h k (p.0 * 16 + c)
two_of s h k x y f g a b e p c has l =
    let m = ap length f.places ∙ ap length (sym g.places) in
    let u = length-map x.classes.items place_of in
    let v = length-map y.classes.items place_of in
    let t = all_two s h k x.classes.items y.classes.items (omega (arith, m, u, v)) f.room g.room a b e in
    let w = ltb-true p.0 s.cpus has in
    two_at s h k 0 (s.cpus * 16) (p.0 * 16 + c) x.classes.items y.classes.items f.places g.places t (omega arith) (omega (arith, w, l))

-- ---- what the counts of one class say at its place

-- classes at one place are one class of one processor
pub one_place : (x : ClassAsks) (p : CpuNo) (c : ℕ) → place_of x ≡ p.0 * 16 + c → x.class < 16 → c < 16 → (p ≡ x.cpu) × (c ≡ x.class)
one_place x p c e k l =
    let a : p.0 ≡ x.cpu.0 = omega (arith, e, k, l) in
    let b : c ≡ x.class = omega (arith, e, k, l) in
    (ap cpu a, b)

-- what is said of a class of a processor is said of the same one
pub carried : (R : CpuNo → ℕ → Type 0) (p q : CpuNo) (c d : ℕ) → p ≡ q → c ≡ d → R q d → R p c
carried R p q c d e f h = subst (λ (u : CpuNo). R u c) (sym e) (subst (λ (n : ℕ). R q n) (sym f) h)

module _ (s : Script) (past : List Event) (x : ClassAsks) (p : CpuNo) (c : ℕ) (e : place_of x ≡ p.0 * 16 + c) (r : HasRoom s x) (l : c < 16)
    (k : IsClassAsked s past x) where
  is_cpu : p ≡ x.cpu
  is_cpu = (one_place x p c e r.class l).0

  is_class : c ≡ x.class
  is_class = (one_place x p c e r.class l).1

  -- whether it is due
  due_at : nat_lt x.served x.seen ≡ is_due (own_of s p past) c
  due_at = carried (λ q d. nat_lt x.served x.seen ≡ is_due (own_of s q past) d) p x.cpu c x.class is_cpu is_class (tells_counts s past x r.class k).due

  -- how many asks are ahead
  ahead_at : length x.ahead.items ≡ unnoticed s p c 0 past
  ahead_at = carried (λ q d. length x.ahead.items ≡ unnoticed s q d 0 past) p x.cpu c x.class is_cpu is_class (tells_counts s past x r.class k).ahead

  -- how many a lane leaves
  left_at : (lane : Lane) → HasLane s lane → left_by x.ahead.items (value_at x.told.items (lane_number s lane)) ≡ unnoticed s p c (told_by s lane p c past) past
  left_at lane f = carried (λ q d. left_by x.ahead.items (value_at x.told.items (lane_number s lane)) ≡ unnoticed s q d (told_by s lane q d past) past)
      p x.cpu c x.class is_cpu is_class ((tells_counts s past x r.class k).left lane f)

-- where as much is left by each lane, so it is by this one
same_left : (a b t u : List ℕ) (i : ℕ) → length a ≡ length b → lefts a t ≡ lefts b u → (0 < length a → i < length t) →
    (0 < length b → i < length u) → left_by a (value_at t i) ≡ left_by b (value_at u i)
same_left [] [] t u i n e l m = refl
same_left [] (y ∷ ys) t u i n e l m = absurd (omega (arith, n))
same_left (x ∷ xs) [] t u i n e l m = absurd (omega (arith, n))
same_left (x ∷ xs) (y ∷ ys) t u i n e l m =
    sym (get_or-map (left_by (x ∷ xs)) t i 0 0 (l (omega arith)))
    ∙ ap (λ (ns : List ℕ). value_at ns i) e
    ∙ get_or-map (left_by (y ∷ ys)) u i 0 0 (m (omega arith))

-- each lane of the script has a value, where any value is ahead
lane_inside : (s : Script) (x : ClassAsks) (lane : Lane) → HasRoom s x → HasLane s lane → 0 < length x.ahead.items →
    lane_number s lane < length x.told.items
lane_inside s x lane r f some =
    let n = number_below s lane f in
    let u = r.told some in
    omega (arith, n, u)

-- a test and a count of it
same_test : (a b : Bool) → count_if a ≡ count_if b → a ≡ b
same_test true true e = refl
same_test false false e = refl
same_test true false e = absurd (omega (arith, e))
same_test false true e = absurd (omega (arith, e))

-- used classes are counted below 16
used_below : (c : ℕ) → is_used_class c ≡ true → c < 16
used_below c h = grind (arith, h)

-- where the counts are the same, histories are alike in what was asked
pub same_counts : (s : Script) (h k : List Event) (x y : Unnoticed) → IsOf s x → IsOf s y → IsAsked s h x → IsAsked s k y → counts_of x ≡ counts_of y →
    AskedAlike s h k
same_counts s h k x y f g a b e = record { due = due; asks = asks; told = told }
  where
    due : (p : CpuNo) → has_cpu s p ≡ true → (bare_own (own_of s p h)).seen ≡ (bare_own (own_of s p k)).seen
    due p has =
        table-same 16 (λ c. if is_due (own_of s p h) c then 1 else 0) (λ c. if is_due (own_of s p k) c then 1 else 0)
        (λ c l. ap (λ (t : Bool). if t then 1 else 0) (one c l))
      where
        one : (c : ℕ) → c < 16 → is_due (own_of s p h) c ≡ is_due (own_of s p k) c
        one c l =
            let two = two_of s h k x y f g a b e p c has l in
            let t = two.4 in
            sym (due_at s h two.0 p c two.2 t.first_room l t.first)
            ∙ same_test _ _ (ap (λ (ns : List ℕ). value_at ns 0) t.same)
            ∙ due_at s k two.1 p c two.3 t.second_room l t.second

    asks : (p : CpuNo) (c : ℕ) → has_cpu s p ≡ true → is_used_class c ≡ true → unnoticed s p c 0 h ≡ unnoticed s p c 0 k
    asks p c has used =
        let l = used_below c used in
        let two = two_of s h k x y f g a b e p c has l in
        let t = two.4 in
        sym (ahead_at s h two.0 p c two.2 t.first_room l t.first)
        ∙ ap (λ (ns : List ℕ). value_at ns 1) t.same
        ∙ ahead_at s k two.1 p c two.3 t.second_room l t.second

    told : (lane : Lane) (p : CpuNo) (c : ℕ) → HasLane s lane → has_cpu s p ≡ true → is_used_class c ≡ true →
        unnoticed s p c (told_by s lane p c h) h ≡ unnoticed s p c (told_by s lane p c k) k
    told lane p c has_it has used =
        let l = used_below c used in
        let two = two_of s h k x y f g a b e p c has l in
        let t = two.4 in
        let left = same_left two.0.ahead.items two.1.ahead.items two.0.told.items two.1.told.items (lane_number s lane)
        (ap (λ (ns : List ℕ). value_at ns 1) t.same) (ap (λ (ns : List ℕ). tail_of (tail_of ns)) t.same) (lane_inside s two.0 lane t.first_room has_it)
        (lane_inside s two.1 lane t.second_room has_it) in
        sym (left_at s h two.0 p c two.2 t.first_room l t.first lane has_it) ∙ left ∙ left_at s k two.1 p c two.3 t.second_room l t.second lane has_it
