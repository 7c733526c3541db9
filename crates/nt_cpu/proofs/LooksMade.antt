-- Looks at the classes of a processor, one after another.
use Rattle.std.proofs.Common.{ap, append_assoc, arith, sym, ◌∙◌}
use Rattle.std.proofs.lemmas.Bool.Decides.{nat_tests}
use Rattle.std.proofs.lemmas.List.{get_or-set_other, get_or-set_same}
use Rattle.std.specs.Prelude.{Bool, List, None, Option, Some, [], false, if◌then◌else◌, length, nat_lt, refl, set, suc, true, zero, ℕ, ◌&&◌, ◌++◌, ◌<◌, ◌==◌}
use Rattle.std.specs.Prelude.{◌∷◌, ◌≡◌, ◌≢◌, ◌≤◌}
use Rattle.nt_event.specs.declared.numbers.CpuNo.{CpuNo}
use Rattle.nt_event.specs.Lists.{value_at}
use Rattle.nt_floor.specs.Lists.{Lists, Look, with_look}
use Rattle.nt_floor.specs.Views.{HasWord, IsLooked, SameFloor, View, is_word}
use Rattle.nt_event.specs.Classes.{is_used_class}
use Rattle.nt_cpu.specs.Steps.{LooksBelow, look_if, looks_below, was_looked, with_looks}

-- looks at the same values are the same looks
looks_same : (p : CpuNo) (n : ℕ) (xs ys : List ℕ) → ((j : ℕ) → j < n → value_at xs j ≡ value_at ys j) → looks_below p n xs ≡ looks_below p n ys
looks_same p zero xs ys h = refl
looks_same p (suc k) xs ys h =
    ap (λ (l : List Look). l ++ look_if (is_used_class k) p k (value_at xs k)) (looks_same p k xs ys (λ j b. h j (omega arith)))
    ∙ ap (λ (v : ℕ). looks_below p k ys ++ look_if (is_used_class k) p k v) (h k (omega arith))

-- one more look after others is the others with it at the end
one_more : (p : CpuNo) (k a : ℕ) (l : List Look) (x : Option Lists) → with_look p k a (with_looks l x)
    ≡ with_looks (l ++ record { cpu = p; class = k; value = a } ∷ []) x
one_more p k a l None = refl
one_more p k a l (Some y) =
    ap (λ (z : List Look). Some (record y { looks = z })) (append_assoc y.looks l (record { cpu = p; class = k; value = a } ∷ []))

-- no more looks leave the looks as they were
no_more : (l : List Look) → l ++ [] ≡ l
no_more [] = refl
no_more (x ∷ l) = ap (λ (z : List Look). x ∷ z) (no_more l)

-- a floor unchanged from one view to a second and from that to a third is unchanged from first to third
pub same_through : (v u w : View) → SameFloor v u → SameFloor u w → SameFloor v w
same_through v u w a b = record {
  cpus = b.cpus ∙ a.cpus;
  alone = b.alone ∙ a.alone;
  states = b.states ∙ a.states;
  told = λ x q k h. let c = a.cpus in b.told x q k (omega arith, h.1) ∙ a.told x q k h;
}

-- ---- one look more

-- the answer to one more look is read at its class, and the earlier answers elsewhere
value_more : (p q : CpuNo) (k j a : ℕ) (answers : List ℕ) (old : ℕ) → length answers ≡ 16 → k < 16 → is_used_class k ≡ true →
    (if is_word p k q j then a else (if was_looked p k q j then value_at answers j else old))
    ≡ (if was_looked p (suc k) q j then value_at (set answers k a) j else old)
value_more p q k j a answers old l b u = go (q.0 == p.0) (j == k) refl
  where
    go : (m d : Bool) → (j == k) ≡ d → (if m && d then a else (if m && (nat_lt j k && is_used_class j) then value_at answers j else old))
        ≡ (if m && (nat_lt j (suc k) && is_used_class j) then value_at (set answers k a) j else old)
    go false d e = refl
    go true true e =
        let i : j ≡ k = grind (arith, nat_tests) in
        let t : nat_lt k (suc k) ≡ true = grind (arith, nat_tests) in
        rw (i, t, u) (sym (get_or-set_same answers k a 0 (omega (arith, l))))
    go true false e =
        let i : j ≢ k = λ x. grind (arith, nat_tests) in
        rw (same (nat_lt j k) refl i, get_or-set_other answers k j a 0 i) refl
      where
        same : (b : Bool) → nat_lt j k ≡ b → j ≢ k → nat_lt j (suc k) ≡ nat_lt j k
        same true f i = grind (arith, nat_tests)
        same false f i = grind (arith, nat_tests)

-- one more look at a used class extends the looks below that class by its answer
pub look_more : (k : ℕ) (p : CpuNo) (answers : List ℕ) (a : ℕ) (v u w : View) → length answers ≡ 16 → k < 15 → is_used_class k ≡ true → p.0 < v.cpus →
    LooksBelow k p answers v u → IsLooked p k a u w → LooksBelow (suc k) p (set answers k a) v w
look_more k p answers a v u w l b used c h i = record {
  lists = i.lists ∙ (ap (λ (x : Option Lists). with_look p k a x) h.lists
      ∙ (one_more p k a (looks_below p k answers) v.lists ∙ ap (λ (x : List Look). with_looks x v.lists) all));
  least = λ j q s. least j (j == k) refl q s;
  exact = λ t j q s. exact t j (j == k) refl q s;
  others = λ j s. let d : j ≢ k = λ e. let x = rw e at s in cc in get_or-set_other answers k j a 0 d ∙ h.others j s;
  later = λ j s. let d : j ≢ k = λ e. omega arith in get_or-set_other answers k j a 0 d ∙ h.later j (omega arith);
  value = λ q j s. i.value q j (word q j s) ∙ (ap (λ (x : ℕ). if is_word p k q j then a else x) (h.value q j s)
      ∙ value_more p q k j a answers (v.value q j) l (omega arith) used);
  next = let x = h.next in let y = i.next.0 in omega arith;
  most = λ j q. most j (j == k) refl q;
  next_exact = λ t. i.next_exact (h.same.alone ∙ t) ∙ h.next_exact t;
  drawable = i.drawable ∙ h.drawable;
  marked = λ j q d s. i.marked j q d (word q d s) ∙ h.marked j q d s;
  same = same_through v u w h.same i.same;
}
  where
    here : value_at (set answers k a) k ≡ a
    here = get_or-set_same answers k a 0 (omega (arith, l))

    there : (j : ℕ) → j ≢ k → value_at (set answers k a) j ≡ value_at answers j
    there j d = get_or-set_other answers k j a 0 d

    all : looks_below p k answers ++ record { cpu = p; class = k; value = a } ∷ [] ≡ looks_below p (suc k) (set answers k a)
    all =
        ap (λ (x : List Look). x ++ record { cpu = p; class = k; value = a } ∷ [])
        (looks_same p k answers (set answers k a) (λ j q. sym (there j (λ e. omega arith))))
        ∙ (ap (λ (y : ℕ). looks_below p k (set answers k a) ++ look_if true p k y) (sym here)
        ∙ ap (λ (t : Bool). looks_below p k (set answers k a) ++ look_if t p k (value_at (set answers k a) k)) (sym used))

    word : (q : CpuNo) (j : ℕ) → HasWord v q j → HasWord u q j
    word q j s = let x = h.same.cpus in (omega arith, s.1)

    known : u.value p k ≡ v.value p k
    known =
        let x : nat_lt k k ≡ false = grind (arith, nat_tests) in
        let y : (p.0 == p.0) ≡ true = grind (arith, nat_tests) in
        h.value p k (c, omega arith) ∙ rw (x, y) refl

    least : (j : ℕ) (d : Bool) → (j == k) ≡ d → j < suc k → is_used_class j ≡ true → v.value p j ≤ value_at (set answers k a) j
    least j true e q s =
        let f : j ≡ k = grind (arith, nat_tests) in
        let x = i.least in
        let y = known in
        let z = here in
        rw f (omega arith)
    least j false e q s =
        let f : j ≢ k = λ x. grind (arith, nat_tests) in
        let x = h.least j (omega (arith, f)) s in
        let y = there j f in
        omega arith

    exact : v.alone ≡ true → (j : ℕ) (d : Bool) → (j == k) ≡ d → j < suc k → is_used_class j ≡ true → value_at (set answers k a) j ≡ v.value p j
    exact t j true e q s =
        let f : j ≡ k = grind (arith, nat_tests) in
        rw f (here ∙ (i.exact (h.same.alone ∙ t) ∙ known))
    exact t j false e q s =
        let f : j ≢ k = λ x. grind (arith, nat_tests) in there j f ∙ h.exact t j (omega (arith, f)) s

    most : (j : ℕ) (d : Bool) → (j == k) ≡ d → j < suc k → value_at (set answers k a) j ≤ w.next
    most j true e q =
        let f : j ≡ k = grind (arith, nat_tests) in
        let x = i.next.1 in
        let z = here in
        rw f (omega arith)
    most j false e q =
        let f : j ≢ k = λ x. grind (arith, nat_tests) in
        let x = h.most j (omega (arith, f)) in
        let y = there j f in
        let z = i.next.0 in
        omega arith

-- a class that is not used needs no look: the looks below it are those below the next class
pub look_none : (k : ℕ) (p : CpuNo) (answers : List ℕ) (v u : View) → is_used_class k ≡ false → LooksBelow k p answers v u → LooksBelow (suc k) p answers v u
look_none k p answers v u used h = record {
  lists = h.lists ∙ ap (λ (x : List Look). with_looks x v.lists)
      (sym (ap (λ (t : Bool). looks_below p k answers ++ look_if t p k (value_at answers k)) used ∙ no_more (looks_below p k answers)));
  least = λ j q s. h.least j (before j q s) s;
  exact = λ t j q s. h.exact t j (before j q s) s;
  others = h.others;
  later = λ j s. h.later j (omega arith);
  value = λ q j s. h.value q j s ∙ ap (λ (t : Bool). if (q.0 == p.0) && t then value_at answers j else v.value q j) (unlooked j (is_used_class j) refl);
  next = h.next;
  most = λ j q. most j (j == k) refl q;
  next_exact = h.next_exact;
  drawable = h.drawable;
  marked = h.marked;
  same = h.same;
}
  where
    not_it : (j : ℕ) → is_used_class j ≡ true → j ≢ k
    not_it j s e = let x = rw e at s in cc

    before : (j : ℕ) → j < suc k → is_used_class j ≡ true → j < k
    before j q s = omega (arith, not_it j s)

    unlooked : (j : ℕ) (t : Bool) → is_used_class j ≡ t → (nat_lt j k && is_used_class j) ≡ (nat_lt j (suc k) && is_used_class j)
    unlooked j false s = rw s (none (nat_lt j k) ∙ sym (none (nat_lt j (suc k))))
      where
        none : (b : Bool) → (b && false) ≡ false
        none true = refl
        none false = refl
    unlooked j true s =
        ap (λ (b : Bool). b && is_used_class j) (same (nat_lt j k) refl (not_it j s))
      where
        same : (b : Bool) → nat_lt j k ≡ b → j ≢ k → nat_lt j k ≡ nat_lt j (suc k)
        same true f i = grind (arith, nat_tests)
        same false f i = grind (arith, nat_tests)

    most : (j : ℕ) (d : Bool) → (j == k) ≡ d → j < suc k → value_at answers j ≤ u.next
    most j true e q =
        let f : j ≡ k = grind (arith, nat_tests) in
        let z = h.others k used in
        rw f (omega arith)
    most j false e q =
        let f : j ≢ k = λ x. grind (arith, nat_tests) in h.most j (omega (arith, f))
