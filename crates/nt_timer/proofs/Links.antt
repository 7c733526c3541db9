-- Links that are written keep the rings whole.
use Rattle.std.proofs.Common.{◌≡◌, ◌⊎◌, ◌<◌, ◌≤◌, List, ℕ, arith, cond, eqb, get_or, inl, inr, length, refl, set, suc, sym, zero, ◌∙◌}
use Rattle.nt_timer.specs.declared.rings.TheConstants.{HEADS}
use Rattle.nt_timer.specs.Rings.{AreLinked, IsAlone, IsLinkage, IsNode, IsOfRing}
use Rattle.std.proofs.lemmas.Bool.{cases_eq, cases_lt, eq-eqb, ne_eqb}
use Rattle.std.proofs.lemmas.List.{get_or-set_other, get_or-set_same, length-set}

-- ---- what is read after writes

pub record IsWritten (f g : ℕ → ℕ) (a x : ℕ) : Type 0 where
  pub here : g a ≡ x
  pub rest : (i : ℕ) → (i ≡ a → ⊥) → g i ≡ f i

pub record IsWrittenTwice (f g : ℕ → ℕ) (a x b y : ℕ) : Type 0 where
  pub last : g b ≡ y
  pub first : (a ≡ b → ⊥) → g a ≡ x
  pub rest : (i : ℕ) → (i ≡ a → ⊥) → (i ≡ b → ⊥) → g i ≡ f i

-- after an entry of a list is written, it reads as written and the others as before
pub written : (xs : List ℕ) (a x : ℕ) → a < length xs → IsWritten (λ i. get_or xs i 0) (λ i. get_or (set xs a x) i 0) a x
written xs a x h =
    record { here = get_or-set_same xs a x 0 h; rest = λ i e. get_or-set_other xs a i x 0 e }

-- after two entries of a list are written, each reads as last written and the others as before
pub written_twice : (xs : List ℕ) (a x b y : ℕ) → a < length xs → b < length xs → IsWrittenTwice (λ i. get_or xs i 0)
    (λ i. get_or (set (set xs a x) b y) i 0) a x b y
written_twice xs a x b y h k =
    record {
      last = get_or-set_same (set xs a x) b y 0 (omega (arith, length-set xs a x));
      first = λ e. get_or-set_other (set xs a x) b a y 0 e ∙ get_or-set_same xs a x 0 h;
      rest = λ i e d. get_or-set_other (set xs a x) b i y 0 d ∙ get_or-set_other xs a i x 0 e;
    }

-- ---- a node leaves its ring

pub record IsDetached (n : ℕ) (next previous home rank next' previous' home' : ℕ → ℕ) (k : ℕ) : Type 0 where
  pub linked : IsLinkage n next previous home rank
  pub node : k < n
  pub other : HEADS ≤ k
  pub nexts : IsWrittenTwice next next' (previous k) (next k) k k
  pub previouses : IsWrittenTwice previous previous' (next k) (previous k) k k
  pub homes : IsWritten home home' k k

module _ (n : ℕ) (next previous home rank next' previous' home' : ℕ → ℕ) (k : ℕ) (d : IsDetached n next previous home rank next' previous' home' k) where
  at : IsNode n next previous home rank k
  at = d.linked k d.node

  -- the node before and the one after it
  before : ℕ
  before = previous k

  next_alone : next k ≡ k → previous k ≡ k
  next_alone e = let b = at.back in cc

  previous_alone : previous k ≡ k → next k ≡ k
  previous_alone e = let f = at.forth in cc

  home_before : home (previous k) ≡ home k
  home_before = let s = (d.linked (previous k) at.previous_below).same in let f = at.forth in cc

  detached_next : (i : ℕ) → i < n → (i ≡ k → ⊥) → (i ≡ previous k) ⊎ (i ≡ previous k → ⊥) →
      (next' i < n) × (previous' (next' i) ≡ i) × (home' (next' i) ≡ home' i)
  detached_next i h e (inl p) =
      let apart : previous k ≡ k → ⊥ = λ z. e (cc) in
      let far : next k ≡ k → ⊥ = λ z. apart (next_alone z) in
      let a : next' (previous k) ≡ next k = d.nexts.first apart in
      let b : previous' (next k) ≡ previous k = d.previouses.first far in
      let c : home' (next k) ≡ home (next k) = d.homes.rest (next k) far in
      let f : home' (previous k) ≡ home (previous k) = d.homes.rest (previous k) apart in
      let s = at.same in
      let q = home_before in
      let less = at.next_below in
      let is : next' i ≡ next k = cc in
      (rw is less, cc, cc)
  detached_next i h e (inr p) =
      let x = d.linked i h in
      let back = x.back in
      let own = at.back in
      let a : next' i ≡ next i = d.nexts.rest i p e in
      let not_node : next i ≡ k → ⊥ = λ z. p (cc) in
      let not_after : next i ≡ next k → ⊥ = λ z. e (cc) in
      let b : previous' (next i) ≡ previous (next i) = d.previouses.rest (next i) not_after not_node in
      let c : home' (next i) ≡ home (next i) = d.homes.rest (next i) not_node in
      let f : home' i ≡ home i = d.homes.rest i e in
      let s = x.same in
      let less = x.next_below in
      (rw a less, cc, cc)

  rank_over : (next k ≡ k → ⊥) → (next k ≡ home (next k)) ⊎ (k < k) ⊎ (rank (previous k) < rank (next k))
  rank_over far =
      let x = d.linked (next k) at.next_below in
      let b = at.back in
      let s = at.same in
      elim x.falls [
        | inl e ↦ inl e
        | inr less ↦ elim at.falls [
          | inl own ↦ elim x.other [
            | inl e ↦ inl (sym e)
            | inr low ↦ let same : home (next k) ≡ k = cc in let o = d.other in inr (inl (omega (arith, same)))
          ]
          | inr more ↦ inr (inr (let same : previous (next k) ≡ k = b in omega (arith, rw same at less)))
        ]
      ]

  detached_previous : (i : ℕ) → i < n → (i ≡ k → ⊥) → (i ≡ next k) ⊎ (i ≡ next k → ⊥) →
      (previous' i < n) × (next' (previous' i) ≡ i) × ((i ≡ home' i) ⊎ (rank (previous' i) < rank i))
  detached_previous i h e (inl p) =
      let far : next k ≡ k → ⊥ = λ z. e (cc) in
      let apart : previous k ≡ k → ⊥ = λ z. far (previous_alone z) in
      let a : next' (previous k) ≡ next k = d.nexts.first apart in
      let b : previous' (next k) ≡ previous k = d.previouses.first far in
      let c : home' (next k) ≡ home (next k) = d.homes.rest (next k) far in
      let less = at.previous_below in
      let is : previous' i ≡ previous k = cc in (
        rw is less,
        cc,
        elim (rank_over far) [
          | inl own ↦ inl (let own = own in cc)
          | inr rest ↦ elim rest [ inl wrong ↦ absurd (omega arith) | inr down ↦ inr (rw (is, p) down) ]
        ],
      )
  detached_previous i h e (inr p) =
      let x = d.linked i h in
      let forth = x.forth in
      let own = at.forth in
      let a : previous' i ≡ previous i = d.previouses.rest i p e in
      let not_node : previous i ≡ k → ⊥ = λ z. p (cc) in
      let not_before : previous i ≡ previous k → ⊥ = λ z. e (cc) in
      let b : next' (previous i) ≡ next (previous i) = d.nexts.rest (previous i) not_before not_node in
      let f : home' i ≡ home i = d.homes.rest i e in
      let less = x.previous_below in
      (rw a less, cc, elim x.falls [ inl own ↦ inl (let o = own in cc) | inr down ↦ inr (rw a down) ])

  detached_node : (i : ℕ) → i < n → (i ≡ k) ⊎ (i ≡ k → ⊥) → IsNode n next' previous' home' rank i
  detached_node i h (inl e) =
      let a = d.nexts.last in
      let b = d.previouses.last in
      let c = d.homes.here in
      let na : next' i ≡ i = cc in
      let nb : previous' i ≡ i = cc in
      let nc : home' i ≡ i = cc in
      record {
        next_below = rw na h;
        previous_below = rw nb h;
        forth = cc;
        back = cc;
        same = cc;
        head = λ low. nc;
        other = inl nc;
        falls = inl (sym nc);
      }
  detached_node i h (inr e) =
      let x = d.linked i h in
      let f : home' i ≡ home i = d.homes.rest i e in
      let a = detached_next i h e (cases_eq i (previous k)) in
      let b = detached_previous i h e (cases_eq i (next k)) in
      record {
        next_below = a.0;
        previous_below = b.0;
        forth = b.1;
        back = a.1;
        same = a.2;
        head = λ low. f ∙ x.head low;
        other = elim x.other [ inl own ↦ inl (f ∙ own) | inr low ↦ inr (rw f low) ];
        falls = b.2;
      }

  -- after a node is taken out of its ring, the links still form whole rings
  pub detached : IsLinkage n next' previous' home' rank
  detached i h = detached_node i h (cases_eq i k)

-- ---- a node enters a ring at its end

pub record IsAppended (n : ℕ) (next previous home rank next' previous' home' : ℕ → ℕ) (s k : ℕ) : Type 0 where
  pub linked : IsLinkage n next previous home rank
  pub node : k < n
  pub low : s < HEADS
  pub other : HEADS ≤ k
  pub alone : home k ≡ k
  pub nexts : IsWrittenTwice next next' (previous s) k k s
  pub previouses : IsWrittenTwice previous previous' k (previous s) s k
  pub homes : IsWritten home home' k s

-- the ranks after a node is appended: its own is one above that of the ring's last node, the others stay
pub later : (ℕ → ℕ) → ℕ → ℕ → ℕ → ℕ
later rank last k i = cond (eqb i k) (suc (rank last)) (rank i)

-- the appended node has a rank one above that of the last node
later_here : (rank : ℕ → ℕ) (last k i : ℕ) → i ≡ k → later rank last k i ≡ suc (rank last)
unfolding later
later_here rank last k i e = rw (eq-eqb i k e) refl

-- every node but the appended one has the rank that it had
later_rest : (rank : ℕ → ℕ) (last k i : ℕ) → (i ≡ k → ⊥) → later rank last k i ≡ rank i
unfolding later
later_rest rank last k i e = rw (ne_eqb i k e) refl

module _ (n : ℕ) (next previous home rank next' previous' home' : ℕ → ℕ) (s k : ℕ) (d : IsAppended n next previous home rank next' previous' home' s k) where
  own : IsNode n next previous home rank k
  own = d.linked k d.node

  top : s < n
  top = let a = d.node in let b = d.low in let c = d.other in omega arith

  head : IsNode n next previous home rank s
  head = d.linked s top

  apart : s ≡ k → ⊥
  apart e = let b = d.low in let c = d.other in omega arith

  next_own : next k ≡ k
  next_own =
      let x = d.linked (next k) own.next_below in
      let h : home (next k) ≡ k = own.same ∙ d.alone in
      elim x.other [
        | inl e ↦ sym e ∙ h
        | inr less ↦ absurd (let c = d.other in omega (arith, h))
      ]

  previous_own : previous k ≡ k
  previous_own = let b = own.back in let e = next_own in cc

  last_apart : previous s ≡ k → ⊥
  last_apart e = apart (let f = head.forth in let g = next_own in cc)

  home_last : home (previous s) ≡ s
  home_last =
      let x = (d.linked (previous s) head.previous_below).same in
      let f = head.forth in
      let g = head.head d.low in
      cc

  appended_next : (i : ℕ) → i < n → (i ≡ k → ⊥) → (i ≡ previous s) ⊎ (i ≡ previous s → ⊥) →
      (next' i < n) × (previous' (next' i) ≡ i) × (home' (next' i) ≡ home' i)
  appended_next i h e (inl p) =
      let a : next' (previous s) ≡ k = d.nexts.first (λ z. last_apart z) in
      let b : previous' k ≡ previous s = d.previouses.first (λ z. apart (sym z)) in
      let c : home' k ≡ s = d.homes.here in
      let f : home' (previous s) ≡ home (previous s) = d.homes.rest (previous s) last_apart in
      let g = home_last in
      let less = d.node in
      let is : next' i ≡ k = cc in
      (rw is less, cc, cc)
  appended_next i h e (inr p) =
      let x = d.linked i h in
      let back = x.back in
      let after = previous_own in
      let a : next' i ≡ next i = d.nexts.rest i p e in
      let not_node : next i ≡ k → ⊥ = λ z. e (cc) in
      let not_head : next i ≡ s → ⊥ = λ z. p (cc) in
      let b : previous' (next i) ≡ previous (next i) = d.previouses.rest (next i) not_node not_head in
      let c : home' (next i) ≡ home (next i) = d.homes.rest (next i) not_node in
      let f : home' i ≡ home i = d.homes.rest i e in
      let t = x.same in
      let less = x.next_below in
      (rw a less, cc, cc)

  appended_previous : (i : ℕ) → i < n → (i ≡ k → ⊥) → (i ≡ s) ⊎ (i ≡ s → ⊥) →
      (previous' i < n) × (next' (previous' i) ≡ i) × ((i ≡ home' i) ⊎ (later rank (previous s) k (previous' i) < later rank (previous s) k i))
  appended_previous i h e (inl p) =
      let a : previous' s ≡ k = d.previouses.last in
      let b : next' k ≡ s = d.nexts.last in
      let f : home' s ≡ home s = d.homes.rest s apart in
      let g = head.head d.low in
      let less = d.node in
      let is : previous' i ≡ k = cc in
      (rw is less, cc, inl (cc))
  appended_previous i h e (inr p) =
      let x = d.linked i h in
      let forth = x.forth in
      let after = next_own in
      let last = head.forth in
      let a : previous' i ≡ previous i = d.previouses.rest i e p in
      let not_node : previous i ≡ k → ⊥ = λ z. e (cc) in
      let not_last : previous i ≡ previous s → ⊥ = λ z. p (cc) in
      let b : next' (previous i) ≡ next (previous i) = d.nexts.rest (previous i) not_last not_node in
      let f : home' i ≡ home i = d.homes.rest i e in
      let less = x.previous_below in
      let u = later_rest rank (previous s) k i e in
      let v = later_rest rank (previous s) k (previous i) not_node in
      (rw a less, cc, elim x.falls [ inl same ↦ inl (let o = same in cc) | inr down ↦ inr (rw (a, u, v) down) ])

  appended_node : (i : ℕ) → i < n → (i ≡ k) ⊎ (i ≡ k → ⊥) → IsNode n next' previous' home' (later rank (previous s) k) i
  appended_node i h (inl e) =
      let a : next' k ≡ s = d.nexts.last in
      let a' : next' (previous s) ≡ k = d.nexts.first (λ z. last_apart z) in
      let b : previous' k ≡ previous s = d.previouses.first (λ z. apart (sym z)) in
      let b' : previous' s ≡ k = d.previouses.last in
      let c = d.homes.here in
      let c' : home' s ≡ home s = d.homes.rest s apart in
      let g = head.head d.low in
      let low = d.low in
      let other = d.other in
      let ni : next' i ≡ s = cc in
      let pi : previous' i ≡ previous s = cc in
      let hi : home' i ≡ s = cc in
      let u = later_here rank (previous s) k i e in
      let v = later_rest rank (previous s) k (previous s) last_apart in
      record {
        next_below = rw ni top;
        previous_below = rw pi head.previous_below;
        forth = cc;
        back = cc;
        same = cc;
        head = λ less. absurd (omega (arith, e));
        other = inr (rw hi low);
        falls = inr (rw (pi, u, v) (omega arith));
      }
  appended_node i h (inr e) =
      let x = d.linked i h in
      let f : home' i ≡ home i = d.homes.rest i e in
      let a = appended_next i h e (cases_eq i (previous s)) in
      let b = appended_previous i h e (cases_eq i s) in
      record {
        next_below = a.0;
        previous_below = b.0;
        forth = b.1;
        back = a.1;
        same = a.2;
        head = λ low. f ∙ x.head low;
        other = elim x.other [ inl same ↦ inl (f ∙ same) | inr low ↦ inr (rw f low) ];
        falls = b.2;
      }

  -- after a lone node is appended to a ring, the links still form whole rings
  pub appended : IsLinkage n next' previous' home' (later rank (previous s) k)
  appended i h = appended_node i h (cases_eq i k)

-- ---- the ring of a head that leads to itself has no other node

-- if a head leads to itself, a walk back from any node of its ring shows that the node is the head
walked : (n : ℕ) (next previous home rank : ℕ → ℕ) (s : ℕ) → IsLinkage n next previous home rank → next s ≡ s → (fuel i : ℕ) → i < n → home i ≡ s →
    rank i < fuel → i ≡ s
walked n next previous home rank s d e zero i h at less = absurd (omega arith)
walked n next previous home rank s d e (suc f) i h at less =
    let x = d i h in
    let y = d (previous i) x.previous_below in
    let forth = x.forth in
    let same = y.same in
    elim x.falls [
      | inl own ↦ own ∙ at
      | inr down ↦
          let home_there : home (previous i) ≡ s = cc in
          let there : previous i ≡ s = walked n next previous home rank s d e f (previous i) x.previous_below home_there (omega arith) in cc
    ]

-- a head that is followed by itself has no other node in its ring
pub none_of_ring : (next previous home : List ℕ) (s : ℕ) → AreLinked next previous home → get_or next s 0 ≡ s → (i : ℕ) → i < length home →
    get_or home i 0 ≡ s → i ≡ s
none_of_ring next previous home s h e i less at =
    walked (length home) (λ i. get_or next i 0) (λ i. get_or previous i 0) (λ i. get_or home i 0) h.rank s h.nodes e (suc (h.rank i)) i less at
    (omega arith)

-- if a head is followed by another node, that node is in the head's ring
pub first_of_ring : (next previous home : List ℕ) (s : ℕ) → AreLinked next previous home → s < HEADS → s < length home → (get_or next s 0 ≡ s → ⊥) →
    IsOfRing home s (get_or next s 0)
first_of_ring next previous home s h low less e =
    let x = h.nodes s less in
    let y = h.nodes (get_or next s 0) x.next_below in
    let here : get_or home (get_or next s 0) 0 ≡ s = x.same ∙ x.head low in
    record {
      other = elim (cases_lt (get_or next s 0) HEADS) [
        | inl small ↦ absurd (e (sym (y.head small) ∙ here))
        | inr large ↦ large
      ];
      below = x.next_below;
      here = here;
    }

-- ---- lists of links

-- the three lists are still linked after the writes that take a node out of its ring
pub detached_links : (next previous home : List ℕ) (k : ℕ) → AreLinked next previous home → k < length home → HEADS ≤ k →
    AreLinked (set (set next (get_or previous k 0) (get_or next k 0)) k k) (set (set previous (get_or next k 0) (get_or previous k 0)) k k) (set home k k)
detached_links next previous home k h less other =
    let x = h.nodes k less in
    let a = h.next_all in
    let b = h.previous_all in
    let p : get_or previous k 0 < length next = let l = x.previous_below in omega arith in
    let q : get_or next k 0 < length previous = let l = x.next_below in omega arith in
    let lengths : length (set home k k) ≡ length home = length-set home k k in
    let d : IsDetached (length home) (λ i. get_or next i 0) (λ i. get_or previous i 0) (λ i. get_or home i 0) h.rank
    (λ i. get_or (set (set next (get_or previous k 0) (get_or next k 0)) k k) i 0)
    (λ i. get_or (set (set previous (get_or next k 0) (get_or previous k 0)) k k) i 0) (λ i. get_or (set home k k) i 0) k = record {
      linked = h.nodes;
      node = less;
      other = other;
      nexts = written_twice next (get_or previous k 0) (get_or next k 0) k k p (omega arith);
      previouses = written_twice previous (get_or next k 0) (get_or previous k 0) k k q (omega arith);
      homes = written home k k less;
    } in
    record {
      next_all = length-set (set next (get_or previous k 0) (get_or next k 0)) k k ∙ length-set next (get_or previous k 0) (get_or next k 0) ∙ a ∙ sym lengths;
      previous_all =
          length-set (set previous (get_or next k 0) (get_or previous k 0)) k k ∙ length-set previous (get_or next k 0) (get_or previous k 0) ∙ b ∙ sym
          lengths;
      rank = h.rank;
      nodes = rw lengths (detached (length home) (λ i. get_or next i 0) (λ i. get_or previous i 0) (λ i. get_or home i 0) h.rank
          (λ i. get_or (set (set next (get_or previous k 0) (get_or next k 0)) k k) i 0)
          (λ i. get_or (set (set previous (get_or next k 0) (get_or previous k 0)) k k) i 0) (λ i. get_or (set home k k) i 0) k d);
    }

-- the three lists are still linked after the writes that put a lone node at the end of a ring
pub appended_links : (next previous home : List ℕ) (s k : ℕ) → AreLinked next previous home → s < HEADS → k < length home → HEADS ≤ k →
    get_or home k 0 ≡ k → AreLinked (set (set next (get_or previous s 0) k) k s) (set (set previous k (get_or previous s 0)) s k) (set home k s)
appended_links next previous home s k h low less other alone =
    let top : s < length home = omega arith in
    let x = h.nodes s top in
    let a = h.next_all in
    let b = h.previous_all in
    let p : get_or previous s 0 < length next = let l = x.previous_below in omega arith in
    let lengths : length (set home k s) ≡ length home = length-set home k s in
    let d : IsAppended (length home) (λ i. get_or next i 0) (λ i. get_or previous i 0) (λ i. get_or home i 0) h.rank
    (λ i. get_or (set (set next (get_or previous s 0) k) k s) i 0)
    (λ i. get_or (set (set previous k (get_or previous s 0)) s k) i 0) (λ i. get_or (set home k s) i 0) s k = record {
      linked = h.nodes;
      node = less;
      low = low;
      other = other;
      alone = alone;
      nexts = written_twice next (get_or previous s 0) k k s p (omega arith);
      previouses = written_twice previous k (get_or previous s 0) s k (omega arith) (omega arith);
      homes = written home k s less;
    } in
    record {
      next_all = length-set (set next (get_or previous s 0) k) k s ∙ length-set next (get_or previous s 0) k ∙ a ∙ sym lengths;
      previous_all = length-set (set previous k (get_or previous s 0)) s k ∙ length-set previous k (get_or previous s 0) ∙ b ∙ sym lengths;
      rank = later h.rank (get_or previous s 0) k;
      nodes = rw lengths (appended (length home) (λ i. get_or next i 0) (λ i. get_or previous i 0) (λ i. get_or home i 0) h.rank
          (λ i. get_or (set (set next (get_or previous s 0) k) k s) i 0)
          (λ i. get_or (set (set previous k (get_or previous s 0)) s k) i 0) (λ i. get_or (set home k s) i 0) s k d);
    }

-- ---- at the start each node is alone

-- lists in which every node is alone are linked
pub alone_links : (n : ℕ) (next previous home : List ℕ) → IsAlone n next → IsAlone n previous → IsAlone n home → AreLinked next previous home
alone_links n next previous home a b c =
    let al = a.all in
    let bl = b.all in
    let cl = c.all in
    record {
      next_all = al ∙ sym cl;
      previous_all = bl ∙ sym cl;
      rank = λ i. 0;
      nodes = λ i h.
          let less : i < n = omega arith in
          let x : get_or next i 0 ≡ i = a.each i less in
          let y : get_or previous i 0 ≡ i = b.each i less in
          let z : get_or home i 0 ≡ i = c.each i less in
          record {
            next_below = rw x h;
            previous_below = rw y h;
            forth = rw (y, x) refl;
            back = rw (x, y) refl;
            same = rw x refl;
            head = λ low. z;
            other = inl z;
            falls = inl (sym z);
          };
    }
