-- Neighbouring places of a list, of which one is as good as the other.
use Rattle.std.proofs.Common.{ap, arith, subst, sym, ◌∙◌}
use Rattle.std.proofs.Math.ListN.{get_or-append, get_or-eq_default}
use Rattle.std.proofs.Math.Seq.{get_or-append_seam}
use Rattle.std.proofs.lemmas.Bool.Decides.{nat_tests}
use Rattle.std.proofs.lemmas.Bool.{eqb-true}
use Rattle.std.proofs.lemmas.List.{length-append, length-drop, map_push, take_all, take_more}
use Rattle.std.specs.Prelude.{Bool, IfSome, List, None, Option, Some, [], drop, false, get_or, length, map, nat_lt, refl, suc, take, true, ℕ, ◌++◌, ◌+◌}
use Rattle.std.specs.Prelude.{◌<◌, ◌==◌, ◌∷◌, ◌≡◌, ◌≤◌, ◌≢◌}
use Rattle.nt_event.specs.declared.events.Rises.{Rises}
use Rattle.nt_event.specs.declared.events.Turn.{Turn}
use Rattle.nt_event.specs.declared.events.Turn.TheVariants.{Look, Next}
use Rattle.nt_event.specs.declared.numbers.CpuNo.{CpuNo}
use Rattle.nt_event.specs.declared.scripts.Script.{Script}
use Rattle.nt_shrink.specs.declared.goals.Goal.{Goal}
use Rattle.nt_shrink.specs.Shorter.{turn_without, value_without, without}
use Rattle.nt_shrink.specs.Spare.{is_spare}
use Rattle.nt_shrink.specs.Traces.{is_delivered, traced}
use Rattle.nt_shrink.specs.Twins.{AreSame, AreSameValues, AreTwins, IsSameTurn, IsSameValue, IsTwin, StayTwins}
use Rattle.nt_shrink.proofs.Cutting.{IsWalked, put_after, put_here, walked, whole_before}

-- ---- the values of a look

-- two mappings that agree on a list and on one more entry agree on the list with that entry
more_same : (f h : ℕ → ℕ) (xs : List ℕ) (y : ℕ) → map f xs ≡ map h xs → f y ≡ h y → map f (xs ++ y ∷ []) ≡ map h (xs ++ y ∷ [])
more_same f h xs y a b =
    map_push f xs y
    ∙ (ap (λ (zs : List ℕ). zs ++ f y ∷ []) a
    ∙ (ap (λ (z : ℕ). map h xs ++ z ∷ []) b
    ∙ sym (map_push h xs y)))

-- places that are twins for a look's first values and for the next value are so for one value more
pub values_more : (xs : List ℕ) (i d v : ℕ) (old mid new : List Bool) → i < length xs → v ≡ get_or xs i d →
    StayTwins (AreSameValues (take i xs)) old mid → StayTwins (IsSameValue v) mid new → StayTwins (AreSameValues (take (i + 1) xs)) old new
values_more xs i d v old mid new l e first second at h =
    let b = second at h in
    let a = first at b.0 in
    let more : AreSameValues (take i xs ++ v ∷ []) at = more_same (value_without at) (value_without (at + 1)) (take i xs) v a.1 b.1 in
    (a.0, subst (λ (ys : List ℕ). AreSameValues ys at) (sym (take_more xs i d l ∙ ap (λ (x : ℕ). take i xs ++ x ∷ []) (sym e))) more)

-- without any values of a look looked at, all twins stay twins
pub no_values : (values : List ℕ) (old : List Bool) → StayTwins (AreSameValues (take 0 values)) old old
no_values values old at h = (h, refl)

-- places that are twins for as many values as a look has are twins for all its values
pub all_values : (xs : List ℕ) (i : ℕ) (old new : List Bool) → length xs ≤ i → StayTwins (AreSameValues (take i xs)) old new →
    StayTwins (AreSameValues xs) old new
all_values xs i old new l stay =
    subst (λ (ys : List ℕ). StayTwins (AreSameValues ys) old new) (take_all i xs l) stay

-- places that are twins for all values of a look are twins for the turn of that look
pub look_same : (p : CpuNo) (r : Rises) (old new : List Bool) → StayTwins (AreSameValues r.value) old new → StayTwins (IsSameTurn (Look p r)) old new
look_same p r old new stay at h = ((stay at h).0, ap (λ (ys : List ℕ). Look p (record { value = ys })) (stay at h).1)

-- ---- the twins of a list

-- the list ends with the next event of a processor
abbrev pub EndsNext : CpuNo → List Turn → Type 0
EndsNext p xs = (ys : List Turn) × (xs ≡ ys ++ Next p ∷ [])

-- of two equal next-turns at the end of a list either may be taken away for the other
both_next : (at : ℕ) (p : CpuNo) (xs ys : List Turn) → xs ≡ ys ++ Next p ∷ [] → length ys ≡ at →
    without at (xs ++ Next p ∷ []) ≡ without (at + 1) (xs ++ Next p ∷ [])
both_next at p xs ys e l =
    let one : length xs ≡ length ys + 1 = ap length e ∙ length-append ys (Next p ∷ []) in
    let here : without at xs ≡ ys = ap (without at) e ∙ (put_here at ys (Next p) l ∙ whole_before at ys (omega (arith, l))) in
    put_after at xs (Next p) (omega (arith, one, l))
    ∙ (ap (λ (zs : List Turn). zs ++ Next p ∷ []) here
    ∙ (sym e
    ∙ sym (put_here (at + 1) xs (Next p) (omega (arith, one, l)) ∙ whole_before (at + 1) xs (omega (arith, one, l)))))

-- case: the new turn and the last one are the same next-turn, and either place may go for the other
new_pair : (at : ℕ) (xs : List Turn) (t : Turn) (last next : Option CpuNo) → length xs ≡ at + 1 → ((p : CpuNo) → last ≡ Some p → EndsNext p xs) →
    ((p : CpuNo) → next ≡ Some p → t ≡ Next p) → AreSame last next → without at (xs ++ t ∷ []) ≡ without (at + 1) (xs ++ t ∷ [])
new_pair at xs t last next l ends is_next same =
    let p = same.0 in
    let end = ends p same.1.0 in
    let one : length xs ≡ length end.0 + 1 = ap length end.1 ∙ length-append end.0 (Next p ∷ []) in
    subst (λ (u : Turn). without at (xs ++ u ∷ []) ≡ without (at + 1) (xs ++ u ∷ [])) (sym (is_next p same.1.1))
    (both_next at p xs end.0 end.1 (omega (arith, one, l)))

-- case: an older pair of places stays as good as each other when a turn is added
old_pair : (at : ℕ) (xs : List Turn) (t : Turn) → at + 1 < length xs → without at xs ≡ without (at + 1) xs → IsSameTurn t at →
    without at (xs ++ t ∷ []) ≡ without (at + 1) (xs ++ t ∷ [])
old_pair at xs t l h k =
    put_after at xs t (omega (arith, l))
    ∙ (ap (λ (ys : List Turn). ys ++ turn_without at t ∷ []) h
    ∙ (ap (λ (u : Turn). without (at + 1) xs ++ u ∷ []) k
    ∙ sym (put_after (at + 1) xs t l)))

-- the marks of equal neighbouring places are right after one more turn, with the mark of the new pair
more_twins : (xs : List Turn) (old mid : List Bool) (t : Turn) (last next : Option CpuNo) (b : Bool) → AreTwins xs old → length xs ≡ length old →
    length mid ≡ length old → StayTwins (IsSameTurn t) old mid → ((p : CpuNo) → last ≡ Some p → EndsNext p xs) →
    ((p : CpuNo) → next ≡ Some p → t ≡ Next p) → (b ≡ true → AreSame last next) → AreTwins (xs ++ t ∷ []) (mid ++ b ∷ [])
more_twins xs old mid t last next b twins l m stay ends is_next same at h = go (nat_lt (at + 1) (length mid)) refl
  where
    go : (c : Bool) → nat_lt (at + 1) (length mid) ≡ c → without at (xs ++ t ∷ []) ≡ without (at + 1) (xs ++ t ∷ [])
    go true k =
        let under : at + 1 < length mid = grind (arith, nat_tests) in
        let s = stay at (sym (get_or-append mid (b ∷ []) false (at + 1) under) ∙ h) in
        old_pair at xs t (omega (arith, under, l, m)) (twins at s.0) s.1
    go false k = here (at + 1 == length mid) refl
      where
        here : (c : Bool) → (at + 1 == length mid) ≡ c → without at (xs ++ t ∷ []) ≡ without (at + 1) (xs ++ t ∷ [])
        here true e =
            let i : at + 1 ≡ length mid = eqb-true (at + 1) (length mid) e in
            let is_true : b ≡ true = sym (get_or-append_seam mid b [] false)
            ∙ (ap (λ (j : ℕ). get_or (mid ++ b ∷ []) j false) (sym i) ∙ h) in
            new_pair at xs t last next (omega (arith, i, l, m)) ends is_next (same is_true)
        here false e =
            let j : at + 1 ≢ length mid = grind (arith, nat_tests) in
            let over : length mid < at + 1 = grind (arith, nat_tests) in
            let one : length (mid ++ b ∷ []) ≡ length mid + 1 = length-append mid (b ∷ []) in
            let none : get_or (mid ++ b ∷ []) (at + 1) false ≡ false = get_or-eq_default (mid ++ b ∷ []) false (omega (arith, one, over)) in
            absurd cc

-- ---- the walk over the list

pub record IsPaired (list walk : List Turn) (twins : List Bool) (last : Option CpuNo) : Type 0 where
  pub rest : walk ≡ drop (length twins) list
  pub few : length twins ≤ length list
  pub twins_are : AreTwins (take (length twins) list) twins
  pub ends : (p : CpuNo) → last ≡ Some p → EndsNext p (take (length twins) list)

-- a walk over a list that has not begun has found no twins
pub none_paired : (list : List Turn) → IsPaired list list [] None
none_paired list = record {
  rest = refl;
  few = omega arith;
  twins_are = λ at h. absurd cc;
  ends = λ p h. absurd cc;
}

-- what holds of an optional processor holds of the processor that it is
some_of : (P : CpuNo → Type 0) (o : Option CpuNo) → IfSome o P → (p : CpuNo) → o ≡ Some p → P p
some_of P None h p k = absurd cc
some_of P (Some q) h p k = let e : q ≡ p = cc in subst P e h

-- a walk finds the twins of one turn more, where two next turns of one processor are twins too
pub more_paired : (list walk more : List Turn) (old mid new : List Bool) (t : Turn) (last next : Option CpuNo) (b : Bool) →
    IsPaired list walk old last → walk ≡ t ∷ more → length mid ≡ length old → StayTwins (IsSameTurn t) old mid → IfSome next (λ p. t ≡ Next p) →
    (b ≡ true → AreSame last next) → new ≡ mid ++ b ∷ [] → IsPaired list more new next
more_paired list walk more old mid new t last next b h k m stay is_next same e =
    let n = length old in
    let few = h.few in
    let left = length-drop n list in
    let rest : length walk ≡ length (drop n list) = ap length h.rest in
    let some : length walk ≡ suc (length more) = ap length k in
    let under : n < length list = omega (arith, left, rest, some, few) in
    let w : IsWalked list n t more = walked list n walk more true t h.rest under (λ f. k) (λ f. absurd cc) in
    let one : length (mid ++ b ∷ []) ≡ length mid + 1 = length-append mid (b ∷ []) in
    let long : length new ≡ n + 1 = ap length e ∙ (one ∙ ap (λ (i : ℕ). i + 1) m) in
    let next_is : (p : CpuNo) → next ≡ Some p → t ≡ Next p = some_of (λ p. t ≡ Next p) next is_next in
    let taken : take (length new) list ≡ take n list ++ t ∷ [] = ap (λ (i : ℕ). take i list) long ∙ w.taken in
    record {
      rest = w.rest_is ∙ ap (λ (i : ℕ). drop i list) (sym long);
      few = omega (arith, long, under);
      twins_are = subst (λ (ys : List Turn). AreTwins ys new) (sym taken) (subst (λ (v : List Bool). AreTwins (take n list ++ t ∷ []) v) (sym e)
          (more_twins (take n list) old mid t last next b h.twins_are w.length_is m stay h.ends next_is same));
      ends = λ p f. (take n list, taken ∙ ap (λ (u : Turn). take n list ++ u ∷ []) (next_is p f));
    }

-- after a walk over the whole list each place has its flag, and the flags that are set are of twins
pub all_paired : (list walk : List Turn) (twins : List Bool) (last : Option CpuNo) → IsPaired list walk twins last → walk ≡ [] →
    (length twins ≡ length list) × AreTwins list twins
all_paired list walk twins last h k =
    let few = h.few in
    let left = length-drop (length twins) list in
    let rest : length walk ≡ length (drop (length twins) list) = ap length h.rest in
    let none : length walk ≡ 0 = ap length k in
    let long : length list ≤ length twins = omega (arith, left, rest, none) in
    (omega (arith, few, long), subst (λ (ys : List Turn). AreTwins ys twins) (take_all (length twins) list long) h.twins_are)

-- a twin of a place that isn't spare isn't either
pub twin_fails : (s : Script) (limit : ℕ) (g : Goal) (list : List Turn) (twins : List Bool) (count at : ℕ) → AreTwins list twins → count ≡ suc at →
    IsTwin twins count → is_spare s limit g list count ≡ false → is_spare s limit g list at ≡ false
twin_fails s limit g list twins count at h e k f =
    let next : count ≡ at + 1 = omega (arith, e) in
    ap (λ (ys : List Turn). is_delivered g (traced s limit ys)) (h at (subst (IsTwin twins) next k))
    ∙ (ap (is_spare s limit g list) (sym next) ∙ f)
