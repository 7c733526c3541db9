-- The first of a kind is the pending insert of least number.
use Rattle.std.proofs.Common.{◌≡◌, ◌≢◌, ◌++◌, ◌∷◌, ◌<◌, ◌≤◌, ◌⊎◌, Bool, List, None, Option, Some, [], ap, arith, cond, false, inl, inr, not, refl, reverse}
use Rattle.std.proofs.Common.{subst, sym, true, ◌∙◌, ℕ}
use Rattle.std.proofs.lemmas.Bool.{false≢true, true≢false}
use Rattle.std.proofs.lemmas.List.Elements.{All-cons, recursion_from_All}
use Rattle.std.proofs.lemmas.List.Folds.{find-append}
use Rattle.std.proofs.lemmas.List.{reverse-append}
use Rattle.std.specs.List.{AllByRecursion, filter, find}
use Rattle.std.specs.Option.{option_or}
use Rattle.std.specs.Prelude.{MatchOption}
use Rattle.nt_apc.proofs.Firsts.{kind-same}
use Rattle.nt_apc.specs.Laws.{FirstsAreLeast, IsLeast, IsPending}
use Rattle.nt_apc.specs.Runs.{Act, Closes, Inserts, NumbersBelow, NumbersRise, Uses, queues_of, uses}
use Rattle.nt_event.specs.Apcs.{is_of_apc, is_of_kind, same_kind}
use Rattle.nt_event.specs.declared.commands.ApcKind.{ApcKind}
use Rattle.nt_event.specs.declared.commands.ApcKind.TheVariants.{Normal as NormalApc, Special as SpecialApc, User as UserApc}
use Rattle.nt_event.specs.declared.inserts.Pick.{Pick}

-- ---- membership

abbrev In : Pick → List Pick → Type 0
In x [] = ⊥
In x (y ∷ ys) = (y ≡ x) ⊎ In x ys

-- an insert that a filter keeps passes the test and is in the list
in-filter : (p : Pick → Bool) (xs : List Pick) (x : Pick) → In x (filter p xs) → (p x ≡ true) × In x xs
in-filter p [] x m = absurd m
in-filter p (y ∷ ys) x m = go (p y) refl m (in-filter p ys x) where
  go : (b : Bool) → p y ≡ b → In x (cond b (y ∷ filter p ys) (filter p ys)) → (In x (filter p ys) → (p x ≡ true) × In x ys) → (p x ≡ true) × In x (y ∷ ys)
  go true e (inl same) rest = (sym (ap p same) ∙ e, inl same)
  go true e (inr m) rest = ((rest m).0, inr (rest m).1)
  go false e m rest = ((rest m).0, inr (rest m).1)

-- an insert of the list that passes the test is in the filtered list
filter-in : (p : Pick → Bool) (xs : List Pick) (x : Pick) → p x ≡ true → In x xs → In x (filter p xs)
filter-in p [] x e m = m
filter-in p (y ∷ ys) x e m = go (p y) refl m (filter-in p ys x e) where
  go : (b : Bool) → p y ≡ b → In x (y ∷ ys) → (In x ys → In x (filter p ys)) → In x (cond b (y ∷ filter p ys) (filter p ys))
  go true f (inl same) rest = inl same
  go true f (inr m) rest = inr (rest m)
  go false f (inl same) rest = absurd (false≢true (sym f ∙ ap p same ∙ e))
  go false f (inr m) rest = rest m

-- ---- what is pending

-- a truth value whose negation is true is false
not-true-false : (b : Bool) → not b ≡ true → b ≡ false
not-true-false true e = absurd (false≢true e)
not-true-false false e = refl

-- an insert stays pending after an act that doesn't use its object
later-act : (x : Pick) (act : Act) (past : List Act) → uses x.apc act ≡ false → IsPending x past → IsPending x (act ∷ past)
later-act x act past u h = record {
  later = act ∷ h.later;
  earlier = h.earlier;
  made = ap (λ (acts : List Act). act ∷ acts) h.made;
  unused = All-cons (λ a. uses x.apc a ≡ false) act h.later u h.unused;
}

-- each insert in a thread's list was made and not used up since
pub pending-from_in : (acts : List Act) (x : Pick) → In x (queues_of acts).pending → IsPending x acts
pending-from_in [] x m = absurd m
pending-from_in (Inserts y ∷ past) x (inl same) = record {
  later = [];
  earlier = past;
  made = ap (λ (z : Pick). Inserts z ∷ past) same;
  unused = λ i d h. absurd (omega arith);
}
pending-from_in (Inserts y ∷ past) x (inr m) = later-act x (Inserts y) past refl (pending-from_in past x m)
pending-from_in (Uses a ∷ past) x m =
    let kept : (not (is_of_apc a x) ≡ true) × In x (queues_of past).pending = in-filter (λ z. not (is_of_apc a z)) (queues_of past).pending x m in
    later-act x (Uses a) past (not-true-false _ kept.0) (pending-from_in past x kept.1)
pending-from_in (Closes ∷ past) x m = later-act x Closes past refl (pending-from_in past x m)

-- the same, by the acts after the insert
in-later : (later earlier : List Act) (x : Pick) → AllByRecursion (λ act. uses x.apc act ≡ false) later →
    In x (queues_of (later ++ Inserts x ∷ earlier)).pending
in-later [] earlier x u = inl refl
in-later (Inserts y ∷ later) earlier x u = inr (in-later later earlier x u.1)
in-later (Uses a ∷ later) earlier x u =
    filter-in (λ z. not (is_of_apc a z)) (queues_of (later ++ Inserts x ∷ earlier)).pending x (ap not u.0) (in-later later earlier x u.1)
in-later (Closes ∷ later) earlier x u = in-later later earlier x u.1

-- each insert that was made and not used up since is in the thread's list
pub in-from_pending : (acts : List Act) (x : Pick) → IsPending x acts → In x (queues_of acts).pending
in-from_pending acts x h =
    subst (λ (a : List Act). In x (queues_of a).pending) (sym h.made) (in-later h.later h.earlier x
    (recursion_from_All (λ act. uses x.apc act ≡ false) h.later h.unused))

-- ---- numbers

-- each insert has a lesser number than those after it
abbrev Falling : List Pick → Type 0
Falling [] = Unit {0}
Falling (x ∷ xs) = AllByRecursion (λ y. y.number < x.number) xs × Falling xs

-- what holds of each insert of a list holds of each that a filter keeps
each-filter : (P : Pick → Type 0) (p : Pick → Bool) (xs : List Pick) → AllByRecursion P xs → AllByRecursion P (filter p xs)
each-filter P p [] h = tt
each-filter P p (x ∷ xs) h = go (p x) (each-filter P p xs h.1) where
  go : (b : Bool) → AllByRecursion P (filter p xs) → AllByRecursion P (cond b (x ∷ filter p xs) (filter p xs))
  go true rest = (h.0, rest)
  go false rest = rest

-- numbers that fall along a list of inserts fall along the filtered list
falling-filter : (p : Pick → Bool) (xs : List Pick) → Falling xs → Falling (filter p xs)
falling-filter p [] h = tt
falling-filter p (x ∷ xs) h = go (p x) (falling-filter p xs h.1) where
  go : (b : Bool) → Falling (filter p xs) → Falling (cond b (x ∷ filter p xs) (filter p xs))
  go true rest = (each-filter (λ y. y.number < x.number) p xs h.0, rest)
  go false rest = rest

-- if all numbers inserted are below a bound, the pending inserts' numbers are below it
below-pending : (n : ℕ) (acts : List Act) → NumbersBelow n acts → AllByRecursion (λ y. y.number < n) (queues_of acts).pending
below-pending n [] h = tt
below-pending n (Inserts x ∷ past) h = (h.0, below-pending n past h.1)
below-pending n (Uses a ∷ past) h = each-filter (λ y. y.number < n) _ (queues_of past).pending (below-pending n past h)
below-pending n (Closes ∷ past) h = below-pending n past h

-- if the inserted numbers rise, the numbers of the pending inserts fall along the list
falling-pending : (acts : List Act) → NumbersRise acts → Falling (queues_of acts).pending
falling-pending [] h = tt
falling-pending (Inserts x ∷ past) h = (below-pending x.number past h.0, falling-pending past h.1)
falling-pending (Uses a ∷ past) h = falling-filter _ (queues_of past).pending (falling-pending past h)
falling-pending (Closes ∷ past) h = falling-pending past h

-- what holds of each insert of a list holds of one that is in it
at-in : (P : Pick → Type 0) (xs : List Pick) (x : Pick) → AllByRecursion P xs → In x xs → P x
at-in P [] x h m = absurd m
at-in P (y ∷ ys) x h (inl same) = subst P same h.0
at-in P (y ∷ ys) x h (inr m) = at-in P ys x h.1 m

-- ---- the first that passes

record IsFirst (t : Pick → Bool) (xs : List Pick) (x : Pick) : Type 0 where
  pub member : In x xs
  pub passes : t x ≡ true
  pub least : (y : Pick) → In y xs → t y ≡ true → x.number ≤ y.number

abbrev First : (Pick → Bool) → List Pick → Option Pick → Type 0
First t xs None = (y : Pick) → In y xs → t y ≡ false
First t xs (Some x) = IsFirst t xs x

-- where numbers fall, a search from the list's end finds the least number that passes, or nothing passes
first-least : (t : Pick → Bool) (xs : List Pick) → Falling xs → First t xs (find t (reverse xs))
first-least t [] h = λ y m. absurd m
first-least t (x ∷ xs) h =
    subst (λ (o : Option Pick). First t (x ∷ xs) o) (sym (ap (λ (ys : List Pick). find t ys) (reverse-append (x ∷ []) xs)
    ∙ find-append t (reverse xs) (x ∷ []))) (go (find t (reverse xs)) (t x) refl (first-least t xs h.1)) where
      go : (o : Option Pick) (b : Bool) → t x ≡ b → First t xs o → First t (x ∷ xs) (option_or o (cond b (Some x) None))
      go (Some y) b e f = record {
        member = inr f.member;
        passes = f.passes;
        least = λ z m p. elim m [
          | inl same ↦ (let here : y.number < x.number = at-in
              (λ w. w.number < x.number) xs y h.0 f.member in let at : x.number ≡ z.number = ap
              (λ (w : Pick). w.number) same in omega arith)
          | inr later ↦ f.least z later p
        ];
      }
      go None true e f = record {
        member = inl refl;
        passes = e;
        least = λ z m p. elim m [
          | inl same ↦ (let at : x.number ≡ z.number = ap (λ (w : Pick). w.number) same in omega arith)
          | inr later ↦ absurd
              (true≢false (sym p ∙ f z later))
        ];
      }
      go None false e f = λ z m. elim m [ inl same ↦ (sym (ap t same) ∙ e) | inr later ↦ f z later ]

-- an insert whose kind is the given one passes the test for this kind
of-kind : (kind : ApcKind) (x : Pick) → x.kind ≡ kind → is_of_kind kind x ≡ true
of-kind kind x e = ap (λ (k : ApcKind). same_kind kind k) e ∙ same kind where
  same : (k : ApcKind) → same_kind k k ≡ true
  same SpecialApc = refl
  same NormalApc = refl
  same UserApc = refl

-- if insert numbers rise, the first APC of a kind is the pending one of least number
pub firsts-least : FirstsAreLeast
firsts-least acts rise kind = go (find (is_of_kind kind) (reverse (queues_of acts).pending))
    (first-least (is_of_kind kind) (queues_of acts).pending (falling-pending acts rise)) where
      go : (o : Option Pick) → First (is_of_kind kind) (queues_of acts).pending o →
          MatchOption o ((y : Pick) → IsPending y acts → y.kind ≢ kind) (λ x. IsLeast kind x acts)
      go None f = λ y m k. true≢false (sym (of-kind kind y k) ∙ f y (in-from_pending acts y m))
      go (Some x) f = record {
        pending = pending-from_in acts x f.member;
        of_kind = kind-same kind x.kind f.passes;
        least = λ y m k. f.least y (in-from_pending acts y m) (of-kind kind y k);
      }
