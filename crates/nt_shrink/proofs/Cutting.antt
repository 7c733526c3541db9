-- A list without one place, turn after turn.
use Rattle.std.proofs.Common.{ap, arith, sym, ◌∙◌}
use Rattle.std.proofs.Math.ListN.{drop_of_length-le}
use Rattle.std.proofs.lemmas.List.{append-nil, append_assoc, drop-append-le, length-append, length-map, length-take-le, map-append, take-append-le, take_all}
use Rattle.std.proofs.lemmas.List.{drop_more, length-drop, take_more}
use Rattle.std.specs.Prelude.{Bool, List, [], drop, false, get_or, length, map, refl, suc, take, true, ℕ, ◌++◌, ◌+◌, ◌<◌, ◌∷◌, ◌≡◌, ◌≤◌}
use Rattle.nt_event.specs.declared.events.Turn.{Turn}
use Rattle.nt_shrink.specs.Shorter.{turn_without, without}

-- ---- one more turn of the list

-- a list without its last place is what was taken before that place
both : (at : ℕ) (xs ys : List Turn) → take at xs ≡ ys → drop (at + 1) xs ≡ [] → without at xs ≡ ys
both at xs ys h k =
    ap (λ (zs : List Turn). take at xs ++ map (turn_without at) zs) k ∙ (append-nil (take at xs) ∙ h)

-- before the place
pub whole_before : (at : ℕ) (xs : List Turn) → length xs ≤ at → without at xs ≡ xs
whole_before at xs h = both at xs xs (take_all _ xs h) (drop_of_length-le xs (omega (arith, h)))

-- a turn added to a list that ends before the place to leave out is kept as it is
pub put_before : (at : ℕ) (xs : List Turn) (t : Turn) → length xs < at → without at (xs ++ t ∷ []) ≡ without at xs ++ t ∷ []
put_before at xs t h =
    let one : length (xs ++ t ∷ []) ≡ length xs + 1 = length-append xs (t ∷ []) in
    whole_before at (xs ++ t ∷ []) (omega (arith, h, one))
    ∙ ap (λ (ys : List Turn). ys ++ t ∷ []) (sym (whole_before at xs (omega (arith, h))))

-- at the place
pub put_here : (at : ℕ) (xs : List Turn) (t : Turn) → length xs ≡ at → without at (xs ++ t ∷ []) ≡ without at xs
put_here at xs t h =
    let one : length (xs ++ t ∷ []) ≡ length xs + 1 = length-append xs (t ∷ []) in
    both at (xs ++ t ∷ []) xs (take-append-le at xs (t ∷ []) (omega (arith, h)) ∙ take_all _ xs (omega (arith, h)))
    (drop_of_length-le (xs ++ t ∷ []) (omega (arith, h, one)))
    ∙ sym (whole_before at xs (omega (arith, h)))

-- after the place
pub put_after : (at : ℕ) (xs : List Turn) (t : Turn) → at < length xs →
    without at (xs ++ t ∷ []) ≡ without at xs ++ turn_without at t ∷ []
put_after at xs t h =
    ap (λ (ys : List Turn). ys ++ map (turn_without at) (drop (at + 1) (xs ++ t ∷ []))) (take-append-le at xs (t ∷ []) (omega (arith, h)))
    ∙ (ap (λ (ys : List Turn). take at xs ++ map (turn_without at) ys) (drop-append-le (at + 1) xs (t ∷ []) (omega (arith, h)))
    ∙ (ap (λ (ys : List Turn). take at xs ++ ys) (map-append (turn_without at) (drop (at + 1) xs) (t ∷ []))
    ∙ sym (append_assoc (take at xs) (map (turn_without at) (drop (at + 1) xs)) (turn_without at t ∷ []))))

-- ---- a walk over the list

pub record IsWalked (xs : List Turn) (n : ℕ) (t : Turn) (rest : List Turn) : Type 0 where
  pub rest_is : rest ≡ drop (n + 1) xs
  pub taken : take (n + 1) xs ≡ take n xs ++ t ∷ []
  pub length_is : length (take n xs) ≡ n

-- lists that are equal have equal first turns and equal rests
first_same : (t u : Turn) (xs ys : List Turn) → t ∷ xs ≡ u ∷ ys → (t ≡ u) × (xs ≡ ys)
first_same t u xs ys h = (cc, cc)

-- a list with a first turn is not empty
never_empty : {A : Type 0} (t : Turn) (xs ys : List Turn) → ys ≡ t ∷ xs → ys ≡ [] → A
never_empty t xs ys h k = absurd cc

-- a walk that has reached a place inside the list holds the turn there and the turns after it
pub walked : (xs : List Turn) (n : ℕ) (w rest : List Turn) (b : Bool) (t : Turn) → w ≡ drop n xs → n < length xs → (b ≡ true → w ≡ t ∷ rest) →
    (b ≡ false → w ≡ []) → IsWalked xs n t rest
walked xs n w rest false t h l some none = never_empty (get_or xs n t) (drop (n + 1) xs) w (h ∙ drop_more xs n t l) (none refl)
walked xs n w rest true t h l some none =
    let same = first_same t (get_or xs n t) rest (drop (n + 1) xs) (sym (some refl) ∙ (h ∙ drop_more xs n t l)) in
    record {
      rest_is = same.1;
      taken = take_more xs n t l ∙ ap (λ (u : Turn). take n xs ++ u ∷ []) (sym same.0);
      length_is = length-take-le n xs (omega (arith, l));
    }

-- the walk keeps a turn before the place that is left out as it is
pub step_before : (at n : ℕ) (xs rest : List Turn) (t : Turn) → IsWalked xs n t rest → n < at →
    without at (take n xs) ++ t ∷ [] ≡ without at (take (n + 1) xs)
step_before at n xs rest t w h =
    let l = w.length_is in
    sym (ap (without at) w.taken ∙ put_before at (take n xs) t (omega (arith, h, l)))

-- the walk drops the turn at the place that is left out
pub step_here : (at n : ℕ) (xs rest : List Turn) (t : Turn) → IsWalked xs n t rest → n ≡ at →
    without at (take n xs) ≡ without at (take (n + 1) xs)
step_here at n xs rest t w h = sym (ap (without at) w.taken ∙ put_here at (take n xs) t (w.length_is ∙ h))

-- the walk keeps a turn after the place that is left out, with its looks' values moved
pub step_after : (at n : ℕ) (xs rest : List Turn) (t : Turn) → IsWalked xs n t rest → at < n →
    without at (take n xs) ++ turn_without at t ∷ [] ≡ without at (take (n + 1) xs)
step_after at n xs rest t w h =
    let l = w.length_is in
    sym (ap (without at) w.taken ∙ put_after at (take n xs) t (omega (arith, h, l)))

-- ---- how many turns are left

-- a list without one of its places is one shorter
pub one_less : (at : ℕ) (xs : List Turn) → at < length xs → suc (length (without at xs)) ≡ length xs
one_less at xs h =
    let a : length (without at xs) ≡ length (take at xs) + length (map (turn_without at) (drop (at + 1) xs)) =
    length-append (take at xs) (map (turn_without at) (drop (at + 1) xs)) in
    let b : length (take at xs) ≡ at = length-take-le at xs (omega (arith, h)) in
    let c : length (map (turn_without at) (drop (at + 1) xs)) ≡ length (drop (at + 1) xs) = length-map (drop (at + 1) xs) (turn_without at) in
    let d = length-drop (at + 1) xs in
    omega (arith, a, b, c, d, h)
