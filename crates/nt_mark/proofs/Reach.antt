-- What is known of a word when a value more is known of it, or of another, and when two seats are put together.
use Rattle.std.proofs.Common.{◌≡◌, ◌≢◌, ℕ, List, [], ◌∷◌, ◌++◌, refl, ap, ◌∙◌, arith, max, cond, eqb, eq-eqb, ne_eqb}
use Rattle.nt_mark.specs.declared.view.Reached.{Reached}
use Rattle.nt_mark.specs.declared.view.View.{View}
use Rattle.nt_mark.specs.Views.{greatest, reached_at, reach, both}

-- the greatest value known of a word in two joined lists is the greater of the greatest in each
pub greatest_append : (w : ℕ) (xs ys : List Reached) → greatest w (xs ++ ys) ≡ max (greatest w xs) (greatest w ys)
greatest_append w [] ys = omega arith
greatest_append w (r ∷ xs) ys =
    let h = greatest_append w xs ys in
    let a : ℕ = cond (eqb r.word w) r.value 0 in
    let g : greatest w (r ∷ (xs ++ ys)) ≡ max a (greatest w (xs ++ ys)) = refl in
    let k : greatest w (r ∷ xs) ≡ max a (greatest w xs) = refl in
    omega arith

-- one more value known of a word makes what is known of it the greater of both
at_this : (w a : ℕ) (rs : List Reached) → greatest w (reached_at w a ∷ rs) ≡ max a (greatest w rs)
at_this w a rs = ap (λ b. max (cond b a 0) (greatest w rs)) (eq-eqb w w refl)

-- one more value known of another word leaves what is known of a word
at_other : (w u a : ℕ) (rs : List Reached) → u ≢ w → greatest w (reached_at u a ∷ rs) ≡ greatest w rs
at_other w u a rs ne = ap (λ b. max (cond b a 0) (greatest w rs)) (ne_eqb u w ne) ∙ (let z : max 0 (greatest w rs) ≡ greatest w rs = omega arith in z)

-- one value more, of this word or another
pub one_this : (w a : ℕ) (rs : List Reached) → greatest w (rs ++ reached_at w a ∷ []) ≡ max (greatest w rs) a
one_this w a rs = let h = greatest_append w rs (reached_at w a ∷ []) in let e = at_this w a [] in let z : greatest w [] ≡ 0 = refl in omega arith

-- a value of another word does not change the greatest value known of a word
pub one_other : (w u a : ℕ) (rs : List Reached) → u ≢ w → greatest w (rs ++ reached_at u a ∷ []) ≡ greatest w rs
one_other w u a rs ne = let h = greatest_append w rs (reached_at u a ∷ []) in let e = at_other w u a [] ne in let z : greatest w [] ≡ 0 = refl in omega arith

-- two values more: of the first word, of the second, or of another
pub two_first : (w u a : ℕ) (rs : List Reached) → u ≢ w → greatest w (rs ++ reached_at w a ∷ reached_at u a ∷ []) ≡ max (greatest w rs) a
two_first w u a rs ne = let h = greatest_append w rs (reached_at w a ∷ reached_at u a ∷ []) in let e = at_this w a (reached_at u a ∷ []) in
    let f = at_other w u a [] ne in let z : greatest w [] ≡ 0 = refl in omega arith

-- of two values added, the second being the word's own, only that one counts for the word's greatest value
pub two_second : (w u a : ℕ) (rs : List Reached) → u ≢ w → greatest w (rs ++ reached_at u a ∷ reached_at w a ∷ []) ≡ max (greatest w rs) a
two_second w u a rs ne = let h = greatest_append w rs (reached_at u a ∷ reached_at w a ∷ []) in let e = at_other w u a (reached_at w a ∷ []) ne in
    let f = at_this w a [] in let z : greatest w [] ≡ 0 = refl in omega arith

-- two values of other words do not change the greatest value known of a word
pub two_other : (w u v a : ℕ) (rs : List Reached) → u ≢ w → v ≢ w → greatest w (rs ++ reached_at u a ∷ reached_at v a ∷ []) ≡ greatest w rs
two_other w u v a rs ne ne2 = let h = greatest_append w rs (reached_at u a ∷ reached_at v a ∷ []) in let e = at_other w u a (reached_at v a ∷ []) ne in
    let f = at_other w v a [] ne2 in let z : greatest w [] ≡ 0 = refl in omega arith

-- two seats joined know of a word the greater of what each knows of it
pub reach_both : (w : ℕ) (x y : View) → reach w (both x y) ≡ max (reach w x) (reach w y)
reach_both w x y = greatest_append w x.reached y.reached
