-- A change of the last element is one of the head of the reversed list.
use Rattle.std.proofs.Common.{◌≡◌, ℕ, ◌-◌, ◌<◌, List, [], ◌∷◌, ◌++◌, length, reverse, take, refl, ◌∙◌, ap, subst, arith, get_or, length-append, set}
use Rattle.std.proofs.lemmas.List.{get_or-reverse, length-reverse, reverse-append, reverse-reverse}
use Rattle.std.proofs.Math.Seq.{set-append_seam, take-append_seam}
use Rattle.nt_event.specs.Frame.{Frame}
use Rattle.nt_event.specs.Frames.{at_head}
use Rattle.nt_event.specs.Lists.{tail_of}

-- writing the last element of a list and reversing gives the new element and the rest reversed
set_at_seam : (us : List Frame) (y f : Frame) → reverse (set (us ++ y ∷ []) (length (us ++ y ∷ []) - 1) f) ≡ f ∷ reverse us
set_at_seam us y f =
    let n : length (us ++ y ∷ []) - 1 ≡ length us = omega (arith, length-append us (y ∷ [])) in
    rw (n, set-append_seam us y [] f, reverse-append)

-- the last element of a reversed list is the head of the list
last_at_end : (y : Frame) (zs : List Frame) (d : Frame) → get_or (reverse (y ∷ zs)) (length (reverse (y ∷ zs)) - 1) d ≡ y
last_at_end y zs d =
    let n : length (y ∷ zs) - 1 - (length (y ∷ zs) - 1) ≡ 0 = omega arith in
    rw (length-reverse (y ∷ zs), get_or-reverse (y ∷ zs) (length (y ∷ zs) - 1) d (omega arith), n) refl

-- changing the last element of a reversed list and reversing is changing the head of the list
change_at_end : (g : Frame → Frame) (ys : List Frame) (f : Frame) → 0 < length (reverse ys) → f ≡ get_or (reverse ys) (length (reverse ys) - 1) f →
    reverse (set (reverse ys) (length (reverse ys) - 1) (g f)) ≡ at_head g ys
change_at_end g [] f h e = absurd (omega arith)
change_at_end g (y ∷ zs) f h e =
    rw (reverse-append (y ∷ []) zs) (set_at_seam (reverse zs) y (g f) ∙ ap (λ (l : List Frame). g f ∷ l) (reverse-reverse zs))
    ∙ ap (λ (x : Frame). g x ∷ zs) (e ∙ last_at_end y zs f)

-- at a length under another name, as that of a `Vec`
pub change_at_last : (g : Frame → Frame) (xs : List Frame) (n : ℕ) (f : Frame) → n ≡ length xs → 0 < n → f ≡ get_or xs (n - 1) f →
    reverse (set xs (n - 1) (g f)) ≡ at_head g (reverse xs)
change_at_last g xs n f e h i =
    rw e (subst (λ (l : List Frame). 0 < length l → f ≡ get_or l (length l - 1) f → reverse (set l (length l - 1) (g f)) ≡ at_head g (reverse xs))
    (reverse-reverse xs) (change_at_end g (reverse xs) f) (rw e at h) (rw e at i))

-- ---- all but the last element are the tail of the reversed list

-- dropping the last element of a reversed list and reversing gives the tail of the list
front_at_end : (ys : List Frame) → reverse (take (length (reverse ys) - 1) (reverse ys)) ≡ tail_of ys
front_at_end [] = refl
front_at_end (y ∷ zs) =
    let n : length (reverse zs ++ y ∷ []) - 1 ≡ length (reverse zs) = omega (arith, length-append (reverse zs) (y ∷ [])) in
    rw (reverse-append (y ∷ []) zs, n, take-append_seam (reverse zs) (y ∷ [])) (reverse-reverse zs)

-- a list without its last element, reversed, is the reversed list without its first
pub front_at_last : (xs : List Frame) (n : ℕ) → n ≡ length xs → reverse (take (n - 1) xs) ≡ tail_of (reverse xs)
front_at_last xs n e =
    rw e (subst (λ (l : List Frame). reverse (take (length l - 1) l) ≡ tail_of (reverse xs)) (reverse-reverse xs) (front_at_end (reverse xs)))
