-- Known bytes that grow, or are taken, in two steps.
use Rattle.std.proofs.Common.{◌≡◌, ◌∙◌, ℕ, ◌+◌, List, ◌++◌, Option, None, Some, take, drop, refl, ap, sym, append_assoc}
use Rattle.std.proofs.Math.Seq.{take-add}
use Rattle.std.specs.Io.KnownBytes.{append_known, prepend_known}

-- adding bytes to the known ones and then more is adding both at once
pub append_known-append : (known : Option (List ℕ)) (xs ys : List ℕ) → append_known (append_known known xs) ys ≡ append_known known (xs ++ ys)
append_known-append None xs ys = refl
append_known-append (Some known) xs ys = ap Some (append_assoc known xs ys)

-- putting bytes in front of the known ones and then others before them is putting both there at once
pub prepend_known-append : (known : Option (List ℕ)) (xs ys : List ℕ) → prepend_known xs (prepend_known ys known) ≡ prepend_known (xs ++ ys) known
prepend_known-append None xs ys = refl
prepend_known-append (Some known) xs ys = ap Some (sym (append_assoc xs ys known))

-- the first n bytes were added, and then the next m ones
pub append_known-take : (known : Option (List ℕ)) (bytes : List ℕ) (n m : ℕ) → append_known (append_known known (take n bytes)) (take m (drop n bytes))
    ≡ append_known known (take (n + m) bytes)
append_known-take known bytes n m =
    append_known-append known (take n bytes) (take m (drop n bytes)) ∙ ap (λ xs. append_known known xs) (sym (take-add n m bytes))

-- the first n bytes were taken, and then the next m ones
pub prepend_known-take : (known : Option (List ℕ)) (bytes : List ℕ) (n m : ℕ) → prepend_known (take n bytes) (prepend_known (take m (drop n bytes)) known)
    ≡ prepend_known (take (n + m) bytes) known
prepend_known-take known bytes n m =
    prepend_known-append known (take n bytes) (take m (drop n bytes)) ∙ ap (λ xs. prepend_known xs known) (sym (take-add n m bytes))

-- the first n bytes of the buffer were taken, and then the next m ones behind them
pub taken-behind : (before now next : Option (List ℕ)) (old new : List ℕ) (n m : ℕ) → before ≡ prepend_known (take n old) now → take n new ≡ take n old → now
    ≡ prepend_known (take m (drop n new)) next → before ≡ prepend_known (take (n + m) new) next
taken-behind before now next old new n m first kept then =
    first ∙ ap (λ xs. prepend_known xs now) (sym kept) ∙ ap (λ known. prepend_known (take n new) known) then ∙ prepend_known-take next new n m
