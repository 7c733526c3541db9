-- The last of some words.
use Rattle.std.proofs.Common.{arith, ap, ◌∙◌, sym}
use Rattle.std.specs.Prelude.{List, [], ◌∷◌, Some, get_or, length, map, ℕ, ◌≡◌, ◌≤◌, ◌-◌, ◌<◌}
use Rattle.std.proofs.lemmas.List.{length-map, get_or-map}
use Rattle.nt_lab_words.specs.Words.{last_of}

-- what the last place has is the last word
pub last_is : {A : Type 0} (bytes : A → List ℕ) (words : List A) (x : A) → 1 ≤ length words → x ≡ get_or words (length words - 1) x →
    last_of (map bytes words) ≡ Some (bytes x)
last_is bytes [] x some is = absurd (omega (arith, some))
last_is bytes (w ∷ more) x some is =
    let count : length (map bytes more) ≡ length more = length-map more bytes in
    let low : length more < length (w ∷ more) = omega (arith) in
    let there : get_or (map bytes (w ∷ more)) (length more) [] ≡ bytes (get_or (w ∷ more) (length more) x) =
    get_or-map bytes (w ∷ more) (length more) x [] low in
    let place : length (w ∷ more) - 1 ≡ length more = omega (arith) in
    let last : x ≡ get_or (w ∷ more) (length more) x = is ∙ ap (λ (n : ℕ). get_or (w ∷ more) n x) place in
    ap (λ (n : ℕ). Some (get_or (map bytes (w ∷ more)) n [])) count ∙ ap (λ (b : List ℕ). Some b) (there ∙ ap bytes (sym last))
