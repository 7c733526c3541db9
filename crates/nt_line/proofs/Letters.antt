-- A keyword is found among those with its first letter.
use Rattle.std.proofs.Common.{◌≡◌, ℕ, Bool, true, false, cond, List, [], ◌∷◌, Some, refl, sym, ap, ◌∙◌, get_or, length, ◌≤◌, arith}
use Rattle.std.specs.Prelude.{filter, find, ◌==◌, ◌&&◌}
use Rattle.std.specs.Str.{bytes_eq}
use Rattle.std.proofs.lemmas.Bool.{cond-false, false_from_ne_true}
use Rattle.nt_line.specs.declared.keywords.Keyword.{Keyword}
use Rattle.nt_line.specs.declared.keywords.TheConstants.{KEYWORDS}
use Rattle.nt_line.specs.Keywords.{text_of}
use Rattle.nt_line.specs.Letters.{begins_with}

-- what a test lets through is found among what a wider one lets through
pub find-filter : {A : Type 0} (p q : A → Bool) → ((x : A) → p x ≡ true → q x ≡ true) → (xs : List A) → find p (filter q xs) ≡ find p xs
find-filter p q h [] = refl
find-filter p q h (x ∷ xs) = go (q x) refl (find-filter p q h xs)
  where
    go : (b : Bool) → q x ≡ b → find p (filter q xs) ≡ find p xs → find p (cond b (x ∷ filter q xs) (filter q xs)) ≡ cond (p x) (Some x) (find p xs)
    go true e more = ap (cond (p x) (Some x)) more
    go false e more = more ∙ sym (cond-false (p x) (Some x) (find p xs) (false_from_ne_true (p x) (λ t. cc (h x t, e))))

-- if two tests hold together, the first holds
first_of_both : (a b : Bool) → (a && b) ≡ true → a ≡ true
first_of_both true b e = refl
first_of_both false b e = absurd cc

-- a text that equals one with a first letter has this letter first
same_letter : (letter : ℕ) (more text : List ℕ) → bytes_eq (letter ∷ more) text ≡ true → (letter == get_or text 0 0) ≡ true
same_letter letter more [] e = absurd cc
same_letter letter more (c ∷ text) e = first_of_both _ _ e

-- a word is found among the keywords with its first letter just as among all keywords of a list
pub among_letter : (letter : ℕ) (more : List ℕ) (keywords : List Keyword) →
    find (λ w. bytes_eq (letter ∷ more) (text_of w)) (filter (begins_with letter) keywords) ≡ find (λ w. bytes_eq (letter ∷ more) (text_of w)) keywords
among_letter letter more keywords =
    find-filter (λ w. bytes_eq (letter ∷ more) (text_of w)) (begins_with letter) (λ w. same_letter letter more (text_of w)) keywords

-- a field that is not empty is looked up the same among the keywords with its first letter
pub among_field : (field : List ℕ) (d : ℕ) → 1 ≤ length field → find (λ w. bytes_eq field (text_of w)) (filter (begins_with (get_or field 0 d)) KEYWORDS)
    ≡ find (λ w. bytes_eq field (text_of w)) KEYWORDS
among_field [] d h = absurd (omega arith)
among_field (letter ∷ more) d h = among_letter letter more KEYWORDS
