-- The names of the load are names, and all differ.
use Rattle.std.proofs.Common.{Bool, List, None, [], append_assoc, false, arith, length, lit<, lit≤, refl, rules, subst, suc, sym, true, zero, ℕ, ◌++◌, ◌+◌, ◌<◌}
use Rattle.std.proofs.Common.{◌∷◌, ◌≡◌, ◌≤◌}
use Rattle.std.proofs.lemmas.Bool.{and_from, and_parts, le-leb, ne_eqb}
use Rattle.std.proofs.lemmas.Fmt.{digits_decimal, length-decimal-le}
use Rattle.std.proofs.lemmas.List.{append-nil}
use Rattle.std.proofs.lemmas.Str.Parse.{IsNumeralModel, numerals_by_fold}
use Rattle.std.specs.Char.{is_ascii_digit, is_ascii_lowercase}
use Rattle.std.specs.List.{list_all, position_from}
use Rattle.std.specs.Prelude.{decimal, nat_le, not, ◌&&◌, ◌||◌, ◌*◌, ◌-◌, ◌==◌}
use Rattle.std.specs.Str.{all_ascii_digits, bytes_eq}
use Rattle.nt_event.specs.Lists.{table_from}
use Rattle.nt_line.specs.NameLists.{AreNew, all_names}
use Rattle.nt_line.specs.Places.{place}
use Rattle.nt_load.proofs.Spelled.{in_neither, other_number, place_beside}
use Rattle.nt_load.specs.Load.{load_names, object_names, spelled, spelled_names, thing_names}
use Rattle.nt_text.specs.Fields.{is_name, is_name_byte}

abbrev pub read_on : ℕ → List ℕ → ℕ
read_on n [] = n
read_on n (c ∷ cs) = read_on (10 * n + (c - 48)) cs

-- decimal digits and the value read from them are numerals, so that different numbers are spelled differently
own : IsNumeralModel (λ ds. all_ascii_digits ds ≡ true) (read_on 0)
own = numerals_by_fold _ (search rules) read_on (search rules)

-- decimal digits are bytes that a name may have
digits_named : (ds : List ℕ) → all_ascii_digits ds ≡ true → list_all is_name_byte ds ≡ true
digits_named [] e = refl
digits_named (c ∷ cs) e =
    let p = and_parts (is_ascii_digit c) (all_ascii_digits cs) e in
    and_from (is_name_byte c) (list_all is_name_byte cs) (middle (is_ascii_lowercase c) (is_ascii_digit c) (c == 95) p.0)
    (digits_named cs p.1)
  where
    middle : (a b d : Bool) → b ≡ true → (a || b || d) ≡ true
    middle true b d e = refl
    middle false b d e = rw e refl

-- a lowercase letter and a number below 100
pub spelled_named : (letter i : ℕ) → is_name_byte letter ≡ true → i < 100 → is_name (spelled (letter ∷ []) i) ≡ true
spelled_named letter i e l =
    let few : length (decimal i) ≤ 2 = length-decimal-le 2 i (lit< tt) l (omega arith) in
    let digits : list_all is_name_byte (decimal i) ≡ true = digits_named (decimal i) (digits_decimal own i (omega arith)) in
    let short : nat_le (length (letter ∷ decimal i)) 16 ≡ true = le-leb _ _ (omega arith) in
    let some : (length (letter ∷ decimal i) == 0) ≡ false = ne_eqb (length (letter ∷ decimal i)) 0 (λ z. omega (arith, z)) in
    rw (some, short, e, digits) refl

-- lists of new names one behind the other
pub new_both : (before xs ys : List (List ℕ)) → AreNew before xs → AreNew (before ++ xs) ys → AreNew before (xs ++ ys)
new_both before [] ys a b = subst (λ (zs : List (List ℕ)). AreNew zs ys) (append-nil before) b
new_both before (x ∷ xs) ys a b =
    (a.0, a.1, new_both (before ++ x ∷ []) xs ys a.2 (subst (λ (zs : List (List ℕ)). AreNew zs ys) (sym (append_assoc before (x ∷ []) xs)) b))

-- names of one letter and numbers in a row below 100 are new names, if none of them was there before
new_from : (before : List (List ℕ)) (letter k n : ℕ) → is_name_byte letter ≡ true → k + n ≤ 100 →
    ((i : ℕ) → i < n → place (spelled (letter ∷ []) (k + i)) before ≡ None) → AreNew before (table_from k n (spelled (letter ∷ [])))
unfolding table_from
new_from before letter k zero e l free = tt
new_from before letter k (suc n) e l free =
    (spelled_named letter k e (omega arith), first, new_from (before ++ spelled (letter ∷ []) k ∷ []) letter (suc k) n e (omega arith) rest)
  where
    first : place (spelled (letter ∷ []) k) before ≡ None
    first = let z : k + 0 ≡ k = omega arith in rw z at (free 0 (omega arith))

    nowhere : (i : ℕ) → i < n → (at : ℕ) → position_from (bytes_eq (spelled (letter ∷ []) (suc k + i))) at (spelled (letter ∷ []) k ∷ []) ≡ None
    nowhere i m at =
        let other : bytes_eq (spelled (letter ∷ []) (suc k + i)) (spelled (letter ∷ []) k) ≡ false =
        other_number (letter ∷ []) k (suc k + i) (omega arith) (omega arith) in
        rw other refl

    rest : (i : ℕ) → i < n → place (spelled (letter ∷ []) (suc k + i)) (before ++ spelled (letter ∷ []) k ∷ []) ≡ None
    rest i m =
        let z : k + suc i ≡ suc k + i = omega arith in
        let free_here : place (spelled (letter ∷ []) (suc k + i)) before ≡ None = rw z at (free (suc i) (omega arith)) in
        in_neither (spelled (letter ∷ []) (suc k + i)) before (spelled (letter ∷ []) k ∷ []) free_here (nowhere i m)

-- up to 100 names of a letter and a number are new names if none of that letter was there before
pub new_letter : (before : List (List ℕ)) (letter n : ℕ) → is_name_byte letter ≡ true → n ≤ 100 →
    ((i : ℕ) → place (letter ∷ decimal i) before ≡ None) → AreNew before (spelled_names (letter ∷ []) n)
new_letter before letter n e l free = new_from before letter 0 n e (omega arith) (λ i m. free (0 + i))

-- ---- runs of names, one after another

-- names that all begin with one letter
record Run : Type 0 where
  pub letter : ℕ
  pub names : List (List ℕ)
  pub new : (before : List (List ℕ)) → ((rest : List ℕ) → place (letter ∷ rest) before ≡ None) → AreNew before names
  pub beside : (before : List (List ℕ)) (head : ℕ) (rest : List ℕ) → (head == letter) ≡ false → place (head ∷ rest) before ≡ None →
      place (head ∷ rest) (before ++ names) ≡ None

-- the numbered names of a letter are a run
abbrev numbered : (letter count : ℕ) → is_name_byte letter ≡ true → count ≤ 100 → Run
numbered letter count e l = record {
  letter = letter;
  names = spelled_names (letter ∷ []) count;
  new = λ before free. new_letter before letter count e l (λ i. free (decimal i));
  beside = λ before head rest other free. place_beside before letter count head rest other free;
}

-- one name is a run
abbrev one_name : (letter : ℕ) (more : List ℕ) → is_name (letter ∷ more) ≡ true → Run
one_name letter more named = record {
  letter = letter;
  names = (letter ∷ more) ∷ [];
  new = λ before free. (named, free more, tt);
  beside = λ before head rest other free. in_neither (head ∷ rest) before ((letter ∷ more) ∷ []) free (nowhere head rest other);
}
  where
    nowhere : (head : ℕ) (rest : List ℕ) → (head == letter) ≡ false → (at : ℕ) →
        position_from (bytes_eq (head ∷ rest)) at ((letter ∷ more) ∷ []) ≡ None
    nowhere head rest other at = let differ : bytes_eq (head ∷ rest) (letter ∷ more) ≡ false = rw other refl in rw differ refl

-- the names of runs, run after run
abbrev names_of : List Run → List (List ℕ)
names_of [] = []
names_of (run ∷ runs) = run.names ++ names_of runs

-- no run has the letter
abbrev have_other : ℕ → List Run → Bool
have_other letter [] = true
have_other letter (run ∷ runs) = not (run.letter == letter) && have_other letter runs

-- no two runs have the same letter
abbrev are_apart : List Run → Bool
are_apart [] = true
are_apart (run ∷ runs) = have_other run.letter runs && are_apart runs

-- no name before begins with the letter of a run
abbrev AreFree : List (List ℕ) → List Run → Type 0
AreFree before [] = Unit {0}
AreFree before (run ∷ runs) = ((rest : List ℕ) → place (run.letter ∷ rest) before ≡ None) × AreFree before runs

-- nor where a run of another letter comes after them
still_free : (before : List (List ℕ)) (run : Run) (runs : List Run) → have_other run.letter runs ≡ true → AreFree before runs →
    AreFree (before ++ run.names) runs
still_free before run [] other free = tt
still_free before run (next ∷ runs) other free =
    let both = and_parts (not (next.letter == run.letter)) (have_other run.letter runs) other in
    ((λ rest. run.beside before next.letter rest (not_so (next.letter == run.letter) both.0) (free.0 rest)), still_free before run runs both.1 free.1)
  where
    not_so : (b : Bool) → not b ≡ true → b ≡ false
    not_so true e = absurd cc
    not_so false e = refl

-- runs of different letters are new names where their letters are free
new_runs : (before : List (List ℕ)) (runs : List Run) → are_apart runs ≡ true → AreFree before runs → AreNew before (names_of runs)
new_runs before [] apart free = tt
new_runs before (run ∷ runs) apart free =
    let both = and_parts (have_other run.letter runs) (are_apart runs) apart in
    new_both before run.names (names_of runs) (run.new before free.0)
    (new_runs (before ++ run.names) runs both.1 (still_free before run runs both.0 free.1))

-- each letter is free at the start
free_at_start : (runs : List Run) → AreFree [] runs
free_at_start [] = tt
free_at_start (run ∷ runs) = ((λ rest. refl), free_at_start runs)

-- the runs of the load: d, k, t, s, n, u, idle and b
abbrev load_runs : List Run
load_runs =
    numbered 100 32 refl (lit≤ tt)
    ∷ numbered 107 8 refl (lit≤ tt)
    ∷ numbered 116 32 refl (lit≤ tt)
    ∷ numbered 115 32 refl (lit≤ tt)
    ∷ numbered 110 32 refl (lit≤ tt)
    ∷ numbered 117 32 refl (lit≤ tt)
    ∷ one_name 105 (100 ∷ 108 ∷ 101 ∷ []) refl
    ∷ numbered 98 32 refl (lit≤ tt)
    ∷ []

-- all names of the load are well formed and differ
pub load_names_differ : AreNew [] (all_names load_names)
unfolding load_names object_names thing_names
load_names_differ = subst (AreNew []) same (new_runs [] load_runs refl (free_at_start load_runs))
  where
    same : names_of load_runs ≡ all_names load_names
    same = simp (append_assoc, append-nil)
