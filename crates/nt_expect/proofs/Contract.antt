-- What the contracts say, from the two laws.
use Rattle.std.proofs.Common.{◌≡◌, ◌∙◌, ℕ, zero, suc, ◌<◌, true, List, [], ◌∷◌, length, get_or, map, Result, Ok, Err, refl, sym, ap, arith}
use Rattle.std.specs.Prelude.{IfOk}
use Rattle.std.specs.List.{AllByRecursion}
use Rattle.std.proofs.lemmas.Bool.{and_from, and_parts}
use Rattle.nt_text.specs.Lines.{line_of, lines}
use Rattle.nt_text.proofs.Rows.{lines_again, lines_takes}
use Rattle.nt_event.specs.declared.scripts.Script.{Script}
use Rattle.nt_script.specs.declared.walk.Input.{Input}
use Rattle.nt_script.specs.Sound.{IsSound}
use Rattle.nt_expect.specs.declared.expectations.Expectation.{Expectation}
use Rattle.nt_expect.specs.declared.refusals.ExpectKind.{ExpectKind}
use Rattle.nt_expect.specs.declared.refusals.ExpectRefusal.{ExpectRefusal}
use Rattle.nt_expect.specs.Expectations.{ExpectationIsPlain, IsTextOf, expectation_fits, expectation_rows, expectations_fit}
use Rattle.nt_expect.specs.Gives.{GivesRead}
use Rattle.nt_expect.specs.Reading.{reading, start, walk}
use Rattle.nt_expect.proofs.Walks.{rows_clean, walk_again, walk_takes}

-- what is read are expectations, and the bytes are their text
list_is_text : (bytes : List ℕ) (input : Input) (n : ℕ) (es : List Expectation) → IsSound input → reading input n bytes ≡ Ok es → IsTextOf bytes input es
list_is_text bytes input n es sound e =
    let t = walk_takes n input (lines bytes) es sound e in
    record { sound = sound; plain = t.1; text = lines_takes bytes (expectation_rows input.names es) t.0 }

-- the text of expectations is read as these
pub text_is_read : (bytes : List ℕ) (input : Input) (n : ℕ) (es : List Expectation) → IsTextOf bytes input es → reading input n bytes ≡ Ok es
text_is_read bytes input n es h =
    let rows = expectation_rows input.names es in
    let lines_are : lines bytes ≡ map line_of rows = ap lines h.text ∙ lines_again rows (rows_clean input h.sound es h.plain) in
    ap (walk input start n) lines_are ∙ walk_again n input es h.sound h.plain

-- what a call that does what reading says finds is a list of expectations that the bytes are the text of
pub is_found : (bytes : List ℕ) (input : Input) (n : ℕ) (r : Result (List Expectation) ExpectRefusal) → IsSound input → GivesRead r (reading input n bytes) →
    IfOk r (IsTextOf bytes input)
is_found bytes input n (Ok es) sound h = list_is_text bytes input n es sound h
is_found bytes input n (Err e) sound h = tt

-- expectations that a text may have fit the script
plain_fits : (input : Input) (es : List Expectation) → AllByRecursion (ExpectationIsPlain input) es → expectations_fit input.script es ≡ true
plain_fits input [] h = refl
plain_fits input (e ∷ es) h = and_from (expectation_fits input.script e) (expectations_fit input.script es) h.0.0 (plain_fits input es h.1)

-- what is read fits the script
pub is_fit : (bytes : List ℕ) (input : Input) (n : ℕ) (r : Result (List Expectation) ExpectRefusal) → IsSound input → GivesRead r (reading input n bytes) →
    IfOk r (λ es. expectations_fit input.script es ≡ true)
is_fit bytes input n (Ok es) sound h = plain_fits input es (list_is_text bytes input n es sound h).plain.each
is_fit bytes input n (Err e) sound h = tt

-- equal successful results hold the same expectations
ok_one : (es fs : List Expectation) → ◌≡◌ {A = Result (List Expectation) (ℕ × ExpectKind)} (Ok es) (Ok fs) → es ≡ fs
ok_one es fs e = cc

-- a text is that of one list
pub one_list : (bytes : List ℕ) (input : Input) (es fs : List Expectation) → IsTextOf bytes input es → IsTextOf bytes input fs → es ≡ fs
one_list bytes input es fs h g = ok_one es fs (sym (text_is_read bytes input 1 es h) ∙ text_is_read bytes input 1 fs g)

-- each of a list that fits
pub each_fits : (s : Script) (es : List Expectation) (i : ℕ) (e : Expectation) → i < length es → expectations_fit s es ≡ true →
    expectation_fits s (get_or es i e) ≡ true
each_fits s [] i e lt h = absurd (omega (arith, lt))
each_fits s (x ∷ es) zero e lt h = (and_parts (expectation_fits s x) (expectations_fit s es) h).0
each_fits s (x ∷ es) (suc i) e lt h = each_fits s es i e (omega (arith, lt)) (and_parts (expectation_fits s x) (expectations_fit s es) h).1
