-- What is read are a script and expectations whose texts stand one behind the other, and such texts are read so.
use Rattle.std.proofs.Common.{◌≡◌, ◌∙◌, ℕ, ◌+◌, ◌≤◌, true, List, ◌++◌, length, take, drop, Option, Some, None, Result, Ok, Err, refl, sym, ap, subst, arith}
use Rattle.std.specs.Prelude.{IfOk, IsTrue, codes}
use Rattle.std.proofs.lemmas.List.{length-take, take-append-drop}
use Rattle.std.proofs.Math.Seq.{drop-append_seam, take-append_seam}
use Rattle.std.proofs.Math.Nat.{min-le_right}
use Rattle.nt_event.specs.Script.{fits}
use Rattle.nt_expect.specs.declared.expectations.Expectation.{Expectation}
use Rattle.nt_expect.specs.declared.refusals.ExpectKind.{ExpectKind}
use Rattle.nt_expect.specs.Expectations.{ArePlain, expectation_rows, expectations_text}
use Rattle.nt_expect.specs.Reading.{reading as expectations_in}
use Rattle.nt_expect.proofs.Contract as expected
use Rattle.nt_expect.proofs.Walks.{rows_clean}
use Rattle.nt_line.specs.Keywords.{keyword_of, word_of}
use Rattle.nt_script.specs.declared.walk.Input.{Input}
use Rattle.nt_script.specs.Reading.{reading as script_in}
use Rattle.nt_script.specs.Sound.{IsSound}
use Rattle.nt_script.specs.Splitting.{Splits, first_begins}
use Rattle.nt_script.specs.Text.{text as script_text}
use Rattle.nt_script.proofs.Contract as script
use Rattle.nt_script.proofs.Behind as placed
use Rattle.nt_text.specs.declared.kind.ScriptKind.{ScriptKind}
use Rattle.nt_text.specs.declared.kind.ScriptKind.TheVariants.{NoEnd}
use Rattle.nt_text.specs.declared.lines.TheConstants.{INPUT_LIMIT}
use Rattle.nt_text.specs.Lines.{lines}
use Rattle.nt_text.proofs.Cuts.{few_lines}
use Rattle.nt_text.proofs.Rows.{lines_again}
use Rattle.nt_ask.specs.declared.reading.Asked.{Asked}
use Rattle.nt_ask.specs.declared.reading.AskRefusal.{AskRefusal}
use Rattle.nt_ask.specs.Reading.{Bad, GivesRead, IsTextOf, and_then, asked, asking, behind, expectations_of, in_script, last_line, of_expectations, of_script}
use Rattle.nt_ask.specs.Reading.{script_of, two_parts, with_expectations}

-- the line of a part of not too many bytes
pub line_within : (word bytes : List ℕ) (at line : ℕ) → length bytes ≤ INPUT_LIMIT → Splits word bytes at line → (1 ≤ line) × (line ≤ INPUT_LIMIT + 1)
line_within word bytes at line few s =
    let lines = few_lines (take at bytes) in
    let size = length-take at bytes in
    let least = min-le_right at (length bytes) in
    let number = s.number in (omega (arith, number), omega (arith, number, lines, size, least, few))

-- ---- what is read is a text

-- what goes on and is read
went : {A B : Type 0} (r : Result A Bad) (more : A → Result B Bad) (y : B) → and_then r more ≡ Ok y → (x : A) × (r ≡ Ok x) × (more x ≡ Ok y)
went (Ok x) more y e = (x, refl, e)
went (Err bad) more y e = absurd cc

-- a script that is read
script_is : (r : Result Input (ℕ × ScriptKind)) (input : Input) → of_script r ≡ Ok input → r ≡ Ok input
script_is (Ok x) input e = cc
script_is (Err bad) input e = absurd cc

-- expectations that are read
list_is : (r : Result (List Expectation) (ℕ × ExpectKind)) (es : List Expectation) → of_expectations r ≡ Ok es → r ≡ Ok es
list_is (Ok x) es e = cc
list_is (Err bad) es e = absurd cc

-- a script alone asks nothing
nothing_behind : (n : ℕ) (r : Result Input Bad) (a : Asked) → and_then r (λ input. Err (in_script n NoEnd)) ≡ Ok a → ⊥
nothing_behind n (Ok x) a e = cc
nothing_behind n (Err bad) a e = cc

-- two parts that are read are a text
parts_are_text : (o : Option (ℕ × ℕ)) (bytes : List ℕ) (a : Asked) → two_parts o bytes ≡ Ok a → IsTextOf bytes a
parts_are_text None bytes a e = absurd (nothing_behind (last_line bytes) (script_of bytes) a e)
parts_are_text (Some (at, line)) bytes a e =
    let s = went (script_of (take at bytes)) (λ input. with_expectations input line (drop at bytes)) a e in
    let t = went (expectations_of s.0 line (drop at bytes)) (λ es. Ok (asked s.0 es)) a s.2 in
    let front = script.reading_is_text (take at bytes) s.0 (script_is (script_in (take at bytes)) s.0 s.1) in
    let back = expected.is_found (drop at bytes) s.0 line (Ok t.0) front.sound (list_is (expectations_in s.0 line (drop at bytes)) t.0 t.1) in
    let same : asked s.0 t.0 ≡ a = cc (t.2) in
    subst (IsTextOf bytes) same
    (record {
      sound = front.sound;
      plain = back.plain;
      text = sym (take-append-drop at bytes)
          ∙ ap (λ (f : List ℕ). f ++ drop at bytes) front.text
          ∙ ap (λ (b : List ℕ). script_text s.0 ++ b) back.text;
    })

-- what is read is a text
pub is_found : (bytes : List ℕ) (r : Result Asked AskRefusal) → GivesRead r (asking bytes) → IfOk r (IsTextOf bytes)
is_found bytes (Ok a) h = parts_are_text (behind bytes) bytes a h
is_found bytes (Err e) h = tt

-- what is read has a script that fits
pub script_fits : (r : Result Asked AskRefusal) → IfOk r (λ a. IsSound a.input) → IfOk r (λ a. IsTrue (fits a.input.script))
script_fits (Ok a) h = h.fits
script_fits (Err e) h = tt

-- ---- a text is read

-- `expect` is no word of scripts
no_keyword : (version : ℕ) → keyword_of version (codes "expect") ≡ None
unfolding word_of
no_keyword version = refl

-- expectations begin with it
begins_with : (input : Input) (es : List Expectation) → IsSound input → ArePlain input es →
    first_begins (codes "expect") (lines (expectations_text input es)) ≡ true
begins_with input es sound plain =
    ap (first_begins (codes "expect")) (lines_again (expectation_rows input.names es) (rows_clean input sound es plain))

-- two parts that are read
both_read : (front back f b : List ℕ) (line : ℕ) (a : Asked) → f ≡ front → b ≡ back → script_in front ≡ Ok a.input →
    expectations_in a.input line back ≡ Ok a.expectations → and_then (script_of f) (λ input. with_expectations input line b) ≡ Ok a
both_read front back f b line a p q script list = rw (p, q, script) (rw list refl)

-- a text is read
pub text_is_read : (bytes : List ℕ) (a : Asked) → IsTextOf bytes a → asking bytes ≡ Ok a
text_is_read bytes a h =
    let front = script_text a.input in
    let back = expectations_text a.input a.expectations in
    let line = 1 + length (lines front) in
    let place : behind (front ++ back) ≡ Some (length front, line) = placed.behind (codes "expect") a.input (expectation_rows a.input.names a.expectations)
    (no_keyword a.input.version) h.sound (rows_clean a.input h.sound a.expectations h.plain) (begins_with a.input a.expectations h.sound h.plain) in
    ap asking h.text
    ∙ ap (λ (o : Option (ℕ × ℕ)). two_parts o (front ++ back)) place
    ∙ both_read front back (take (length front) (front ++ back)) (drop (length front) (front ++ back)) line a (take-append_seam front back)
    (drop-append_seam front back) (script.text_is_read front a.input (record { sound = h.sound; text = refl }))
    (expected.text_is_read back a.input line a.expectations (record { sound = h.sound; plain = h.plain; text = refl }))
