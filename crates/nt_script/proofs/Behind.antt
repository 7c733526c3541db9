-- No line of a script begins with a word that is no keyword, so what stands behind a script is found by such a word.
use Rattle.std.proofs.Common.{◌≡◌, ℕ, suc, ◌+◌, Bool, true, false, cond, List, [], ◌∷◌, ◌++◌, length, map, Option, Some, None, Ok, refl, sym, ◌∙◌, ap, subst}
use Rattle.std.proofs.Common.{arith}
use Rattle.std.specs.Prelude.{IsSome, ◌||◌}
use Rattle.std.specs.List.{join_with_byte, list_any}
use Rattle.std.specs.Str.{bytes_eq}
use Rattle.std.proofs.lemmas.Bool.{false≢true, or_from}
use Rattle.std.proofs.lemmas.Grind.{flat_map-append}
use Rattle.std.proofs.lemmas.List.{length-append, map-append}
use Rattle.nt_text.specs.Lines.{AllRows, Row, fields, first, line_of, lines, rest, row_text, rows_text}
use Rattle.nt_text.proofs.Rows.{lines_again}
use Rattle.nt_line.specs.declared.keywords.Keyword.{Keyword}
use Rattle.nt_line.specs.Keywords.{arity, keyword_of}
use Rattle.nt_line.specs.NameLists.{NameLists, no_names}
use Rattle.nt_line.specs.Results.{◌>>=◌}
use Rattle.nt_line.proofs.FieldTexts.{same_text}
use Rattle.nt_script.specs.declared.walk.Input.{Input}
use Rattle.nt_script.specs.declared.walk.Walk.{Walk}
use Rattle.nt_script.specs.Reading.{act, counted, keyword_at, names_from, start, walk}
use Rattle.nt_script.specs.Versions.{version_of}
use Rattle.nt_script.specs.Sound.{IsSound}
use Rattle.nt_script.specs.Splitting.{begins, first_begins, split_from}
use Rattle.nt_script.specs.Text.{input_rows, text}
use Rattle.nt_line.proofs.UsedNames.{AreFew}
use Rattle.nt_script.proofs.Both.{reading_again, text_version}
use Rattle.nt_script.proofs.Steps.{Good}
use Rattle.nt_script.proofs.Whole.{went, step_named, version_range, good_start, few_none}
use Rattle.nt_script.proofs.Clean.{input_clean, rows_both}
use Rattle.nt_script.proofs.Cutting.{bytes_of}
use Rattle.nt_script.proofs.Soundness.{sound_fits}

-- ---- a line that is taken begins with a keyword

-- a row that is taken has a first field that is a keyword
keyed : (all : NameLists) (w new : Walk) (row : Row) (o : Option Keyword) →
    (keyword_at w.place o >>= λ k. counted (length (rest row)) (arity k) >>= λ _. act all w k (rest row)) ≡ Ok new → IsSome o
keyed all w new row None e = cc
keyed all w new row (Some k) e = refl

-- a line whose first field is a keyword does not begin with a word that is none
begins_not : (v : ℕ) (word : List ℕ) (line : List ℕ × Bool) → keyword_of v word ≡ None → IsSome (keyword_of v (first (fields line.0))) →
    begins word line ≡ false
begins_not v word line none some = go (bytes_eq (first (fields line.0)) word) refl
  where
    go : (b : Bool) → bytes_eq (first (fields line.0)) word ≡ b → b ≡ false
    go false is = refl
    go true is =
        let same : first (fields line.0) ≡ word = same_text (first (fields line.0)) word is in
        let k : IsSome (keyword_of v word) = subst (λ (f : List ℕ). IsSome (keyword_of v f)) same some in
        absurd (false≢true (subst (λ (o : Option Keyword). IsSome o) none k))

-- no line of a script begins with the word
pub none_begins : (word : List ℕ) (all : NameLists) (w : Walk) (n : ℕ) (ls : List (List ℕ × Bool)) (input : Input) → keyword_of w.version word ≡ None →
    Good w → AreFew w.names → walk all w n ls ≡ Ok input → list_any (begins word) ls ≡ false
none_begins word all w n [] input none good few e = refl
none_begins word all w n (line ∷ more) input none good few e =
    let t = went all w n line more input e in
    let s = step_named all w t.row t.new t.steps good few in
    let still : keyword_of t.new.version word ≡ None = rw s.version none in
    let row : (line : List ℕ × Bool) → fields line.0 ≡ t.row → IsSome (keyword_of w.version (first (fields line.0))) =
    λ line same. subst (λ (r : Row). IsSome (keyword_of w.version (first r))) (sym same)
    (keyed all w t.new t.row (keyword_of w.version (first t.row)) t.steps) in
    or_from (begins word line) (list_any (begins word) more) (begins_not w.version word line none (row line t.fields_are))
    (none_begins word all t.new (n + 1) more input still s.good s.few t.goes_on)

-- ---- what stands behind

abbrev cut : ℕ → ℕ → Option (ℕ × ℕ)
cut at n = Some (at, n)

-- a cut at the same byte and the same line number is the same cut
pairs : (a b c d : ℕ) → a ≡ b → c ≡ d → cut a c ≡ cut b d
pairs a b c d e f = rw (e, f) refl

-- if a word begins the first of the later lines and none of the earlier, the text is cut between them
pub split_behind : (word : List ℕ) (at n : ℕ) (xs ys : List (List ℕ × Bool)) → list_any (begins word) xs ≡ false → first_begins word ys ≡ true →
    split_from word at n (xs ++ ys) ≡ cut (at + bytes_of xs) (n + length xs)
split_behind word at n [] [] none there = cc
split_behind word at n [] (y ∷ ys) none there = rw there (pairs at (at + 0) n (n + 0) (omega arith) (omega arith))
split_behind word at n (x ∷ xs) ys none there = go (begins word x) (list_any (begins word) xs) refl none
    (λ h. split_behind word (at + (length x.0 + 1)) (n + 1) xs ys h there)
  where
    go : (b c : Bool) → list_any (begins word) xs ≡ c → (b || c) ≡ false →
        (list_any (begins word) xs ≡ false → split_from word (at + (length x.0 + 1)) (n + 1) (xs ++ ys) ≡ cut (at + (length x.0 + 1) + bytes_of xs)
        (n + 1 + length xs)) →
        cond b (cut at n) (split_from word (at + (length x.0 + 1)) (n + 1) (xs ++ ys)) ≡ cut (at + (length x.0 + 1 + bytes_of xs)) (n + suc (length xs))
    go true c is e on = cc
    go false true is e on = cc
    go false false is e on =
        on is ∙ pairs (at + (length x.0 + 1) + bytes_of xs) (at + (length x.0 + 1 + bytes_of xs)) (n + 1 + length xs) (n + suc (length xs)) (omega arith)
        (omega arith)

-- the lines of rows have as many bytes, ends counted, as the text of the rows
pub rows_bytes : (rows : List Row) → bytes_of (map line_of rows) ≡ length (rows_text rows)
rows_bytes [] = refl
rows_bytes (row ∷ rows) =
    let more = rows_bytes rows in
    let whole = length-append (row_text row) (rows_text rows) in
    let one = length-append (join_with_byte 32 row) (10 ∷ []) in omega (arith, more, whole, one)

-- behind the text of a script, rows are found by the word with which they begin
pub behind : (word : List ℕ) (input : Input) (rows : List Row) → keyword_of input.version word ≡ None → IsSound input → AllRows rows →
    first_begins word (lines (rows_text rows)) ≡ true →
    split_from word 0 1 (lines (text input ++ rows_text rows)) ≡ cut (length (text input)) (1 + length (lines (text input)))
behind word input rows none sound are there =
    let front = input_rows input in
    let fit = sound_fits input sound in
    let clean = input_clean input fit in
    let v = version_of (lines (text input)) in
    let unknown : keyword_of v word ≡ None = ap (λ (u : ℕ). keyword_of u word) (text_version input fit) ∙ none in
    let whole : text input ++ rows_text rows ≡ rows_text (front ++ rows) = sym (flat_map-append row_text front rows) in
    let all : lines (text input ++ rows_text rows) ≡ map line_of front ++ map line_of rows =
    ap lines whole ∙ lines_again (front ++ rows) (rows_both front rows clean are) ∙ map-append line_of front rows in
    let here : first_begins word (map line_of rows) ≡ true = ap (first_begins word) (sym (lines_again rows are)) ∙ there in
    let no : list_any (begins word) (map line_of front) ≡ false =
    ap (list_any (begins word)) (sym (lines_again front clean))
    ∙ none_begins word (names_from v no_names (lines (text input))) (start v) 1 (lines (text input)) input unknown
    (good_start v (version_range (lines (text input))).1) few_none (reading_again input fit) in
    ap (split_from word 0 1) all
    ∙ split_behind word 0 1 (map line_of front) (map line_of rows) no here
    ∙ pairs (0 + bytes_of (map line_of front)) (length (text input)) (1 + length (map line_of front)) (1 + length (lines (text input)))
    (let b = rows_bytes front in omega (arith, b)) (ap (λ (ls : List (List ℕ × Bool)). 1 + length ls) (sym (lines_again front clean)))
