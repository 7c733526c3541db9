-- The lines of expectations are read as these, and what is read are expectations with these lines.
use Rattle.std.proofs.Common.{◌≡◌, ◌∙◌, ℕ, ◌+◌, ◌≤◌, Bool, true, false, cond, List, [], ◌∷◌, ◌++◌, length, map, Result, Ok, Err, refl, sym, ap, subst}
use Rattle.std.proofs.Common.{append_assoc}
use Rattle.std.proofs.Common.{append-nil, arith}
use Rattle.std.specs.Prelude.{codes, nat_lt}
use Rattle.std.specs.List.{AllByRecursion}
use Rattle.std.specs.Str.{bytes_eq}
use Rattle.std.proofs.lemmas.Bool.{lt-ltb, ltb-true}
use Rattle.std.proofs.lemmas.List.{length-append}
use Rattle.nt_text.specs.declared.kind.ScriptKind.{ScriptKind}
use Rattle.nt_text.specs.declared.kind.ScriptKind.TheVariants.{UnknownWord}
use Rattle.nt_text.specs.Lines.{AllRows, IsRow, Row, first, line_of, rest, row_of}
use Rattle.nt_text.proofs.Rows.{row_again, row_takes}
use Rattle.nt_line.specs.Results.{◌>>=◌}
use Rattle.nt_line.proofs.FieldTexts.{same_text}
use Rattle.nt_line.proofs.Results.{bind_ok}
use Rattle.nt_script.specs.declared.walk.Input.{Input}
use Rattle.nt_script.specs.Sound.{IsSound}
use Rattle.nt_script.proofs.Clean.{rows_both}
use Rattle.nt_expect.specs.declared.expectations.TheConstants.{MOST}
use Rattle.nt_expect.specs.declared.expectations.Expectation.{Expectation}
use Rattle.nt_expect.specs.declared.lines.ExpectLine.{ExpectLine}
use Rattle.nt_expect.specs.declared.lines.ExpectLine.TheVariants as says
use Rattle.nt_expect.specs.declared.lines.ExpectPlace.TheVariants.{InList, Done}
use Rattle.nt_expect.specs.declared.lines.ExpectWalk.{ExpectWalk}
use Rattle.nt_expect.specs.declared.refusals.ExpectKind.{ExpectKind}
use Rattle.nt_expect.specs.declared.refusals.ExpectKind.TheVariants.{TooMany}
use Rattle.nt_expect.specs.Expectations.{ArePlain, ExpectationIsPlain, done_row, expect_row, expectation_row, expectation_rows, expected_row, is_always}
use Rattle.nt_expect.specs.Expectations.{quantifier}
use Rattle.nt_expect.specs.Fields.{at_end}
use Rattle.nt_expect.specs.Reading.{expectation_of, go_on, head_line, line_at, list_line, read_line, start, step_by, taken, walk}
use Rattle.nt_expect.proofs.Known.{Known, known}
use Rattle.nt_expect.proofs.Events.{expectation_again, expectation_clean, expectation_shown}
use Rattle.nt_expect.proofs.Steps.{bind_is, through}

abbrev TextLine : Type 0
TextLine = List ℕ × Bool

-- behind the first line
abbrev in_list : List Expectation → ExpectWalk
in_list es = record { list = es; place = InList }

-- behind the last line
abbrev at_done : List Expectation → ExpectWalk
at_done es = record { list = es; place = Done }

-- ---- one step

-- the walk went on
record Went (input : Input) (w : ExpectWalk) (n : ℕ) (line : TextLine) (more : List TextLine) (es : List Expectation) : Type 0 where
  new : ExpectWalk
  row : Row
  said : ExpectLine
  line_is : line ≡ line_of row
  says : line_at input w.place row ≡ Ok said
  takes : taken w said ≡ Ok new
  goes_on : walk input new (n + 1) more ≡ Ok es

-- a walk over a line and more that makes expectations took the line and went on with the others
went : (input : Input) (w : ExpectWalk) (n : ℕ) (line : TextLine) (more : List TextLine) (es : List Expectation) → walk input w n (line ∷ more) ≡ Ok es →
    Went input w n line more es
went input w n line more es e = go (read_line input w.place line) refl e
  where
    stepped : (said : ExpectLine) → read_line input w.place line ≡ Ok said → (r : Result ExpectWalk ExpectKind) → taken w said ≡ r →
        go_on n r (λ new. walk input new (n + 1) more) ≡ Ok es → Went input w n line more es
    stepped said is (Err kind) t e = absurd cc
    stepped said is (Ok new) t e =
        let b = bind_ok (row_of line) (line_at input w.place) said is in
        record { new = new; row = b.value; said = said; line_is = row_takes line b.value b.is; says = b.then; takes = t; goes_on = e }

    go : (r : Result ExpectLine ScriptKind) → read_line input w.place line ≡ r → go_on n (step_by w r) (λ new. walk input new (n + 1) more) ≡ Ok es →
        Went input w n line more es
    go (Err kind) is e = absurd cc
    go (Ok said) is e = stepped said is (taken w said) refl e

-- a step of the walk that succeeds with a state gives that state
walk_is : (w new : ExpectWalk) → ◌≡◌ {A = Result ExpectWalk ExpectKind} (Ok w) (Ok new) → w ≡ new
walk_is w new e = cc

-- a line taken at its end has no fields left, and says what was read before
end_is : (x y : ExpectLine) (row : Row) → at_end x row ≡ Ok y → (row ≡ []) × (x ≡ y)
end_is x y [] e = (refl, cc)
end_is x y (f ∷ fs) e = absurd cc

-- a word with no field behind it
alone : (row : Row) (word : List ℕ) → bytes_eq (first row) word ≡ true → bytes_eq [] word ≡ false → rest row ≡ [] → row ≡ word ∷ []
alone [] word is there none = let no : true ≡ false = sym is ∙ there in absurd cc
alone (f ∷ fs) word is there none = ap (λ (r : Row). f ∷ r) none ∙ ap (λ (g : List ℕ). g ∷ []) (same_text f word is)

-- ---- what is read

-- no line comes behind the last
ended : (input : Input) (list : List Expectation) (n : ℕ) (ls : List TextLine) (es : List Expectation) → walk input (at_done list) n ls ≡ Ok es →
    (ls ≡ []) × (es ≡ list)
ended input list n [] es e = (refl, cc)
ended input list n (line ∷ more) es e = let t = went input (at_done list) n line more es e in let no = t.says in absurd cc

-- the lines behind the first, and the expectations that they are
record ListTaken (input : Input) (list : List Expectation) (ls : List TextLine) (es : List Expectation) : Type 0 where
  tail : List Expectation
  is : es ≡ list ++ tail
  lines_are : ls ≡ map line_of (map (expectation_row input.names) tail ++ done_row ∷ [])
  plain : AllByRecursion (ExpectationIsPlain input) tail
  few : length (list ++ tail) ≤ MOST

-- what a line in the list says
data Told (input : Input) (row : Row) (said : ExpectLine) : Type 0 where
  AtEnd : row ≡ done_row → said ≡ says.End → Told input row said
  OneMore : (e : Expectation) → row ≡ expectation_row input.names e → ExpectationIsPlain input e → said ≡ says.One e → Told input row said

-- an empty row is no line of the list
no_word : (input : Input) (said : ExpectLine) → list_line input [] ≡ Ok said → ⊥
no_word input said e = absurd cc

-- a row that is taken in the list is the end, or that of an expectation which a text may have
told : (input : Input) → Known input → (row : Row) (said : ExpectLine) → list_line input row ≡ Ok said → Told input row said
told input k [] said e = absurd (no_word input said e)
told input k (f ∷ fs) said e = go (bytes_eq f (codes "done")) refl e
  where
    go : (b : Bool) → bytes_eq f (codes "done") ≡ b →
        cond b (at_end says.End fs) (expectation_of input f fs >>= λ (x : Expectation × Row). at_end (says.One x.0) x.1) ≡ Ok said → Told input (f ∷ fs) said
    go true is e = let t = end_is says.End said fs e in AtEnd (alone (f ∷ fs) (codes "done") is refl t.0) (sym t.1)
    go false is e =
        through (Told input (f ∷ fs)) (expectation_of input f fs) (λ (x : Expectation × Row). at_end (says.One x.0) x.1) said e
        (λ x reads then.
        let s = expectation_shown input k f fs x reads in
        let t = end_is (says.One x.0) said x.1 then in
        OneMore x.0 (s.0 ∙ ap (λ (r : Row). expectation_row input.names x.0 ++ r) t.0 ∙ append-nil (expectation_row input.names x.0)) s.1 (sym t.1))

-- the lines of a walk in the list that makes expectations are those of further ones and of the end
list_takes : (input : Input) → Known input → (ls : List TextLine) (list : List Expectation) (n : ℕ) (es : List Expectation) → length list ≤ MOST →
    walk input (in_list list) n ls ≡ Ok es → ListTaken input list ls es
list_takes input k [] list n es few e = absurd cc
list_takes input k (line ∷ more) list n es few e =
    let t = went input (in_list list) n line more es e in
    go t.row t.said t.new t.line_is (told input k t.row t.said t.says) t.takes t.goes_on
    (λ other l h. list_takes input k more other (n + 1) es l h)
  where
    last : (row : Row) (new : ExpectWalk) → line ≡ line_of row → row ≡ done_row → taken (in_list list) says.End ≡ Ok new →
        walk input new (n + 1) more ≡ Ok es → ListTaken input list (line ∷ more) es
    last row new line_is row_is takes goes =
        let now : walk input (at_done list) (n + 1) more ≡ Ok es =
        ap (λ (w : ExpectWalk). walk input w (n + 1) more) (walk_is (at_done list) new takes) ∙ goes in
        let r = ended input list (n + 1) more es now in
        record {
          tail = [];
          is = r.1 ∙ sym (append-nil list);
          lines_are = ap (λ (l : TextLine). l ∷ more) (line_is ∙ ap line_of row_is) ∙ ap (λ (ls : List TextLine). line_of done_row ∷ ls) r.0;
          plain = tt;
          few = subst (λ (xs : List Expectation). length xs ≤ MOST) (sym (append-nil list)) few;
        }

    one : (row : Row) (x : Expectation) (new : ExpectWalk) → line ≡ line_of row → row ≡ expectation_row input.names x → ExpectationIsPlain input x →
        (b : Bool) → nat_lt (length list) MOST ≡ b → cond b (Ok (in_list (list ++ x ∷ []))) (Err TooMany) ≡ Ok new → walk input new (n + 1) more ≡ Ok es →
        ((other : List Expectation) → length other ≤ MOST → walk input (in_list other) (n + 1) more ≡ Ok es → ListTaken input other more es) →
        ListTaken input list (line ∷ more) es
    one row x new line_is row_is plain false room takes goes rec = absurd cc
    one row x new line_is row_is plain true room takes goes rec =
        let lt = ltb-true (length list) MOST room in
        let size = length-append list (x ∷ []) in
        let now : walk input (in_list (list ++ x ∷ [])) (n + 1) more ≡ Ok es =
        ap (λ (w : ExpectWalk). walk input w (n + 1) more) (walk_is (in_list (list ++ x ∷ [])) new takes) ∙ goes in
        let r = rec (list ++ x ∷ []) (omega (arith, lt, size)) now in
        let regrouped : (list ++ x ∷ []) ++ r.tail ≡ list ++ x ∷ r.tail = append_assoc list (x ∷ []) r.tail in
        record {
          tail = x ∷ r.tail;
          is = r.is ∙ regrouped;
          lines_are = ap (λ (l : TextLine). l ∷ more) (line_is ∙ ap line_of row_is)
              ∙ ap (λ (ls : List TextLine). line_of (expectation_row input.names x) ∷ ls) r.lines_are;
          plain = (plain, r.plain);
          few = subst (λ (xs : List Expectation). length xs ≤ MOST) regrouped r.few;
        }

    go : (row : Row) (said : ExpectLine) (new : ExpectWalk) → line ≡ line_of row → Told input row said → taken (in_list list) said ≡ Ok new →
        walk input new (n + 1) more ≡ Ok es →
        ((other : List Expectation) → length other ≤ MOST → walk input (in_list other) (n + 1) more ≡ Ok es → ListTaken input other more es) →
        ListTaken input list (line ∷ more) es
    go row said new line_is (AtEnd row_is said_is) takes goes rec =
        last row new line_is row_is (ap (taken (in_list list)) (sym said_is) ∙ takes) goes
    go row said new line_is (OneMore x row_is plain said_is) takes goes rec =
        one row x new line_is row_is plain (nat_lt (length list) MOST) refl (ap (taken (in_list list)) (sym said_is) ∙ takes) goes rec

-- the first line
head_takes : (row : Row) (said : ExpectLine) → head_line row ≡ Ok said → (row ≡ expect_row) × (said ≡ says.Head)
head_takes row said e = go (bytes_eq (first row) (codes "expect")) refl e
  where
    go : (b : Bool) → bytes_eq (first row) (codes "expect") ≡ b → cond b (at_end says.Head (rest row)) (Err UnknownWord) ≡ Ok said →
        (row ≡ expect_row) × (said ≡ says.Head)
    go false is e = absurd cc
    go true is e = let t = end_is says.Head said (rest row) e in (alone row (codes "expect") is refl t.0, sym t.1)

-- lines that are read as expectations are their lines, and a text may have these expectations
pub walk_takes : (n : ℕ) (input : Input) (ls : List TextLine) (es : List Expectation) → IsSound input → walk input start n ls ≡ Ok es →
    (ls ≡ map line_of (expectation_rows input.names es)) × ArePlain input es
walk_takes n input [] es sound e = absurd cc
walk_takes n input (line ∷ more) es sound e =
    let t = went input start n line more es e in
    let h = head_takes t.row t.said t.says in
    let new_is = walk_is (in_list []) t.new (ap (taken start) (sym h.1) ∙ t.takes) in
    let now : walk input (in_list []) (n + 1) more ≡ Ok es = ap (λ (w : ExpectWalk). walk input w (n + 1) more) new_is ∙ t.goes_on in
    let r = list_takes input (known input sound) more [] (n + 1) es (omega arith) now in
    let first_is : line ≡ line_of expect_row = t.line_is ∙ ap line_of h.0 in
    let all : line ∷ more ≡ map line_of (expectation_rows input.names r.tail) =
    ap (λ (l : TextLine). l ∷ more) first_is ∙ ap (λ (ls : List TextLine). line_of expect_row ∷ ls) r.lines_are in
    subst (λ (xs : List Expectation). (line ∷ more ≡ map line_of (expectation_rows input.names xs)) × ArePlain input xs) (sym r.is)
    (all, record { each = r.plain; few = r.few })

-- ---- what is written

-- the line of a row that is taken
line_again : (input : Input) (w new : ExpectWalk) (n : ℕ) (row : Row) (said : ExpectLine) (more : List TextLine) → IsRow row →
    line_at input w.place row ≡ Ok said → taken w said ≡ Ok new → walk input w n (line_of row ∷ more) ≡ walk input new (n + 1) more
line_again input w new n row said more clean says takes =
    let read : read_line input w.place (line_of row) ≡ Ok said = bind_is (row_of (line_of row)) (line_at input w.place) row (row_again row clean) ∙ says in
    ap (λ (r : Result ExpectLine ScriptKind). go_on n (step_by w r) (λ new. walk input new (n + 1) more)) read
    ∙ ap (λ (r : Result ExpectWalk ExpectKind). go_on n r (λ new. walk input new (n + 1) more)) takes

-- a quantifier is not the word that ends the list
not_done : (b : Bool) → bytes_eq (quantifier b) (codes "done") ≡ false
not_done true = refl
not_done false = refl

-- the row of an expectation that a text may have is read as this one expectation
one_again : (input : Input) → Known input → (e : Expectation) → ExpectationIsPlain input e → list_line input (expectation_row input.names e) ≡ Ok (says.One e)
one_again input k e h =
    rw (not_done (is_always e))
    (bind_is (expectation_of input (quantifier (is_always e)) (expected_row input.names e)) (λ (x : Expectation × Row). at_end (says.One x.0) x.1) (e, [])
    (expectation_again input k e h))

-- an expectation for which there is room is added at the end of the list
room : (list : List Expectation) (e : Expectation) → length list + 1 ≤ MOST → taken (in_list list) (says.One e) ≡ Ok (in_list (list ++ e ∷ []))
room list e few = rw (lt-ltb (length list) MOST (omega (arith, few))) refl

-- the lines of expectations and of the end are read as these, added to those before
list_again : (input : Input) → Known input → (es list : List Expectation) (n : ℕ) → AllByRecursion (ExpectationIsPlain input) es →
    length list + length es ≤ MOST →
    walk input (in_list list) n (map line_of (map (expectation_row input.names) es ++ done_row ∷ [])) ≡ Ok (list ++ es)
list_again input k [] list n plain few =
    line_again input (in_list list) (at_done list) n done_row says.End [] (refl, tt) refl refl ∙ ap (λ (xs : List Expectation). Ok xs) (sym (append-nil list))
list_again input k (e ∷ es) list n plain few =
    let row = expectation_row input.names e in
    let size = length-append list (e ∷ []) in
    line_again input (in_list list) (in_list (list ++ e ∷ [])) n row (says.One e) (map line_of (map (expectation_row input.names) es ++ done_row ∷ []))
    (expectation_clean input k e plain.0) (one_again input k e plain.0) (room list e (omega (arith, few)))
    ∙ list_again input k es (list ++ e ∷ []) (n + 1) plain.1 (omega (arith, few, size))
    ∙ ap (λ (xs : List Expectation). Ok xs) (append_assoc list (e ∷ []) es)

-- the lines of expectations that a text may have are read as these expectations
pub walk_again : (n : ℕ) (input : Input) (es : List Expectation) → IsSound input → ArePlain input es →
    walk input start n (map line_of (expectation_rows input.names es)) ≡ Ok es
walk_again n input es sound plain =
    let few = plain.few in
    line_again input start (in_list []) n expect_row says.Head (map line_of (map (expectation_row input.names) es ++ done_row ∷ [])) (refl, tt) refl refl
    ∙ list_again input (known input sound) es [] (n + 1) plain.each (omega (arith, few))

-- expectations that a text may have are all written as rows of fields
each_clean : (input : Input) → Known input → (es : List Expectation) → AllByRecursion (ExpectationIsPlain input) es →
    AllRows (map (expectation_row input.names) es)
each_clean input k [] h = tt
each_clean input k (e ∷ es) h = (expectation_clean input k e h.0, each_clean input k es h.1)

-- the rows of expectations that a text may have are rows of fields
pub rows_clean : (input : Input) → IsSound input → (es : List Expectation) → ArePlain input es → AllRows (expectation_rows input.names es)
rows_clean input sound es plain = (
  (refl, tt),
  rows_both (map (expectation_row input.names) es) (done_row ∷ []) (each_clean input (known input sound) es plain.each) ((refl, tt), tt),
)
