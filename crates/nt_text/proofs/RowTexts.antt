-- Lines of rows, built field by field.
use Rattle.std.proofs.Common.{◌≡◌, ◌∙◌, ℕ, List, [], ◌∷◌, ◌++◌, refl, sym, ap, append_assoc, append-nil}
use Rattle.std.specs.List.{join_with_byte}
use Rattle.nt_text.specs.Lines.{Row, row_text, rows_text, spaced}

-- a row is its first field and the others behind it
pub joined : (f : List ℕ) (fs : Row) → join_with_byte 32 (f ∷ fs) ≡ f ++ spaced fs
joined f [] = sym (append-nil f)
joined f (g ∷ fs) = ap (λ (xs : List ℕ). f ++ 32 ∷ xs) (joined g fs)

-- the text of a row is its first field, then a space and a field for each other, then the end of the line
pub row_text_cons : (f : List ℕ) (fs : Row) → row_text (f ∷ fs) ≡ f ++ (spaced fs ++ 10 ∷ [])
row_text_cons f fs = ap (λ (xs : List ℕ). xs ++ 10 ∷ []) (joined f fs) ∙ append_assoc f (spaced fs) (10 ∷ [])

-- a line: its first field, the others behind it, and its end
pub line_put : (old now next out f : List ℕ) (fs : Row) → now ≡ old ++ f → next ≡ now ++ spaced fs → out ≡ next ++ 10 ∷ [] → out ≡ old ++ row_text (f ∷ fs)
line_put old now next out f fs first others end =
    let whole : out ≡ ((old ++ f) ++ spaced fs) ++ 10 ∷ [] = end ∙ ap (λ (xs : List ℕ). xs ++ 10 ∷ []) (others ∙ ap (λ (xs : List ℕ). xs ++ spaced fs) first) in
    whole ∙ append_assoc (old ++ f) (spaced fs) (10 ∷ []) ∙ append_assoc old f (spaced fs ++ 10 ∷ [])
    ∙ ap (λ (xs : List ℕ). old ++ xs) (sym (row_text_cons f fs))

-- a first field and the others behind it
pub row_put : (old now out f : List ℕ) (fs : Row) → now ≡ old ++ f → out ≡ now ++ spaced fs → out ≡ old ++ join_with_byte 32 (f ∷ fs)
row_put old now out f fs first others =
    others ∙ ap (λ (xs : List ℕ). xs ++ spaced fs) first ∙ append_assoc old f (spaced fs) ∙ ap (λ (xs : List ℕ). old ++ xs) (sym (joined f fs))

-- fields behind others, in two parts
pub spaced_append : (fs gs : Row) → spaced (fs ++ gs) ≡ spaced fs ++ spaced gs
spaced_append [] gs = refl
spaced_append (f ∷ fs) gs = ap (λ (xs : List ℕ). 32 ∷ (f ++ xs)) (spaced_append fs gs)
    ∙ ap (λ (xs : List ℕ). 32 ∷ xs) (sym (append_assoc f (spaced fs) (spaced gs)))

-- the text of two lists of rows is the text of the first and then that of the second
pub rows_text-append : (a b : List Row) → rows_text (a ++ b) ≡ rows_text a ++ rows_text b
rows_text-append [] b = refl
rows_text-append (row ∷ rows) b = ap (λ (xs : List ℕ). row_text row ++ xs) (rows_text-append rows b)
    ∙ sym (append_assoc (row_text row) (rows_text rows) (rows_text b))

-- of the rows that were to come, the first ones were put
pub rows_put : (out next whole : List ℕ) (first others all : List Row) → all ≡ first ++ others → out ++ rows_text all ≡ whole → next ≡ out ++ rows_text first →
    next ++ rows_text others ≡ whole
rows_put out next whole first others all split before put =
    ap (λ (xs : List ℕ). xs ++ rows_text others) put ∙ append_assoc out (rows_text first) (rows_text others)
    ∙ ap (λ (xs : List ℕ). out ++ xs) (sym (ap rows_text split ∙ rows_text-append first others)) ∙ before

-- rows that were put one part behind the other
pub parts_put : (old now next : List ℕ) (a b : List Row) → now ≡ old ++ rows_text a → next ≡ now ++ rows_text b → next ≡ old ++ rows_text (a ++ b)
parts_put old now next a b first second =
    second ∙ ap (λ (xs : List ℕ). xs ++ rows_text b) first ∙ append_assoc old (rows_text a) (rows_text b)
    ∙ ap (λ (xs : List ℕ). old ++ xs) (sym (rows_text-append a b))

-- a row behind others: a space, and the row with one space between two fields
pub spaced_put : (old now out f : List ℕ) (fs : Row) → now ≡ old ++ 32 ∷ [] → out ≡ now ++ join_with_byte 32 (f ∷ fs) → out ≡ old ++ spaced (f ∷ fs)
spaced_put old now out f fs space row =
    row ∙ ap (λ (xs : List ℕ). xs ++ join_with_byte 32 (f ∷ fs)) space ∙ append_assoc old (32 ∷ []) (join_with_byte 32 (f ∷ fs))
    ∙ ap (λ (xs : List ℕ). old ++ 32 ∷ xs) (joined f fs)

-- one row is a text of rows
pub one_row : (old now : List ℕ) (row : Row) → now ≡ old ++ row_text row → now ≡ old ++ rows_text (row ∷ [])
one_row old now row put = put ∙ ap (λ (xs : List ℕ). old ++ xs) (sym (append-nil (row_text row)))
