-- Fields stand at their places.
use Rattle.std.proofs.Common.{◌≡◌, ℕ, zero, suc, ◌+◌, ◌-◌, Bool, true, false, cond, List, [], ◌∷◌, ◌++◌, length, map, refl, sym, ap, ◌∙◌, append_assoc}
use Rattle.std.proofs.Common.{length-append, arith}
use Rattle.std.specs.List.{filter, onto_first}
use Rattle.std.proofs.lemmas.Bool.{false≢true}
use Rattle.std.proofs.lemmas.List.{drop_at, take_at}
use Rattle.nt_text.specs.Lines.{Row, is_byte}
use Rattle.nt_friendly.specs.Fields.{begun, blank_parts, bytes_at, content, field_places, friendly_fields, has_mark, is_blank, is_filled, places_from}
use Rattle.nt_friendly.specs.Fields.{uncommented}
use Rattle.nt_friendly.proofs.Bytes.{filled_cons, part_before}

-- the bytes begin with the parts, with one byte between two of them
abbrev pub Spreads : List (List ℕ) → List ℕ → Type 0
Spreads [] xs = ⊥
Spreads (p ∷ []) xs = (more : List ℕ) × (xs ≡ p ++ more)
Spreads (p ∷ q ∷ ps) xs = (b : ℕ) × (more : List ℕ) × (xs ≡ p ++ b ∷ more) × Spreads (q ∷ ps) more

-- a byte that belongs to the first part
onto_spreads : (b : ℕ) (ps : List (List ℕ)) (xs : List ℕ) → Spreads ps xs → Spreads (onto_first b ps) (b ∷ xs)
onto_spreads b [] xs h = absurd h
onto_spreads b (p ∷ []) xs h = (h.0, ap (λ (l : List ℕ). b ∷ l) h.1)
onto_spreads b (p ∷ q ∷ ps) xs h = (h.0, h.1, ap (λ (l : List ℕ). b ∷ l) h.2, h.3)

-- a byte between an empty first part and the others
apart_spreads : (b : ℕ) (ps : List (List ℕ)) (xs : List ℕ) → Spreads ps xs → Spreads ([] ∷ ps) (b ∷ xs)
apart_spreads b [] xs h = absurd h
apart_spreads b (p ∷ ps) xs h = (b, xs, refl, h)

-- bytes with others behind them begin with their parts
parts_spread : (xs tail : List ℕ) → Spreads (blank_parts xs) (xs ++ tail)
parts_spread [] tail = (tail, refl)
parts_spread (x ∷ xs) tail = go (is_blank x) (blank_parts xs) (parts_spread xs tail)
  where
    go : (t : Bool) (ps : List (List ℕ)) → Spreads ps (xs ++ tail) → Spreads (cond t ([] ∷ ps) (onto_first x ps)) (x ∷ (xs ++ tail))
    go true ps h = apart_spreads x ps (xs ++ tail) h
    go false ps h = onto_spreads x ps (xs ++ tail) h

-- a part stands behind what is before it
part_at : (before p more line : List ℕ) → line ≡ before ++ (p ++ more) → bytes_at line (length before + 1, length p) ≡ p
part_at before p more line e =
    let place : length before + 1 - 1 ≡ length before = omega arith in
    rw (place, e, drop_at before (p ++ more) (length before) refl) (take_at p more (length p) refl)

-- the parts that are not empty stand at their places
places_hold : (line before xs : List ℕ) (ps : List (List ℕ)) → line ≡ before ++ xs → Spreads ps xs →
    map (bytes_at line) (places_from (length before + 1) ps) ≡ filter is_filled ps
places_hold line before xs [] e h = absurd h
places_hold line before xs (p ∷ []) e h = go (is_filled p)
  where
    go : (t : Bool) → map (bytes_at line) (cond t ((length before + 1, length p) ∷ []) []) ≡ cond t (p ∷ []) []
    go true = ap (λ (f : List ℕ). f ∷ []) (part_at before p h.0 line (e ∙ ap (λ (l : List ℕ). before ++ l) h.1))
    go false = refl
places_hold line before xs (p ∷ q ∷ ps) e h =
    let b = h.0 in
    let more = h.1 in
    let passed = before ++ (p ++ b ∷ []) in
    let whole : line ≡ before ++ (p ++ b ∷ more) = e ∙ ap (λ (l : List ℕ). before ++ l) h.2 in
    let cut : line ≡ passed ++ more =
    whole ∙ ap (λ (l : List ℕ). before ++ l) (sym (append_assoc p (b ∷ []) more)) ∙ sym (append_assoc before (p ++ b ∷ []) more) in
    let one : length (p ++ b ∷ []) ≡ length p + 1 = length-append p (b ∷ []) in
    let all : length passed ≡ length before + length (p ++ b ∷ []) = length-append before (p ++ b ∷ []) in
    let next : length passed + 1 ≡ length before + 1 + (length p + 1) = omega (arith, one, all) in
    let rest = places_hold line passed more (q ∷ ps) cut h.3 in
    go (is_filled p) refl (part_at before p (b ∷ more) line whole) (ap (λ (c : ℕ). map (bytes_at line) (places_from c (q ∷ ps))) (sym next) ∙ rest)
  where
    empty : (f : List ℕ) → is_filled f ≡ false → length f ≡ 0
    empty [] e = refl
    empty (x ∷ f) e = absurd (false≢true (sym e ∙ filled_cons x f))

    go : (t : Bool) → is_filled p ≡ t → bytes_at line (length before + 1, length p) ≡ p →
        map (bytes_at line) (places_from (length before + 1 + (length p + 1)) (q ∷ ps)) ≡ filter is_filled (q ∷ ps) →
        map (bytes_at line) (cond t ((length before + 1, length p) ∷ places_from (length before + 1 + (length p + 1)) (q ∷ ps))
        (places_from (length before + 1 + 1) (q ∷ ps))) ≡ cond t (p ∷ filter is_filled (q ∷ ps)) (filter is_filled (q ∷ ps))
    go true is here rest = rw here (ap (λ (r : Row). p ∷ r) rest)
    go false is here rest =
        let no = empty p is in
        let same : length before + 1 + 1 ≡ length before + 1 + (length p + 1) = omega (arith, no) in
        rw same rest

-- what is left behind blank space is the end of the bytes
begun_ends : (n : ℕ) (xs : List ℕ) → (before : List ℕ) × (xs ≡ before ++ begun n xs)
begun_ends n [] = ([], refl)
begun_ends (suc n) (b ∷ more) = let h = begun_ends n more in (b ∷ h.0, ap (λ (l : List ℕ). b ∷ l) h.1)
begun_ends zero (b ∷ more) = go (is_blank b) (has_mark (b ∷ more)) (begun_ends zero more) (begun_ends 2 more)
  where
    go : (s t : Bool) → (before : List ℕ) × (more ≡ before ++ begun zero more) → (before : List ℕ) × (more ≡ before ++ begun 2 more) →
        (before : List ℕ) × (b ∷ more ≡ before ++ cond s (begun zero more) (cond t (begun 2 more) (b ∷ more)))
    go true t h k = (b ∷ h.0, ap (λ (l : List ℕ). b ∷ l) h.1)
    go false true h k = (b ∷ k.0, ap (λ (l : List ℕ). b ∷ l) k.1)
    go false false h k = ([], refl)

-- the bytes at the places of fields are the fields
pub fields_stand : (line : List ℕ) → map (bytes_at line) (field_places line) ≡ friendly_fields line
fields_stand line =
    let before = begun_ends 0 (uncommented line) in
    let tail = part_before (is_byte 35) line in
    let whole : line ≡ before.0 ++ (content line ++ tail.0) =
    tail.1 ∙ ap (λ (l : List ℕ). l ++ tail.0) before.1 ∙ append_assoc before.0 (content line) tail.0 in
    let long : length (uncommented line) ≡ length before.0 + length (content line) = ap (λ (l : List ℕ). length l) before.1
    ∙ length-append before.0 (content line) in
    let column : length (uncommented line) - length (content line) + 1 ≡ length before.0 + 1 = omega (arith, long) in
    rw column (places_hold line before.0 (content line ++ tail.0) (blank_parts (content line)) whole (parts_spread (content line) tail.0))
