-- A first line that is ended and printable, as its fields.
use Rattle.std.proofs.Common.{◌≡◌, ◌∙◌, ℕ, suc, ◌+◌, Bool, true, false, cond, List, [], ◌∷◌, ◌++◌, take, drop, Some, Ok, refl, sym, ap, append_assoc, arith}
use Rattle.std.specs.Prelude.{not, option_map, slice_get}
use Rattle.std.specs.List.{list_all, position, position_or_len}
use Rattle.std.proofs.lemmas.Bool.{and_from}
use Rattle.std.proofs.lemmas.List.Folds.{list_all-append}
use Rattle.std.proofs.lemmas.List.Splits.{slice_split_at, slice_split_none}
use Rattle.nt_text.specs.Lines.{is_byte, fields, lines, is_printable, row_of, is_field}
use Rattle.nt_text.proofs.Cuts.{more_lines, some_if}
use Rattle.nt_text.proofs.Rows.{no_space, no_newline, field_printable}

-- before the first byte that isn't kept all are
kept_before : (keep : ℕ → Bool) (xs : List ℕ) → list_all keep (take (position_or_len (λ b. not (keep b)) xs) xs) ≡ true
kept_before keep [] = refl
kept_before keep (x ∷ xs) = go (keep x) refl (position_or_len (λ b. not (keep b)) xs) (kept_before keep xs)
  where
    go : (t : Bool) → keep x ≡ t → (n : ℕ) → list_all keep (take n xs) ≡ true → list_all keep (take (cond (not (not t)) (1 + n) 0) (x ∷ xs)) ≡ true
    go false e n h = refl
    go true e n h = let one : 1 + n ≡ suc n = omega arith in rw one (and_from (keep x) (list_all keep (take n xs)) e h)

-- all bytes before the first that fails a test pass it
pub kept : (keep : ℕ → Bool) (xs : List ℕ) (n : ℕ) → position (λ b. not (keep b)) xs ≡ Some n → list_all keep (take n xs) ≡ true
kept keep xs n e = rw (← (some_if _ _ _ e).1) (kept_before keep xs)

-- bytes that begin with a printable line and its end
first_line : (line rest : List ℕ) → list_all is_printable line ≡ true → lines (line ++ 10 ∷ rest) ≡ (line, true) ∷ lines rest
first_line line rest e = rw (slice_split_at (is_byte 10) line 10 rest (no_newline line e) refl) (more_lines line rest)

-- an ended line of printable bytes is read as the row of its fields
whole_row : (line : List ℕ) → list_all is_printable line ≡ true → row_of (line, true) ≡ Ok (fields line)
whole_row line e = rw e refl

-- a text that begins with an ended printable line has its fields as first row, and its other lines are the rest
first_row : (bytes line rest : List ℕ) → list_all is_printable line ≡ true → bytes ≡ line ++ 10 ∷ rest →
    (option_map row_of (slice_get (lines bytes) 0) ≡ Some (Ok (fields line))) × (lines rest ≡ drop 1 (lines bytes))
first_row bytes line rest e is = rw (is, first_line line rest e) (ap Some (whole_row line e), refl)

-- a line of one field
pub one_field : (bytes field rest : List ℕ) → is_field field ≡ true → bytes ≡ field ++ 10 ∷ rest →
    (option_map row_of (slice_get (lines bytes) 0) ≡ Some (Ok (field ∷ []))) × (lines rest ≡ drop 1 (lines bytes))
one_field bytes field rest e is =
    rw (← slice_split_none (is_byte 32) field (no_space field e)) (first_row bytes field rest (field_printable field e) is)

-- a line of a field and others
pub more_fields : (bytes field line rest : List ℕ) → is_field field ≡ true → list_all is_printable line ≡ true → bytes ≡ field ++ 32 ∷ (line ++ 10 ∷ rest) →
    (option_map row_of (slice_get (lines bytes) 0) ≡ Some (Ok (field ∷ fields line))) × (lines rest ≡ drop 1 (lines bytes))
more_fields bytes field line rest e more is =
    let whole = field ++ 32 ∷ line in
    let all : list_all is_printable whole ≡ true = list_all-append is_printable field (32 ∷ line)
    ∙ and_from (list_all is_printable field) (list_all is_printable line) (field_printable field e) more in
    rw (← slice_split_at (is_byte 32) field 32 line (no_space field e) refl)
    (first_row bytes whole rest all (is ∙ sym (append_assoc field (32 ∷ line) (10 ∷ rest))))
