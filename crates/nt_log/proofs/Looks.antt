-- The values of a look: what is read is written so, and what is written so is read.
use Rattle.std.proofs.Common.{◌≡◌, ◌∙◌, ℕ, zero, suc, ◌+◌, ◌-◌, ◌<◌, ◌≤◌, Bool, true, false, List, [], ◌∷◌, ◌++◌, length, set, take, drop, replicate, Option}
use Rattle.std.proofs.Common.{Some, None, Result, Ok, refl, sym, ap, subst, append_assoc, arith, lit<}
use Rattle.std.specs.Prelude.{decimal, ◌&&◌, ◌||◌, ◌==◌, nat_le, not, if◌then◌else◌}
use Rattle.std.specs.List.{join_with_byte, list_any, position}
use Rattle.std.proofs.lemmas.Bool.{and_from, and_parts, eqb-true, leb-true, le-leb}
use Rattle.std.proofs.lemmas.List.{length-append, set-append_right}
use Rattle.std.proofs.lemmas.List.Splits.{join_with_byte-slice_split, length-slice_split}
use Rattle.nt_text.specs.declared.kind.ScriptKind.{ScriptKind}
use Rattle.nt_text.specs.declared.kind.ScriptKind.TheVariants.{BadNumber}
use Rattle.nt_text.specs.Lines.{Row, is_byte, parts}
use Rattle.nt_text.proofs.Cuts.{cut_found, cut_missed}
use Rattle.nt_line.specs.Results.{◌>>=◌, ok_if}
use Rattle.nt_line.specs.Fields.{read_number}
use Rattle.nt_line.proofs.Results.{bind_ok, ok_if_ok}
use Rattle.nt_line.proofs.FieldTexts.{Takes, level_of_takes, number_again, number_takes}
use Rattle.nt_log.specs.Schedules.{is_written_class, rise_field, rise_in_classes, rises_row}
use Rattle.nt_log.specs.Reading.{read_class, read_rise, read_value, rise_at, rises_from}
use Rattle.nt_history.specs.Briefs.{one_rise}
use Rattle.nt_log.proofs.OneSchedule.{AreWords, rise_parts}

abbrev ok : {A : Type 0} → A → Result A ScriptKind
ok x = Ok x

-- a reader of a look's values that succeeds with one gives that one
ok_is : {A : Type 0} (x y : A) → ok x ≡ Ok y → x ≡ y
ok_is x y e = cc

-- ---- a class, and a value

abbrev is_class : ℕ → ℕ → ℕ → Bool
is_class ver least class = nat_le least class && is_written_class ver class

-- a class that is read is written in decimal, is at most 15 and is a class that may be named there
class_takes : (ver least : ℕ) → Takes (read_class ver least) decimal (λ c. (c ≤ 15) × (is_class ver least c ≡ true))
class_takes ver least = level_of_takes (is_class ver least)

-- a class of at most 15 that may be named there is read from its decimal digits
class_again : (ver least c : ℕ) → c ≤ 15 → is_class ver least c ≡ true → read_class ver least (decimal c) ≡ Ok c
class_again ver least c le used = rw (number_again 15 c (lit< tt) le, used) refl

-- a value that is read is written in decimal, is of 64 bits and is not zero
value_takes : Takes read_value decimal (λ v. (v ≤ 18446744073709551615) × ((v == 0) ≡ false))
value_takes = record { shown = λ f v e. (go f v e).0; fits = λ f v e. (go f v e).1 }
  where
    negated : (b : Bool) → not b ≡ true → b ≡ false
    negated true e = absurd cc
    negated false e = refl

    go : (f : List ℕ) (v : ℕ) → read_value f ≡ Ok v → (f ≡ decimal v) × ((v ≤ 18446744073709551615) × ((v == 0) ≡ false))
    go f v e =
        let b = bind_ok (read_number 18446744073709551615 f) (λ n. ok_if (not (n == 0)) n BadNumber) v e in
        let o = ok_if_ok (not (b.value == 0)) b.value BadNumber v b.then in
        let t = number_takes 18446744073709551615 (lit< tt) in
        subst (λ (n : ℕ). (f ≡ decimal n) × ((n ≤ 18446744073709551615) × ((n == 0) ≡ false))) o.1
        (t.shown f b.value b.is, (t.fits f b.value b.is, negated (b.value == 0) o.0))

-- a value of 64 bits that is not zero is read from its decimal digits
value_again : (v : ℕ) → v ≤ 18446744073709551615 → (v == 0) ≡ false → read_value (decimal v) ≡ Ok v
value_again v le some = rw (number_again 18446744073709551615 v (lit< tt) le, some) refl

-- ---- the field of a class and its value

-- a field joined with one or more others is the field, the byte between and the others joined
join_more : (c : ℕ) (f : List ℕ) (ps : List (List ℕ)) → 1 ≤ length ps → join_with_byte c (f ∷ ps) ≡ f ++ c ∷ join_with_byte c ps
join_more c f [] h = absurd (omega (arith, h))
join_more c f (p ∷ ps) h = refl

-- a text cut at a byte has at least one part
has_parts : (c : ℕ) (xs : List ℕ) → 1 ≤ length (parts c xs)
has_parts c xs = let e = length-slice_split (is_byte c) xs in omega (arith, e)

-- a field with an equals sign is what stands before the first one, the sign, and what stands after it
cut_at : (f : List ℕ) (i : ℕ) → position (is_byte 61) f ≡ Some i → f ≡ take i f ++ 61 ∷ drop (i + 1) f
cut_at f i e =
    sym (join_with_byte-slice_split 61 f) ∙ ap (join_with_byte 61) (cut_found 61 f i e)
    ∙ join_more 61 (take i f) (parts 61 (drop (i + 1) f)) (has_parts 61 (drop (i + 1) f))
    ∙ ap (λ (r : List ℕ). take i f ++ 61 ∷ r) (join_with_byte-slice_split 61 (drop (i + 1) f))

-- a field that was read as a class, which is not below this one, and its value
record Risen (ver least : ℕ) (f : List ℕ) (r : ℕ × ℕ) : Type 0 where
  shown : f ≡ rise_field r.0 r.1
  low : least ≤ r.0
  high : r.0 ≤ 15
  used : is_written_class ver r.0 ≡ true
  some : (r.1 == 0) ≡ false
  range : r.1 ≤ 18446744073709551615

-- a field that is read as a class and its value is written so, and both are in their ranges
rise_takes : (ver least : ℕ) (f : List ℕ) (r : ℕ × ℕ) → read_rise ver least f ≡ Ok r → Risen ver least f r
rise_takes ver least f r e = go (position (is_byte 61) f) refl e
  where
    go : (o : Option ℕ) → position (is_byte 61) f ≡ o → rise_at ver least f o ≡ Ok r → Risen ver least f r
    go None is e = absurd cc
    go (Some i) is e =
        let a = take i f in
        let z = drop (i + 1) f in
        let b = bind_ok (read_class ver least a) (λ c. read_value z >>= λ v. ok (c, v)) r e in
        let d = bind_ok (read_value z) (λ v. ok (b.value, v)) r b.then in
        let class = (class_takes ver least).fits a b.value b.is in
        let both = and_parts (nat_le least b.value) (is_written_class ver b.value) class.1 in
        let value = value_takes.fits z d.value d.is in
        subst (Risen ver least f) (ok_is (b.value, d.value) r d.then) (record {
          shown = cut_at f i is ∙ ap (λ (x : List ℕ). x ++ 61 ∷ z) ((class_takes ver least).shown a b.value b.is)
              ∙ ap (λ (x : List ℕ). decimal b.value ++ 61 ∷ x) (value_takes.shown z d.value d.is);
          low = leb-true least b.value both.0;
          high = class.0;
          used = both.1;
          some = value.1;
          range = value.0;
        })

abbrev rise : ℕ → ℕ → Result (ℕ × ℕ) ScriptKind
rise class value = Ok (class, value)

-- a class and a value that are both read make the rise of this class to this value
both_again : (ver least : ℕ) (a z : List ℕ) (c v : ℕ) → read_class ver least a ≡ Ok c → read_value z ≡ Ok v →
    (read_class ver least a >>= λ class. read_value z >>= rise class) ≡ rise c v
both_again ver least a z c v h k = rw (h, k) refl

-- the field of a class that may be named and of its value is read as these two
rise_again : (ver least c v : ℕ) → c ≤ 15 → least ≤ c → is_written_class ver c ≡ true → v ≤ 18446744073709551615 → (v == 0) ≡ false →
    read_rise ver least (rise_field c v) ≡ Ok (c, v)
rise_again ver least c v high low used range some = go (position (is_byte 61) (rise_field c v)) refl
  where
    cut : parts 61 (rise_field c v) ≡ decimal c ∷ decimal v ∷ []
    cut = rise_parts c v (omega (arith, high)) (omega (arith, range))

    go : (o : Option ℕ) → position (is_byte 61) (rise_field c v) ≡ o → rise_at ver least (rise_field c v) o ≡ Ok (c, v)
    go None is =
        let one : rise_field c v ∷ [] ≡ decimal c ∷ decimal v ∷ [] = sym (cut_missed 61 (rise_field c v) is) ∙ cut in
        absurd cc
    go (Some i) is =
        let a = take i (rise_field c v) in
        let z = drop (i + 1) (rise_field c v) in
        let two : a ∷ parts 61 z ≡ decimal c ∷ decimal v ∷ [] = sym (cut_found 61 (rise_field c v) i is) ∙ cut in
        let head : a ≡ decimal c = cc in
        let tail : parts 61 z ≡ decimal v ∷ [] = cc in
        let last : z ≡ decimal v = sym (join_with_byte-slice_split 61 z) ∙ ap (join_with_byte 61) tail in
        both_again ver least a z c v
        (ap (read_class ver least) head ∙ class_again ver least c high (and_from (nat_le least c) (is_written_class ver c) (le-leb least c low) used))
        (ap read_value last ∙ value_again v range some)

-- ---- all values

abbrev zeros : ℕ → List ℕ
zeros n = replicate n 0

-- a list of a known length has one more after a member is put at its end
one_more : (xs : List ℕ) (x n : ℕ) → length xs ≡ n → length (xs ++ x ∷ []) ≡ n + 1
one_more xs x n len = length-append xs (x ∷ []) ∙ ap (λ (k : ℕ). k + 1) len

-- fields that were read as the values of the classes from this one on, behind those of the classes before
pub record Rising (ver : ℕ) (before : List ℕ) (n least : ℕ) (row : Row) (out : List ℕ) : Type 0 where
  pub tail : List ℕ
  pub is : out ≡ before ++ tail
  pub size : length tail ≡ n
  pub row_is : row ≡ rises_row least tail
  pub used : rise_in_classes ver least tail ≡ true
  pub range : AreWords tail
  pub some : 1 ≤ length row → list_any (λ v. not (v == 0)) tail ≡ true

-- the class does not rise
none_first : (ver : ℕ) (before : List ℕ) (n least : ℕ) (row : Row) (out : List ℕ) → Rising ver (before ++ 0 ∷ []) n (least + 1) row out →
    Rising ver before (suc n) least row out
none_first ver before n least row out r = record {
  tail = 0 ∷ r.tail;
  is = r.is ∙ append_assoc before (0 ∷ []) r.tail;
  size = ap (λ (k : ℕ). suc k) r.size;
  row_is = r.row_is;
  used = r.used;
  range = (omega arith, r.range);
  some = r.some;
}

-- the class rises to this value
value_first : (ver : ℕ) (before : List ℕ) (n least value : ℕ) (f : List ℕ) (row : Row) (out : List ℕ) → f ≡ rise_field least value →
    is_written_class ver least ≡ true → (value == 0) ≡ false → value ≤ 18446744073709551615 → Rising ver (before ++ value ∷ []) n (least + 1) row out →
    Rising ver before (suc n) least (f ∷ row) out
value_first ver before n least value f row out shown used some range r = record {
  tail = value ∷ r.tail;
  is = r.is ∙ append_assoc before (value ∷ []) r.tail;
  size = ap (λ (k : ℕ). suc k) r.size;
  row_is = rw (some, shown) (ap (λ (fs : Row). rise_field least value ∷ fs) r.row_is);
  used = rw (some, used) r.used;
  range = (range, r.range);
  some = λ h. rw some refl;
}

-- case: no field is left, so the values of all the other classes are zero
nothing_rises : (ver : ℕ) (before : List ℕ) (n least : ℕ) (out : List ℕ) → out ≡ before ++ zeros n → Rising ver before n least [] out
nothing_rises ver before zero least out e = record {
  tail = [];
  is = e;
  size = refl;
  row_is = refl;
  used = refl;
  range = tt;
  some = λ h. absurd (omega (arith, h));
}
nothing_rises ver before (suc n) least out e =
    none_first ver before n least [] out (nothing_rises ver (before ++ 0 ∷ []) n (least + 1) out (e ∙ sym (append_assoc before (0 ∷ []) (zeros n))))

-- setting the zero after the values before puts the new value behind them and leaves the others
set_here : (before : List ℕ) (c v : ℕ) (more : List ℕ) → length before ≡ c → set (before ++ 0 ∷ more) c v ≡ (before ++ v ∷ []) ++ more
set_here before c v more len =
    let none : c - c ≡ 0 = omega arith in
    set-append_right before (0 ∷ more) c c v len (omega arith)
    ∙ ap (λ (k : ℕ). before ++ set (0 ∷ more) k v) none
    ∙ sym (append_assoc before (v ∷ []) more)

-- the next field is that of the class that stands this far behind
at_class : (ver far : ℕ) (before : List ℕ) (n least class value : ℕ) (f : List ℕ) (row : Row) (out : List ℕ) → class ≡ least + far → length before ≡ least →
    least + n ≡ 16 → class ≤ 15 → f ≡ rise_field class value → is_written_class ver class ≡ true → (value == 0) ≡ false → value ≤ 18446744073709551615 →
    ((before : List ℕ) (n : ℕ) → length before ≡ class + 1 → class + 1 + n ≡ 16 → rises_from ver (before ++ zeros n) (class + 1) row ≡ Ok out →
    Rising ver before n (class + 1) row out) →
    rises_from ver (set (before ++ zeros n) class value) (class + 1) row ≡ Ok out → Rising ver before n least (f ∷ row) out
at_class ver far before zero least class value f row out is len all high shown used some range more e = absurd (omega (arith, all, high, is))
at_class ver zero before (suc n) least class value f row out is len all high shown used some range more e =
    let here : class ≡ least = omega (arith, is) in
    let now : rises_from ver ((before ++ value ∷ []) ++ zeros n) (class + 1) row ≡ Ok out =
    ap (λ (vs : List ℕ). rises_from ver vs (class + 1) row) (sym (set_here before class value (zeros n) (omega (arith, len, here)))) ∙ e in
    let grown : length (before ++ value ∷ []) ≡ class + 1 = one_more before value class (omega (arith, len, here)) in
    let r = more (before ++ value ∷ []) n grown (omega (arith, all, here)) now in
    subst (λ (k : ℕ). Rising ver before (suc n) k (f ∷ row) out) here (value_first ver before n class value f row out shown used some range r)
at_class ver (suc far) before (suc n) least class value f row out is len all high shown used some range more e =
    let grown : length (before ++ 0 ∷ []) ≡ least + 1 = one_more before 0 least len in
    let now : rises_from ver (set ((before ++ 0 ∷ []) ++ zeros n) class value) (class + 1) row ≡ Ok out =
    ap (λ (vs : List ℕ). rises_from ver (set vs class value) (class + 1) row) (append_assoc before (0 ∷ []) (zeros n)) ∙ e in
    none_first ver before n least (f ∷ row) out
    (at_class ver far (before ++ 0 ∷ []) n (least + 1) class value f row out (omega (arith, is)) grown (omega (arith, all)) high shown used some range more now)

-- fields that are read as the rises of the classes from one on are the row of the values read for them
pub rises_take : (ver : ℕ) (row : Row) (before : List ℕ) (n least : ℕ) (out : List ℕ) → length before ≡ least → least + n ≡ 16 →
    rises_from ver (before ++ zeros n) least row ≡ Ok out → Rising ver before n least row out
rises_take ver [] before n least out len all e = nothing_rises ver before n least out (sym (ok_is (before ++ zeros n) out e))
rises_take ver (f ∷ row) before n least out len all e =
    let b = bind_ok (read_rise ver least f) (λ (r : ℕ × ℕ). rises_from ver (set (before ++ zeros n) r.0 r.1) (r.0 + 1) row) out e in
    let t = rise_takes ver least f b.value b.is in
    let low = t.low in
    at_class ver (b.value.0 - least) before n least b.value.0 b.value.1 f row out (omega (arith, low)) len all t.high t.shown t.used t.some t.range
    (λ other k l m h. rises_take ver row other k (b.value.0 + 1) out l m h) b.then

-- the row of the rises of the classes from one on is read as those values, behind the values before
pub rises_again : (ver : ℕ) (vs before : List ℕ) (least class : ℕ) → length before ≡ class → least ≤ class → class + length vs ≡ 16 →
    rise_in_classes ver class vs ≡ true → AreWords vs →
    rises_from ver (before ++ zeros (length vs)) least (rises_row class vs) ≡ Ok (before ++ vs)
rises_again ver [] before least class len low all used range = refl
rises_again ver (v ∷ vs) before least class len low all used range =
    let both = and_parts (v == 0 || is_written_class ver class) (rise_in_classes ver (class + 1) vs) used in
    let next : (w k : ℕ) → k ≤ class + 1 →
    rises_from ver ((before ++ w ∷ []) ++ zeros (length vs)) k (rises_row (class + 1) vs) ≡ Ok ((before ++ w ∷ []) ++ vs) =
    λ w k le. rises_again ver vs (before ++ w ∷ []) k (class + 1) (one_more before w class len) le (omega (arith, all)) both.1 range.1 in
    go next both.0 (v == 0) refl
  where
    used_here : (b : Bool) → b ≡ false → (b || is_written_class ver class) ≡ true → is_written_class ver class ≡ true
    used_here true none e = absurd cc
    used_here false none e = e

    go : ((w k : ℕ) → k ≤ class + 1 → rises_from ver ((before ++ w ∷ []) ++ zeros (length vs)) k (rises_row (class + 1) vs) ≡ Ok ((before ++ w ∷ []) ++ vs)) →
        (v == 0 || is_written_class ver class) ≡ true → (b : Bool) → (v == 0) ≡ b →
        rises_from ver (before ++ zeros (suc (length vs))) least (if b then rises_row (class + 1) vs else rise_field class v ∷ rises_row (class + 1) vs)
        ≡ Ok (before ++ v ∷ vs)
    go next h true is =
        let none : v ≡ 0 = eqb-true v 0 is in
        ap (λ (xs : List ℕ). rises_from ver xs least (rises_row (class + 1) vs)) (sym (append_assoc before (0 ∷ []) (zeros (length vs))))
        ∙ next 0 least (omega (arith, low)) ∙ ap ok (append_assoc before (0 ∷ []) vs ∙ ap (λ (w : ℕ). before ++ w ∷ vs) (sym none))
    go next h false is =
        let here = rise_again ver least class v (omega (arith, all)) low (used_here (v == 0) is h) range.0 is in
        rw here (ap (λ (xs : List ℕ). rises_from ver xs (class + 1) (rises_row (class + 1) vs)) (set_here before class v (zeros (length vs)) len)
        ∙ next v (class + 1) (omega arith) ∙ ap ok (append_assoc before (v ∷ []) vs))

-- ---- a look in which one class alone rose

-- where none rose, there is no field
no_row : (class n : ℕ) → rises_row class (zeros n) ≡ []
no_row class zero = refl
no_row class (suc n) = no_row (class + 1) n

-- where the class is none, no field
far_set : (n i v : ℕ) → n ≤ i → set (zeros n) i v ≡ zeros n
far_set zero i v h = refl
far_set (suc n) zero v h = absurd (omega (arith, h))
far_set (suc n) (suc i) v h = ap (λ (l : List ℕ). 0 ∷ l) (far_set n i v (omega (arith, h)))

-- a rise in a class from 16 on, which is none, has no field
pub far_rise_row : (class value : ℕ) → 16 ≤ class → rises_row 0 (one_rise class value).value ≡ []
far_rise_row class value h = ap (rises_row 0) (far_set 16 class value h) ∙ no_row 0 16
