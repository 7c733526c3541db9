-- How long fields are: names, numbers and words.
use Rattle.std.proofs.Common.{arith, refl}
use Rattle.std.proofs.lemmas.Bool.{and_parts, eqb-false, leb-true}
use Rattle.std.proofs.lemmas.Fmt.{length-decimal-le}
use Rattle.std.specs.Fmt.{digit_glyph, digits, digits_onto}
use Rattle.std.specs.List.{AllByRecursion, list_all}
use Rattle.std.specs.Prelude.{Bool, List, [], cond, decimal, false, get_or, length, nat_le, not, suc, true, zero, ℕ, ◌%◌, ◌&&◌, ◌+◌, ◌/◌}
use Rattle.std.specs.Prelude.{◌++◌, ◌<◌, ◌==◌, ◌^◌, ◌∷◌, ◌≡◌, ◌≤◌}
use Rattle.nt_event.specs.declared.commands.Importance.{Importance}
use Rattle.nt_event.specs.declared.commands.Importance.TheVariants.{High, Low, Medium, MediumHigh}
use Rattle.nt_event.specs.declared.commands.Mode.{Mode}
use Rattle.nt_event.specs.declared.commands.Mode.TheVariants.{Kernel, User}
use Rattle.nt_event.specs.declared.commands.Refusal.{Refusal}
use Rattle.nt_event.specs.declared.commands.Refusal.TheVariants.{BelowBase, HeldHere, LockHeld, NotBase, NotEntered, NotGreater, NotLast, NotLess, NotThread}
use Rattle.nt_event.specs.declared.commands.Refusal.TheVariants.{RegionsOpen, TooHigh}
use Rattle.nt_event.specs.Numbered.{refusal_name, refusal_number}
use Rattle.nt_line.specs.Fields.{alertable_text, importance_text, mode_text, on_off_text}
use Rattle.nt_line.specs.NameLists.{AreNew, NameLists}
use Rattle.nt_line.proofs.Found.{names_fit}
use Rattle.nt_script.specs.declared.walk.Input.{Input}
use Rattle.nt_script.specs.Sound.{IsSound}
use Rattle.nt_text.specs.Fields.{is_name, is_name_byte}

-- ---- names

abbrev pub IsShort : List ℕ → Type 0
IsShort name = length name ≤ 16

pub record NamesAreShort (names : NameLists) : Type 0 where
  pub dpcs : AllByRecursion IsShort names.dpcs
  pub timers : AllByRecursion IsShort names.timers
  pub threads : AllByRecursion IsShort names.threads
  pub apcs : AllByRecursion IsShort names.apcs
  pub locks : AllByRecursion IsShort names.locks
  pub routines : AllByRecursion IsShort names.routines

-- a name is short
short : (n : List ℕ) → is_name n ≡ true → IsShort n
short n h =
    let all = and_parts (not (length n == 0) && nat_le (length n) 16) (list_all is_name_byte n) h in
    leb-true (length n) 16 (and_parts (not (length n == 0)) (nat_le (length n) 16) all.0).1

-- each of a list of new names is short
new_short : (before ns : List (List ℕ)) → AreNew before ns → AllByRecursion IsShort ns
new_short before [] h = tt
new_short before (n ∷ ns) h = (short n h.0, new_short (before ++ n ∷ []) ns h.2)

-- the names of a sound input are short
pub names_short : (input : Input) → IsSound input → NamesAreShort input.names
names_short input sound =
    let names = input.names in
    let f = names_fit names sound.names in
    record {
      dpcs = new_short [] names.dpcs f.dpcs;
      timers = new_short names.dpcs names.timers f.timers;
      threads = new_short (names.dpcs ++ names.timers) names.threads f.threads;
      apcs = new_short ((names.dpcs ++ names.timers) ++ names.threads) names.apcs f.apcs;
      locks = new_short (((names.dpcs ++ names.timers) ++ names.threads) ++ names.apcs) names.locks f.locks;
      routines = new_short ((((names.dpcs ++ names.timers) ++ names.threads) ++ names.apcs) ++ names.locks) names.routines f.routines;
    }

-- the name at a place, and what stands for a missing one
pub shown : (ns : List (List ℕ)) (i : ℕ) → AllByRecursion IsShort ns → length (get_or ns i []) ≤ 16
shown [] i h = omega arith
shown (n ∷ ns) zero h = h.0
shown (n ∷ ns) (suc i) h = shown ns i h.1

-- ---- numbers

-- of 32 bits
pub word_width : (n : ℕ) → n ≤ 4294967295 → length (decimal n) ≤ 10
word_width n h = length-decimal-le 10 n (omega arith) (omega (arith, h)) (omega (arith, h))

-- of events
pub event_width : (n : ℕ) → n ≤ 160000 → length (decimal n) ≤ 6
event_width n h = length-decimal-le 6 n (omega arith) (omega (arith, h)) (omega (arith, h))

-- of processors, levels and classes
pub low_width : (n : ℕ) → n ≤ 99 → length (decimal n) ≤ 2
low_width n h = length-decimal-le 2 n (omega arith) (omega (arith, h)) (omega (arith, h))

-- the last digits in base 16
onto_width : (j i n : ℕ) (acc : List ℕ) → n < 16 ^ suc j → length (digits_onto i 16 false n acc) ≤ suc j + length acc
onto_width j zero n acc h = omega arith
onto_width zero (suc i) n acc h = go (n / 16 == 0) refl
  where
    go : (b : Bool) → (n / 16 == 0) ≡ b →
        length (cond b (digit_glyph false (n % 16) ∷ acc) (digits_onto i 16 false (n / 16) (digit_glyph false (n % 16) ∷ acc))) ≤ 1 + length acc
    go true e = omega arith
    go false e = let more = eqb-false (n / 16) 0 e in absurd (more (omega (arith, h)))
onto_width (suc j) (suc i) n acc h = go (n / 16 == 0) (onto_width j i (n / 16) (digit_glyph false (n % 16) ∷ acc) (omega (arith, h)))
  where
    go : (b : Bool) → length (digits_onto i 16 false (n / 16) (digit_glyph false (n % 16) ∷ acc)) ≤ suc j + length (digit_glyph false (n % 16) ∷ acc) →
        length (cond b (digit_glyph false (n % 16) ∷ acc) (digits_onto i 16 false (n / 16) (digit_glyph false (n % 16) ∷ acc))) ≤ suc (suc j) + length acc
    go true rest = omega arith
    go false rest = omega (arith, rest)

-- of 32 bits, in base 16
pub hexadecimal_width : (n : ℕ) → n ≤ 4294967295 → length (digits 16 false n) ≤ 8
unfolding digits
hexadecimal_width n h = let most = onto_width 7 64 n [] (omega (arith, h)) in omega (arith, most)

-- ---- words

-- the word of an importance has at most 10 bytes
pub importance_width : (i : Importance) → length (importance_text i) ≤ 10
importance_width Low = omega arith
importance_width Medium = omega arith
importance_width MediumHigh = omega arith
importance_width High = omega arith

-- the word of a mode has at most 6 bytes
pub mode_width : (m : Mode) → length (mode_text m) ≤ 6
mode_width Kernel = omega arith
mode_width User = omega arith

-- the word for alertable or not has at most 9 bytes
pub alertable_width : (a : Bool) → length (alertable_text a) ≤ 9
alertable_width true = omega arith
alertable_width false = omega arith

-- the word for on or off has at most 3 bytes
pub on_off_width : (on : Bool) → length (on_off_text on) ≤ 3
on_off_width true = omega arith
on_off_width false = omega arith

-- a refusal's number and its name
pub refusal_widths : (r : Refusal) → (refusal_number r ≤ 99) × (length (refusal_name r) ≤ 11)
refusal_widths NotThread = (omega arith, omega arith)
refusal_widths NotBase = (omega arith, omega arith)
refusal_widths TooHigh = (omega arith, omega arith)
refusal_widths RegionsOpen = (omega arith, omega arith)
refusal_widths NotGreater = (omega arith, omega arith)
refusal_widths NotLess = (omega arith, omega arith)
refusal_widths BelowBase = (omega arith, omega arith)
refusal_widths NotEntered = (omega arith, omega arith)
refusal_widths LockHeld = (omega arith, omega arith)
refusal_widths HeldHere = (omega arith, omega arith)
refusal_widths NotLast = (omega arith, omega arith)
