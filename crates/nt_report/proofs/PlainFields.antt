-- What is read from fields is in range.
use Rattle.std.proofs.Common.{◌≡◌, ℕ, ◌+◌, ◌*◌, ◌<◌, ◌≤◌, Bool, true, false, cond, List, [], ◌∷◌, length, Option, Some, None, Ok, Err, refl, subst, arith, lit<}
use Rattle.std.specs.List.{AllByRecursion}
use Rattle.std.specs.Prelude.{IfSome, codes, find, nat_le, nat_lt, not, ◌&&◌, ◌||◌, ◌==◌}
use Rattle.std.specs.Char.{is_ascii_digit}
use Rattle.std.proofs.lemmas.Bool.{and_parts, leb-true, lt-ltb}
use Rattle.nt_text.specs.declared.kind.ScriptKind.TheVariants.{BadNumber}
use Rattle.nt_text.specs.Lines.{Row}
use Rattle.nt_event.specs.declared.commands.Refusal.{Refusal}
use Rattle.nt_event.specs.declared.commands.Reply.{Reply}
use Rattle.nt_event.specs.declared.commands.Reply.TheVariants.{Blocked, Done, No, Refused, Spin, Status, Yes}
use Rattle.nt_event.specs.declared.numbers.CpuNo.{CpuNo}
use Rattle.nt_event.specs.declared.numbers.ThreadNo.{ThreadNo}
use Rattle.nt_event.specs.declared.scripts.Script.{Script}
use Rattle.nt_event.specs.Numbered.{refusal_name, refusal_number}
use Rattle.nt_event.specs.Script.{has_thread, where_given}
use Rattle.nt_line.specs.NameLists.{NameLists}
use Rattle.nt_line.specs.Results.{◌>>=◌, or_error}
use Rattle.nt_line.specs.Fields.{dash, read_cpu, read_number}
use Rattle.nt_line.proofs.Results.{bind_ok, or_error_ok}
use Rattle.nt_line.proofs.FieldTexts.{cpu_takes, number_takes, unless_takes}
use Rattle.nt_line.proofs.UsedNames.{AreFew, thread_takes}
use Rattle.nt_print.specs.Conditions.{IsWord, ReplyInRange, StatusInRange}
use Rattle.nt_report.specs.declared.fields.TheConstants.{REFUSALS}
use Rattle.nt_report.specs.declared.words.ReplyWord.{ReplyWord}
use Rattle.nt_report.specs.declared.words.ReplyWord.TheVariants as word
use Rattle.nt_report.specs.Fields.{behind_word, hexadecimal_after, hexadecimal_of, hexadecimal_value, is_hexadecimal_digit, one_field, read_event}
use Rattle.nt_report.specs.Fields.{read_hexadecimal, read_processor, read_refusal, read_reply_word, read_running, refusal_of, refused, replied, reply_of}
use Rattle.nt_report.specs.Fields.{status, used}
use Rattle.nt_report.proofs.Steps.{kept, made, missed, ok, one_fits, one_ok, through}

-- ---- processors and threads

-- a processor that is read from a field is one of the script's
pub processor_fits : (cpus : ℕ) (f : List ℕ) (p : CpuNo) → read_processor cpus f ≡ Ok p → nat_lt p.0 cpus ≡ true
processor_fits cpus [] p e = absurd cc
processor_fits cpus (c ∷ cs) p e = go (c == 112) e
  where
    go : (b : Bool) → cond b (read_cpu cpus cs) (Err BadNumber) ≡ Ok p → nat_lt p.0 cpus ≡ true
    go true e = lt-ltb p.0 cpus ((cpu_takes cpus).fits cs p e)
    go false e = absurd cc

-- a place below one of two equal counts is below the other one by the test
pub has_it : (i n m : ℕ) → n ≡ m → i < n → nat_lt i m ≡ true
has_it i n m e lt = lt-ltb i m (omega (arith, e, lt))

-- a running thread that is read from a field is one of the script's
pub running_fits : (s : Script) (names : NameLists) → AreFew names → length names.threads ≡ length s.threads → (f : List ℕ) (t : Option ThreadNo) →
    read_running names f ≡ Ok t → where_given (has_thread s) t ≡ true
running_fits s names few same f t e = go t ((unless_takes dash (thread_takes names few)).fits f t e)
  where
    go : (t : Option ThreadNo) → IfSome t (λ x. x.0 < length names.threads) → where_given (has_thread s) t ≡ true
    go None h = refl
    go (Some x) h = has_it x.0 (length names.threads) (length s.threads) same h

-- ---- numbers

-- a number that is read from one field in decimal has 32 bits
pub event_word : (row : Row) (y : ℕ × Row) → one_field read_event row ≡ Ok y → IsWord y.0
event_word row y e = one_fits (number_takes 4294967295 (lit< tt)) row y e

-- the value of a hexadecimal digit is at most 15
digit_small : (c : ℕ) → is_hexadecimal_digit c ≡ true → hexadecimal_value c ≤ 15
digit_small c h = go (is_ascii_digit c) (nat_le 97 c && nat_le c 102) refl refl h
  where
    go : (b d : Bool) → is_ascii_digit c ≡ b → (nat_le 97 c && nat_le c 102) ≡ d → (b || d) ≡ true → hexadecimal_value c ≤ 15
    go true d is so h = let p = and_parts (nat_le 48 c) (nat_le c 57) is in let most = leb-true c 57 p.1 in rw is (omega (arith, most))
    go false true is so h = let p = and_parts (nat_le 97 c) (nat_le c 102) so in let most = leb-true c 102 p.1 in rw is (omega (arith, most))
    go false false is so h = absurd cc

-- a hexadecimal number that is read on from 32 bits has at most 32 bits
hexadecimal_small : (n : ℕ) (cs : List ℕ) (m : ℕ) → n ≤ 4294967295 → hexadecimal_after n cs ≡ Some m → m ≤ 4294967295
hexadecimal_small n [] m le e = let same : n ≡ m = cc in omega (arith, le, same)
hexadecimal_small n (c ∷ cs) m le e =
    let k = kept (is_hexadecimal_digit c && nat_le n 268435455) (hexadecimal_after (16 * n + hexadecimal_value c) cs) m e in
    let p = and_parts (is_hexadecimal_digit c) (nat_le n 268435455) k.0 in
    let digit = digit_small c p.0 in
    let most = leb-true n 268435455 p.1 in
    hexadecimal_small (16 * n + hexadecimal_value c) cs m (omega (arith, digit, most)) k.1

-- a hexadecimal number that is read from a field fits in 64 bits
hexadecimal_number : (f : List ℕ) (m : ℕ) → hexadecimal_of f ≡ Some m → IsWord m
hexadecimal_number [] m e = absurd cc
hexadecimal_number (c ∷ cs) m e =
    hexadecimal_small 0 (c ∷ cs) m (omega arith) (missed (c == 48 && not (length cs == 0)) (hexadecimal_after 0 (c ∷ cs)) m e)

-- a number that is read from one field in hexadecimal has 32 bits
pub hexadecimal_word : (row : Row) (y : ℕ × Row) → one_field read_hexadecimal row ≡ Ok y → IsWord y.0
hexadecimal_word row y e =
    let o = one_ok read_hexadecimal row y e in hexadecimal_number o.0 y.0 (or_error_ok BadNumber (hexadecimal_of o.0) y.0 o.1)

-- ---- replies

abbrev pub ReplyRead : Reply × Row → Type 0
ReplyRead y = ReplyInRange y.0

-- a refusal that is read from a row is a reply in range
refused_fits : (row : Row) (y : Reply × Row) → refused row ≡ Ok y → ReplyRead y
refused_fits row y e =
    through ReplyRead (one_field read_refusal row) (λ (r : Refusal × Row). behind_word (refusal_name r.0) r.1 >>= λ left. ok (Refused r.0, left)) y e
    (λ r is then. through ReplyRead (behind_word (refusal_name r.0) r.1) (λ (left : Row). ok (Refused r.0, left)) y then
    (λ left is' then'. made ReplyRead (Refused r.0, left) y then' tt))

-- a reply that is read after its first word is in range
reply_of_fits : (w : ReplyWord) (row : Row) (y : Reply × Row) → reply_of w row ≡ Ok y → ReplyRead y
reply_of_fits word.Done row y e = made ReplyRead (Done, row) y e tt
reply_of_fits word.Yes row y e = made ReplyRead (Yes, row) y e tt
reply_of_fits word.No row y e = made ReplyRead (No, row) y e tt
reply_of_fits word.Blocked row y e = made ReplyRead (Blocked, row) y e tt
reply_of_fits word.Spin row y e = made ReplyRead (Spin, row) y e tt
reply_of_fits word.Refused row y e = refused_fits row y e
reply_of_fits word.Status row y e =
    through ReplyRead (one_field read_hexadecimal row) (λ (x : ℕ × Row). ok (Status x.0, x.1)) y e
    (λ x is then. made ReplyRead (Status x.0, x.1) y then (hexadecimal_word row x is))

-- a reply that is read has its numbers in range
pub replied_fits : (row : Row) (y : Reply × Row) → replied row ≡ Ok y → ReplyRead y
replied_fits row y e =
    through ReplyRead (behind_word (codes "->") row >>= one_field read_reply_word) (λ (w : ReplyWord × Row). reply_of w.0 w.1) y e
    (λ w is then. reply_of_fits w.0 w.1 y then)

-- the number that is read of the event that is used up has 32 bits
pub used_word : (row : Row) (y : ℕ × Row) → used row ≡ Ok y → IsWord y.0
used_word row y e =
    through (λ (y : ℕ × Row). IsWord y.0) (behind_word (codes "of") row) (one_field read_event) y e (λ left is then. event_word left y then)

-- a status that is read is in range
pub status_fits : (row : Row) (y : Option ℕ × Row) → status row ≡ Ok y → StatusInRange y.0
status_fits [] y e = made (λ (y : Option ℕ × Row). StatusInRange y.0) (None, []) y e tt
status_fits (f ∷ fs) y e =
    through (λ (y : Option ℕ × Row). StatusInRange y.0) (behind_word (codes "status") (f ∷ fs) >>= one_field read_hexadecimal)
    (λ (x : ℕ × Row). ok (Some x.0, x.1)) y e
    (λ x is then. through (λ (x : ℕ × Row). ok (Some x.0, x.1) ≡ Ok y → StatusInRange y.0)
    (behind_word (codes "status") (f ∷ fs)) (one_field read_hexadecimal) x is
    (λ left is' then'. λ made_so. made (λ (y : Option ℕ × Row). StatusInRange y.0) (Some x.0, x.1) y made_so (hexadecimal_word left x then')) then)
