-- Where a level stands, its name is read as its number.
use Rattle.std.proofs.Common.{◌≡◌, ℕ, zero, suc, ◌≤◌, true, false, List, [], ◌∷◌, ◌++◌, refl, sym, ap, ◌∙◌, append_assoc, append-nil, arith}
use Rattle.std.specs.Prelude.{◌||◌, codes, decimal}
use Rattle.std.specs.Fmt.{digits}
use Rattle.std.specs.Str.{bytes_eq}
use Rattle.std.proofs.lemmas.Bool.{false_from_ne_true}
use Rattle.std.proofs.lemmas.Slice.Eq.{bytes_eq-Decides}
use Rattle.nt_text.specs.Lines.{Row}
use Rattle.nt_event.specs.declared.commands.Command.{Command}
use Rattle.nt_event.specs.declared.commands.Command.TheVariants as cmd
use Rattle.nt_event.specs.declared.scripts.Isr.{Isr}
use Rattle.nt_event.specs.Script.{command_fits}
use Rattle.nt_line.specs.declared.keywords.Keyword.TheVariants as keyword
use Rattle.nt_line.specs.declared.keywords.Verb.{Verb}
use Rattle.nt_line.specs.declared.keywords.Verb.TheVariants as verb
use Rattle.nt_line.specs.Fits.{CommandFits, HasRange}
use Rattle.nt_line.specs.Keywords.{keyword_of, text_of, verb_since, verb_text}
use Rattle.nt_line.specs.NameLists.{NameLists}
use Rattle.nt_line.specs.Rows.{command_args, command_row, command_verb, isr_row, show_cpu}
use Rattle.nt_line.proofs.Words.{keyword_again}
use Rattle.nt_script.specs.declared.walk.Input.{Input}
use Rattle.nt_script.specs.Sound.{IsSound}
use Rattle.nt_script.proofs.Fit.{Fit}
use Rattle.nt_script.proofs.Soundness.{Counts, command_from, sound_fits}
use Rattle.nt_friendly.specs.declared.levels.Next.{Next}
use Rattle.nt_friendly.specs.declared.levels.Next.TheVariants as next
use Rattle.nt_friendly.specs.Levels.{behind_keyword, behind_verb, replaced, strict_row}
use Rattle.nt_friendly.specs.Named.{level_fields, named_args, named_command, named_isr}
use Rattle.nt_friendly.proofs.Names.{ArePlain, plain_fields}
use Rattle.nt_friendly.proofs.Plain.{command_clean, is_plain}

-- ---- how fields are gone over

-- these fields, from n on, are written as those, and m stands behind them
abbrev pub Reads : Next → Next → Row → Row → Type 0
Reads n m named row = (more : Row) → replaced n (named ++ more) ≡ row ++ replaced m more

-- fields and others behind them
pub both : (n m k : Next) (a b c d : Row) → Reads n m a b → Reads m k c d → Reads n k (a ++ c) (b ++ d)
both n m k a b c d h g more =
    ap (λ (r : Row). replaced n r) (append_assoc a c more) ∙ h (c ++ more) ∙ ap (λ (r : Row). b ++ r) (g more) ∙ sym (append_assoc b d (replaced k more))

-- fields that end a row
pub ends : (n m : Next) (a b : Row) → Reads n m a b → replaced n a ≡ b
ends n m a b h = ap (λ (r : Row). replaced n r) (sym (append-nil a)) ∙ h [] ∙ append-nil b

-- ---- levels

-- what holds of 0 to 15 holds of each number up to 15
up_to_15 : (P : ℕ → Type 0) → P 0 → P 1 → P 2 → P 3 → P 4 → P 5 → P 6 → P 7 → P 8 → P 9 → P 10 → P 11 → P 12 → P 13 → P 14 → P 15 →
    (n : ℕ) → n ≤ 15 → P n
up_to_15 P p0 p1 p2 p3 p4 p5 p6 p7 p8 p9 p10 p11 p12 p13 p14 p15 zero h = p0
up_to_15 P p0 p1 p2 p3 p4 p5 p6 p7 p8 p9 p10 p11 p12 p13 p14 p15 (suc zero) h = p1
up_to_15 P p0 p1 p2 p3 p4 p5 p6 p7 p8 p9 p10 p11 p12 p13 p14 p15 (suc (suc zero)) h = p2
up_to_15 P p0 p1 p2 p3 p4 p5 p6 p7 p8 p9 p10 p11 p12 p13 p14 p15 (suc (suc (suc n))) h =
    up_to_12 (λ k. P (suc (suc (suc k)))) p3 p4 p5 p6 p7 p8 p9 p10 p11 p12 p13 p14 p15 n (omega (arith, h))
  where
    up_to_12 : (P : ℕ → Type 0) → P 0 → P 1 → P 2 → P 3 → P 4 → P 5 → P 6 → P 7 → P 8 → P 9 → P 10 → P 11 → P 12 → (n : ℕ) → n ≤ 12 → P n
    up_to_12 P p0 p1 p2 p3 p4 p5 p6 p7 p8 p9 p10 p11 p12 zero h = p0
    up_to_12 P p0 p1 p2 p3 p4 p5 p6 p7 p8 p9 p10 p11 p12 (suc zero) h = p1
    up_to_12 P p0 p1 p2 p3 p4 p5 p6 p7 p8 p9 p10 p11 p12 (suc (suc zero)) h = p2
    up_to_12 P p0 p1 p2 p3 p4 p5 p6 p7 p8 p9 p10 p11 p12 (suc (suc (suc zero))) h = p3
    up_to_12 P p0 p1 p2 p3 p4 p5 p6 p7 p8 p9 p10 p11 p12 (suc (suc (suc (suc zero)))) h = p4
    up_to_12 P p0 p1 p2 p3 p4 p5 p6 p7 p8 p9 p10 p11 p12 (suc (suc (suc (suc (suc zero))))) h = p5
    up_to_12 P p0 p1 p2 p3 p4 p5 p6 p7 p8 p9 p10 p11 p12 (suc (suc (suc (suc (suc (suc zero)))))) h = p6
    up_to_12 P p0 p1 p2 p3 p4 p5 p6 p7 p8 p9 p10 p11 p12 (suc (suc (suc (suc (suc (suc (suc zero))))))) h = p7
    up_to_12 P p0 p1 p2 p3 p4 p5 p6 p7 p8 p9 p10 p11 p12 (suc (suc (suc (suc (suc (suc (suc (suc zero)))))))) h = p8
    up_to_12 P p0 p1 p2 p3 p4 p5 p6 p7 p8 p9 p10 p11 p12 (suc (suc (suc (suc (suc (suc (suc (suc (suc zero))))))))) h = p9
    up_to_12 P p0 p1 p2 p3 p4 p5 p6 p7 p8 p9 p10 p11 p12 (suc (suc (suc (suc (suc (suc (suc (suc (suc (suc zero)))))))))) h = p10
    up_to_12 P p0 p1 p2 p3 p4 p5 p6 p7 p8 p9 p10 p11 p12 (suc (suc (suc (suc (suc (suc (suc (suc (suc (suc (suc zero))))))))))) h = p11
    up_to_12 P p0 p1 p2 p3 p4 p5 p6 p7 p8 p9 p10 p11 p12 (suc (suc (suc (suc (suc (suc (suc (suc (suc (suc (suc (suc zero)))))))))))) h = p12
    up_to_12 P p0 p1 p2 p3 p4 p5 p6 p7 p8 p9 p10 p11 p12 (suc (suc (suc (suc (suc (suc (suc (suc (suc (suc (suc (suc (suc n))))))))))))) h =
        absurd (omega (arith, h))

-- the name of a level behind `int` or `above`, and then a word
pub bound_reads : (level : ℕ) → level ≤ 15 → Reads next.Bound next.Word (level_fields level) (decimal level ∷ [])
unfolding digits
bound_reads = up_to_15 (λ l. Reads next.Bound next.Word (level_fields l) (decimal l ∷ [])) (λ _. refl) (λ _. refl) (λ _. refl) (λ _. refl) (λ _. refl)
    (λ _. refl) (λ _. refl) (λ _. refl) (λ _. refl) (λ _. refl) (λ _. refl) (λ _. refl) (λ _. refl) (λ _. refl) (λ _. refl) (λ _. refl)

-- the name of a level of a command, and then other fields
pub level_reads : (level : ℕ) → level ≤ 15 → Reads next.Level next.Rest (level_fields level) (decimal level ∷ [])
unfolding digits
level_reads = up_to_15 (λ l. Reads next.Level next.Rest (level_fields l) (decimal l ∷ [])) (λ _. refl) (λ _. refl) (λ _. refl) (λ _. refl) (λ _. refl)
    (λ _. refl) (λ _. refl) (λ _. refl) (λ _. refl) (λ _. refl) (λ _. refl) (λ _. refl) (λ _. refl) (λ _. refl) (λ _. refl) (λ _. refl)

-- ---- commands

-- a plain field is not `->`
plain_no_arrow : (f : List ℕ) → is_plain f ≡ true → bytes_eq f (codes "->") ≡ false
plain_no_arrow f e = false_from_ne_true (bytes_eq f (codes "->")) (λ same. no (ap is_plain (sym ((bytes_eq-Decides f (codes "->")).0 same)) ∙ e))
  where
    no : is_plain (codes "->") ≡ true → ⊥
    no h = absurd cc

-- plain fields behind a command's word stay
rest_reads : (row : Row) → ArePlain row → Reads next.Rest next.Rest row row
rest_reads [] h more = refl
rest_reads (f ∷ fs) h more = rw (plain_no_arrow f h.0) (ap (λ (r : Row). f ∷ r) (rest_reads fs h.1 more))

-- the word of a command is none of an expectation, and version 2 has it
verb_known : (v : Verb) → ((bytes_eq (verb_text v) (codes "never") || bytes_eq (verb_text v) (codes "always")) ≡ false) × (verb_since v ≤ 2)
verb_known verb.Raise = (refl, omega arith)
verb_known verb.Lower = (refl, omega arith)
verb_known verb.Queue = (refl, omega arith)
verb_known verb.Unqueue = (refl, omega arith)
verb_known verb.SetImportance = (refl, omega arith)
verb_known verb.SetTarget = (refl, omega arith)
verb_known verb.SetTimer = (refl, omega arith)
verb_known verb.CancelTimer = (refl, omega arith)
verb_known verb.InsertApc = (refl, omega arith)
verb_known verb.RemoveApc = (refl, omega arith)
verb_known verb.EnterCrit = (refl, omega arith)
verb_known verb.EnterGuard = (refl, omega arith)
verb_known verb.LeaveCrit = (refl, omega arith)
verb_known verb.LeaveGuard = (refl, omega arith)
verb_known verb.StartWait = (refl, omega arith)
verb_known verb.Delay = (refl, omega arith)
verb_known verb.Release = (refl, omega arith)
verb_known verb.Alert = (refl, omega arith)
verb_known verb.TestAlert = (refl, omega arith)
verb_known verb.Interrupt = (refl, omega arith)
verb_known verb.Clock = (refl, omega arith)
verb_known verb.ToUser = (refl, omega arith)
verb_known verb.Yield = (refl, omega arith)
verb_known verb.Acquire = (refl, omega arith)
verb_known verb.Unlock = (refl, omega arith)
verb_known verb.Note = (refl, omega arith)

-- what stands behind the word of a command is told by the command
behind_is : (v : Verb) → behind_keyword (keyword_of 2 (text_of (keyword.Call v))) ≡ behind_verb v
behind_is v = ap behind_keyword (keyword_again 2 (keyword.Call v) (verb_known v).1)

-- a command's word and the fields behind it
verb_reads : (v : Verb) (m : Next) (args row : Row) → Reads (behind_verb v) m args row →
    Reads next.Verb m (text_of (keyword.Call v) ∷ args) (text_of (keyword.Call v) ∷ row)
verb_reads v m args row h more = rw (behind_is v) (ap (λ (r : Row). text_of (keyword.Call v) ∷ r) (h more))

-- the fields of a command, a level by its name
args_read : (names : NameLists) (cpus : ℕ) (c : Command) → CommandFits names cpus c → ArePlain (command_args names c) →
    Reads (behind_verb (command_verb c)) next.Rest (named_args c (command_args names c)) (command_args names c)
args_read names cpus (cmd.Raise level) h p = level_reads level h
args_read names cpus (cmd.Lower level) h p = level_reads level h
args_read names cpus (cmd.Interrupt cpu level) h p = λ more. ap (λ (r : Row). show_cpu cpu ∷ r) (level_reads level h.1.0 more)
args_read names cpus (cmd.Queue d) h p = rest_reads (command_args names (cmd.Queue d)) p
args_read names cpus (cmd.Unqueue d) h p = rest_reads (command_args names (cmd.Unqueue d)) p
args_read names cpus (cmd.SetImportance d i) h p = rest_reads (command_args names (cmd.SetImportance d i)) p
args_read names cpus (cmd.SetTarget d t) h p = rest_reads (command_args names (cmd.SetTarget d t)) p
args_read names cpus (cmd.SetTimer t d e) h p = rest_reads (command_args names (cmd.SetTimer t d e)) p
args_read names cpus (cmd.CancelTimer t) h p = rest_reads (command_args names (cmd.CancelTimer t)) p
args_read names cpus (cmd.InsertApc a) h p = rest_reads (command_args names (cmd.InsertApc a)) p
args_read names cpus (cmd.RemoveApc a) h p = rest_reads (command_args names (cmd.RemoveApc a)) p
args_read names cpus cmd.EnterCrit h p = rest_reads [] p
args_read names cpus cmd.EnterGuard h p = rest_reads [] p
args_read names cpus cmd.LeaveCrit h p = rest_reads [] p
args_read names cpus cmd.LeaveGuard h p = rest_reads [] p
args_read names cpus (cmd.StartWait m a) h p = rest_reads (command_args names (cmd.StartWait m a)) p
args_read names cpus (cmd.Delay m a u) h p = rest_reads (command_args names (cmd.Delay m a u)) p
args_read names cpus (cmd.Release t) h p = rest_reads (command_args names (cmd.Release t)) p
args_read names cpus (cmd.Alert t m) h p = rest_reads (command_args names (cmd.Alert t m)) p
args_read names cpus (cmd.TestAlert m) h p = rest_reads (command_args names (cmd.TestAlert m)) p
args_read names cpus (cmd.Clock u) h p = rest_reads (command_args names (cmd.Clock u)) p
args_read names cpus cmd.ToUser h p = rest_reads [] p
args_read names cpus cmd.Yield h p = rest_reads [] p
args_read names cpus (cmd.Acquire k) h p = rest_reads (command_args names (cmd.Acquire k)) p
args_read names cpus (cmd.Unlock k) h p = rest_reads (command_args names (cmd.Unlock k)) p
args_read names cpus (cmd.Note n) h p = rest_reads (command_args names (cmd.Note n)) p

-- the fields of a command of a script are plain
pub command_plain : (input : Input) → Fit input → (c : Command) → CommandFits input.names input.script.cpus c → ArePlain (command_row input.names c)
command_plain input fit c h = plain_fields (command_row input.names c) (command_clean input.names fit.names input.script.cpus fit.cpus.1 c h)

-- a command behind `call`, a level by its name
pub command_reads : (input : Input) → Fit input → (c : Command) → CommandFits input.names input.script.cpus c →
    Reads next.Verb next.Rest (named_command input.names c) (command_row input.names c)
command_reads input fit c h = verb_reads (command_verb c) next.Rest (named_args c (command_args input.names c)) (command_args input.names c)
    (args_read input.names input.script.cpus c h (command_plain input fit c h).1)

-- a command that fits the script fits its line
pub command_fit : (input : Input) → IsSound input → (c : Command) → command_fits input.script c ≡ true → HasRange c →
    CommandFits input.names input.script.cpus c
command_fit input s c fits range =
    let counts : Counts input.script input.names = record {
      dpcs = s.dpcs;
      timers = s.timers;
      threads = s.threads;
      apcs = s.apcs;
      routines = s.routines;
      locks = s.locks;
    } in command_from input.script input.names counts c fits range

-- a line of a script that begins with the word of a command is read as behind `call`
line_verb : (v : Verb) (args : Row) → strict_row (text_of (keyword.Call v) ∷ args) ≡ replaced next.Verb (text_of (keyword.Call v) ∷ args)
line_verb v args = rw (verb_known v).0 refl

-- the line of a command, a level by its name, means the command's line
pub command_named : (input : Input) (c : Command) → IsSound input → command_fits input.script c ≡ true → HasRange c →
    strict_row (named_command input.names c) ≡ command_row input.names c
command_named input c s fits range =
    line_verb (command_verb c) (named_args c (command_args input.names c))
    ∙ ends next.Verb next.Rest (named_command input.names c) (command_row input.names c)
    (command_reads input (sound_fits input s) c (command_fit input s c fits range))

-- the line of an interrupt routine, its level by its name, means the routine's line
pub isr_named : (names : NameLists) (isr : Isr) → isr.level ≤ 15 → strict_row (named_isr names isr) ≡ isr_row names isr
isr_named names isr h =
    rw (keyword_again 2 keyword.Isr (omega arith)) (ap (λ (r : Row). text_of keyword.Isr ∷ show_cpu isr.cpu ∷ r) (level_reads isr.level h _))
