-- A keyword is read from its text in each version that has it, and from no other text.
use Rattle.std.proofs.Common.{◌≡◌, ℕ, zero, suc, ◌<◌, ◌≤◌, Bool, true, false, cond, List, length, Option, Some, None, refl, subst, arith}
use Rattle.std.specs.Prelude.{nat_le}
use Rattle.std.specs.Str.{bytes_eq}
use Rattle.std.proofs.lemmas.Bool.{leb-true, le-leb}
use Rattle.nt_event.specs.declared.commands.ApcKind.TheVariants.{Special, Normal, User}
use Rattle.nt_event.specs.declared.commands.Command.{Command}
use Rattle.nt_event.specs.declared.commands.Command.TheVariants as cmd
use Rattle.nt_line.specs.declared.keywords.Verb.TheVariants as verb
use Rattle.nt_line.specs.declared.keywords.Keyword.{Keyword}
use Rattle.nt_line.specs.declared.keywords.Keyword.TheVariants as keyword
use Rattle.nt_line.specs.declared.keywords.TheConstants.{KEYWORDS}
use Rattle.nt_line.specs.NameLists.{NameLists}
use Rattle.nt_line.specs.Keywords.{text_of, word_of, in_version, keyword_of, since}
use Rattle.nt_line.specs.Fits.{CommandFits}
use Rattle.nt_line.proofs.FieldTexts.{same_text, find_passes}
use Rattle.nt_line.proofs.Spelled.{command_keyword}

-- a keyword that passes the test of a version was found, and is in that version
in_version_ok : (v : ℕ) (o : Option Keyword) (w : Keyword) → in_version v o ≡ Some w → (o ≡ Some w) × (since w ≤ v)
in_version_ok v None w e = absurd cc
in_version_ok v (Some k) w e = go (nat_le (since k) v) refl e
  where
    go : (b : Bool) → nat_le (since k) v ≡ b → cond b (Some k) None ≡ Some w → (Some k ≡ Some w) × (since w ≤ v)
    go false is h = absurd cc
    go true is h = let same : k ≡ w = cc in (h, subst (λ (u : Keyword). since u ≤ v) same (leb-true (since k) v is))

-- a field that is read as a keyword is the keyword's text
word_is : (f : List ℕ) (w : Keyword) → word_of f ≡ Some w → f ≡ text_of w
unfolding word_of
word_is f w e = same_text f (text_of w) (find_passes (λ w. bytes_eq f (text_of w)) KEYWORDS w e)

-- a keyword that is read is spelled so, and the version has it
pub keyword_is : (v : ℕ) (f : List ℕ) (w : Keyword) → keyword_of v f ≡ Some w → (f ≡ text_of w) × (since w ≤ v)
keyword_is v f w e = let o = in_version_ok v (word_of f) w e in (word_is f w o.0, o.1)

-- a keyword's text is read as that keyword
word_again : (w : Keyword) → word_of (text_of w) ≡ Some w
unfolding word_of
word_again keyword.Version = refl
word_again keyword.Cpus = refl
word_again keyword.Depth = refl
word_again keyword.Threaded = refl
word_again keyword.Isr = refl
word_again (keyword.Dpc false) = refl
word_again (keyword.Dpc true) = refl
word_again keyword.Timer = refl
word_again keyword.Thread = refl
word_again (keyword.Apc Special) = refl
word_again (keyword.Apc Normal) = refl
word_again (keyword.Apc User) = refl
word_again keyword.Spinlock = refl
word_again keyword.Routine = refl
word_again keyword.Exit = refl
word_again (keyword.Call verb.Raise) = refl
word_again (keyword.Call verb.Lower) = refl
word_again (keyword.Call verb.Queue) = refl
word_again (keyword.Call verb.Unqueue) = refl
word_again (keyword.Call verb.SetImportance) = refl
word_again (keyword.Call verb.SetTarget) = refl
word_again (keyword.Call verb.SetTimer) = refl
word_again (keyword.Call verb.CancelTimer) = refl
word_again (keyword.Call verb.InsertApc) = refl
word_again (keyword.Call verb.RemoveApc) = refl
word_again (keyword.Call verb.EnterCrit) = refl
word_again (keyword.Call verb.EnterGuard) = refl
word_again (keyword.Call verb.LeaveCrit) = refl
word_again (keyword.Call verb.LeaveGuard) = refl
word_again (keyword.Call verb.StartWait) = refl
word_again (keyword.Call verb.Delay) = refl
word_again (keyword.Call verb.Release) = refl
word_again (keyword.Call verb.Alert) = refl
word_again (keyword.Call verb.TestAlert) = refl
word_again (keyword.Call verb.Interrupt) = refl
word_again (keyword.Call verb.Clock) = refl
word_again (keyword.Call verb.ToUser) = refl
word_again (keyword.Call verb.Yield) = refl
word_again (keyword.Call verb.Acquire) = refl
word_again (keyword.Call verb.Unlock) = refl
word_again (keyword.Call verb.Note) = refl

-- a keyword's text is read as that keyword in each version that has it
pub keyword_again : (v : ℕ) (w : Keyword) → since w ≤ v → keyword_of v (text_of w) ≡ Some w
keyword_again v w le = rw (word_again w, le-leb (since w) v le) refl

-- the version has the words for the things that have names: locks have none in version 1
pub record HasWords (names : NameLists) (version : ℕ) : Type 0 where
  pub from : 1 ≤ version
  pub no_locks : version ≤ 1 → length names.locks ≡ 0

-- if there is a lock with a name, the version is 2 or later
pub lock_since : (names : NameLists) (version k : ℕ) → HasWords names version → k < length names.locks → 2 ≤ version
lock_since names zero k has lt = let one = has.from in absurd (omega (arith, one))
lock_since names (suc zero) k has lt = let none = has.no_locks (omega arith) in absurd (omega (arith, none, lt))
lock_since names (suc (suc n)) k has lt = omega arith

-- so it has the keyword of each command that fits
pub command_since : (names : NameLists) (cpus version : ℕ) → HasWords names version → (c : Command) → CommandFits names cpus c →
    since (command_keyword c) ≤ version
command_since names cpus version has (cmd.Acquire k) h = lock_since names version k.0 has h
command_since names cpus version has (cmd.Unlock k) h = lock_since names version k.0 has h
command_since names cpus version has c h = has.from
