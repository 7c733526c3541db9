-- A field that is read is spelled so, and what is spelled so is read: numbers and words.
use Rattle.std.proofs.Common.{◌≡◌, ℕ, ◌^◌, ◌<◌, ◌≤◌, Bool, true, false, cond, List, [], ◌∷◌, Option, Some, None, Result, Ok, Err, refl, ◌∙◌, ap, subst, arith}
use Rattle.std.proofs.Common.{lit<}
use Rattle.std.specs.Prelude.{codes, decimal, nat_lt, IfSome, find}
use Rattle.std.specs.Str.{bytes_eq}
use Rattle.std.proofs.lemmas.Bool.{ltb-true, lt-ltb}
use Rattle.std.proofs.lemmas.Slice.Eq.{bytes_eq-Decides}
use Rattle.nt_text.specs.declared.kind.ScriptKind.{ScriptKind}
use Rattle.nt_text.specs.declared.kind.ScriptKind.TheVariants.{BadNumber, UnknownWord}
use Rattle.nt_text.specs.Fields.{number_up_to}
use Rattle.nt_text.proofs.Decimals.{number_up_to_takes, number_up_to_again}
use Rattle.nt_event.specs.declared.numbers.CpuNo.{CpuNo}
use Rattle.nt_event.specs.declared.commands.Importance.{Importance}
use Rattle.nt_event.specs.declared.commands.Importance.TheVariants.{Low, Medium, MediumHigh, High}
use Rattle.nt_event.specs.declared.commands.Mode.{Mode}
use Rattle.nt_event.specs.declared.commands.Mode.TheVariants.{Kernel, User}
use Rattle.nt_event.specs.Classes.{is_requested_level, is_isr_level}
use Rattle.nt_line.specs.declared.fields.TheConstants.{IMPORTANCES}
use Rattle.nt_line.specs.Results.{◌>>=◌, ok_if}
use Rattle.nt_line.specs.Fields.{own, read_number, read_level, read_interrupt, read_isr_level, read_cpu, read_unless, read_target, importance_text}
use Rattle.nt_line.specs.Fields.{read_importance, mode_text, read_mode, flag_text, read_flag, alertable_text, read_alertable, on_off_text, read_on_off}
use Rattle.nt_line.specs.Rows.{show_cpu, show_unless, show_target}
use Rattle.nt_line.proofs.Results.{bind_ok, or_error_ok, ok_if_ok}

-- a reader of a field takes what is shown so, and it fits
pub record Takes {A : Type 0} (read : List ℕ → Result A ScriptKind) (show : A → List ℕ) (Fits : A → Type 0) : Type 0 where
  pub shown : (f : List ℕ) (x : A) → read f ≡ Ok x → f ≡ show x
  pub fits : (f : List ℕ) (x : A) → read f ≡ Ok x → Fits x

-- ---- numbers

-- a field that is read as a number is its decimal digits, and the number is within the limit
pub number_takes : (most : ℕ) → most < 2 ^ 64 → Takes (read_number most) decimal (λ n. n ≤ most)
number_takes most lt = record {
  shown = λ f n e. (number_up_to_takes most f n lt (or_error_ok BadNumber (number_up_to most f) n e)).0;
  fits = λ f n e. (number_up_to_takes most f n lt (or_error_ok BadNumber (number_up_to most f) n e)).1;
}

-- the decimal digits of a number within the reader's limit are read as that number
pub number_again : (most n : ℕ) → most < 2 ^ 64 → n ≤ most → read_number most (decimal n) ≡ Ok n
number_again most n lt le = rw (number_up_to_again most n lt le) refl

-- a field that is read as a level is the decimal digits of a number up to 15
pub level_takes : Takes read_level decimal (λ l. l ≤ 15)
level_takes = number_takes 15 (lit< tt)

-- a level of a kind
abbrev pub read_level_of : (ℕ → Bool) → List ℕ → Result ℕ ScriptKind
read_level_of test f = read_number 15 f >>= λ n. ok_if (test n) n BadNumber

-- a field that is read as a level of a kind is the decimal digits of a level that passes the kind's test
pub level_of_takes : (test : ℕ → Bool) → Takes (read_level_of test) decimal (λ l. (l ≤ 15) × (test l ≡ true))
level_of_takes test = record {
  shown = λ f n e. level_takes.shown f n (go f n e).0;
  fits = λ f n e. (level_takes.fits f n (go f n e).0, (go f n e).1);
}
  where
    go : (f : List ℕ) (n : ℕ) → read_level_of test f ≡ Ok n → (read_level f ≡ Ok n) × (test n ≡ true)
    go f n e =
        let b = bind_ok (read_number 15 f) (λ n. ok_if (test n) n BadNumber) n e in
        let o = ok_if_ok (test b.value) b.value BadNumber n b.then in
        (b.is ∙ ap (λ (k : ℕ). Ok k) o.1, rw (← o.1) o.0)

-- a field that is read as an interrupt's level is the digits of a level that may be requested
pub interrupt_takes : Takes read_interrupt decimal (λ l. (l ≤ 15) × (is_requested_level l ≡ true))
interrupt_takes = level_of_takes is_requested_level

-- a field that is read as an interrupt routine's level is the digits of a level that such a routine may have
pub isr_level_takes : Takes read_isr_level decimal (λ l. (l ≤ 15) × (is_isr_level l ≡ true))
isr_level_takes = level_of_takes is_isr_level

-- a field that is read as a processor is its text, and the processor is one of those there are
pub cpu_takes : (cpus : ℕ) → Takes (read_cpu cpus) show_cpu (λ p. p.0 < cpus)
cpu_takes cpus = record {
  shown = λ f p e. (number_takes 255 (lit< tt)).shown f p.0 (go f p e).0;
  fits = λ f p e. ltb-true p.0 cpus (go f p e).1;
}
  where
    go : (f : List ℕ) (p : CpuNo) → read_cpu cpus f ≡ Ok p → (read_number 255 f ≡ Ok p.0) × (nat_lt p.0 cpus ≡ true)
    go f p e =
        let b = bind_ok (read_number 255 f) (λ n. ok_if (nat_lt n cpus) (record { 0 = n }) BadNumber) p e in
        let o = ok_if_ok (nat_lt b.value cpus) (record { 0 = b.value }) BadNumber p b.then in
        let same : b.value ≡ p.0 = ap (λ (p : CpuNo). p.0) o.1 in
        (b.is ∙ ap (λ (k : ℕ). Ok k) same, rw (← same) o.0)

-- the text of a processor that is there is read as that processor
pub cpu_again : (cpus : ℕ) (p : CpuNo) → cpus ≤ 64 → p.0 < cpus → read_cpu cpus (show_cpu p) ≡ Ok p
cpu_again cpus p le lt = rw (number_up_to_again 255 p.0 (lit< tt) (omega arith), lt-ltb p.0 cpus lt) refl

-- ---- words

-- fields that the comparison of bytes finds equal are the same
pub same_text : (f g : List ℕ) → bytes_eq f g ≡ true → f ≡ g
same_text f g e = (bytes_eq-Decides f g).0 e

-- the comparison of bytes finds a field equal to itself
pub text_same : (f : List ℕ) → bytes_eq f f ≡ true
text_same f = (bytes_eq-Decides f f).1 refl

-- a thing, or a word for none
pub unless_takes : {A : Type 0} {read : List ℕ → Result A ScriptKind} {show : A → List ℕ} {Fits : A → Type 0} (none : List ℕ) → Takes read show Fits →
    Takes (read_unless none read) (show_unless none show) (λ o. IfSome o Fits)
unless_takes {A = A} {read = read} {show = show} {Fits = Fits} none t = record {
  shown = λ f o e. (go f (bytes_eq f none) refl o e).0;
  fits = λ f o e. (go f (bytes_eq f none) refl o e).1;
}
  where
    go : (f : List ℕ) (b : Bool) → bytes_eq f none ≡ b → (o : Option A) → cond b (Ok None) (read f >>= λ x. Ok (Some x)) ≡ Ok o →
        (f ≡ show_unless none show o) × IfSome o Fits
    go f true is None e = (same_text f none is, tt)
    go f true is (Some x) e = absurd cc
    go f false is o e =
        let b = bind_ok (read f) (λ x. Ok (Some x)) o e in
        let some : Some b.value ≡ o = cc in
        let P : Option A → Type 0 = λ o. (f ≡ show_unless none show o) × IfSome o Fits in
        subst P some (t.shown f b.value b.is, t.fits f b.value b.is)

-- a value whose text is not the word for none is read as that value where none is allowed too
pub unless_again : {A : Type 0} (none : List ℕ) (read : List ℕ → Result A ScriptKind) (show : A → List ℕ) (x : A) → bytes_eq (show x) none ≡ false →
    read (show x) ≡ Ok x → read_unless none read (show x) ≡ Ok (Some x)
unless_again none read show x other e = rw (other, e) refl

-- a field that is read as a DPC's target is its text, and a target processor is one of those there are
pub target_takes : (cpus : ℕ) → Takes (read_target cpus) show_target (λ o. IfSome o (λ p. p.0 < cpus))
target_takes cpus = unless_takes own (cpu_takes cpus)

-- a number is not the word for no target
number_not_own : (n : ℕ) → n ≤ 255 → bytes_eq (decimal n) own ≡ false
number_not_own n le = go (bytes_eq (decimal n) own) refl
  where
    go : (b : Bool) → bytes_eq (decimal n) own ≡ b → b ≡ false
    go false e = refl
    go true e =
        let same : decimal n ≡ own = same_text (decimal n) own e in
        let read : number_up_to 255 own ≡ Some n = subst (λ (f : List ℕ). number_up_to 255 f ≡ Some n) same (number_up_to_again 255 n (lit< tt) le) in
        absurd cc

-- the text of a target, none or a processor that is there, is read as that target
pub target_again : (cpus : ℕ) (o : Option CpuNo) → cpus ≤ 64 → IfSome o (λ p. p.0 < cpus) → read_target cpus (show_target o) ≡ Ok o
target_again cpus None le h = refl
target_again cpus (Some p) le h =
    unless_again own (read_cpu cpus) show_cpu p (number_not_own p.0 (omega (arith, le, h))) (cpu_again cpus p le h)

-- what a search by a test finds passes the test
pub find_passes : {A : Type 0} (p : A → Bool) (xs : List A) (x : A) → find p xs ≡ Some x → p x ≡ true
find_passes p [] x e = absurd cc
find_passes p (y ∷ ys) x e = go (p y) refl e (find_passes p ys x)
  where
    go : (b : Bool) → p y ≡ b → cond b (Some y) (find p ys) ≡ Some x → (find p ys ≡ Some x → p x ≡ true) → p x ≡ true
    go true is e more = let same : y ≡ x = cc in rw (← same) is
    go false is e more = more e

-- a field that is read as an importance is the word for that importance
pub importance_takes : Takes read_importance importance_text (λ i. Unit {0})
unfolding read_importance
importance_takes = record {
  shown = λ f i e. same_text f (importance_text i) (find_passes (λ i. bytes_eq f (importance_text i)) IMPORTANCES i
      (or_error_ok UnknownWord (find (λ i. bytes_eq f (importance_text i)) IMPORTANCES) i e));
  fits = λ f i e. tt;
}

-- the word for an importance is read as that importance
pub importance_again : (i : Importance) → read_importance (importance_text i) ≡ Ok i
unfolding read_importance
importance_again Low = refl
importance_again Medium = refl
importance_again MediumHigh = refl
importance_again High = refl

-- a field that is read as a processor mode is the word for that mode
pub mode_takes : Takes read_mode mode_text (λ m. Unit {0})
mode_takes = record { shown = λ f m e. go f (bytes_eq f (codes "kernel")) (bytes_eq f (codes "user")) refl refl m e; fits = λ f m e. tt }
  where
    go : (f : List ℕ) (b d : Bool) → bytes_eq f (codes "kernel") ≡ b → bytes_eq f (codes "user") ≡ d → (m : Mode) →
        cond b (Ok Kernel) (cond d (Ok User) (Err UnknownWord)) ≡ Ok m → f ≡ mode_text m
    go f true d p q Kernel e = same_text f (codes "kernel") p
    go f true d p q User e = absurd cc
    go f false true p q Kernel e = absurd cc
    go f false true p q User e = same_text f (codes "user") q
    go f false false p q m e = absurd cc

-- the word for a processor mode is read as that mode
pub mode_again : (m : Mode) → read_mode (mode_text m) ≡ Ok m
mode_again Kernel = refl
mode_again User = refl

-- a field that is read as one of two words is the word for the value read
pub flag_takes : (on off : List ℕ) → Takes (read_flag on off) (flag_text on off) (λ m. Unit {0})
flag_takes on off = record { shown = λ f m e. go f (bytes_eq f on) (bytes_eq f off) refl refl m e; fits = λ f m e. tt }
  where
    go : (f : List ℕ) (b d : Bool) → bytes_eq f on ≡ b → bytes_eq f off ≡ d → (m : Bool) → cond b (Ok true) (cond d (Ok false) (Err UnknownWord)) ≡ Ok m → f
        ≡ flag_text on off m
    go f true d p q true e = same_text f on p
    go f true d p q false e = absurd cc
    go f false true p q true e = absurd cc
    go f false true p q false e = same_text f off q
    go f false false p q m e = absurd cc

-- a field that is read as alertable or plain is the word for that
pub alertable_takes : Takes read_alertable alertable_text (λ m. Unit {0})
alertable_takes = flag_takes (codes "alertable") (codes "plain")

-- the word for alertable or plain is read as that
pub alertable_again : (m : Bool) → read_alertable (alertable_text m) ≡ Ok m
alertable_again true = refl
alertable_again false = refl

-- a field that is read as on or off is the word for that
pub on_off_takes : Takes read_on_off on_off_text (λ m. Unit {0})
on_off_takes = flag_takes (codes "on") (codes "off")

-- the word for on or off is read as that
pub on_off_again : (m : Bool) → read_on_off (on_off_text m) ≡ Ok m
on_off_again true = refl
on_off_again false = refl
