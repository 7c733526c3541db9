-- The lines of processors that spin, one after the other, and what the tally tells of each.
use Rattle.std.proofs.Common.{◌≡◌, ◌∙◌, ℕ, suc, ◌+◌, ◌-◌, ◌<◌, Bool, true, List, ◌++◌, length, get_or, take, reverse, Option, Some, None, sym, ap, subst, arith}
use Rattle.std.specs.Prelude.{IfSome, ◌==◌, ◌||◌, if◌then◌else◌}
use Rattle.std.proofs.Math.Seq.{take-length}
use Rattle.nt_event.specs.declared.events.Event.{Event}
use Rattle.nt_event.specs.declared.events.History.{History}
use Rattle.nt_event.specs.declared.scripts.Script.{Script}
use Rattle.nt_event.specs.Fitting.{events_fit}
use Rattle.nt_event.specs.Numbers.{cpu}
use Rattle.nt_event.specs.Own.{rested}
use Rattle.nt_event.specs.Script.{has_lock}
use Rattle.nt_line.specs.NameLists.{NameLists}
use Rattle.nt_print.specs.declared.spins.Spun.{Spun}
use Rattle.nt_print.specs.declared.tally.Tally.{Tally}
use Rattle.nt_print.specs.Report.{made, spin_left, spin_of, spin_rows}
use Rattle.nt_print.specs.Spins.{last_spin}
use Rattle.nt_print.specs.Tally.{TalliesAll, rests_by}
use Rattle.nt_print.proofs.OneReport.{SpinIsPlain, left_plain}

-- the lines of the processors from p on are that of p and those of the processors from p + 1 on
pub spins_go_on : (names : NameLists) (h : History) (p cpus : ℕ) → p < cpus → spin_rows names h p (cpus - p)
    ≡ spin_of names p (spin_left h p) ++ spin_rows names h (p + 1) (cpus - (p + 1))
spins_go_on names h p cpus lt =
    let more : cpus - p ≡ suc (cpus - (p + 1)) = omega arith in ap (λ (n : ℕ). spin_rows names h p n) more

-- the tally of all events tells the line of a processor of the script
pub left_told : (s : Script) (h : History) (t : Tally) (p : ℕ) (so : Bool) (last answer : Option Spun) → TalliesAll s h.events t → p < s.cpus →
    so ≡ ((get_or t.made p 0 == h.turns) || rests_by t p) → last ≡ get_or t.spins p None → answer ≡ (if so then None else last) →
    answer ≡ spin_left h p
left_told s h t p so last answer a lt out at is =
    let all : take (length h.events) h.events ≡ h.events = take-length h.events in
    let many = a.places.made in
    let rests = a.places.rested in
    let spins = a.places.spins in
    let m : get_or t.made p 0 ≡ made p h.events =
    subst (λ (es : List Event). get_or t.made p 0 ≡ made p es) all (a.counts.made p (omega (arith, lt, many))) in
    let r : rests_by t p ≡ rested (cpu p) (reverse h.events) =
    subst (λ (es : List Event). rests_by t p ≡ rested (cpu p) (reverse es)) all (a.spinning.rests p (omega (arith, lt, rests))) in
    let x : get_or t.spins p None ≡ last_spin (cpu p) (reverse h.events) =
    subst (λ (es : List Event). get_or t.spins p None ≡ last_spin (cpu p) (reverse es)) all (a.spinning.spins p (omega (arith, lt, spins))) in
    is ∙ ap (λ (b : Bool). if b then None else last)
    (out ∙ ap (λ (n : ℕ). (n == h.turns) || rests_by t p) m ∙ ap (λ (b : Bool). (made p h.events == h.turns) || b) r)
    ∙ ap (λ (o : Option Spun). if (made p h.events == h.turns) || rested (cpu p) (reverse h.events) then None else o) (at ∙ x)

-- and the lock of that line is one of the script
pub lock_left : (s : Script) (h : History) (p : ℕ) (o : Option Spun) → o ≡ spin_left h p → events_fit s h.events ≡ true →
    IfSome o (λ x. has_lock s x.lock ≡ true)
lock_left s h p o is fit =
    subst (λ (o : Option Spun). IfSome o (λ x. has_lock s x.lock ≡ true)) (sym is) (lock (spin_left h p) (left_plain s h p fit))
  where
    lock : (o : Option Spun) → SpinIsPlain s (length h.events) o → IfSome o (λ x. has_lock s x.lock ≡ true)
    lock None k = tt
    lock (Some x) k = k.1
