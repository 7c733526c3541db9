-- Numbers that are passed, since no event named by them is an insert that waits.
use Rattle.std.proofs.Common.{◌≡◌, ℕ, zero, suc, ◌+◌, ◌-◌, ◌<◌, ◌≤◌, true, List, ◌++◌, length, take, reverse, None, refl, subst, arith}
use Rattle.std.specs.Prelude.{IfSome}
use Rattle.nt_text.specs.Lines.{rows_text}
use Rattle.nt_event.specs.declared.events.Event.{Event}
use Rattle.nt_event.specs.declared.scripts.Script.{Script}
use Rattle.nt_event.specs.Fate.{Thing}
use Rattle.nt_line.specs.NameLists.{NameLists}
use Rattle.nt_print.specs.declared.tally.Tally.{Tally}
use Rattle.nt_print.specs.Flags.{AreClear}
use Rattle.nt_print.specs.Tally.{TalliesAll}
use Rattle.nt_print.specs.Uses.{inserted_at, thing_fits, waits_at}
use Rattle.nt_print.proofs.Tallied.{none_waits}
use Rattle.nt_print.proofs.WaitRows.{none_put, waits_before, waits_counted, waits_so_far}

-- what goes on from number to number holds behind them
through : (P : ℕ → Type 0) (a d e : ℕ) → e ≡ a + d → ((n : ℕ) → a ≤ n → n < e → P n → P (n + 1)) → P a → P e
through P a zero e is step h = let same : a ≡ e = omega (arith, is) in subst P same h
through P a (suc d) e is step h =
    let last : (a + d) + 1 ≡ e = omega (arith, is) in
    let before : P (a + d) = through P a d (a + d) refl (λ n lo lt. step n lo (omega (arith, is, lt))) h in
    subst P last (step (a + d) (omega arith) (omega (arith, is)) before)

-- the inserts of all events are of things of the script
abbrev pub AllFit : Script → List Event → Type 0
AllFit s events = (n : ℕ) → n < length events → IfSome (inserted_at events n) (λ thing. thing_fits s thing ≡ true)

-- from a cleared number up to the next one that may wait, no event is an insert that waits
clear_waits : (s : Script) (events : List Event) (t : Tally) (a e n : ℕ) → TalliesAll s events t → AllFit s events → AreClear t.unnamed a e →
    e ≤ length events → a ≤ n → n < e → None ≡ waits_at (reverse events) n (inserted_at events n)
clear_waits s events t a e n tallies fits clear within lo lt =
    let below : n < length events = omega (arith, lt, within) in
    none_waits s events n t below tallies (fits n below) (clear n lo lt)

-- the rows of waits stay as they are over events in a stretch where no flag is set
pub rows_passed : (s : Script) (names : NameLists) (events : List Event) (t : Tally) (a e : ℕ) (old now : List ℕ) → TalliesAll s events t → AllFit s events →
    AreClear t.unnamed a e → a ≤ e → e ≤ length events →
    now ≡ old ++ rows_text (waits_so_far names (reverse events) (reverse (take a events))) →
    now ≡ old ++ rows_text (waits_so_far names (reverse events) (reverse (take e events)))
rows_passed s names events t a e old now tallies fits clear le within before =
    through (λ (m : ℕ). now ≡ old ++ rows_text (waits_so_far names (reverse events) (reverse (take m events)))) a (e - a) e (omega (arith, le))
    (λ n lo lt h. none_put names events n old now (omega (arith, lt, within)) h (clear_waits s events t a e n tallies fits clear within lo lt)) before

-- the number of waits stays as it is over events in a stretch where no flag is set
pub count_passed : (s : Script) (events : List Event) (t : Tally) (a e count : ℕ) → TalliesAll s events t → AllFit s events → AreClear t.unnamed a e →
    a ≤ e → e ≤ length events → count ≡ waits_before events a → count ≡ waits_before events e
count_passed s events t a e count tallies fits clear le within before =
    through (λ (m : ℕ). count ≡ waits_before events m) a (e - a) e (omega (arith, le))
    (λ n lo lt h. waits_counted (λ (thing : Thing). thing) events n count None (omega (arith, lt, within)) h
    (clear_waits s events t a e n tallies fits clear within lo lt)) before
