-- What it means that an expectation fails in a script: some run shows it, under some schedule and some turn limit.
use Rattle.std.specs.Prelude.{List, length, ℕ, ◌≡◌}
use Rattle.nt_event.specs.declared.events.Event.{Event}
use Rattle.nt_event.specs.declared.scripts.Script.{Script}
use Rattle.nt_event.specs.Step.{IsRun}
use Rattle.nt_alike.specs.Free.{LooksAreShort}
use Rattle.nt_expect.specs.declared.expectations.Expectation.{Expectation}
use Rattle.nt_expect.specs.declared.expectations.Expectation.TheVariants.{Never, NeverAfter, NeverBefore, NeverTwice}
use Rattle.nt_expect.specs.declared.expectations.Expectation.TheVariants.{NeverAbove, NeverOn, NeverWith, NeverWaitsDpc}
use Rattle.nt_expect.specs.declared.expectations.Expectation.TheVariants.{NeverWaitsApc, NeverBlocked, NeverSpins}
use Rattle.nt_expect.specs.declared.expectations.Expectation.TheVariants.{Always, AlwaysEnds}
use Rattle.nt_expect.specs.Meaning.{IsShownAt}

-- some run shows it; each of its looks has at most 16 values, as many as the code's type has
pub record IsShown (s : Script) (x : Expectation) : Type 0 where
  pub limit : ℕ
  pub history : List Event
  pub number : ℕ
  pub run : IsRun s limit history
  pub looks : LooksAreShort history
  pub shown : IsShownAt s limit x history number

-- there are runs of every length
abbrev pub IsEndless : Script → Type 0
IsEndless s = (n : ℕ) → (limit : ℕ) × (h : List Event) × IsRun s limit h × LooksAreShort h × (length h ≡ n)

-- the expectation fails in some run of the script, under some schedule
abbrev pub Fails : Script → Expectation → Type 0
Fails s (Never x) = IsShown s (Never x)
Fails s (NeverAfter x y) = IsShown s (NeverAfter x y)
Fails s (NeverBefore x y) = IsShown s (NeverBefore x y)
Fails s (NeverTwice x) = IsShown s (NeverTwice x)
Fails s (NeverAbove x level) = IsShown s (NeverAbove x level)
Fails s (NeverOn x p) = IsShown s (NeverOn x p)
Fails s (NeverWith b c) = IsShown s (NeverWith b c)
Fails s (NeverWaitsDpc d) = IsShown s (NeverWaitsDpc d)
Fails s (NeverWaitsApc a) = IsShown s (NeverWaitsApc a)
Fails s (NeverBlocked t) = IsShown s (NeverBlocked t)
Fails s (NeverSpins k) = IsShown s (NeverSpins k)
Fails s (Always x) = IsShown s (Always x)
Fails s AlwaysEnds = IsEndless s
