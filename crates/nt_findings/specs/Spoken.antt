-- The events that expectations speak of, but those of which they say that they never come.
use Rattle.std.specs.Prelude.{List, get_or, length, map, ◌++◌, ◌<◌, ◌≡◌}
use Rattle.nt_alike.specs.Lists.{Among}
use Rattle.nt_expect.specs.declared.expectations.Expectation.{Expectation}
use Rattle.nt_expect.specs.declared.expectations.Expectation.TheVariants.{AlwaysEnds, Never}
use Rattle.nt_findings.specs.declared.spoken.Spoken.{Spoken}
use Rattle.nt_verdict.specs.Closed.{watched_by}

-- the expectation of the number that is kept with the event speaks of it
abbrev pub IsSpoken : List Expectation → Spoken → Type 0
IsSpoken xs y = (y.of < length xs) × Among (λ z. y.event ≡ z) (watched_by (get_or xs y.of AlwaysEnds))

-- these expectations, and behind them that each of these events never comes
abbrev pub with_events : List Expectation → List Spoken → List Expectation
with_events xs ys = xs ++ map (λ y. Never y.event) ys
