-- Which processors a report names as cut.
use Rattle.std.specs.Prelude.{List, [], if◌then◌else◌, reverse, ℕ, ◌∷◌, ◌≡◌}
use Rattle.nt_event.specs.declared.events.Event.{Event}
use Rattle.nt_event.specs.declared.events.History.{History}
use Rattle.nt_event.specs.declared.scripts.Script.{Script}
use Rattle.nt_event.specs.Numbers.{cpu}
use Rattle.nt_event.specs.Own.{made, own_of}
use Rattle.nt_event.specs.Step.{IsRun, is_cut}
use Rattle.nt_print.specs.Report.{cut_of, cut_row, made as printed_made}

-- the count that a report goes by is how many events the processor made
abbrev pub CountsAreMade : Type 0
CountsAreMade = (p : ℕ) (events : List Event) → printed_made p events ≡ made (cpu p) (reverse events)

-- in a run, the report has a line `cut` for a processor exactly where it is cut
abbrev pub CutLinesNameTheCut : Type 0
CutLinesNameTheCut = (s : Script) (h : History) (p : ℕ) → IsRun s h.turns (reverse h.events) → cut_of h p
    ≡ (if is_cut h.turns (own_of s (cpu p) (reverse h.events)) then cut_row p ∷ [] else [])
