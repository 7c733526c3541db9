-- Which processors a report names as spinning, and on which locks.
use Rattle.std.specs.Prelude.{Some, is_some, not, reverse, true, ℕ, ◌&&◌, ◌<◌, ◌≡◌}
use Rattle.nt_event.specs.declared.events.History.{History}
use Rattle.nt_event.specs.declared.scripts.Script.{Script}
use Rattle.nt_event.specs.Jobs.{spins_still}
use Rattle.nt_event.specs.Numbers.{cpu}
use Rattle.nt_event.specs.Own.{own_of}
use Rattle.nt_event.specs.Robin.{is_settled}
use Rattle.nt_event.specs.Script.{fits}
use Rattle.nt_event.specs.Step.{IsRun, is_cut}
use Rattle.nt_runs.specs.SomeFrame.{some_frame, spins_lock}
use Rattle.nt_print.specs.declared.spins.Spun.{Spun}
use Rattle.nt_print.specs.Report.{spin_left}

-- the history is a settled run of a script that fits
pub record IsSettled (s : Script) (h : History) : Type 0 where
  pub fits : fits s ≡ true
  pub run : IsRun s h.turns (reverse h.events)
  pub settled : is_settled s h.turns (reverse h.events) ≡ true

-- its report has a line `spins` for a processor exactly where it isn't cut and spins still
abbrev pub SpinsLinesNameTheSpinners : Type 0
SpinsLinesNameTheSpinners = (s : Script) (h : History) (p : ℕ) → IsSettled s h → p < s.cpus → is_some (spin_left h p)
    ≡ (not (is_cut h.turns (own_of s (cpu p) (reverse h.events))) && spins_still (own_of s (cpu p) (reverse h.events)))

-- and the lock that such a line names is the one on which the processor spins
abbrev pub SpinsLinesNameTheLocks : Type 0
SpinsLinesNameTheLocks = (s : Script) (h : History) (p : ℕ) (x : Spun) → IsSettled s h → p < s.cpus →
    spin_left h p ≡ Some x → some_frame (spins_lock x.lock) s (cpu p) (reverse h.events) ≡ true
