-- What an advance of a worker's processor over a seat leaves of its work.
use Rattle.std.specs.Prelude.{List, ℕ, ◌++◌, ◌<◌, ◌≡◌, ◌≤◌}
use Rattle.nt_cpu.specs.States.{CpuState}
use Rattle.nt_cpu.specs.Steps.{Advanced, AreLooked}
use Rattle.nt_cpu.specs.declared.steps.Turned.TheVariants.{Did}
use Rattle.nt_event.specs.declared.events.Event.{Event}
use Rattle.nt_event.specs.declared.numbers.CpuNo.{CpuNo}
use Rattle.nt_event.specs.declared.scripts.Script.{Script}
use Rattle.nt_floor.specs.Views.{View as WordsView}
use Rattle.nt_lane.specs.Seats.{FoundBy}
use Rattle.nt_lane_record.specs.Passes.{Grows}
use Rattle.nt_lane.specs.Views.{words_of}
use Rattle.nt_mark.specs.declared.marks.Marks.{Marks}
use Rattle.nt_mark.specs.declared.view.Look.{Look}
use Rattle.nt_mark.specs.declared.view.View.{View}
use Rattle.nt_mark.specs.Names.{cpus_of}
use Rattle.nt_mark.specs.Views.{reach, request_word, step_word}
use Rattle.nt_live.specs.Workers.{IsAtWork}

-- what is known of a worker's work goes on through an advance of its processor that made an event
abbrev pub AdvancesKeepWork : Type 0
AdvancesKeepWork =
    (s : Script) (limit : ℕ) (m : Marks) (c d : CpuState) (v w : View) (answers : List ℕ) (u : WordsView) (e : Event) →
    cpus_of m ≡ s.cpus → IsAtWork s limit (record { cpu = c; view = v }) → AreLooked c answers (words_of m v) u →
    Advanced c d answers (λ n e st f. FoundBy s w n e st f) (Did e) u (words_of m w) → Grows v w →
    IsAtWork s limit (record { cpu = d; view = w })

-- the pass drew and marked nothing; it looked, and may know more
pub record OnlyLooked (s : Script) (v w : View) (looks : List Look) : Type 0 where
  pub entries : w.entries ≡ v.entries
  pub marks : w.marks ≡ v.marks
  pub looks_are : w.looks ≡ v.looks ++ looks
  pub next : reach step_word v ≤ reach step_word w
  pub words : (q : CpuNo) (c : ℕ) → q.0 < s.cpus → c < 16 → reach (request_word q c) v ≤ reach (request_word q c) w
  pub grows : Grows v w

-- it goes on through looks alone
abbrev pub LooksKeepWork : Type 0
LooksKeepWork = (s : Script) (limit : ℕ) (c : CpuState) (v w : View) (looks : List Look) →
    IsAtWork s limit (record { cpu = c; view = v }) → OnlyLooked s v w looks →
    IsAtWork s limit (record { cpu = c; view = w })
