-- Workers that have met: their processors, one pass for all, and one list of all events.
use Rattle.std.specs.Prelude.{All, Contains, List, [], get_or, length, map, true, ℕ, ◌<◌, ◌≡◌, ◌≤◌, ◌⊎◌}
use Rattle.nt_event.specs.declared.events.Event.{Event}
use Rattle.nt_event.specs.declared.numbers.CpuNo.{CpuNo}
use Rattle.nt_event.specs.declared.scripts.Script.{Script}
use Rattle.nt_event.specs.Classes.{is_used_class}
use Rattle.nt_event.specs.Jobs.{is_still}
use Rattle.nt_event.specs.Lists.{value_at}
use Rattle.nt_event.specs.Numbers.{cpu}
use Rattle.nt_event.specs.Step.{is_cut}
use Rattle.nt_compose.specs.Parts.{Numbered, own_by}
use Rattle.nt_cpu.specs.States.{CpuState}
use Rattle.nt_mark.specs.declared.view.Entry.{Entry}
use Rattle.nt_mark.specs.declared.view.LaneList.{LaneList}
use Rattle.nt_mark.specs.declared.view.Look.{Look}
use Rattle.nt_mark.specs.declared.view.View.{View}
use Rattle.nt_mark.specs.Views.{reach, request_word}
use Rattle.nt_live.specs.Gathering.{AreTogether}
use Rattle.nt_live.specs.Workers.{WorkerState, all_drawn, pairs_of}

-- one worker for each processor of the script, in order
pub record AreOneEach (s : Script) (ws : List WorkerState) : Type 0 where
  pub count : length ws ≡ s.cpus
  pub order : (k : ℕ) (d : WorkerState) → k < length ws → (get_or ws k d).cpu.cpu ≡ cpu k

-- the number and event of an entry
abbrev pub pair_of_entry : Entry → ℕ × Event
pair_of_entry e = (e.number, e.event)

-- a worker that has met: its processor is there, and its list was that of its events
pub record IsMember (s : Script) (limit : ℕ) (cpus : List CpuState) (mine : CpuNo → List Numbered) (k : ℕ)
    (w : WorkerState) : Type 0 where
  pub at : w.cpu.cpu ≡ cpu k
  pub script : w.cpu.script ≡ s
  pub limit_is : w.cpu.limit ≡ limit
  pub own : w.cpu.own ≡ own_by s (cpu k) (mine (cpu k))
  pub pairs : pairs_of w.view ≡ map pair_of_entry (all_drawn s (cpu k) (mine (cpu k)))
  pub there : (d : CpuState) → get_or cpus k d ≡ w.cpu

-- these workers have met, those of the first processors in order; those of the others have not
pub record IsTeam (s : Script) (limit : ℕ) (met : List WorkerState) (cpus : List CpuState) (v : View)
    (list : List (ℕ × Event)) : Type 0 where
  pub mine : CpuNo → List Numbered
  pub together : AreTogether s limit v mine
  pub later : (p : CpuNo) → length met ≤ p.0 → mine p ≡ []
  pub members : (k : ℕ) (d : WorkerState) → k < length met → IsMember s limit cpus mine k (get_or met k d)
  pub count : length cpus ≡ length met
  pub list_is : list ≡ pairs_of v
  pub parts : v.parts ≡ length met

-- ---- what looks leave

-- a view that has and knows all that another has and knows
pub record Covers (v w : View) : Type 0 where
  pub entries : (e : Entry) → Contains v.entries e → Contains w.entries e
  pub looks : (l : Look) → Contains v.looks l → Contains w.looks l
  pub prefixes : (k : LaneList) → Contains v.prefixes k → Contains w.prefixes k
  pub least : (u : ℕ) → reach u v ≤ reach u w

-- the pass looked, and did nothing else
pub record HasLooked (v w : View) : Type 0 where
  pub parts : w.parts ≡ v.parts
  pub entries : w.entries ≡ v.entries
  pub marks : w.marks ≡ v.marks
  pub covers : Covers v w

-- the processor is cut; or it rests or spins still, and has seen all that the pass knows to be asked
abbrev pub HasNoMore : ℕ → View → CpuState → Type 0
HasNoMore limit v c = (is_cut limit c.own ≡ true) ⊎ ((is_still c.own ≡ true) ×
    ((k : ℕ) → k < 16 → is_used_class k ≡ true → reach (request_word c.cpu k) v ≤ value_at c.own.seen k))

-- each of them has
abbrev pub HaveNoMore : ℕ → View → List CpuState → Type 0
HaveNoMore limit v cpus = All (HasNoMore limit v) cpus
