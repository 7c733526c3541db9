-- What contracts see of a floor in memory.
use Rattle.std.specs.Prelude.{List, None, Some, [], false, true, ℕ, ◌*◌, ◌-◌, ◌≡◌}
use Rattle.nt_event.specs.declared.jobs.Lane.{Lane}
use Rattle.nt_event.specs.declared.numbers.CpuNo.{CpuNo}
use Rattle.nt_event.specs.declared.scripts.Script.{Script}
use Rattle.nt_event.specs.Lanes.{Lanes, lanes_at}
use Rattle.nt_floor.specs.Views.{HasWord, View}
use Rattle.nt_plain.specs.Places.{is_marked, told_in, value_in}

pub record PlainState : Type 0 where
  pub script : Script
  -- how many numbers may be drawn in all, and the next one
  pub limit : ℕ
  pub next : ℕ
  -- the word of each processor and class
  pub asked : List ℕ
  -- for each event and processor, a bit for each class that the event was marked for
  pub marks : List ℕ
  pub lanes : Lanes
  -- what each lane tells of each processor and class
  pub told : List ℕ

abbrev pub view_of : PlainState → View
view_of f =
    record {
      cpus = f.script.cpus;
      alone = true;
      drawable = f.limit - f.next;
      next = f.next;
      lists = None;
      value = λ p c. value_in f.asked p c;
      marked = λ n p c. is_marked f.script.cpus f.marks n p c;
      states = Some f.lanes;
      told = λ x p c. told_in f.script f.told x p c;
    }

-- a floor on which nothing happened, which may draw so many numbers for each processor
pub record IsFresh (s : Script) (turns : ℕ) (f : PlainState) : Type 0 where
  pub script : f.script ≡ s
  pub limit : f.limit ≡ s.cpus * turns
  pub next : f.next ≡ 0
  pub lanes : f.lanes ≡ lanes_at s []
  pub value : (p : CpuNo) (c : ℕ) → HasWord (view_of f) p c → (view_of f).value p c ≡ 0
  pub marked : (n : ℕ) (p : CpuNo) (c : ℕ) → HasWord (view_of f) p c → (view_of f).marked n p c ≡ false
  pub told : (x : Lane) (p : CpuNo) (c : ℕ) → HasWord (view_of f) p c → (view_of f).told x p c ≡ 0
