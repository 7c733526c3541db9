-- What a worker puts, takes and tells, and what is gathered of all workers.
use Rattle.std.specs.Prelude.{List, OnOk, [], filter, get_or, length, map, set, ℕ, ◌%◌, ◌+◌, ◌++◌, ◌<◌, ◌==◌, ◌∷◌, ◌≡◌}
use Rattle.std.specs.Prelude.{◌≤◌, ◌⊎◌}
use Rattle.nt_work.specs.declared.item.Audited.{Audited}
use Rattle.nt_work.specs.declared.item.Item.{Item}
use Rattle.nt_work.specs.declared.passes.WorkPass.{WorkPass}
use Rattle.nt_work.specs.declared.passes.WorkQueue.{WorkQueue}
use Rattle.nt_work.specs.declared.view.Hand.{Hand}
use Rattle.nt_work.specs.declared.worker.Worker.{Worker}
use Rattle.nt_work.specs.Audits.{reported}
use Rattle.nt_work.specs.Queue.{IsOf, pass_view}
use Rattle.nt_work.specs.Rule.{EachHand, all_parts}

-- the items of the processors whose number divided by so many workers leaves this one
abbrev pub own_items : ℕ → ℕ → List Item → List Item
own_items workers k items = filter (λ x. (x.cpu.0 % workers) == k) items

-- ---- one worker

-- its pass is of this queue, and it has done each item that it took, in order
pub record IsWorkerOf (queue : WorkQueue) (counts : List ℕ) (w : Worker) : Type 0 where
  pub of : IsOf queue w.pass
  pub did : w.done.items ≡ map (reported counts) (pass_view w.pass).hand.taken

-- and it has put these items, and met nobody
pub record HasPut (queue : WorkQueue) (counts : List ℕ) (puts : List Item) (w : Worker) : Type 0 where
  pub worker : IsWorkerOf queue counts w
  pub put : (pass_view w.pass).hand.put ≡ puts
  pub met : (pass_view w.pass).met ≡ []
  pub one : (pass_view w.pass).parts ≡ 1

-- what it is after it put these items more
pub record Works (queue : WorkQueue) (counts : List ℕ) (puts : List Item) (old new : Worker) : Type 0 where
  pub worker : IsWorkerOf queue counts new
  pub put : (pass_view new.pass).hand.put ≡ (pass_view old.pass).hand.put ++ puts
  pub met : (pass_view new.pass).met ≡ (pass_view old.pass).met
  pub parts : (pass_view new.pass).parts ≡ (pass_view old.pass).parts

-- where it found memory, it has put these items
abbrev pub HasWorked : WorkQueue → List ℕ → List Item → Worker → Type 0
HasWorked queue counts puts w = OnOk w.answer (HasPut queue counts puts w)

-- each of so many workers has put its items where it found memory
abbrev pub HaveWorked : WorkQueue → List ℕ → List Item → ℕ → List Worker → Type 0
HaveWorked queue counts items workers team =
    (k : ℕ) (d : Worker) → k < length team → HasWorked queue counts (own_items workers k items) (get_or team k d)

-- ---- all workers

-- the list, with what is pending before each of these items at the number of the item's event
abbrev pub told_by : List ℕ → List Audited → List ℕ
told_by told [] = told
told_by told (x ∷ xs) = told_by (set told x.item.event x.waiting) xs

abbrev pub Has : Item → List Item → Type 0
Has x [] = ⊥
Has x (y ∷ ys) = (y ≡ x) ⊎ Has x ys

-- what was told of each of these items is what is pending before it
abbrev pub AreTold : List ℕ → List ℕ → List Item → Type 0
AreTold counts told xs = (x : Item) → Has x xs → get_or told x.event 0 ≡ get_or counts x.event 0

-- one of these passes put these items
abbrev pub SomePut : List Item → List Hand → Type 0
SomePut puts [] = ⊥
SomePut puts (h ∷ hs) = (h.put ≡ puts) ⊎ SomePut puts hs

-- a pass has met all of so many workers but the first ones, so many of them, and what these took is told
pub record HasMet (queue : WorkQueue) (counts : List ℕ) (items : List Item) (workers : ℕ) (first : ℕ)
    (told : List ℕ) (p : WorkPass) : Type 0 where
  pub of : IsOf queue p
  pub parts : (pass_view p).parts + first ≡ all_parts
  pub none : (pass_view p).hand.taken ≡ []
  pub put : (k : ℕ) → first ≤ k → k < workers → SomePut (own_items workers k items) (pass_view p).met
  pub each : EachHand (λ h. AreTold counts told h.taken) (pass_view p).met
  pub many : length told ≡ length counts
