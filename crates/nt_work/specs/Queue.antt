-- What a contract sees of a queue of work items and of its passes.
use Rattle.std.specs.Prelude.{[], ℕ, ◌+◌, ◌<◌, ◌≡◌}
use Rattle.crossbeam_queue.specs.Fifo.{Held}
use Rattle.crossbeam_queue.specs.Passes.{IsPassOf, ruled_capacity, view}
use Rattle.nt_work.specs.declared.passes.WorkPass.{WorkPass}
use Rattle.nt_work.specs.declared.passes.WorkQueue.{WorkQueue}
use Rattle.nt_work.specs.declared.view.View.{View}
use Rattle.nt_work.specs.Rule.{Told}

-- for how many items the queue has room
abbrev pub queue_room : WorkQueue → ℕ
queue_room q = ruled_capacity q.queue

-- what the pass put and took, and how many parts it holds
abbrev pub pass_view : WorkPass → View
pass_view p = view p.pass

-- it is a pass of this queue
abbrev pub IsOf : WorkQueue → WorkPass → Type 0
IsOf q p = IsPassOf q.queue p.pass

-- at one moment of the call the queue held so many items, and this is what the pass knows of that moment
abbrev pub WasAt : ℕ → View → Type 0
WasAt n v = Held n (λ items. Told v items)

-- a pass that met no other holds a part of its own and can give the others away
abbrev pub MaySplit : View → Type 0
MaySplit v = (v.met ≡ []) × (0 < v.spare) × (v.parts ≡ v.spare + 1)
