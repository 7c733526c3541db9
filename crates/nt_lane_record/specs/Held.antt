-- What stands behind a lane's lock.
use Rattle.std.specs.Prelude.{All, IfSome, IsTrue, List, [], length, ℕ, ◌+◌, ◌∷◌, ◌≡◌}
use Rattle.nt_event.specs.declared.jobs.Lane.{Lane}
use Rattle.nt_event.specs.declared.numbers.CpuNo.{CpuNo}
use Rattle.nt_event.specs.declared.numbers.LockNo.{LockNo}
use Rattle.nt_event.specs.declared.scripts.Script.{Script}
use Rattle.nt_event.specs.LaneStates.{Content, LaneState, OfThreads, lane_state, threads_from}
use Rattle.nt_event.specs.Lanes.{Lanes, lane_number, lanes_at}
use Rattle.nt_event.specs.Locks.{LockState}
use Rattle.nt_event.specs.Routines.{depth_limit, part_of}
use Rattle.nt_event.specs.Script.{has_cpu, has_dpc, has_lock}
use Rattle.nt_dpc.specs.Objects.{ObjectFacts}
use Rattle.nt_dpc.specs.Queues.{QueueFacts}
use Rattle.nt_mark.specs.declared.view.Note.{Note}
use Rattle.nt_states.specs.ThreadLanes.{ThreadLanes}
use Rattle.nt_lane_record.specs.Records.{LaneRecord}

-- the threads of a processor: the states of all threads of the script, of which those of other processors tell nothing
pub record GroupState : Type 0 where
  pub threads : ThreadLanes
  pub cpu : CpuNo

-- all lanes, with the threads in these states
abbrev pub with_threads : ThreadLanes → Lanes
with_threads x = record (lanes_at x.script []) { threads = x.facts }

-- the states of the processor's own threads
abbrev pub group_content : GroupState → Content
group_content g = OfThreads (threads_from g.cpu 0 g.threads.script.threads (with_threads g.threads))

-- a spin lock: its number, who holds it, and who spins on it
pub record SpinFacts : Type 0 where
  pub lock : LockNo
  pub state : LockState

-- one more than the last number of a list, 0 where it is empty
abbrev pub next_of : List Note → ℕ
next_of [] = 0
next_of (x ∷ []) = x.number + 1
next_of (x ∷ y ∷ ys) = next_of (y ∷ ys)

-- ---- what stands there is of the script, by its kind

-- an object: its target and the queue where it stands are the script's
pub record IsObjectThere (s : Script) (o : ObjectFacts) : Type 0 where
  pub named : IsTrue (has_dpc s o.dpc)
  pub part : o.part ≡ part_of s o.dpc
  pub target : IfSome o.state.target (λ p. IsTrue (has_cpu s p))
  pub standing : IfSome o.state.standing (λ at. IsTrue (has_cpu s at.queue))

-- the queue of a processor
pub record IsQueueThere (s : Script) (q : QueueFacts) : Type 0 where
  pub named : IsTrue (has_cpu s q.cpu)
  pub count : q.count ≡ length s.dpcs
  pub limit : q.limit ≡ depth_limit s
  pub entries : All (λ x. IsTrue (has_dpc s x.dpc)) q.state.pending

-- the threads of a processor
pub record IsGroupThere (s : Script) (g : GroupState) : Type 0 where
  pub named : IsTrue (has_cpu s g.cpu)
  pub script : g.threads.script ≡ s
  pub count : length g.threads.facts ≡ length s.threads

-- a spin lock, with a flag for each processor
pub record IsSpinThere (s : Script) (x : SpinFacts) : Type 0 where
  pub named : IsTrue (has_lock s x.lock)
  pub flags : length x.state.spinners ≡ s.cpus

-- ---- the whole lane

abbrev pub first_state : LaneState → List LaneState → LaneState
first_state x [] = x
first_state x (y ∷ ys) = y

-- the state that the last note of a list shows, or the opening one
abbrev pub last_shown : LaneState → List Note → LaneState
last_shown x [] = x
last_shown x (n ∷ ns) = last_shown (first_state x n.states) ns

-- the state of a lane after this list
abbrev pub state_noted : Script → Lane → List Note → LaneState
state_noted s x notes = last_shown (lane_state s x []) notes

-- the lane has its number, and its state is the one that was noted last
pub record IsLastNoted (s : Script) (name : Lane) (content : Content) (r : LaneRecord) : Type 0 where
  pub number : r.lane ≡ lane_number s name
  pub last : state_noted s name r.notes ≡ record { content = content; told = r.told }
