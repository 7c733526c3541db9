use Rattle.std.proofs.Common.{◌≡◌, drop}
use Rattle.nt_event.specs.Jobs.{next_ready}
use Rattle.nt_event.specs.Lanes.{Lanes}
use Rattle.nt_thread_lanes.proofs.Readies.{next_from}
use Rattle.nt_thread_lanes.proofs.answering.ThreadsThreadAnswers.next_ready.Given as goal

abbrev pub invariant-loop-place : goal.invariant-loop-place
invariant-loop-place l = record {
  next : (x : Lanes) → x.threads ≡ l.self.facts → next_ready l.self.script l.p l.after x
      ≡ next_from l.p l.place (drop l.place l.self.script.threads) x l.after l.first;
}
