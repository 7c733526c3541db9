use Rattle.std.proofs.Common.{◌≡◌, ◌≤◌, length, vec_capacity, vec_len}
use Rattle.nt_frame.proofs.Runs.{Going}
use Rattle.nt_frame.proofs.calls.perform_all.Given as goal

abbrev pub invariant-loop-call : goal.invariant-loop-call
invariant-loop-call l = record {
  going : Going l.calls l.initial.frames l.call-index l.answers.items l.frames;
  room : length l.calls ≤ vec_capacity l.answers;
  count : vec_len l.answers ≡ l.call-index;
}
