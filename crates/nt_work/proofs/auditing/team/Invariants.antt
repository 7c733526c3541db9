use Rattle.std.proofs.Common.{◌≡◌, ◌≤◌, ◌+◌, [], length, vec_capacity}
use Rattle.std.specs.Prelude.{All}
use Rattle.nt_work.specs.Queue.{IsOf, pass_view}
use Rattle.nt_work.specs.Workers.{HasPut}
use Rattle.nt_work.proofs.auditing.team.Given as goal

abbrev pub invariant-loop : goal.invariant-loop
invariant-loop l = record {
  of : IsOf l.queue l.pass;
  none : (pass_view l.pass).met ≡ [];
  taken : (pass_view l.pass).hand.taken ≡ [];
  spare : (pass_view l.pass).spare + l.counter ≡ 16;
  parts : (pass_view l.pass).parts ≡ (pass_view l.pass).spare + 1;
  many : length l.team.items ≡ l.counter;
  each : All (λ w. HasPut l.queue l.counts [] w) l.team.items;
  room : l.workers ≤ vec_capacity l.team;
  within : l.counter ≤ l.workers;
}
