use Rattle.std.proofs.Common.{◌≡◌, ◌≤◌, reverse, take}
use Rattle.nt_work.specs.Audits.{lent}
use Rattle.nt_work.proofs.Walks.{still}
use Rattle.nt_work.proofs.waiting.waiting_at.Given as goal

abbrev pub invariant-loop-place : goal.invariant-loop-place
invariant-loop-place l = record {
  counted : l.count ≡ still (reverse (take l.end (lent l.events))) (lent l.events) l.place;
  few : l.count ≤ l.place;
  within : l.place ≤ l.end;
}
