use Rattle.std.proofs.Common.{get_or, length, true, ℕ, ◌<◌, ◌≡◌, ◌≤◌}
use Rattle.nt_work.specs.declared.change.Change.TheVariants.{Takes}
use Rattle.nt_work.specs.declared.change.Insert.{Insert}
use Rattle.nt_work.specs.Changes.{stays_by}
use Rattle.nt_work.proofs.waiting.take_away.Given as goal

abbrev pub invariant-loop-place : goal.invariant-loop-place
invariant-loop-place l = record {
  stay : (j : ℕ) (d : Insert) → j < l.place → stays_by (Takes l.fn.taken) (get_or l.pending.items j d) ≡ true;
  same : l.pending.items ≡ l.initial.pending.items;
  within : l.place ≤ length l.pending.items;
}
