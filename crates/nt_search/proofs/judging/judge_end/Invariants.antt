use Rattle.std.proofs.Common.{List, length, take, ℕ, ◌≡◌}
use Rattle.std.specs.List.{flat_map}
use Rattle.nt_event.specs.declared.events.Event.{Event}
use Rattle.nt_event.specs.declared.scripts.Script.{Script}
use Rattle.nt_expect.specs.Meaning.{ShowsAtEnd}
use Rattle.nt_verdict.specs.Closed.{watched_by}
use Rattle.nt_search.specs.Machines.{Stands}
use Rattle.nt_search.proofs.Judged.{AreJudgedTo}
use Rattle.nt_search.proofs.judging.judge_end.Given as goal

abbrev pub invariant-loop-index : goal.invariant-loop-index
invariant-loop-index l = record {
  place : l.place ≡ length (flat_map watched_by (take l.index l.expectations));
  count : length l.failures.items ≡ length l.fn.failures.items;
  judged : (s : Script) (limit : ℕ) (past : List Event) → Stands s limit (flat_map watched_by l.expectations) past l.machine →
      AreJudgedTo (λ x. ShowsAtEnd s x past) l.failure l.expectations l.fn.failures.items l.failures.items l.index;
}
