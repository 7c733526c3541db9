use Rattle.std.proofs.Common.{drop, length, ◌≡◌}
use Rattle.nt_states.specs.LaneLists.{as_asks}
use Rattle.nt_plain.specs.Made.{marked_all}
use Rattle.nt_plain.proofs.marks.Marks.mark_all.Given as goal

abbrev pub invariant-loop-ask : goal.invariant-loop-ask
invariant-loop-ask l = record {
  rest : marked_all l.cpus l.n (as_asks (drop l.ask-index l.asks)) l.self ≡ marked_all l.cpus l.n (as_asks l.asks) l.initial.self;
  len : length l.self ≡ length l.initial.self;
}
