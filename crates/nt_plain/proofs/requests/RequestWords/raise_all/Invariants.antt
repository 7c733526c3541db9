use Rattle.std.proofs.Common.{drop, length, ◌≡◌}
use Rattle.nt_states.specs.LaneLists.{as_asks}
use Rattle.nt_plain.specs.Made.{raised_words}
use Rattle.nt_plain.proofs.requests.RequestWords.raise_all.Given as goal

abbrev pub invariant-loop-ask : goal.invariant-loop-ask
invariant-loop-ask l = record {
  rest : raised_words l.to (as_asks (drop l.ask-index l.asks)) l.self ≡ raised_words l.to (as_asks l.asks) l.initial.self;
  len : length l.self ≡ length l.initial.self;
}
