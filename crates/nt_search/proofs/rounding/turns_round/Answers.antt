use Rattle.std.proofs.Common.{subst, sym}
use Rattle.std.specs.Prelude.{List}
use Rattle.nt_expect.specs.declared.expectations.Watched.{Watched}
use Rattle.nt_search.specs.States.{AreStates}
use Rattle.nt_search.proofs.rounding.turns_round.Goals as goal

pub turns_of-requires-clause-some : goal.turns_of-requires-clause-some
turns_of-requires-clause-some c = c.requires.round.2.some

pub turns_of-requires-clause-at : goal.turns_of-requires-clause-at
turns_of-requires-clause-at c =
    let s = c.args.script.now in
    let all = c.requires.round.0 in
    let round = c.requires.round.2 in (
      all,
      subst (λ (ws : List Watched). AreStates s ws all c.args.states.now) (sym c.in_ok-watch.ensures) c.requires.round.1,
      round.low 0 round.some,
    )
