use Rattle.nt_live.proofs.AddedTurns.{made_again, not_refused}
use Rattle.nt_live.proofs.finishing.repeat.Goals as goal

pub unreachable-requires : goal.unreachable-requires
unreachable-requires c =
    let sound = c.requires.1 in not_refused _ _ _ _ _ _ _ c.turn.ensures sound.1 (c.in-Err.ensures.err c.requires.0 sound.0)

pub returns-clause-after : goal.returns-clause-after
returns-clause-after c past after given =
    made_again _ _ past _ _ _ _ _ _ c.turn.ensures given (c.in-Ok.ensures.ok past after)
