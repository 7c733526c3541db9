use Rattle.nt_event.specs.contracts.commands.CommandEq.TheImpl.Laws.{laws-law}
use Rattle.nt_event.specs.contracts.commands.CommandPartialEq.TheImpl as command_eq
use Rattle.nt_history.proofs.SameParts.{command_same}
use Rattle.nt_shows.proofs.Telling.{tells_same}
use Rattle.nt_shows.proofs.watching.is_command.Goals as goal

pub returns : goal.returns
returns c =
    tells_same command_eq.ghosts.eq command_same laws-law.refl c.args.called.now c.args.command.now c.eq.result c.eq.ensures
